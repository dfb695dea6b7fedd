use Rattle.event_parts.proofs.Events.{delivers, reloads, repeats, ticks}
use Rattle.event_parts.proofs.laws.events_of_packets_are_parts.Goals as goal

pub returns : goal.returns
returns c = record { delivers = delivers; repeats = repeats; ticks = ticks; reloads = reloads }
