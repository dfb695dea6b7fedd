use Rattle.event_parts.proofs.Watches.{ticked-once}
use Rattle.event_parts.proofs.laws.a_tick_is_one_of_its_watch.Goals as goal

pub returns : goal.returns
returns c = λ processors x midst. ticked-once x processors midst
