use Rattle.packet_guards.proofs.Buses.{events-name-positions-deliver, events-name-positions-lose}
use Rattle.packet_guards.proofs.Buses.{events-name-positions-repeat, events-name-positions-other-bus}
use Rattle.packet_guards.proofs.Buses.{events-name-positions-past, events-name-positions-past-lose}
use Rattle.packet_guards.proofs.Buses.{events-name-positions-past-repeat}
use Rattle.packet_guards.proofs.guards.events_name_positions.Goals as goal

pub returns : goal.returns
returns c = record {
  deliver = events-name-positions-deliver;
  lose = events-name-positions-lose;
  repeat = events-name-positions-repeat;
  other_bus = events-name-positions-other-bus;
  past =
      events-name-positions-past;
  past_lose =
      events-name-positions-past-lose;
  past_repeat = events-name-positions-past-repeat;
}
