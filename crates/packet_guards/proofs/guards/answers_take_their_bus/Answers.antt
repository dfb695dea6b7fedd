use Rattle.packet_guards.proofs.Buses.{answers-take-their-bus-acknowledgement, answers-take-their-bus-next}
use Rattle.packet_guards.proofs.guards.answers_take_their_bus.Goals as goal

pub returns : goal.returns
returns c = record { acknowledgement = answers-take-their-bus-acknowledgement; next = answers-take-their-bus-next }
