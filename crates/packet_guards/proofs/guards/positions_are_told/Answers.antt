use Rattle.packet_guards.proofs.Buses.{positions-are-told-count, positions-are-told-count-y, positions-are-told-kind}
use Rattle.packet_guards.proofs.Buses.{positions-are-told-kind-y, positions-are-told-sender, positions-are-told-past}
use Rattle.packet_guards.proofs.guards.positions_are_told.Goals as goal

pub returns : goal.returns
returns c = record {
  count = positions-are-told-count;
  count_y = positions-are-told-count-y;
  kind = positions-are-told-kind;
  kind_y =
      positions-are-told-kind-y;
  sender = positions-are-told-sender;
  past = positions-are-told-past;
}
