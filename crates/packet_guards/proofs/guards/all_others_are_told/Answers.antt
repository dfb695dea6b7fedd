use Rattle.packet_guards.proofs.Lines.{all-others-are-told-downs, all-others-are-told-buses}
use Rattle.packet_guards.proofs.Lines.{all-others-are-told-terminals}
use Rattle.packet_guards.proofs.guards.all_others_are_told.Goals as goal

pub returns : goal.returns
returns c = record {
  downs = all-others-are-told-downs;
  buses = all-others-are-told-buses;
  terminals = all-others-are-told-terminals;
}
