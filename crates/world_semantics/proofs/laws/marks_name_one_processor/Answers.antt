use Rattle.world_semantics.proofs.Reached.{run-downs, run-steady}
use Rattle.world_semantics.proofs.laws.marks_name_one_processor.Goals as goal

pub returns : goal.returns
returns c = record {
  stopped = λ site events w x y run s t. (run-steady run).one x y s t;
  downs = λ site events w one other run i j.
      (run-steady run).one one.down other.down (run-downs run one i) (run-downs run other j);
}
