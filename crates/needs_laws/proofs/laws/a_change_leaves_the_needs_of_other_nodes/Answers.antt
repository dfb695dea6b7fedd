use Rattle.needs_laws.proofs.Elsewhere.{enter-elsewhere, handed-elsewhere, marked-elsewhere, run-elsewhere}
use Rattle.needs_laws.proofs.Elsewhere.{reloaded-elsewhere, stopped-elsewhere}
use Rattle.needs_laws.proofs.laws.a_change_leaves_the_needs_of_other_nodes.Goals as goal

pub returns : goal.returns
returns c = record {
  run = run-elsewhere;
  entered = enter-elsewhere;
  handed = handed-elsewhere;
  marked = marked-elsewhere;
  stopped = stopped-elsewhere;
  reloaded = reloaded-elsewhere;
}
