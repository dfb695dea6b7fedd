use Rattle.machine_guards.proofs.Closings.{closes-all}
use Rattle.machine_guards.proofs.closing.what_was_held_is_kept_at_the_end.Goals as goal

pub returns : goal.returns
returns c = λ w. closes-all w.kept w.processes
