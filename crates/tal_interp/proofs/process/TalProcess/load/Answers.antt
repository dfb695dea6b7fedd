use Rattle.std.proofs.Common.{sym, subst}
use Rattle.tal_interp.specs.Sound.{IsSound}
use Rattle.tal_interp.proofs.Keeps.{start-sound}
use Rattle.tal_interp.proofs.process.TalProcess.load.Goals as goal

pub invariant_of-result : goal.invariant_of-result
invariant_of-result c = subst IsSound (sym c.in_ok-interpreter.ensures) (start-sound c.args.program.now c.requires)
