use Rattle.std.proofs.Common.{sym, subst}
use Rattle.tal_interp.specs.Sound.{IsSound}
use Rattle.tal_interp.proofs.Keeps.{few-frames, inner-sound}
use Rattle.tal_interp.proofs.process.TalProcessBehaviour.inner.Goals as goal

pub inner-requires : goal.inner-requires
inner-requires c = few-frames c.self.inside.interpreter c.self.invariant

pub invariant_of-self : goal.invariant_of-self
invariant_of-self c = subst IsSound (sym c.inner.ensures) (inner-sound c.self.inside.interpreter c.self.invariant)
