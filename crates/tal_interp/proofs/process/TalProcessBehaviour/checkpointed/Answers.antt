use Rattle.std.proofs.Common.{◌≡◌, sym, subst}
use Rattle.process_semantics.specs.Points.{point_of}
use Rattle.process_semantics.specs.State.{Execution}
use Rattle.process_semantics.specs.declared.point.Point.TheVariants.{AtCheckpoint}
use Rattle.tal_interp.specs.Sound.{IsSound}
use Rattle.tal_interp.proofs.Keeps.{checkpointed-sound}
use Rattle.tal_interp.proofs.process.TalProcessBehaviour.checkpointed.Goals as goal

pub invariant_of-self : goal.invariant_of-self
invariant_of-self c =
    let at = subst (λ (e : Execution). point_of e.program e.state ≡ AtCheckpoint) (sym c.self.view_is) c.requires in
    subst IsSound (sym c.checkpointed.ensures) (checkpointed-sound c.self.inside.interpreter c.self.invariant at)
