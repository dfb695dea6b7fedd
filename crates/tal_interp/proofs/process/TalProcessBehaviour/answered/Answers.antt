use Rattle.std.proofs.Common.{◌≡◌, sym, subst}
use Rattle.process_semantics.specs.Points.{point_of}
use Rattle.process_semantics.specs.State.{Execution}
use Rattle.process_semantics.specs.declared.point.Point.TheVariants.{Answer}
use Rattle.tal_interp.specs.Sound.{IsSound}
use Rattle.tal_interp.proofs.Keeps.{answered-sound}
use Rattle.tal_interp.proofs.process.TalProcessBehaviour.answered.Goals as goal

pub invariant_of-self : goal.invariant_of-self
invariant_of-self c =
    let at = subst (λ (e : Execution). point_of e.program e.state ≡ Answer) (sym c.self.view_is) c.requires in
    subst IsSound (sym c.answered.ensures.state) (answered-sound c.self.inside.interpreter c.self.invariant at)
