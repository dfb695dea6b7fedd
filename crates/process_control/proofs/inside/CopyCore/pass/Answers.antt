use Rattle.std.proofs.Common.{◌≡◌, sym, subst}
use Rattle.process_semantics.specs.Process.{point}
use Rattle.process_semantics.specs.declared.point.Point.TheVariants.{AtCheckpoint}
use Rattle.process_control.specs.Cores.{CoreAndDepths}
use Rattle.process_control.proofs.Consistent.{passing}
use Rattle.process_control.proofs.inside.CopyCore.pass.Goals as goal

pub invariant_of-self : goal.invariant_of-self
invariant_of-self g c =
    passing (g.B.Behaviour.state c.self.inside.behaviour) (g.B.Behaviour.state c.checkpointed.new.self)
    c.self.inside.asker
    c.self.inside.receive c.self.invariant
    (subst (λ (one : CoreAndDepths). point one.core.state ≡ AtCheckpoint) (sym c.self.view_is) c.requires)
    c.checkpointed.ensures
