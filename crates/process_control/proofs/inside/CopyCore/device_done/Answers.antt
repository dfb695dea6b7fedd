use Rattle.std.proofs.Common.{◌≡◌, sym, subst}
use Rattle.process_semantics.specs.Process.{point}
use Rattle.process_semantics.specs.declared.point.Point.TheVariants.{Device}
use Rattle.process_control.specs.Cores.{CoreAndDepths}
use Rattle.process_control.proofs.Consistent.{acting}
use Rattle.process_control.proofs.inside.CopyCore.device_done.Goals as goal

pub invariant_of-self : goal.invariant_of-self
invariant_of-self g c =
    acting (g.B.Behaviour.state c.self.inside.behaviour) (g.B.Behaviour.state c.device_done.new.self)
    c.self.inside.asker c.self.inside.receive
    c.self.invariant c.args.found.now (subst (λ (one : CoreAndDepths). point one.core.state ≡ Device)
    (sym c.self.view_is) c.requires.point) c.device_done.ensures
