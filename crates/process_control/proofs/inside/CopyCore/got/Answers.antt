use Rattle.std.proofs.Common.{◌≡◌, sym, subst}
use Rattle.process_semantics.specs.Process.{point}
use Rattle.process_semantics.specs.declared.point.Point.TheVariants.{Await}
use Rattle.process_control.specs.Cores.{CoreAndDepths}
use Rattle.process_control.proofs.Consistent.{getting}
use Rattle.process_control.proofs.inside.CopyCore.got.Goals as goal

pub invariant_of-self : goal.invariant_of-self
invariant_of-self g c =
    getting (g.B.Behaviour.state c.self.inside.behaviour) (g.B.Behaviour.state c.got.new.self) c.self.inside.asker
    c.self.inside.receive c.self.invariant
    c.args.words.now (subst (λ (one : CoreAndDepths). point one.core.state ≡ Await) (sym c.self.view_is) c.requires)
    c.got.ensures
