use Rattle.process_control.proofs.Consistent.{going}
use Rattle.process_control.proofs.inside.CopyCore.inner.Goals as goal

pub invariant_of-self : goal.invariant_of-self
invariant_of-self g c =
    going (g.B.Behaviour.state c.self.inside.behaviour) (g.B.Behaviour.state c.inner.new.self) c.self.inside.asker
    c.self.inside.receive c.self.invariant
    c.inner.ensures
