use Rattle.std.proofs.Common.{◌≡◌, ◌<◌, ℕ, sym, subst, arith}
use Rattle.process_semantics.specs.Process.{point}
use Rattle.process_semantics.specs.declared.point.Point.TheVariants.{Take}
use Rattle.checkpoint_image.specs.Receive.{request_standing}
use Rattle.checkpoint_image.specs.declared.receive.RequestStanding.TheVariants.{Next}
use Rattle.process_control.specs.Cores.{CoreAndDepths}
use Rattle.process_control.proofs.Consistent.{taking}
use Rattle.process_control.proofs.Numbers.{next-there}
use Rattle.process_control.proofs.Tables.{as-many}
use Rattle.process_control.proofs.inside.CopyCore.take.Goals as goal

pub take-requires-clause-there : goal.take-requires-clause-there
take-requires-clause-there g c =
    let next = subst (λ (one : CoreAndDepths). request_standing one.core.receive c.args.request.now ≡ Next)
    (sym c.self.view_is) c.requires.next in
    subst (λ (n : ℕ). c.args.request.now.opener < n) (as-many c.self.inside.receive c.self.invariant.table)
    (next-there c.self.inside.receive.table c.args.request.now.opener c.args.request.now.number next).0

pub take-requires-clause-room : goal.take-requires-clause-room
take-requires-clause-room g c =
    let next = subst (λ (one : CoreAndDepths). request_standing one.core.receive c.args.request.now ≡ Next)
    (sym c.self.view_is) c.requires.next in
    let last = (next-there c.self.inside.receive.table c.args.request.now.opener c.args.request.now.number next).1 in
    let low = c.if-prove.false in omega (arith, last, low)

pub invariant_of-self : goal.invariant_of-self
invariant_of-self g c =
    taking (g.B.Behaviour.state c.self.inside.behaviour) (g.B.Behaviour.state c.took.new.self) c.self.inside.asker
    c.self.inside.receive c.self.invariant
    c.args.request.now.words c.take.new.self c.args.request.now.opener
    (subst (λ (one : CoreAndDepths). point one.core.state ≡ Take) (sym c.self.view_is) c.requires.point) c.took.ensures
    c.take.ensures.held c.take.ensures.sound
