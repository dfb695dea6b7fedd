use Rattle.std.proofs.Common.{◌≡◌, ◌<◌, ℕ, sym, subst}
use Rattle.process_semantics.specs.Process.{point}
use Rattle.process_semantics.specs.declared.point.Point.TheVariants.{Ask}
use Rattle.process_control.proofs.Ordered.{asked-order-there}
use Rattle.whole_states.specs.Listing.{files_of}
use Rattle.process_control.specs.Cores.{CoreAndDepths}
use Rattle.process_control.proofs.inside.CopyCore.ask.Goals as goal

pub set-requires : goal.set-requires
set-requires g c =
    subst (λ (n : ℕ). c.asked-asked.result.file < n) (sym c.self.invariant.files)
    (subst (λ (n : ℕ). n < files_of (g.B.Behaviour.state c.self.inside.behaviour)) (sym c.asked-asked.ensures.file)
    (asked-order-there (g.B.Behaviour.state c.self.inside.behaviour) c.self.invariant.order
    (subst (λ (one : CoreAndDepths). point one.core.state ≡ Ask) (sym c.self.view_is) c.requires.point)))
