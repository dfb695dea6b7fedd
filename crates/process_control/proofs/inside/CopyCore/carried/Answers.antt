use Rattle.std.proofs.Common.{List, ℕ, sym, subst}
use Rattle.process_semantics.specs.Image.{listed_items}
use Rattle.whole_states.specs.Listing.{MayList}
use Rattle.process_control.proofs.Ordered.{listed-order}
use Rattle.process_control.proofs.inside.CopyCore.carried.Goals as goal

pub image-requires : goal.image-requires
image-requires g c =
    subst (λ (items : List ℕ). MayList (g.B.Behaviour.state c.self.inside.behaviour) items
    c.listed-listed.result.now.files) (sym c.listed-listed.ensures.items)
    (subst (λ (files : List ℕ). MayList (g.B.Behaviour.state c.self.inside.behaviour)
    (listed_items (g.B.Behaviour.state c.self.inside.behaviour)) files)
    (sym c.listed-listed.ensures.files)
    (listed-order (g.B.Behaviour.state c.self.inside.behaviour) c.self.invariant.order))
