use Rattle.std.proofs.Common.{List, ℕ, sym, subst}
use Rattle.checkpoint_image.specs.process_images.specs.Images.{everything_of}
use Rattle.checkpoint_image.specs.process_images.proofs.Everything.{whole-listed}
use Rattle.whole_states.specs.Listing.{MayList}
use Rattle.process_control.proofs.inside.CopyCore.carried_whole.Goals as goal

pub image-requires : goal.image-requires
image-requires g c =
    subst (λ (items : List ℕ). MayList (g.B.Behaviour.state c.self.inside.behaviour) items
    c.everything-listed.result.now.files) (sym c.everything-listed.ensures.items)
    (subst (λ (files : List ℕ). MayList (g.B.Behaviour.state c.self.inside.behaviour)
    (everything_of (g.B.Behaviour.state c.self.inside.behaviour)) files)
    (sym c.everything-listed.ensures.files)
    (whole-listed (g.B.Behaviour.state c.self.inside.behaviour)))
