use Rattle.std.proofs.Common.{ℕ, List, sym, subst}
use Rattle.process_images.proofs.Everything.{whole-listed}
use Rattle.process_images.specs.Images.{everything_of}
use Rattle.site_machine.specs.processes.specs.Seen.{state_of}
use Rattle.process_images.specs.whole_states.specs.Listing.{MayList}
use Rattle.machine_views.proofs.process.image_of_everything.Goals as goal

pub image-requires : goal.image-requires
image-requires c =
    let state = state_of c.args.process.now in
    subst (λ (items : List ℕ). MayList state items c.everything.result.now.files) (sym c.everything.ensures.items)
    (subst (λ (files : List ℕ). MayList state (everything_of state) files) (sym c.everything.ensures.files)
    (whole-listed state))
