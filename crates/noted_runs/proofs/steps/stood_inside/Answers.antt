use Rattle.std.proofs.Common.{ℕ, List, [], subst, sym}
use Rattle.machine_views.specs.processes.specs.Seen.{state_of}
use Rattle.world_semantics.specs.whole_states.specs.Listing.{MayList}
use Rattle.noted_runs.proofs.Nothing.{nothing_listed}
use Rattle.noted_runs.proofs.steps.stood_inside.Goals as goal

pub image-requires : goal.image-requires
image-requires c =
    let state = state_of c.args.process.now in
    subst (λ (files : List ℕ). MayList state c.new.result files) (sym c.new-2.ensures)
    (subst (λ (items : List ℕ). MayList state items []) (sym c.new.ensures) (nothing_listed state))
