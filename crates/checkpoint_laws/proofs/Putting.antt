-- What a checkpoint carries is put in whole.
use Rattle.std.proofs.Common.{◌≡◌, Bool, List, ℕ, Some, ap, sym, ◌∙◌}
use Rattle.std.specs.Option.{option_map}
use Rattle.world_semantics.specs.process_semantics.specs.declared.point.Point.TheVariants.{AtCheckpoint, Await}
use Rattle.world_semantics.specs.process_semantics.specs.Image.{image_of, listed_items, listed_files, state_from_words}
use Rattle.world_semantics.specs.process_semantics.specs.Image.{state_in_image}
use Rattle.world_semantics.specs.process_semantics.specs.Process.{ProcessState, point, after_checkpoint}
use Rattle.world_semantics.specs.whole_states.specs.Processes.{IsWholeProcess}
use Rattle.world_semantics.specs.Core.{Core, after_passing, carried_image, put_in, with_files, carried_whole}
use Rattle.world_semantics.specs.Core.{imaged_core}
use Rattle.world_semantics.specs.process_images.proofs.Processes.{checkpointed-restores, restores}
use Rattle.world_semantics.specs.process_images.proofs.Everything.{everything-agrees, whole-listed}
use Rattle.world_semantics.specs.process_images.specs.Images.{all_files_of, everything_of}
use Rattle.checkpoint_laws.specs.Behind.{IsBehind, AgreesInHand, IsOfSame}
use Rattle.checkpoint_laws.proofs.Files.{files-restored}

pub put-whole : (core stale : Core) → IsWholeProcess core.state → IsWholeProcess stale.state
    → point core.state ≡ AtCheckpoint → AgreesInHand core → IsBehind stale core
    → put_in stale (carried_image core) ≡ Some (after_passing core)
put-whole core stale is old at hand behind =
    ap (λ (h : Bool). option_map filled (state_from_words stale.state h
    (image_of (listed_items core.state) core.state)))
    (sym hand)
    ∙ ap (option_map filled) (checkpointed-restores core.state stale.state is old at behind.state)
    ∙ ap (λ (next : List ℕ). Some (record { state = after_checkpoint core.state; next = next; receive = core.receive }))
    (files-restored (listed_files core.state) core stale.next behind.files behind.next)
  where
    filled : ProcessState → Core
    filled state =
        record { state = state; next = with_files (carried_image core).files stale.next; receive = core.receive }

-- everything, put into any core of the process, gives the core that it is of
pub put-everything : (core stale : Core) → IsWholeProcess core.state → IsWholeProcess stale.state
    → (point core.state ≡ Await → ⊥) → AgreesInHand core → IsOfSame stale core
    → put_in stale (carried_whole core) ≡ Some (imaged_core core)
put-everything core stale is old away hand same =
    ap (λ (h : Bool). option_map filled (state_from_words stale.state h
    (image_of (everything_of core.state) core.state)))
    (sym hand)
    ∙ ap (option_map filled) (restores core.state stale.state (everything_of core.state) (all_files_of core.state) is
    old (whole-listed core.state) away (everything-agrees stale.state core.state same.state))
    ∙ ap (λ (next : List ℕ). Some (record { state = state_in_image core.state; next = next; receive = core.receive }))
    (files-restored (all_files_of core.state) core stale.next same.files same.next)
  where
    filled : ProcessState → Core
    filled state =
        record { state = state; next = with_files (carried_whole core).files stale.next; receive = core.receive }
