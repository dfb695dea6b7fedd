-- A process at its beginning, and the receive table of a copy at its start.
use Rattle.std.proofs.Common.{◌≡◌, ℕ, false, List, [], ◌∷◌, length, map, refl, ap, ap₂, ◌∙◌}
use Rattle.std.specs.Prelude.{replicate, None}
use Rattle.tal_tree.specs.declared.site.OpenerSpec.{OpenerSpec}
use Rattle.tal_tree.specs.declared.site.Kind.{Kind}
use Rattle.tal_tree.specs.declared.site.Kind.TheVariants as kind
use Rattle.process_semantics.specs.Process.{ProcessState, in_hand, start_of}
use Rattle.whole_states.specs.Listing.{files_of}
use Rattle.computed_changes.specs.plain_semantics.specs.Openers as openers
use Rattle.checkpoint_image.specs.declared.receive.OpenerBlock.{OpenerBlock}
use Rattle.computed_changes.specs.sync_ids.specs.Tables.{Remembered, nothing_taken, untaken}
use Rattle.computed_changes.specs.world_semantics.specs.Core.{core_at_start}
use Rattle.process_control.specs.Cores.{CoreAndDepths, with_depths}

pub start-free : (what : Kind) → in_hand (start_of what) ≡ false
start-free (kind.Disc sectors mirrored) = refl
start-free (kind.Pair program) = refl

pub start-files : (what : Kind) → length (openers.files_of what) ≡ files_of (start_of what)
start-files (kind.Disc sectors mirrored) = refl
start-files (kind.Pair program) = refl

-- an opener from which nothing was taken has the same block at any depth
blocks : (openers : List OpenerSpec) → map (λ depth. untaken) (map (λ (opener : OpenerSpec). opener.depth) openers)
    ≡ map (λ opener. untaken) openers
blocks [] = refl
blocks (opener ∷ openers) = ap (λ (rest : List OpenerBlock). untaken ∷ rest) (blocks openers)

abbrev of_parts : ProcessState → List ℕ → Remembered → CoreAndDepths
of_parts state next remembered = record {
  core = record { state = state; next = next; receive = remembered.table };
  depths = remembered.depths;
}

pub starts : (state : ProcessState) (files : ℕ) (openers : List OpenerSpec) (next : List ℕ) (remembered : Remembered)
    → next ≡ replicate files 1 → remembered ≡ nothing_taken (map (λ (opener : OpenerSpec). opener.depth) openers)
    → of_parts state next remembered ≡ with_depths openers (core_at_start state files openers)
starts state files openers next remembered ones nothing =
    ap₂ (of_parts state) ones nothing
    ∙ ap (λ (all : List OpenerBlock). with_depths openers
    (record { state = state; next = replicate files 1; receive = record { openers = all; in_hand = None } }))
    (blocks openers)
