-- An event of a drive: what the process that it names answers, and is then, is what the world does.
use Rattle.std.proofs.Common.{◌≡◌, ℕ, List, slice_get, slice_set, Option, Some, ap, ap₂, sym}
use Rattle.std.proofs.Common.{subst, ◌∙◌}
use Rattle.std.specs.Option.{option_map}
use Rattle.std.proofs.lemmas.Option.{slice_get-map}
use Rattle.process_copies.specs.disc_device.specs.mirror.specs.declared.state.DriveState.{DriveState}
use Rattle.process_copies.specs.machine_states.specs.Drives.{Turned, Turns, Rests, Loses}
use Rattle.process_copies.specs.machine_states.specs.declared.effect.Effect.{Effect}
use Rattle.process_copies.specs.machine_states.specs.declared.effect.Effect.TheVariants as effect
use Rattle.process_copies.specs.Seen.{Placed}
use Rattle.process_copies.specs.Turning.{TurnsPlaced, placed_standing}
use Rattle.world_semantics.specs.World.{Pair}
use Rattle.world_copies.specs.Seen.{drives_in, pairs_in}
use Rattle.world_copies.specs.SiteWorld.{SettlesTurn, SiteWorld}
use Rattle.world_copies.proofs.Places.{drives-set, pair-at, pairs-set, set-same}
use Rattle.world_copies.proofs.Steps.{IsFound}

-- how the drives of the process at a place stand
drives-at : (places : List Placed) (k : ℕ)
    → slice_get (drives_in places) k ≡ option_map (λ (placed : Placed). placed.drives) (slice_get places k)
drives-at places k = slice_get-map (λ (placed : Placed). placed.drives) places k

-- a state with these pairs, and the drives of its processes standing so
abbrev standing_as : SiteWorld → List Pair → List (List DriveState) → SiteWorld
standing_as s processes drives = record s { world = record s.world { processes = processes }; drives = drives }

-- a state with a process put into a place
abbrev pub put_in : SiteWorld → List Placed → ℕ → Placed → SiteWorld
put_in s places k after = standing_as s (pairs_in (slice_set places k after)) (drives_in (slice_set places k after))

put-same : (s : SiteWorld) (places : List Placed) (k : ℕ) (before : Placed) → IsFound s places k before
    → put_in s places k before ≡ s
put-same s places k before found =
    ap₂ (standing_as s) (ap pairs_in (set-same places k before found.there) ∙ sym found.pairs)
    (ap drives_in (set-same places k before found.there) ∙ sym found.drives)

put-standing : (s : SiteWorld) (places : List Placed) (k : ℕ) (before : Placed) (states : List DriveState)
    → IsFound s places k before
    → put_in s places k (placed_standing states before) ≡ record s { drives = slice_set s.drives k states }
put-standing s places k before states found =
    ap₂ (standing_as s)
    (pairs-set places k (placed_standing states before)
    ∙ set-same (pairs_in places) k before.pair
    (pair-at places k ∙ ap (option_map (λ (placed : Placed). placed.pair)) found.there) ∙ sym found.pairs)
    (drives-set places k (placed_standing states before) ∙ ap (λ all. slice_set all k states) (sym found.drives))

settles : (turn : Turned) (s : SiteWorld) (places : List Placed) (k : ℕ) (before after : Placed) (answer : Effect)
    → IsFound s places k before → TurnsPlaced turn before answer after
    → SettlesTurn turn k s answer (put_in s places k after)
settles (Turns states) s places k before after answer found turns =
    (turns.0, ap (put_in s places k) turns.1 ∙ put-standing s places k before states found)
settles Rests s places k before after answer found turns =
    (turns.0, ap (put_in s places k) turns.1 ∙ put-same s places k before found)
settles Loses s places k before after answer found turns =
    (turns.0 ∙ ap effect.WouldLoseDisc found.number, ap (put_in s places k) turns.1 ∙ put-same s places k before found)

-- what an event makes of the drives of the process that it names, where that one is found
module _ (turned_at : Option Pair → Option (List DriveState) → Turned) where
  turned-found : (s : SiteWorld) (places : List Placed) (k : ℕ) (before : Placed) → IsFound s places k before
      → turned_at (slice_get s.world.processes k) (slice_get s.drives k)
      ≡ turned_at (Some before.pair) (Some before.drives)
  turned-found s places k before found =
      ap₂ turned_at
      (ap (λ (pairs : List Pair). slice_get pairs k) found.pairs ∙ pair-at places k
      ∙ ap (option_map (λ (placed : Placed). placed.pair)) found.there)
      (ap (λ (drives : List (List DriveState)). slice_get drives k) found.drives ∙ drives-at places k
      ∙ ap (option_map (λ (placed : Placed). placed.drives)) found.there)

  pub turns-found : (s now : SiteWorld) (places : List Placed) (k number : ℕ) (before after : Placed) (answer : Effect)
      → s ≡ now → k ≡ number → IsFound s places k before
      → TurnsPlaced (turned_at (Some before.pair) (Some before.drives)) before answer after
      → SettlesTurn (turned_at (slice_get now.world.processes number) (slice_get now.drives number)) number now answer
      (put_in s places k after)
  turns-found s now places k number before after answer same at found turns =
      subst (λ (now : SiteWorld). SettlesTurn (turned_at (slice_get now.world.processes number)
      (slice_get now.drives number)) number now answer (put_in s places k after)) same
      (subst (λ (n : ℕ). SettlesTurn (turned_at (slice_get s.world.processes n) (slice_get s.drives n)) n s answer
      (put_in s places k after)) at
      (subst (λ (turn : Turned). SettlesTurn turn k s answer (put_in s places k after))
      (sym (turned-found s places k before found))
      (settles (turned_at (Some before.pair) (Some before.drives)) s places k before after answer found turns)))
