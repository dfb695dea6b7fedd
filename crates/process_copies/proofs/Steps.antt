-- The steps of a process, by what its copies do.
use Rattle.std.proofs.Common.{◌≡◌, ◌≢◌, ℕ, Bool, false, not, List, Option, Some, None, refl, ap, ap₂, sym, subst}
use Rattle.tal_tree.specs.declared.site.Site.{Site}
use Rattle.process_semantics.specs.declared.point.Point.{Point}
use Rattle.process_semantics.specs.declared.point.Point.TheVariants as point
use Rattle.disc_device.specs.Sectors.{Stored}
use Rattle.disc_device.specs.mirror.specs.declared.state.DriveState.{DriveState}
use Rattle.world_semantics.specs.declared.which.Which.{Which}
use Rattle.world_semantics.specs.declared.which.Which.TheVariants.{First, Second}
use Rattle.world_semantics.specs.Messages.{Sending}
use Rattle.world_semantics.specs.World.{Down, Pair, copy_of, has_marked, other_of}
use Rattle.node_copies.specs.Acting.{HasActed, Scene, own_in}
use Rattle.world_semantics.specs.Records.{Records}
use Rattle.node_copies.specs.Seen.{CopyAndDepths, step_sendings}
use Rattle.node_copies.specs.declared.step.StepOutcome.{StepOutcome}
use Rattle.node_copies.specs.declared.step.StepOutcome.TheVariants.{Impossible}
use Rattle.process_copies.specs.Acting.{HasStepped, step_by_act}
use Rattle.process_copies.specs.Lending.{one_of, with_one}
use Rattle.process_copies.specs.Seen.{Placed, sent_by}
use Rattle.process_copies.specs.declared.two.TwoCopies.{TwoCopies}
use Rattle.world_semantics.specs.Running.{Own, Stepped, first_step, free_step, own_of, renewing_step, sending_step}
use Rattle.world_semantics.specs.Running.{step_at, step_if}

-- One copy, else the other one

none-made : (made : Option Stepped) → None ≡ sent_by made → made ≡ None
none-made None e = refl
none-made (Some step) e = absurd (cc)

pub neither-first : (one : Option Stepped) (before between : Placed) (records mid : Records)
    → HasStepped one Impossible before between records mid
    → (one ≡ None) × ((between ≡ before) × (mid ≡ records))
neither-first None before between records mid h = (refl, h.1)
neither-first (Some step) before between records mid h = let told = h.0 in absurd (cc)

pub second-steps : (one : Option Stepped) (other : Placed → Records → Option Stepped) (step : StepOutcome)
    (before between after : Placed) (records mid now : Records)
    → HasStepped one Impossible before between records mid → HasStepped (other between mid) step between after mid now
    → HasStepped (first_step one (other before records)) step before after records now
second-steps one other step before between after records mid now first second =
    let same = neither-first one before between records mid first in
    let rest = same.1 in
    subst (λ (made : Option Stepped). HasStepped (first_step made (other before records)) step before after records
    now) (sym same.0)
    (subst (λ (p : Placed). HasStepped (other p records) step p after records now) rest.0
    (subst (λ (r : Records). HasStepped (other between r) step between after r now) rest.1 second))

pub first-steps : (one other : Option Stepped) (step : StepOutcome) (sent : List Sending) (before after : Placed)
    (records now : Records) → step_sendings step ≡ Some sent
    → HasStepped one step before after records now → HasStepped (first_step one other) step before after records now
first-steps None other step sent before after records now told h = let none = h.0 in absurd (cc)
first-steps (Some made) other step sent before after records now told h = h

-- Points

pub at-other : (site : Site) (number : ℕ) (k : Which) (pair : Pair) (downs : List Down) (records : Records)
    (stands : Point) → stands ≢ point.AtCheckpoint
    → step_at site number k pair downs records stands
    ≡ free_step site number k pair downs records stands (copy_of k pair).sent (copy_of k pair).renewal
at-other site number k pair downs records point.AtCheckpoint other = absurd (other refl)
at-other site number k pair downs records point.Inner other = refl
at-other site number k pair downs records point.Take other = refl
at-other site number k pair downs records point.Ask other = refl
at-other site number k pair downs records point.Await other = refl
at-other site number k pair downs records point.Answer other = refl
at-other site number k pair downs records point.Device other = refl
at-other site number k pair downs records point.Ended other = refl

-- whether a copy's node hasn't marked the other copy's processor
abbrev pub is_heard : Which → Pair → List Down → Bool
is_heard k pair downs =
    not (has_marked downs (copy_of k pair).processor (copy_of (other_of k) pair).processor)

pub renews-other : (number : ℕ) (k : Which) (pair : Pair) (downs : List Down) (records : Records) (stands : Point)
    → stands ≢ point.Await
    → renewing_step number k pair downs records stands
    ≡ step_if (is_heard k pair downs) (sending_step number k pair records)
renews-other number k pair downs records point.Await other = absurd (other refl)
renews-other number k pair downs records point.AtCheckpoint other = refl
renews-other number k pair downs records point.Inner other = refl
renews-other number k pair downs records point.Take other = refl
renews-other number k pair downs records point.Ask other = refl
renews-other number k pair downs records point.Answer other = refl
renews-other number k pair downs records point.Device other = refl
renews-other number k pair downs records point.Ended other = refl

-- Acts

-- a process with these copies
abbrev pub placed_of : Placed → TwoCopies → Placed
placed_of process copies =
    record process { pair = record process.pair { first = copies.first.copy; second = copies.second.copy } }

-- and with this of its device
abbrev pub with-device : Placed → List Stored → List DriveState → Placed
with-device process sectors drives =
    record process { pair = record process.pair { sectors = sectors }; drives = drives }

pub copy-of : (k : Which) (process : Placed) (copies : TwoCopies)
    → (one_of k copies).copy ≡ copy_of k (placed_of process copies).pair
copy-of First process copies = refl
copy-of Second process copies = refl

pub depths-of : (k : Which) (copies : TwoCopies) (depths : List ℕ) → copies.first.depths ≡ depths
    → copies.second.depths ≡ depths → (one_of k copies).depths ≡ depths
depths-of First copies depths one other = one
depths-of Second copies depths one other = other

module _ (process : Placed) (copies : TwoCopies) (records : Records) where
  abbrev before : Placed
  before = placed_of process copies

  abbrev scene : CopyAndDepths → Scene
  scene one = record { one = one; sectors = process.pair.sectors; records = records }

  by-own : (k : Which) (own : Option Own) (step : StepOutcome) (after : Scene)
      → HasActed process.number own step (scene (one_of k copies)) after
      → HasStepped (step_by_act process.number k before.pair records own) step before
      (with-device (placed_of process (with_one k copies after.one)) after.sectors process.drives) records after.records
  by-own First None step after h = (
    h.0,
    (
      ap (λ (s : Scene). with-device (placed_of process (with_one First copies s.one)) s.sectors process.drives) h.1,
      ap (λ (s : Scene). s.records) h.1,
    ),
  )
  by-own Second None step after h = (
    h.0,
    (
      ap (λ (s : Scene). with-device (placed_of process (with_one Second copies s.one)) s.sectors process.drives) h.1,
      ap (λ (s : Scene). s.records) h.1,
    ),
  )
  by-own First (Some own) step after h = (
    h.0,
    (
      ap₂ (λ (one : CopyAndDepths) (sectors : List Stored). with-device
          (placed_of process (with_one First copies one)) sectors process.drives) h.1.0 h.1.1.0,
      h.1.1.1,
    ),
  )
  by-own Second (Some own) step after h = (
    h.0,
    (
      ap₂ (λ (one : CopyAndDepths) (sectors : List Stored). with-device
          (placed_of process (with_one Second copies one)) sectors process.drives) h.1.0 h.1.1.0,
      h.1.1.1,
    ),
  )

  -- an act of one of its copies is the step of the process
  pub copy-acts : (k : Which) (stands : Point) (step : StepOutcome) (after : Scene)
      → HasActed process.number (own_in process.site process.number (scene (one_of k copies)) stands) step
      (scene (one_of k copies)) after
      → HasStepped (step_by_act process.number k before.pair records
      (own_of process.site process.number k before.pair records stands)) step before
      (with-device (placed_of process (with_one k copies after.one)) after.sectors process.drives) records after.records
  copy-acts First stands step after h =
      by-own First (own_of process.site process.number First before.pair records stands) step after h
  copy-acts Second stands step after h =
      by-own Second (own_of process.site process.number Second before.pair records stands) step after h
