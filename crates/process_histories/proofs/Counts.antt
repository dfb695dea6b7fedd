-- How many requests and replies a process asked, got, took and answered, and what its core says of that.
use Rattle.std.proofs.Common.{◌≡◌, ◌≢◌, ◌==◌, ◌&&◌, ℕ, ◌+◌, ℤ, Bool, true, false, if◌then◌else◌, List, [], ◌∷◌, length}
use Rattle.std.proofs.Common.{Option, Some, None, is_some, slice_get, ◌++◌, refl, ap, sym, ◌∙◌, inl, inr, arith, eq-eqb}
use Rattle.std.proofs.Common.{filter_map}
use Rattle.std.proofs.lemmas.Bool.Decides.{eqb_tells}
use Rattle.tal_tree.specs.declared.site.OpenerSpec.{OpenerSpec}
use Rattle.tal_tree.specs.declared.site.ProcessSpec.{ProcessSpec}
use Rattle.tal_tree.specs.declared.site.Site.{Site}
use Rattle.world_semantics.specs.process_semantics.specs.declared.point.Point.{Point}
use Rattle.world_semantics.specs.process_semantics.specs.declared.point.Point.TheVariants as point
use Rattle.world_semantics.specs.process_semantics.specs.Process as process
use Rattle.world_semantics.specs.process_semantics.specs.Process.{ProcessState}
use Rattle.world_semantics.specs.plain_semantics.specs.Openers.{files_of, openers_of}
use Rattle.world_semantics.specs.whole_states.specs.Processes.{IsRegularKind}
use Rattle.world_semantics.specs.checkpoint_image.specs.declared.receive.OpenerBlock.{OpenerBlock}
use Rattle.world_semantics.specs.checkpoint_image.specs.Receive.{is_place, last_ones}
use Rattle.world_semantics.specs.Core.{Core, Deed, Took, Asked, Got, Answered, goes, checkpoints, takes, asks, gets}
use Rattle.world_semantics.specs.Core.{answers}
use Rattle.world_semantics.specs.Core.{acts, next_on}
use Rattle.world_semantics.proofs.Hands.{Stands, start-free, start-hand, take-hand, took-stands, inner-stands}
use Rattle.world_semantics.proofs.Hands.{asked-stands, got-stands, answered-stands, checkpoint-stands, device-stands}
use Rattle.world_semantics.proofs.Lists.{mapped, repeated}
use Rattle.process_histories.specs.Histories.{HasDone, nothing_done, one_more}
use Rattle.process_histories.specs.Words.{take_from, answer_to, ask_on, get_on, taken_from, answered_to, requests_on}
use Rattle.process_histories.specs.Words.{replies_on, is_await, awaits_on, one_if}
use Rattle.process_histories.proofs.Places.{set-one}
use Rattle.process_histories.proofs.Steady.{calm-away, start-calm, inner-calm, took-calm, asked-awaits, asked-same}
use Rattle.process_histories.proofs.Steady.{got-calm, answered-calm, checkpointed-calm, device-calm, done-steady}

-- What a deed adds to a list of words

pub if-same : (place : ℕ) (words : List ℤ) → (if place == place then Some words else None) ≡ Some words
if-same place words = rw (eq-eqb place place refl) refl

pub if-other : (place other : ℕ) (words : List ℤ) → place ≢ other → (if place == other then Some words else None) ≡ None
if-other place other words apart = elim (eqb_tells place other) [ inl t ↦ absurd (apart t.1) | inr t ↦ rw t.0 refl ]

pub count-more : (f : Deed → Option (List ℤ)) (deed : Deed) (deeds : List Deed) (test : Bool) (words : List ℤ)
    → f deed ≡ (if test then Some words else None)
    → length (filter_map f (deed ∷ deeds)) ≡ length (filter_map f deeds) + one_if test
count-more f deed deeds true words e = rw e (omega arith)
count-more f deed deeds false words e = rw e (omega arith)

-- Where nothing is awaited

pub none-awaited : (s : ProcessState) (file : ℕ) → process.point s ≢ point.Await → one_if (awaits_on s file) ≡ 0
none-awaited s file away = by (process.point s) away
  where
    by : (at : Point) → at ≢ point.Await → one_if (is_await at && (process.asked_file s == file)) ≡ 0
    by point.Await away = absurd (away refl)
    by point.Inner away = refl
    by point.Take away = refl
    by point.Ask away = refl
    by point.Answer away = refl
    by point.AtCheckpoint away = refl
    by point.Device away = refl
    by point.Ended away = refl

pub one-awaited : (s : ProcessState) (file : ℕ) → process.point s ≡ point.Await
    → awaits_on s file ≡ (process.asked_file s == file)
one-awaited s file at = rw at refl

none-held : (hand : Option ℕ) → is_some hand ≡ false → hand ≡ None
none-held None e = refl
none-held (Some place) e = absurd (cc)

module _ {site : Site} {number : ℕ} {spec : ProcessSpec} where
  -- as many replies were got on a file as requests were asked, but for the one that is awaited
  pub asked-count : {deeds : List Deed} {core : Core} → IsRegularKind spec.what → HasDone site number spec deeds core
      → (file : ℕ)
      → length (requests_on file deeds) ≡ length (replies_on file deeds) + one_if (awaits_on core.state file)
  asked-count regular nothing_done file =
      let none = none-awaited (process.start_of spec.what) file (calm-away _ (start-calm spec.what regular)) in
      omega (arith, none)
  asked-count regular (one_more {before = core} done (goes at)) file =
      let before : one_if (awaits_on core.state file) ≡ 0 = rw at refl in
      let after = none-awaited (process.after_inner core.state) file
      (calm-away _ (inner-calm core.state (done-steady regular done))) in
      omega (arith, asked-count regular done file, before, after)
  asked-count regular (one_more {before = core} done (checkpoints at)) file =
      let before : one_if (awaits_on core.state file) ≡ 0 = rw at refl in
      let after = none-awaited (process.after_checkpoint core.state) file
      (calm-away _ (checkpointed-calm core.state (done-steady regular done) at)) in
      omega (arith, asked-count regular done file, before, after)
  asked-count regular (one_more {before = core} done (takes {words = words} block at there)) file =
      let before : one_if (awaits_on core.state file) ≡ 0 = rw at refl in
      let after = none-awaited (process.after_took core.state words) file
      (calm-away _ (took-calm core.state words (done-steady regular done) at)) in
      omega (arith, asked-count regular done file, before, after)
  asked-count regular (one_more {deeds = deeds} {before = core} done (asks {file = one} {words = words} at named said))
      file =
      let before : one_if (awaits_on core.state file) ≡ 0 = rw at refl in
      let after : awaits_on (process.after_asked core.state) file ≡ (one == file) =
      one-awaited (process.after_asked core.state) file (asked-awaits core.state (done-steady regular done) at)
      ∙ rw (named, asked-same core.state) refl in
      let more = count-more (ask_on file) (Asked one words) deeds (one == file) words refl in
      let now : one_if (awaits_on (process.after_asked core.state) file) ≡ one_if (one == file) = ap one_if after in
      omega (arith, asked-count regular done file, before, more, now)
  asked-count regular (one_more {deeds = deeds} {before = core} done (gets {file = one} {words = words} at named))
      file =
      let before : one_if (awaits_on core.state file) ≡ one_if (one == file) =
      ap one_if (one-awaited core.state file at ∙ rw named refl) in
      let more = count-more (get_on file) (Got one words) deeds (one == file) words refl in
      let after = none-awaited (process.after_got core.state words) file
      (calm-away _ (got-calm core.state words (done-steady regular done) at)) in
      omega (arith, asked-count regular done file, before, more, after)
  asked-count regular (one_more {before = core} done (answers opener block at hand known there words)) file =
      let before : one_if (awaits_on core.state file) ≡ 0 = rw at refl in
      let after = none-awaited (process.after_answered core.state) file
      (calm-away _ (answered-calm core.state (done-steady regular done) at)) in
      omega (arith, asked-count regular done file, before, after)
  asked-count regular (one_more {before = core} done (acts {found = found} at call)) file =
      let before : one_if (awaits_on core.state file) ≡ 0 = rw at refl in
      let after = none-awaited (process.after_device core.state found) file
      (calm-away _ (device-calm core.state found (done-steady regular done) at)) in
      omega (arith, asked-count regular done file, before, after)

  -- the table and the state agree whether a request is in hand
  pub done-stands : {deeds : List Deed} {core : Core} → HasDone site number spec deeds core
      → Stands core.state (is_some core.receive.in_hand)
  done-stands nothing_done = record { hand = start-hand spec.what; free = start-free spec.what }
  done-stands (one_more {before = core} done (goes at)) = inner-stands core.state _ (done-stands done)
  done-stands (one_more {before = core} done (checkpoints at)) = checkpoint-stands core.state _ (done-stands done)
  done-stands (one_more {before = core} done (takes {words = words} block at there)) = took-stands core.state words at
  done-stands (one_more {before = core} done (asks at file words)) = asked-stands core.state _ (done-stands done)
  done-stands (one_more {before = core} done (gets {words = words} at file)) =
      got-stands core.state words _ (done-stands done)
  done-stands (one_more {before = core} done (answers opener block at hand known there words)) =
      answered-stands core.state
  done-stands (one_more {before = core} done (acts {found = found} at call)) =
      device-stands core.state found _ (done-stands done)

  -- nothing is in hand at Take
  pub take-free : {deeds : List Deed} {core : Core} → HasDone site number spec deeds core
      → process.point core.state ≡ point.Take → core.receive.in_hand ≡ None
  take-free {core = core} done at = let stands = done-stands done in
      none-held core.receive.in_hand (sym stands.hand ∙ take-hand core.state stands.free at)

  -- as many requests of an opener were answered as were taken, but for the one in hand
  pub taken-count : {deeds : List Deed} {core : Core} → HasDone site number spec deeds core → (place : ℕ)
      → length (taken_from place deeds) ≡ length (answered_to place deeds)
      + one_if (is_place core.receive.in_hand place)
  taken-count nothing_done place = refl
  taken-count (one_more done (goes at)) place = taken-count done place
  taken-count (one_more done (checkpoints at)) place = taken-count done place
  taken-count (one_more {deeds = deeds} {before = core} done (takes {place = one} {words = words} block at there))
      place =
      let free : one_if (is_place core.receive.in_hand place) ≡ 0 = rw (take-free done at) refl in
      let more = count-more (take_from place) (Took one words) deeds (one == place) words refl in
      omega (arith, taken-count done place, free, more)
  taken-count (one_more done (asks at file words)) place = taken-count done place
  taken-count (one_more done (gets at file)) place = taken-count done place
  taken-count (one_more {deeds = deeds} {before = core} done
      (answers {place = one} {words = words} opener block at hand known there said)) place =
      let held : one_if (is_place core.receive.in_hand place) ≡ one_if (one == place) = rw hand refl in
      let more = count-more (answer_to place) (Answered one words) deeds (one == place) words refl in
      omega (arith, taken-count done place, held, more)
  taken-count (one_more done (acts at call)) place = taken-count done place

  -- the number last taken from an opener is how many were taken
  pub taken-number : {deeds : List Deed} {core : Core} → HasDone site number spec deeds core
      → (place : ℕ) (block : OpenerBlock)
      → slice_get core.receive.openers place ≡ Some block → block.taken ≡ length (taken_from place deeds)
  taken-number nothing_done place block there =
      let first = mapped (λ (opener : OpenerSpec). record { taken = 0; kept = [] }) (openers_of site number) place
      block there in
      ap (λ (b : OpenerBlock). b.taken) first.2
  taken-number (one_more done (goes at)) place block there = taken-number done place block there
  taken-number (one_more done (checkpoints at)) place block there = taken-number done place block there
  taken-number (one_more {deeds = deeds} {before = core} done (takes {place = one} {words = words} old at known)) place
      block there =
      set-one (λ j z. z.taken ≡ length (taken_from j (Took one words ∷ deeds))) core.receive.openers one
      (record old { taken = old.taken + 1 })
      (λ j z apart stood. rw (if-other one j words apart) (taken-number done j z stood))
      (λ _ _. let count = taken-number done one old known in rw (if-same one words) (omega (arith, count))) place block
      there
  taken-number (one_more done (asks at file words)) place block there = taken-number done place block there
  taken-number (one_more done (gets at file)) place block there = taken-number done place block there
  taken-number (one_more {deeds = deeds} {before = core} done
      (answers {place = one} {words = words} opener old at hand known stood said)) place block there =
      set-one (λ j z. z.taken ≡ length (taken_from j deeds)) core.receive.openers one
      (record old { kept = last_ones opener.depth (old.kept ++ words ∷ []) })
      (λ j z apart stands. taken-number done j z stands) (λ _ _. taken-number done one old stood) place block there
  taken-number (one_more done (acts at call)) place block there = taken-number done place block there

  -- the next number on a file is one more than how many were asked
  pub next-number : {deeds : List Deed} {core : Core} → HasDone site number spec deeds core → (file next : ℕ)
      → slice_get core.next file ≡ Some next
      → next ≡ length (requests_on file deeds) + 1
  next-number nothing_done file next there = repeated (length (files_of spec.what)) 1 file next there
  next-number (one_more done (goes at)) file next there = next-number done file next there
  next-number (one_more done (checkpoints at)) file next there = next-number done file next there
  next-number (one_more done (takes block at known)) file next there = next-number done file next there
  next-number (one_more {deeds = deeds} {before = core} done (asks {file = one} {words = words} at named said)) file
      next there =
      set-one (λ j z. z ≡ length (requests_on j (Asked one words ∷ deeds)) + 1) core.next one (next_on core one + 1)
      (λ j z apart stood. rw (if-other one j words apart) (next-number done j z stood))
      (λ old stood. let count = next-number done one old stood in let now : next_on core one ≡ old = rw stood refl in
      rw (if-same one words) (omega (arith, count, now))) file next there
  next-number (one_more done (gets at file)) file' next there = next-number done file' next there
  next-number (one_more done (answers opener block at hand known stood said)) file next there =
      next-number done file next there
  next-number (one_more done (acts at call)) file next there = next-number done file next there
