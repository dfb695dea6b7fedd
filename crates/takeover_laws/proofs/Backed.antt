-- What lets a deed happen and what it sends, told by a ledger.
use Rattle.std.proofs.Common.{◌≡◌, ◌≢◌, ℕ, ◌+◌, ℤ, true, false, not, List, [], ◌∷◌, ◌++◌, length, Option, Some, None}
use Rattle.std.proofs.Common.{slice_get, refl, ap, sym, ◌∙◌, subst, arith, eq-eqb, filter_map, zero, suc}
use Rattle.std.specs.List.{cons_option}
use Rattle.std.specs.Option.{unwrap_or}
use Rattle.gd_words.specs.declared.device.DeviceCall.{DeviceCall}
use Rattle.gd_words.specs.declared.device.DeviceCall.TheVariants as call
use Rattle.tal_tree.specs.declared.site.OpenerSpec.{OpenerSpec}
use Rattle.tal_tree.specs.declared.site.ProcessSpec.{ProcessSpec}
use Rattle.tal_tree.specs.declared.site.Site.{Site}
use Rattle.tal_tree.specs.declared.site.Who.{Who}
use Rattle.tal_tree.specs.declared.site.Who.TheVariants as who
use Rattle.process_semantics.specs.declared.point.Point.TheVariants as point
use Rattle.process_semantics.specs.Process as process
use Rattle.world_semantics.specs.plain_semantics.specs.Openers.{files_of, openers_of, opener_of}
use Rattle.world_semantics.specs.plain_semantics.specs.declared.slot.Opener.{Opener}
use Rattle.world_semantics.specs.disc_device.specs.Sectors.{Stored}
use Rattle.world_semantics.specs.checkpoint_image.specs.Receive.{is_place}
use Rattle.world_semantics.specs.checkpoint_image.specs.declared.receive.OpenerBlock.{OpenerBlock}
use Rattle.world_semantics.specs.Core.{Core, Deed, Went, Checkpointed, Took, Asked, Got, Answered, Acted, Advances}
use Rattle.world_semantics.specs.Core.{goes, checkpoints, takes, asks, gets, answers, acts, next_on}
use Rattle.world_semantics.specs.Own.{found_on, is_new_write}
use Rattle.world_semantics.proofs.Lists.{some-same}
use Rattle.plain_histories.specs.process_histories.specs.Devices.{after_call, sectors_after, FoundWhatStood}
use Rattle.plain_histories.specs.process_histories.specs.Histories.{HasDone, one_more}
use Rattle.plain_histories.specs.process_histories.specs.Words.{ask_on, get_on, answer_to, requests_on, replies_on}
use Rattle.plain_histories.specs.process_histories.specs.Words.{answered_to, taken_from}
use Rattle.plain_histories.specs.process_histories.specs.Words.{awaits_on, one_if}
use Rattle.plain_histories.specs.process_histories.proofs.Counts.{if-same, asked-count, taken-count, taken-number}
use Rattle.plain_histories.specs.process_histories.proofs.Counts.{next-number, one-awaited}
use Rattle.plain_histories.specs.process_histories.proofs.OneKind.{files-same}
use Rattle.plain_histories.specs.process_histories.proofs.Deeds.{point_of, stands-there}
use Rattle.plain_histories.specs.process_histories.proofs.Writes.{write-new, write-done}
use Rattle.discipline_laws.specs.Disciplined.{AreIdle}
use Rattle.plain_histories.specs.Agreeing.{AreRegular}
use Rattle.plain_histories.specs.Booking.{AreBooked, IsAllowed}
use Rattle.plain_histories.specs.Ledgers.{Ledger, requests_of, answered_of, replies_of}
use Rattle.plain_histories.specs.Slots.{IsEntry, is_newest}
use Rattle.plain_histories.proofs.Entries.{entry-longer, entry-one, entry-stays, waits-next, answered-next}
use Rattle.plain_histories.proofs.Entries.{replies-answered}
use Rattle.plain_histories.proofs.Openers.{opener-opened}
use Rattle.plain_histories.proofs.Possible.{HasRun, booked-ran}
use Rattle.takeover_laws.specs.Invariant.{IsRepeatable}

-- what lets a deed happen: a take an entry of its opener with the number after the last that was taken, a reply an
-- entry of its server with the number of the request that is awaited, and a call of the device what stands there
abbrev pub IsBacked : Site → Ledger → ℕ → ProcessSpec → Core → Deed → Type 0
IsBacked site ledger number spec core (Took place words) =
    (one : Who) × (block : OpenerBlock) × (opener_of site one ≡ Some (record { server = number; place = place }))
    × (slice_get core.receive.openers place ≡ Some block) × IsEntry (block.taken + 1) words (requests_of ledger one)
IsBacked site ledger number spec core (Got file words) =
    (opener : Opener) × (n : ℕ) × (opener_of site (who.File number file) ≡ Some opener) × (n + 1 ≡ next_on core file)
    × IsEntry n words (answered_of ledger opener)
IsBacked site ledger number spec core (Acted call found) =
    found ≡ found_on (sectors_after spec.what (ledger.deeds number)) call
IsBacked site ledger number spec core _ = Unit {0}

-- what a deed sends is an entry of the ledger
abbrev pub IsSentBy : Site → Ledger → ℕ → Core → Deed → Type 0
IsSentBy site ledger number core (Answered place words) =
    (block : OpenerBlock) → slice_get core.receive.openers place ≡ Some block
    → IsEntry block.taken words (answered_of ledger (record { server = number; place = place }))
IsSentBy site ledger number core (Asked file words) =
    (opener : Opener) → opener_of site (who.File number file) ≡ Some opener
    → IsEntry (next_on core file) words (requests_of ledger (who.File number file))
IsSentBy site ledger number core _ = Unit {0}

-- a write stands on its sector
abbrev pub IsOld : Ledger → ℕ → ProcessSpec → Deed → Type 0
IsOld ledger number spec (Acted call found) = is_new_write (sectors_after spec.what (ledger.deeds number)) call ≡ false
IsOld ledger number spec _ = Unit {0}

abbrev pub IsNewCall : List Stored → DeviceCall → Type 0
IsNewCall sectors (call.Write sector words write) = is_new_write sectors (call.Write sector words write) ≡ true
IsNewCall sectors _ = Unit {0}

-- a write doesn't stand on its sector
abbrev pub IsNew : Ledger → ℕ → ProcessSpec → Deed → Type 0
IsNew ledger number spec (Acted call found) = IsNewCall (sectors_after spec.what (ledger.deeds number)) call
IsNew ledger number spec _ = Unit {0}

-- Deeds of one core

-- two deeds of one core, of which one can be done anew, are the same where what they got or found is
pub same-deed : {openers : List OpenerSpec} {x y z : Core} {deed other : Deed} → Advances openers x deed y
    → Advances openers x other z → IsRepeatable other
    → ((file : ℕ) (said words : List ℤ) → deed ≡ Got file said → other ≡ Got file words → said ≡ words)
    → ((c : DeviceCall) (found old : List ℤ) → deed ≡ Acted c found → other ≡ Acted c old → found ≡ old) → deed ≡ other
same-deed (goes at) (goes here) again got did = refl
same-deed (answers {place = one} {words = said} opener block at hand known there is)
    (answers {place = other} {words = words} opener' block' here held known' there' same) again got did =
    let place : one ≡ other = some-same (sym hand ∙ held) in let all : said ≡ words = is ∙ sym same in cc
same-deed (asks {file = one} {words = said} at named is) (asks {file = other} {words = words} here named' same) again
    got did =
    let file : one ≡ other = named ∙ sym named' in let all : said ≡ words = is ∙ sym same in cc
same-deed (gets {file = one} {words = said} at named) (gets {file = other} {words = words} here named') again got did =
    let file : one ≡ other = named ∙ sym named' in
    let all : said ≡ words = got one said words refl (ap (λ f. Got f words) (sym file)) in cc
same-deed (takes block at there) (takes block' here there') again got did = absurd again
same-deed (checkpoints at) (checkpoints here) again got did = absurd again
same-deed (acts {call = one} {found = found} at is) (acts {call = other} {found = old} here same) again got did =
    let call : one ≡ other = is ∙ sym same in
    let all : found ≡ old = did one found old refl (ap (λ c. Acted c old) (sym call)) in cc
same-deed advances moves again got did = let at = stands-there advances in let here = stands-there moves in absurd (cc)

checkpoint-only : (deed : Deed) → point_of deed ≡ point.AtCheckpoint → deed ≡ Checkpointed
checkpoint-only Checkpointed at = refl
checkpoint-only Went at = absurd (cc)
checkpoint-only (Took place words) at = absurd (cc)
checkpoint-only (Asked file words) at = absurd (cc)
checkpoint-only (Got file words) at = absurd (cc)
checkpoint-only (Answered place words) at = absurd (cc)
checkpoint-only (Acted call found) at = absurd (cc)

-- a deed that is no checkpoint isn't done at a checkpoint
pub not-at-checkpoint : {openers : List OpenerSpec} {core next : Core} {deed : Deed} → Advances openers core deed next
    → deed ≢ Checkpointed → process.point core.state ≡ point.AtCheckpoint → ⊥
not-at-checkpoint {deed = deed} advances other at = other (checkpoint-only deed (sym (stands-there advances) ∙ at))

-- The device

-- where no call was made the sectors stay
pub idle-sectors : (what : _) (more deeds : List Deed) → AreIdle more
    → sectors_after what (more ++ deeds) ≡ sectors_after what deeds
idle-sectors what [] deeds idle = refl
idle-sectors what (Went ∷ more) deeds idle = idle-sectors what more deeds idle.1
idle-sectors what (Checkpointed ∷ more) deeds idle = idle-sectors what more deeds idle.1
idle-sectors what (Took place words ∷ more) deeds idle = idle-sectors what more deeds idle.1
idle-sectors what (Asked file words ∷ more) deeds idle = idle-sectors what more deeds idle.1
idle-sectors what (Got file words ∷ more) deeds idle = idle-sectors what more deeds idle.1
idle-sectors what (Answered place words ∷ more) deeds idle = idle-sectors what more deeds idle.1
idle-sectors what (Acted call found ∷ more) deeds idle = absurd (idle.0 tt)

found-before : (what : _) (since : List Deed) (c : DeviceCall) (found : List ℤ) (before : List Deed)
    → FoundWhatStood what (since ++ Acted c found ∷ before)
    → found ≡ found_on (sectors_after what before) c
found-before what [] c found before all = all.0
found-before what (Acted other old ∷ since) c found before all = found-before what since c found before all.1
found-before what (Went ∷ since) c found before all = found-before what since c found before all
found-before what (Checkpointed ∷ since) c found before all = found-before what since c found before all
found-before what (Took place words ∷ since) c found before all = found-before what since c found before all
found-before what (Asked file words ∷ since) c found before all = found-before what since c found before all
found-before what (Got file words ∷ since) c found before all = found-before what since c found before all
found-before what (Answered place words ∷ since) c found before all = found-before what since c found before all

-- a call leaves what it finds
found-after : (sectors : List Stored) (c : DeviceCall) → found_on (after_call c sectors) c ≡ found_on sectors c
found-after sectors call.Nothing = refl
found-after sectors (call.Read sector) = refl
found-after sectors (call.Write sector words write) = refl

picked-append : (f : Deed → Option (List ℤ)) (more deeds : List Deed)
    → filter_map f (more ++ deeds) ≡ filter_map f more ++ filter_map f deeds
picked-append f [] deeds = refl
picked-append f (deed ∷ more) deeds = by (f deed) (picked-append f more deeds)
  where
    by : (one : Option (List ℤ)) → filter_map f (more ++ deeds) ≡ filter_map f more ++ filter_map f deeds
        → cons_option one (filter_map f (more ++ deeds)) ≡ cons_option one (filter_map f more) ++ filter_map f deeds
    by None same = same
    by (Some words) same = ap (λ all. words ∷ all) same

module _ (site : Site) (regular : AreRegular site) (number : ℕ) (spec : ProcessSpec)
    (there : slice_get site.processes number ≡ Some spec) where
  next-there : {A : Type 0} (xs : List ℕ) (ys : List A) (k : ℕ) (y : A) → length xs ≡ length ys
      → slice_get ys k ≡ Some y → (x : ℕ) × (slice_get xs k ≡ Some x)
  next-there [] [] k y same at = absurd (cc)
  next-there (x ∷ xs) [] k y same at = absurd (cc)
  next-there [] (z ∷ ys) k y same at = absurd (omega (arith, same))
  next-there (x ∷ xs) (z ∷ ys) zero y same at = (x, refl)
  next-there (x ∷ xs) (z ∷ ys) (suc k) y same at = next-there xs ys k y (omega (arith, same)) at

  pub next-is : (deeds : List Deed) (file : ℕ) (opener : Opener) {core : Core}
      → opener_of site (who.File number file) ≡ Some opener → HasDone site number spec deeds core
      → next_on core file ≡ length (requests_on file deeds) + 1
  next-is deeds file opener {core = core} is done =
      let open_as = opener-opened site number file opener is in
      let same : open_as.spec ≡ spec = some-same (sym open_as.there ∙ there) in
      let next = next-there core.next (files_of spec.what) file open_as.use_of (files-same done)
      (subst (λ (s : ProcessSpec). slice_get (files_of s.what) file ≡ Some open_as.use_of) same open_as.opened) in
      ap (λ x. unwrap_or x 1) next.1 ∙ next-number done file next.0 next.1

  -- what a copy sends at a deed of the ledger is an entry there
  pub sent-by : (ledger : Ledger) (since before : List Deed) {deed : Deed} {core next : Core}
      → ledger.deeds number ≡ since ++ deed ∷ before
      → HasDone site number spec before core → Advances (openers_of site number) core deed next
      → IsSentBy site ledger number core deed
  sent-by ledger since before split done (goes at) = tt
  sent-by ledger since before split done (checkpoints at) = tt
  sent-by ledger since before split done (takes block at known) = tt
  sent-by ledger since before split done (gets at named) = tt
  sent-by ledger since before split done (acts at is) = tt
  sent-by ledger since before {core = core} split done
      (answers {place = place} {words = words} opener block at hand known stood said) = λ other at_place.
      (let same : other ≡ block = some-same (sym at_place ∙ stood) in
      let one : one_if (is_place core.receive.in_hand place) ≡ 1 = rw (hand, eq-eqb place place refl) refl in
      let taken = taken-number done place block stood in
      let count = taken-count done place in
      let is : other.taken ≡ length (answered_to place before) + 1 = rw same (omega (arith, taken, count, one)) in
      rw (is, split, picked-append (answer_to place) since (Answered place words ∷ before), if-same place words)
      (entry-longer (filter_map (answer_to place) since) (is_newest refl)))
  sent-by ledger since before split done (asks {file = file} {words = words} at named said) = λ opener is.
      rw (
        next-is before file opener is done,
        split,
        picked-append (ask_on file) since (Asked file words ∷ before),
        if-same file words,
      )
      (entry-longer (filter_map (ask_on file) since) (is_newest refl))

  -- a write that is made for the first time doesn't stand on its sector
  pub new-call : (ledger : Ledger) {deed : Deed} {core next : Core}
      → HasDone site number spec (ledger.deeds number) core → Advances (openers_of site number) core deed next
      → IsNew ledger number spec deed
  new-call ledger done (goes at) = tt
  new-call ledger done (checkpoints at) = tt
  new-call ledger done (takes block at known) = tt
  new-call ledger done (gets at named) = tt
  new-call ledger done (asks at named said) = tt
  new-call ledger done (answers opener block at hand known stood said) = tt
  new-call ledger done (acts {call = call.Nothing} at is) = tt
  new-call ledger done (acts {call = call.Read sector} at is) = tt
  new-call ledger done (acts {call = call.Write sector words write} {found = found} at is) =
      ap not (write-new {found = found} (one_more done (acts at is)))

  -- one that was made does, where no call was made since
  pub old-call : (ledger : Ledger) (since before : List Deed) {deed : Deed} {core next : Core}
      → ledger.deeds number ≡ since ++ deed ∷ before
      → HasDone site number spec before core → Advances (openers_of site number) core deed next
      → ((c : DeviceCall) (found : List ℤ) → deed ≡ Acted c found → AreIdle since) → IsOld ledger number spec deed
  old-call ledger since before split done (goes at) idle = tt
  old-call ledger since before split done (checkpoints at) idle = tt
  old-call ledger since before split done (takes block at known) idle = tt
  old-call ledger since before split done (gets at named) idle = tt
  old-call ledger since before split done (asks at named said) idle = tt
  old-call ledger since before split done (answers opener block at hand known stood said) idle = tt
  old-call ledger since before split done (acts {call = call.Nothing} at is) idle = refl
  old-call ledger since before split done (acts {call = call.Read sector} at is) idle = refl
  old-call ledger since before split done (acts {call = call.Write sector words write} {found = found} at is) idle =
      rw (
        split,
        idle-sectors spec.what since (Acted (call.Write sector words write) found ∷ before)
            (idle (call.Write sector words write) found refl),
      )
      (ap not (write-done {found = found} (one_more done (acts at is))))

  module _ {acts_kept : List _} {shown : List _} (ledger : Ledger)
      (booked : AreBooked site acts_kept shown ledger) where
    abbrev ran : HasRun site acts_kept shown ledger
    ran = booked-ran regular booked

    -- a reply that is awaited has the number of the last request
    awaited-count : (deeds : List Deed) (file : ℕ) {core : Core} → HasDone site number spec deeds core
        → process.point core.state ≡ point.Await → file ≡ process.asked_file core.state
        → length (requests_on file deeds) ≡ length (replies_on file deeds) + 1
    awaited-count deeds file {core = core} done at named =
        let one : one_if (awaits_on core.state file) ≡ 1 =
        rw (one-awaited core.state file at, ← named, eq-eqb file file refl) refl in
        let count = asked-count (regular number spec there) done file in omega (arith, count, one)

    pub allowed-by : {deed : Deed} {core next : Core} → HasDone site number spec (ledger.deeds number) core
        → Advances (openers_of site number) core deed next
        → IsBacked site ledger number spec core deed → IsAllowed site ledger number spec deed
    allowed-by done (goes at) back = tt
    allowed-by done (checkpoints at) back = tt
    allowed-by done (asks at named said) back = tt
    allowed-by done (answers opener block at hand known stood said) back = tt
    allowed-by done (acts at is) back = back
    allowed-by done (takes {place = place} {words = words} block at known) (one, other, is, stood, entry) =
        let slot = ran.agrees.slots one (record { server = number; place = place }) is in
        let count : other.taken ≡ length (taken_from place (ledger.deeds number)) =
        taken-number done place other stood in
        (one, is, (waits-next slot.2 (subst (λ k. IsEntry (k + 1) words (requests_of ledger one)) count entry)).1)
    allowed-by done (gets {file = file} {words = words} at named) (opener, n, is, last, entry) =
        let slot = ran.agrees.slots (who.File number file) opener is in
        let next = next-is (ledger.deeds number) file opener is done in
        let same : n ≡ length (requests_of ledger (who.File number file)) = omega (arith, last, next) in (
          opener,
          is,
          (answered-next slot.2 (awaited-count (ledger.deeds number) file done at named)
              (subst (λ k. IsEntry k words (answered_of ledger opener)) same entry)).1,
        )

    -- a reply that comes again is the one that was got
    pub got-same : (since before : List Deed) (file : ℕ) (said words : List ℤ) {core next : Core}
        → ledger.deeds number ≡ since ++ Got file words ∷ before
        → HasDone site number spec before core → Advances (openers_of site number) core (Got file said) next
        → IsBacked site ledger number spec core (Got file said) → said ≡ words
    got-same since before file said words split done (gets at named) (opener, n, is, last, entry) =
        let next = next-is before file opener is done in
        let count = awaited-count before file done at named in
        let same : n ≡ length (replies_on file before) + 1 = omega (arith, last, next, count) in
        let all : replies_of ledger (who.File number file)
        ≡ filter_map (get_on file) since ++ words ∷ replies_on file before =
        rw (split, picked-append (get_on file) since (Got file words ∷ before), if-same file words) refl in
        let was : IsEntry (length (replies_on file before) + 1) words (replies_of ledger (who.File number file)) =
        rw all (entry-longer (filter_map (get_on file) since) (is_newest refl)) in
        let slot = ran.agrees.slots (who.File number file) opener is in
        entry-one (subst (λ k. IsEntry k said (answered_of ledger opener)) same entry)
        (entry-stays (replies-answered slot.2) was)

    -- a call that is made again finds what it found
    pub call-same : (since before : List Deed) (c : DeviceCall) (found old : List ℤ)
        → ledger.deeds number ≡ since ++ Acted c old ∷ before → AreIdle since
        → found ≡ found_on (sectors_after spec.what (ledger.deeds number)) c → found ≡ old
    call-same since before c found old split idle back =
        let stands = (ran.agrees.processes number spec there).2 in
        let was : old ≡ found_on (sectors_after spec.what before) c =
        found-before spec.what since c old before (subst (FoundWhatStood spec.what) split stands.found) in
        back ∙ rw split (rw (idle-sectors spec.what since (Acted c old ∷ before) idle)
        (found-after (sectors_after spec.what before) c)) ∙ sym was
