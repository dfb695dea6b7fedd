-- The writes of a disc are numbered in turn, and each is to a sector that is there.
use Rattle.std.proofs.Common.{◌≡◌, ◌≤◌, ◌<◌, ℕ, zero, suc, ◌+◌, ◌-◌, ◌==◌, ◌&&◌, nat_le, nat_lt, ℤ, pos, negsuc, Bool}
use Rattle.std.proofs.Common.{true, false, if◌then◌else◌, List, [], ◌∷◌, length, replicate, Option, Some, None}
use Rattle.std.proofs.Common.{slice_get, slice_set, refl, ap, sym, ◌∙◌, inl, inr, arith, eq-eqb}
use Rattle.std.specs.Option.{unwrap_or}
use Rattle.std.specs.Ordering.{int_eq}
use borrow.Author.Tests.{ltb-true}
use Rattle.std.proofs.lemmas.Bool.{leb-true}
use Rattle.std.proofs.lemmas.Bool.Decides.{eqb_tells}
use Rattle.std.proofs.lemmas.List.{length-append, length-replicate, length-set}
use Rattle.gd_words.specs.declared.device.DeviceCall.{DeviceCall}
use Rattle.gd_words.specs.declared.device.DeviceCall.TheVariants.{Nothing, Read, Write}
use Rattle.tal_tree.specs.declared.site.Kind.{Kind}
use Rattle.tal_tree.specs.declared.site.Kind.TheVariants as kind
use Rattle.tal_tree.specs.declared.site.ProcessSpec.{ProcessSpec}
use Rattle.tal_tree.specs.declared.site.Site.{Site}
use Rattle.world_semantics.specs.process_semantics.specs.Disc as disc
use Rattle.world_semantics.specs.process_semantics.specs.Process as process
use Rattle.world_semantics.specs.process_semantics.specs.Process.{ProcessState, Runs, Serves}
use Rattle.world_semantics.specs.disc_device.specs.Sectors.{Stored, blank, is_of_write, is_written}
use Rattle.world_semantics.specs.checkpoint_image.specs.Behaving.{last_write_of}
use Rattle.world_semantics.specs.Core.{Core, Deed, Went, Checkpointed, Took, Asked, Got, Answered, Acted, goes}
use Rattle.world_semantics.specs.Core.{checkpoints}
use Rattle.world_semantics.specs.Core.{takes, asks, gets, answers, acts}
use Rattle.world_semantics.specs.World.{device_at_boot}
use Rattle.world_semantics.proofs.Lists.{repeated}
use Rattle.process_histories.specs.Devices.{after_call, sectors_after, writes_in}
use Rattle.process_histories.specs.Histories.{HasDone, nothing_done, one_more, kind_of, kind_without_mirror}
use Rattle.process_histories.proofs.Places.{set-one}
use Rattle.process_histories.proofs.OneKind.{done-kind, same-device}

-- What a disc writes

-- a write that a disc would do: its number is the one that is given, its sector is there, and its words fill the sector
record IsWriteOf (sectors given : ℕ) (sector : ℕ) (words : List ℤ) (number : ℕ) : Type 0 where
  number_is : number ≡ given
  there : sector < sectors
  full : length words ≡ 8

filled-eight : (words : List ℤ) → length words ≤ 8 → length (disc.filled words) ≡ 8
filled-eight words few =
    let all = length-append words (replicate (8 - length words) (pos 0)) in
    let more = length-replicate (8 - length words) (pos 0) in
    omega (arith, all, more, few)

write-of : (sectors given : ℕ) (request : List ℤ) (sector : ℕ) (words : List ℤ) (number : ℕ)
    → disc.call_of sectors given request ≡ Write sector words number
    → IsWriteOf sectors given sector words number
write-of sectors given [] sector words number is = absurd (cc)
write-of sectors given (kind ∷ []) sector words number is = absurd (cc)
write-of sectors given (kind ∷ named ∷ request) sector words number is = by-sector named is
  where
    by-tests : (at : ℕ) → at < sectors → (reads writes some few : Bool) → nat_le (length request) 8 ≡ few
        → (if reads then Read at else if writes && some && few then Write at (disc.filled request) given else Nothing)
        ≡ Write sector words number
        → IsWriteOf sectors given sector words number
    by-tests at within true writes some few fits is = absurd (cc)
    by-tests at within false true true true fits is =
        let place : at ≡ sector = cc in let its : given ≡ number = cc in let all : disc.filled request ≡ words = cc in
        record {
          number_is = sym its;
          there = rw (← place) within;
          full = rw (← all) (filled-eight request (leb-true (length request) 8 fits));
        }
    by-tests at within false true true false fits is = absurd (cc)
    by-tests at within false true false few fits is = absurd (cc)
    by-tests at within false false some few fits is = absurd (cc)

    by-place : (m : ℕ) (test : Bool) → nat_lt m sectors ≡ test
        → disc.call_at given kind request (if test then Some m else None) ≡ Write sector words number
        → IsWriteOf sectors given sector words number
    by-place m true there is =
        by-tests m (ltb-true m sectors there) (int_eq kind (pos 1) && (length request == 0)) (int_eq kind (pos 2))
        (nat_le 1 (length request)) (nat_le (length request) 8) refl is
    by-place m false there is = absurd (cc)

    by-sector : (named : ℤ) → disc.call_at given kind request (disc.sector_of sectors named)
        ≡ Write sector words number → IsWriteOf sectors given sector words number
    by-sector (pos m) is = by-place m (nat_lt m sectors) refl is
    by-sector (negsuc m) is = absurd (cc)

-- The number of the last write

pub write-next : (s : ProcessState) {sector number : ℕ} {words : List ℤ}
    → process.call_of s ≡ Write sector words number → number ≡ last_write_of s + 1
write-next (Runs program s) is = absurd (cc)
write-next (Serves sectors s) {sector = sector} {number = number} {words = words} is =
    (write-of sectors (s.last_write + 1) (unwrap_or s.request []) sector words number is).number_is

-- one write more where a call is one
abbrev one_write : DeviceCall → ℕ
one_write (Write sector words number) = 1
one_write _ = 0

device-last : (s : ProcessState) (call : DeviceCall) (found : List ℤ) → call ≡ process.call_of s
    → last_write_of (process.after_device s found) ≡ last_write_of s + one_write call
device-last (Runs program s) call found is = rw is (omega arith)
device-last (Serves sectors s) Nothing found is = rw (← is) (omega arith)
device-last (Serves sectors s) (Read sector) found is = rw (← is) (omega arith)
device-last (Serves sectors s) (Write sector words number) found is =
    rw (← is) (write-next (Serves sectors s) {sector = sector} {words = words} (sym is))

inner-last : (s : ProcessState) → last_write_of (process.after_inner s) ≡ last_write_of s
inner-last (Runs program s) = refl
inner-last (Serves sectors s) = refl

checkpointed-last : (s : ProcessState) → last_write_of (process.after_checkpoint s) ≡ last_write_of s
checkpointed-last (Runs program s) = refl
checkpointed-last (Serves sectors s) = refl

took-last : (s : ProcessState) (words : List ℤ) → last_write_of (process.after_took s words) ≡ last_write_of s
took-last (Runs program s) words = refl
took-last (Serves sectors s) words = refl

asked-last : (s : ProcessState) → last_write_of (process.after_asked s) ≡ last_write_of s
asked-last (Runs program s) = refl
asked-last (Serves sectors s) = refl

got-last : (s : ProcessState) (words : List ℤ) → last_write_of (process.after_got s words) ≡ last_write_of s
got-last (Runs program s) words = refl
got-last (Serves sectors s) words = refl

answered-last : (s : ProcessState) → last_write_of (process.after_answered s) ≡ last_write_of s
answered-last (Runs program s) = refl
answered-last (Serves sectors s) = refl

start-last : (what : Kind) → last_write_of (process.start_of what) ≡ 0
start-last (kind.Pair program) = refl
start-last (kind.Disc sectors mirrored) = refl

count-write : (call : DeviceCall) (found : List ℤ) (deeds : List Deed)
    → writes_in (Acted call found ∷ deeds) ≡ writes_in deeds + one_write call
count-write Nothing found deeds = omega arith
count-write (Read sector) found deeds = omega arith
count-write (Write sector words number) found deeds = omega arith

-- Sectors

-- what holds of a blank sector, and of each that is written, holds of all sectors
pub all-stored : (P : Stored → Type 0) (sectors : List Stored) (call : DeviceCall)
    → ((sector : ℕ) (stored : Stored) → slice_get sectors sector ≡ Some stored → P stored)
    → ((sector number : ℕ) (words : List ℤ) → call ≡ Write sector words number
    → P (record { words = words; number = number }))
    → (sector : ℕ) (stored : Stored) → slice_get (after_call call sectors) sector ≡ Some stored → P stored
all-stored P sectors Nothing old new sector stored there = old sector stored there
all-stored P sectors (Read at) old new sector stored there = old sector stored there
all-stored P sectors (Write at words number) old new sector stored there = by (is_written sectors at number) there
  where
    by : (done : Bool) → slice_get (if done then sectors else slice_set sectors at
        (record { words = words; number = number })) sector ≡ Some stored → P stored
    by true there = old sector stored there
    by false there = set-one (λ j z. P z) sectors at (record { words = words; number = number })
        (λ j z apart stood. old j z stood) (λ _ _. new at number words refl) sector stored there

pub first-blank : (what : Kind) (sector : ℕ) (stored : Stored) → slice_get (device_at_boot what) sector ≡ Some stored
    → stored ≡ blank
first-blank (kind.Disc sectors mirrored) sector stored there = repeated sectors blank sector stored there
first-blank (kind.Pair program) sector stored there = absurd (cc)

device-length : (what : Kind) (deeds : List Deed) → length (sectors_after what deeds) ≡ length (device_at_boot what)
device-length what [] = refl
device-length what (Went ∷ deeds) = device-length what deeds
device-length what (Checkpointed ∷ deeds) = device-length what deeds
device-length what (Took place words ∷ deeds) = device-length what deeds
device-length what (Asked file words ∷ deeds) = device-length what deeds
device-length what (Got file words ∷ deeds) = device-length what deeds
device-length what (Answered place words ∷ deeds) = device-length what deeds
device-length what (Acted Nothing found ∷ deeds) = device-length what deeds
device-length what (Acted (Read sector) found ∷ deeds) = device-length what deeds
device-length what (Acted (Write sector words number) found ∷ deeds) =
    by (is_written (sectors_after what deeds) sector number) (device-length what deeds)
  where
    by : (done : Bool) → length (sectors_after what deeds) ≡ length (device_at_boot what)
        → length (if done then sectors_after what deeds else slice_set (sectors_after what deeds) sector
        (record { words = words; number = number })) ≡ length (device_at_boot what)
    by true same = same
    by false same = length-set (sectors_after what deeds) sector (record { words = words; number = number }) ∙ same

set-within : {A : Type 0} (xs : List A) (i : ℕ) (y : A) → i < length xs → slice_get (slice_set xs i y) i ≡ Some y
set-within [] i y within = absurd (omega (arith, within))
set-within (x ∷ xs) zero y within = refl
set-within (x ∷ xs) (suc i) y within = set-within xs i y (omega (arith, within))

module _ {site : Site} {number : ℕ} {spec : ProcessSpec} where
  -- the number of the last write is how many writes there were
  pub last-count : {deeds : List Deed} {core : Core} → HasDone site number spec deeds core
      → last_write_of core.state ≡ writes_in deeds
  last-count nothing_done = start-last spec.what
  last-count (one_more {before = core} done (goes at)) = inner-last core.state ∙ last-count done
  last-count (one_more {before = core} done (checkpoints at)) = checkpointed-last core.state ∙ last-count done
  last-count (one_more {before = core} done (takes {words = words} block at there)) =
      took-last core.state words ∙ last-count done
  last-count (one_more {before = core} done (asks at file words)) = asked-last core.state ∙ last-count done
  last-count (one_more {before = core} done (gets {words = words} at file)) =
      got-last core.state words ∙ last-count done
  last-count (one_more {before = core} done (answers opener block at hand known there words)) =
      answered-last core.state ∙ last-count done
  last-count (one_more {deeds = deeds} {before = core} done (acts {call = call} {found = found} at is)) =
      device-last core.state call found is ∙ ap (λ k. k + one_write call) (last-count done)
      ∙ sym (count-write call found deeds)

  -- a write has the next number
  pub write-count : {deeds : List Deed} {core : Core} {sector write : ℕ} {words found : List ℤ}
      → HasDone site number spec (Acted (Write sector words write) found ∷ deeds) core
      → write ≡ writes_in deeds + 1
  write-count {sector = sector} {write = write} {words = words} (one_more {before = core} done (acts at is)) =
      let next = write-next core.state {sector = sector} {words = words} (sym is) in let last =
      last-count done in omega (arith, next, last)

  -- no sector has the number of a write that wasn't done
  pub stored-most : {deeds : List Deed} {core : Core} → HasDone site number spec deeds core
      → (sector : ℕ) (stored : Stored)
      → slice_get (sectors_after spec.what deeds) sector ≡ Some stored → stored.number ≤ writes_in deeds
  stored-most nothing_done sector stored there =
      let first = ap (λ (s : Stored). s.number) (first-blank spec.what sector stored there) in omega (arith, first)
  stored-most (one_more done (goes at)) sector stored there = stored-most done sector stored there
  stored-most (one_more done (checkpoints at)) sector stored there = stored-most done sector stored there
  stored-most (one_more done (takes block at known)) sector stored there = stored-most done sector stored there
  stored-most (one_more done (asks at file words)) sector stored there = stored-most done sector stored there
  stored-most (one_more done (gets at file)) sector stored there = stored-most done sector stored there
  stored-most (one_more done (answers opener block at hand known stood words)) sector stored there =
      stored-most done sector stored there
  stored-most (one_more {deeds = deeds} {before = core} done (acts {call = call} {found = found} at is)) sector stored
      there =
      all-stored (λ (s : Stored). s.number ≤ writes_in (Acted call found ∷ deeds)) (sectors_after spec.what deeds) call
      (λ at old stood. let most = stored-most done at old stood in let more = count-write call found deeds in
      omega (arith, most, more))
      (λ at write words same.
      let next = write-next core.state {sector = at} {words = words} (sym is ∙ same) in
      let last = last-count done in
      let more = count-write call found deeds in
      let one : one_write call ≡ 1 = rw same refl in omega (arith, next, last, more, one)) sector stored there

  -- a write was not done before
  pub write-new : {deeds : List Deed} {core : Core} {sector write : ℕ} {words found : List ℤ}
      → HasDone site number spec (Acted (Write sector words write) found ∷ deeds) core
      → is_written (sectors_after spec.what deeds) sector write ≡ false
  write-new {deeds = deeds} {sector = sector} {write = write} {found = found} (one_more done (acts at is)) =
      by (slice_get (sectors_after spec.what deeds) sector) refl
      (write-count {found = found} (one_more done (acts at is))) (stored-most done sector)
    where
      by : (stored : Option Stored) → slice_get (sectors_after spec.what deeds) sector ≡ stored
          → write ≡ writes_in deeds + 1
          → ((stored : Stored) → slice_get (sectors_after spec.what deeds) sector ≡ Some stored
          → stored.number ≤ writes_in deeds) → is_of_write stored write ≡ false
      by None there next most = refl
      by (Some stored) there next most = elim (eqb_tells stored.number write) [
        | inl t ↦ (let few = most stored there in absurd (omega (arith, t.1, next, few)))
        | inr t ↦ t.0
      ]

  -- it is to a sector that is there, and stands there after it
  pub write-there : {deeds : List Deed} {core : Core} {sector write : ℕ} {words found : List ℤ}
      → HasDone site number spec (Acted (Write sector words write) found ∷ deeds) core
      → sector < length (sectors_after spec.what deeds)
  write-there {deeds = deeds} {sector = sector} {write = write} {words = words}
      (one_more {before = core} done (acts at is)) =
      by core.state (sym is) (done-kind done)
    where
      by : (s : ProcessState) → process.call_of s ≡ Write sector words write → kind_of s ≡ kind_without_mirror spec.what
          → sector < length (sectors_after spec.what deeds)
      by (Runs program s) is same = absurd (cc)
      by (Serves sectors s) is same =
          let many = device-length spec.what deeds in
          let all : length (device_at_boot spec.what) ≡ sectors =
          ap length (sym (same-device spec.what) ∙ ap device_at_boot (sym same)) ∙ length-replicate sectors blank in
          let there = (write-of sectors (s.last_write + 1) (unwrap_or s.request []) sector words write is).there in
          omega (arith, many, all, there)

  pub write-done : {deeds : List Deed} {core : Core} {sector write : ℕ} {words found : List ℤ}
      → HasDone site number spec (Acted (Write sector words write) found ∷ deeds) core
      → is_written (sectors_after spec.what (Acted (Write sector words write) found ∷ deeds)) sector write ≡ true
  write-done {deeds = deeds} {sector = sector} {write = write} {words = words} {found = found} done =
      let new = write-new {found = found} done in
      let there = write-there {found = found} done in
      rw new (rw (set-within (sectors_after spec.what deeds) sector (record { words = words; number = write }) there)
      (eq-eqb write write refl))

  -- each sector has 8 words, and so has what was found
  pub stored-eight : {deeds : List Deed} {core : Core} → HasDone site number spec deeds core
      → (sector : ℕ) (stored : Stored)
      → slice_get (sectors_after spec.what deeds) sector ≡ Some stored → length stored.words ≡ 8
  stored-eight nothing_done sector stored there =
      ap (λ (s : Stored). length s.words) (first-blank spec.what sector stored there)
  stored-eight (one_more done (goes at)) sector stored there = stored-eight done sector stored there
  stored-eight (one_more done (checkpoints at)) sector stored there = stored-eight done sector stored there
  stored-eight (one_more done (takes block at known)) sector stored there = stored-eight done sector stored there
  stored-eight (one_more done (asks at file words)) sector stored there = stored-eight done sector stored there
  stored-eight (one_more done (gets at file)) sector stored there = stored-eight done sector stored there
  stored-eight (one_more done (answers opener block at hand known stood words)) sector stored there =
      stored-eight done sector stored there
  stored-eight (one_more {deeds = deeds} {before = core} done (acts {call = call} at is)) sector stored there =
      all-stored (λ (s : Stored). length s.words ≡ 8) (sectors_after spec.what deeds) call
      (λ at old stood. stored-eight done at old stood)
      (λ at write words same. full core.state (sym is ∙ same)) sector stored there
    where
      full : (s : ProcessState) {at write : ℕ} {words : List ℤ} → process.call_of s ≡ Write at words write
          → length words ≡ 8
      full (Runs program s) is = absurd (cc)
      full (Serves sectors s) {at = at} {write = write} {words = words} is =
          (write-of sectors (s.last_write + 1) (unwrap_or s.request []) at words write is).full
