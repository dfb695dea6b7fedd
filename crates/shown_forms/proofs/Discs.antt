-- What a disc does to its device, and what it answers.
use Rattle.std.proofs.Common.{◌≡◌, ℕ, ◌-◌, ◌≤◌, ◌==◌, nat_le, nat_lt, ◌&&◌, ℤ, pos, negsuc, Bool, true, false}
use Rattle.std.proofs.Common.{if◌then◌else◌, List, [], ◌∷◌, length, Option, Some, None, refl, sym, ap, ◌∙◌}
use Rattle.std.proofs.Common.{arith, length-append}
use Rattle.std.specs.Prelude.{replicate}
use Rattle.std.specs.Ordering.{int_eq}
use Rattle.std.proofs.lemmas.Bool.{and_parts, leb-true}
use Rattle.std.proofs.lemmas.List.{length-replicate}
use Rattle.gd_words.specs.declared.device.DeviceCall.{DeviceCall}
use Rattle.gd_words.specs.declared.device.DeviceCall.TheVariants.{Nothing, Read, Write}
use Rattle.process_semantics.specs.Disc.{call_at, call_of, filled, reply_of, sector_of}
use Rattle.told_reports.specs.Words.{AreWords}
use Rattle.shown_forms.specs.Numbers.{IsMessage}
use Rattle.shown_forms.proofs.Lists.{append-words, zero-words}

-- eight words
abbrev pub IsSectorWords : List ℤ → Type 0
IsSectorWords words = AreWords words × (length words ≡ 8)

-- a write is of a sector of so many, with eight words
abbrev pub IsCallOn : ℕ → DeviceCall → Type 0
IsCallOn sectors (Write sector words number) = (nat_lt sector sectors ≡ true) × IsSectorWords words
IsCallOn sectors _ = Unit {0}

filled-length : (words : List ℤ) → length words ≤ 8 → length (filled words) ≡ 8
filled-length words few =
    let both = length-append words (replicate (8 - length words) (pos 0)) in
    let others = length-replicate (8 - length words) (pos 0) in
    omega (arith, both, others, few)

written-on : (sectors number sector : ℕ) (words : List ℤ) (reads writes : Bool)
    → (writes ≡ true → length words ≤ 8) → nat_lt sector sectors ≡ true → AreWords words
    → IsCallOn sectors (if reads then Read sector else if writes then Write sector (filled words) number else Nothing)
written-on sectors number sector words true writes few there are = tt
written-on sectors number sector words false false few there are = tt
written-on sectors number sector words false true few there are = (
  there,
  (
    append-words words (replicate (8 - length words) (pos 0)) are (zero-words (8 - length words)),
    filled-length words (few refl),
  ),
)

at-call : (sectors number : ℕ) (kind at : ℤ) (words : List ℤ) (o : Option ℕ) → sector_of sectors at ≡ o
    → AreWords words → IsCallOn sectors (call_at number kind words o)
at-call sectors number kind at words None e are = tt
at-call sectors number kind at words (Some sector) e are =
    written-on sectors number sector words (int_eq kind (pos 1) && (length words == 0))
    (int_eq kind (pos 2) && nat_le 1 (length words) && nat_le (length words) 8)
    (λ writes. leb-true (length words) 8
    (and_parts (int_eq kind (pos 2) && nat_le 1 (length words)) (nat_le (length words) 8) writes).1)
    (there at e) are
  where
    by : (n : ℕ) (b : Bool) → nat_lt n sectors ≡ b → (if b then Some n else None) ≡ Some sector
        → nat_lt sector sectors ≡ true
    by n true low e = let same : n ≡ sector = cc e in ap (λ (k : ℕ). nat_lt k sectors) (sym same) ∙ low
    by n false low e = absurd (cc e)

    there : (at : ℤ) → sector_of sectors at ≡ Some sector → nat_lt sector sectors ≡ true
    there (pos n) e = by n (nat_lt n sectors) refl e
    there (negsuc n) e = absurd (cc e)

pub call-on : (sectors number : ℕ) (words : List ℤ) → AreWords words → IsCallOn sectors (call_of sectors number words)
call-on sectors number [] are = tt
call-on sectors number (kind ∷ []) are = tt
call-on sectors number (kind ∷ at ∷ words) are =
    at-call sectors number kind at words (sector_of sectors at) refl are.1.1

pub reply-message : (call : DeviceCall) (found : List ℤ) → IsSectorWords found → IsMessage (reply_of call found)
reply-message Nothing found is = ((omega arith, tt), omega arith)
reply-message (Read sector) found is = ((omega arith, is.0), omega (arith, is.1))
reply-message (Write sector words number) found is = ((omega arith, tt), omega arith)
