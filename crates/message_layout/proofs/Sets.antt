-- Sets of processors are read back from their patterns.
use Rattle.std.proofs.Common.{◌≡◌, ◌<◌, ◌+◌, ◌*◌, ◌/◌, ◌%◌, ◌==◌, ℕ, zero, suc, ℤ, pos, Bool, true, false}
use Rattle.std.proofs.Common.{if◌then◌else◌, List, [], ◌∷◌, length, Some, None, refl, arith, ap, ap₂, sym, subst, ◌∙◌}
use Rattle.std.proofs.lemmas.Bool.{eq-eqb, eqb-true, le-leb, leb-true}
use Rattle.std.proofs.lemmas.Int.{of_z-to_z, to_z-of_z, SFits-int_wrap}
use Rattle.std.specs.Int.{w16, cast_signed, cast_unsigned}
use Rattle.std.specs.Prelude.{FitsSigned, negsuc}
use Rattle.alive_regroup.specs.declared.set.ProcessorSet.{ProcessorSet}
use Rattle.change_layout.specs.gd_words.specs.Arithmetic.{wrap}
use Rattle.world_semantics.specs.checkpoint_image.specs.Reading.{is_word}
use Rattle.world_semantics.specs.checkpoint_image.proofs.Patterns.{pattern-is}
use Rattle.world_semantics.specs.checkpoint_image.proofs.Readers.{WasWritten, IsReader}
use Rattle.message_layout.specs.Layout.{mask_of, mask_word}
use Rattle.message_layout.specs.Reading.{bits_of, set_told, set_in}

-- 2 to a power, step by step
abbrev two-power : ℕ → ℕ
two-power zero = 1
two-power (suc n) = 2 * two-power n

mask-below : (members : List Bool) → mask_of members < two-power (length members)
mask-below [] = omega arith
mask-below (true ∷ members) = let below = mask-below members in omega (arith, below)
mask-below (false ∷ members) = let below = mask-below members in omega (arith, below)

bits-again : (members : List Bool) → bits_of (length members) (mask_of members) ≡ members
bits-again [] = refl
bits-again (true ∷ members) =
    ap₂ (λ (one : Bool) (rest : ℕ). one ∷ bits_of (length members) rest) (eq-eqb _ 1 (odd (mask_of members)))
    (half (mask_of members))
    ∙ ap (λ (rest : List Bool). true ∷ rest) (bits-again members)
  where
    odd : (n : ℕ) → (1 + 2 * n) % 2 ≡ 1
    odd n = omega arith

    half : (n : ℕ) → (1 + 2 * n) / 2 ≡ n
    half n = omega arith
bits-again (false ∷ members) =
    ap₂ (λ (one : Bool) (rest : ℕ). one ∷ bits_of (length members) rest) (ap (λ n. n == 1) (even (mask_of members)))
    (half (mask_of members))
    ∙ ap (λ (rest : List Bool). false ∷ rest) (bits-again members)
  where
    even : (n : ℕ) → (0 + 2 * n) % 2 ≡ 0
    even n = omega arith

    half : (n : ℕ) → (0 + 2 * n) / 2 ≡ n
    half n = omega arith

no-one : (bit : ℕ) → (bit == 1) ≡ false → bit < 2 → bit ≡ 0
no-one zero is small = refl
no-one (suc zero) is small = absurd cc
no-one (suc (suc bit)) is small = absurd (omega (arith, small))

-- the lowest bit and the rest make the number
joined-again : (mask rest : ℕ) → rest ≡ mask / 2 → (odd : Bool) → (mask % 2 == 1) ≡ odd
    → (if odd then 1 else 0) + 2 * rest ≡ mask
joined-again mask rest same true is = let one = eqb-true (mask % 2) 1 is in omega (arith, one, same)
joined-again mask rest same false is = let none = no-one (mask % 2) is (omega arith) in omega (arith, none, same)

mask-again : (size mask : ℕ) → mask < two-power size → mask_of (bits_of size mask) ≡ mask
mask-again zero mask below = omega (arith, below)
mask-again (suc size) mask below =
    joined-again mask (mask_of (bits_of size (mask / 2))) (mask-again size (mask / 2) (omega (arith, below)))
    (mask % 2 == 1) refl

bits-size : (size number : ℕ) → length (bits_of size number) ≡ size
bits-size zero number = refl
bits-size (suc size) number = ap suc (bits-size size (number / 2))

word-fits : (z : ℤ) → is_word z ≡ true → FitsSigned w16 z
word-fits (pos n) is = record { sfits = leb-true (suc n) 32768 is }
word-fits (negsuc n) is = record { sfits = leb-true (suc n) 32768 is }

fits-word : (z : ℤ) → FitsSigned w16 z → is_word z ≡ true
fits-word (pos n) fits = le-leb (suc n) 32768 fits.sfits
fits-word (negsuc n) fits = le-leb (suc n) 32768 fits.sfits

word-again : (n : ℕ) → n < 65536 → is_word (cast_signed w16 n) ≡ true
word-again n small =
    subst (λ (z : ℤ). is_word z ≡ true) (pattern-is n small) (fits-word (wrap (pos n)) (SFits-int_wrap w16 (pos n)))

pub set-reads : IsReader (λ set. mask_word set ∷ []) (λ set. length set.members ≡ 16) set_in
set-reads = record { again = again; exact = exact }
  where
    again : (set : ProcessorSet) (left : List ℤ) → length set.members ≡ 16
        → set_in (mask_word set ∷ left) ≡ Some (set, left)
    again set left size =
        let small : mask_of set.members < 65536 =
        subst (λ (n : ℕ). mask_of set.members < two-power n) size (mask-below set.members) in
        ap (λ (b : Bool). if b then Some (set_told (mask_word set), left) else None)
        (word-again (mask_of set.members) small)
        ∙ ap (λ (n : ℕ). Some (record { members = bits_of 16 n }, left)) (of_z-to_z w16 (mask_of set.members) small)
        ∙ ap (λ (members : List Bool). Some (record { members = members }, left))
        (ap (λ (n : ℕ). bits_of n (mask_of set.members)) (sym size) ∙ bits-again set.members)

    exact : (words : List ℤ) → WasWritten (λ set. mask_word set ∷ []) (λ set. length set.members ≡ 16) words
        (set_in words)
    exact [] = tt
    exact (word ∷ left) = tested (is_word word) refl
      where
        tested : (b : Bool) → is_word word ≡ b
            → WasWritten (λ set. mask_word set ∷ []) (λ set. length set.members ≡ 16) (word ∷ left)
            (if b then Some (set_told word, left) else None)
        tested false is = tt
        tested true is =
            let fits = word-fits word is in (
              ap (λ (z : ℤ). z ∷ left)
                  (sym (to_z-of_z w16 word fits) ∙ ap (cast_signed w16)
                  (sym (mask-again 16 (cast_unsigned w16 word) (small word fits)))),
              bits-size 16 (cast_unsigned w16 word),
            )
          where
            small : (z : ℤ) → FitsSigned w16 z → cast_unsigned w16 z < 65536
            small (pos n) fits = omega (arith, fits.sfits)
            small (negsuc n) fits = omega arith
