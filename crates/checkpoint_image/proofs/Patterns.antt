-- Numbers of 16 and 32 bits stand in their patterns.
use Rattle.std.proofs.Common.{◌≡◌, ℕ, ◌+◌, ◌*◌, ◌/◌, ◌%◌, ◌<◌, ◌^◌, suc, ℤ, pos, negsuc, Bool, true, false}
use Rattle.std.proofs.Common.{if◌then◌else◌, ◌&&◌, List, [], ◌∷◌, ◌++◌, Some, None, refl, ap, ap₂, sym, ◌∙◌, arith}
use Rattle.std.proofs.lemmas.Bool.{le-leb, leb-true}
use Rattle.std.proofs.lemmas.Int.{of_z-to_z, to_z-of_z, SFits-int_wrap}
use Rattle.std.specs.Int.{w16, cast_signed, cast_unsigned, int_wrap}
use Rattle.std.specs.Prelude.{FitsSigned}
use Rattle.process_images.specs.gd_words.specs.Arithmetic.{wrap}
use Rattle.process_images.specs.process_semantics.specs.Words.{half_of, long, long_in}
use Rattle.checkpoint_image.specs.Reading.{is_word, pair_in}
use Rattle.checkpoint_image.proofs.Readers.{WasWritten, IsReader}

pub pattern-is : (n : ℕ) → n < 65536 → wrap (pos n) ≡ cast_signed w16 n
unfolding int_wrap
pattern-is n small = ap (cast_signed w16) (omega (arith, small))

half-is : (z : ℤ) → half_of z ≡ cast_unsigned w16 z
half-is (pos n) = refl
half-is (negsuc n) = omega arith

half-again : (n : ℕ) → n < 65536 → half_of (wrap (pos n)) ≡ n
half-again n small = half-is (wrap (pos n)) ∙ ap (cast_unsigned w16) (pattern-is n small) ∙ of_z-to_z w16 n small

half-small : (z : ℤ) → FitsSigned w16 z → half_of z < 65536
half-small (pos n) fits = omega (arith, fits.sfits)
half-small (negsuc n) fits = omega arith

pattern-again : (z : ℤ) → FitsSigned w16 z → wrap (pos (half_of z)) ≡ z
pattern-again z fits =
    pattern-is (half_of z) (half-small z fits) ∙ ap (cast_signed w16) (half-is z) ∙ to_z-of_z w16 z fits

long-again : (n : ℕ) (left : List ℤ) → n < 2 ^ 32 → long_in (long n ++ left) ≡ Some (n, left)
long-again n left small =
    ap₂ (λ (high low : ℕ). Some (high * 65536 + low, left)) (half-again (n / 65536) (omega (arith, small)))
    (half-again (n % 65536) (omega arith))
    ∙ ap (λ (k : ℕ). Some (k, left)) (omega arith)

long-small : (high low : ℤ) → FitsSigned w16 high → FitsSigned w16 low → half_of high * 65536 + half_of low < 2 ^ 32
long-small high low fits_high fits_low = omega (arith, half-small high fits_high, half-small low fits_low)

long-words : (high low : ℤ) (left : List ℤ) → FitsSigned w16 high → FitsSigned w16 low
    → high ∷ low ∷ left ≡ long (half_of high * 65536 + half_of low) ++ left
long-words high low left fits_high fits_low =
    let h = half_of high in
    let l = half_of low in
    let first : (h * 65536 + l) / 65536 ≡ h = omega (arith, half-small low fits_low) in
    let second : (h * 65536 + l) % 65536 ≡ l = omega (arith, half-small low fits_low) in
    ap₂ (λ (x y : ℤ). x ∷ y ∷ left) (sym (ap (λ (k : ℕ). wrap (pos k)) first ∙ pattern-again high fits_high))
    (sym (ap (λ (k : ℕ). wrap (pos k)) second ∙ pattern-again low fits_low))

is-word : (z : ℤ) → FitsSigned w16 z → is_word z ≡ true
is-word (pos n) fits = le-leb (suc n) 32768 fits.sfits
is-word (negsuc n) fits = le-leb (suc n) 32768 fits.sfits

fits-word : (z : ℤ) → is_word z ≡ true → FitsSigned w16 z
fits-word (pos n) is = record { sfits = leb-true (suc n) 32768 is }
fits-word (negsuc n) is = record { sfits = leb-true (suc n) 32768 is }

pub pair-reads : IsReader long (λ n. n < 2 ^ 32) pair_in
pair-reads = record { again = again; exact = exact }
  where
    again : (n : ℕ) (left : List ℤ) → n < 2 ^ 32 → pair_in (long n ++ left) ≡ Some (n, left)
    again n left small =
        let high : is_word (wrap (pos (n / 65536))) ≡ true = is-word _ (SFits-int_wrap w16 (pos (n / 65536))) in
        let low : is_word (wrap (pos (n % 65536))) ≡ true = is-word _ (SFits-int_wrap w16 (pos (n % 65536))) in
        ap₂ (λ (a b : Bool). if a && b then long_in (long n ++ left) else None) high low ∙ long-again n left small

    tested : (high low : ℤ) (left : List ℤ) (a b : Bool) → is_word high ≡ a → is_word low ≡ b
        → WasWritten long (λ n. n < 2 ^ 32) (high ∷ low ∷ left) (if a && b then long_in (high ∷ low ∷ left) else None)
    tested high low left true true is_high is_low =
        let fits_high = fits-word high is_high in
        let fits_low = fits-word low is_low in
        (long-words high low left fits_high fits_low, long-small high low fits_high fits_low)
    tested high low left true false is_high is_low = tt
    tested high low left false b is_high is_low = tt

    exact : (words : List ℤ) → WasWritten long (λ n. n < 2 ^ 32) words (pair_in words)
    exact [] = tt
    exact (high ∷ []) = tt
    exact (high ∷ low ∷ left) = tested high low left (is_word high) (is_word low) refl refl
