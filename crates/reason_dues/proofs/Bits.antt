-- Sets of numbers are bits of a word.
use Rattle.std.proofs.Common.{◌≡◌, ◌<◌, ◌≤◌, ◌⊎◌, inl, inr, ℕ, zero, suc, ◌==◌, ◌-◌, ◌*◌, ◌^◌, ◌%◌, ◌||◌, ◌&&◌, not}
use Rattle.std.proofs.Common.{Bool, true, false, arith, refl, ap, sym, ◌∙◌, w64, eqb-true}
use Rattle.std.specs.Prelude.{IsTrue, min, max, bit_and, bit_or}
use Rattle.std.specs.Bool.{OnTrue}
use Rattle.std.specs.Int.{bit_at}
use Rattle.std.proofs.lemmas.Bool.{cases_eq}
use Rattle.std.proofs.lemmas.Nat.Bits.{bit_at_or, bit_at_and, bit_at-zero, bit_at_ones, bit_at_not, bit_at-lt}
use Rattle.std.proofs.lemmas.Nat.Bits.{bit_at_set_same, bit_at_set_other}

max-one : (a b : ℕ) → a < 2 → b < 2 → (max a b == 1) ≡ ((a == 1) || (b == 1))
max-one zero zero small also = refl
max-one zero (suc zero) small also = refl
max-one (suc zero) zero small also = refl
max-one (suc zero) (suc zero) small also = refl
max-one (suc (suc a)) b small also = absurd (omega arith)
max-one a (suc (suc b)) small also = absurd (omega arith)

min-one : (a b : ℕ) → a < 2 → b < 2 → (min a b == 1) ≡ ((a == 1) && (b == 1))
min-one zero zero small also = refl
min-one zero (suc zero) small also = refl
min-one (suc zero) zero small also = refl
min-one (suc zero) (suc zero) small also = refl
min-one (suc (suc a)) b small also = absurd (omega arith)
min-one a (suc (suc b)) small also = absurd (omega arith)

other-one : (a : ℕ) → a < 2 → (1 - a == 1) ≡ not (a == 1)
other-one zero small = refl
other-one (suc zero) small = refl
other-one (suc (suc a)) small = absurd (omega arith)

pub or-has : (a b n : ℕ) → (bit_at (bit_or a b) n == 1) ≡ ((bit_at a n == 1) || (bit_at b n == 1))
or-has a b n =
    ap (λ (m : ℕ). m == 1) (bit_at_or a b n) ∙ max-one (bit_at a n) (bit_at b n) (bit_at-lt a n) (bit_at-lt b n)

pub and-has : (a b n : ℕ) → (bit_at (bit_and a b) n == 1) ≡ ((bit_at a n == 1) && (bit_at b n == 1))
and-has a b n =
    ap (λ (m : ℕ). m == 1) (bit_at_and a b n) ∙ min-one (bit_at a n) (bit_at b n) (bit_at-lt a n) (bit_at-lt b n)

pub none-has : (n : ℕ) → (bit_at 0 n == 1) ≡ false
none-has n = ap (λ (m : ℕ). m == 1) (bit_at-zero n)

pub all-has : (n : ℕ) → n < 64 → (bit_at 18446744073709551615 n == 1) ≡ true
all-has n small = ap (λ (m : ℕ). m == 1) (bit_at_ones 64 n small)

pub other-has : (a n : ℕ) → a ≤ 18446744073709551615 → n < 64
    → (bit_at (18446744073709551615 - a) n == 1) ≡ not (bit_at a n == 1)
other-has a n fits small =
    ap (λ (m : ℕ). m == 1) (bit_at_not w64 a n (omega arith) small) ∙ other-one (bit_at a n) (bit_at-lt a n)

equal : (k n : ℕ) → k ≡ n → (k == n) ≡ true
equal k n same = grind arith

unequal : (k n : ℕ) → (k ≡ n → ⊥) → (k == n) ≡ false
unequal k n differ = grind arith

pub with-has : (a k n : ℕ) → k < 64 → n < 64
    → (bit_at (bit_or a (1 * 2 ^ k % 18446744073709551616)) n == 1) ≡ ((k == n) || (bit_at a n == 1))
with-has a k n within small = by_case (cases_eq k n)
  where
    by_case : (k ≡ n) ⊎ (k ≡ n → ⊥) → (bit_at (bit_or a (1 * 2 ^ k % 18446744073709551616)) n == 1)
        ≡ ((k == n) || (bit_at a n == 1))
    by_case (inl same) =
        let set : bit_at (bit_or a (1 * 2 ^ k % 18446744073709551616)) n ≡ 1 =
        ap (bit_at (bit_or a (1 * 2 ^ k % 18446744073709551616))) (sym same) ∙ bit_at_set_same w64 a k within in
        ap (λ (m : ℕ). m == 1) set ∙ sym (ap (λ (b : Bool). b || (bit_at a n == 1)) (equal k n same))
    by_case (inr differ) =
        ap (λ (m : ℕ). m == 1) (bit_at_set_other w64 a k within n (λ same. differ (sym same)))
        ∙ sym (ap (λ (b : Bool). b || (bit_at a n == 1)) (unequal k n differ))

pub past-has : (k n : ℕ) (b : Bool) → (k < 64 → ⊥) → n < 64 → b ≡ ((k == n) || b)
past-has k n b past small = sym (ap (λ (d : Bool). d || b) (apart k n past small))
  where
    apart : (k n : ℕ) → (k < 64 → ⊥) → n < 64 → (k == n) ≡ false
    apart k n past small = grind arith

pub among-has : (a b n : ℕ) → (bit_or a b == b) ≡ true → IsTrue (bit_at a n == 1) → IsTrue (bit_at b n == 1)
among-has a b n all has = by_case (bit_at a n == 1) (bit_at b n == 1)
    (sym (or-has a b n) ∙ ap (λ (m : ℕ). bit_at m n == 1) (eqb-true (bit_or a b) b all)) has
  where
    by_case : (p q : Bool) → (p || q) ≡ q → IsTrue p → IsTrue q
    by_case true true is holds = refl
    by_case true false is holds = absurd (let no : true ≡ false = is in cc)
    by_case false q is holds = absurd (let no : false ≡ true = holds in cc)

-- a list's first number moves from what is left into the set
pub moved : (first left set : Bool) → ((first || left) || set) ≡ (left || (first || set))
moved true true set = refl
moved true false set = refl
moved false true set = refl
moved false false set = refl

-- what holds where a test holds
pub when-true : (b : Bool) (P : Type 0) → (b ≡ true → P) → OnTrue b P
when-true true P holds = holds refl
when-true false P holds = tt
