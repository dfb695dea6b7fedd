-- `wrap` gives the one word that differs from its number by a multiple of 65,536.
use Rattle.std.proofs.Common.{◌≡◌, ◌-◌, ◌%◌, ◌/◌, arith, ◌<◌, ◌≤◌, ◌⊎◌, ℕ, Bool, true, false, inl, inr, refl, ap}
use borrow.Author.Tests.{ltb-true, ltb-false, le-ltb}
use Rattle.std.proofs.lemmas.Int.{ints, SFits-int_wrap}
use Rattle.std.specs.Prelude.{nat_lt, ℤ, pos, negsuc, ◌+ℤ◌, ◌*ℤ◌}
use Rattle.std.specs.Int.{int_wrap, w16, cast_signed}
use Rattle.gd_words.specs.Arithmetic.{wrap, IsWrapOf}

by_test : (m n : ℕ) (b : Bool) → nat_lt m n ≡ b → (m < n) ⊎ (n ≤ m)
by_test m n true e = inl (ltb-true m n e)
by_test m n false e = inr (ltb-false m n e)

low_or_high : (m n : ℕ) → (m < n) ⊎ (n ≤ m)
low_or_high m n = by_test m n (nat_lt m n) refl

-- the word of a number below 65,536
low_word : (m : ℕ) → m < 32768 → cast_signed w16 m ≡ pos m
low_word m low = omega (arith, ints)

high_word : (m : ℕ) → 32768 ≤ m → m < 65536 → cast_signed w16 m ≡ negsuc (65535 - m)
high_word m high fits =
    let test : nat_lt m 32768 ≡ false = le-ltb m 32768 high in
    rw test (ap negsuc (omega arith))

-- m is the number's remainder
apart_from : (z w : ℤ) (m : ℕ) → m < 65536 → w ≡ cast_signed w16 m → (q : ℤ) → z ≡ pos m +ℤ (q *ℤ pos 65536)
    → (k : ℤ) × (z ≡ w +ℤ (k *ℤ pos 65536))
apart_from z w m fits e q h = elim (low_or_high m 32768) [
  | inl low ↦ (q, rw (e, low_word m low) h)
  | inr high ↦ (q +ℤ pos 1, rw (e, high_word m high fits) (omega (arith, ints)))
]

apart : (z : ℤ) → (k : ℤ) × (z ≡ wrap z +ℤ (k *ℤ pos 65536))
unfolding int_wrap
apart (pos n) = apart_from (pos n) (wrap (pos n)) (n % 65536) (omega arith) refl (pos (n / 65536)) (omega (arith, ints))
apart (negsuc n) = apart_from (negsuc n) (wrap (negsuc n)) (65535 - n % 65536) (omega arith) refl (negsuc (n / 65536))
    (omega (arith, ints))

pub is_wrap : (z : ℤ) → IsWrapOf z (wrap z)
is_wrap z = record { word = SFits-int_wrap w16 z; apart = apart z }

pub only_wrap : (z v w : ℤ) → IsWrapOf z v → IsWrapOf z w → v ≡ w
only_wrap z v w p q = omega (arith, ints, p.word, q.word, p.apart.1, q.apart.1)
