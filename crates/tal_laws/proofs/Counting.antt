-- Numbers that count up: none stands twice, and each is within their count.
use Rattle.std.proofs.Common.{◌≡◌, inl, inr, ℕ, suc, ◌+◌, ◌<◌, ◌≤◌, arith, List, [], ◌∷◌, length, slice_get, Some, refl}
use Rattle.gd_words.specs.Members.{AreDistinct, IsAmong}

-- the first of these numbers is this one, and each later one is one more than the one before
abbrev pub CountUp : ℕ → List ℕ → Type 0
CountUp from ns = (k n : ℕ) → slice_get ns k ≡ Some n → n ≡ k + from

later : (from m : ℕ) (ns : List ℕ) → CountUp from (m ∷ ns) → CountUp (from + 1) ns
later from m ns up k n there = omega (arith, up (suc k) n there)

pub counted-within : (from : ℕ) (ns : List ℕ) → CountUp from ns → (n : ℕ) → IsAmong n ns
    → (from ≤ n) × (n < from + length ns)
counted-within from [] up n among = absurd among
counted-within from (m ∷ ns) up n (inl same) = (omega (arith, up 0 m refl, same), omega (arith, up 0 m refl, same))
counted-within from (m ∷ ns) up n (inr among) =
    let own = counted-within (from + 1) ns (later from m ns up) n among in (omega (arith, own.0), omega (arith, own.1))

pub counted-distinct : (from : ℕ) (ns : List ℕ) → CountUp from ns → AreDistinct ns
counted-distinct from [] up = tt
counted-distinct from (m ∷ ns) up = (
  (λ among. absurd (omega (arith, up 0 m refl, (counted-within (from + 1) ns (later from m ns up) m among).0))),
  counted-distinct (from + 1) ns (later from m ns up),
)
