-- Numbers that go on one by one, as statements without faults have them.
use Rattle.std.proofs.Common.{◌≡◌, ℕ, zero, suc, ◌+◌, ◌≤◌, arith, nat_lt, Bool, true, false, List, [], ◌∷◌, ◌++◌}
use Rattle.std.proofs.Common.{length, refl, sym, ap, subst, if◌then◌else◌}
use Rattle.std.proofs.lemmas.Bool.{ltb-true}
use Rattle.tal_faultless.specs.tal_rules.specs.Statements.{next_number}
use Rattle.tal_laws.proofs.Counting.{CountUp}

-- these numbers go on from one number up to another, and each is at most 2,000
abbrev pub GoOn : ℕ → List ℕ → ℕ → Type 0
GoOn from [] to = from ≡ to
GoOn from (n ∷ ns) to = (n ≡ from) × ((from ≤ 2000) × GoOn (from + 1) ns to)

pub go_on_append : (a b c : ℕ) (xs ys : List ℕ) → GoOn a xs b → GoOn b ys c → GoOn a (xs ++ ys) c
go_on_append a b c [] ys x y = subst (λ from. GoOn from ys c) (sym x) y
go_on_append a b c (n ∷ xs) ys x y = (x.0, (x.1.0, go_on_append (a + 1) b c xs ys x.1.1 y))

pub rises : (a b : ℕ) (ns : List ℕ) → GoOn a ns b → a ≤ b
rises a b [] x = omega (arith, x)
rises a b (n ∷ ns) x = omega (arith, rises (a + 1) b ns x.1.1)

pub counts_up : (a b : ℕ) (ns : List ℕ) → GoOn a ns b → CountUp a ns
counts_up a b [] x k n there = absurd (cc there)
counts_up a b (m ∷ ns) x zero n there = let same : m ≡ n = cc there in omega (arith, same, x.0)
counts_up a b (m ∷ ns) x (suc k) n there = omega (arith, counts_up (a + 1) b ns x.1.1 k n there)

pub few : (a b : ℕ) (ns : List ℕ) → GoOn a ns b → a ≤ 2001 → a + length ns ≤ 2001
few a b [] x low = omega (arith, low)
few a b (n ∷ ns) x low = omega (arith, few (a + 1) b ns x.1.1 (omega (arith, x.1.0)))

-- the number after one within the limit, and after one whose successor is
pub next_counted : (n : ℕ) → nat_lt 2000 n ≡ false → next_number n ≡ n + 1
next_counted n counted = ap (λ b. if b then n else n + 1) counted

pub next_within : (n : ℕ) → next_number n ≤ 2000 → next_number n ≡ n + 1
next_within n low = by (nat_lt 2000 n) refl
  where
    by : (b : Bool) → nat_lt 2000 n ≡ b → next_number n ≡ n + 1
    by true e =
        let same : next_number n ≡ n = ap (λ b. if b then n else n + 1) e in
        absurd (omega (arith, low, same, ltb-true 2000 n e))
    by false e = next_counted n e
