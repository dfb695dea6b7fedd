-- Counts that haven't reached their limit.
use Rattle.std.proofs.Common.{◌≡◌, ◌≤◌, ℕ, suc, ◌+◌, min, nat_le, false, ap, ◌∙◌, arith, if◌then◌else◌}
use Rattle.std.proofs.lemmas.Bool.{leb-false, lt-leb}
use Rattle.tal_meaning.specs.tal_rules.specs.Statements.{next_file}

pub min_is : (most n : ℕ) → n ≤ most → min most n ≡ n
min_is most n e = omega (arith, e)

pub limit_is : (most n : ℕ) → nat_le most n ≡ false → min most n ≡ n
limit_is most n e = omega (arith, leb-false most n e)

-- the number of the file after one below the limit
pub next_is : (n : ℕ) → nat_le 8 n ≡ false → next_file n ≡ suc n
next_is n few = ap (λ b. if b then n else n + 1) (lt-leb 9 n (omega (arith, leb-false 8 n few))) ∙ omega arith
