-- Words of 16 bits and their wrapped arithmetic. That signed arithmetic wraps without an overflow trap is this
-- project's own rule.
use Rattle.std.specs.Prelude.{◌≡◌, ℤ, pos, negsuc, zero, suc, Option, Some, None, FitsSigned, int_div}
use Rattle.std.specs.Int.{int_wrap, w16}
use lib.IntN.{◌+ℤ◌, ◌*ℤ◌}

-- the word that stands for a number
abbrev pub wrap : ℤ → ℤ
wrap z = int_wrap w16 z

-- what `wrap` means: the word w differs from the number z by a multiple of 65,536
pub record IsWrapOf (z w : ℤ) : Type 0 where
  pub word : FitsSigned w16 w
  pub apart : (k : ℤ) × (z ≡ w +ℤ (k *ℤ pos 65536))

-- the wrapped quotient, truncated toward zero; none where the divisor is 0
abbrev pub quotient : ℤ → ℤ → Option ℤ
quotient a (pos zero) = None
quotient a (pos (suc n)) = Some (wrap (int_div a (pos (suc n))))
quotient a (negsuc n) = Some (wrap (int_div a (negsuc n)))
