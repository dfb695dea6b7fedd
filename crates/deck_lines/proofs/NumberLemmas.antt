-- Digits stay small.
use Rattle.std.proofs.Common.{ℕ, ◌<◌, ◌≤◌, ◌^◌, arith}
use Rattle.std.proofs.Math.Nat.{pow-le-pow_right}

-- what nine digits at most stand for
pub nine_digits : (k value : ℕ) → k < 10 → value < 10 ^ k → value < 1000000000
nine_digits k value few h =
    let most : 10 ^ k ≤ 10 ^ 9 = pow-le-pow_right {n = 10} (omega arith) {i = k} {j = 9} (omega arith) in
    omega arith
