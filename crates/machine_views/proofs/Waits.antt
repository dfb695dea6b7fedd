-- Taking one more of a list.
use Rattle.std.proofs.Common.{◌≡◌, ℕ, zero, suc, ◌+◌, List, [], ◌∷◌, ◌++◌, take, slice_get, refl, ap, arith}
use Rattle.std.specs.Prelude.{option_to_list}

pub take-next : {A : Type 0} (xs : List A) (k : ℕ) → take (k + 1) xs ≡ take k xs ++ option_to_list (slice_get xs k)
take-next [] zero = refl
take-next [] (suc k) = let e : suc k + 1 ≡ suc (k + 1) = omega arith in rw e refl
take-next (x ∷ xs) zero = refl
take-next (x ∷ xs) (suc k) =
    let e : suc k + 1 ≡ suc (k + 1) = omega arith in rw e (ap (λ rest. x ∷ rest) (take-next xs k))
