-- Where no packet stands at a position none is taken off.
use Rattle.std.proofs.Common.{◌≡◌, ℕ, zero, suc, List, [], ◌∷◌, None, slice_get, refl, ap}
use Rattle.std.specs.List.{remove}

pub none_removed : {A : Type 0} (xs : List A) (k : ℕ) → slice_get xs k ≡ None → remove xs k ≡ xs
none_removed [] zero none = refl
none_removed [] (suc k) none = refl
none_removed (x ∷ xs) zero none = absurd (cc)
none_removed (x ∷ xs) (suc k) none = ap (λ rest. x ∷ rest) (none_removed xs k none)
