-- Lists with one item changed.
use Rattle.std.proofs.Common.{◌≡◌, ◌≢◌, ℕ, zero, suc, List, [], ◌∷◌, Some, slice_get, slice_set, refl, subst, arith}
use Rattle.world_semantics.proofs.Lists.{some-same}

-- what holds of the other items, and of the new one where it takes the place of an old one, holds of all
pub set-one : {A : Type 0} (P : ℕ → A → Type 0) (xs : List A) (i : ℕ) (y : A)
    → ((j : ℕ) (z : A) → i ≢ j → slice_get xs j ≡ Some z → P j z)
    → ((old : A) → slice_get xs i ≡ Some old → P i y) → (j : ℕ) (z : A) → slice_get (slice_set xs i y) j ≡ Some z
    → P j z
set-one P [] i y others new j z e = absurd (cc)
set-one P (x ∷ xs) zero y others new zero z e = subst (P zero) (some-same e) (new x refl)
set-one P (x ∷ xs) zero y others new (suc j) z e = others (suc j) z (λ s. cc) e
set-one P (x ∷ xs) (suc i) y others new zero z e = others zero z (λ s. cc) e
set-one P (x ∷ xs) (suc i) y others new (suc j) z e =
    set-one (λ k. P (suc k)) xs i y (λ k v apart there.
    others (suc k) v (λ s. let t : i ≡ k = omega (arith, s) in apart t) there) new j z e
