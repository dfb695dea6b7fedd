-- What is taken out of a list of packets, if others were taken off before.
use Rattle.std.specs.List.{remove}
use Rattle.std.proofs.Common.{arith, ℕ, zero, suc, ◌+◌, ◌<◌, List, [], ◌∷◌, length, drop, ◌≡◌, ap, ◌∙◌}

pub drop-removed : {X : Type 0} (n k : ℕ) (xs : List X) → k < length (drop n xs)
    → drop n (remove xs (n + k)) ≡ remove (drop n xs) k
drop-removed zero k xs less = let same : 0 + k ≡ k = omega arith in ap (λ i. remove xs i) same
drop-removed (suc n) k [] less = absurd (omega (arith, less))
drop-removed (suc n) k (x ∷ xs) less =
    let same : suc n + k ≡ suc (n + k) = omega arith in
    ap (λ i. drop (suc n) (remove (x ∷ xs) i)) same ∙ drop-removed n k xs less
