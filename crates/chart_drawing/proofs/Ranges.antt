-- What the numbers of a range give, one after another.
use Rattle.std.proofs.Common.{◌≡◌, ℕ, suc, ◌+◌, ◌-◌, ◌<◌, List, ◌++◌, ap, sym, ◌∙◌, arith, append_assoc}
use Rattle.std.proofs.Common.{flat_map}
use Rattle.std.specs.List.{range_with_len}

-- the first of those numbers that are left comes before the others
range-more : {A : Type 0} (give : ℕ → List A) (number count : ℕ) → number < count
    → flat_map give (range_with_len number (count - number))
    ≡ give number ++ flat_map give (range_with_len (number + 1) (count - (number + 1)))
range-more give number count within =
    let left : count - number ≡ suc (count - (number + 1)) = omega arith in
    ap (λ left. flat_map give (range_with_len number left)) left

-- once what a number gives was added, what is left comes after it
pub range-step : {A : Type 0} (give : ℕ → List A) (number count : ℕ) (told more : List A) → number < count
    → more ≡ told ++ give number
    → told ++ flat_map give (range_with_len number (count - number))
    ≡ more ++ flat_map give (range_with_len (number + 1) (count - (number + 1)))
range-step give number count told more within says =
    ap (λ rest. told ++ rest) (range-more give number count within)
    ∙ sym (append_assoc told (give number) (flat_map give (range_with_len (number + 1) (count - (number + 1)))))
    ∙ ap (λ all. all ++ flat_map give (range_with_len (number + 1) (count - (number + 1)))) (sym says)
