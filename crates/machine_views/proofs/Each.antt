-- What numbers give, one after another.
use Rattle.std.proofs.Common.{◌≡◌, ℕ, zero, suc, ◌+◌, ◌-◌, ◌<◌, ◌≤◌, List, ◌++◌, ap, sym, ◌∙◌, arith, append_assoc}
use Rattle.std.proofs.lemmas.List.{append-nil}
use Rattle.machine_views.specs.Views.{each_number}

-- the first of those numbers that are left comes before the others
each-more : {A : Type 0} (give : ℕ → List A) (number count : ℕ) → number < count
    → each_number give number (count - number) ≡ give number ++ each_number give (number + 1) (count - (number + 1))
each-more give number count within =
    let left : count - number ≡ suc (count - (number + 1)) = omega arith in
    ap (λ left. each_number give number left) left

-- once what a number gives was added, what is left comes after it
pub number-step : {A : Type 0} (give : ℕ → List A) (number count : ℕ) (told more : List A) → number < count
    → more ≡ told ++ give number
    → told ++ each_number give number (count - number) ≡ more ++ each_number give (number + 1) (count - (number + 1))
number-step give number count told more within says =
    ap (λ rest. told ++ rest) (each-more give number count within)
    ∙ sym (append_assoc told (give number) (each_number give (number + 1) (count - (number + 1))))
    ∙ ap (λ all. all ++ each_number give (number + 1) (count - (number + 1))) (sym says)

-- once all numbers gave theirs, nothing is left
pub numbers-end : {A : Type 0} (give : ℕ → List A) (number count : ℕ) (told : List A) → count ≤ number
    → told ++ each_number give number (count - number) ≡ told
numbers-end give number count told past =
    let none : count - number ≡ zero = omega (arith, past) in
    ap (λ left. told ++ each_number give number left) none ∙ append-nil told
