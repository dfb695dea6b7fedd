-- Places of an array that are used up to a count.
use Rattle.std.proofs.Common.{◌≡◌, ℕ, ◌+◌, ◌-◌, ◌<◌, ◌≤◌, List, [], ◌∷◌, ◌++◌, length, get_or, take, drop, arith, ap}
use Rattle.std.proofs.Common.{sym, ◌∙◌}
use Rattle.std.specs.Prelude.{reverse}
use Rattle.std.proofs.lemmas.List.{take_more, reverse-append}

pub take-less : {A : Type 0} (xs : List A) (n : ℕ) (d : A) → 0 < n → n ≤ length xs
    → reverse (take (n - 1) xs) ≡ drop 1 (reverse (take n xs))
take-less xs n d some within =
    let there : n - 1 < length xs = omega arith in
    let whole : n - 1 + 1 ≡ n = omega arith in
    let more : take n xs ≡ take (n - 1) xs ++ get_or xs (n - 1) d ∷ [] =
    ap (λ k. take k xs) (sym whole) ∙ take_more xs (n - 1) d there in
    sym (ap (λ ys. drop 1 (reverse ys)) more
    ∙ ap (drop 1) (reverse-append (take (n - 1) xs) (get_or xs (n - 1) d ∷ [])))
