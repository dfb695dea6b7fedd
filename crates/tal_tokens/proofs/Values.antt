-- The values of digits.
use Rattle.std.proofs.Common.{◌≡◌, ℕ, ◌+◌, ◌-◌, ◌*◌, ◌<◌, ◌≤◌, zero, suc, List, [], ◌∷◌, length, drop, get_or, None}
use Rattle.std.proofs.Common.{nat_le, false, refl, ap, sym, ◌∙◌, arith}
use Rattle.std.proofs.lemmas.Bool.{lt-leb}
use Rattle.std.proofs.Math.Seq.{drop-cons}
use Rattle.tal_tokens.specs.Lexeme.{at_most}
use Rattle.tal_tree.specs.gd_words.specs.Digits.{value_from}

times : (v base : ℕ) → 1 ≤ base → v ≤ v * base
times v zero one = absurd (omega arith)
times v (suc b) one = grind arith

-- further digits make no number smaller
pub value-grows : (base v : ℕ) (digits : List ℕ) → 1 ≤ base → v ≤ value_from base v digits
value-grows base v [] one = omega arith
value-grows base v (c ∷ digits) one =
    let more : v * base + (c - 48) ≤ value_from base (v * base + (c - 48)) digits =
    value-grows base (v * base + (c - 48)) digits one in
    let no_less : v ≤ v * base = times v base one in
    omega arith

-- a number that is too large at one of its digits is too large
pub exceeded : (base most v k : ℕ) (digits : List ℕ) (d : ℕ) → k < length digits → 1 ≤ base
    → value_from base v (drop k digits) ≡ value_from base 0 digits
    → most < v * base + (get_or digits k d - 48) → None ≡ at_most most (value_from base 0 digits)
exceeded base most v k digits d within one e large =
    let next : ℕ = v * base + (get_or digits k d - 48) in
    let whole : value_from base next (drop (suc k) digits) ≡ value_from base 0 digits =
    ap (value_from base v) (sym (drop-cons digits k d within)) ∙ e in
    let high : most < value_from base 0 digits = omega (arith, value-grows base next (drop (suc k) digits) one) in
    let test : nat_le (value_from base 0 digits) most ≡ false = lt-leb (value_from base 0 digits) most high in
    rw test refl
