use Rattle.std.proofs.Common.{◌≡◌, ◌≤◌, drop}
use Rattle.tal_tree.specs.gd_words.specs.Digits.{value_from}
use Rattle.tal_tokens.proofs.number.number.Given as goal

-- the digits that are left bring the value to the whole number
abbrev pub invariant-loop-digit : goal.invariant-loop-digit
invariant-loop-digit l =
    (value_from l.base l.value (drop l.digit-index l.digits) ≡ value_from l.base 0 l.digits) × (l.value ≤ l.most)
