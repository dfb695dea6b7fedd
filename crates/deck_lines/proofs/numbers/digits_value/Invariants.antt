use Rattle.std.proofs.Common.{◌≡◌, ◌<◌, ◌^◌, drop}
use Rattle.gd_words.specs.Digits.{value_from}
use Rattle.deck_lines.specs.Numbers.{digits_value}
use Rattle.deck_lines.proofs.numbers.digits_value.Given as goal

abbrev pub invariant-loop-c : goal.invariant-loop-c
invariant-loop-c l =
    (value_from 10 l.value (drop l.c-index l.digits) ≡ digits_value l.digits) × (l.value < 10 ^ l.c-index)
