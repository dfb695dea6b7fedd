use Rattle.std.proofs.Common.{◌≡◌, ◌+◌, ◌*◌, ◌≤◌, ◌++◌, length, take}
use Rattle.trace_print.specs.NumbersText.{numbers_text}
use Rattle.trace_print.proofs.line.Line.numbers.Given as goal

abbrev pub invariant-loop-number : goal.invariant-loop-number
invariant-loop-number l =
    (l.self ≡ l.initial.self ++ numbers_text (take l.number-index l.numbers))
    × (length l.self ≤ length l.initial.self + 21 * l.number-index)
