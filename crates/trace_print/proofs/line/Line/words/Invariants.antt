use Rattle.std.proofs.Common.{◌≡◌, ◌+◌, ◌*◌, ◌≤◌, ◌++◌, length, take}
use Rattle.trace_print.specs.NumbersText.{words_text}
use Rattle.trace_print.proofs.line.Line.words.Given as goal

abbrev pub invariant-loop-word : goal.invariant-loop-word
invariant-loop-word l =
    (l.self ≡ l.initial.self ++ words_text (take l.word-index l.words))
    × (length l.self ≤ length l.initial.self + 21 * l.word-index)
