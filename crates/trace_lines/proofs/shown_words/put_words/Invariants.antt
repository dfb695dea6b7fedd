use Rattle.std.proofs.Common.{◌≡◌, ◌++◌, flat_map, take}
use Rattle.trace_lines.specs.ShownWords.{word_text}
use Rattle.trace_lines.proofs.shown_words.put_words.Given as goal

abbrev pub invariant-loop-word : goal.invariant-loop-word
invariant-loop-word l = l.text ≡ l.initial.text ++ flat_map word_text (take l.word-index l.words)
