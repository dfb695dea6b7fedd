use Rattle.std.proofs.Common.{◌≡◌, length}
use Rattle.deck_lines.specs.Lines.{words_of}
use Rattle.deck_lines.specs.SayingOf.{are_words}
use Rattle.deck_lines.proofs.saying.are_words.Given as goal

abbrev pub invariant-loop-word : goal.invariant-loop-word
invariant-loop-word l = are_words (words_of l.rest) ≡ are_words (words_of l.parts)

abbrev pub decreases-loop-word : goal.decreases-loop-word
decreases-loop-word l = length l.rest
