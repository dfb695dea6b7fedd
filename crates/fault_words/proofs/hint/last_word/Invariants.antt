use Rattle.std.proofs.Common.{◌≡◌, [], length}
use Rattle.deck_lines.specs.Lines.{words_of}
use Rattle.fault_words.specs.Hints.{last_after}
use Rattle.fault_words.proofs.hint.last_word.Given as goal

-- the last of the words that are left, or else the one before them
abbrev pub invariant-loop-word : goal.invariant-loop-word
invariant-loop-word l = last_after l.last (words_of l.left) ≡ last_after [] (words_of l.text)

abbrev pub decreases-loop-word : goal.decreases-loop-word
decreases-loop-word l = length l.left
