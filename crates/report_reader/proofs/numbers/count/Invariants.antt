use Rattle.std.proofs.Common.{◌≡◌, ◌+◌, ◌≤◌, length}
use Rattle.report_reader.specs.Numbers.{are_words}
use Rattle.report_reader.specs.Parts.{parts_of}
use Rattle.report_reader.proofs.ReadLemmas.{words_more}
use Rattle.report_reader.proofs.numbers.count.Given as goal

-- so many words were counted
abbrev pub invariant-loop-word : goal.invariant-loop-word
invariant-loop-word l =
    (are_words (parts_of 32 l.text) ≡ words_more l.count (are_words (parts_of 32 l.rest)))
    × (l.count + length l.rest ≤ length l.text)

abbrev pub decreases-loop-word : goal.decreases-loop-word
decreases-loop-word l = length l.rest
