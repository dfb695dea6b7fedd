use Rattle.std.proofs.Common.{◌≡◌, take}
use Rattle.process_semantics.proofs.counts.few_words.Given as goal

abbrev pub invariant-loop-word : goal.invariant-loop-word
invariant-loop-word l = l.all ≡ take l.word-index l.words
