use Rattle.std.proofs.Common.{length}
use Rattle.deck_lines.specs.Lines.{words_of}
use Rattle.deck_lines.proofs.RequestLemmas.{IsReadUpTo}
use Rattle.deck_lines.proofs.saying.request_of.Given as goal

abbrev pub invariant-loop-word : goal.invariant-loop-word
invariant-loop-word l = IsReadUpTo (words_of l.parts) (words_of l.rest) l.words

abbrev pub decreases-loop-word : goal.decreases-loop-word
decreases-loop-word l = length l.rest
