use Rattle.std.proofs.Common.{◌≡◌, take}
use Rattle.tal_interp.proofs.apply.locals_of.Given as goal

abbrev pub invariant-loop-word : goal.invariant-loop-word
invariant-loop-word l = l.locals ≡ take l.word-index l.words
