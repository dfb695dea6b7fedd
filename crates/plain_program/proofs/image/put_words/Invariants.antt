use Rattle.std.proofs.Common.{◌≡◌, ◌++◌, take}
use Rattle.plain_program.proofs.image.put_words.Given as goal

abbrev pub invariant-loop-word : goal.invariant-loop-word
invariant-loop-word l = l.out ≡ l.initial.out ++ take l.word-index l.words
