use Rattle.std.proofs.Common.{◌≡◌, take}
use Rattle.message_words.proofs.unread.words_of.Given as goal

abbrev pub invariant-loop-word : goal.invariant-loop-word
invariant-loop-word l = l.all ≡ take l.word-index l.words
