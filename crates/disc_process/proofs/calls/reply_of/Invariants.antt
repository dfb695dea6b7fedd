use Rattle.std.proofs.Common.{◌≡◌, ◌∷◌, pos, take}
use Rattle.disc_process.proofs.calls.reply_of.Given as goal

abbrev pub invariant-loop-word : goal.invariant-loop-word
invariant-loop-word l = l.reply ≡ pos 0 ∷ take l.word-index l.found
