use Rattle.std.proofs.Common.{take}
use Rattle.tal_tokens.specs.gd_words.specs.declared.limits.TheConstants.{MOST_LEVELS as deepest}
use Rattle.tal_recogniser.proofs.Exact.{Reached}
use Rattle.tal_recogniser.proofs.recogniser.judge.Given as goal

-- the tokens so far are taken, and none of them stands too deep
abbrev pub invariant-loop-k : goal.invariant-loop-k
invariant-loop-k l = Reached deepest (take l.k l.tokens) l.stack
