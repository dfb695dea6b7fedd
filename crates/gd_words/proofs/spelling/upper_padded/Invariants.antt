use Rattle.std.proofs.Common.{◌≡◌, take}
use Rattle.gd_words.specs.Spelling.{text_with_zeros, upper}
use Rattle.gd_words.proofs.spelling.upper_padded.Given as goal

-- the bytes so far in upper case, and zeros
abbrev pub invariant-loop-k : goal.invariant-loop-k
invariant-loop-k g l = l.bytes ≡ text_with_zeros g.row.N (upper (take l.k l.text))
