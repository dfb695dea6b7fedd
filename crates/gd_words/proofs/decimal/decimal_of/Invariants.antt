use Rattle.std.proofs.Common.{◌≡◌, take}
use Rattle.gd_words.proofs.decimal.decimal_of.Given as goal

abbrev pub invariant-loop-byte : goal.invariant-loop-byte
invariant-loop-byte l = l.digits.items ≡ take l.byte-index l.text
