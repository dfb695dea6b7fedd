use Rattle.std.proofs.Common.{◌≡◌, take}
use Rattle.tal_table.proofs.works.codes_of.Given as goal

abbrev pub invariant-loop-argument : goal.invariant-loop-argument
invariant-loop-argument l = l.codes ≡ take l.argument-index l.arguments
