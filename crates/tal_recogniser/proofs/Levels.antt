-- A level stands open for each of its ends in the stack.
use Rattle.std.proofs.Common.{◌≤◌, [], ◌∷◌, length, arith}
use Rattle.tal_recogniser.specs.declared.symbol.Symbol.TheVariants as sym
use Rattle.tal_recogniser.specs.ExpressionTable.{Stack}
use Rattle.tal_recogniser.specs.Machine.{open_levels}

pub few_levels : (ss : Stack) → open_levels ss ≤ length ss
few_levels [] = omega arith
few_levels (sym.LevelEnd ∷ ss) = let h : open_levels ss ≤ length ss = few_levels ss in omega arith
few_levels (s ∷ ss) = let h : open_levels ss ≤ length ss = few_levels ss in omega arith
