-- How deep the tokens of a printed condition stand below its place.
use Rattle.std.specs.Prelude.{◌≤◌, ℕ, ◌+◌, max, List}
use Rattle.tal_tree.specs.declared.expression.Cond.{Cond, Truth, Compare, Not', And', Or', Row_of-Cond, end_of-Cond}
use Rattle.tal_tree.specs.declared.expression.Cond.{more_of-Cond}
use Rattle.tal_syntax.specs.Grammar as g
use Rattle.tal_syntax.specs.Expected.{AllAtMost}
use Rattle.tal_syntax.specs.Nesting.{nest_expr}
use Rattle.tal_names.specs.declared.scope.Scope.{Scope}
use Rattle.tal_meaning.specs.Expressions.{cond_of_expr}
use Rattle.tal_pieces.specs.declared.rank.TestRank.{TestRank}
use Rattle.tal_pieces.specs.declared.rank.TestRank.TheVariants as test
use Rattle.tal_pieces.specs.declared.rank.ValueRank.TheVariants as value
use Rattle.tal_pieces.proofs.Values.Depths.{enclosed, value_depth}
use Rattle.tal_pieces.specs.Printed.Expressions.{and_needs, or_needs}

-- how many levels the deepest token of a condition opens in a place of this rank: NOT opens one, and so does a
-- parenthesis
abbrev mutual
  pub test_depth : TestRank → Cond → ℕ
  test_depth r (Truth e) = value_depth value.Sum e
  test_depth r (Compare o left right) = max (value_depth value.Sum left) (value_depth value.Sum right)
  test_depth r (Not' _ row) = test_depth_in test.Not row + 1
  test_depth r (And' _ left _ right) =
      enclosed (and_needs r) (max (test_depth_in test.And left) (test_depth_in test.Not right))
  test_depth r (Or' _ left _ right) =
      enclosed (or_needs r) (max (test_depth_in test.Or left) (test_depth_in test.And right))

  pub test_depth_in : {n : _} → TestRank → Row_of-Cond n → ℕ
  test_depth_in r end_of-Cond = 0
  test_depth_in r (more_of-Cond cond _) = test_depth r cond

-- no text of a condition opens fewer levels than its printed one
abbrev pub PrintedTestIsNoDeeper : Scope → Type 0
PrintedTestIsNoDeeper s =
    (e : g.Expr) (n most : ℕ) (levels : List ℕ) → AllAtMost most (nest_expr n e levels)
    → n + test_depth test.Or (cond_of_expr s e) ≤ most
