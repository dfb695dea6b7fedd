-- How deep the tokens of a printed value stand below its place.
use Rattle.std.specs.Prelude.{◌≤◌, ℕ, ◌+◌, max, Bool, List, if◌then◌else◌}
use Rattle.tal_tree.specs.declared.expression.Spot.{Spot, Local, Simple, Element}
use Rattle.tal_tree.specs.declared.expression.Expr.{Expr, Number, Read', Minus', Two', Row_of-Spot, end_of-Spot}
use Rattle.tal_tree.specs.declared.expression.Expr.{more_of-Spot, Row_of-Expr, end_of-Expr, more_of-Expr}
use Rattle.tal_syntax.specs.Grammar as g
use Rattle.tal_syntax.specs.Expected.{AllAtMost}
use Rattle.tal_syntax.specs.Nesting.{nest_sum}
use Rattle.tal_names.specs.declared.scope.Scope.{Scope}
use Rattle.tal_meaning.specs.Expressions.{value_of_sum}
use Rattle.tal_pieces.specs.declared.rank.ValueRank.{ValueRank}
use Rattle.tal_pieces.specs.declared.rank.ValueRank.TheVariants as value
use Rattle.tal_pieces.specs.Printed.Expressions.{value_needs, left_rank, right_rank}

-- one level more in parentheses
abbrev pub enclosed : Bool → ℕ → ℕ
enclosed needed depth = if needed then depth + 1 else depth

-- how many levels the deepest token of a value opens in a place of this rank: a minus, an index and a parenthesis open
-- one each
abbrev mutual
  pub value_depth : ValueRank → Expr → ℕ
  value_depth r (Number n) = 0
  value_depth r (Read' _ row) = spot_depth_in row
  value_depth r (Minus' _ row) = value_depth_in value.Factor row + 1
  value_depth r (Two' o _ left _ right) =
      enclosed (value_needs r o) (max (value_depth_in (left_rank o) left) (value_depth_in (right_rank o) right))

  pub spot_depth : Spot → ℕ
  spot_depth (Local place) = 0
  spot_depth (Simple item) = 0
  spot_depth (Element item index) = value_depth value.Sum index + 1

  pub spot_depth_in : {n : _} → Row_of-Spot n → ℕ
  spot_depth_in end_of-Spot = 0
  spot_depth_in (more_of-Spot spot _) = spot_depth spot

  pub value_depth_in : {n : _} → ValueRank → Row_of-Expr n → ℕ
  value_depth_in r end_of-Expr = 0
  value_depth_in r (more_of-Expr expr _) = value_depth r expr

-- no text of a value opens fewer levels than its printed one
abbrev pub PrintedIsNoDeeper : Scope → Type 0
PrintedIsNoDeeper s =
    (x : g.Sum) (n most : ℕ) (levels : List ℕ) → AllAtMost most (nest_sum n x levels)
    → n + value_depth value.Sum (value_of_sum s x) ≤ most
