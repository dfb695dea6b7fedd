-- The pieces of values and conditions. Parentheses stand only where an operator binds less than its place wants.
use Rattle.std.specs.Prelude.{ℕ, Bool, true, false, List, [], ◌∷◌, slice_get, if◌then◌else◌}
use Rattle.tal_tree.specs.declared.expression.Op.{Op}
use Rattle.tal_tree.specs.declared.expression.Op.TheVariants as op
use Rattle.tal_tree.specs.declared.expression.Rel.{Rel}
use Rattle.tal_tree.specs.declared.expression.Rel.TheVariants as rel
use Rattle.tal_tree.specs.declared.expression.Spot.{Spot, Local, Simple, Element}
use Rattle.tal_tree.specs.declared.expression.Expr.{Expr, Number, Read', Minus', Two', Row_of-Spot, end_of-Spot}
use Rattle.tal_tree.specs.declared.expression.Expr.{more_of-Spot, Row_of-Expr, end_of-Expr, more_of-Expr}
use Rattle.tal_tree.specs.declared.expression.Cond.{Cond, Truth, Compare, Not', And', Or', Row_of-Cond, end_of-Cond}
use Rattle.tal_tree.specs.declared.expression.Cond.{more_of-Cond}
use Rattle.tal_tree.specs.declared.program.Program.{Program}
use Rattle.tal_pieces.specs.declared.piece.Keyword.TheVariants as word
use Rattle.tal_pieces.specs.declared.piece.Symbol.{Symbol}
use Rattle.tal_pieces.specs.declared.piece.Symbol.TheVariants as sign
use Rattle.tal_pieces.specs.declared.piece.Piece.{Piece}
use Rattle.tal_pieces.specs.declared.piece.Piece.TheVariants as piece
use Rattle.tal_pieces.specs.declared.rank.ValueRank.{ValueRank}
use Rattle.tal_pieces.specs.declared.rank.ValueRank.TheVariants as value
use Rattle.tal_pieces.specs.declared.rank.TestRank.{TestRank}
use Rattle.tal_pieces.specs.declared.rank.TestRank.TheVariants as test
use Rattle.tal_pieces.specs.Printed.Names.{named, item_name}

-- an opening and a closing parenthesis, where they are needed
abbrev pub opening : Bool → List Piece → List Piece
opening needed ks = if needed then piece.Symbol sign.Open ∷ ks else ks

abbrev pub closing : Bool → List Piece → List Piece
closing needed ks = if needed then piece.Symbol sign.Close ∷ ks else ks

abbrev pub op_symbol : Op → Symbol
op_symbol op.Add = sign.Plus
op_symbol op.Sub = sign.Minus
op_symbol op.Mul = sign.Star
op_symbol op.Div = sign.Slash

abbrev pub rel_symbol : Rel → Symbol
rel_symbol rel.Equal = sign.Equal
rel_symbol rel.Differs = sign.Differs
rel_symbol rel.Less = sign.Less
rel_symbol rel.AtMost = sign.AtMost
rel_symbol rel.Greater = sign.Greater
rel_symbol rel.AtLeast = sign.AtLeast

-- a sum may stand in a sum's place alone, and a product in a product's too
abbrev pub value_needs : ValueRank → Op → Bool
value_needs value.Sum o = false
value_needs value.Product op.Add = true
value_needs value.Product op.Sub = true
value_needs value.Product op.Mul = false
value_needs value.Product op.Div = false
value_needs value.Factor o = true

-- a chain leans to the left: what stands left of an operator may be a chain of its kind, and what stands right of it
-- binds more
abbrev pub left_rank : Op → ValueRank
left_rank op.Add = value.Sum
left_rank op.Sub = value.Sum
left_rank op.Mul = value.Product
left_rank op.Div = value.Product

abbrev pub right_rank : Op → ValueRank
right_rank op.Add = value.Product
right_rank op.Sub = value.Product
right_rank op.Mul = value.Factor
right_rank op.Div = value.Factor

-- a chain of OR may stand in its own place alone, one of AND not behind NOT and AND
abbrev pub or_needs : TestRank → Bool
or_needs test.Or = false
or_needs test.And = true
or_needs test.Not = true

abbrev pub and_needs : TestRank → Bool
and_needs test.Or = false
and_needs test.And = false
and_needs test.Not = true

module _ (p : Program) (locals : List (List ℕ)) where
  -- a value in a place of this rank
  abbrev mutual
    pub value_pieces : ValueRank → Expr → List Piece → List Piece
    value_pieces r (Number n) ks = piece.Number n ∷ ks
    value_pieces r (Read' _ row) ks = spot_in row ks
    value_pieces r (Minus' _ row) ks = piece.Symbol sign.Minus ∷ value_in value.Factor row ks
    value_pieces r (Two' o _ left _ right) ks =
        opening (value_needs r o) (value_in (left_rank o) left
        (piece.Symbol (op_symbol o) ∷ value_in (right_rank o) right (closing (value_needs r o) ks)))

    pub spot_pieces : Spot → List Piece → List Piece
    spot_pieces (Local place) ks = named (slice_get locals place) ks
    spot_pieces (Simple item) ks = named (item_name p item) ks
    spot_pieces (Element item index) ks =
        named (item_name p item) (piece.Symbol sign.OpenIndex
        ∷ value_pieces value.Sum index (piece.Symbol sign.CloseIndex ∷ ks))

    -- a box's one child: an empty row stands in no tree
    pub spot_in : {n : _} → Row_of-Spot n → List Piece → List Piece
    spot_in end_of-Spot ks = ks
    spot_in (more_of-Spot spot _) ks = spot_pieces spot ks

    pub value_in : {n : _} → ValueRank → Row_of-Expr n → List Piece → List Piece
    value_in r end_of-Expr ks = ks
    value_in r (more_of-Expr expr _) ks = value_pieces r expr ks

  -- a condition in a place of this rank
  abbrev mutual
    pub test_pieces : TestRank → Cond → List Piece → List Piece
    test_pieces r (Truth expr) ks = value_pieces value.Sum expr ks
    test_pieces r (Compare o left right) ks =
        value_pieces value.Sum left (piece.Symbol (rel_symbol o) ∷ value_pieces value.Sum right ks)
    test_pieces r (Not' _ row) ks = piece.Keyword word.Not ∷ test_in test.Not row ks
    test_pieces r (And' _ left _ right) ks =
        opening (and_needs r) (test_in test.And left
        (piece.Keyword word.And ∷ test_in test.Not right (closing (and_needs r) ks)))
    test_pieces r (Or' _ left _ right) ks =
        opening (or_needs r) (test_in test.Or left
        (piece.Keyword word.Or ∷ test_in test.And right (closing (or_needs r) ks)))

    pub test_in : {n : _} → TestRank → Row_of-Cond n → List Piece → List Piece
    test_in r end_of-Cond ks = ks
    test_in r (more_of-Cond test _) ks = test_pieces r test ks

  -- more values of a list
  abbrev pub more_values : List Expr → List Piece → List Piece
  more_values [] ks = ks
  more_values (expr ∷ rest) ks = piece.Symbol sign.Comma ∷ value_pieces value.Sum expr (more_values rest ks)

  -- the values of a call, in a list where there are any
  abbrev pub arguments : List Expr → List Piece → List Piece
  arguments [] ks = ks
  arguments (expr ∷ rest) ks =
      piece.Symbol sign.Open ∷ value_pieces value.Sum expr (more_values rest (piece.Symbol sign.Close ∷ ks))
