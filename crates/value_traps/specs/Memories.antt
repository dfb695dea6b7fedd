-- What the guards read.
use Rattle.std.specs.Prelude.{pos, negsuc, [], ◌∷◌}
use Rattle.tal_tree.specs.declared.expression.Expr.{Expr, Number, Read, Two}
use Rattle.tal_tree.specs.declared.expression.Op.TheVariants.{Div}
use Rattle.tal_tree.specs.declared.expression.Spot.{Element}
use Rattle.tal_tree.specs.declared.program.Shape.TheVariants as shape
use Rattle.tal_values.specs.Value.{Memory}

-- a global that holds 7, and an array from -1 to 1 with 20, 30 and 40; no locals
abbrev pub an_array_and_a_word : Memory
an_array_and_a_word = record {
  items =
      record { name = 65 ∷ []; shape = shape.Simple }
      ∷ record { name = 66 ∷ []; shape = shape.Array (negsuc 0) (pos 1) }
      ∷ [];
  globals = (pos 7 ∷ []) ∷ (pos 20 ∷ pos 30 ∷ pos 40 ∷ []) ∷ [];
  locals = [];
}

-- 1 / 0
abbrev pub by_zero : Expr
by_zero = Two Div (Number (pos 1)) (Number (pos 0))

-- the element of index 9
abbrev pub out_of_bounds : Expr
out_of_bounds = Read (Element 1 (Number (pos 9)))
