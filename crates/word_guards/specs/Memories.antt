-- What the guards of values read.
use Rattle.std.specs.Prelude.{pos, negsuc, [], ◌∷◌}
use Rattle.tal_tree.specs.declared.program.Shape.TheVariants as shape
use Rattle.tal_tree.specs.declared.expression.Expr.{Expr, Number, Two}
use Rattle.tal_tree.specs.declared.expression.Op.TheVariants.{Div}
use Rattle.tal_values.specs.Value.{Memory}

-- a global that holds 7, an array from -2 to 0 with 10, 20 and 30, and a local that holds 8
abbrev pub one_of_each : Memory
one_of_each = record {
  items =
      record { name = 65 ∷ []; shape = shape.Simple }
      ∷ record { name = 66 ∷ []; shape = shape.Array (negsuc 1) (pos 0) }
      ∷ [];
  globals = (pos 7 ∷ []) ∷ (pos 10 ∷ pos 20 ∷ pos 30 ∷ []) ∷ [];
  locals = pos 8 ∷ [];
}

-- 1 / 0
abbrev pub zero_divided : Expr
zero_divided = Two Div (Number (pos 1)) (Number (pos 0))
