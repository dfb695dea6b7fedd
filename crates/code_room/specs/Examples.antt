-- What the guards name.
use Rattle.std.specs.Prelude.{ℕ, zero, suc, pos, false, [], ◌∷◌, codes}
use Rattle.tal_tree.specs.declared.expression.Cond.{Cond, Truth, And, Or}
use Rattle.tal_tree.specs.declared.expression.Expr.{Expr, Number, Minus, Two}
use Rattle.tal_tree.specs.declared.expression.Op.TheVariants.{Add, Sub, Mul}
use Rattle.tal_tree.specs.declared.expression.Spot.{Local}
use Rattle.tal_tree.specs.declared.program.Procedure.{Procedure}
use Rattle.tal_tree.specs.declared.program.Program.{Program}
use Rattle.tal_tree.specs.declared.statement.Statement.{Statement}
use Rattle.tal_tree.specs.declared.statement.What.{What}
use Rattle.tal_tree.specs.declared.statement.What.TheVariants as what

abbrev pub one : Expr
one = Number (pos 1)

-- `1 - 1 - 1` and so on
abbrev pub differences : ℕ → Expr
differences zero = one
differences (suc n) = Two Sub (differences n) one

-- `1 + 1 * 1 + 1 * 1` and so on
abbrev pub sum_of_products : ℕ → Expr
sum_of_products zero = one
sum_of_products (suc n) = Two Add (sum_of_products n) (Two Mul one one)

-- `1 - -(1 - -(1 - -1))` and so on
abbrev pub nested : ℕ → Expr
nested zero = one
nested (suc n) = Two Sub one (Minus (nested n))

-- `1 AND 1 AND 1` and so on
abbrev pub chained_tests : ℕ → Cond
chained_tests zero = Truth one
chained_tests (suc n) = And (chained_tests n) (Truth one)

-- `1 OR (1 OR (1 OR 1))` and so on
abbrev pub nested_tests : ℕ → Cond
nested_tests zero = Truth one
nested_tests (suc n) = Or (Truth one) (nested_tests n)

abbrev pub numbered : ℕ → What → Statement
numbered number it = record { number = number; line = number; what = it }

abbrev pub procedure_of : What → Procedure
procedure_of it = record { name = codes "P"; gives = false; parameters = 0; locals = []; body = numbered 1 it ∷ [] }

-- the second procedure of this program computes `1 - -1` in a WHILE after an ELSE
abbrev pub deep_inside : Program
deep_inside = record {
  items = [];
  files = [];
  procedures = procedure_of what.Stop ∷ procedure_of
      (what.If (Truth one) [] (numbered 2 (what.While (Truth one) (numbered 3 (what.Assign (Local 0) (nested 1)) ∷ []))
      ∷ [])) ∷ [];
  main = 0;
}
