-- Statements without lines, one layer at a time.
use Rattle.std.proofs.Common.{◌≡◌, ℕ, ℤ, Bool, List, [], ◌∷◌, ◌++◌, refl, ap, ◌∙◌}
use Rattle.tal_tree.specs.Rows.{if-is, while-is, for-is, do-is, rows}
use Rattle.tal_tree.specs.declared.expression.Cond.{Cond}
use Rattle.tal_tree.specs.declared.expression.Expr.{Expr}
use Rattle.tal_tree.specs.declared.expression.Variable.{Variable}
use Rattle.tal_tree.specs.declared.statement.Statement.{Statement}
use Rattle.tal_tree.specs.declared.statement.What.TheVariants as what
use Rattle.tal_pieces.specs.Unlined.{unlined_what, unlined_row, unlined_statements}

unlined_row_is : (xs : List Statement) → unlined_row (rows xs) ≡ unlined_statements xs
unlined_row_is [] = refl
unlined_row_is (x ∷ xs) =
    ap (λ rest. record { number = x.number; line = 0; what = unlined_what x.what } ∷ rest) (unlined_row_is xs)

pub unlined_if : (c : Cond) (xs ys : List Statement)
    → unlined_what (what.If c xs ys) ≡ what.If c (unlined_statements xs) (unlined_statements ys)
unlined_if c xs ys = ap unlined_what (if-is c xs ys) ∙ (λ i. what.If c (unlined_row_is xs i) (unlined_row_is ys i))

pub unlined_while : (c : Cond) (body : List Statement)
    → unlined_what (what.While c body) ≡ what.While c (unlined_statements body)
unlined_while c body = ap unlined_what (while-is c body) ∙ ap (what.While c) (unlined_row_is body)

pub unlined_for : (x : Variable) (from to : Expr) (down : Bool) (step : ℤ) (body : List Statement) (last : ℕ)
    → unlined_what (what.For x from to down step body last)
    ≡ what.For x from to down step (unlined_statements body) last
unlined_for x from to down step body last =
    ap unlined_what (for-is x from to down step body last)
    ∙ ap (λ xs. what.For x from to down step xs last) (unlined_row_is body)

pub unlined_do : (body : List Statement) (c : Cond)
    → unlined_what (what.DoUntil body c) ≡ what.DoUntil (unlined_statements body) c
unlined_do body c = ap unlined_what (do-is body c) ∙ ap (λ xs. what.DoUntil xs c) (unlined_row_is body)

pub unlined_append : (xs ys : List Statement)
    → unlined_statements (xs ++ ys) ≡ unlined_statements xs ++ unlined_statements ys
unlined_append [] ys = refl
unlined_append (x ∷ xs) ys =
    ap (λ rest. record { number = x.number; line = 0; what = unlined_what x.what } ∷ rest) (unlined_append xs ys)
