-- One layer of a tree, for definitions by recursion. Such a definition matches the apostrophe constructors (`Minus'`,
-- `If'`), where a child, or a list of children, is a shape and a row; a caller has the plain ones (`Minus`, `If`).
-- These equations lead from the plain ones to the others, and no other file names how a child is hidden in its row.
use Rattle.std.specs.Prelude.{◌≡◌, ℕ, ℤ, Bool, List, [], ◌∷◌, refl}
use mathlib.Core.Former.{this, arity}
use denote.Hole.Carrier.{hidden}
use Rattle.gd_words.specs.formers.list.List as list
use Rattle.tal_tree.specs.declared.expression.Op.{Op}
use Rattle.tal_tree.specs.declared.expression.Variable.{Variable}
use Rattle.tal_tree.specs.declared.expression.Spot.{Spot}
use Rattle.tal_tree.specs.declared.expression.Expr.{Expr, Read, Read', Minus, Minus', Two, Two', end_of-Spot}
use Rattle.tal_tree.specs.declared.expression.Expr.{more_of-Spot, end_of-Expr, more_of-Expr}
use Rattle.tal_tree.specs.declared.expression.Expr.TheBlock.{shape-the_row-Spot-0, hidden-the_row-Spot-0}
use Rattle.tal_tree.specs.declared.expression.Expr.TheBlock.{shape-the_row-Expr-1, hidden-the_row-Expr-1}
use Rattle.tal_tree.specs.declared.expression.Cond.{Cond, Not, Not', And, And', Or, Or', end_of-Cond, more_of-Cond}
use Rattle.tal_tree.specs.declared.expression.Cond.TheBlock.{shape-the_row-Cond-0, hidden-the_row-Cond-0}
use Rattle.tal_tree.specs.declared.statement.Statement.{Statement}
use Rattle.tal_tree.specs.declared.statement.What.{If, If', While, While', For, For', DoUntil, DoUntil'}
use Rattle.tal_tree.specs.declared.statement.What.{Row_of-Statement, end_of-Statement, more_of-Statement}
use Rattle.tal_tree.specs.declared.statement.What.TheBlock.{shape-the_row-Statement-0, hidden-the_row-Statement-0}

pub read-is : (spot : Spot) → Read spot ≡ Read' tt (more_of-Spot spot end_of-Spot)
unfolding shape-the_row-Spot-0 hidden-the_row-Spot-0 hidden
read-is spot = refl

pub minus-is : (inner : Expr) → Minus inner ≡ Minus' tt (more_of-Expr inner end_of-Expr)
unfolding shape-the_row-Expr-1 hidden-the_row-Expr-1 hidden
minus-is inner = refl

pub two-is : (op : Op) (left right : Expr)
    → Two op left right ≡ Two' op tt (more_of-Expr left end_of-Expr) tt (more_of-Expr right end_of-Expr)
unfolding shape-the_row-Expr-1 hidden-the_row-Expr-1 hidden
two-is op left right = refl

pub not-is : (inner : Cond) → Not inner ≡ Not' tt (more_of-Cond inner end_of-Cond)
unfolding shape-the_row-Cond-0 hidden-the_row-Cond-0 hidden
not-is inner = refl

pub and-is : (left right : Cond) → And left right
    ≡ And' tt (more_of-Cond left end_of-Cond) tt (more_of-Cond right end_of-Cond)
unfolding shape-the_row-Cond-0 hidden-the_row-Cond-0 hidden
and-is left right = refl

pub or-is : (left right : Cond) → Or left right
    ≡ Or' tt (more_of-Cond left end_of-Cond) tt (more_of-Cond right end_of-Cond)
unfolding shape-the_row-Cond-0 hidden-the_row-Cond-0 hidden
or-is left right = refl

-- the shape of a list of statements: nothing but how many there are
abbrev pub places : List Statement → List (Unit {0})
places [] = []
places (statement ∷ rest) = tt ∷ places rest

-- the row of a list of statements
abbrev pub rows : (statements : List Statement)
    → Row_of-Statement (arity (list.the_former (this {0})) (places statements))
rows [] = end_of-Statement
rows (statement ∷ rest) = more_of-Statement statement.number statement.line statement.what (rows rest)

-- a shape with a row of as many statements
abbrev Hidden : Type 0
Hidden = (shape : List (Unit {0})) × Row_of-Statement (arity (list.the_former (this {0})) shape)

hidden-is : (statements : List Statement)
    → ◌≡◌ {A = Hidden} (shape-the_row-Statement-0 statements, hidden-the_row-Statement-0 statements)
    (places statements, rows statements)
unfolding shape-the_row-Statement-0 hidden-the_row-Statement-0 hidden
hidden-is [] = refl
hidden-is (statement ∷ rest) = λ i. (
  tt ∷ (hidden-is rest i).0,
  more_of-Statement statement.number statement.line statement.what (hidden-is rest i).1,
)

pub if-is : (test : Cond) (first second : List Statement)
    → If test first second ≡ If' test (places first) (rows first) (places second) (rows second)
if-is test first second =
    λ i. If' test (hidden-is first i).0 (hidden-is first i).1 (hidden-is second i).0 (hidden-is second i).1

pub while-is : (test : Cond) (body : List Statement) → While test body ≡ While' test (places body) (rows body)
while-is test body = λ i. While' test (hidden-is body i).0 (hidden-is body i).1

pub for-is : (variable : Variable) (from to : Expr) (down : Bool) (step : ℤ) (body : List Statement) (last : ℕ)
    → For variable from to down step body last ≡ For' variable from to down step (places body) (rows body) last
for-is variable from to down step body last =
    λ i. For' variable from to down step (hidden-is body i).0 (hidden-is body i).1 last

pub do-is : (body : List Statement) (test : Cond) → DoUntil body test ≡ DoUntil' (places body) (rows body) test
do-is body test = λ i. DoUntil' (hidden-is body i).0 (hidden-is body i).1 test
