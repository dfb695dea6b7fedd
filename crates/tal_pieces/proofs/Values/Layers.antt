-- The pieces and the weight of one more layer of a tree.
use Rattle.std.proofs.Common.{◌≡◌, ◌≤◌, ℕ, ℤ, zero, suc, ◌+◌, Bool, List, [], ◌∷◌, take, drop, refl, ap, ap₂, ◌∙◌}
use Rattle.std.proofs.Common.{arith}
use Rattle.tal_tree.specs.Rows.{read-is, minus-is, two-is, not-is, and-is, or-is, if-is, while-is, for-is, do-is}
use Rattle.tal_tree.specs.Rows.{rows}
use Rattle.tal_tree.specs.declared.expression.Op.{Op}
use Rattle.tal_tree.specs.declared.expression.Spot.{Spot}
use Rattle.tal_tree.specs.declared.expression.Expr.{Expr, Read, Minus, Two}
use Rattle.tal_tree.specs.declared.expression.Cond.{Cond, Not, And, Or}
use Rattle.tal_tree.specs.declared.expression.Variable.{Variable}
use Rattle.tal_tree.specs.declared.program.Program.{Program}
use Rattle.tal_tree.specs.declared.statement.Statement.{Statement}
use Rattle.tal_tree.specs.declared.statement.What.{If, While, For, DoUntil}
use Rattle.tal_pieces.specs.declared.piece.Keyword.TheVariants as word
use Rattle.tal_pieces.specs.declared.piece.Symbol.TheVariants as sign
use Rattle.tal_pieces.specs.declared.piece.Piece.{Piece}
use Rattle.tal_pieces.specs.declared.piece.Piece.TheVariants as piece
use Rattle.tal_pieces.specs.declared.rank.ValueRank.{ValueRank}
use Rattle.tal_pieces.specs.declared.rank.ValueRank.TheVariants as value
use Rattle.tal_pieces.specs.declared.rank.TestRank.{TestRank}
use Rattle.tal_pieces.specs.declared.rank.TestRank.TheVariants as test
use Rattle.tal_pieces.specs.Printed.Expressions.{opening, closing, op_symbol, value_needs, left_rank, right_rank}
use Rattle.tal_pieces.specs.Printed.Expressions.{and_needs, or_needs, value_pieces, spot_pieces, test_pieces}
use Rattle.tal_pieces.specs.Printed.Names.{named, variable_name}
use Rattle.tal_pieces.specs.Printed.Statements.{direction_word, step_pieces, what_pieces, inner_pieces}
use Rattle.tal_pieces.specs.Printed.Statements.{more_statements, inner_row, more_row}
use Rattle.tal_pieces.specs.Weights.{value_weight, spot_weight, test_weight, what_weight, row_weight, statements_weight}
use Rattle.tal_pieces.specs.Weights.{list_weight}

pub pieces_read : (p : Program) (locals : List (List ℕ)) (r : ValueRank) (spot : Spot) (ks : List Piece)
    → value_pieces p locals r (Read spot) ks ≡ spot_pieces p locals spot ks
pieces_read p locals r spot ks = ap (λ e. value_pieces p locals r e ks) (read-is spot)

pub pieces_minus : (p : Program) (locals : List (List ℕ)) (r : ValueRank) (inner : Expr) (ks : List Piece)
    → value_pieces p locals r (Minus inner) ks ≡ piece.Symbol sign.Minus ∷ value_pieces p locals value.Factor inner ks
pieces_minus p locals r inner ks = ap (λ e. value_pieces p locals r e ks) (minus-is inner)

pub pieces_two : (p : Program) (locals : List (List ℕ)) (r : ValueRank) (o : Op) (left right : Expr) (ks : List Piece)
    → value_pieces p locals r (Two o left right) ks
    ≡ opening (value_needs r o) (value_pieces p locals (left_rank o) left
    (piece.Symbol (op_symbol o) ∷ value_pieces p locals (right_rank o) right (closing (value_needs r o) ks)))
pieces_two p locals r o left right ks = ap (λ e. value_pieces p locals r e ks) (two-is o left right)

pub pieces_not : (p : Program) (locals : List (List ℕ)) (r : TestRank) (inner : Cond) (ks : List Piece)
    → test_pieces p locals r (Not inner) ks ≡ piece.Keyword word.Not ∷ test_pieces p locals test.Not inner ks
pieces_not p locals r inner ks = ap (λ c. test_pieces p locals r c ks) (not-is inner)

pub pieces_and : (p : Program) (locals : List (List ℕ)) (r : TestRank) (left right : Cond) (ks : List Piece)
    → test_pieces p locals r (And left right) ks
    ≡ opening (and_needs r) (test_pieces p locals test.And left
    (piece.Keyword word.And ∷ test_pieces p locals test.Not right (closing (and_needs r) ks)))
pieces_and p locals r left right ks = ap (λ c. test_pieces p locals r c ks) (and-is left right)

pub pieces_or : (p : Program) (locals : List (List ℕ)) (r : TestRank) (left right : Cond) (ks : List Piece)
    → test_pieces p locals r (Or left right) ks
    ≡ opening (or_needs r) (test_pieces p locals test.Or left
    (piece.Keyword word.Or ∷ test_pieces p locals test.And right (closing (or_needs r) ks)))
pieces_or p locals r left right ks = ap (λ c. test_pieces p locals r c ks) (or-is left right)

pub weight_read : (spot : Spot) → value_weight (Read spot) ≡ spot_weight spot + 1
weight_read spot = ap value_weight (read-is spot)

pub weight_minus : (inner : Expr) → value_weight (Minus inner) ≡ value_weight inner + 2
weight_minus inner = ap value_weight (minus-is inner)

pub weight_two : (o : Op) (left right : Expr)
    → value_weight (Two o left right) ≡ value_weight left + value_weight right + 4
weight_two o left right = ap value_weight (two-is o left right)

pub weight_not : (inner : Cond) → test_weight (Not inner) ≡ test_weight inner + 2
weight_not inner = ap test_weight (not-is inner)

pub weight_and : (left right : Cond) → test_weight (And left right) ≡ test_weight left + test_weight right + 4
weight_and left right = ap test_weight (and-is left right)

pub weight_or : (left right : Cond) → test_weight (Or left right) ≡ test_weight left + test_weight right + 4
weight_or left right = ap test_weight (or-is left right)

-- statements in their row, and in a list
module _ (p : Program) (locals : List (List ℕ)) where
  more_is : (statements : List Statement) (ks : List Piece)
      → more_row p locals (rows statements) ks ≡ more_statements p locals statements ks
  more_is [] ks = refl
  more_is (s ∷ rest) ks = ap (λ xs. piece.Symbol sign.Semicolon ∷ what_pieces p locals s.what xs) (more_is rest ks)

  inner_is : (statements : List Statement) (ks : List Piece)
      → inner_row p locals (rows statements) ks ≡ inner_pieces p locals statements ks
  inner_is [] ks = refl
  inner_is (s ∷ []) ks = refl
  inner_is (s ∷ next ∷ rest) ks =
      ap (λ xs. piece.Keyword word.Begin ∷ what_pieces p locals s.what
      (piece.Symbol sign.Semicolon ∷ what_pieces p locals next.what xs))
      (more_is rest (piece.Keyword word.End ∷ ks))

row_weight_is : (statements : List Statement) → row_weight (rows statements) ≡ statements_weight statements
row_weight_is [] = refl
row_weight_is (s ∷ rest) = ap (λ n. what_weight s.what + n + 2) (row_weight_is rest)

pub pieces_if : (p : Program) (locals : List (List ℕ)) (cond : Cond) (first second : List Statement) (ks : List Piece)
    → what_pieces p locals (If cond first second) ks
    ≡ piece.Keyword word.If ∷ test_pieces p locals test.Or cond
    (piece.Keyword word.Then ∷ inner_pieces p locals first
    (piece.Keyword word.Else ∷ inner_pieces p locals second ks))
pieces_if p locals cond first second ks =
    ap (λ w. what_pieces p locals w ks) (if-is cond first second)
    ∙ ap (λ xs. piece.Keyword word.If ∷ test_pieces p locals test.Or cond (piece.Keyword word.Then ∷ xs))
    (inner_is p locals first (piece.Keyword word.Else ∷ inner_row p locals (rows second) ks)
    ∙ ap (λ xs. inner_pieces p locals first (piece.Keyword word.Else ∷ xs)) (inner_is p locals second ks))

pub pieces_while : (p : Program) (locals : List (List ℕ)) (cond : Cond) (body : List Statement) (ks : List Piece)
    → what_pieces p locals (While cond body) ks
    ≡ piece.Keyword word.While ∷ test_pieces p locals test.Or cond
    (piece.Keyword word.Do ∷ inner_pieces p locals body ks)
pieces_while p locals cond body ks =
    ap (λ w. what_pieces p locals w ks) (while-is cond body)
    ∙ ap (λ xs. piece.Keyword word.While ∷ test_pieces p locals test.Or cond (piece.Keyword word.Do ∷ xs))
    (inner_is p locals body ks)

pub pieces_for : (p : Program) (locals : List (List ℕ)) (counter : Variable) (from to : Expr) (down : Bool) (step : ℤ)
    (body : List Statement) (last : ℕ) (ks : List Piece)
    → what_pieces p locals (For counter from to down step body last) ks
    ≡ piece.Keyword word.For ∷ named (variable_name p locals counter)
    (piece.Symbol sign.Assign ∷ value_pieces p locals value.Sum from
    (piece.Keyword (direction_word down) ∷ value_pieces p locals value.Sum to
    (step_pieces step (piece.Keyword word.Do ∷ inner_pieces p locals body ks))))
pieces_for p locals counter from to down step body last ks =
    ap (λ w. what_pieces p locals w ks) (for-is counter from to down step body last)
    ∙ ap (λ xs. piece.Keyword word.For ∷ named (variable_name p locals counter)
    (piece.Symbol sign.Assign ∷ value_pieces p locals value.Sum from
    (piece.Keyword (direction_word down) ∷ value_pieces p locals value.Sum to
    (step_pieces step (piece.Keyword word.Do ∷ xs)))))
    (inner_is p locals body ks)

pub pieces_do : (p : Program) (locals : List (List ℕ)) (body : List Statement) (cond : Cond) (ks : List Piece)
    → what_pieces p locals (DoUntil body cond) ks
    ≡ piece.Keyword word.Do ∷ inner_pieces p locals body
    (piece.Keyword word.Until ∷ test_pieces p locals test.Or cond ks)
pieces_do p locals body cond ks =
    ap (λ w. what_pieces p locals w ks) (do-is body cond)
    ∙ ap (λ xs. piece.Keyword word.Do ∷ xs)
    (inner_is p locals body (piece.Keyword word.Until ∷ test_pieces p locals test.Or cond ks))

pub weight_if : (cond : Cond) (first second : List Statement)
    → what_weight (If cond first second) ≡ test_weight cond + statements_weight first + statements_weight second + 10
weight_if cond first second =
    ap what_weight (if-is cond first second)
    ∙ ap₂ (λ m n. test_weight cond + m + n + 10) (row_weight_is first) (row_weight_is second)

pub weight_while : (cond : Cond) (body : List Statement)
    → what_weight (While cond body) ≡ test_weight cond + statements_weight body + 6
weight_while cond body = ap what_weight (while-is cond body) ∙ ap (λ n. test_weight cond + n + 6) (row_weight_is body)

pub weight_for : (counter : Variable) (from to : Expr) (down : Bool) (step : ℤ) (body : List Statement) (last : ℕ)
    → what_weight (For counter from to down step body last)
    ≡ value_weight from + value_weight to + statements_weight body + 12
weight_for counter from to down step body last =
    ap what_weight (for-is counter from to down step body last)
    ∙ ap (λ n. value_weight from + value_weight to + n + 12) (row_weight_is body)

pub weight_do : (body : List Statement) (cond : Cond)
    → what_weight (DoUntil body cond) ≡ test_weight cond + statements_weight body + 6
weight_do body cond = ap what_weight (do-is body cond) ∙ ap (λ n. test_weight cond + n + 6) (row_weight_is body)

pub weight_front : (n : ℕ) (names : List (List ℕ)) → list_weight (take n names) ≤ list_weight names
weight_front zero [] = omega arith
weight_front zero (name ∷ rest) = omega arith
weight_front (suc n) [] = omega arith
weight_front (suc n) (name ∷ rest) = omega (arith, weight_front n rest)

pub weight_back : (n : ℕ) (names : List (List ℕ)) → list_weight (drop n names) ≤ list_weight names
weight_back zero [] = omega arith
weight_back zero (name ∷ rest) = omega arith
weight_back (suc n) [] = omega arith
weight_back (suc n) (name ∷ rest) = omega (arith, weight_back n rest)
