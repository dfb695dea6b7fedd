-- The sizes of statements as code counts them: by one layer, and over more and more of a list.
use Rattle.std.proofs.Common.{◌≡◌, ℕ, zero, suc, ◌+◌, ◌<◌, ◌≤◌, arith, List, [], ◌∷◌, ◌++◌, map, length, take, get_or}
use Rattle.std.proofs.Common.{refl, ap, sym, ◌∙◌}
use Rattle.std.proofs.lemmas.List.{take_more}
use Rattle.tal_tree.specs.Rows.{rows, if-is, while-is, for-is, do-is}
use Rattle.tal_tree.specs.declared.expression.Cond.{Cond}
use Rattle.tal_tree.specs.declared.expression.Expr.{Expr}
use Rattle.tal_tree.specs.declared.expression.Variable.{Variable}
use Rattle.tal_tree.specs.declared.statement.Statement.{Statement}
use Rattle.tal_tree.specs.declared.statement.What.{What, If, While, For, DoUntil}
use Rattle.flow_paths.specs.Graph.{Node}
use Rattle.flow_paths.specs.Layout.{size_in, size_row, size_at, graph_sizes}

module _ (called : ℕ → ℕ) where
  abbrev all : List Statement → ℕ
  all statements = size_row called (rows statements)

  pub size-if : (what : What) (test : Cond) (first second : List Statement) → what ≡ If test first second
      → size_in called what ≡ 1 + (all first + all second)
  size-if what test first second is = ap (size_in called) (is ∙ if-is test first second)

  pub size-while : (what : What) (test : Cond) (body : List Statement) → what ≡ While test body
      → size_in called what ≡ 1 + all body
  size-while what test body is = ap (size_in called) (is ∙ while-is test body)

  pub size-for : (what : What) (variable : Variable) (from to : Expr) (down : _) (step : _) (body : List Statement)
      (last : ℕ)
      → what ≡ For variable from to down step body last
      → size_in called what ≡ 2 + (all body + 1)
  size-for what variable from to down step body last is = ap (size_in called) (is
      ∙ for-is variable from to down step body last)

  pub size-do : (what : What) (body : List Statement) (test : Cond) → what ≡ DoUntil body test
      → size_in called what ≡ all body + 1
  size-do what body test is = ap (size_in called) (is ∙ do-is body test)

  size-append : (xs ys : List Statement) → all (xs ++ ys) ≡ all xs + all ys
  size-append [] ys = omega arith
  size-append (x ∷ xs) ys = let rest : all (xs ++ ys) ≡ all xs + all ys = size-append xs ys in omega arith

  pub one-more-size : (statements : List Statement) (k : ℕ) (statement : Statement)
      → statement ≡ get_or statements k statement → k < length statements
      → all (take (k + 1) statements) ≡ all (take k statements) + size_in called statement.what
  one-more-size statements k statement is inside =
      let split : take (k + 1) statements ≡ take k statements ++ statement ∷ [] =
      take_more statements k statement inside ∙ ap (λ (x : Statement). take k statements ++ x ∷ []) (sym is) in
      let sum : all (take k statements ++ statement ∷ []) ≡ all (take k statements) + all (statement ∷ []) =
      size-append (take k statements) (statement ∷ []) in
      let whole : all (take (k + 1) statements) ≡ all (take k statements ++ statement ∷ []) = ap all split in
      omega arith

  pub size-at-most : (statements : List Statement) (k : ℕ) (statement : Statement)
      → statement ≡ get_or statements k statement → k < length statements
      → size_in called statement.what ≤ all statements
  size-at-most [] k statement is inside = absurd (omega arith)
  size-at-most (first ∷ statements) zero statement is inside =
      let same : size_in called statement.what ≡ size_in called first.what =
      ap (λ (s : Statement). size_in called s.what) is in omega arith
  size-at-most (first ∷ statements) (suc k) statement is inside =
      let rest : size_in called statement.what ≤ all statements =
      size-at-most statements k statement is (omega arith) in omega arith

-- the sizes of graphs are known by their lengths
size-known : (graphs : List (List Node)) (procedure : ℕ)
    → size_at (map length graphs) procedure ≡ graph_sizes graphs procedure
size-known [] procedure = refl
size-known (nodes ∷ graphs) zero = refl
size-known (nodes ∷ graphs) (suc procedure) = size-known graphs procedure

pub sizes-known : (sizes : List ℕ) (graphs : List (List Node)) → sizes ≡ map length graphs
    → size_at sizes ≡ graph_sizes graphs
sizes-known sizes graphs are = ap size_at are ∙ (λ i. λ (procedure : ℕ). size-known graphs procedure i)
