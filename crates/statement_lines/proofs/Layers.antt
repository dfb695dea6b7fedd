-- The lines of statements by their layers, and over more and more of a list.
use Rattle.std.proofs.Common.{◌≡◌, ℕ, ℤ, Bool, ◌+◌, ◌<◌, List, [], ◌∷◌, ◌++◌, length, take, get_or, refl, ap, ap₂, sym}
use Rattle.std.proofs.Common.{◌∙◌}
use Rattle.std.proofs.Common.{append_assoc, append-nil}
use Rattle.std.proofs.lemmas.List.{take_more}
use Rattle.tal_tree.specs.Rows.{if-is, while-is, for-is, do-is}
use Rattle.tal_tree.specs.Statements.{body_before}
use Rattle.tal_tree.specs.declared.expression.Cond.{Cond}
use Rattle.tal_tree.specs.declared.expression.Expr.{Expr}
use Rattle.tal_tree.specs.declared.expression.Variable.{Variable}
use Rattle.tal_tree.specs.declared.statement.Statement.{Statement}
use Rattle.tal_tree.specs.declared.statement.What.{What, What-F, out-What, roll-What, roll-out-What, If, While, For}
use Rattle.tal_tree.specs.declared.statement.What.{DoUntil}
use Rattle.tal_tree.specs.declared.statement.What.TheViews.{rolls-Assign, rolls-AssignCall, rolls-If, rolls-While}
use Rattle.tal_tree.specs.declared.statement.What.TheViews.{rolls-For, rolls-DoUntil, rolls-Call, rolls-Return}
use Rattle.tal_tree.specs.declared.statement.What.TheViews.{rolls-ReadUpdate, rolls-Reply, rolls-WriteRead}
use Rattle.tal_tree.specs.declared.statement.What.TheViews.{rolls-Checkpoint, rolls-CheckMonitor, rolls-Open}
use Rattle.tal_tree.specs.declared.statement.What.TheViews.{rolls-Stop}
use Rattle.statement_lines.specs.Lines.{lines_before, lines_within, lines_in}

module _ (line : ℕ) where
  pub lines-if : (test : Cond) (first second : List Statement)
      → lines_within line (If test first second) ≡ lines_in first ++ lines_in second
  lines-if test first second = ap (lines_within line) (if-is test first second)

  pub lines-while : (test : Cond) (body : List Statement) → lines_within line (While test body) ≡ lines_in body
  lines-while test body = ap (lines_within line) (while-is test body)

  pub lines-for : (variable : Variable) (from to : Expr) (down : Bool) (step : ℤ) (body : List Statement) (last : ℕ)
      → lines_within line (For variable from to down step body last) ≡ line ∷ lines_in body ++ line ∷ []
  lines-for variable from to down step body last = ap (lines_within line) (for-is variable from to down step body last)

  -- those within a statement on this line
  abbrev pub lines_inside : What-F What Statement → List ℕ
  lines_inside (What-F.If test first second) = lines_in first ++ lines_in second
  lines_inside (What-F.While test body) = lines_in body
  lines_inside (What-F.For variable from to down step body last) = line ∷ lines_in body ++ line ∷ []
  lines_inside (What-F.DoUntil body test) = []
  lines_inside _ = []

  inside-roll : (layer : What-F What Statement) → lines_within line (roll-What layer) ≡ lines_inside layer
  inside-roll (What-F.Assign to value) = ap (lines_within line) (rolls-Assign to value)
  inside-roll (What-F.AssignCall to procedure arguments) =
      ap (lines_within line) (rolls-AssignCall to procedure arguments)
  inside-roll (What-F.If test first second) =
      ap (lines_within line) (rolls-If test first second) ∙ lines-if test first second
  inside-roll (What-F.While test body) = ap (lines_within line) (rolls-While test body) ∙ lines-while test body
  inside-roll (What-F.For variable from to down step body last) =
      ap (lines_within line) (rolls-For variable from to down step body last)
      ∙ lines-for variable from to down step body last
  inside-roll (What-F.DoUntil body test) = ap (lines_within line) (rolls-DoUntil body test ∙ do-is body test)
  inside-roll (What-F.Call procedure arguments) = ap (lines_within line) (rolls-Call procedure arguments)
  inside-roll (What-F.Return value) = ap (lines_within line) (rolls-Return value)
  inside-roll (What-F.ReadUpdate buffer most got) = ap (lines_within line) (rolls-ReadUpdate buffer most got)
  inside-roll (What-F.Reply buffer count) = ap (lines_within line) (rolls-Reply buffer count)
  inside-roll (What-F.WriteRead file buffer send room got) =
      ap (lines_within line) (rolls-WriteRead file buffer send room got)
  inside-roll (What-F.Checkpoint items files) = ap (lines_within line) (rolls-Checkpoint items files)
  inside-roll What-F.CheckMonitor = ap (lines_within line) rolls-CheckMonitor
  inside-roll (What-F.Open file) = ap (lines_within line) (rolls-Open file)
  inside-roll What-F.Stop = ap (lines_within line) rolls-Stop

  inside-is : (what : What) → lines_within line what ≡ lines_inside (out-What what)
  inside-is what = ap (lines_within line) (sym (roll-out-What what)) ∙ inside-roll (out-What what)

pub lines-do : (body : List Statement) (test : Cond) → lines_before (DoUntil body test) ≡ lines_in body
lines-do body test = ap lines_before (do-is body test)

before-roll : (layer : What-F What Statement) → lines_before (roll-What layer) ≡ lines_in (body_before layer)
before-roll (What-F.DoUntil body test) = ap lines_before (rolls-DoUntil body test ∙ do-is body test)
before-roll (What-F.If test first second) =
    ap lines_before (rolls-If test first second ∙ if-is test first second)
before-roll (What-F.While test body) =
    ap lines_before (rolls-While test body ∙ while-is test body)
before-roll (What-F.For variable from to down step body last) =
    ap lines_before (rolls-For variable from to down step body last ∙ for-is variable from to down step body last)
before-roll (What-F.AssignCall to procedure arguments) =
    ap lines_before (rolls-AssignCall to procedure arguments)
before-roll (What-F.Call procedure arguments) =
    ap lines_before (rolls-Call procedure arguments)
before-roll (What-F.Assign to value) =
    ap lines_before (rolls-Assign to value)
before-roll (What-F.Return value) =
    ap lines_before (rolls-Return value)
before-roll (What-F.ReadUpdate buffer most got) =
    ap lines_before (rolls-ReadUpdate buffer most got)
before-roll (What-F.Reply buffer count) =
    ap lines_before (rolls-Reply buffer count)
before-roll (What-F.WriteRead file buffer send room got) =
    ap lines_before (rolls-WriteRead file buffer send room got)
before-roll (What-F.Checkpoint items files) =
    ap lines_before (rolls-Checkpoint items files)
before-roll What-F.CheckMonitor =
    ap lines_before rolls-CheckMonitor
before-roll (What-F.Open file) =
    ap lines_before (rolls-Open file)
before-roll What-F.Stop =
    ap lines_before rolls-Stop

before-is : (what : What) → lines_before what ≡ lines_in (body_before (out-What what))
before-is what = ap lines_before (sym (roll-out-What what)) ∙ before-roll (out-What what)

-- those of a statement on this line, by its layer
abbrev pub lines_by : ℕ → What-F What Statement → List ℕ
lines_by line layer = lines_in (body_before layer) ++ (line ∷ lines_inside line layer)

-- of a statement and those behind it
pub lines-by : (statement : Statement) (rest : List Statement)
    → lines_in (statement ∷ rest) ≡ lines_by statement.line (out-What statement.what) ++ lines_in rest
lines-by statement rest =
    ap₂ (λ (before inside : List ℕ). before ++ (statement.line ∷ inside ++ lines_in rest)) (before-is statement.what)
    (inside-is statement.line statement.what)
    ∙ sym (append_assoc (lines_in (body_before (out-What statement.what)))
    (statement.line ∷ lines_inside statement.line (out-What statement.what)) (lines_in rest))

lines-append : (first second : List Statement) → lines_in (first ++ second) ≡ lines_in first ++ lines_in second
lines-append [] second = refl
lines-append (statement ∷ first) second =
    let before : List ℕ = lines_before statement.what in
    let own : List ℕ = statement.line ∷ lines_within statement.line statement.what in
    ap (λ (later : List ℕ). before ++ (own ++ later)) (lines-append first second)
    ∙ ap (λ (later : List ℕ). before ++ later) (sym (append_assoc own (lines_in first) (lines_in second)))
    ∙ sym (append_assoc before (own ++ lines_in first) (lines_in second))

-- the lines of one statement more
pub one-more : (statements : List Statement) (k : ℕ) (statement : Statement)
    → statement ≡ get_or statements k statement → k < length statements
    → lines_in (take (k + 1) statements) ≡ lines_in (take k statements)
    ++ (lines_before statement.what ++ (statement.line ∷ lines_within statement.line statement.what))
one-more statements k statement is inside =
    ap lines_in (take_more statements k statement inside ∙ ap (λ (x : Statement). take k statements ++ x ∷ []) (sym is))
    ∙ lines-append (take k statements) (statement ∷ [])
    ∙ ap (λ (own : List ℕ). lines_in (take k statements) ++ (lines_before statement.what ++ own))
    (append-nil (statement.line ∷ lines_within statement.line statement.what))
