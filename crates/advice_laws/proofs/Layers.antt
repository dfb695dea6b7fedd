-- One layer of a statement that names what is chosen.
use Rattle.std.proofs.Common.{◌≡◌, ℕ, List, [], ◌∷◌, refl, ap, sym, ◌∙◌}
use mathlib.Core.Former.{this, arity}
use Rattle.gd_words.specs.formers.list.List as list
use Rattle.tal_tree.specs.Rows.{places, rows, if-is, while-is, for-is, do-is}
use Rattle.tal_tree.specs.declared.statement.Statement.{Statement}
use Rattle.tal_tree.specs.declared.statement.What.{What, What-F, out-What, roll-What, roll-out-What, If', While', For'}
use Rattle.tal_tree.specs.declared.statement.What.{DoUntil', Row_of-Statement, more_of-Statement}
use Rattle.tal_tree.specs.declared.statement.What.TheViews.{out-roll-What, rolls-Assign, rolls-AssignCall, rolls-If}
use Rattle.tal_tree.specs.declared.statement.What.TheViews.{rolls-While, rolls-For, rolls-DoUntil, rolls-Call}
use Rattle.tal_tree.specs.declared.statement.What.TheViews.{rolls-Return, rolls-ReadUpdate, rolls-Reply}
use Rattle.tal_tree.specs.declared.statement.What.TheViews.{rolls-WriteRead, rolls-Checkpoint, rolls-CheckMonitor}
use Rattle.tal_tree.specs.declared.statement.What.TheViews.{rolls-Open, rolls-Stop}
use Rattle.advice.specs.Choice.{Choice, what_with, row_with, body_with}

-- a layer in which each CHECKPOINT, at any level, names what is chosen
abbrev pub layer_with : Choice → ℕ → What-F What Statement → What-F What Statement
layer_with choice number (What-F.Checkpoint items files) = What-F.Checkpoint (choice.items number) (choice.files number)
layer_with choice number (What-F.If test first second) =
    What-F.If test (body_with choice first) (body_with choice second)
layer_with choice number (What-F.While test body) = What-F.While test (body_with choice body)
layer_with choice number (What-F.For variable from to down step body last) =
    What-F.For variable from to down step (body_with choice body) last
layer_with choice number (What-F.DoUntil body test) = What-F.DoUntil (body_with choice body) test
layer_with choice number (What-F.Assign to value) = What-F.Assign to value
layer_with choice number (What-F.AssignCall to procedure arguments) = What-F.AssignCall to procedure arguments
layer_with choice number (What-F.Call procedure arguments) = What-F.Call procedure arguments
layer_with choice number (What-F.Return value) = What-F.Return value
layer_with choice number (What-F.ReadUpdate buffer most got) = What-F.ReadUpdate buffer most got
layer_with choice number (What-F.Reply buffer count) = What-F.Reply buffer count
layer_with choice number (What-F.WriteRead file buffer send room got) = What-F.WriteRead file buffer send room got
layer_with choice number What-F.CheckMonitor = What-F.CheckMonitor
layer_with choice number (What-F.Open file) = What-F.Open file
layer_with choice number What-F.Stop = What-F.Stop

-- a shape with a row of as many statements
abbrev pub Row : Type 0
Row = (shape : List (Unit {0})) × Row_of-Statement (arity (list.the_former (this {0})) shape)

-- the row of a body with the chosen lists
pub row-is : (choice : Choice) (body : List Statement)
    → ◌≡◌ {A = Row} (places body, row_with choice (rows body))
    (places (body_with choice body), rows (body_with choice body))
row-is choice [] = refl
row-is choice (statement ∷ rest) =
    λ i. (
      tt ∷ (row-is choice rest i).0,
      more_of-Statement statement.number statement.line
          (what_with choice statement.number statement.what) (row-is choice rest i).1,
    )

module _ (choice : Choice) (number : ℕ) where
  abbrev chosen : What → What
  chosen = what_with choice number

  rolled : (layer : What-F What Statement) → chosen (roll-What layer) ≡ roll-What (layer_with choice number layer)
  rolled (What-F.If test first second) =
      ap chosen (rolls-If test first second ∙ if-is test first second)
      ∙ (λ i. If' test (row-is choice first i).0 (row-is choice first i).1 (row-is choice second i).0
      (row-is choice second i).1)
      ∙ sym (rolls-If test (body_with choice first) (body_with choice second)
      ∙ if-is test (body_with choice first) (body_with choice second))
  rolled (What-F.While test body) =
      ap chosen (rolls-While test body ∙ while-is test body)
      ∙ (λ i. While' test (row-is choice body i).0 (row-is choice body i).1)
      ∙ sym (rolls-While test (body_with choice body) ∙ while-is test (body_with choice body))
  rolled (What-F.For variable from to down step body last) =
      ap chosen (rolls-For variable from to down step body last ∙ for-is variable from to down step body last)
      ∙ (λ i. For' variable from to down step (row-is choice body i).0 (row-is choice body i).1 last)
      ∙ sym (rolls-For variable from to down step (body_with choice body) last
      ∙ for-is variable from to down step (body_with choice body) last)
  rolled (What-F.DoUntil body test) =
      ap chosen (rolls-DoUntil body test ∙ do-is body test)
      ∙ (λ i. DoUntil' (row-is choice body i).0 (row-is choice body i).1 test)
      ∙ sym (rolls-DoUntil (body_with choice body) test ∙ do-is (body_with choice body) test)
  rolled (What-F.Checkpoint items files) =
      ap chosen (rolls-Checkpoint items files) ∙ sym (rolls-Checkpoint (choice.items number) (choice.files number))
  rolled (What-F.Assign to value) = ap chosen (rolls-Assign to value) ∙ sym (rolls-Assign to value)
  rolled (What-F.AssignCall to procedure arguments) =
      ap chosen (rolls-AssignCall to procedure arguments) ∙ sym (rolls-AssignCall to procedure arguments)
  rolled (What-F.Call procedure arguments) =
      ap chosen (rolls-Call procedure arguments) ∙ sym (rolls-Call procedure arguments)
  rolled (What-F.Return value) = ap chosen (rolls-Return value) ∙ sym (rolls-Return value)
  rolled (What-F.ReadUpdate buffer most got) =
      ap chosen (rolls-ReadUpdate buffer most got) ∙ sym (rolls-ReadUpdate buffer most got)
  rolled (What-F.Reply buffer count) = ap chosen (rolls-Reply buffer count) ∙ sym (rolls-Reply buffer count)
  rolled (What-F.WriteRead file buffer send room got) =
      ap chosen (rolls-WriteRead file buffer send room got) ∙ sym (rolls-WriteRead file buffer send room got)
  rolled What-F.CheckMonitor = ap chosen rolls-CheckMonitor ∙ sym rolls-CheckMonitor
  rolled (What-F.Open file) = ap chosen (rolls-Open file) ∙ sym (rolls-Open file)
  rolled What-F.Stop = ap chosen rolls-Stop ∙ sym rolls-Stop

  -- one layer of a statement in which each CHECKPOINT names what is chosen
  pub layer-is : (what : What) → out-What (what_with choice number what) ≡ layer_with choice number (out-What what)
  layer-is what =
      ap (λ (same : What). out-What (what_with choice number same)) (sym (roll-out-What what))
      ∙ ap out-What (rolled (out-What what))
      ∙ out-roll-What (layer_with choice number (out-What what))
