-- The statements that stand in one more layer of a statement.
use Rattle.std.proofs.Common.{◌≡◌, List, [], ◌∷◌, ◌++◌, refl, ap, ap₂, sym, ◌∙◌}
use Rattle.tal_tree.specs.Rows.{rows, if-is, while-is, for-is, do-is}
use Rattle.tal_tree.specs.declared.statement.Statement.{Statement}
use Rattle.tal_tree.specs.declared.statement.What.{What, What-F, out-What, roll-What, roll-out-What}
use Rattle.tal_tree.specs.declared.statement.What.TheViews.{rolls-Assign, rolls-AssignCall, rolls-If, rolls-While}
use Rattle.tal_tree.specs.declared.statement.What.TheViews.{rolls-For, rolls-DoUntil, rolls-Call, rolls-Return}
use Rattle.tal_tree.specs.declared.statement.What.TheViews.{rolls-ReadUpdate, rolls-Reply, rolls-WriteRead}
use Rattle.tal_tree.specs.declared.statement.What.TheViews.{rolls-Checkpoint, rolls-CheckMonitor, rolls-Open}
use Rattle.tal_tree.specs.declared.statement.What.TheViews.{rolls-Stop}
use Rattle.gd_words.specs.Members.{IsAmong}
use Rattle.tal_tree.specs.Statements.{within, within_row, all_of, body_before}

-- those of the branches and bodies of a statement
abbrev pub within_of : What-F What Statement → List Statement
within_of (What-F.If test first second) = all_of first ++ all_of second
within_of (What-F.While test body) = all_of body
within_of (What-F.For variable from to down step body last) = all_of body
within_of (What-F.DoUntil body test) = all_of body
within_of (What-F.Assign _ _) = []
within_of (What-F.AssignCall _ _ _) = []
within_of (What-F.Call _ _) = []
within_of (What-F.Return _) = []
within_of (What-F.ReadUpdate _ _ _) = []
within_of (What-F.Reply _ _) = []
within_of (What-F.WriteRead _ _ _ _ _) = []
within_of (What-F.Checkpoint _ _) = []
within_of What-F.CheckMonitor = []
within_of (What-F.Open _) = []
within_of What-F.Stop = []

row-is : (statements : List Statement) → within_row (rows statements) ≡ all_of statements
row-is [] = refl
row-is (statement ∷ rest) = ap (λ later. statement ∷ (within statement.what ++ later)) (row-is rest)

within-roll : (what : What-F What Statement) → within (roll-What what) ≡ within_of what
within-roll (What-F.Assign to value) = ap within (rolls-Assign to value)
within-roll (What-F.AssignCall to procedure arguments) = ap within (rolls-AssignCall to procedure arguments)
within-roll (What-F.If test first second) =
    ap within (rolls-If test first second) ∙ ap within (if-is test first second)
    ∙ ap₂ (λ (xs ys : List Statement). xs ++ ys) (row-is first) (row-is second)
within-roll (What-F.While test body) = ap within (rolls-While test body) ∙ ap within (while-is test body) ∙ row-is body
within-roll (What-F.For variable from to down step body last) =
    ap within (rolls-For variable from to down step body last)
    ∙ ap within (for-is variable from to down step body last) ∙ row-is body
within-roll (What-F.DoUntil body test) = ap within (rolls-DoUntil body test) ∙ ap within (do-is body test) ∙ row-is body
within-roll (What-F.Call procedure arguments) = ap within (rolls-Call procedure arguments)
within-roll (What-F.Return value) = ap within (rolls-Return value)
within-roll (What-F.ReadUpdate buffer most got) = ap within (rolls-ReadUpdate buffer most got)
within-roll (What-F.Reply buffer count) = ap within (rolls-Reply buffer count)
within-roll (What-F.WriteRead file buffer send room got) = ap within (rolls-WriteRead file buffer send room got)
within-roll (What-F.Checkpoint items files) = ap within (rolls-Checkpoint items files)
within-roll What-F.CheckMonitor = ap within rolls-CheckMonitor
within-roll (What-F.Open file) = ap within (rolls-Open file)
within-roll What-F.Stop = ap within rolls-Stop

pub within-is : (what : What) → within what ≡ within_of (out-What what)
within-is what = ap within (sym (roll-out-What what)) ∙ within-roll (out-What what)

-- what stands in the body that is done before a statement's own number stands in the statement
pub before-within : (layer : What-F What Statement) (statement : Statement)
    → IsAmong statement (all_of (body_before layer)) → IsAmong statement (within_of layer)
before-within (What-F.DoUntil body test) statement among = among
before-within (What-F.Assign _ _) statement among = absurd among
before-within (What-F.AssignCall _ _ _) statement among = absurd among
before-within (What-F.If _ _ _) statement among = absurd among
before-within (What-F.While _ _) statement among = absurd among
before-within (What-F.For _ _ _ _ _ _ _) statement among = absurd among
before-within (What-F.Call _ _) statement among = absurd among
before-within (What-F.Return _) statement among = absurd among
before-within (What-F.ReadUpdate _ _ _) statement among = absurd among
before-within (What-F.Reply _ _) statement among = absurd among
before-within (What-F.WriteRead _ _ _ _ _) statement among = absurd among
before-within (What-F.Checkpoint _ _) statement among = absurd among
before-within What-F.CheckMonitor statement among = absurd among
before-within (What-F.Open _) statement among = absurd among
before-within What-F.Stop statement among = absurd among
