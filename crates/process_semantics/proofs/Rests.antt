-- What remains from each entry of statements on, by the first of them and by the layers of a statement.
use Rattle.std.proofs.Common.{◌≡◌, List, [], ◌∷◌, ◌++◌, refl, ap, ap₂, sym, ◌∙◌, append_assoc}
use Rattle.tal_values.specs.tal_tree.specs.Rows.{if-is, while-is, for-is, do-is}
use Rattle.tal_values.specs.tal_tree.specs.Statements.{body_before}
use Rattle.tal_values.specs.tal_tree.specs.declared.statement.Statement.{Statement}
use Rattle.tal_values.specs.tal_tree.specs.declared.statement.What.{What, What-F, out-What, roll-What, roll-out-What}
use Rattle.tal_values.specs.tal_tree.specs.declared.statement.What.TheViews.{rolls-Assign, rolls-AssignCall, rolls-If}
use Rattle.tal_values.specs.tal_tree.specs.declared.statement.What.TheViews.{rolls-While}
use Rattle.tal_values.specs.tal_tree.specs.declared.statement.What.TheViews.{rolls-For, rolls-DoUntil, rolls-Call}
use Rattle.tal_values.specs.tal_tree.specs.declared.statement.What.TheViews.{rolls-Return}
use Rattle.tal_values.specs.tal_tree.specs.declared.statement.What.TheViews.{rolls-ReadUpdate, rolls-Reply}
use Rattle.tal_values.specs.tal_tree.specs.declared.statement.What.TheViews.{rolls-WriteRead}
use Rattle.tal_values.specs.tal_tree.specs.declared.statement.What.TheViews.{rolls-Checkpoint, rolls-CheckMonitor}
use Rattle.tal_values.specs.tal_tree.specs.declared.statement.What.TheViews.{rolls-Open}
use Rattle.tal_values.specs.tal_tree.specs.declared.statement.What.TheViews.{rolls-Stop}
use Rattle.process_semantics.specs.Rests.{rests_before, rests_in, rests}
use Rattle.process_semantics.specs.State.{Entry, Run, Test, Last, runs_before, runs_of}

-- of the entries inside a statement that come after its own, by one layer
abbrev pub rests_by : What-F What Statement → Statement → List Entry → List (List Entry)
rests_by (What-F.If test first second) self after = rests first after ++ rests second after
rests_by (What-F.While test body) self after = rests body (Run self ∷ after)
rests_by (What-F.For variable from to down step body last) self after =
    (Test self ∷ after) ∷ rests body (Last self ∷ Test self ∷ after) ++ (Last self ∷ Test self ∷ after) ∷ []
rests_by (What-F.DoUntil body test) self after = []
rests_by (What-F.Assign _ _) self after = []
rests_by (What-F.AssignCall _ _ _) self after = []
rests_by (What-F.Call _ _) self after = []
rests_by (What-F.Return _) self after = []
rests_by (What-F.ReadUpdate _ _ _) self after = []
rests_by (What-F.Reply _ _) self after = []
rests_by (What-F.WriteRead _ _ _ _ _) self after = []
rests_by (What-F.Checkpoint _ _) self after = []
rests_by What-F.CheckMonitor self after = []
rests_by (What-F.Open _) self after = []
rests_by What-F.Stop self after = []

-- what a definition says of a layer it says of what the layer is of
by-layer : {A : Type 0} (f : What → A) (g : What-F What Statement → A)
    → ((layer : What-F What Statement) → f (roll-What layer) ≡ g layer)
    → (what : What) → f what ≡ g (out-What what)
by-layer f g rolled what = ap f (sym (roll-out-What what)) ∙ rolled (out-What what)

module _ (self : Statement) (after : List Entry) where
  abbrev inside : What → List (List Entry)
  inside what = rests_in what self after

  rests-roll : (layer : What-F What Statement) → inside (roll-What layer) ≡ rests_by layer self after
  rests-roll (What-F.If test first second) = ap inside (rolls-If test first second ∙ if-is test first second)
  rests-roll (What-F.While test body) = ap inside (rolls-While test body ∙ while-is test body)
  rests-roll (What-F.For variable from to down step body last) =
      ap inside (rolls-For variable from to down step body last ∙ for-is variable from to down step body last)
  rests-roll (What-F.DoUntil body test) = ap inside (rolls-DoUntil body test ∙ do-is body test)
  rests-roll (What-F.Assign to value) = ap inside (rolls-Assign to value)
  rests-roll (What-F.AssignCall to procedure arguments) = ap inside (rolls-AssignCall to procedure arguments)
  rests-roll (What-F.Call procedure arguments) = ap inside (rolls-Call procedure arguments)
  rests-roll (What-F.Return value) = ap inside (rolls-Return value)
  rests-roll (What-F.ReadUpdate buffer most got) = ap inside (rolls-ReadUpdate buffer most got)
  rests-roll (What-F.Reply buffer count) = ap inside (rolls-Reply buffer count)
  rests-roll (What-F.WriteRead file buffer send room got) = ap inside (rolls-WriteRead file buffer send room got)
  rests-roll (What-F.Checkpoint items files) = ap inside (rolls-Checkpoint items files)
  rests-roll What-F.CheckMonitor = ap inside rolls-CheckMonitor
  rests-roll (What-F.Open file) = ap inside (rolls-Open file)
  rests-roll What-F.Stop = ap inside rolls-Stop

  pub rests-is : (what : What) → inside what ≡ rests_by (out-What what) self after
  rests-is = by-layer inside (λ layer. rests_by layer self after) rests-roll

module _ (after : List Entry) where
  abbrev ahead : What → List (List Entry)
  ahead what = rests_before what after

  ahead-roll : (layer : What-F What Statement) → ahead (roll-What layer) ≡ rests (body_before layer) after
  ahead-roll (What-F.If test first second) = ap ahead (rolls-If test first second ∙ if-is test first second)
  ahead-roll (What-F.While test body) = ap ahead (rolls-While test body ∙ while-is test body)
  ahead-roll (What-F.For variable from to down step body last) = ap ahead (rolls-For variable from to down step body
      last
      ∙ for-is variable from to down step body last)
  ahead-roll (What-F.DoUntil body test) = ap ahead (rolls-DoUntil body test ∙ do-is body test)
  ahead-roll (What-F.Assign to value) = ap ahead (rolls-Assign to value)
  ahead-roll (What-F.AssignCall to procedure arguments) = ap ahead (rolls-AssignCall to procedure arguments)
  ahead-roll (What-F.Call procedure arguments) = ap ahead (rolls-Call procedure arguments)
  ahead-roll (What-F.Return value) = ap ahead (rolls-Return value)
  ahead-roll (What-F.ReadUpdate buffer most got) = ap ahead (rolls-ReadUpdate buffer most got)
  ahead-roll (What-F.Reply buffer count) = ap ahead (rolls-Reply buffer count)
  ahead-roll (What-F.WriteRead file buffer send room got) = ap ahead (rolls-WriteRead file buffer send room got)
  ahead-roll (What-F.Checkpoint items files) = ap ahead (rolls-Checkpoint items files)
  ahead-roll What-F.CheckMonitor = ap ahead rolls-CheckMonitor
  ahead-roll (What-F.Open file) = ap ahead (rolls-Open file)
  ahead-roll What-F.Stop = ap ahead rolls-Stop

  pub ahead-is : (what : What) → ahead what ≡ rests (body_before (out-What what)) after
  ahead-is = by-layer ahead (λ layer. rests (body_before layer) after) ahead-roll

first-roll : (layer : What-F What Statement) → runs_before (roll-What layer) ≡ runs_of (body_before layer)
first-roll (What-F.If test first second) = ap runs_before (rolls-If test first second ∙ if-is test first second)
first-roll (What-F.While test body) = ap runs_before (rolls-While test body ∙ while-is test body)
first-roll (What-F.For variable from to down step body last) = ap runs_before (rolls-For variable from to down step
    body last
    ∙ for-is variable from to down step body last)
first-roll (What-F.DoUntil body test) = ap runs_before (rolls-DoUntil body test ∙ do-is body test)
first-roll (What-F.Assign to value) = ap runs_before (rolls-Assign to value)
first-roll (What-F.AssignCall to procedure arguments) = ap runs_before (rolls-AssignCall to procedure arguments)
first-roll (What-F.Call procedure arguments) = ap runs_before (rolls-Call procedure arguments)
first-roll (What-F.Return value) = ap runs_before (rolls-Return value)
first-roll (What-F.ReadUpdate buffer most got) = ap runs_before (rolls-ReadUpdate buffer most got)
first-roll (What-F.Reply buffer count) = ap runs_before (rolls-Reply buffer count)
first-roll (What-F.WriteRead file buffer send room got) = ap runs_before (rolls-WriteRead file buffer send room got)
first-roll (What-F.Checkpoint items files) = ap runs_before (rolls-Checkpoint items files)
first-roll What-F.CheckMonitor = ap runs_before rolls-CheckMonitor
first-roll (What-F.Open file) = ap runs_before (rolls-Open file)
first-roll What-F.Stop = ap runs_before rolls-Stop

first-is : (what : What) → runs_before what ≡ runs_of (body_before (out-What what))
first-is = by-layer runs_before (λ layer. runs_of (body_before layer)) first-roll

-- what comes after the first of some statements
abbrev pub behind : List Statement → List Entry → List Entry
behind rest after = runs_of rest ++ after

-- the body that is done before the first statement, then the statement, then the others
pub runs-more : (statement : Statement) (rest : List Statement) → runs_of (statement ∷ rest)
    ≡ runs_of (body_before (out-What statement.what)) ++ (Run statement ∷ runs_of rest)
runs-more statement rest = ap (λ (before : List Entry). before ++ (Run statement ∷ runs_of rest)) (first-is
    statement.what)

-- the same before others
pub behind-more : (statement : Statement) (rest : List Statement) (after : List Entry)
    → runs_of (statement ∷ rest) ++ after
    ≡ runs_of (body_before (out-What statement.what)) ++ (Run statement ∷ behind rest after)
behind-more statement rest after =
    ap (λ (entries : List Entry). entries ++ after) (runs-more statement rest)
    ∙ append_assoc (runs_of (body_before (out-What statement.what))) (Run statement ∷ runs_of rest) after

-- from each entry of the body that is done before the first statement, from the statement itself, from each entry
-- inside it, and from each entry of the others on
pub rests-more : (statement : Statement) (rest : List Statement) (after : List Entry) → rests (statement ∷ rest) after
    ≡ rests (body_before (out-What statement.what)) (Run statement ∷ behind rest after)
    ++ ((Run statement ∷ behind rest after) ∷ rests_by (out-What statement.what) statement (behind rest after)
    ++ rests rest after)
rests-more statement rest after =
    ap₂ (λ (before inner : List (List Entry)).
    before ++ ((Run statement ∷ behind rest after) ∷ inner ++ rests rest after))
    (ahead-is (Run statement ∷ behind rest after) statement.what)
    (rests-is statement (behind rest after) statement.what)
