-- The graph of lists of statements with its places, by layers.
use Rattle.std.proofs.Common.{◌≡◌, ℕ, ◌+◌, List, [], ◌∷◌, ◌++◌, refl, ap, sym, ◌∙◌}
use Rattle.tal_tree.specs.Rows.{rows, if-is, while-is, for-is, do-is}
use Rattle.tal_tree.specs.declared.statement.Statement.{Statement}
use Rattle.tal_tree.specs.declared.statement.What.{What, What-F, out-What, roll-What, roll-out-What}
use Rattle.tal_tree.specs.declared.statement.What.TheViews.{rolls-Assign, rolls-AssignCall, rolls-If, rolls-While}
use Rattle.tal_tree.specs.declared.statement.What.TheViews.{rolls-For, rolls-DoUntil, rolls-Call, rolls-Return}
use Rattle.tal_tree.specs.declared.statement.What.TheViews.{rolls-ReadUpdate, rolls-Reply, rolls-WriteRead}
use Rattle.tal_tree.specs.declared.statement.What.TheViews.{rolls-Checkpoint, rolls-CheckMonitor, rolls-Open}
use Rattle.tal_tree.specs.declared.statement.What.TheViews.{rolls-Stop}
use Rattle.path_semantics.specs.process_semantics.specs.State.{Entry, Run, Test, Last}
use Rattle.path_semantics.specs.Dues.{global_of_spot}
use Rattle.flow_paths.specs.declared.graph.Edge.{Edge}
use Rattle.flow_paths.specs.Layout.{size_in, size_row, to_node, leaving, ending, with_targets, start_row, start_in}
use Rattle.flow_paths.proofs.Placed.{Placed, own_one, own_two, place_call, sizes, place_in, place_row}

pub start-is : (statements : List Statement) (base : ℕ) (next : Edge)
    → start_row (rows statements) base next ≡ start_in statements base next
start-is [] base next = refl
start-is (statement ∷ rest) base next = refl

-- Sizes

module _ (called : ℕ → ℕ) where
  abbrev pub size_of : List Statement → ℕ
  size_of statements = size_row called (rows statements)

  abbrev pub size_by : What-F What Statement → ℕ
  size_by (What-F.If test first second) = 1 + (size_of first + size_of second)
  size_by (What-F.While test body) = 1 + size_of body
  size_by (What-F.For variable from to down step body last) = 2 + (size_of body + 1)
  size_by (What-F.DoUntil body test) = size_of body + 1
  size_by (What-F.AssignCall to procedure arguments) = 1 + called procedure
  size_by (What-F.Call procedure arguments) = 1 + called procedure
  size_by _ = 1

  size-roll : (layer : What-F What Statement) → size_in called (roll-What layer) ≡ size_by layer
  size-roll (What-F.If test first second) = ap (size_in called) (rolls-If test first second ∙ if-is test first second)
  size-roll (What-F.While test body) = ap (size_in called) (rolls-While test body ∙ while-is test body)
  size-roll (What-F.For variable from to down step body last) =
      ap (size_in called) (rolls-For variable from to down step body last ∙ for-is variable from to down step body last)
  size-roll (What-F.DoUntil body test) = ap (size_in called) (rolls-DoUntil body test ∙ do-is body test)
  size-roll (What-F.Assign to value) = ap (size_in called) (rolls-Assign to value)
  size-roll (What-F.AssignCall to procedure arguments) = ap (size_in called) (rolls-AssignCall to procedure arguments)
  size-roll (What-F.Call procedure arguments) = ap (size_in called) (rolls-Call procedure arguments)
  size-roll (What-F.Return value) = ap (size_in called) (rolls-Return value)
  size-roll (What-F.ReadUpdate buffer most got) = ap (size_in called) (rolls-ReadUpdate buffer most got)
  size-roll (What-F.Reply buffer count) = ap (size_in called) (rolls-Reply buffer count)
  size-roll (What-F.WriteRead file buffer send room got) =
      ap (size_in called) (rolls-WriteRead file buffer send room got)
  size-roll (What-F.Checkpoint items files) = ap (size_in called) (rolls-Checkpoint items files)
  size-roll What-F.CheckMonitor = ap (size_in called) rolls-CheckMonitor
  size-roll (What-F.Open file) = ap (size_in called) (rolls-Open file)
  size-roll What-F.Stop = ap (size_in called) rolls-Stop

  pub size-is : (what : What) → size_in called what ≡ size_by (out-What what)
  size-is what = ap (size_in called) (sym (roll-out-What what)) ∙ size-roll (out-What what)

-- Nodes

abbrev pub place : (ℕ → List Placed) → List Statement → ℕ → Edge → List Entry → List Placed
place called statements base next later = place_row called (rows statements) base next later

abbrev pub place_by : (ℕ → List Placed) → What-F What Statement → Statement → ℕ → Edge → List Entry → List Placed
place_by called (What-F.If test first second) self base after rest =
    own_two (Run self) rest (start_row (rows first) (base + 1) after)
    (start_row (rows second) (base + 1 + size_of (sizes called) first) after)
    ∷ (place called first (base + 1) after rest
    ++ place called second (base + 1 + size_of (sizes called) first) after rest)
place_by called (What-F.While test body) self base after rest =
    own_two (Run self) rest (start_row (rows body) (base + 1) (to_node base)) after
    ∷ place called body (base + 1) (to_node base) (Run self ∷ rest)
place_by called (What-F.For variable from to down step body last) self base after rest =
    own_one (Run self) rest (to_node (base + 1))
    ∷ own_two (Test self) rest (start_row (rows body) (base + 2) (to_node (base + 2 + size_of (sizes called) body)))
    after
    ∷ (place called body (base + 2) (to_node (base + 2 + size_of (sizes called) body)) (Last self ∷ Test self ∷ rest)
    ++ own_one (Last self) (Test self ∷ rest) (to_node (base + 1)) ∷ [])
place_by called (What-F.DoUntil body test) self base after rest =
    place called body base (to_node (base + size_of (sizes called) body)) (Run self ∷ rest)
    ++ own_two (Run self) rest after (start_row (rows body) base (to_node (base + size_of (sizes called) body))) ∷ []
place_by called (What-F.AssignCall to procedure arguments) self base after rest =
    place_call (called procedure) self base (with_targets (global_of_spot to) after) rest
place_by called (What-F.Call procedure arguments) self base after rest =
    place_call (called procedure) self base after rest
place_by called (What-F.Return value) self base after rest = own_one (Run self) rest leaving ∷ []
place_by called What-F.Stop self base after rest = own_one (Run self) rest ending ∷ []
place_by called _ self base after rest = own_one (Run self) rest after ∷ []

module _ (called : ℕ → List Placed) (self : Statement) (base : ℕ) (after : Edge) (rest : List Entry) where
  abbrev placed : What → List Placed
  placed what = place_in called what self base after rest

  place-roll : (layer : What-F What Statement) → placed (roll-What layer) ≡ place_by called layer self base after rest
  place-roll (What-F.If test first second) = ap placed (rolls-If test first second ∙ if-is test first second)
  place-roll (What-F.While test body) = ap placed (rolls-While test body ∙ while-is test body)
  place-roll (What-F.For variable from to down step body last) =
      ap placed (rolls-For variable from to down step body last ∙ for-is variable from to down step body last)
  place-roll (What-F.DoUntil body test) = ap placed (rolls-DoUntil body test ∙ do-is body test)
  place-roll (What-F.Assign to value) = ap placed (rolls-Assign to value)
  place-roll (What-F.AssignCall to procedure arguments) = ap placed (rolls-AssignCall to procedure arguments)
  place-roll (What-F.Call procedure arguments) = ap placed (rolls-Call procedure arguments)
  place-roll (What-F.Return value) = ap placed (rolls-Return value)
  place-roll (What-F.ReadUpdate buffer most got) = ap placed (rolls-ReadUpdate buffer most got)
  place-roll (What-F.Reply buffer count) = ap placed (rolls-Reply buffer count)
  place-roll (What-F.WriteRead file buffer send room got) = ap placed (rolls-WriteRead file buffer send room got)
  place-roll (What-F.Checkpoint items files) = ap placed (rolls-Checkpoint items files)
  place-roll What-F.CheckMonitor = ap placed rolls-CheckMonitor
  place-roll (What-F.Open file) = ap placed (rolls-Open file)
  place-roll What-F.Stop = ap placed rolls-Stop

  pub place-is : (what : What) → place_in called what self base after rest
      ≡ place_by called (out-What what) self base after rest
  place-is what = ap placed (sym (roll-out-What what)) ∙ place-roll (out-What what)
