-- How the graph of a procedure is written out, from the graphs of those that it calls: its nodes in the order of the
-- text, those of a called procedure behind the call. What makes it the right graph, `Flow` says without any of this.
use Rattle.std.specs.Prelude.{ℕ, zero, suc, ◌+◌, List, [], ◌∷◌, ◌++◌, map, length, slice_get, Option, Some, None}
use Rattle.std.specs.Option.{option_map, unwrap_or}
use Rattle.tal_tree.specs.declared.statement.Statement.{Statement}
use Rattle.tal_tree.specs.declared.statement.What.{What, Assign, AssignCall, If', While', For', DoUntil', Call}
use Rattle.tal_tree.specs.declared.statement.What.{Return, ReadUpdate, Reply, WriteRead, Checkpoint, CheckMonitor}
use Rattle.tal_tree.specs.declared.statement.What.{Open, Stop}
use Rattle.tal_tree.specs.declared.statement.What.{Row_of-Statement, end_of-Statement, more_of-Statement}
use Rattle.path_semantics.specs.process_semantics.specs.State.{Entry, Run, Test, Last}
use Rattle.path_semantics.specs.Dues.{global_of_spot}
use Rattle.flow_paths.specs.declared.graph.Edge.{Edge}
use Rattle.flow_paths.specs.declared.graph.Goal.{Goal}
use Rattle.flow_paths.specs.declared.graph.Goal.TheVariants.{At, Left, Ended}
use Rattle.flow_paths.specs.Graph.{Node}

-- Sizes

abbrev mutual
  -- how many nodes a statement has, where it is known how many each procedure has
  pub size_in : (ℕ → ℕ) → What → ℕ
  size_in called (If' test _ first _ second) = 1 + (size_row called first + size_row called second)
  size_in called (While' test _ body) = 1 + size_row called body
  size_in called (For' variable from to down step _ body last) = 2 + (size_row called body + 1)
  size_in called (DoUntil' _ body test) = size_row called body + 1
  size_in called (AssignCall to procedure arguments) = 1 + called procedure
  size_in called (Call procedure arguments) = 1 + called procedure
  size_in called (Assign to value) = 1
  size_in called (Return value) = 1
  size_in called (ReadUpdate buffer most got) = 1
  size_in called (Reply buffer count) = 1
  size_in called (WriteRead file buffer send room got) = 1
  size_in called (Checkpoint items files) = 1
  size_in called CheckMonitor = 1
  size_in called (Open file) = 1
  size_in called Stop = 1

  -- how many nodes statements have
  pub size_row : (ℕ → ℕ) → {n : _} → Row_of-Statement n → ℕ
  size_row called end_of-Statement = 0
  size_row called (more_of-Statement number line what rest) = size_in called what + size_row called rest

-- the size of a procedure among those that are known, 0 where it isn't there
abbrev pub size_at : List ℕ → ℕ → ℕ
size_at sizes procedure = unwrap_or (slice_get sizes procedure) 0

-- Edges

-- an edge to a node
abbrev pub to_node : ℕ → Edge
to_node k = record { goal = At k; targets = [] }

-- an edge out of the procedure at hand
abbrev pub leaving : Edge
leaving = record { goal = Left; targets = [] }

-- an edge to the program's end
abbrev pub ending : Edge
ending = record { goal = Ended; targets = [] }

-- the edge with these targets before its own
abbrev pub with_targets : List ℕ → Edge → Edge
with_targets targets edge = record { goal = edge.goal; targets = targets ++ edge.targets }

-- where a goal with these targets leads, in a procedure whose nodes begin here, where what leaves it goes on so
abbrev pub moved_by : ℕ → Edge → List ℕ → Goal → Edge
moved_by base after targets (At k) = record { goal = At (base + k); targets = targets }
moved_by base after targets Left = with_targets targets after
moved_by base after targets Ended = record { goal = Ended; targets = targets }

-- the same of an edge
abbrev pub moved : ℕ → Edge → Edge → Edge
moved base after edge = moved_by base after edge.targets edge.goal

-- where statements begin whose nodes begin here; where there are none it goes on so
abbrev pub start_row : {n : _} → Row_of-Statement n → ℕ → Edge → Edge
start_row end_of-Statement base next = next
start_row (more_of-Statement number line what rest) base next = to_node base

-- the same of so many statements, or nodes
abbrev pub start_at : ℕ → ℕ → Edge → Edge
start_at zero base next = next
start_at (suc n) base next = to_node base

-- the same of a list of statements, or of nodes
abbrev pub start_in : {A : Type 0} → List A → ℕ → Edge → Edge
start_in [] base next = next
start_in (x ∷ xs) base next = to_node base

-- Nodes

-- nodes of the procedure at hand, with one edge and with two
abbrev pub one_way : Entry → Edge → Node
one_way entry edge = record { entry = entry; caller = None; first = edge; second = None }

abbrev pub two_ways : Entry → Edge → Edge → Node
two_ways entry first second = record { entry = entry; caller = None; first = first; second = Some second }

-- the caller of a node in the procedure that the call at this node calls
abbrev pub caller_from : ℕ → Option ℕ → Option ℕ
caller_from call None = Some call
caller_from call (Some k) = Some (call + 1 + k)

-- a node of the procedure that the call at this node calls
abbrev pub moved_node : ℕ → Edge → Node → Node
moved_node call after node = record {
  entry = node.entry;
  caller = caller_from call node.caller;
  first = moved (call + 1) after node.first;
  second = option_map (moved (call + 1) after) node.second;
}

-- a call and its procedure
abbrev pub lay_call : List Node → Statement → ℕ → Edge → List Node
lay_call called self base after =
    one_way (Run self) (start_in called (base + 1) after) ∷ map (moved_node base after) called

abbrev mutual
  -- the nodes of a statement that begin here, where it goes on so
  pub lay_in : (ℕ → List Node) → What → Statement → ℕ → Edge → List Node
  lay_in called (If' test _ first _ second) self base after =
      two_ways (Run self) (start_row first (base + 1) after)
      (start_row second (base + 1 + size_row (λ k. length (called k)) first) after)
      ∷ (lay_row called first (base + 1) after
      ++ lay_row called second (base + 1 + size_row (λ k. length (called k)) first) after)
  lay_in called (While' test _ body) self base after =
      two_ways (Run self) (start_row body (base + 1) (to_node base)) after
      ∷ lay_row called body (base + 1) (to_node base)
  lay_in called (For' variable from to down step _ body last) self base after =
      one_way (Run self) (to_node (base + 1))
      ∷ two_ways (Test self) (start_row body (base + 2) (to_node (base + 2 + size_row (λ k. length (called k)) body)))
      after
      ∷ (lay_row called body (base + 2) (to_node (base + 2 + size_row (λ k. length (called k)) body))
      ++ one_way (Last self) (to_node (base + 1)) ∷ [])
  lay_in called (DoUntil' _ body test) self base after =
      lay_row called body base (to_node (base + size_row (λ k. length (called k)) body))
      ++ two_ways (Run self) after (start_row body base (to_node (base + size_row (λ k. length (called k)) body))) ∷ []
  lay_in called (AssignCall to procedure arguments) self base after =
      lay_call (called procedure) self base (with_targets (global_of_spot to) after)
  lay_in called (Call procedure arguments) self base after = lay_call (called procedure) self base after
  lay_in called (Return value) self base after = one_way (Run self) leaving ∷ []
  lay_in called Stop self base after = one_way (Run self) ending ∷ []
  lay_in called (Assign to value) self base after = one_way (Run self) after ∷ []
  lay_in called (ReadUpdate buffer most got) self base after = one_way (Run self) after ∷ []
  lay_in called (Reply buffer count) self base after = one_way (Run self) after ∷ []
  lay_in called (WriteRead file buffer send room got) self base after = one_way (Run self) after ∷ []
  lay_in called (Checkpoint items files) self base after = one_way (Run self) after ∷ []
  lay_in called CheckMonitor self base after = one_way (Run self) after ∷ []
  lay_in called (Open file) self base after = one_way (Run self) after ∷ []

  -- the nodes of statements that begin here, each of which goes on to the next, and the last so
  pub lay_row : (ℕ → List Node) → {n : _} → Row_of-Statement n → ℕ → Edge → List Node
  lay_row called end_of-Statement base next = []
  lay_row called (more_of-Statement number line what rest) base next =
      lay_in called what (record { number = number; line = line; what = what }) base
      (start_row rest (base + size_in (λ k. length (called k)) what) next)
      ++ lay_row called rest (base + size_in (λ k. length (called k)) what) next

-- Graphs

-- the graph of a procedure among those that are there, none where it isn't there
abbrev pub graph_at : List (List Node) → ℕ → List Node
graph_at graphs procedure = unwrap_or (slice_get graphs procedure) []

-- how many nodes it has
abbrev pub graph_sizes : List (List Node) → ℕ → ℕ
graph_sizes graphs procedure = length (graph_at graphs procedure)
