-- What it means that nodes are the graph of a program: its edges are the ways of the entries, over whole stands, places
-- and dues at once.
use Rattle.std.specs.Prelude.{◌≡◌, ◌<◌, ℕ, List, [], ◌∷◌, drop, length, slice_get, Option, Some, None}
use Rattle.tal_tree.specs.declared.program.Program.{Program}
use Rattle.path_semantics.specs.declared.dues.Dues.{Dues}
use Rattle.path_semantics.specs.Dues.{no_dues, with_changed, after_entry}
use Rattle.path_semantics.specs.Place.{Place, Stand, next_in, successors, first_stand}
use Rattle.flow_paths.specs.declared.graph.Edge.{Edge}
use Rattle.flow_paths.specs.declared.graph.Goal.{Goal}
use Rattle.flow_paths.specs.declared.graph.Goal.TheVariants.{At, Left, Ended}
use Rattle.path_semantics.specs.Bounds.{size_of}
use Rattle.flow_paths.specs.Graph.{Node, edges_of, start_of}

-- of so many nodes, each of which stands at a place
module _ (count : ℕ) (place : ℕ → Place) where
  -- a goal is this stand, where so much is due
  abbrev pub IsStand : Goal → Dues → Stand → Type 0
  IsStand (At k) dues stand = (k < count) × (stand ≡ record { place = place k; dues = dues })
  IsStand Left dues stand = stand ≡ record { place = []; dues = dues }
  IsStand Ended dues stand = stand ≡ record { place = []; dues = dues }

  -- an edge arrives at a stand, where the targets of the calls that it leaves are due too
  abbrev pub Arrives : Dues → Edge → Stand → Type 0
  Arrives dues edge stand = IsStand edge.goal (with_changed edge.targets dues) stand

  -- each edge arrives at the stand of its place in the list
  abbrev pub AllArrive : Dues → List Edge → List Stand → Type 0
  AllArrive dues [] [] = Unit {0}
  AllArrive dues (edge ∷ edges) (stand ∷ stands) = Arrives dues edge stand × AllArrive dues edges stands
  AllArrive dues _ _ = ⊥

  -- the caller of a procedure that runs above these: none where it is MAIN, and else the node that stands at the call
  -- in progress
  abbrev pub IsCaller : Option ℕ → Place → Type 0
  IsCaller None callers = callers ≡ []
  IsCaller (Some k) callers = (k < count) × (callers ≡ place k)

  -- a node stands at this place, and whatever is due there, its edges are the ways of its entry
  pub record IsRight (program : Program) (node : Node) (here : Place) : Type 0 where
    pub next : next_in here ≡ Some node.entry
    pub caller : IsCaller node.caller (drop 1 here)
    pub leads : (dues : Dues) → AllArrive (after_entry dues node.entry) (edges_of node)
        (successors program (record { place = here; dues = dues }))

-- the graph of a program: a node for each number of MAIN with all calls written out, each at a place, the first where
-- MAIN's body begins
pub record IsFlow (program : Program) (nodes : List Node) : Type 0 where
  pub count : length nodes ≡ size_of program
  pub place : ℕ → Place
  pub start : IsStand (length nodes) place (start_of nodes) no_dues (first_stand program)
  pub right : (k : ℕ) (node : Node) → slice_get nodes k ≡ Some node
      → IsRight (length nodes) place program node (place k)
