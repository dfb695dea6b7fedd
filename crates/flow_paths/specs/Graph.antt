-- The nodes of a program's graph.
use Rattle.std.specs.Prelude.{◌≡◌, ◌<◌, ℕ, List, [], ◌∷◌, length, Option, Some}
use Rattle.std.specs.Option.{option_to_list}
use Rattle.gd_words.specs.Members.{IsAmong}
use Rattle.path_semantics.specs.process_semantics.specs.State.{Entry}
use Rattle.flow_paths.specs.declared.graph.Edge.{Edge}
use Rattle.flow_paths.specs.declared.graph.Goal.{Goal}
use Rattle.flow_paths.specs.declared.graph.Goal.TheVariants.{At, Left}

-- a node: an entry, the node of the call whose procedure runs, and the edges on which the program goes on, one or two
pub record Node : Type 0 where
  pub entry : Entry
  pub caller : Option ℕ
  pub first : Edge
  pub second : Option Edge

abbrev pub edges_of : Node → List Edge
edges_of node = node.first ∷ option_to_list node.second

-- where a program begins: at the first node, and with no node it is left at once
abbrev pub start_of : List Node → Goal
start_of [] = Left
start_of (node ∷ rest) = At 0

-- the caller and the goals of a node are among so many nodes
pub record IsWithin (count : ℕ) (node : Node) : Type 0 where
  pub caller : (k : ℕ) → node.caller ≡ Some k → k < count
  pub goals : (edge : Edge) → IsAmong edge (edges_of node) → (k : ℕ) → edge.goal ≡ At k → k < count

-- edges and callers lead nowhere but to nodes that are there
abbrev pub AreClosed : List Node → Type 0
AreClosed nodes = (node : Node) → IsAmong node nodes → IsWithin (length nodes) node
