-- Walks along the edges of a graph, with what is due.
use Rattle.std.specs.Prelude.{◌≡◌, ◌⊎◌, ◌<◌, ℕ, ◌+◌, List, [], ◌∷◌, length, slice_get, Some}
use Rattle.gd_words.specs.Members.{IsAmong}
use Rattle.path_semantics.specs.process_semantics.specs.Rests.{entry_number}
use Rattle.path_semantics.specs.declared.dues.Dues.{Dues}
use Rattle.path_semantics.specs.Dues.{no_dues, with_changed, after_entry}
use Rattle.path_semantics.specs.Place.{Stand, next_entry}
use Rattle.flow_paths.specs.declared.graph.Edge.{Edge}
use Rattle.flow_paths.specs.declared.graph.Goal.TheVariants.{At}
use Rattle.flow_paths.specs.Graph.{Node, edges_of}

module _ (nodes : List Node) where
  -- a step: the entry of a node has this number, and one of its edges goes to a node, with what is due there
  pub record StepsTo (k : ℕ) (dues : Dues) (number j : ℕ) (later : Dues) : Type 0 where
    pub node : Node
    pub got : slice_get nodes k ≡ Some node
    pub is : entry_number node.entry ≡ number
    pub edge : Edge
    pub among : IsAmong edge (edges_of node)
    pub goal : edge.goal ≡ At j
    pub due : later ≡ with_changed edge.targets (after_entry dues node.entry)

  -- a walk by these numbers from node to node
  abbrev pub Goes : ℕ → Dues → List ℕ → ℕ → Dues → Type 0
  Goes k dues [] j later = (k ≡ j) × (dues ≡ later)
  Goes k dues (number ∷ path) j later =
      (next : ℕ) × (due : Dues) × StepsTo k dues number next due × Goes next due path j later

  -- a stand is one of this node: its entry comes next there
  pub record StandsAt (k : ℕ) (stand : Stand) : Type 0 where
    pub node : Node
    pub got : slice_get nodes k ≡ Some node
    pub next : next_entry stand ≡ Some node.entry

  -- what holds after so many entries at a node with these dues holds at the start, and goes on along each edge
  pub record IsKept (Holds : ℕ → ℕ → Dues → Type 0) : Type 0 where
    pub first : 0 < length nodes → Holds 0 0 no_dues
    pub step : (n k j number : ℕ) (dues later : Dues) → Holds n k dues → StepsTo k dues number j later
        → Holds (n + 1) j later

  -- it holds at a stand: the program has ended there, or it stands at a node for which it holds
  abbrev pub IsMet : (ℕ → ℕ → Dues → Type 0) → ℕ → Stand → Type 0
  IsMet Holds n stand = (stand.place ≡ []) ⊎ ((k : ℕ) × StandsAt k stand × Holds n k stand.dues)
