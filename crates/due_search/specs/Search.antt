-- A search by levels through a program's graph: a queue of visits, each to a node with how much is due there.
use Rattle.std.specs.Prelude.{◌≡◌, ◌≤◌, ◌<◌, ◌⊎◌, ℕ, zero, suc, ◌+◌, ◌*◌, Bool, true, false, ◌&&◌, nat_le, List, []}
use Rattle.std.specs.Prelude.{◌∷◌, ◌++◌, length, min, count_by, slice_get, Option, Some, None}
use Rattle.gd_words.specs.Members.{IsAmong}
use Rattle.flow_paths.specs.process_semantics.specs.Rests.{entry_number}
use Rattle.flow_paths.specs.process_semantics.specs.State.{Entry}
use Rattle.flow_paths.specs.path_semantics.specs.declared.reason.Reason.{Reason}
use Rattle.flow_paths.specs.declared.graph.Edge.{Edge}
use Rattle.flow_paths.specs.declared.graph.Goal.{Goal}
use Rattle.flow_paths.specs.declared.graph.Goal.TheVariants.{At, Left, Ended}
use Rattle.flow_paths.specs.Graph.{Node, edges_of}
use Rattle.reason_dues.specs.Amounts.{cut_after, after_changed, may_break_at}
use Rattle.due_search.specs.declared.queue.Visit.{Visit}
use Rattle.due_search.specs.declared.search.Aim.{Aim}
use Rattle.gd_words.specs.declared.limits.TheConstants.{MOST_DEPTH, MOST_STATEMENTS}

-- the visit with which a search begins
abbrev pub first_visit : Visit
first_visit = record { node = 0; due = 0; from = 0; steps = 0 }

-- the number at a node
abbrev pub number_in : Option Node → ℕ
number_in None = 0
number_in (Some node) = entry_number node.entry

abbrev pub node_in : Option Visit → ℕ
node_in None = 0
node_in (Some visit) = visit.node

abbrev pub from_in : Option Visit → ℕ
from_in None = 0
from_in (Some visit) = visit.from

abbrev pub number_at : List Node → List Visit → ℕ → ℕ
number_at nodes queue place = number_in (slice_get nodes (node_in (slice_get queue place)))

-- so many numbers on the way back from a place of the queue
abbrev pub back : List Node → List Visit → ℕ → ℕ → List ℕ
back nodes queue zero place = []
back nodes queue (suc count) place =
    number_at nodes queue place ∷ back nodes queue count (from_in (slice_get queue place))

-- a visit to this node with so much due stands in the queue, so many steps or fewer from the start
pub record IsVisited (queue : List Visit) (node due steps : ℕ) : Type 0 where
  pub place : ℕ
  pub visit : Visit
  pub got : slice_get queue place ≡ Some visit
  pub same_node : visit.node ≡ node
  pub same_due : visit.due ≡ due
  pub early : visit.steps ≤ steps

-- what stands in one queue stands in the other, at its place
abbrev pub Extends : List Visit → List Visit → Type 0
Extends old new = (place : ℕ) (visit : Visit) → slice_get old place ≡ Some visit → slice_get new place ≡ Some visit

-- a visit comes to a queue: it stands last, or one to the same node with as much due stands there already
abbrev pub Comes : List Visit → List Visit → Visit → Type 0
Comes old new visit = (new ≡ old ++ visit ∷ [])
    ⊎ ((new ≡ old) × (place : ℕ) × (one : Visit) × (slice_get old place ≡ Some one) × (one.node ≡ visit.node)
    × (one.due ≡ visit.due))

-- where an edge leads to a node this visit to it comes to a queue, and nothing else changes
abbrev pub ComesBy : List Visit → List Visit → Goal → (ℕ → Visit) → Type 0
ComesBy old new (At k) visit = Comes old new (visit k)
ComesBy old new Left visit = new ≡ old
ComesBy old new Ended visit = new ≡ old

-- the visit to a node from this one, by an edge with these targets, where so much is due after its entry
abbrev pub visit_after : Reason → ℕ → ℕ → List ℕ → ℕ → Visit → ℕ → Visit
visit_after reason most after targets place visit k =
    record { node = k; due = min most (after_changed reason targets after); from = place; steps = visit.steps + 1 }

-- the same where there is an edge, and nothing changes where there is none
abbrev pub ComesByEach : List Visit → List Visit → Reason → ℕ → ℕ → ℕ → Visit → Option Edge → Type 0
ComesByEach old new reason most after place visit None = new ≡ old
ComesByEach old new reason most after place visit (Some edge) =
    ComesBy old new edge.goal (visit_after reason most after edge.targets place visit)

-- the place of a visit in what is seen
abbrev pub place_in_seen : Visit → ℕ
place_in_seen visit = visit.node * (MOST_DEPTH + 1) + visit.due

-- exactly what stands in the queue is seen, once
pub record IsSeenOnce (seen : List Bool) (queue : List Visit) : Type 0 where
  pub count : length queue ≡ count_by (λ is. is) seen
  pub small : (place : ℕ) (visit : Visit) → slice_get queue place ≡ Some visit → visit.due ≤ MOST_DEPTH
  pub inside : (place : ℕ) (visit : Visit) → slice_get queue place ≡ Some visit → place_in_seen visit < length seen
  pub there : (k : ℕ) → slice_get seen k ≡ Some true
      → (place : ℕ) × (visit : Visit) × (slice_get queue place ≡ Some visit) × (k ≡ place_in_seen visit)

-- what still counts as seen stands in the queue at this place or later
abbrev pub IsSeenFrom : List Bool → List Visit → ℕ → Type 0
IsSeenFrom seen queue from = (k : ℕ) → slice_get seen k ≡ Some true
    → (place : ℕ) × (visit : Visit) × (from ≤ place) × (slice_get queue place ≡ Some visit) × (k ≡ place_in_seen visit)

-- a node to which a goal leads has room in a list of so many
abbrev pub HasRoom : Goal → ℕ → Type 0
HasRoom (At k) count = k * (MOST_DEPTH + 1) + MOST_DEPTH < count
HasRoom Left count = Unit {0}
HasRoom Ended count = Unit {0}

-- whether a search ends at an entry where so much is due: if it is to end where the reason breaks, with as much as it
-- counts
abbrev pub ends_with : Aim → Entry → ℕ → Bool
ends_with aim entry n = aim.ends && (may_break_at aim.reason entry && nat_le aim.most n)

-- every way back through a queue stays within it, and the numbers on it are those of a text
pub record IsTrail (nodes : List Node) (queue : List Visit) : Type 0 where
  pub there : (place : ℕ) (visit : Visit) → slice_get queue place ≡ Some visit → visit.node < length nodes
  pub earlier : (place : ℕ) (visit : Visit) → slice_get queue place ≡ Some visit → visit.from < length queue
  pub steps : (place : ℕ) (visit : Visit) → slice_get queue place ≡ Some visit → visit.steps ≤ place
  pub numbers : (place : ℕ) (visit : Visit) (node : Node) → slice_get queue place ≡ Some visit
      → slice_get nodes visit.node ≡ Some node → entry_number node.entry ≤ MOST_STATEMENTS

-- nothing is seen
abbrev pub IsClear : List Bool → Type 0
IsClear seen = (k : ℕ) → slice_get seen k ≡ Some true → ⊥

module _ (nodes : List Node) (aim : Aim) where
  -- a visit follows another by an edge
  pub record Follows (one other : Visit) : Type 0 where
    pub node : Node
    pub edge : Edge
    pub got : slice_get nodes one.node ≡ Some node
    pub among : IsAmong edge (edges_of node)
    pub goal : edge.goal ≡ At other.node
    pub due : other.due ≡ cut_after aim.most aim.reason node.entry edge.targets one.due
    pub steps : other.steps ≡ one.steps + 1

  -- a visit is the first, or follows an earlier one
  abbrev pub Stems : List Visit → ℕ → Visit → Type 0
  Stems queue place visit = (visit ≡ first_visit)
      ⊎ ((one : Visit) × (visit.from < place) × (slice_get queue visit.from ≡ Some one) × Follows one visit)

  -- the queue of a search that has come to this place: visits in the order of their steps, and none more than one step
  -- further than the one at this place
  pub record IsQueue (queue : List Visit) (head : ℕ) : Type 0 where
    pub first : slice_get queue 0 ≡ Some first_visit
    pub stems : (place : ℕ) (visit : Visit) → slice_get queue place ≡ Some visit → Stems queue place visit
    pub low : (place : ℕ) (visit : Visit) → slice_get queue place ≡ Some visit → visit.steps ≤ place
    pub there : (place : ℕ) (visit : Visit) → slice_get queue place ≡ Some visit → visit.node < length nodes
    pub sorted : (one other : ℕ) (early late : Visit) → one ≤ other → slice_get queue one ≡ Some early
        → slice_get queue other ≡ Some late → early.steps ≤ late.steps
    pub near : (place : ℕ) (visit here : Visit) → slice_get queue place ≡ Some visit → slice_get queue head ≡ Some here
        → visit.steps ≤ here.steps + 1

  -- what a visit leads to by this edge is visited
  abbrev pub IsFollowedBy : List Visit → Visit → Node → Edge → Type 0
  IsFollowedBy queue visit node edge = (j : ℕ) → edge.goal ≡ At j
      → IsVisited queue j (cut_after aim.most aim.reason node.entry edge.targets visit.due) (visit.steps + 1)

  -- a visit doesn't end the search, and all to which it leads is visited
  pub record IsDone (queue : List Visit) (visit : Visit) (node : Node) : Type 0 where
    pub goes_on : ends_with aim node.entry visit.due ≡ false
    pub followed : (edge : Edge) → IsAmong edge (edges_of node) → IsFollowedBy queue visit node edge

  -- all visits before this place are done
  abbrev pub AreDone : List Visit → ℕ → Type 0
  AreDone queue head = (place : ℕ) (visit : Visit) (node : Node) → place < head → slice_get queue place ≡ Some visit
      → slice_get nodes visit.node ≡ Some node → IsDone queue visit node

  -- the visit at this place ends the search
  pub record EndsAt (queue : List Visit) (place : ℕ) : Type 0 where
    pub visit : Visit
    pub node : Node
    pub got : slice_get queue place ≡ Some visit
    pub there : slice_get nodes visit.node ≡ Some node
    pub ends : ends_with aim node.entry visit.due ≡ true

  -- a search that has come to this place, with all before it done
  pub record IsSearched (queue : List Visit) (head : ℕ) : Type 0 where
    pub search : IsQueue queue head
    pub done : AreDone queue head
    pub within : head ≤ length queue

  -- it ends there, or comes to the next place
  abbrev pub Advances : List Visit → List Visit → ℕ → Bool → Type 0
  Advances old new head true = (new ≡ old) × EndsAt old head
  Advances old new head false = IsSearched new (head + 1)

  -- a search has ended: with all done, or at a visit that ends it
  abbrev pub HasEnded : List Visit → Option ℕ → Type 0
  HasEnded queue None = IsSearched queue (length queue)
  HasEnded queue (Some head) = IsSearched queue head × EndsAt queue head
