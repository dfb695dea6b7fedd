-- What a search finds: the nodes to which walks lead, and a shortest path that ends it.
use Rattle.std.specs.Prelude.{◌≡◌, ◌≤◌, ◌<◌, ℕ, Bool, false, min, IsTrue, List, [], ◌∷◌, ◌++◌, length, slice_get}
use Rattle.std.specs.Prelude.{Option, Some, None}
use Rattle.flow_paths.specs.tal_tree.specs.declared.program.Program.{Program}
use Rattle.flow_paths.specs.process_semantics.specs.Rests.{entry_number}
use Rattle.flow_paths.specs.process_semantics.specs.State.{Entry}
use Rattle.flow_paths.specs.path_semantics.specs.declared.dues.Dues.{Dues}
use Rattle.flow_paths.specs.path_semantics.specs.Dues.{no_dues}
use Rattle.flow_paths.specs.path_semantics.specs.Path.{Leads, number_at}
use Rattle.flow_paths.specs.path_semantics.specs.Place.{Stand, next_entry}
use Rattle.flow_paths.specs.Flow.{IsFlow}
use Rattle.flow_paths.specs.Graph.{Node}
use Rattle.flow_paths.specs.Walk.{Goes}
use Rattle.reason_dues.specs.Amounts.{amount}
use Rattle.due_search.specs.declared.queue.Visit.{Visit}
use Rattle.due_search.specs.declared.search.Aim.{Aim}
use Rattle.due_search.specs.Search.{ends_with, IsSearched, EndsAt}
use Rattle.gd_words.specs.declared.limits.TheConstants.{MOST_STATEMENTS}

-- how much of what is due a search counts
abbrev pub counted : Aim → Dues → ℕ
counted aim dues = min aim.most (amount aim.reason dues)

-- whether the entry that comes next ends a search
abbrev pub ends_next : Aim → Dues → Option Entry → Bool
ends_next aim dues None = false
ends_next aim dues (Some entry) = ends_with aim entry (amount aim.reason dues)

-- a path of a program ends a search: its last entry does, with what is due where the path before it leads
pub record IsEnd (program : Program) (aim : Aim) (path : List ℕ) : Type 0 where
  pub front : List ℕ
  pub number : ℕ
  pub stand : Stand
  pub split : path ≡ front ++ number ∷ []
  pub leads : Leads program front stand
  pub next : number_at stand ≡ Some number
  pub ends : IsTrue (ends_next aim stand.dues (next_entry stand))

-- such a path, than which none is shorter
pub record IsFirstEnd (program : Program) (aim : Aim) (path : List ℕ) : Type 0 where
  pub ends : IsEnd program aim path
  pub least : (other : List ℕ) → IsEnd program aim other → length path ≤ length other

-- the entries to which walks lead have numbers of a text
abbrev pub AreNumbered : List Node → Type 0
AreNumbered nodes = (path : List ℕ) (k : ℕ) (dues : Dues) (node : Node) → Goes nodes 0 no_dues path k dues
    → slice_get nodes k ≡ Some node → entry_number node.entry ≤ MOST_STATEMENTS

module _ (nodes : List Node) (aim : Aim) where
  -- a walk from the first node leads to the node of a visit, with as much due
  pub record IsWalked (visit : Visit) : Type 0 where
    pub path : List ℕ
    pub dues : Dues
    pub goes : Goes nodes 0 no_dues path visit.node dues
    pub due : visit.due ≡ counted aim dues

  -- a visit to this node with so much due is among these
  pub record IsMet (queue : List Visit) (k due : ℕ) : Type 0 where
    pub place : ℕ
    pub visit : Visit
    pub got : slice_get queue place ≡ Some visit
    pub same_node : visit.node ≡ k
    pub same_due : visit.due ≡ due

  -- the visits are those nodes to which walks lead, each with what is due there, and none of them ends the search
  pub record AreReached (queue : List Visit) : Type 0 where
    pub there : (place : ℕ) (visit : Visit) → slice_get queue place ≡ Some visit → visit.node < length nodes
    pub walked : (place : ℕ) (visit : Visit) → slice_get queue place ≡ Some visit → IsWalked visit
    pub met : (path : List ℕ) (k : ℕ) (dues : Dues) (node : Node) → Goes nodes 0 no_dues path k dues
        → slice_get nodes k ≡ Some node → IsMet queue k (counted aim dues)
    pub goes_on : (place : ℕ) (visit : Visit) (node : Node) → slice_get queue place ≡ Some visit
        → slice_get nodes visit.node ≡ Some node → ends_with aim node.entry visit.due ≡ false

  -- a search has stopped with such visits, or at the first of them that ends it; only the clauses of private functions
  -- cite it
  abbrev pub HasStopped : List Visit → Option ℕ → Type 0
  HasStopped queue None = AreReached queue
  HasStopped queue (Some place) = IsSearched nodes aim queue place × EndsAt nodes aim queue place

  -- a search has found such visits, or a shortest path that ends it in each program with this graph
  abbrev pub HasFound : List Visit → Option (List ℕ) → Type 0
  HasFound queue None = AreReached queue
  HasFound queue (Some path) = (program : Program) → IsFlow program nodes → IsFirstEnd program aim path
