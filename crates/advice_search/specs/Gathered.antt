-- What visits of a search tell of CHECKPOINTs, gathered by the numbers of these; only the clauses of private functions
-- cite it.
use Rattle.std.specs.Prelude.{◌≡◌, ◌≤◌, ◌<◌, ◌⊎◌, ◌↔◌, ℕ, ◌+◌, ◌==◌, ◌||◌, ◌&&◌, Bool, false, IsTrue, if◌then◌else◌}
use Rattle.std.specs.Prelude.{nat_le, List, length, slice_get, Option, Some, None}
use Rattle.std.specs.List.{list_any}
use Rattle.tal_tree.specs.declared.statement.What.{out-What}
use Rattle.process_semantics.specs.Rests.{entry_number}
use Rattle.process_semantics.specs.State.{Entry, Run, Test, Last}
use Rattle.advice.specs.flow_paths.specs.Graph.{Node}
use Rattle.advice.specs.reason_dues.specs.Sets.{has_number}
use Rattle.advice.specs.reason_dues.specs.declared.number_set.Numbers.{Numbers}
use Rattle.advice.specs.due_search.specs.declared.queue.Visit.{Visit}
use Rattle.advice.specs.Due.{is_checkpoint, is_ask_next}
use Rattle.gd_words.specs.declared.limits.TheConstants.{MOST_GLOBALS, MOST_STATEMENTS}
use Rattle.gd_words.specs.declared.limits.TheConstants.{MOST_DEPTH}

-- the number of a CHECKPOINT
abbrev pub checkpoint_at : Entry → Option ℕ
checkpoint_at (Run statement) = if is_checkpoint (out-What statement.what) then Some statement.number else None
checkpoint_at (Test statement) = None
checkpoint_at (Last statement) = None

abbrev pub checkpoint_in : Option Node → Option ℕ
checkpoint_in None = None
checkpoint_in (Some node) = checkpoint_at node.entry

-- the number of the CHECKPOINT at which a visit stands with something due
abbrev pub due_at : List Node → Visit → Option ℕ
due_at nodes visit = if nat_le 1 visit.due then checkpoint_in (slice_get nodes visit.node) else None

abbrev pub is_this : ℕ → Option ℕ → Bool
is_this number None = false
is_this number (Some other) = other == number

-- whether one of these visits stands at the CHECKPOINT of a number with something due
abbrev pub is_due_among : List Node → List Visit → ℕ → Bool
is_due_among nodes visits number = list_any (λ visit. is_this number (due_at nodes visit)) visits

abbrev pub holds : Option Numbers → ℕ → Bool
holds None n = false
holds (Some set) n = has_number set n

-- whether the set of a statement's number has a member
abbrev pub has_in : List Numbers → ℕ → ℕ → Bool
has_in sets number n = holds (slice_get sets number) n

-- each visit stands at a node that is there, with a number of a text, and with at most as much due as is counted
pub record AreReadable (nodes : List Node) (visits : List Visit) : Type 0 where
  pub there : (place : ℕ) (visit : Visit) → slice_get visits place ≡ Some visit → visit.node < length nodes
  pub low : (place : ℕ) (visit : Visit) (node : Node) → slice_get visits place ≡ Some visit
      → slice_get nodes visit.node ≡ Some node → entry_number node.entry ≤ MOST_STATEMENTS
  pub few : (place : ℕ) (visit : Visit) → slice_get visits place ≡ Some visit → visit.due ≤ MOST_DEPTH

-- sets to which a member is added wherever one of these visits stands at a CHECKPOINT with something due
abbrev pub AreAdded : List Node → List Visit → ℕ → List Numbers → List Numbers → Type 0
AreAdded nodes visits member old new = (number n : ℕ) → number < length old → n < MOST_GLOBALS
    → has_in new number n ≡ (((member == n) && is_due_among nodes visits number) || has_in old number n)

-- the sets have exactly those of the first members of which this holds
abbrev pub AreDue : (ℕ → ℕ → Type 0) → List Numbers → ℕ → Type 0
AreDue IsDue sets count =
    (number n : ℕ) → number ≤ MOST_STATEMENTS → n < MOST_GLOBALS
    → IsTrue (has_in sets number n) ↔ ((n < count) × IsDue number n)

-- whether a node is a WRITEREAD on this file
abbrev pub asks_in : ℕ → Option Node → Bool
asks_in file None = false
asks_in file (Some node) = is_ask_next file (Some node.entry)

-- a depth is the least, from 1 on, that is more than what is counted at each of the first visits that stands at a
-- WRITEREAD on this file
pub record IsDeepest (nodes : List Node) (file : ℕ) (visits : List Visit) (end depth : ℕ) : Type 0 where
  pub lowest : 1 ≤ depth
  pub enough : (place : ℕ) (visit : Visit) → place < end → slice_get visits place ≡ Some visit
      → IsTrue (asks_in file (slice_get nodes visit.node)) → visit.due < depth
  pub least : (depth ≡ 1) ⊎ ((place : ℕ) × (visit : Visit) × (slice_get visits place ≡ Some visit)
      × IsTrue (asks_in file (slice_get nodes visit.node)) × (depth ≡ visit.due + 1))
