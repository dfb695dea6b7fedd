-- Which reasons a program may break for at all, told by what may be due at each node of its graph.
use Rattle.std.specs.Prelude.{◌≡◌, ◌≤◌, ◌<◌, ℕ, ◌||◌, false, IsTrue, List, length, slice_get, Some}
use Rattle.gd_words.specs.Members.{IsAmong}
use Rattle.tal_tree.specs.declared.program.Program.{Program}
use Rattle.path_semantics.specs.declared.reason.Reason.{Reason}
use Rattle.path_semantics.specs.declared.reason.Reason.TheVariants.{Data, SyncBlock, Input, Depth}
use Rattle.path_semantics.specs.Break.{Breaks}
use Rattle.due_search.specs.flow_paths.specs.declared.graph.Edge.{Edge}
use Rattle.due_search.specs.flow_paths.specs.declared.graph.Goal.TheVariants.{At}
use Rattle.due_search.specs.flow_paths.specs.Graph.{Node, edges_of}
use Rattle.due_search.specs.flow_paths.specs.Flow.{IsFlow}
use Rattle.due_search.specs.reason_dues.specs.declared.reasons.Reasons.{Reasons}
use Rattle.due_search.specs.reason_dues.specs.Amounts.{adds_changed, may_break_at, most_of}
use Rattle.due_search.specs.reason_dues.specs.Sets.{has_reason, IsNear, due_after}

-- a reason that can be tried: a depth is that of a file that is there
abbrev pub IsKnown : Program → Reason → Type 0
IsKnown program (Data item) = Unit {0}
IsKnown program (SyncBlock file) = Unit {0}
IsKnown program Input = Unit {0}
IsKnown program (Depth file) = file < length program.files

-- where an edge leads to a node, what may be due of a set or by its targets may be due there
abbrev pub Reaches : List Reasons → Reasons → Edge → Type 0
Reaches sets after edge =
    (j : ℕ) (there : Reasons) (reason : Reason) → edge.goal ≡ At j → slice_get sets j ≡ Some there → IsNear reason
    → IsTrue (adds_changed reason edge.targets || has_reason after reason) → IsTrue (has_reason there reason)

-- what may be due at a node may be due after its entry wherever its edges lead
abbrev pub IsSettled : List Reasons → Reasons → Node → Type 0
IsSettled sets here node = (edge : Edge) (j : ℕ) (there : Reasons) (reason : Reason) → IsAmong edge (edges_of node)
    → edge.goal ≡ At j → slice_get sets j ≡ Some there
    → IsNear reason → IsTrue (adds_changed reason edge.targets || due_after reason node.entry (has_reason here reason))
    → IsTrue (has_reason there reason)

-- the same at each node
abbrev pub AreSettled : List Node → List Reasons → Type 0
AreSettled nodes sets = (k : ℕ) (node : Node) (here : Reasons) → slice_get nodes k ≡ Some node
    → slice_get sets k ≡ Some here → IsSettled sets here node

-- the reasons for which the entry of a node may break, where something may be due
abbrev pub AreFoundAt : Reasons → Reasons → Node → Type 0
AreFoundAt found here node = (reason : Reason) → IsNear reason → IsTrue (has_reason here reason)
    → IsTrue (may_break_at reason node.entry) → IsTrue (has_reason found reason)

-- the same of each of the first nodes
abbrev pub AreFoundBefore : List Node → List Reasons → Reasons → ℕ → Type 0
AreFoundBefore nodes sets found k = (j : ℕ) (node : Node) (here : Reasons) → j < k → slice_get nodes j ≡ Some node
    → slice_get sets j ≡ Some here → AreFoundAt found here node

-- where a reason is in a set there are nodes
abbrev pub HaveNodes : List Node → Reasons → Type 0
HaveNodes nodes suspects = (reason : Reason) → IsTrue (has_reason suspects reason) → 0 < length nodes

-- for no other of these reasons, where something must be due for it, a path of a program with this graph breaks
abbrev pub AreSuspects : List Node → Reasons → Type 0
AreSuspects nodes suspects =
    (program : Program) (reason : Reason) → IsFlow program nodes → 1 ≤ most_of program reason → IsNear reason
    → has_reason suspects reason ≡ false → (path : List ℕ) → Breaks program path reason → ⊥
