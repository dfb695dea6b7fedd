-- An edge leads to a node that is there.
use Rattle.std.proofs.Common.{◌≡◌, ◌<◌, inl, inr, ℕ, List, [], ◌∷◌, length, slice_get, Some, subst, sym}
use Rattle.gd_words.specs.Members.{IsAmong}
use Rattle.tal_tree.specs.declared.program.Program.{Program}
use Rattle.path_semantics.specs.declared.dues.Dues.{Dues}
use Rattle.path_semantics.specs.Dues.{no_dues, with_changed, after_entry}
use Rattle.path_semantics.specs.Place.{Place, Stand, successors}
use Rattle.due_search.specs.flow_paths.specs.declared.graph.Edge.{Edge}
use Rattle.due_search.specs.flow_paths.specs.declared.graph.Goal.{Goal}
use Rattle.due_search.specs.flow_paths.specs.declared.graph.Goal.TheVariants.{At}
use Rattle.due_search.specs.flow_paths.specs.Graph.{Node, edges_of}
use Rattle.due_search.specs.flow_paths.specs.Flow.{IsStand, AllArrive, IsFlow}

arrives : (count : ℕ) (place : ℕ → Place) (dues : Dues) (edges : List Edge) (stands : List Stand) (edge : Edge) (j : ℕ)
    → AllArrive count place dues edges stands
    → IsAmong edge edges → edge.goal ≡ At j → j < count
arrives count place dues [] stands edge j all among goal = absurd among
arrives count place dues (first ∷ edges) [] edge j all among goal = absurd all
arrives count place dues (first ∷ edges) (stand ∷ stands) edge j all (inl same) goal =
    (subst (λ (g : Goal). IsStand count place g (with_changed edge.targets dues) stand) goal
    (subst (λ (e : Edge). IsStand count place e.goal (with_changed e.targets dues) stand) (sym same) all.0)).0
arrives count place dues (first ∷ edges) (stand ∷ stands) edge j all (inr among) goal =
    arrives count place dues edges stands edge j all.1 among goal

pub goal-within : (program : Program) (nodes : List Node) → IsFlow program nodes
    → (k j : ℕ) (node : Node) (edge : Edge) → slice_get nodes k ≡ Some node
    → IsAmong edge (edges_of node) → edge.goal ≡ At j → j < length nodes
goal-within program nodes flow k j node edge got among goal =
    arrives (length nodes) flow.place (after_entry no_dues node.entry) (edges_of node)
    (successors program (record { place = flow.place k; dues = no_dues })) edge j
    ((flow.right k node got).leads no_dues) among goal
