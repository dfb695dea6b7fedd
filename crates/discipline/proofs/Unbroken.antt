-- Marks on nodes, each with how much is due there, that hold at the start and along edges: where none of them breaks
-- within some numbers of entries, no path of so many breaks.
use Rattle.std.proofs.Common.{◌≡◌, ◌<◌, inl, inr, ℕ, ◌+◌, false, List, length, Some, slice_get, ap, subst, sym}
use Rattle.std.proofs.Common.{◌∙◌}
use Rattle.std.specs.Prelude.{min}
use Rattle.gd_words.specs.Members.{IsAmong}
use Rattle.tal_tree.specs.declared.program.Program.{Program}
use Rattle.path_semantics.specs.declared.dues.Dues.{Dues}
use Rattle.path_semantics.specs.declared.reason.Reason.{Reason}
use Rattle.path_semantics.specs.Place.{Place, Stand, next_in}
use Rattle.path_semantics.specs.Path.{Leads}
use Rattle.path_semantics.specs.Break.{breaks_entry, breaks_at}
use Rattle.due_search.specs.flow_paths.specs.declared.graph.Edge.{Edge}
use Rattle.due_search.specs.flow_paths.specs.declared.graph.Goal.TheVariants.{At}
use Rattle.due_search.specs.flow_paths.specs.Graph.{Node, edges_of}
use Rattle.due_search.specs.flow_paths.specs.Flow.{IsFlow}
use Rattle.due_search.specs.flow_paths.specs.Walk.{IsKept, IsMet}
use Rattle.due_search.specs.flow_paths.proofs.Along.{led}
use Rattle.due_search.specs.reason_dues.specs.Amounts.{amount, most_of, cut_after, breaks_with}
use Rattle.due_search.specs.reason_dues.proofs.Cut.{along-edge, cut-none}
use Rattle.discipline.proofs.Cut.{breaks-is}

module _ (program : Program) (nodes : List Node) (flow : IsFlow program nodes) (reason : Reason)
    (M : ℕ → ℕ → ℕ → Type 0) where
  pub record AreMarked : Type 0 where
    pub first : 0 < length nodes → M 0 0 0
    pub step : (n k j due : ℕ) (node : Node) (edge : Edge) → slice_get nodes k ≡ Some node → M n k due
        → IsAmong edge (edges_of node) → edge.goal ≡ At j
        → M (n + 1) j (cut_after (most_of program reason) reason node.entry edge.targets due)

  abbrev Holds : ℕ → ℕ → Dues → Type 0
  Holds n k dues = M n k (min (most_of program reason) (amount reason dues))

  kept : AreMarked → IsKept nodes Holds
  kept marked = record {
    first = λ some. subst (M 0 0) (sym (cut-none (most_of program reason) reason)) (marked.first some);
    step = λ n k j number dues later holds step. subst (M (n + 1) j)
        (sym (ap (λ (d : Dues). min (most_of program reason) (amount reason d)) step.due
        ∙ along-edge (most_of program reason) reason dues step.node.entry step.edge.targets))
        (marked.step n k j (min (most_of program reason) (amount reason dues)) step.node step.edge step.got holds
        step.among step.goal);
  }

  -- no mark within these breaks
  abbrev pub NoneBreaks : (ℕ → Type 0) → Type 0
  NoneBreaks Within = (n k due : ℕ) (node : Node) → Within n → M n k due → slice_get nodes k ≡ Some node
      → breaks_with program reason node.entry due ≡ false

  met-unbroken : (Within : ℕ → Type 0) → NoneBreaks Within → (n : ℕ) (stand : Stand) → Within n
      → IsMet nodes Holds n stand → breaks_at program reason stand ≡ false
  met-unbroken Within none n stand within (inl ended) =
      ap (λ (p : Place). breaks_entry program reason stand.dues (next_in p)) ended
  met-unbroken Within none n stand within (inr (k, at, holds)) =
      ap (breaks_entry program reason stand.dues) at.next ∙ breaks-is program reason stand.dues at.node.entry
      ∙ none n k (min (most_of program reason) (amount reason stand.dues)) at.node within holds at.got

  -- no path within these leads to a stand that breaks for the reason
  pub unbroken : AreMarked → (Within : ℕ → Type 0) → NoneBreaks Within → (path : List ℕ) (stand : Stand)
      → Within (length path) → Leads program path stand
      → breaks_at program reason stand ≡ false
  unbroken marked Within none path stand within walk =
      met-unbroken Within none (length path) stand within (led program nodes flow Holds (kept marked) path stand walk)
