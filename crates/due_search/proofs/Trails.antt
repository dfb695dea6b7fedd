-- The way back through a queue, number by number.
use Rattle.std.proofs.Common.{◌≡◌, ◌<◌, ℕ, suc, ◌+◌, ◌-◌, arith, List, [], ◌∷◌, ◌++◌, append_assoc, length, Option}
use Rattle.std.proofs.Common.{Some, slice_get, get_or, refl, ap, subst, sym, ◌∙◌}
use Rattle.std.proofs.lemmas.Option.{slice_get_read}
use Rattle.flow_paths.specs.process_semantics.specs.Rests.{entry_number}
use Rattle.flow_paths.specs.Graph.{Node}
use Rattle.due_search.specs.declared.queue.Visit.{Visit}
use Rattle.due_search.specs.Search.{number_in, node_in, from_in, number_at, back, IsTrail}

module _ (nodes : List Node) (queue : List Visit) (place : ℕ) (visit : Visit) (inside : place < length queue)
    (read : visit ≡ get_or queue place visit) where
  pub trail-visit : slice_get queue place ≡ Some visit
  trail-visit = slice_get_read queue (length queue) place visit refl inside read

  -- one number further back
  pub back-more : (node : Node) → slice_get nodes visit.node ≡ Some node
      → (numbers whole new : List ℕ) (count k number : ℕ) → k < count → number ≡ entry_number node.entry
      → numbers ++ back nodes queue (count - k) place ≡ whole → new ≡ numbers ++ number ∷ []
      → new ++ back nodes queue (count - (k + 1)) visit.from ≡ whole
  back-more node there numbers whole new count k number less is before pushed =
      let from : from_in (slice_get queue place) ≡ visit.from = ap from_in trail-visit in
      let at : number_at nodes queue place ≡ number =
      ap (λ (v : Option Visit). number_in (slice_get nodes (node_in v))) trail-visit ∙ ap number_in there ∙ sym is in
      let left : count - k ≡ suc (count - (k + 1)) = omega arith in
      ap (λ (all : List ℕ). all ++ back nodes queue (count - (k + 1)) visit.from) pushed
      ∙ append_assoc numbers (number ∷ []) (back nodes queue (count - (k + 1)) visit.from)
      ∙ ap (λ (rest : List ℕ). numbers ++ rest)
      (ap (λ (n : ℕ). n ∷ back nodes queue (count - (k + 1)) visit.from) (sym at)
      ∙ ap (λ (j : ℕ). number_at nodes queue place ∷ back nodes queue (count - (k + 1)) j) (sym from)
      ∙ ap (λ (n : ℕ). back nodes queue n place) (sym left))
      ∙ before

  -- as `path_to` goes: it stays within the queue, with one number more
  pub step-back : (node : Node) → slice_get nodes visit.node ≡ Some node → IsTrail nodes queue
      → (numbers whole new : List ℕ) (count k number from : ℕ) → k < count → number ≡ entry_number node.entry
      → numbers ++ back nodes queue (count - k) place ≡ whole → new ≡ numbers ++ number ∷ [] → from ≡ visit.from
      → (from < length queue) × (new ++ back nodes queue (count - (k + 1)) from ≡ whole)
  step-back node there trail numbers whole new count k number from less is before pushed same = (
    subst (λ (n : ℕ). n < length queue) (sym same) (trail.earlier place visit trail-visit),
    subst (λ (n : ℕ). new ++ back nodes queue (count - (k + 1)) n ≡ whole) (sym same)
        (back-more node there numbers whole new count k number less is before pushed),
  )
