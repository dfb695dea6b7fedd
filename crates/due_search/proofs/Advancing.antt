-- What is known of the visit from which a search goes on.
use Rattle.std.proofs.Common.{◌≡◌, ◌≤◌, ◌<◌, ℕ, ◌+◌, ◌*◌, Bool, true, false, arith, List, length, Option, Some}
use Rattle.std.proofs.Common.{slice_get, get_or, refl, ap, subst, sym, ◌∙◌, inl, inr}
use Rattle.std.specs.Option.{option_to_list}
use Rattle.std.proofs.lemmas.Option.{slice_get_read}
use Rattle.gd_words.specs.Members.{IsAmong}
use Rattle.flow_paths.specs.process_semantics.specs.State.{Entry}
use Rattle.flow_paths.specs.declared.graph.Edge.{Edge}
use Rattle.flow_paths.specs.declared.graph.Goal.{Goal}
use Rattle.flow_paths.specs.declared.graph.Goal.TheVariants.{At, Left, Ended}
use Rattle.flow_paths.specs.Graph.{Node, IsWithin}
use Rattle.reason_dues.specs.Amounts.{after_entry}
use Rattle.due_search.specs.declared.queue.Visit.{Visit}
use Rattle.due_search.specs.declared.search.Aim.{Aim}
use Rattle.due_search.specs.Search.{HasRoom, ComesBy, visit_after, ComesByEach, IsSeenOnce, IsSearched, EndsAt}
use Rattle.due_search.specs.Search.{ends_with}
use Rattle.due_search.proofs.Seen.{few-visits}
use Rattle.due_search.proofs.Advanced.{advanced}

module _ (nodes : List Node) (aim : Aim) (seen : List Bool) (queue : List Visit) (head : ℕ) (visit : Visit)
    (node : Node)
    (small : length nodes ≤ 8192) (searched : IsSearched nodes aim queue head) (once : IsSeenOnce seen queue)
    (room : length seen ≡ length nodes * 5) (inside : head < length queue) (read : visit ≡ get_or queue head visit)
    (at_node : slice_get nodes visit.node ≡ Some node)
    (within : IsWithin (length nodes) node) where
  pub got-visit : slice_get queue head ≡ Some visit
  got-visit = slice_get_read queue (length queue) head visit refl inside read

  pub due-few : visit.due ≤ 4
  due-few = once.small head visit got-visit

  pub head-few : head < 65535
  head-few = let visits : length queue ≤ length seen = few-visits seen queue once in omega arith

  pub steps-few : visit.steps < 65535
  steps-few = let low : visit.steps ≤ head =
      searched.search.low head visit got-visit in let high = head-few in omega arith

  room-by : (goal : Goal) → ((j : ℕ) → goal ≡ At j → j < length nodes) → HasRoom goal (length seen)
  room-by (At k) there = let inside : k < length nodes = there k refl in omega arith
  room-by Left there = tt
  room-by Ended there = tt

  pub first-room : (edge : Edge) → edge ≡ node.first → HasRoom edge.goal (length seen)
  first-room edge is = room-by edge.goal (λ j goal. within.goals edge (inl is) j goal)

  pub second-room : (edge : Edge) → Some edge ≡ node.second → (count : ℕ) → count ≡ length seen
      → HasRoom edge.goal count
  second-room edge is count same = subst (HasRoom edge.goal) (sym same)
      (room-by edge.goal (λ j goal. within.goals edge
      (inr (subst (λ (o : Option Edge). IsAmong edge (option_to_list o)) is (inl refl))) j goal))

  module _ (entry : Entry) (ends : Bool) (is_entry : entry ≡ node.entry)
      (is : ends ≡ ends_with aim entry visit.due) where
    told : ends_with aim node.entry visit.due ≡ ends
    told = sym (is ∙ ap (λ (e : Entry). ends_with aim e visit.due) is_entry)

    pub ends-here : ends ≡ true → EndsAt nodes aim queue head
    ends-here ended = record { visit = visit; node = node; got = got-visit; there = at_node; ends = told ∙ ended }

    pub goes-further : ends ≡ false → (after : ℕ) → after ≡ after_entry aim.reason entry visit.due
        → (mid new : List Visit) (first : Edge) → first ≡ node.first
        → ComesBy queue mid first.goal (visit_after aim.reason aim.most after first.targets head visit)
        → (second : Option Edge) → second ≡ node.second
        → ComesByEach mid new aim.reason aim.most after head visit second → IsSearched nodes aim new (head + 1)
    goes-further goes_on after is_after mid new first is_first by_first second is_second by_second =
        let same_after : after ≡ after_entry aim.reason node.entry visit.due =
        is_after ∙ ap (λ (e : Entry). after_entry aim.reason e visit.due) is_entry in
        advanced nodes aim head visit node at_node within queue mid new searched.search searched.done got-visit
        (told ∙ goes_on)
        (subst (λ (e : Edge). ComesBy queue mid e.goal
        (visit_after aim.reason aim.most (after_entry aim.reason node.entry visit.due) e.targets head visit))
        is_first
        (subst (λ (n : ℕ). ComesBy queue mid first.goal (visit_after aim.reason aim.most n first.targets head visit))
        same_after by_first))
        (subst (λ (o : Option Edge). ComesByEach mid new aim.reason aim.most
        (after_entry aim.reason node.entry visit.due) head visit o) is_second
        (subst (λ (n : ℕ). ComesByEach mid new aim.reason aim.most n head visit second) same_after by_second))
