-- The visits of a search are the nodes to which walks lead.
use Rattle.std.proofs.Common.{◌≡◌, ◌≤◌, ◌<◌, inl, inr, ℕ, zero, suc, ◌+◌, arith, List, [], ◌∷◌, ◌++◌, length, Option}
use Rattle.std.proofs.Common.{Some, slice_get, reverse, refl, ap, subst, sym, ◌∙◌}
use Rattle.std.proofs.lemmas.Grind.{reverse_onto}
use Rattle.std.proofs.lemmas.Option.{slice_get_within}
use Rattle.flow_paths.specs.process_semantics.specs.Rests.{entry_number}
use Rattle.flow_paths.specs.path_semantics.specs.declared.dues.Dues.{Dues}
use Rattle.flow_paths.specs.path_semantics.specs.Dues.{no_dues, with_changed, after_entry}
use Rattle.flow_paths.specs.Graph.{Node}
use Rattle.flow_paths.specs.Walk.{StepsTo, Goes}
use Rattle.reason_dues.specs.Amounts.{cut_after}
use Rattle.reason_dues.proofs.Cut.{cut-none, along-edge}
use Rattle.due_search.specs.declared.queue.Visit.{Visit}
use Rattle.due_search.specs.declared.search.Aim.{Aim}
use Rattle.due_search.specs.Ends.{counted, AreReached}
use Rattle.due_search.specs.Search.{first_visit, number_in, node_in, from_in, number_at, back, IsVisited, Follows}
use Rattle.due_search.specs.Search.{Stems, IsQueue, IsDone, AreDone, IsSearched}

pub longer-by-one : (xs : List ℕ) (x : ℕ) → length (xs ++ x ∷ []) ≡ length xs + 1
longer-by-one [] x = refl
longer-by-one (y ∷ xs) x = let rest : length (xs ++ x ∷ []) ≡ length xs + 1 = longer-by-one xs x in omega arith

module _ (nodes : List Node) (aim : Aim) (queue : List Visit) (head : ℕ) (search : IsQueue nodes aim queue head) where
  -- A way back through the queue is a walk

  -- the walk to a visit, and what is due at its end
  pub record IsLed (front : List ℕ) (visit : Visit) : Type 0 where
    pub dues : Dues
    pub goes : Goes nodes 0 no_dues front visit.node dues
    pub due : counted aim dues ≡ visit.due
    pub steps : length front ≡ visit.steps

  pub record IsWay (place : ℕ) (visit : Visit) (numbers : List ℕ) : Type 0 where
    pub front : List ℕ
    pub is : numbers ≡ front ++ number_at nodes queue place ∷ []
    pub led : IsLed front visit

  begins : IsLed [] first_visit
  begins = record { dues = no_dues; goes = (refl, refl); due = cut-none aim.most aim.reason; steps = refl }

  goes-more : (front : List ℕ) (k mid j number : ℕ) (dues between later : Dues) → Goes nodes k dues front mid between
      → StepsTo nodes mid between number j later
      → Goes nodes k dues (front ++ number ∷ []) j later
  goes-more [] k mid j number dues between later goes step = (
    j,
    later,
    subst (λ (d : Dues). StepsTo nodes k d number j later) (sym goes.1)
        (subst (λ (n : ℕ). StepsTo nodes n between number j later) (sym goes.0) step),
    (refl, refl),
  )
  goes-more (first ∷ front) k mid j number dues between later (next, due, one, goes) step =
      (next, due, one, goes-more front next mid j number due between later goes step)

  goes-on : (front : List ℕ) (one other : Visit) → IsLed front one → (follows : Follows nodes aim one other)
      → IsLed (front ++ entry_number follows.node.entry ∷ []) other
  goes-on front one other led follows = record {
    dues = with_changed follows.edge.targets (after_entry led.dues follows.node.entry);
    goes = goes-more front 0 one.node other.node (entry_number follows.node.entry) no_dues led.dues
        (with_changed follows.edge.targets (after_entry led.dues follows.node.entry)) led.goes
        (record {
          node = follows.node;
          got = follows.got;
          is = refl;
          edge = follows.edge;
          among = follows.among;
          goal = follows.goal;
          due = refl;
        });
    due = along-edge aim.most aim.reason led.dues follows.node.entry follows.edge.targets
        ∙ ap (cut_after aim.most aim.reason follows.node.entry follows.edge.targets) led.due ∙ sym follows.due;
    steps = longer-by-one front (entry_number follows.node.entry)
        ∙ (let before = led.steps in let after = follows.steps in omega arith);
  }

  -- the way back from a visit is a walk to it, and then its number
  pub way : (steps place : ℕ) (visit : Visit) → slice_get queue place ≡ Some visit → visit.steps ≡ steps
      → IsWay place visit (reverse (back nodes queue (suc steps) place))
  way zero place visit got so_many = by_stems (search.stems place visit got)
    where
      by_stems : Stems nodes aim queue place visit → IsWay place visit (reverse (back nodes queue (suc zero) place))
      by_stems (inl first) = record { front = []; is = refl; led = subst (IsLed []) (sym first) begins }
      by_stems (inr stem) = absurd (let steps = stem.3.steps in omega arith)
  way (suc steps) place visit got so_many =
      by_stems (search.stems place visit got) (λ one found few. way steps visit.from one found few)
    where
      by_stems : Stems nodes aim queue place visit
          → ((one : Visit) → slice_get queue visit.from ≡ Some one → one.steps ≡ steps
          → IsWay visit.from one (reverse (back nodes queue (suc steps) visit.from)))
          → IsWay place visit (reverse (back nodes queue (suc (suc steps)) place))
      by_stems (inl first) before =
          absurd (let none : visit.steps ≡ 0 = ap (λ (v : Visit). v.steps) first in omega arith)
      by_stems (inr (one, earlier, found, follows)) before =
          let to = before one found (let more = follows.steps in omega arith) in
          let from : from_in (slice_get queue place) ≡ visit.from = ap from_in got in
          let number : number_at nodes queue visit.from ≡ entry_number follows.node.entry =
          ap (λ (v : Option Visit). number_in (slice_get nodes (node_in v))) found ∙ ap number_in follows.got in
          record {
            front = to.front ++ entry_number follows.node.entry ∷ [];
            is = ap (λ (k : ℕ). reverse (number_at nodes queue place ∷ back nodes queue (suc steps) k)) from
                ∙ reverse_onto (back nodes queue (suc steps) visit.from) (number_at nodes queue place) []
                ∙ ap (λ (numbers : List ℕ). numbers ++ number_at nodes queue place ∷ [])
                (to.is ∙ ap (λ (n : ℕ). to.front ++ n ∷ []) number);
            led = goes-on to.front one visit to.led follows;
          }

  -- the count of numbers on it
  pub back-length : (count place : ℕ) → length (back nodes queue count place) ≡ count
  back-length zero place = refl
  back-length (suc count) place = ap suc (back-length count (from_in (slice_get queue place)))

  -- All visits of fewer steps are done: so a walk leads to a visit

  module _ (limit : ℕ) (done : (place : ℕ) (visit : Visit) (here : Node) → visit.steps < limit
      → slice_get queue place ≡ Some visit → slice_get nodes visit.node ≡ Some here
      → IsDone nodes aim queue visit here) where
    stepped : (n k j number : ℕ) (dues later : Dues) → StepsTo nodes k dues number j later
        → IsVisited queue k (counted aim dues) n → n < limit
        → IsVisited queue j (counted aim later) (n + 1)
    stepped n k j number dues later step visited within =
        let is_done = done visited.place visited.visit step.node (let early = visited.early in omega arith) visited.got
        (ap (slice_get nodes) visited.same_node ∙ step.got) in
        let next = is_done.followed step.edge step.among j step.goal in
        record {
          place = next.place;
          visit = next.visit;
          got = next.got;
          same_node = next.same_node;
          same_due = next.same_due ∙ ap (cut_after aim.most aim.reason step.node.entry step.edge.targets)
              visited.same_due
              ∙ sym (ap (counted aim) step.due ∙ along-edge aim.most aim.reason dues step.node.entry step.edge.targets);
          early = let late = next.early in let early = visited.early in omega arith;
        }

    visited-on : (path : List ℕ) (n k j : ℕ) (dues later : Dues) → n + length path ≤ limit
        → IsVisited queue k (counted aim dues) n → Goes nodes k dues path j later
        → IsVisited queue j (counted aim later) (n + length path)
    visited-on [] n k j dues later few visited goes =
        subst (λ (m : ℕ). IsVisited queue j (counted aim later) m) (let same : n ≡ n + 0 = omega arith in same)
        (subst (λ (d : Dues). IsVisited queue j (counted aim d) n) goes.1
        (subst (λ (m : ℕ). IsVisited queue m (counted aim dues) n) goes.0 visited))
    visited-on (number ∷ path) n k j dues later few visited (next, due, step, goes) =
        subst (λ (m : ℕ). IsVisited queue j (counted aim later) m)
        (let same : n + 1 + length path ≡ n + suc (length path) = omega arith in same)
        (visited-on path (n + 1) next j due later (omega arith)
        (stepped n k next number dues due step visited (omega arith)) goes)

    pub visited : (path : List ℕ) (k : ℕ) (dues : Dues) → length path ≤ limit → Goes nodes 0 no_dues path k dues
        → IsVisited queue k (counted aim dues) (length path)
    visited path k dues few goes =
        subst (λ (m : ℕ). IsVisited queue k (counted aim dues) m)
        (let same : 0 + length path ≡ length path = omega arith in same)
        (visited-on path 0 0 k no_dues dues (omega arith)
        (record {
          place = 0;
          visit = first_visit;
          got = search.first;
          same_node = refl;
          same_due = sym (cut-none aim.most aim.reason);
          early = omega arith;
        }) goes)

  -- where all are done, the visits are what walks lead to
  pub all-reached : AreDone nodes aim queue head → length queue ≤ head → AreReached nodes aim queue
  all-reached done all = record {
    there = search.there;
    walked = λ place visit got.
        let to = way visit.steps place visit got refl in
        record { path = to.front; dues = to.led.dues; goes = to.led.goes; due = sym to.led.due };
    met = λ path k dues node goes got.
        let at = visited (length path) (λ place one here few at_queue at_node. each place one here at_queue at_node)
        path k dues (omega arith) goes in
        record { place = at.place; visit = at.visit; got = at.got; same_node = at.same_node; same_due = at.same_due };
    goes_on = λ place visit node got at_node. (each place visit node got at_node).goes_on;
  }
    where
      each : (place : ℕ) (one : Visit) (here : Node) → slice_get queue place ≡ Some one
          → slice_get nodes one.node ≡ Some here → IsDone nodes aim queue one here
      each place one here at_queue at_node = done place one here
          (let within : place < length queue = slice_get_within queue place one at_queue in omega arith) at_queue
          at_node

-- a search that has come to the end of its visits
pub searched-reached : (nodes : List Node) (aim : Aim) (queue : List Visit) (head : ℕ)
    → IsSearched nodes aim queue head → length queue ≤ head → AreReached nodes aim queue
searched-reached nodes aim queue head searched all = all-reached nodes aim queue head searched.search searched.done all

-- in no graph is any visit
pub none-reached : (nodes : List Node) (aim : Aim) (queue : List Visit) → length nodes ≡ 0 → queue ≡ []
    → AreReached nodes aim queue
none-reached (node ∷ nodes) aim queue empty none = absurd (omega arith)
none-reached [] aim (visit ∷ queue) empty none = absurd (cc)
none-reached [] aim [] empty none = record {
  there = λ place visit got. absurd (cc);
  walked = λ place visit got. absurd (cc);
  met = λ path k dues node goes got. absurd (cc);
  goes_on = λ place visit node got at_node. absurd (cc);
}
