-- A search goes on: what its queue keeps when visits come to it.
use Rattle.std.proofs.Common.{◌≡◌, ◌≤◌, ◌<◌, ◌⊎◌, inl, inr, ℕ, zero, suc, ◌+◌, false, arith, List, [], ◌∷◌, ◌++◌}
use Rattle.std.proofs.Common.{length, Option, Some, None, slice_get, refl, ap, subst, sym, ◌∙◌}
use Rattle.std.specs.Option.{option_to_list}
use Rattle.std.proofs.lemmas.Option.{slice_get_within}
use Rattle.gd_words.specs.Members.{IsAmong}
use Rattle.flow_paths.specs.declared.graph.Edge.{Edge}
use Rattle.flow_paths.specs.declared.graph.Goal.{Goal}
use Rattle.flow_paths.specs.declared.graph.Goal.TheVariants.{At, Left, Ended}
use Rattle.flow_paths.specs.Graph.{Node, edges_of, IsWithin}
use Rattle.reason_dues.specs.Amounts.{after_entry, cut_after}
use Rattle.due_search.specs.declared.queue.Visit.{Visit}
use Rattle.due_search.specs.declared.search.Aim.{Aim}
use Rattle.due_search.specs.Search.{first_visit, IsVisited, Extends, Comes, ComesBy, visit_after, ComesByEach, Follows}
use Rattle.due_search.specs.Search.{Stems, IsQueue, IsFollowedBy, IsDone, AreDone, IsSearched, ends_with}

extends-push : (queue : List Visit) (visit : Visit) → Extends queue (queue ++ visit ∷ [])
extends-push [] visit place one got = absurd (cc)
extends-push (first ∷ queue) visit zero one got = got
extends-push (first ∷ queue) visit (suc place) one got = extends-push queue visit place one got

pushed : (queue : List Visit) (visit : Visit) (place : ℕ) (one : Visit)
    → slice_get (queue ++ visit ∷ []) place ≡ Some one
    → (slice_get queue place ≡ Some one) ⊎ ((place ≡ length queue) × (one ≡ visit))
pushed [] visit zero one got = inr (refl, (let same : visit ≡ one = cc in sym same))
pushed [] visit (suc place) one got = absurd (cc)
pushed (first ∷ queue) visit zero one got = inl got
pushed (first ∷ queue) visit (suc place) one got = by_case (pushed queue visit place one got)
  where
    by_case : (slice_get queue place ≡ Some one) ⊎ ((place ≡ length queue) × (one ≡ visit))
        → (slice_get queue place ≡ Some one) ⊎ ((suc place ≡ suc (length queue)) × (one ≡ visit))
    by_case (inl before) = inl before
    by_case (inr last) = inr (ap suc last.0, last.1)

same-visit : (queue : List Visit) (place : ℕ) (one other : Visit) → slice_get queue place ≡ Some one
    → slice_get queue place ≡ Some other → one ≡ other
same-visit queue place one other first second = let both : Some one ≡ Some other = sym first ∙ second in cc

-- what is visited stays so
visited-more : (old new : List Visit) → Extends old new → (node due steps : ℕ) → IsVisited old node due steps
    → IsVisited new node due steps
visited-more old new extends node due steps visited = record {
  place = visited.place;
  visit = visited.visit;
  got = extends visited.place visited.visit visited.got;
  same_node = visited.same_node;
  same_due = visited.same_due;
  early = visited.early;
}

module _ (nodes : List Node) (aim : Aim) where
  done-more : (old new : List Visit) → Extends old new → (visit : Visit) (node : Node)
      → IsDone nodes aim old visit node → IsDone nodes aim new visit node
  done-more old new extends visit node done = record {
    goes_on = done.goes_on;
    followed = λ edge among j goal. visited-more old new extends j
        (cut_after aim.most aim.reason node.entry edge.targets visit.due) (visit.steps + 1)
        (done.followed edge among j goal);
  }

  -- a queue to which a visit has come
  record HasCome (old new : List Visit) (head : ℕ) (node due steps : ℕ) : Type 0 where
    search : IsQueue nodes aim new head
    extends : Extends old new
    visited : IsVisited new node due steps

  module _ (queue : List Visit) (head : ℕ) (here visit : Visit) (search : IsQueue nodes aim queue head)
      (got : slice_get queue head ≡ Some here)
      (from : visit.from ≡ head) (within : visit.node < length nodes) (follows : Follows nodes aim here visit) where
    abbrev longer : List Visit
    longer = queue ++ visit ∷ []

    abbrev Where : ℕ → Visit → Type 0
    Where place one = (slice_get queue place ≡ Some one) ⊎ ((place ≡ length queue) × (one ≡ visit))

    steps-is : visit.steps ≡ here.steps + 1
    steps-is = follows.steps

    head-within : head < length queue
    head-within = slice_get_within queue head here got

    stem-more : (place : ℕ) (one : Visit) → Stems nodes aim queue place one → Stems nodes aim longer place one
    stem-more place one (inl first) = inl first
    stem-more place one (inr stem) = inr (stem.0, stem.1, extends-push queue visit one.from stem.0 stem.2, stem.3)

    stems : (place : ℕ) (one : Visit) → Where place one → Stems nodes aim longer place one
    stems place one (inl before) = stem-more place one (search.stems place one before)
    stems place one (inr last) =
        subst (λ (v : Visit). Stems nodes aim longer place v) (sym last.1)
        (inr (
          here,
          (let at = last.0 in let within = head-within in omega arith),
          subst (λ (k : ℕ). slice_get longer k ≡ Some here) (sym from) (extends-push queue visit head here got),
          follows,
        ))

    low : (place : ℕ) (one : Visit) → Where place one → one.steps ≤ place
    low place one (inl before) = search.low place one before
    low place one (inr last) =
        let at = last.0 in
        let is : one.steps ≡ visit.steps = ap (λ (v : Visit). v.steps) last.1 in
        let before : here.steps ≤ head = search.low head here got in
        let more = steps-is in
        let within = head-within in
        omega arith

    there : (place : ℕ) (one : Visit) → Where place one → one.node < length nodes
    there place one (inl before) = search.there place one before
    there place one (inr last) = subst (λ (v : Visit). v.node < length nodes) (sym last.1) within

    sorted : (one other : ℕ) (early late : Visit) → one ≤ other → Where one early → Where other late
        → early.steps ≤ late.steps
    sorted one other early late order (inl first) (inl second) = search.sorted one other early late order first second
    sorted one other early late order (inl first) (inr last) =
        let is : late.steps ≡ visit.steps = ap (λ (v : Visit). v.steps) last.1 in
        let close : early.steps ≤ here.steps + 1 = search.near one early here first got in
        let more = steps-is in
        omega arith
    sorted one other early late order (inr last) (inl second) =
        absurd (let at = last.0 in let inside : other < length queue = slice_get_within queue other late second in
        omega arith)
    sorted one other early late order (inr first) (inr second) =
        let is : early.steps ≡ visit.steps = ap (λ (v : Visit). v.steps) first.1 in
        let other_is : late.steps ≡ visit.steps = ap (λ (v : Visit). v.steps) second.1 in
        omega arith

    near : (place : ℕ) (one at_head : Visit) → Where place one → at_head ≡ here → one.steps ≤ at_head.steps + 1
    near place one at_head (inl before) same =
        let is : at_head.steps ≡ here.steps = ap (λ (v : Visit). v.steps) same in
        let close : one.steps ≤ here.steps + 1 = search.near place one here before got in
        omega arith
    near place one at_head (inr last) same =
        let is : at_head.steps ≡ here.steps = ap (λ (v : Visit). v.steps) same in
        let last_is : one.steps ≡ visit.steps = ap (λ (v : Visit). v.steps) last.1 in
        let more = steps-is in
        omega arith

    queue-longer : IsQueue nodes aim longer head
    queue-longer = record {
      first = extends-push queue visit 0 first_visit search.first;
      stems = λ place one found. stems place one (pushed queue visit place one found);
      low = λ place one found. low place one (pushed queue visit place one found);
      there = λ place one found. there place one (pushed queue visit place one found);
      sorted = λ one other early late order first second.
          sorted one other early late order (pushed queue visit one early first) (pushed queue visit other late second);
      near = λ place one at_head found at. near place one at_head (pushed queue visit place one found)
          (same-visit longer head at_head here at (extends-push queue visit head here got));
    }

    last-there : (xs : List Visit) → slice_get (xs ++ visit ∷ []) (length xs) ≡ Some visit
    last-there [] = refl
    last-there (x ∷ xs) = last-there xs

    comes : (new : List Visit) → Comes queue new visit → HasCome queue new head visit.node visit.due (here.steps + 1)
    comes new (inl is) =
        subst (λ (all : List Visit). HasCome queue all head visit.node visit.due (here.steps + 1)) (sym is) (record {
          search = queue-longer;
          extends = extends-push queue visit;
          visited = record {
            place = length queue;
            visit = visit;
            got = last-there queue;
            same_node = refl;
            same_due = refl;
            early = let more = steps-is in omega arith;
          };
        })
    comes new (inr (is, place, one, found, same_node, same_due)) =
        subst (λ (all : List Visit). HasCome queue all head visit.node visit.due (here.steps + 1)) (sym is) (record {
          search = search;
          extends = λ at any is_there. is_there;
          visited = record {
            place = place;
            visit = one;
            got = found;
            same_node = same_node;
            same_due = same_due;
            early = search.near place one here found got;
          };
        })

  -- a queue to which the visits of an edge have come
  record HasFollowed (old new : List Visit) (head : ℕ) (here : Visit) (node : Node) (edge : Edge) : Type 0 where
    search : IsQueue nodes aim new head
    extends : Extends old new
    followed : IsFollowedBy nodes aim new here node edge

  module _ (head : ℕ) (here : Visit) (node : Node) (at_node : slice_get nodes here.node ≡ Some node)
      (within : IsWithin (length nodes) node) where
    abbrev after : ℕ
    after = after_entry aim.reason node.entry here.due

    follows-by : (queue new : List Visit) (edge : Edge) → IsQueue nodes aim queue head
        → slice_get queue head ≡ Some here → IsAmong edge (edges_of node)
        → (goal : Goal) → edge.goal ≡ goal → ComesBy queue new goal
        (visit_after aim.reason aim.most after edge.targets head here) → HasFollowed queue new head here node edge
    follows-by queue new edge search got among (At k) goal by =
        let visit = visit_after aim.reason aim.most after edge.targets head here k in
        let come = comes queue head here visit search got refl (within.goals edge among k goal)
        (record { node = node; edge = edge; got = at_node; among = among; goal = goal; due = refl; steps = refl }) new
        by in
        record {
          search = come.search;
          extends = come.extends;
          followed = λ j other. subst (λ (i : ℕ). IsVisited new i
              (cut_after aim.most aim.reason node.entry edge.targets here.due) (here.steps + 1))
              (let same : At k ≡ At j = sym goal ∙ other in cc) come.visited;
        }
    follows-by queue new edge search got among Left goal by = record {
      search = subst (λ (all : List Visit). IsQueue nodes aim all head) (sym by) search;
      extends = λ place one found. subst (λ (all : List Visit). slice_get all place ≡ Some one) (sym by) found;
      followed = λ j other. absurd (let none : Left ≡ At j = sym goal ∙ other in cc);
    }
    follows-by queue new edge search got among Ended goal by = record {
      search = subst (λ (all : List Visit). IsQueue nodes aim all head) (sym by) search;
      extends = λ place one found. subst (λ (all : List Visit). slice_get all place ≡ Some one) (sym by) found;
      followed = λ j other. absurd (let none : Ended ≡ At j = sym goal ∙ other in cc);
    }

    abbrev HasAdvanced : List Visit → Type 0
    HasAdvanced new = IsSearched nodes aim new (head + 1)

    next-queue : (queue : List Visit) → IsQueue nodes aim queue head → slice_get queue head ≡ Some here
        → IsQueue nodes aim queue (head + 1)
    next-queue queue search got = record {
      first = search.first;
      stems = search.stems;
      low = search.low;
      there = search.there;
      sorted = search.sorted;
      near = λ place one at_next found at.
          let close : one.steps ≤ here.steps + 1 = search.near place one here found got in
          let later : here.steps ≤ at_next.steps = search.sorted head (head + 1) here at_next (omega arith) got at in
          omega arith;
    }

    earlier-or-here : (place : ℕ) → place < head + 1 → (place < head) ⊎ (place ≡ head)
    earlier-or-here place before = grind arith

    is-done : (old new : List Visit) → Extends old new → AreDone nodes aim old head → head < length old
        → slice_get new head ≡ Some here
        → IsDone nodes aim new here node → AreDone nodes aim new (head + 1)
    is-done old new extends done inside got this place visit at before found at_place =
        by_case (earlier-or-here place before)
      where
        old-one : (xs ys : List Visit) → Extends xs ys → (k : ℕ) (v : Visit) → k < length xs → slice_get ys k ≡ Some v
            → slice_get xs k ≡ Some v
        old-one xs ys extends k v within is = let given = known xs k within in given.1
            ∙ ap Some (same-visit ys k given.0 v (extends k given.0 given.1) is)
          where
            known : (zs : List Visit) (k : ℕ) → k < length zs → (v : Visit) × (slice_get zs k ≡ Some v)
            known [] k within = absurd (omega arith)
            known (z ∷ zs) zero within = (z, refl)
            known (z ∷ zs) (suc k) within = known zs k (omega arith)

        by_case : (place < head) ⊎ (place ≡ head) → IsDone nodes aim new visit at
        by_case (inl early) = done-more old new extends visit at
            (done place visit at early (old-one old new extends place visit (omega arith) found) at_place)
        by_case (inr same) =
            let is_here : here ≡ visit = same-visit new head here visit got (ap (slice_get new) (sym same) ∙ found) in
            let is_node : node ≡ at = let both : Some node ≡ Some at = sym at_node
            ∙ ap (λ (v : Visit). slice_get nodes v.node) is_here ∙ at_place in cc in
            subst (λ (n : Node). IsDone nodes aim new visit n) is_node
            (subst (λ (v : Visit). IsDone nodes aim new v node) is_here this)

    by-second : (second : Option Edge) (edge : Edge) → IsAmong edge (option_to_list second) → second ≡ Some edge
    by-second None edge among = absurd among
    by-second (Some other) edge (inl same) = ap Some (sym same)
    by-second (Some other) edge (inr none) = absurd none

    -- after all edges of the node are followed
    pub advanced : (queue mid new : List Visit) → IsQueue nodes aim queue head → AreDone nodes aim queue head
        → slice_get queue head ≡ Some here
        → ends_with aim node.entry here.due ≡ false
        → ComesBy queue mid node.first.goal (visit_after aim.reason aim.most after node.first.targets head here)
        → ComesByEach mid new aim.reason aim.most after head here node.second → HasAdvanced new
    advanced queue mid new search done got goes_on by_first by_second =
        let one = follows-by queue mid node.first search got (inl refl) node.first.goal refl by_first in
        let got_mid : slice_get mid head ≡ Some here = one.extends head here got in
        last-edge one got_mid node.second refl by_second
      where
        last-edge : HasFollowed queue mid head here node node.first → slice_get mid head ≡ Some here
            → (second : Option Edge) → node.second ≡ second
            → ComesByEach mid new aim.reason aim.most after head here second → HasAdvanced new
        last-edge one got_mid None is by = subst HasAdvanced (sym by) (record {
          search = next-queue mid one.search got_mid;
          within = let inside = slice_get_within mid head here got_mid in omega arith;
          done = is-done queue mid one.extends done (slice_get_within queue head here got) got_mid (record {
            goes_on = goes_on;
            followed = λ edge among. first-alone edge among;
          });
        })
          where
            first-alone : (edge : Edge) → IsAmong edge (edges_of node) → IsFollowedBy nodes aim mid here node edge
            first-alone edge (inl same) =
                subst (λ (e : Edge). IsFollowedBy nodes aim mid here node e) (sym same) one.followed
            first-alone edge (inr other) =
                absurd (let none : None ≡ Some edge = sym is ∙ by-second node.second edge other in cc)
        last-edge one got_mid (Some second) is by =
            let among : IsAmong second (edges_of node) =
            inr (subst (λ (o : Option Edge). IsAmong second (option_to_list o)) (sym is) (inl refl)) in
            let two = follows-by mid new second one.search got_mid among second.goal refl by in
            record {
              search = next-queue new two.search (two.extends head here got_mid);
              within = let inside = slice_get_within new head here (two.extends head here got_mid) in omega arith;
              done = is-done queue new (λ place visit found. two.extends place visit (one.extends place visit found))
                  done (slice_get_within queue head here got) (two.extends head here got_mid) (record {
                    goes_on = goes_on;
                    followed = λ edge among. either-edge two edge among;
                  });
            }
          where
            either-edge : HasFollowed mid new head here node second → (edge : Edge) → IsAmong edge (edges_of node)
                → IsFollowedBy nodes aim new here node edge
            either-edge two edge (inl same) = subst (λ (e : Edge). IsFollowedBy nodes aim new here node e) (sym same)
                (λ j goal. visited-more mid new two.extends j
                (cut_after aim.most aim.reason node.entry node.first.targets here.due) (here.steps + 1)
                (one.followed j goal))
            either-edge two edge (inr other) =
                subst (λ (e : Edge). IsFollowedBy nodes aim new here node e)
                (let both : Some second ≡ Some edge = sym is ∙ by-second node.second edge other in cc) two.followed
