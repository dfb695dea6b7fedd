-- What a search finds, told of the paths of a program with this graph.
use Rattle.std.proofs.Common.{◌≡◌, ◌≤◌, ◌<◌, ◌⊎◌, inl, inr, ℕ, suc, ◌+◌, ◌&&◌, Bool, true, false, IsTrue, arith, List}
use Rattle.std.proofs.Common.{[], ◌∷◌, ◌++◌, length, Option, Some, None, slice_get, reverse, add-one, refl, ap, subst}
use Rattle.std.proofs.Common.{sym, ◌∙◌}
use Rattle.std.specs.Prelude.{min, nat_le}
use Rattle.std.specs.Option.{option_map}
use Rattle.std.proofs.lemmas.List.{length-reverse}
use Rattle.std.proofs.lemmas.Option.{slice_get_within}
use Rattle.flow_paths.specs.tal_tree.specs.declared.program.Program.{Program}
use Rattle.flow_paths.specs.process_semantics.specs.Rests.{entry_number}
use Rattle.flow_paths.specs.process_semantics.specs.State.{Entry}
use Rattle.flow_paths.specs.path_semantics.specs.declared.dues.Dues.{Dues}
use Rattle.flow_paths.specs.path_semantics.specs.Dues.{no_dues}
use Rattle.flow_paths.specs.path_semantics.specs.Place.{Place, Stand, next_in, next_entry}
use Rattle.flow_paths.specs.path_semantics.specs.Path.{Leads}
use Rattle.flow_paths.specs.Flow.{IsFlow}
use Rattle.flow_paths.specs.Graph.{Node}
use Rattle.flow_paths.specs.Walk.{Goes, StandsAt}
use Rattle.flow_paths.proofs.Along.{followed, walked}
use Rattle.reason_dues.specs.Amounts.{amount, may_break_at}
use Rattle.due_search.specs.declared.queue.Visit.{Visit}
use Rattle.due_search.specs.declared.search.Aim.{Aim}
use Rattle.due_search.specs.Ends.{counted, ends_next, IsEnd, IsFirstEnd, AreReached}
use Rattle.due_search.specs.Search.{number_in, node_in, back, ends_with, IsSearched, EndsAt}
use Rattle.due_search.proofs.Ways.{longer-by-one, way, back-length, visited}

le-cut : (most n : ℕ) → nat_le most (min most n) ≡ nat_le most n
le-cut most n = grind arith

-- an end is told by what is counted
pub ends-cut : (aim : Aim) (entry : Entry) (dues : Dues)
    → ends_with aim entry (amount aim.reason dues) ≡ ends_with aim entry (counted aim dues)
ends-cut aim entry dues =
    ap (λ (b : Bool). aim.ends && (may_break_at aim.reason entry && b)) (sym (le-cut aim.most (amount aim.reason dues)))

never : (b : Bool) → IsTrue b → b ≡ false → ⊥
never b holds none = absurd (cc)

same-node : (nodes : List Node) (k : ℕ) (one other : Node) → slice_get nodes k ≡ Some one
    → slice_get nodes k ≡ Some other → one ≡ other
same-node nodes k one other first second = let both : Some one ≡ Some other = sym first ∙ second in cc

module _ (program : Program) (nodes : List Node) (flow : IsFlow program nodes) where
  -- the node at which the entry stands that comes next where a path leads
  pub record IsAtNode (path : List ℕ) (dues : Dues) (entry : Entry) : Type 0 where
    pub k : ℕ
    pub node : Node
    pub got : slice_get nodes k ≡ Some node
    pub is : node.entry ≡ entry
    pub goes : Goes nodes 0 no_dues path k dues

  pub at-node : (path : List ℕ) (stand : Stand) (entry : Entry) → Leads program path stand
      → next_entry stand ≡ Some entry → IsAtNode path stand.dues entry
  at-node path stand entry leads next = by_end (followed program nodes flow path stand leads)
    where
      by_end : (stand.place ≡ []) ⊎ ((k : ℕ) × Goes nodes 0 no_dues path k stand.dues × StandsAt nodes k stand)
          → IsAtNode path stand.dues entry
      by_end (inl ended) =
          absurd (let none : None ≡ Some entry = sym (ap (λ (p : Place). next_in p) ended) ∙ next in cc)
      by_end (inr (k, goes, stands)) = record {
        k = k;
        node = stands.node;
        got = stands.got;
        is = (let both : Some stands.node.entry ≡ Some entry = sym stands.next ∙ next in cc);
        goes = goes;
      }

  -- where a walk to a node leads as a path
  pub record IsAtStand (path : List ℕ) (dues : Dues) (entry : Entry) : Type 0 where
    pub stand : Stand
    pub leads : Leads program path stand
    pub next : next_entry stand ≡ Some entry
    pub due : stand.dues ≡ dues

  pub at-stand : (path : List ℕ) (k : ℕ) (dues : Dues) (node : Node) → Goes nodes 0 no_dues path k dues
      → slice_get nodes k ≡ Some node → IsAtStand path dues node.entry
  at-stand path k dues node goes got =
      let inside : k < length nodes = slice_get_within nodes k node got in
      let found = walked program nodes flow path k dues (omega arith) inside goes in
      record {
        stand = found.0;
        leads = found.1;
        next = found.2.next ∙ ap (λ (n : Node). Some n.entry) (same-node nodes k found.2.node node found.2.got got);
        due = found.3;
      }

  module _ (aim : Aim) (queue : List Visit) where
    -- where the visits are what walks lead to, no path ends the search
    pub none-ends : AreReached nodes aim queue → (path : List ℕ) → IsEnd program aim path → ⊥
    none-ends reached path end = by_next (next_entry end.stand) refl end.ends
      where
        by_next : (next : Option Entry) → next_entry end.stand ≡ next → IsTrue (ends_next aim end.stand.dues next) → ⊥
        by_next None is ends = never false ends refl
        by_next (Some entry) is ends =
            let at = at-node end.front end.stand entry end.leads is in
            let met = reached.met end.front at.k end.stand.dues at.node at.goes at.got in
            never (ends_with aim entry (amount aim.reason end.stand.dues)) ends
            (ends-cut aim entry end.stand.dues ∙ ap (ends_with aim entry) (sym met.same_due)
            ∙ ap (λ (e : Entry). ends_with aim e met.visit.due) (sym at.is)
            ∙ reached.goes_on met.place met.visit at.node met.got (ap (slice_get nodes) met.same_node ∙ at.got))

    module _ (head : ℕ) (searched : IsSearched nodes aim queue head) where
      -- the way back from a visit that ends the search is a path that does
      ends-there : (place : ℕ) (visit : Visit) (here : Node) → slice_get queue place ≡ Some visit
          → slice_get nodes visit.node ≡ Some here
          → ends_with aim here.entry visit.due ≡ true
          → IsEnd program aim (reverse (back nodes queue (suc visit.steps) place))
      ends-there place visit here got found ends =
          let to = way nodes aim queue head searched.search visit.steps place visit got refl in
          let at = at-stand to.front visit.node to.led.dues here to.led.goes found in
          record {
            front = to.front;
            number = entry_number here.entry;
            stand = at.stand;
            split = to.is ∙ ap (λ (n : ℕ). to.front ++ n ∷ [])
                (ap (λ (v : Option Visit). number_in (slice_get nodes (node_in v))) got ∙ ap number_in found);
            leads = at.leads;
            next = ap (option_map entry_number) at.next;
            ends = ap (ends_next aim at.stand.dues) at.next ∙ ends-cut aim here.entry at.stand.dues
                ∙ ap (ends_with aim here.entry) (ap (counted aim) at.due ∙ to.led.due) ∙ ends;
          }

      -- no path of fewer numbers than those to the visit at this place
      none-shorter : (visit : Visit) → slice_get queue head ≡ Some visit → (front : List ℕ) (stand : Stand)
          → length front < visit.steps → Leads program front stand
          → ends_next aim stand.dues (next_entry stand) ≡ false
      none-shorter visit got front stand few leads = by_next (next_entry stand) refl
        where
          past-or-before : (n m : ℕ) → (m ≤ n) ⊎ (n < m)
          past-or-before n m = grind arith

          before : (place : ℕ) (one : Visit) → one.steps < visit.steps → slice_get queue place ≡ Some one
              → (head ≤ place) ⊎ (place < head) → place < head
          before place one fewer at (inl late) = absurd
              (let later : visit.steps ≤ one.steps = searched.search.sorted head place visit one late got at in
              omega arith)
          before place one fewer at (inr early) = early

          by_next : (next : Option Entry) → next_entry stand ≡ next → ends_next aim stand.dues next ≡ false
          by_next None is = refl
          by_next (Some entry) is =
              let at = at-node front stand entry leads is in
              let met = visited nodes aim queue head searched.search visit.steps
              (λ place one here fewer at_queue at_nodes.
              searched.done place one here (before place one fewer at_queue (past-or-before place head)) at_queue
              at_nodes)
              front at.k stand.dues (omega arith) at.goes in
              let early = met.early in
              let done = searched.done met.place met.visit at.node
              (before met.place met.visit (omega arith) met.got (past-or-before met.place head)) met.got
              (ap (slice_get nodes) met.same_node ∙ at.got) in
              ends-cut aim entry stand.dues ∙ ap (ends_with aim entry) (sym met.same_due)
              ∙ ap (λ (e : Entry). ends_with aim e met.visit.due) (sym at.is) ∙ done.goes_on

      -- a visit that ends the search gives a shortest path that does
      pub first-end : EndsAt nodes aim queue head → (path : List ℕ)
          → ((visit : Visit) → slice_get queue head ≡ Some visit
          → path ≡ reverse (back nodes queue (visit.steps + 1) head)) → IsFirstEnd program aim path
      first-end at path is =
          subst (IsFirstEnd program aim)
          (sym (is at.visit at.got ∙ ap (λ (n : ℕ). reverse (back nodes queue n head)) (add-one at.visit.steps)))
          (record {
            ends = ends-there head at.visit at.node at.got at.there at.ends;
            least = λ other end. by_case other end (compared (length end.front) at.visit.steps);
          })
        where
          compared : (n m : ℕ) → (n < m) ⊎ (m ≤ n)
          compared n m = grind arith

          by_case : (other : List ℕ) (end : IsEnd program aim other)
              → (length end.front < at.visit.steps) ⊎ (at.visit.steps ≤ length end.front)
              → length (reverse (back nodes queue (suc at.visit.steps) head)) ≤ length other
          by_case other end (inl shorter) = absurd
              (never (ends_next aim end.stand.dues (next_entry end.stand)) end.ends
              (none-shorter at.visit at.got end.front end.stand shorter end.leads))
          by_case other end (inr longer) =
              let here_length : length (reverse (back nodes queue (suc at.visit.steps) head)) ≡ suc at.visit.steps =
              length-reverse (back nodes queue (suc at.visit.steps) head)
              ∙ back-length nodes aim queue head searched.search (suc at.visit.steps) head in
              let other_length : length other ≡ length end.front + 1 =
              ap length end.split ∙ longer-by-one end.front end.number in
              omega arith
