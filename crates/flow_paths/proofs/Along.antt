-- Paths and walks along the nodes of a program's graph.
use Rattle.std.proofs.Common.{◌≡◌, ◌⊎◌, inl, inr, ℕ, zero, suc, ◌+◌, ◌<◌, arith, List, [], ◌∷◌, length, slice_get, Some}
use Rattle.std.proofs.Common.{None, refl, ap, subst, sym, ◌∙◌}
use Rattle.std.specs.Option.{option_map}
use Rattle.std.proofs.lemmas.Option.{slice_get_within}
use Rattle.gd_words.specs.Members.{IsAmong}
use Rattle.tal_tree.specs.declared.program.Program.{Program}
use Rattle.path_semantics.specs.process_semantics.specs.Rests.{entry_number}
use Rattle.path_semantics.specs.declared.dues.Dues.{Dues}
use Rattle.path_semantics.specs.Dues.{no_dues, with_changed, after_entry}
use Rattle.path_semantics.specs.Place.{Place, Stand, next_in, successors, first_stand}
use Rattle.path_semantics.specs.Path.{number_at, Steps, Walks, Leads}
use Rattle.flow_paths.specs.declared.graph.Edge.{Edge}
use Rattle.flow_paths.specs.declared.graph.Goal.{Goal}
use Rattle.flow_paths.specs.declared.graph.Goal.TheVariants.{At, Left, Ended}
use Rattle.flow_paths.specs.Graph.{Node, edges_of, start_of}
use Rattle.flow_paths.specs.Flow.{IsStand, Arrives, AllArrive, IsFlow}
use Rattle.flow_paths.specs.Walk.{StepsTo, Goes, StandsAt, IsKept, IsMet}

there : {A : Type 0} (xs : List A) (k : ℕ) → k < length xs → (x : A) × (slice_get xs k ≡ Some x)
there [] k below = absurd (omega arith)
there (x ∷ xs) zero below = (x, refl)
there (x ∷ xs) (suc k) below = there xs k (omega arith)

no-next : (stand : Stand) (number : ℕ) → stand.place ≡ [] → number_at stand ≡ Some number → ⊥
no-next stand number ended next =
    let none : None ≡ Some number = ap (λ (p : Place). option_map entry_number (next_in p)) (sym ended) ∙ next in cc

module _ (count : ℕ) (place : ℕ → Place) where
  -- an edge for each stand
  arrived : (dues : Dues) (edges : List Edge) (stands : List Stand) (stand : Stand)
      → AllArrive count place dues edges stands → IsAmong stand stands
      → (edge : Edge) × IsAmong edge edges × Arrives count place dues edge stand
  arrived dues edges [] stand all among = absurd among
  arrived dues [] (first ∷ stands) stand all among = absurd all
  arrived dues (edge ∷ edges) (first ∷ stands) stand all (inl same) =
      (edge, inl refl, subst (Arrives count place dues edge) (sym same) all.0)
  arrived dues (edge ∷ edges) (first ∷ stands) stand all (inr among) =
      let found = arrived dues edges stands stand all.1 among in (found.0, inr found.1, found.2)

  -- a stand for each edge
  gone : (dues : Dues) (edges : List Edge) (stands : List Stand) (edge : Edge)
      → AllArrive count place dues edges stands → IsAmong edge edges
      → (stand : Stand) × IsAmong stand stands × Arrives count place dues edge stand
  gone dues [] stands edge all among = absurd among
  gone dues (first ∷ edges) [] edge all among = absurd all
  gone dues (first ∷ edges) (stand ∷ stands) edge all (inl same) =
      (stand, inl refl, subst (λ (e : Edge). Arrives count place dues e stand) (sym same) all.0)
  gone dues (first ∷ edges) (stand ∷ stands) edge all (inr among) =
      let found = gone dues edges stands edge all.1 among in (found.0, inr found.1, found.2)

module _ (program : Program) (nodes : List Node) (flow : IsFlow program nodes) where
  abbrev standing : ℕ → Dues → Stand
  standing k dues = record { place = flow.place k; dues = dues }

  abbrev after : Edge → Node → Dues → Dues
  after edge node dues = with_changed edge.targets (after_entry dues node.entry)

  stands-at : (k : ℕ) (stand : Stand) → k < length nodes → stand.place ≡ flow.place k → StandsAt nodes k stand
  stands-at k stand less is =
      let found = there nodes k less in
      record { node = found.0; got = found.1; next = ap next_in is ∙ (flow.right k found.0 found.1).next }

  -- a stand after that of a node is one to which an edge arrives
  by-edge : (k : ℕ) (node : Node) (here stand : Stand) → slice_get nodes k ≡ Some node → here.place ≡ flow.place k
      → IsAmong stand (successors program here)
      → (edge : Edge) × IsAmong edge (edges_of node)
      × Arrives (length nodes) flow.place (after_entry here.dues node.entry) edge stand
  by-edge k node here stand got is among =
      arrived (length nodes) flow.place (after_entry here.dues node.entry) (edges_of node)
      (successors program (standing k here.dues)) stand
      ((flow.right k node got).leads here.dues)
      (subst (λ (p : Place). IsAmong stand (successors program (record { place = p; dues = here.dues }))) is among)

  -- the entry that comes next is the node's
  named : (k : ℕ) (node : Node) (here : Stand) (number : ℕ) → slice_get nodes k ≡ Some node → here.place ≡ flow.place k
      → number_at here ≡ Some number → entry_number node.entry ≡ number
  named k node here number got is next =
      let both : Some (entry_number node.entry) ≡ Some number =
      sym (ap (λ (p : Place). option_map entry_number (next_in p)) is
      ∙ ap (option_map entry_number) (flow.right k node got).next) ∙ next in cc

  -- Paths are walks

  -- a walk from a node leads to a node, or the program has ended
  abbrev IsWalked : ℕ → Dues → List ℕ → Stand → Type 0
  IsWalked k dues path stand =
      (stand.place ≡ []) ⊎ ((j : ℕ) × Goes nodes k dues path j stand.dues × StandsAt nodes j stand)

  still-ended : (path : List ℕ) (here stand : Stand) → here.place ≡ [] → Walks program here path stand
      → stand.place ≡ []
  still-ended [] here stand ended walk = ap (λ (s : Stand). s.place) (sym walk) ∙ ended
  still-ended (number ∷ path) here stand ended walk = absurd (no-next here number ended walk.1.next)

  first-step : (k j number : ℕ) (dues later : Dues) (path : List ℕ) (stand : Stand)
      → StepsTo nodes k dues number j later → IsWalked j later path stand → IsWalked k dues (number ∷ path) stand
  first-step k j number dues later path stand steps (inl ended) = inl ended
  first-step k j number dues later path stand steps (inr (last, goes, stands)) =
      inr (last, (j, later, steps, goes), stands)

  by-way : (path : List ℕ) (k number : ℕ) (here next stand : Stand) (node : Node) (edge : Edge) (goal : Goal)
      → slice_get nodes k ≡ Some node → entry_number node.entry ≡ number
      → IsAmong edge (edges_of node) → edge.goal ≡ goal
      → IsStand (length nodes) flow.place goal (after edge node here.dues) next → Walks program next path stand
      → ((j : ℕ) → j < length nodes → next.place ≡ flow.place j → IsWalked j next.dues path stand)
      → IsWalked k here.dues (number ∷ path) stand
  by-way path k number here next stand node edge (At j) got is among goes arrives walk on =
      first-step k j number here.dues next.dues path stand
      (record {
        node = node;
        got = got;
        is = is;
        edge = edge;
        among = among;
        goal = goes;
        due = ap (λ (s : Stand). s.dues) arrives.1;
      })
      (on j arrives.0 (ap (λ (s : Stand). s.place) arrives.1))
  by-way path k number here next stand node edge Left got is among goes arrives walk on =
      inl (still-ended path next stand (ap (λ (s : Stand). s.place) arrives) walk)
  by-way path k number here next stand node edge Ended got is among goes arrives walk on =
      inl (still-ended path next stand (ap (λ (s : Stand). s.place) arrives) walk)

  walked-on : (path : List ℕ) (k : ℕ) (here stand : Stand) → k < length nodes → here.place ≡ flow.place k
      → Walks program here path stand → IsWalked k here.dues path stand
  walked-on [] k here stand less is walk =
      inr (
        k,
        (refl, ap (λ (s : Stand). s.dues) walk),
        stands-at k stand less (ap (λ (s : Stand). s.place) (sym walk) ∙ is),
      )
  walked-on (number ∷ path) k here stand less is walk =
      let found = there nodes k less in
      let way = by-edge k found.0 here walk.0 found.1 is walk.1.leads in
      by-way path k number here walk.0 stand found.0 way.0 way.0.goal found.1
      (named k found.0 here number found.1 is walk.1.next) way.1 refl way.2 walk.2
      (λ j inside stands. walked-on path j walk.0 stand inside stands walk.2)

  begun : (part : List Node) (path : List ℕ) (stand : Stand)
      → IsStand (length nodes) flow.place (start_of part) no_dues (first_stand program) → Leads program path stand
      → IsWalked 0 no_dues path stand
  begun [] path stand is walk = inl (still-ended path (first_stand program) stand (ap (λ (s : Stand). s.place) is) walk)
  begun (node ∷ part) path stand is walk =
      subst (λ (dues : Dues). IsWalked 0 dues path stand) (ap (λ (s : Stand). s.dues) is.1)
      (walked-on path 0 (first_stand program) stand is.0 (ap (λ (s : Stand). s.place) is.1) walk)

  -- where a path leads, a walk from the first node by the same numbers goes, with the same dues, or the program has
  -- ended there
  pub followed : (path : List ℕ) (stand : Stand) → Leads program path stand → IsWalked 0 no_dues path stand
  followed path stand walk = begun nodes path stand flow.start walk

  -- What holds along edges

  module _ (Holds : ℕ → ℕ → Dues → Type 0) (kept : IsKept nodes Holds) where
    held : (path : List ℕ) (n k j : ℕ) (dues later : Dues) → Holds n k dues → Goes nodes k dues path j later
        → Holds (n + length path) j later
    held [] n k j dues later holds goes =
        subst (λ (m : ℕ). Holds m j later) (let e : n ≡ n + 0 = omega arith in e)
        (subst (Holds n j) goes.1 (subst (λ (m : ℕ). Holds n m dues) goes.0 holds))
    held (number ∷ path) n k j dues later holds (next, due, steps, goes) =
        subst (λ (m : ℕ). Holds m j later) (let e : n + 1 + length path ≡ n + suc (length path) = omega arith in e)
        (held path (n + 1) next j due later (kept.step n k next number dues due holds steps) goes)

    -- what holds along edges holds wherever a path leads, after as many entries, or the program has ended
    pub led : (path : List ℕ) (stand : Stand) → Leads program path stand → IsMet nodes Holds (length path) stand
    led path stand walk = elim (followed path stand walk) [
      | inl ended ↦ inl ended
      | inr (k, goes, stands) ↦
          let less : k < length nodes = slice_get_within nodes k stands.node stands.got in
          inr (
            k,
            stands,
            subst (λ (m : ℕ). Holds m k stand.dues) (let e : 0 + length path ≡ length path = omega arith in e)
                (held path 0 0 k no_dues stand.dues (kept.first (omega arith)) goes),
          )
    ]

  -- Walks are paths

  stands-there : (dues : Dues) (goal : Goal) (j : ℕ) (stand : Stand) → goal ≡ At j
      → IsStand (length nodes) flow.place goal dues stand → stand ≡ standing j dues
  stands-there dues goal j stand goes is =
      (subst (λ (g : Goal). IsStand (length nodes) flow.place g dues stand) goes is).1

  step : (k j number : ℕ) (dues later : Dues) → StepsTo nodes k dues number j later
      → Steps program (standing k dues) number (standing j later)
  step k j number dues later goes =
      let is = flow.right k goes.node goes.got in
      let found = gone (length nodes) flow.place (after_entry dues goes.node.entry) (edges_of goes.node)
      (successors program (standing k dues)) goes.edge (is.leads dues) goes.among in
      let stand : found.0 ≡ standing j later =
      stands-there (after goes.edge goes.node dues) goes.edge.goal j found.0 goes.goal found.2
      ∙ ap (standing j) (sym goes.due) in
      record {
        next = ap (option_map entry_number) is.next ∙ ap Some goes.is;
        leads = subst (λ (s : Stand). IsAmong s (successors program (standing k dues))) stand found.1;
      }

  walks : (path : List ℕ) (k j : ℕ) (dues later : Dues) → Goes nodes k dues path j later
      → Walks program (standing k dues) path (standing j later)
  walks [] k j dues later goes = ap (λ (n : ℕ). standing n dues) goes.0 ∙ ap (standing j) goes.1
  walks (number ∷ path) k j dues later (next, due, first, goes) =
      (standing next due, step k next number dues due first, walks path next j due later goes)

  starts : (part : List Node) → 0 < length part
      → IsStand (length nodes) flow.place (start_of part) no_dues (first_stand program)
      → first_stand program ≡ standing 0 no_dues
  starts [] some is = absurd (omega arith)
  starts (node ∷ part) some is = is.1

  -- a walk from the first node to a node is a path to a stand there, with the same dues
  pub walked : (path : List ℕ) (k : ℕ) (dues : Dues) → 0 < length nodes → k < length nodes
      → Goes nodes 0 no_dues path k dues
      → (stand : Stand) × Leads program path stand × StandsAt nodes k stand × (stand.dues ≡ dues)
  walked path k dues some less goes = (
    standing k dues,
    subst (λ (first : Stand). Walks program first path (standing k dues)) (sym (starts nodes some flow.start))
        (walks path 0 k no_dues dues goes),
    stands-at k (standing k dues) less refl,
    refl,
  )
