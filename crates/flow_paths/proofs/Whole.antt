-- The graph of MAIN is the graph of the program, and each graph leads nowhere but to its own nodes.
use Rattle.std.proofs.Common.{◌≡◌, inl, inr, ℕ, zero, suc, ◌<◌, ◌≤◌, arith, List, [], ◌∷◌, ◌++◌, drop, length}
use Rattle.std.proofs.Common.{slice_get, Option, Some, None, refl, ap, subst, sym, ◌∙◌}
use Rattle.std.proofs.lemmas.List.{append-nil, length-map}
use Rattle.std.proofs.lemmas.Option.{slice_get_within}
use Rattle.gd_words.specs.Members.{IsAmong}
use Rattle.tal_tree.specs.Ordered.{IsOrdered}
use Rattle.tal_tree.specs.Rows.{rows}
use Rattle.tal_tree.specs.declared.program.Procedure.{Procedure}
use Rattle.tal_tree.specs.declared.program.Program.{Program}
use Rattle.tal_tree.specs.declared.statement.Statement.{Statement}
use Rattle.path_semantics.specs.declared.dues.Dues.{Dues}
use Rattle.path_semantics.specs.Dues.{no_dues, with_changed, after_entry}
use Rattle.path_semantics.specs.Place.{Place, Stand, stands_after, first_stand}
use Rattle.flow_paths.specs.declared.graph.Edge.{Edge}
use Rattle.flow_paths.specs.declared.graph.Goal.{Goal}
use Rattle.flow_paths.specs.declared.graph.Goal.TheVariants.{At, Left, Ended}
use Rattle.flow_paths.specs.Flow.{IsStand, AllArrive, IsCaller, IsRight, IsFlow}
use Rattle.flow_paths.specs.Graph.{Node, edges_of, start_of, IsWithin, AreClosed}
use Rattle.flow_paths.specs.Layout.{size_row, leaving, start_in, lay_row, graph_at, graph_sizes}
use Rattle.flow_paths.proofs.Graphs.{size, IsGraph, AreGraphs, more-graphs, same-count, graph-laid}
use Rattle.flow_paths.proofs.Placed.{Placed, shown}
use Rattle.flow_paths.proofs.Right.{LeadsTo, ArrivesIn, AllArriveIn, IsCalledBy, IsRightIn, AreRight}

right-at : (program : Program) (nodes part : List Placed) (k : ℕ) (one : Placed) → AreRight program nodes part
    → slice_get part k ≡ Some one → IsRightIn program nodes one
right-at program nodes [] k one right got = absurd (cc)
right-at program nodes (first ∷ part) zero one right got =
    subst (IsRightIn program nodes) (let same : first ≡ one = cc in same) right.0
right-at program nodes (first ∷ part) (suc k) one right got = right-at program nodes part k one right.1 got

got-placed : (nodes : List Placed) (k : ℕ) (node : Node) → slice_get (shown nodes) k ≡ Some node
    → (one : Placed) × (slice_get nodes k ≡ Some one) × (one.node ≡ node)
got-placed [] k node got = absurd (cc)
got-placed (one ∷ nodes) zero node got = (one, refl, (let same : one.node ≡ node = cc in same))
got-placed (one ∷ nodes) (suc k) node got = got-placed nodes k node got

among-placed : (nodes : List Placed) (node : Node) → IsAmong node (shown nodes)
    → (k : ℕ) × (slice_get (shown nodes) k ≡ Some node)
among-placed [] node among = absurd among
among-placed (one ∷ nodes) node (inl same) = (zero, ap Some (sym same))
among-placed (one ∷ nodes) node (inr among) = let found = among-placed nodes node among in (suc found.0, found.1)

inside : (nodes : List Placed) (k : ℕ) (one : Placed) → slice_get nodes k ≡ Some one → k < length (shown nodes)
inside nodes k one got =
    let less : k < length nodes = slice_get_within nodes k one got in
    let count : length (shown nodes) ≡ length nodes = length-map nodes (λ (placed : Placed). placed.node) in
    omega arith

abbrev place_in : Option Placed → Place
place_in None = []
place_in (Some one) = one.place

-- Within

goal-within : (nodes : List Placed) (callers : Place) (dues : Dues) (goal : Goal) (stand : Stand)
    → LeadsTo nodes callers dues goal stand → (k : ℕ) → goal ≡ At k → k < length (shown nodes)
goal-within nodes callers dues (At j) stand leads k is =
    let same : j ≡ k = cc in
    subst (λ (n : ℕ). n < length (shown nodes)) same (inside nodes j leads.0 leads.1)
goal-within nodes callers dues Left stand leads k is = absurd (cc)
goal-within nodes callers dues Ended stand leads k is = absurd (cc)

edges-within : (nodes : List Placed) (callers : Place) (dues : Dues) (edges : List Edge) (stands : List Stand)
    → AllArriveIn nodes callers dues edges stands
    → (edge : Edge) → IsAmong edge edges → (k : ℕ) → edge.goal ≡ At k → k < length (shown nodes)
edges-within nodes callers dues [] stands all edge among k is = absurd among
edges-within nodes callers dues (first ∷ edges) [] all edge among k is = absurd all
edges-within nodes callers dues (first ∷ edges) (stand ∷ stands) all edge (inl same) k is =
    goal-within nodes callers (with_changed first.targets dues) first.goal stand all.0 k
    (ap (λ (e : Edge). e.goal) (sym same) ∙ is)
edges-within nodes callers dues (first ∷ edges) (stand ∷ stands) all edge (inr among) k is =
    edges-within nodes callers dues edges stands all.1 edge among k is

caller-within : (nodes : List Placed) (caller : Option ℕ) (below : Place) → IsCalledBy nodes caller below → (k : ℕ)
    → caller ≡ Some k → k < length (shown nodes)
caller-within nodes None below called k is = absurd (cc)
caller-within nodes (Some j) below called k is =
    let same : j ≡ k = cc in
    subst (λ (n : ℕ). n < length (shown nodes)) same (inside nodes j called.0 called.1)

module _ (program : Program) where
  one-within : (nodes : List Placed) (one : Placed) → IsRightIn program nodes one
      → IsWithin (length (shown nodes)) one.node
  one-within nodes one right = record {
    caller = caller-within nodes one.node.caller (drop 1 one.place) right.caller;
    goals = edges-within nodes [] (after_entry no_dues one.node.entry) (edges_of one.node)
        (stands_after program no_dues (one.place ++ [])) (right.leads [] no_dues);
  }

  pub graph-closed : (k : ℕ) (nodes : List Placed) → IsGraph program k nodes → AreClosed (shown nodes)
  graph-closed k nodes graph = λ node among.
      let at = among-placed nodes node among in
      let found = got-placed nodes at.0 node at.1 in
      subst (IsWithin (length (shown nodes))) found.2
      (one-within nodes found.0 (right-at program nodes nodes at.0 found.0 graph.template.right found.1))

  -- MAIN

  module _ (nodes : List Placed) where
    abbrev place : ℕ → Place
    place k = place_in (slice_get nodes k)

    goal-is : (dues : Dues) (goal : Goal) (stand : Stand) → LeadsTo nodes [] dues goal stand
        → IsStand (length (shown nodes)) place goal dues stand
    goal-is dues (At k) stand leads = (
      inside nodes k leads.0 leads.1,
      leads.2 ∙ ap (λ (p : Place). record { place = p; dues = dues })
          (append-nil leads.0.place ∙ sym (ap place_in leads.1)),
    )
    goal-is dues Left stand leads = leads
    goal-is dues Ended stand leads = leads

    all-arrive : (dues : Dues) (edges : List Edge) (stands : List Stand) → AllArriveIn nodes [] dues edges stands
        → AllArrive (length (shown nodes)) place dues edges stands
    all-arrive dues [] [] all = tt
    all-arrive dues [] (stand ∷ stands) all = absurd all
    all-arrive dues (edge ∷ edges) [] all = absurd all
    all-arrive dues (edge ∷ edges) (stand ∷ stands) all =
        (goal-is (with_changed edge.targets dues) edge.goal stand all.0, all-arrive dues edges stands all.1)

    caller-is : (caller : Option ℕ) (below : Place) → IsCalledBy nodes caller below
        → IsCaller (length (shown nodes)) place caller below
    caller-is None below is = is
    caller-is (Some k) below is = (inside nodes k is.0 is.1, is.2 ∙ sym (ap place_in is.1))

    one-right : (one : Placed) → IsRightIn program nodes one
        → IsRight (length (shown nodes)) place program one.node one.place
    one-right one right = record {
      next = right.next;
      caller = caller-is one.node.caller (drop 1 one.place) right.caller;
      leads = λ dues.
          all-arrive (after_entry dues one.node.entry) (edges_of one.node) (stands_after program dues one.place)
          (subst (λ (p : Place). AllArriveIn nodes [] (after_entry dues one.node.entry) (edges_of one.node)
          (stands_after program dues p)) (append-nil one.place) (right.leads [] dues));
    }

  started : (nodes : List Placed) → ArrivesIn nodes [] no_dues (start_in nodes 0 leaving) (first_stand program)
      → IsStand (length (shown nodes)) (place nodes) (start_of (shown nodes)) no_dues (first_stand program)
  started [] arrives = arrives
  started (one ∷ nodes) arrives = goal-is (one ∷ nodes) no_dues (At 0) (first_stand program) arrives

  -- the graph of MAIN is the program's
  pub main-graph : (nodes : List Placed) → IsGraph program program.main nodes → IsFlow program (shown nodes)
  main-graph nodes graph = record {
    count = graph.count;
    place = place nodes;
    start = started nodes (graph.template.begins [] no_dues);
    right = λ k node got.
        let found = got-placed nodes k node got in
        subst (λ (p : Place). IsRight (length (shown nodes)) (place nodes) program node p) (sym (ap place_in found.1))
        (subst (λ (n : Node). IsRight (length (shown nodes)) (place nodes) program n found.0.place) found.2
        (one-right nodes found.0 (right-at program nodes nodes k found.0 graph.template.right found.1)));
  }

  -- A procedure that is laid out, from the graphs of those before it

  module _ (ordered : IsOrdered program) (graphs : List (List Node)) (are : AreGraphs program graphs) (k : ℕ)
      (procedure : Procedure) (body : List Statement)
      (here : k ≤ length graphs) (got : slice_get program.procedures k ≡ Some procedure) (is : body ≡ procedure.body)
      (few : size program k ≤ 8192) where
    abbrev nodes : List Statement → List Node
    nodes statements = lay_row (graph_at graphs) (rows statements) 0 leaving

    laid : (placed : List Placed) × (shown placed ≡ nodes body) × IsGraph program k placed
    laid = subst (λ (statements : List Statement). (placed : List Placed) × (shown placed ≡ nodes statements)
        × IsGraph program k placed) (sym is)
        (graph-laid program ordered graphs are k procedure here got few)

    pub has-room : size_row (graph_sizes graphs) (rows body) ≤ 8192
    has-room =
        let same : size_row (graph_sizes graphs) (rows procedure.body) ≡ size program k =
        same-count program ordered graphs are k procedure here got few in
        let own : size_row (graph_sizes graphs) (rows body) ≡ size_row (graph_sizes graphs) (rows procedure.body) =
        ap (λ (statements : List Statement). size_row (graph_sizes graphs) (rows statements)) is in
        omega arith

    pub has-few : length (nodes body) ≤ 8192
    has-few = let count : length (nodes body) ≡ size program k = ap length (sym laid.1) ∙ laid.2.count in omega arith

    pub is-closed : AreClosed (nodes body)
    is-closed = subst AreClosed laid.1 (graph-closed k laid.0 laid.2)

    pub is-flow : k ≡ program.main → IsFlow program (nodes body)
    is-flow main =
        subst (IsFlow program) laid.1 (main-graph laid.0 (subst (λ (n : ℕ). IsGraph program n laid.0) main laid.2))

    pub one-more : k ≡ length graphs → AreGraphs program (graphs ++ nodes body ∷ [])
    one-more last =
        subst (λ (placed : List Node). AreGraphs program (graphs ++ placed ∷ [])) laid.1
        (more-graphs program graphs are laid.0 (λ less. subst (λ (n : ℕ). IsGraph program n laid.0) last laid.2))
