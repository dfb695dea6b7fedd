-- The graphs of a program's procedures, each from those before it.
use Rattle.std.proofs.Common.{◌≡◌, ◌⊎◌, inl, inr, ℕ, zero, suc, ◌+◌, ◌<◌, ◌≤◌, arith, List, [], ◌∷◌, ◌++◌, map, length}
use Rattle.std.proofs.Common.{slice_get, Option, Some, refl, ap, ap₂, subst, sym, ◌∙◌}
use Rattle.std.specs.Prelude.{sum}
use Rattle.std.specs.Option.{unwrap_or}
use Rattle.std.proofs.lemmas.List.{append-nil, append_assoc, length-append, length-map, map-append}
use Rattle.gd_words.specs.Members.{IsAmong}
use Rattle.tal_tree.specs.ByStatements.{HoldsInside, by-statements}
use Rattle.tal_tree.specs.Ordered.{IsOrdered}
use Rattle.tal_tree.specs.Rows.{rows}
use Rattle.tal_tree.specs.Statements.{calls_of}
use Rattle.tal_tree.specs.declared.program.Procedure.{Procedure}
use Rattle.tal_tree.specs.declared.program.Program.{Program}
use Rattle.tal_tree.specs.declared.statement.Statement.{Statement}
use Rattle.tal_tree.specs.declared.statement.What.{What, What-F, out-What}
use Rattle.path_semantics.specs.process_semantics.specs.State.{Entry, runs_of}
use Rattle.path_semantics.specs.Bounds.{size_from}
use Rattle.path_semantics.specs.Bounds.{sizes as program_sizes}
use Rattle.path_semantics.specs.Place.{body_in, body_of}
use Rattle.path_semantics.proofs.InOrder.{size-is as sizes-follow}
use Rattle.flow_paths.specs.declared.graph.Edge.{Edge}
use Rattle.flow_paths.specs.Graph.{Node}
use Rattle.flow_paths.specs.Layout.{size_in, size_row, size_at, leaving, start_row, start_in, lay_row, graph_at}
use Rattle.flow_paths.proofs.Called.{Calls, CallsBy, calls-first, calls-rest, total, total-is, sized}
use Rattle.flow_paths.proofs.Layers.{size_of, size_by, size-is, place, place-is}
use Rattle.flow_paths.proofs.Placed.{Placed, shown, sizes, place_in, shown-row}
use Rattle.flow_paths.proofs.Right.{Follows, Holds, follows-leaving, IsTemplate}
use Rattle.flow_paths.proofs.Written.{long, first-laid, begins, written}

-- Lists

got-after : {A : Type 0} (front : List A) (x : A) (back : List A)
    → slice_get (front ++ x ∷ back) (length front) ≡ Some x
got-after [] x back = refl
got-after (y ∷ front) x back = got-after front x back

got-before : {A : Type 0} (front back : List A) (k : ℕ) → k < length front
    → slice_get (front ++ back) k ≡ slice_get front k
got-before [] back k below = absurd (omega arith)
got-before (y ∷ front) back zero below = refl
got-before (y ∷ front) back (suc k) below = got-before front back k (omega arith)

below-or-here : (i k : ℕ) → i < k + 1 → (i < k) ⊎ (i ≡ k)
below-or-here zero zero below = inr refl
below-or-here zero (suc k) below = inl (omega arith)
below-or-here (suc i) zero below = absurd (omega arith)
below-or-here (suc i) (suc k) below =
    elim (below-or-here i k (omega arith)) [ inl less ↦ inl (omega arith) | inr same ↦ inr (ap suc same) ]

-- nodes stand in their own list
holds-after : (front part : List Placed) → Holds (front ++ part) (length front) part
holds-after front [] = tt
holds-after front (one ∷ part) = (
  got-after front one part,
  subst (λ (k : ℕ). Holds (front ++ one ∷ part) k part) (length-append front (one ∷ []))
      (subst (λ (whole : List Placed). Holds whole (length (front ++ one ∷ [])) part)
      (append_assoc front (one ∷ []) part) (holds-after (front ++ one ∷ []) part)),
)

-- Sizes

-- where each procedure that is called has one size by both, so have the statements
module _ (one other : ℕ → ℕ) where
  abbrev Same : List Statement → Type 0
  Same statements = Calls (λ procedure. one procedure ≡ other procedure) statements
      → size_of one statements ≡ size_of other statements

  same-by : (layer : What-F What Statement) → HoldsInside Same layer
      → CallsBy (λ procedure. one procedure ≡ other procedure) layer → size_by one layer ≡ size_by other layer
  same-by (What-F.If test first second) parts calls = ap₂ (λ (m n : ℕ). 1 + (m + n)) (parts.0 calls.0) (parts.1 calls.1)
  same-by (What-F.While test body) parts calls = ap (λ (n : ℕ). 1 + n) (parts calls)
  same-by (What-F.DoUntil body test) parts calls = ap (λ (n : ℕ). n + 1) (parts calls)
  same-by (What-F.For variable from to down step body last) parts calls = ap (λ (n : ℕ). 2 + (n + 1)) (parts calls)
  same-by (What-F.AssignCall to procedure arguments) parts calls = ap (λ (n : ℕ). 1 + n) calls
  same-by (What-F.Call procedure arguments) parts calls = ap (λ (n : ℕ). 1 + n) calls
  same-by (What-F.Assign to value) parts calls = refl
  same-by (What-F.Return value) parts calls = refl
  same-by (What-F.ReadUpdate buffer most got) parts calls = refl
  same-by (What-F.Reply buffer count) parts calls = refl
  same-by (What-F.WriteRead file buffer send room got) parts calls = refl
  same-by (What-F.Checkpoint items files) parts calls = refl
  same-by What-F.CheckMonitor parts calls = refl
  same-by (What-F.Open file) parts calls = refl
  same-by What-F.Stop parts calls = refl

  same-more : (statement : Statement) (rest : List Statement) → HoldsInside Same (out-What statement.what) → Same rest
      → Same (statement ∷ rest)
  same-more statement rest parts later calls =
      ap₂ (λ (m n : ℕ). m + n)
      (size-is one statement.what
      ∙ same-by (out-What statement.what) parts
      (calls-first (λ procedure. one procedure ≡ other procedure) statement rest calls)
      ∙ sym (size-is other statement.what))
      (later (calls-rest (λ procedure. one procedure ≡ other procedure) statement rest calls))

  pub same-size : (statements : List Statement) → Same statements
  same-size statements = by-statements Same (record { none = λ calls. refl; more = same-more }) statements

one-of-total : (f : ℕ → ℕ) (xs : List ℕ) (x : ℕ) → IsAmong x xs → f x ≤ total f xs
one-of-total f [] x among = absurd among
one-of-total f (y ∷ xs) x (inl same) = let e : f x ≡ f y = ap f same in omega arith
one-of-total f (y ∷ xs) x (inr among) = let rest : f x ≤ total f xs = one-of-total f xs x among in omega arith

-- a procedure that is called isn't larger than its caller
called-is-no-larger : (before : List ℕ) (body : List Statement) (procedure : ℕ) → IsAmong procedure (calls_of body)
    → size_at before procedure ≤ size_from before body
called-is-no-larger before body procedure among =
    let one : size_at before procedure ≤ total (size_at before) (calls_of body) =
    one-of-total (size_at before) (calls_of body) procedure among in
    let all : total (size_at before) (calls_of body) ≡ sum (map (size_at before) (calls_of body)) =
    total-is (size_at before) (calls_of body) in
    omega arith

-- One procedure

begins-own : (called : ℕ → List Placed) (statements : List Statement) (later : List Entry)
    → start_row (rows statements) 0 leaving ≡ start_in (place called statements 0 leaving later) 0 leaving
begins-own called [] later = refl
begins-own called (statement ∷ rest) later =
    let after = start_row (rows rest) (0 + size_in (sizes called) statement.what) leaving in
    let remains = runs_of rest ++ later in
    let first = first-laid called (out-What statement.what) statement 0 after remains in
    let split : place_in called statement.what statement 0 after remains ≡ first.first ∷ first.others =
    place-is called statement 0 after remains statement.what ∙ first.split in
    sym (ap (λ (nodes : List Placed). start_in
    (nodes ++ place called rest (0 + size_in (sizes called) statement.what) leaving later) 0 leaving) split)

module _ (program : Program) where
  abbrev pub size : ℕ → ℕ
  size k = size_at (program_sizes program) k

  -- the graph of a procedure, of its size
  pub record IsGraph (k : ℕ) (nodes : List Placed) : Type 0 where
    pub template : IsTemplate program k nodes
    pub count : length (shown nodes) ≡ size k

  template : (called : ℕ → List Placed) (Good : ℕ → Type 0)
      → ((procedure : ℕ) → Good procedure → IsTemplate program procedure (called procedure))
      → (k : ℕ) (procedure : Procedure)
      → slice_get program.procedures k ≡ Some procedure → Calls Good procedure.body
      → IsTemplate program k (place called procedure.body 0 leaving [])
  template called Good templates k procedure got calls =
      let nodes = place called procedure.body 0 leaving [] in
      let whole : Holds nodes 0 nodes = holds-after [] nodes in
      let start : Follows nodes (start_row (rows procedure.body) 0 leaving) (runs_of procedure.body ++ []) =
      begins called nodes procedure.body 0 leaving [] whole (follows-leaving nodes) in
      let body : runs_of procedure.body ++ [] ≡ body_of program k =
      append-nil (runs_of procedure.body) ∙ ap body_in (sym got) in
      record {
        right = written program called Good templates nodes procedure.body calls 0 leaving [] whole
            (follows-leaving nodes);
        begins = subst (Follows nodes (start_in nodes 0 leaving)) body
            (subst (λ (edge : Edge). Follows nodes edge (runs_of procedure.body ++ []))
            (begins-own called procedure.body []) start);
      }

  -- the graphs of so many procedures, as far as they are not too large
  pub record AreGraphs (graphs : List (List Node)) : Type 0 where
    pub placed : List (List Placed)
    pub same : map shown placed ≡ graphs
    pub each : (k : ℕ) → k < length graphs → size k ≤ 8192 → IsGraph k (unwrap_or (slice_get placed k) [])

  pub none-yet : AreGraphs []
  none-yet = record { placed = []; same = refl; each = λ k below few. absurd (omega arith) }

  shown-at : (placed : List (List Placed)) (k : ℕ)
      → shown (unwrap_or (slice_get placed k) []) ≡ graph_at (map shown placed) k
  shown-at [] k = refl
  shown-at (nodes ∷ placed) zero = refl
  shown-at (nodes ∷ placed) (suc k) = shown-at placed k

  pub more-graphs : (graphs : List (List Node)) (are : AreGraphs graphs) (nodes : List Placed)
      → (size (length graphs) ≤ 8192 → IsGraph (length graphs) nodes) → AreGraphs (graphs ++ shown nodes ∷ [])
  more-graphs graphs are nodes is =
      let count : length are.placed ≡ length graphs = sym (length-map are.placed shown) ∙ ap length are.same in
      let more : length (graphs ++ shown nodes ∷ []) ≡ length graphs + 1 = length-append graphs (shown nodes ∷ []) in
      record {
        placed = are.placed ++ nodes ∷ [];
        same = map-append shown are.placed (nodes ∷ [])
            ∙ ap (λ (front : List (List Node)). front ++ shown nodes ∷ []) are.same;
        each = λ k below few. elim (below-or-here k (length graphs) (omega arith)) [
          | inl earlier ↦ subst (λ (found : Option (List Placed)). IsGraph k (unwrap_or found []))
              (sym (got-before are.placed (nodes ∷ []) k (omega arith)))
              (are.each k earlier few)
          | inr here ↦ subst (λ (found : Option (List Placed)). IsGraph k (unwrap_or found []))
              (sym (ap (slice_get (are.placed ++ nodes ∷ [])) (here ∙ sym count) ∙ got-after are.placed nodes []))
              (subst (λ (n : ℕ). IsGraph n nodes) (sym here) (is (subst (λ (n : ℕ). size n ≤ 8192) here few)))
        ];
      }

  -- one that is too large is left out
  pub left-out : (graphs : List (List Node)) → AreGraphs graphs → 8192 < size (length graphs)
      → AreGraphs (graphs ++ [] ∷ [])
  left-out graphs are large = more-graphs graphs are [] (λ few. absurd (omega arith))

  module _ (ordered : IsOrdered program) (graphs : List (List Node)) (are : AreGraphs graphs) (k : ℕ)
      (procedure : Procedure)
      (here : k ≤ length graphs) (got : slice_get program.procedures k ≡ Some procedure) (few : size k ≤ 8192) where
    abbrev Good : ℕ → Type 0
    Good p = (p < length graphs) × (size p ≤ 8192)

    abbrev called : ℕ → List Placed
    called p = unwrap_or (slice_get are.placed p) []

    own : size k ≡ size_from (program_sizes program) procedure.body
    own = ap (λ (found : Option ℕ). unwrap_or found 0) (sizes-follow program k procedure ordered got)

    good : Calls Good procedure.body
    good p among =
        let earlier : p < k = ordered.calls k procedure got p among in
        let less : size p ≤ size_from (program_sizes program) procedure.body =
        called-is-no-larger (program_sizes program) procedure.body p among in
        ((let e : p < length graphs = omega arith in e), (let e : size p ≤ 8192 = omega (arith, own) in e))

    graphs-are : (p : ℕ) → shown (called p) ≡ graph_at graphs p
    graphs-are p = shown-at are.placed p ∙ ap (λ (all : List (List Node)). graph_at all p) are.same

    -- the size of the graph is that of the procedure
    pub same-count : size_row (λ p. length (graph_at graphs p)) (rows procedure.body) ≡ size k
    same-count =
        same-size (λ p. length (graph_at graphs p)) (size_at (program_sizes program)) procedure.body
        (λ p among. let is = good p among in ap length (sym (graphs-are p)) ∙ (are.each p is.0 is.1).count)
        ∙ sized (program_sizes program) procedure.body ∙ sym own

    abbrev laid : List Placed
    laid = place called procedure.body 0 leaving []

    shown-laid : shown laid ≡ lay_row (graph_at graphs) (rows procedure.body) 0 leaving
    shown-laid =
        shown-row called (rows procedure.body) 0 leaving []
        ∙ ap (λ (all : ℕ → List Node). lay_row all (rows procedure.body) 0 leaving) (λ i. λ (p : ℕ). graphs-are p i)

    is-graph : IsGraph k laid
    is-graph = record {
      template = template called Good (λ p is. (are.each p is.0 is.1).template) k procedure got good;
      count = length-map laid (λ (one : Placed). one.node)
          ∙ long called procedure.body 0 leaving []
          ∙ ap (λ (all : ℕ → ℕ). size_row all (rows procedure.body)) (λ i. λ (p : ℕ). length (graphs-are p i))
          ∙ same-count;
    }

    -- a procedure's graph, laid out from those before it
    pub graph-laid : (nodes : List Placed) × (shown nodes ≡ lay_row (graph_at graphs) (rows procedure.body) 0 leaving)
        × IsGraph k nodes
    graph-laid = (laid, shown-laid, is-graph)
