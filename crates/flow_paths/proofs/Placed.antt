-- The nodes of a procedure's graph with their places in it.
use Rattle.std.proofs.Common.{◌≡◌, ℕ, ◌+◌, List, [], ◌∷◌, ◌++◌, map, length, refl, ap, ap₂, ◌∙◌}
use Rattle.tal_tree.specs.declared.statement.Statement.{Statement}
use Rattle.tal_tree.specs.declared.statement.What.{What, Assign, AssignCall, If', While', For', DoUntil', Call}
use Rattle.tal_tree.specs.declared.statement.What.{Return, ReadUpdate, Reply, WriteRead, Checkpoint, CheckMonitor}
use Rattle.tal_tree.specs.declared.statement.What.{Open, Stop}
use Rattle.tal_tree.specs.declared.statement.What.{Row_of-Statement, end_of-Statement, more_of-Statement}
use Rattle.path_semantics.specs.process_semantics.specs.State.{Entry, Run, Test, Last, runs_row}
use Rattle.path_semantics.specs.Dues.{global_of_spot}
use Rattle.path_semantics.specs.Place.{Place}
use Rattle.flow_paths.specs.declared.graph.Edge.{Edge}
use Rattle.flow_paths.specs.Graph.{Node}
use Rattle.flow_paths.specs.Layout.{size_in, size_row, to_node, leaving, ending, with_targets, start_row, start_in}
use Rattle.flow_paths.specs.Layout.{one_way, two_ways, moved_node, lay_call, lay_in, lay_row}

-- a node, and what remains there, up to the procedure at hand
pub record Placed : Type 0 where
  pub node : Node
  pub place : Place

abbrev pub shown : List Placed → List Node
shown placed = map (λ (one : Placed). one.node) placed

abbrev pub own_one : Entry → List Entry → Edge → Placed
own_one entry rest edge = record { node = one_way entry edge; place = (entry ∷ rest) ∷ [] }

abbrev pub own_two : Entry → List Entry → Edge → Edge → Placed
own_two entry rest first second = record { node = two_ways entry first second; place = (entry ∷ rest) ∷ [] }

abbrev pub placed_moved : ℕ → Edge → List Entry → Placed → Placed
placed_moved call after frame placed =
    record { node = moved_node call after placed.node; place = placed.place ++ frame ∷ [] }

abbrev pub place_call : List Placed → Statement → ℕ → Edge → List Entry → List Placed
place_call called self base after rest =
    own_one (Run self) rest (start_in (shown called) (base + 1) after)
    ∷ map (placed_moved base after (Run self ∷ rest)) called

module _ (called : ℕ → List Placed) where
  abbrev pub sizes : ℕ → ℕ
  sizes k = length (shown (called k))

  abbrev mutual
    pub place_in : What → Statement → ℕ → Edge → List Entry → List Placed
    place_in (If' test _ first _ second) self base after rest =
        own_two (Run self) rest (start_row first (base + 1) after)
        (start_row second (base + 1 + size_row sizes first) after)
        ∷ (place_row first (base + 1) after rest ++ place_row second (base + 1 + size_row sizes first) after rest)
    place_in (While' test _ body) self base after rest =
        own_two (Run self) rest (start_row body (base + 1) (to_node base)) after
        ∷ place_row body (base + 1) (to_node base) (Run self ∷ rest)
    place_in (For' variable from to down step _ body last) self base after rest =
        own_one (Run self) rest (to_node (base + 1))
        ∷ own_two (Test self) rest (start_row body (base + 2) (to_node (base + 2 + size_row sizes body))) after
        ∷ (place_row body (base + 2) (to_node (base + 2 + size_row sizes body)) (Last self ∷ Test self ∷ rest)
        ++ own_one (Last self) (Test self ∷ rest) (to_node (base + 1)) ∷ [])
    place_in (DoUntil' _ body test) self base after rest =
        place_row body base (to_node (base + size_row sizes body)) (Run self ∷ rest)
        ++ own_two (Run self) rest after (start_row body base (to_node (base + size_row sizes body))) ∷ []
    place_in (AssignCall to procedure arguments) self base after rest =
        place_call (called procedure) self base (with_targets (global_of_spot to) after) rest
    place_in (Call procedure arguments) self base after rest = place_call (called procedure) self base after rest
    place_in (Return value) self base after rest = own_one (Run self) rest leaving ∷ []
    place_in Stop self base after rest = own_one (Run self) rest ending ∷ []
    place_in (Assign to value) self base after rest = own_one (Run self) rest after ∷ []
    place_in (ReadUpdate buffer most got) self base after rest = own_one (Run self) rest after ∷ []
    place_in (Reply buffer count) self base after rest = own_one (Run self) rest after ∷ []
    place_in (WriteRead file buffer send room got) self base after rest = own_one (Run self) rest after ∷ []
    place_in (Checkpoint items files) self base after rest = own_one (Run self) rest after ∷ []
    place_in CheckMonitor self base after rest = own_one (Run self) rest after ∷ []
    place_in (Open file) self base after rest = own_one (Run self) rest after ∷ []

    pub place_row : {n : _} → Row_of-Statement n → ℕ → Edge → List Entry → List Placed
    place_row end_of-Statement base next later = []
    place_row (more_of-Statement number line what rest) base next later =
        place_in what (record { number = number; line = line; what = what }) base
        (start_row rest (base + size_in sizes what) next) (runs_row rest ++ later)
        ++ place_row rest (base + size_in sizes what) next later

-- Without their places these are the nodes

shown-append : (xs ys : List Placed) → shown (xs ++ ys) ≡ shown xs ++ shown ys
shown-append [] ys = refl
shown-append (x ∷ xs) ys = ap (λ (zs : List Node). x.node ∷ zs) (shown-append xs ys)

shown-moved : (call : ℕ) (after : Edge) (frame : List Entry) (placed : List Placed)
    → shown (map (placed_moved call after frame) placed) ≡ map (moved_node call after) (shown placed)
shown-moved call after frame [] = refl
shown-moved call after frame (one ∷ placed) =
    ap (λ (zs : List Node). moved_node call after one.node ∷ zs) (shown-moved call after frame placed)

module _ (called : ℕ → List Placed) where
  abbrev nodes_of : ℕ → List Node
  nodes_of k = shown (called k)

  shown-call : (procedure : ℕ) (self : Statement) (base : ℕ) (after : Edge) (rest : List Entry)
      → shown (place_call (called procedure) self base after rest) ≡ lay_call (nodes_of procedure) self base after
  shown-call procedure self base after rest =
      ap (λ (zs : List Node). one_way (Run self) (start_in (nodes_of procedure) (base + 1) after) ∷ zs)
      (shown-moved base after (Run self ∷ rest) (called procedure))

  mutual
    shown-in : (what : What) (self : Statement) (base : ℕ) (after : Edge) (rest : List Entry)
        → shown (place_in called what self base after rest) ≡ lay_in nodes_of what self base after
    shown-in (If' test _ first _ second) self base after rest =
        ap (λ (zs : List Node). two_ways (Run self) (start_row first (base + 1) after)
        (start_row second (base + 1 + size_row (sizes called) first) after) ∷ zs)
        (shown-append (place_row called first (base + 1) after rest)
        (place_row called second (base + 1 + size_row (sizes called) first) after rest)
        ∙ ap₂ (λ (xs ys : List Node). xs ++ ys) (shown-row first (base + 1) after rest)
        (shown-row second (base + 1 + size_row (sizes called) first) after rest))
    shown-in (While' test _ body) self base after rest =
        ap (λ (zs : List Node). two_ways (Run self) (start_row body (base + 1) (to_node base)) after ∷ zs)
        (shown-row body (base + 1) (to_node base) (Run self ∷ rest))
    shown-in (For' variable from to down step _ body last) self base after rest =
        let final = base + 2 + size_row (sizes called) body in
        ap (λ (zs : List Node). one_way (Run self) (to_node (base + 1))
        ∷ two_ways (Test self) (start_row body (base + 2) (to_node final)) after ∷ zs)
        (shown-append (place_row called body (base + 2) (to_node final) (Last self ∷ Test self ∷ rest))
        (own_one (Last self) (Test self ∷ rest) (to_node (base + 1)) ∷ [])
        ∙ ap (λ (xs : List Node). xs ++ one_way (Last self) (to_node (base + 1)) ∷ [])
        (shown-row body (base + 2) (to_node final) (Last self ∷ Test self ∷ rest)))
    shown-in (DoUntil' _ body test) self base after rest =
        let final = base + size_row (sizes called) body in
        shown-append (place_row called body base (to_node final) (Run self ∷ rest))
        (own_two (Run self) rest after (start_row body base (to_node final)) ∷ [])
        ∙ ap (λ (xs : List Node). xs ++ two_ways (Run self) after (start_row body base (to_node final)) ∷ [])
        (shown-row body base (to_node final) (Run self ∷ rest))
    shown-in (AssignCall to procedure arguments) self base after rest =
        shown-call procedure self base (with_targets (global_of_spot to) after) rest
    shown-in (Call procedure arguments) self base after rest = shown-call procedure self base after rest
    shown-in (Return value) self base after rest = refl
    shown-in Stop self base after rest = refl
    shown-in (Assign to value) self base after rest = refl
    shown-in (ReadUpdate buffer most got) self base after rest = refl
    shown-in (Reply buffer count) self base after rest = refl
    shown-in (WriteRead file buffer send room got) self base after rest = refl
    shown-in (Checkpoint items files) self base after rest = refl
    shown-in CheckMonitor self base after rest = refl
    shown-in (Open file) self base after rest = refl

    pub shown-row : {n : _} (row : Row_of-Statement n) (base : ℕ) (next : Edge) (later : List Entry)
        → shown (place_row called row base next later) ≡ lay_row nodes_of row base next
    shown-row end_of-Statement base next later = refl
    shown-row (more_of-Statement number line what rest) base next later =
        let self : Statement = record { number = number; line = line; what = what } in
        let size = size_in (sizes called) what in
        shown-append (place_in called what self base (start_row rest (base + size) next) (runs_row rest ++ later))
        (place_row called rest (base + size) next later)
        ∙ ap₂ (λ (xs ys : List Node). xs ++ ys)
        (shown-in what self base (start_row rest (base + size) next) (runs_row rest ++ later))
        (shown-row rest (base + size) next later)
