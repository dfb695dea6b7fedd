-- The graph of a procedure, written out, is right where those of the procedures that it calls are.
use Rattle.std.proofs.Common.{◌≡◌, ℕ, ◌+◌, arith, List, [], ◌∷◌, ◌++◌, map, length, Some, None, Option, refl, ap, subst}
use Rattle.std.proofs.Common.{sym, ◌∙◌}
use Rattle.std.proofs.lemmas.List.{length-append, length-map}
use Rattle.std.specs.Option.{option_to_list}
use Rattle.tal_tree.specs.ByStatements.{HoldsInside, IsInductive, by-statements}
use Rattle.tal_tree.specs.Rows.{rows}
use Rattle.tal_tree.specs.declared.program.Program.{Program}
use Rattle.tal_tree.specs.declared.statement.Statement.{Statement}
use Rattle.tal_tree.specs.declared.statement.What.{What, What-F, out-What}
use Rattle.tal_tree.specs.Statements.{body_before}
use Rattle.path_semantics.specs.process_semantics.specs.State.{Entry, Run, Test, Last, runs_of}
use Rattle.path_semantics.specs.process_semantics.proofs.Rests.{behind-more}
use Rattle.path_semantics.specs.declared.dues.Dues.{Dues}
use Rattle.path_semantics.specs.Dues.{after_entry, after_statement, target_of, global_of_spot}
use Rattle.path_semantics.specs.Place.{Place, body_of, ways_of, rounds_of, settled, stand_at}
use Rattle.flow_paths.specs.declared.graph.Edge.{Edge}
use Rattle.flow_paths.specs.Layout.{size_in, to_node, leaving, ending, with_targets, moved, start_row, start_in}
use Rattle.flow_paths.proofs.Called.{Calls, CallsBy, calls-first, calls-rest}
use Rattle.flow_paths.proofs.Layers.{size_of, size_by, size-is, place, place_by, place-is}
use Rattle.flow_paths.proofs.Placed.{Placed, shown, own_one, own_two, placed_moved, place_call, sizes, place_in}
use Rattle.flow_paths.proofs.Right.{ArrivesIn, AllArriveIn, IsRightIn, AreRight, Follows, nothing-changed, Holds}
use Rattle.flow_paths.proofs.Right.{holds-at, holds-left, holds-right, right-append, follows-node, follows-leaving}
use Rattle.flow_paths.proofs.Right.{IsTemplate, nodes-moved, begins-moved}

-- Lengths

module _ (called : ℕ → List Placed) where
  abbrev Long : List Statement → Type 0
  Long statements = (base : ℕ) (next : Edge) (later : List Entry)
      → length (place called statements base next later) ≡ size_of (sizes called) statements

  long-call : (procedure : ℕ) (self : Statement) (base : ℕ) (after : Edge) (rest : List Entry)
      → length (place_call (called procedure) self base after rest) ≡ 1 + sizes called procedure
  long-call procedure self base after rest =
      let moved : length (map (placed_moved base after (Run self ∷ rest)) (called procedure))
      ≡ length (called procedure) = length-map (called procedure) (placed_moved base after (Run self ∷ rest)) in
      let seen : sizes called procedure ≡ length (called procedure) =
      length-map (called procedure) (λ (one : Placed). one.node) in
      omega arith

  long-by : (layer : What-F What Statement) (self : Statement) (base : ℕ) (after : Edge) (rest : List Entry)
      → HoldsInside Long layer
      → length (place_by called layer self base after rest) ≡ size_by (sizes called) layer
  long-by (What-F.If test first second) self base after rest parts =
      let one : length (place called first (base + 1) after rest) ≡ size_of (sizes called) first =
      parts.0 (base + 1) after rest in
      let two : length (place called second (base + 1 + size_of (sizes called) first) after rest)
      ≡ size_of (sizes called) second = parts.1 (base + 1 + size_of (sizes called) first) after rest in
      omega (
        arith,
        length-append (place called first (base + 1) after rest)
            (place called second (base + 1 + size_of (sizes called) first) after rest),
      )
  long-by (What-F.While test body) self base after rest parts =
      let one : length (place called body (base + 1) (to_node base) (Run self ∷ rest)) ≡ size_of (sizes called) body =
      parts (base + 1) (to_node base) (Run self ∷ rest) in omega arith
  long-by (What-F.For variable from to down step body last) self base after rest parts =
      let one : length (place called body (base + 2) (to_node (base + 2 + size_of (sizes called) body))
      (Last self ∷ Test self ∷ rest)) ≡ size_of (sizes called) body =
      parts (base + 2) (to_node (base + 2 + size_of (sizes called) body)) (Last self ∷ Test self ∷ rest) in
      omega (
        arith,
        length-append (place called body (base + 2) (to_node (base + 2 + size_of (sizes called) body))
            (Last self ∷ Test self ∷ rest)) (own_one (Last self) (Test self ∷ rest) (to_node (base + 1)) ∷ []),
      )
  long-by (What-F.DoUntil body test) self base after rest parts =
      let final = base + size_of (sizes called) body in
      let one : length (place called body base (to_node final) (Run self ∷ rest)) ≡ size_of (sizes called) body =
      parts base (to_node final) (Run self ∷ rest) in
      omega (
        arith,
        one,
        length-append (place called body base (to_node final) (Run self ∷ rest))
            (own_two (Run self) rest after (start_row (rows body) base (to_node final)) ∷ []),
      )
  long-by (What-F.AssignCall to procedure arguments) self base after rest parts =
      long-call procedure self base (with_targets (global_of_spot to) after) rest
  long-by (What-F.Call procedure arguments) self base after rest parts =
      long-call procedure self base after rest
  long-by (What-F.Assign to value) self base after rest parts = refl
  long-by (What-F.Return value) self base after rest parts = refl
  long-by (What-F.ReadUpdate buffer most got) self base after rest parts = refl
  long-by (What-F.Reply buffer count) self base after rest parts = refl
  long-by (What-F.WriteRead file buffer send room got) self base after rest parts = refl
  long-by (What-F.Checkpoint items files) self base after rest parts = refl
  long-by What-F.CheckMonitor self base after rest parts = refl
  long-by (What-F.Open file) self base after rest parts = refl
  long-by What-F.Stop self base after rest parts = refl

  pub long-one : (statement : Statement) (base : ℕ) (after : Edge) (rest : List Entry)
      → HoldsInside Long (out-What statement.what)
      → length (place_in called statement.what statement base after rest) ≡ size_in (sizes called) statement.what
  long-one statement base after rest parts =
      ap length (place-is called statement base after rest statement.what)
      ∙ long-by (out-What statement.what) statement base after rest parts
      ∙ sym (size-is (sizes called) statement.what)

  inductive-long : IsInductive Long
  inductive-long = record {
    none = λ base next later. refl;
    more = λ statement rest parts longer base next later.
        length-append (place_in called statement.what statement base
        (start_row (rows rest) (base + size_in (sizes called) statement.what) next) (runs_of rest ++ later))
        (place called rest (base + size_in (sizes called) statement.what) next later)
        ∙ ap (λ (n : ℕ). n + length (place called rest (base + size_in (sizes called) statement.what) next later))
        (long-one statement base (start_row (rows rest) (base + size_in (sizes called) statement.what) next)
        (runs_of rest ++ later) parts)
        ∙ ap (λ (n : ℕ). size_in (sizes called) statement.what + n)
        (longer (base + size_in (sizes called) statement.what) next later);
  }

  pub long : (statements : List Statement) → Long statements
  long statements = by-statements Long inductive-long statements

  parts-long : (layer : What-F What Statement) → HoldsInside Long layer
  parts-long (What-F.If test first second) = (long first, long second)
  parts-long (What-F.While test body) = long body
  parts-long (What-F.DoUntil body test) = long body
  parts-long (What-F.For variable from to down step body last) = long body
  parts-long _ = tt

  pub long-own : (statement : Statement) (base : ℕ) (after : Edge) (rest : List Entry)
      → length (place_in called statement.what statement base after rest) ≡ size_in (sizes called) statement.what
  long-own statement base after rest = long-one statement base after rest (parts-long (out-What statement.what))

-- Where statements begin

-- there is a first of these
pub record HasFirst (laid : List Placed) : Type 0 where
  pub first : Placed
  pub others : List Placed
  pub split : laid ≡ first ∷ others

first-before : (laid : List Placed) (last : Placed) → HasFirst (laid ++ last ∷ [])
first-before [] last = record { first = last; others = []; split = refl }
first-before (one ∷ laid) last = record { first = one; others = laid ++ last ∷ []; split = refl }

-- a DO begins where its body does, or where its test does
start-do : (size : List Statement → ℕ) → size [] ≡ 0 → (body : List Statement) (base : ℕ)
    → start_row (rows body) base (to_node (base + size body)) ≡ to_node base
start-do size none [] base = ap to_node (let same : base + size [] ≡ base = omega (arith, none) in same)
start-do size none (statement ∷ rest) base = refl

module _ (called : ℕ → List Placed) where
  pub first-laid : (layer : What-F What Statement) (self : Statement) (base : ℕ) (after : Edge) (rest : List Entry)
      → HasFirst (place_by called layer self base after rest)
  first-laid (What-F.If test first second) self base after rest =
      record { first = _; others = _; split = refl }
  first-laid (What-F.While test body) self base after rest =
      record { first = _; others = _; split = refl }
  first-laid (What-F.For variable from to down step body last) self base after rest =
      record { first = _; others = _; split = refl }
  first-laid (What-F.AssignCall to procedure arguments) self base after rest =
      record { first = _; others = _; split = refl }
  first-laid (What-F.Call procedure arguments) self base after rest =
      record { first = _; others = _; split = refl }
  first-laid (What-F.Assign to value) self base after rest =
      record { first = _; others = _; split = refl }
  first-laid (What-F.Return value) self base after rest =
      record { first = _; others = _; split = refl }
  first-laid (What-F.ReadUpdate buffer most got) self base after rest =
      record { first = _; others = _; split = refl }
  first-laid (What-F.Reply buffer count) self base after rest =
      record { first = _; others = _; split = refl }
  first-laid (What-F.WriteRead file buffer send room got) self base after rest =
      record { first = _; others = _; split = refl }
  first-laid (What-F.Checkpoint items files) self base after rest =
      record { first = _; others = _; split = refl }
  first-laid What-F.CheckMonitor self base after rest =
      record { first = _; others = _; split = refl }
  first-laid (What-F.Open file) self base after rest =
      record { first = _; others = _; split = refl }
  first-laid What-F.Stop self base after rest =
      record { first = _; others = _; split = refl }
  first-laid (What-F.DoUntil body test) self base after rest =
      first-before (place called body base (to_node (base + size_of (sizes called) body)) (Run self ∷ rest))
      (own_two (Run self) rest after (start_row (rows body) base (to_node (base + size_of (sizes called) body))))

  module _ (nodes : List Placed) where
    abbrev Begin : List Statement → Type 0
    Begin statements = (base : ℕ) (next : Edge) (later : List Entry)
        → Holds nodes base (place called statements base next later)
        → Follows nodes next later → Follows nodes (start_row (rows statements) base next) (runs_of statements ++ later)

    begin-layer : (layer : What-F What Statement) (self : Statement) (base : ℕ) (after : Edge) (rest : List Entry)
        → HoldsInside Begin layer → Holds nodes base (place_by called layer self base after rest)
        → Follows nodes (to_node base) (runs_of (body_before layer) ++ Run self ∷ rest)
    begin-layer (What-F.If test first second) self base after rest parts holds =
        follows-node nodes base _ (Run self) rest holds.0 refl
    begin-layer (What-F.While test body) self base after rest parts holds =
        follows-node nodes base _ (Run self) rest holds.0 refl
    begin-layer (What-F.For variable from to down step body last) self base after rest parts holds =
        follows-node nodes base _ (Run self) rest holds.0 refl
    begin-layer (What-F.AssignCall to procedure arguments) self base after rest parts holds =
        follows-node nodes base _ (Run self) rest holds.0 refl
    begin-layer (What-F.Call procedure arguments) self base after rest parts holds =
        follows-node nodes base _ (Run self) rest holds.0 refl
    begin-layer (What-F.Assign to value) self base after rest parts holds =
        follows-node nodes base _ (Run self) rest holds.0 refl
    begin-layer (What-F.Return value) self base after rest parts holds =
        follows-node nodes base _ (Run self) rest holds.0 refl
    begin-layer (What-F.ReadUpdate buffer most got) self base after rest parts holds =
        follows-node nodes base _ (Run self) rest holds.0 refl
    begin-layer (What-F.Reply buffer count) self base after rest parts holds =
        follows-node nodes base _ (Run self) rest holds.0 refl
    begin-layer (What-F.WriteRead file buffer send room got) self base after rest parts holds =
        follows-node nodes base _ (Run self) rest holds.0 refl
    begin-layer (What-F.Checkpoint items files) self base after rest parts holds =
        follows-node nodes base _ (Run self) rest holds.0 refl
    begin-layer What-F.CheckMonitor self base after rest parts holds =
        follows-node nodes base _ (Run self) rest holds.0 refl
    begin-layer (What-F.Open file) self base after rest parts holds =
        follows-node nodes base _ (Run self) rest holds.0 refl
    begin-layer What-F.Stop self base after rest parts holds =
        follows-node nodes base _ (Run self) rest holds.0 refl
    begin-layer (What-F.DoUntil body test) self base after rest parts holds =
        let final = base + size_of (sizes called) body in
        let front = place called body base (to_node final) (Run self ∷ rest) in
        let own = own_two (Run self) rest after (start_row (rows body) base (to_node final)) in
        let left = holds-left nodes front (own ∷ []) base holds in
        let right : Holds nodes final (own ∷ []) =
        holds-at nodes (own ∷ []) (base + length front) final
        (ap (λ (n : ℕ). base + n) (long called body base (to_node final) (Run self ∷ rest)))
        (holds-right nodes front (own ∷ []) base holds) in
        let again : Follows nodes (to_node final) (Run self ∷ rest) =
        follows-node nodes final _ (Run self) rest right.0 refl in
        subst (λ (edge : Edge). Follows nodes edge (runs_of body ++ Run self ∷ rest))
        (start-do (size_of (sizes called)) refl body base)
        (parts base (to_node final) (Run self ∷ rest) left again)

    begin-more : (statement : Statement) (rest : List Statement) → HoldsInside Begin (out-What statement.what)
        → Begin rest → Begin (statement ∷ rest)
    begin-more statement rest parts others base next later holds follows =
        let after = start_row (rows rest) (base + size_in (sizes called) statement.what) next in
        let own_part : Holds nodes base (place_in called statement.what statement base after
        (runs_of rest ++ later)) =
        holds-left nodes (place_in called statement.what statement base after (runs_of rest ++ later))
        (place called rest (base + size_in (sizes called) statement.what) next later) base holds in
        subst (Follows nodes (to_node base)) (sym (behind-more statement rest later))
        (begin-layer (out-What statement.what) statement base after (runs_of rest ++ later) parts
        (subst (Holds nodes base) (place-is called statement base after (runs_of rest ++ later) statement.what)
        own_part))

    pub begins : (statements : List Statement) → Begin statements
    begins = by-statements Begin (record { none = λ base next later holds follows. follows; more = begin-more })

-- Nodes

abbrev owned : Entry → List Entry → Edge → Option Edge → Placed
owned entry rest first second = record {
  node =
      record { entry = entry; caller = None; first = first; second = second };
  place = (entry ∷ rest) ∷ [];
}

module _ (program : Program) (nodes : List Placed) (self : Statement) (rest : List Entry) where
  run-right : (layer : What-F What Statement) (first : Edge) (second : Option Edge) → out-What self.what ≡ layer
      → ((callers : Place) (dues : Dues) → AllArriveIn nodes callers dues (first ∷ option_to_list second)
      (map (settled dues) (ways_of program self rest callers layer)))
      → IsRightIn program nodes (owned (Run self) rest first second)
  run-right layer first second is all = record {
    next = refl;
    caller = refl;
    leads = λ callers dues.
        subst (λ (w : What-F What Statement). AllArriveIn nodes callers (after_statement dues (out-What self.what))
        (first ∷ option_to_list second)
        (map (settled (after_statement dues (out-What self.what))) (ways_of program self rest callers w)))
        (sym is) (all callers (after_statement dues (out-What self.what)));
  }

  test-right : (layer : What-F What Statement) (first : Edge) (second : Option Edge) → out-What self.what ≡ layer
      → ((callers : Place) (dues : Dues) → AllArriveIn nodes callers dues (first ∷ option_to_list second)
      (map (settled dues) (rounds_of self rest callers layer)))
      → IsRightIn program nodes (owned (Test self) rest first second)
  test-right layer first second is all = record {
    next = refl;
    caller = refl;
    leads = λ callers dues.
        subst (λ (w : What-F What Statement). AllArriveIn nodes callers dues (first ∷ option_to_list second)
        (map (settled dues) (rounds_of self rest callers w)))
        (sym is) (all callers dues);
  }

  last-right : (edge : Edge) → Follows nodes edge rest → IsRightIn program nodes (owned (Last self) rest edge None)
  last-right edge follows = record {
    next = refl;
    caller = refl;
    leads = λ callers dues. (follows callers (after_entry dues (Last self)), tt);
  }

  -- a statement that leads on alone
  on-right : (layer : What-F What Statement) (edge : Edge) → out-What self.what ≡ layer
      → ((callers : Place) → ways_of program self rest callers layer ≡ (rest ∷ callers) ∷ []) → Follows nodes edge rest
      → IsRightIn program nodes (owned (Run self) rest edge None)
  on-right layer edge is way follows = run-right layer edge None is (λ callers dues.
      subst (λ (places : List Place). AllArriveIn nodes callers dues (edge ∷ []) (map (settled dues) places))
      (sym (way callers)) (follows callers dues, tt))

start-moved : (template : List Placed) (base : ℕ) (inner : Edge)
    → moved base inner (start_in template 0 leaving) ≡ start_in (shown template) base inner
start-moved [] base inner = refl
start-moved (node ∷ rest) base inner = ap to_node (let same : base + 0 ≡ base = omega arith in same)

module _ (program : Program) (called : ℕ → List Placed) (Good : ℕ → Type 0)
    (templates : (procedure : ℕ) → Good procedure → IsTemplate program procedure (called procedure))
    (nodes : List Placed) where
  abbrev Written : List Statement → Type 0
  Written statements = Calls Good statements → (base : ℕ) (next : Edge) (later : List Entry)
      → Holds nodes base (place called statements base next later) → Follows nodes next later
      → AreRight program nodes (place called statements base next later)

  module _ (self : Statement) (base : ℕ) (after : Edge) (rest : List Entry) (follows : Follows nodes after rest) where
    abbrev Right : List Placed → Type 0
    Right part = AreRight program nodes part

    call-right : (procedure : ℕ) → Good procedure → (layer : What-F What Statement) → out-What self.what ≡ layer
        → ((callers : Place) → ways_of program self rest callers layer
        ≡ (body_of program procedure ∷ (Run self ∷ rest) ∷ callers) ∷ [])
        → Holds nodes base (place_call (called procedure) self base (with_targets (target_of layer) after) rest)
        → Right (place_call (called procedure) self base (with_targets (target_of layer) after) rest)
    call-right procedure good layer is way holds =
        let inner = with_targets (target_of (out-What self.what)) after in
        let template = called procedure in
        let same : with_targets (target_of layer) after ≡ inner =
        ap (λ (w : What-F What Statement). with_targets (target_of w) after) (sym is) in
        let whole : Holds nodes base (place_call template self base inner rest) =
        subst (λ (e : Edge). Holds nodes base (place_call template self base e rest)) same holds in
        let own = own_one (Run self) rest (start_in (shown template) (base + 1) inner) in
        let entering : (callers : Place) (dues : Dues)
        → ArrivesIn nodes callers dues (start_in (shown template) (base + 1) inner)
        (stand_at (body_of program procedure) ((Run self ∷ rest) ∷ callers) dues) =
        λ callers dues. subst (λ (e : Edge). ArrivesIn nodes callers dues e
        (stand_at (body_of program procedure) ((Run self ∷ rest) ∷ callers) dues))
        (start-moved template (base + 1) inner)
        (begins-moved program nodes template base after self rest own whole.0 refl whole.1 follows
        (body_of program procedure) (templates procedure good).begins callers dues) in
        subst (λ (e : Edge). Right (place_call template self base e rest)) (sym same) (
          run-right program nodes self rest layer (start_in (shown template) (base + 1) inner) None is (λ callers dues.
              subst (λ (places : List Place). AllArriveIn nodes callers dues
              (start_in (shown template) (base + 1) inner ∷ []) (map (settled dues) places)) (sym (way callers))
              (entering callers dues, tt)),
          nodes-moved program nodes template base after self rest own whole.0 refl whole.1 follows template
              (templates procedure good).right,
        )

    one-right : (layer : What-F What Statement) → out-What self.what ≡ layer → HoldsInside Written layer
        → CallsBy Good layer → Holds nodes base (place_by called layer self base after rest)
        → Right (place_by called layer self base after rest)
    one-right (What-F.If test first second) is parts calls holds =
        let left = holds-left nodes (place called first (base + 1) after rest)
        (place called second (base + 1 + size_of (sizes called) first) after rest) (base + 1) holds.1 in
        let right : Holds nodes (base + 1 + size_of (sizes called) first)
        (place called second (base + 1 + size_of (sizes called) first) after rest) =
        holds-at nodes (place called second (base + 1 + size_of (sizes called) first) after rest)
        (base + 1 + length (place called first (base + 1) after rest)) (base + 1 + size_of (sizes called) first)
        (ap (λ (n : ℕ). base + 1 + n) (long called first (base + 1) after rest))
        (holds-right nodes (place called first (base + 1) after rest)
        (place called second (base + 1 + size_of (sizes called) first) after rest) (base + 1) holds.1) in (
          run-right program nodes self rest (What-F.If test first second)
              (start_row (rows first) (base + 1) after)
              (Some (start_row (rows second) (base + 1 + size_of (sizes called) first) after)) is (λ callers dues. (
                begins called nodes first (base + 1) after rest left follows callers dues,
                (
                  begins called nodes second (base + 1 + size_of (sizes called) first) after rest right follows callers
                      dues,
                  tt,
                ),
              )),
          right-append program nodes (place called first (base + 1) after rest)
              (place called second (base + 1 + size_of (sizes called) first) after rest)
              (parts.0 calls.0 (base + 1) after rest left follows)
              (parts.1 calls.1 (base + 1 + size_of (sizes called) first) after rest right follows),
        )
    one-right (What-F.While test body) is parts calls holds =
        let again : Follows nodes (to_node base) (Run self ∷ rest) =
        follows-node nodes base _ (Run self) rest holds.0 refl in (
          run-right program nodes self rest (What-F.While test body) (start_row (rows body) (base + 1) (to_node base))
              (Some after) is (λ callers dues. (
                begins called nodes body (base + 1) (to_node base) (Run self ∷ rest) holds.1 again callers dues,
                (follows callers dues, tt),
              )),
          parts calls (base + 1) (to_node base) (Run self ∷ rest) holds.1 again,
        )
    one-right (What-F.DoUntil body test) is parts calls holds =
        let final = base + size_of (sizes called) body in
        let front = place called body base (to_node final) (Run self ∷ rest) in
        let own = own_two (Run self) rest after (start_row (rows body) base (to_node final)) in
        let left = holds-left nodes front (own ∷ []) base holds in
        let right : Holds nodes final (own ∷ []) =
        holds-at nodes (own ∷ []) (base + length front) final
        (ap (λ (n : ℕ). base + n) (long called body base (to_node final) (Run self ∷ rest)))
        (holds-right nodes front (own ∷ []) base holds) in
        let again : Follows nodes (to_node final) (Run self ∷ rest) =
        follows-node nodes final _ (Run self) rest right.0 refl in
        right-append program nodes front (own ∷ []) (parts calls base (to_node final) (Run self ∷ rest) left again) (
          run-right program nodes self rest (What-F.DoUntil body test) after
              (Some (start_row (rows body) base (to_node final))) is (λ callers dues. (
                follows callers dues,
                (begins called nodes body base (to_node final) (Run self ∷ rest) left again callers dues, tt),
              )),
          tt,
        )
    one-right (What-F.For variable from to down step body last) is parts calls holds =
        let final = base + 2 + size_of (sizes called) body in
        let inner : Holds nodes (base + 2) (place called body (base + 2) (to_node final) (Last self ∷ Test self ∷ rest)
        ++ own_one (Last self) (Test self ∷ rest) (to_node (base + 1)) ∷ []) =
        holds-at nodes _ (base + 1 + 1) (base + 2) (omega arith) holds.1.1 in
        let left = holds-left nodes (place called body (base + 2) (to_node final) (Last self ∷ Test self ∷ rest))
        (own_one (Last self) (Test self ∷ rest) (to_node (base + 1)) ∷ []) (base + 2) inner in
        let right : Holds nodes final (own_one (Last self) (Test self ∷ rest) (to_node (base + 1)) ∷ []) =
        holds-at nodes (own_one (Last self) (Test self ∷ rest) (to_node (base + 1)) ∷ [])
        (base + 2 + length (place called body (base + 2) (to_node final) (Last self ∷ Test self ∷ rest))) final
        (ap (λ (n : ℕ). base + 2 + n) (long called body (base + 2) (to_node final) (Last self ∷ Test self ∷ rest)))
        (holds-right nodes (place called body (base + 2) (to_node final) (Last self ∷ Test self ∷ rest))
        (own_one (Last self) (Test self ∷ rest) (to_node (base + 1)) ∷ []) (base + 2) inner) in
        let tests : Follows nodes (to_node (base + 1)) (Test self ∷ rest) =
        follows-node nodes (base + 1) _ (Test self) rest holds.1.0 refl in
        let counts : Follows nodes (to_node final) (Last self ∷ Test self ∷ rest) =
        follows-node nodes final _ (Last self) (Test self ∷ rest) right.0 refl in (
          run-right program nodes self rest (What-F.For variable from to down step body last) (to_node (base + 1)) None
              is
              (λ callers dues. (tests callers dues, tt)),
          (
            test-right program nodes self rest (What-F.For variable from to down step body last)
                (start_row (rows body) (base + 2) (to_node final)) (Some after) is (λ callers dues. (
                  begins called nodes body (base + 2) (to_node final) (Last self ∷ Test self ∷ rest) left counts callers
                      dues,
                  (follows callers dues, tt),
                )),
            right-append program nodes (place called body (base + 2) (to_node final) (Last self ∷ Test self ∷ rest))
                (own_one (Last self) (Test self ∷ rest) (to_node (base + 1)) ∷ [])
                (parts calls (base + 2) (to_node final) (Last self ∷ Test self ∷ rest) left counts)
                (last-right program nodes self (Test self ∷ rest) (to_node (base + 1)) tests, tt),
          ),
        )
    one-right (What-F.AssignCall to procedure arguments) is parts calls holds =
        call-right procedure calls (What-F.AssignCall to procedure arguments) is (λ callers. refl) holds
    one-right (What-F.Call procedure arguments) is parts calls holds =
        call-right procedure calls (What-F.Call procedure arguments) is (λ callers. refl) holds
    one-right (What-F.Return value) is parts calls holds = (
      run-right program nodes self rest (What-F.Return value) leaving None is
          (λ callers dues. (follows-leaving nodes callers dues, tt)),
      tt,
    )
    one-right What-F.Stop is parts calls holds = (
      run-right program nodes self rest What-F.Stop ending None is
          (λ callers dues. (ap (λ (d : Dues). record { place = []; dues = d }) (sym (nothing-changed dues)), tt)),
      tt,
    )
    one-right (What-F.Assign to value) is parts calls holds =
        (on-right program nodes self rest (What-F.Assign to value) after is (λ callers. refl) follows, tt)
    one-right (What-F.ReadUpdate buffer most got) is parts calls holds =
        (on-right program nodes self rest (What-F.ReadUpdate buffer most got) after is (λ callers. refl) follows, tt)
    one-right (What-F.Reply buffer count) is parts calls holds =
        (on-right program nodes self rest (What-F.Reply buffer count) after is (λ callers. refl) follows, tt)
    one-right (What-F.WriteRead file buffer send room got) is parts calls holds = (
      on-right program nodes self rest (What-F.WriteRead file buffer send room got) after is (λ callers. refl)
          follows,
      tt,
    )
    one-right (What-F.Checkpoint items files) is parts calls holds =
        (on-right program nodes self rest (What-F.Checkpoint items files) after is (λ callers. refl) follows, tt)
    one-right What-F.CheckMonitor is parts calls holds =
        (on-right program nodes self rest What-F.CheckMonitor after is (λ callers. refl) follows, tt)
    one-right (What-F.Open file) is parts calls holds =
        (on-right program nodes self rest (What-F.Open file) after is (λ callers. refl) follows, tt)

  more-right : (statement : Statement) (rest : List Statement) → HoldsInside Written (out-What statement.what)
      → Written rest → Written (statement ∷ rest)
  more-right statement rest parts right calls base next later holds follows =
      let size = size_in (sizes called) statement.what in
      let after = start_row (rows rest) (base + size) next in
      let remains = runs_of rest ++ later in
      let first = place_in called statement.what statement base after remains in
      let others = place called rest (base + size) next later in
      let others_hold : Holds nodes (base + size) others =
      holds-at nodes others (base + length first) (base + size)
      (ap (λ (n : ℕ). base + n) (ap length (place-is called statement base after remains statement.what)
      ∙ long-layer statement base after remains))
      (holds-right nodes first others base holds) in
      let on : Follows nodes after remains =
      begins called nodes rest (base + size) next later others_hold follows in
      let laid = place-is called statement base after remains statement.what in
      right-append program nodes first others
      (subst (AreRight program nodes) (sym laid)
      (one-right statement base after remains on (out-What statement.what) refl parts
      (calls-first Good statement rest calls)
      (subst (Holds nodes base) laid (holds-left nodes first others base holds))))
      (right (calls-rest Good statement rest calls) (base + size) next later others_hold follows)
    where
      long-layer : (statement : Statement) (base : ℕ) (after : Edge) (remains : List Entry)
          → length (place_by called (out-What statement.what) statement base after remains)
          ≡ size_in (sizes called) statement.what
      long-layer statement base after remains =
          sym (ap length (place-is called statement base after remains statement.what))
          ∙ long-own called statement base after remains

  pub written : (statements : List Statement) → Written statements
  written statements =
      by-statements Written (record { none = λ calls base next later holds follows. tt; more = more-right }) statements
