-- A program with chosen lists and depths has the paths of the program, and the same dues along them.
use Rattle.std.proofs.Common.{◌≡◌, inl, inr, ℕ, List, [], ◌∷◌, ◌++◌, map, drop, slice_get, Option, Some, None}
use Rattle.std.proofs.Common.{option_map, refl, ap, ap₂, subst, sym, ◌∙◌}
use Rattle.std.proofs.lemmas.List.{map-append}
use Rattle.std.proofs.lemmas.Option.{slice_get-map}
use Rattle.gd_words.specs.Members.{IsAmong}
use Rattle.tal_tree.specs.Rows.{rows}
use Rattle.tal_tree.specs.Statements.{last_of}
use Rattle.tal_tree.specs.declared.program.Procedure.{Procedure}
use Rattle.tal_tree.specs.declared.program.Program.{Program}
use Rattle.tal_tree.specs.declared.statement.Statement.{Statement}
use Rattle.tal_tree.specs.declared.statement.What.{What, What-F, out-What, If', While', For', DoUntil', Assign}
use Rattle.tal_tree.specs.declared.statement.What.{AssignCall, Call, Return, ReadUpdate, Reply, WriteRead, Checkpoint}
use Rattle.tal_tree.specs.declared.statement.What.{CheckMonitor, Open, Stop, Row_of-Statement, end_of-Statement}
use Rattle.tal_tree.specs.declared.statement.What.{more_of-Statement}
use Rattle.process_semantics.specs.Rests.{entry_number}
use Rattle.process_semantics.specs.State.{Entry, Run, Test, Last, runs_row, runs_before, runs_of, first_of}
use Rattle.path_semantics.specs.declared.dues.Dues.{Dues}
use Rattle.path_semantics.specs.Dues.{no_dues, with_changed, changed_by, after_statement, after_entry, target_of}
use Rattle.path_semantics.specs.Dues.{changed_by_return}
use Rattle.path_semantics.specs.Path.{number_at, Walks, Leads}
use Rattle.path_semantics.specs.Place.{Place, Stand, body_in, body_of, next_in, ways_of, rounds_of, ways, stand_at}
use Rattle.path_semantics.specs.Place.{settled, stands_after, successors, first_stand}
use Rattle.path_semantics.proofs.Kept.{one-mapped}
use Rattle.advice.specs.Choice.{Choice, what_with, row_with, statement_with, body_with, procedure_with}
use Rattle.advice.specs.Choice.{with_choice}
use Rattle.advice_laws.specs.Stands.{entry_with, frame_with, place_with, stand_with}
use Rattle.advice_laws.proofs.Layers.{Row, row-is, layer_with, layer-is}

-- one of these gives one of what all give
pub among-mapped : {A B : Type 0} (f : A → B) (x : A) (xs : List A) → IsAmong x xs → IsAmong (f x) (map f xs)
among-mapped f x [] among = absurd among
among-mapped f x (y ∷ ys) (inl same) = inl (ap f same)
among-mapped f x (y ∷ ys) (inr among) = inr (among-mapped f x ys among)

module _ (choice : Choice) where
  -- Numbers and dues of an entry

  last-layer : (number : ℕ) (layer : What-F What Statement) → last_of (layer_with choice number layer) ≡ last_of layer
  last-layer number (What-F.For variable from to down step body last) = refl
  last-layer number _ = refl

  number-kept : (entry : Entry) → entry_number (entry_with choice entry) ≡ entry_number entry
  number-kept (Run statement) = refl
  number-kept (Test statement) = refl
  number-kept (Last statement) = ap last_of (layer-is choice statement.number statement.what)
      ∙ last-layer statement.number (out-What statement.what)

  first-kept : (frame : List Entry) → first_of (frame_with choice frame)
      ≡ option_map (entry_with choice) (first_of frame)
  first-kept [] = refl
  first-kept (entry ∷ rest) = refl

  -- the next entry is that of the program with the chosen lists
  pub next-kept : (place : Place) → next_in (place_with choice place) ≡ option_map (entry_with choice) (next_in place)
  next-kept [] = refl
  next-kept (frame ∷ callers) = first-kept frame

  number-next : (next : Option Entry) → option_map entry_number (option_map (entry_with choice) next)
      ≡ option_map entry_number next
  number-next None = refl
  number-next (Some entry) = ap (λ (number : ℕ). Some number) (number-kept entry)

  -- and has the same number
  pub number-at-kept : (stand : Stand) → number_at (stand_with choice stand) ≡ number_at stand
  number-at-kept stand = ap (option_map entry_number) (next-kept stand.place) ∙ number-next (next_in stand.place)

  changed-layer : (number : ℕ) (layer : What-F What Statement)
      → changed_by (layer_with choice number layer) ≡ changed_by layer
  changed-layer number (What-F.Checkpoint items files) = refl
  changed-layer number _ = refl

  after-layer : (dues : Dues) (number : ℕ) (layer : What-F What Statement)
      → after_statement dues (layer_with choice number layer) ≡ after_statement dues layer
  after-layer dues number (What-F.Checkpoint items files) = refl
  after-layer dues number _ = refl

  after-kept : (dues : Dues) (entry : Entry) → after_entry dues (entry_with choice entry) ≡ after_entry dues entry
  after-kept dues (Run statement) = ap (after_statement dues) (layer-is choice statement.number statement.what)
      ∙ after-layer dues statement.number (out-What statement.what)
  after-kept dues (Test statement) = refl
  after-kept dues (Last statement) =
      ap (λ (layer : What-F What Statement). with_changed (changed_by layer) dues)
      (layer-is choice statement.number statement.what)
      ∙ ap (λ (globals : List ℕ). with_changed globals dues) (changed-layer statement.number (out-What statement.what))

  target-layer : (number : ℕ) (layer : What-F What Statement)
      → target_of (layer_with choice number layer) ≡ target_of layer
  target-layer number (What-F.Checkpoint items files) = refl
  target-layer number _ = refl

  return-kept : (entry : Option Entry) → changed_by_return (option_map (entry_with choice) entry)
      ≡ changed_by_return entry
  return-kept None = refl
  return-kept (Some (Run statement)) = ap target_of (layer-is choice statement.number statement.what)
      ∙ target-layer statement.number (out-What statement.what)
  return-kept (Some (Test statement)) = refl
  return-kept (Some (Last statement)) = refl

  -- Places

  mutual
    runs-row : {n : _} (row : Row_of-Statement n) → runs_row (row_with choice row) ≡ frame_with choice (runs_row row)
    runs-row end_of-Statement = refl
    runs-row (more_of-Statement number line what rest) =
        let self : Statement = record { number = number; line = line; what = what } in
        ap₂ (λ (before later : List Entry). before ++ (Run (statement_with choice self) ∷ later))
        (runs-first number what) (runs-row rest)
        ∙ sym (map-append (entry_with choice) (runs_before what) (Run self ∷ runs_row rest))

    runs-first : (number : ℕ) (what : What)
        → runs_before (what_with choice number what) ≡ frame_with choice (runs_before what)
    runs-first number (DoUntil' s body test) = runs-row body
    runs-first number (If' test s first t second) = refl
    runs-first number (While' test s body) = refl
    runs-first number (For' variable from to down step s body last) = refl
    runs-first number (Assign to value) = refl
    runs-first number (AssignCall to procedure arguments) = refl
    runs-first number (Call procedure arguments) = refl
    runs-first number (Return value) = refl
    runs-first number (ReadUpdate buffer most got) = refl
    runs-first number (Reply buffer count) = refl
    runs-first number (WriteRead file buffer send room got) = refl
    runs-first number (Checkpoint items files) = refl
    runs-first number CheckMonitor = refl
    runs-first number (Open file) = refl
    runs-first number Stop = refl

  runs-kept : (body : List Statement) → runs_of (body_with choice body) ≡ frame_with choice (runs_of body)
  runs-kept body = ap (λ (row : Row). runs_row row.1) (sym (row-is choice body)) ∙ runs-row (rows body)

  runs-before : (body : List Statement) (rest : List Entry)
      → runs_of (body_with choice body) ++ frame_with choice rest ≡ frame_with choice (runs_of body ++ rest)
  runs-before body rest = ap (λ (runs : List Entry). runs ++ frame_with choice rest) (runs-kept body)
      ∙ sym (map-append (entry_with choice) (runs_of body) rest)

  drop-kept : (frame : List Entry) → drop 1 (frame_with choice frame) ≡ frame_with choice (drop 1 frame)
  drop-kept [] = refl
  drop-kept (entry ∷ rest) = refl

  stand-at-kept : (frame : List Entry) (callers : Place) (dues : Dues)
      → stand_at (frame_with choice frame) (place_with choice callers) dues
      ≡ stand_with choice (stand_at frame callers dues)
  stand-at-kept (entry ∷ rest) callers dues = refl
  stand-at-kept [] [] dues = refl
  stand-at-kept [] (caller ∷ callers) dues =
      ap₂ (λ (frame : List Entry) (globals : List ℕ). stand_at frame (place_with choice callers)
      (with_changed globals dues)) (drop-kept caller)
      (ap changed_by_return (first-kept caller) ∙ return-kept (first_of caller))
      ∙ stand-at-kept (drop 1 caller) callers (with_changed (changed_by_return (first_of caller)) dues)

  settled-kept : (dues : Dues) (place : Place)
      → settled dues (place_with choice place) ≡ stand_with choice (settled dues place)
  settled-kept dues [] = refl
  settled-kept dues (frame ∷ callers) = stand-at-kept frame callers dues

  all-settled : (dues : Dues) (places : List Place)
      → map (settled dues) (map (place_with choice) places) ≡ map (stand_with choice) (map (settled dues) places)
  all-settled dues [] = refl
  all-settled dues (place ∷ places) =
      ap₂ (λ (stand : Stand) (stands : List Stand). stand ∷ stands) (settled-kept dues place) (all-settled dues places)

  module _ (program : Program) where
    abbrev chosen : Program
    chosen = with_choice program choice

    body-kept : (procedure : Option Procedure)
        → body_in (option_map (procedure_with choice) procedure) ≡ frame_with choice (body_in procedure)
    body-kept None = refl
    body-kept (Some procedure) = runs-kept procedure.body

    called-kept : (procedure : ℕ) → body_of chosen procedure ≡ frame_with choice (body_of program procedure)
    called-kept procedure = ap body_in (slice_get-map (procedure_with choice) program.procedures procedure)
        ∙ body-kept (slice_get program.procedures procedure)

    ways-layer : (self : Statement) (rest : List Entry) (callers : Place) (layer : What-F What Statement)
        → ways_of chosen (statement_with choice self) (frame_with choice rest) (place_with choice callers)
        (layer_with choice self.number layer)
        ≡ map (place_with choice) (ways_of program self rest callers layer)
    ways-layer self rest callers (What-F.If test first second) =
        ap₂ (λ (one other : List Entry). (one ∷ place_with choice callers) ∷ (other ∷ place_with choice callers) ∷ [])
        (runs-before first rest) (runs-before second rest)
    ways-layer self rest callers (What-F.While test body) =
        ap (λ (one : List Entry). (one ∷ place_with choice callers)
        ∷ (frame_with choice rest ∷ place_with choice callers) ∷ []) (runs-before body (Run self ∷ rest))
    ways-layer self rest callers (What-F.DoUntil body test) =
        ap (λ (one : List Entry). (frame_with choice rest ∷ place_with choice callers)
        ∷ (one ∷ place_with choice callers) ∷ []) (runs-before body (Run self ∷ rest))
    ways-layer self rest callers (What-F.AssignCall to procedure arguments) =
        ap (λ (one : List Entry). (one ∷ frame_with choice (Run self ∷ rest) ∷ place_with choice callers) ∷ [])
        (called-kept procedure)
    ways-layer self rest callers (What-F.Call procedure arguments) =
        ap (λ (one : List Entry). (one ∷ frame_with choice (Run self ∷ rest) ∷ place_with choice callers) ∷ [])
        (called-kept procedure)
    ways-layer self rest callers _ = refl

    rounds-layer : (self : Statement) (rest : List Entry) (callers : Place) (layer : What-F What Statement)
        → rounds_of (statement_with choice self) (frame_with choice rest) (place_with choice callers)
        (layer_with choice self.number layer)
        ≡ map (place_with choice) (rounds_of self rest callers layer)
    rounds-layer self rest callers (What-F.For variable from to down step body last) =
        ap (λ (one : List Entry). (one ∷ place_with choice callers)
        ∷ (frame_with choice rest ∷ place_with choice callers) ∷ [])
        (runs-before body (Last self ∷ Test self ∷ rest))
    rounds-layer self rest callers _ = refl

    ways-kept : (entry : Entry) (rest : List Entry) (callers : Place)
        → ways chosen (entry_with choice entry) (frame_with choice rest) (place_with choice callers)
        ≡ map (place_with choice) (ways program entry rest callers)
    ways-kept (Run self) rest callers =
        ap (ways_of chosen (statement_with choice self) (frame_with choice rest) (place_with choice callers))
        (layer-is choice self.number self.what)
        ∙ ways-layer self rest callers (out-What self.what)
    ways-kept (Test self) rest callers =
        ap (rounds_of (statement_with choice self) (frame_with choice rest) (place_with choice callers))
        (layer-is choice self.number self.what)
        ∙ rounds-layer self rest callers (out-What self.what)
    ways-kept (Last self) rest callers = refl

    stands-kept : (dues : Dues) (place : Place)
        → stands_after chosen dues (place_with choice place) ≡ map (stand_with choice) (stands_after program dues place)
    stands-kept dues [] = refl
    stands-kept dues ([] ∷ callers) = refl
    stands-kept dues ((entry ∷ rest) ∷ callers) =
        ap₂ (λ (later : Dues) (places : List Place). map (settled later) places) (after-kept dues entry)
        (ways-kept entry rest callers)
        ∙ all-settled (after_entry dues entry) (ways program entry rest callers)

    successors-kept : (stand : Stand) → successors chosen (stand_with choice stand)
        ≡ map (stand_with choice) (successors program stand)
    successors-kept stand = stands-kept stand.dues stand.place

    first-stand-kept : first_stand chosen ≡ stand_with choice (first_stand program)
    first-stand-kept = ap (λ (body : List Entry). stand_at body [] no_dues) (called-kept program.main)
        ∙ stand-at-kept (body_of program program.main) [] no_dues

    -- Walks

    walks-chosen : (path : List ℕ) (here there : Stand) → Walks program here path there
        → Walks chosen (stand_with choice here) path (stand_with choice there)
    walks-chosen [] here there same = ap (stand_with choice) same
    walks-chosen (number ∷ path) here there walk = (
      stand_with choice walk.0,
      record {
        next = number-at-kept here ∙ walk.1.next;
        leads = subst (λ (stands : List Stand). IsAmong (stand_with choice walk.0) stands) (sym (successors-kept here))
            (among-mapped (stand_with choice) walk.0 (successors program here) walk.1.leads);
      },
      walks-chosen path walk.0 there walk.2,
    )

    walks-own : (path : List ℕ) (here there : Stand) → Walks chosen (stand_with choice here) path there
        → (own : Stand) × Walks program here path own × (there ≡ stand_with choice own)
    walks-own [] here there same = (here, refl, sym same)
    walks-own (number ∷ path) here there walk =
        let found = one-mapped (stand_with choice) walk.0 (successors program here)
        (subst (λ (stands : List Stand). IsAmong walk.0 stands) (successors-kept here) walk.1.leads) in
        let later = walks-own path found.0 there
        (subst (λ (stand : Stand). Walks chosen stand path there) found.2 walk.2) in (
          later.0,
          (found.0, record { next = sym (number-at-kept here) ∙ walk.1.next; leads = found.1 }, later.1),
          later.2,
        )

    -- a path of the program is one with the choice, and leads to the same place but for what is named, with the same
    -- dues
    pub leads-chosen : (path : List ℕ) (there : Stand) → Leads program path there
        → Leads chosen path (stand_with choice there)
    leads-chosen path there walk =
        subst (λ (stand : Stand). Walks chosen stand path (stand_with choice there)) (sym first-stand-kept)
        (walks-chosen path (first_stand program) there walk)

    -- and there is no other path with the choice
    pub leads-own : (path : List ℕ) (there : Stand) → Leads chosen path there
        → (own : Stand) × Leads program path own × (there ≡ stand_with choice own)
    leads-own path there walk = walks-own path (first_stand program) there
        (subst (λ (stand : Stand). Walks chosen stand path there) first-stand-kept walk)
