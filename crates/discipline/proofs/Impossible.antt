-- Of a regular program nothing is due but its own globals and files.
use Rattle.std.proofs.Common.{◌≡◌, ◌≤◌, ◌<◌, inl, inr, ◌⊎◌, ℕ, suc, ◌&&◌, Bool, false, arith, List, [], ◌∷◌, drop}
use Rattle.std.proofs.Common.{length, Option, Some, None, slice_get, refl, ap, subst, sym, ◌∙◌}
use Rattle.std.specs.Prelude.{cond, min, nat_le, is_some}
use Rattle.std.proofs.lemmas.Option.{slice_get_within, slice_get_past}
use Rattle.gd_words.specs.Members.{IsAmong, is_among}
use Rattle.gd_words.proofs.Among.{among-either, among-one}
use Rattle.gd_words.proofs.AmongTest.{not_among}
use Rattle.tal_tree.specs.Named.{IsSimple, IsArray, IsProcess, IsVariableThere, IsSpotThere}
use Rattle.tal_tree.specs.Regular.{IsRegular, IsRegularStatement}
use Rattle.tal_tree.specs.Statements.{all_of}
use Rattle.tal_tree.specs.declared.expression.Spot.{Spot, Local, Simple, Element}
use Rattle.tal_tree.specs.declared.expression.Variable.{Variable}
use Rattle.tal_tree.specs.declared.expression.Variable.TheVariants as variable
use Rattle.tal_tree.specs.declared.program.Procedure.{Procedure}
use Rattle.tal_tree.specs.declared.program.Program.{Program}
use Rattle.tal_tree.specs.declared.statement.Statement.{Statement}
use Rattle.tal_tree.specs.declared.statement.What.{What, What-F, out-What}
use Rattle.process_semantics.specs.State.{Entry, Run, Test, Last, first_of}
use Rattle.path_semantics.specs.declared.dues.Dues.{Dues}
use Rattle.path_semantics.specs.declared.reason.Reason.{Reason}
use Rattle.path_semantics.specs.declared.reason.Reason.TheVariants.{Data, SyncBlock, Depth}
use Rattle.path_semantics.specs.Break.{Breaks, breaks_entry, breaks_at}
use Rattle.path_semantics.specs.Dues.{no_dues, with_changed, with_effects, after_statement, after_entry, global_of_spot}
use Rattle.path_semantics.specs.Dues.{global_of, changed_by, asked_by, target_of, changed_by_return}
use Rattle.path_semantics.specs.Path.{Walks, Leads}
use Rattle.path_semantics.specs.Place.{Place, Stand, body_of, next_in, stand_at, settled, ways, stands_after}
use Rattle.path_semantics.specs.Place.{first_stand}
use Rattle.path_semantics.proofs.Entries.{HoldsOf, HoldsFor, HoldsAt, entries-kept}
use Rattle.path_semantics.proofs.Kept.{IsKept, one-mapped, kept-after, kept-led}
use Rattle.due_search.specs.reason_dues.specs.Amounts.{amount, most_of, may_break_at, breaks_with}
use Rattle.discipline.proofs.Cut.{breaks-is}
use Rattle.discipline.proofs.Idle.{never, and-false, none-due}

-- there are so many globals, and so many files
module _ (items files : ℕ) where
  -- what a statement may change or ask is there
  record TouchesOwn (what : What-F What Statement) : Type 0 where
    changed : (item : ℕ) → IsAmong item (changed_by what) → item < items
    target : (item : ℕ) → IsAmong item (target_of what) → item < items
    asked : (file : ℕ) → IsAmong file (asked_by what) → file < files

  abbrev Own : Statement → Type 0
  Own statement = TouchesOwn (out-What statement.what)

  pub record AreOwn (dues : Dues) : Type 0 where
    pub globals : (item : ℕ) → IsAmong item dues.globals → item < items
    pub asked : (file : ℕ) → IsAmong file dues.asked → file < files

  changed-own : (more : List ℕ) (dues : Dues) → ((item : ℕ) → IsAmong item more → item < items) → AreOwn dues
      → AreOwn (with_changed more dues)
  changed-own more dues there own = record {
    globals = λ item among. either item (among-either item dues.globals more among);
    asked = own.asked;
  }
    where
      either : (item : ℕ) → IsAmong item dues.globals ⊎ IsAmong item more → item < items
      either item (inl before) = own.globals item before
      either item (inr new) = there item new

  effects-own : (dues : Dues) (what : What-F What Statement) → TouchesOwn what → AreOwn dues
      → AreOwn (with_effects dues what)
  effects-own dues what touches own = record {
    globals = λ item among. either item (among-either item dues.globals (changed_by what) among);
    asked = λ file among. either_file file (among-either file dues.asked (asked_by what) among);
  }
    where
      either : (item : ℕ) → IsAmong item dues.globals ⊎ IsAmong item (changed_by what) → item < items
      either item (inl before) = own.globals item before
      either item (inr new) = touches.changed item new

      either_file : (file : ℕ) → IsAmong file dues.asked ⊎ IsAmong file (asked_by what) → file < files
      either_file file (inl before) = own.asked file before
      either_file file (inr new) = touches.asked file new

  none-own : AreOwn no_dues
  none-own = record { globals = λ item among. absurd among; asked = λ file among. absurd among }

  statement-own : (dues : Dues) (what : What-F What Statement) → TouchesOwn what → AreOwn dues
      → AreOwn (after_statement dues what)
  statement-own dues (What-F.Checkpoint _ _) touches own = none-own
  statement-own dues (What-F.Assign _ _) touches own = effects-own dues _ touches own
  statement-own dues (What-F.AssignCall _ _ _) touches own = effects-own dues _ touches own
  statement-own dues (What-F.If _ _ _) touches own = effects-own dues _ touches own
  statement-own dues (What-F.While _ _) touches own = effects-own dues _ touches own
  statement-own dues (What-F.DoUntil _ _) touches own = effects-own dues _ touches own
  statement-own dues (What-F.For _ _ _ _ _ _ _) touches own = effects-own dues _ touches own
  statement-own dues (What-F.Call _ _) touches own = effects-own dues _ touches own
  statement-own dues (What-F.Return _) touches own = effects-own dues _ touches own
  statement-own dues (What-F.ReadUpdate _ _ _) touches own = effects-own dues _ touches own
  statement-own dues (What-F.Reply _ _) touches own = effects-own dues _ touches own
  statement-own dues (What-F.WriteRead _ _ _ _ _) touches own = effects-own dues _ touches own
  statement-own dues What-F.CheckMonitor touches own = effects-own dues _ touches own
  statement-own dues (What-F.Open _) touches own = effects-own dues _ touches own
  statement-own dues What-F.Stop touches own = effects-own dues _ touches own

  entry-own : (dues : Dues) (entry : Entry) → HoldsOf Own entry → AreOwn dues → AreOwn (after_entry dues entry)
  entry-own dues (Run statement) holds own =
      statement-own dues (out-What statement.what) (holds statement (inl refl)) own
  entry-own dues (Test statement) holds own = own
  entry-own dues (Last statement) holds own =
      changed-own (changed_by (out-What statement.what)) dues (holds statement (inl refl)).changed own

  -- the global that a call gives a value to
  return-own : (frame : List Entry) → HoldsFor Own frame → (item : ℕ)
      → IsAmong item (changed_by_return (first_of frame)) → item < items
  return-own [] holds item among = absurd among
  return-own (Run statement ∷ rest) holds item among = (holds.0 statement (inl refl)).target item among
  return-own (Test statement ∷ rest) holds item among = absurd among
  return-own (Last statement ∷ rest) holds item among = absurd among

  module _ (program : Program) (kept : IsKept program (HoldsAt Own)) where
    at-own : (frame : List Entry) (callers : Place) (dues : Dues) → HoldsAt Own (frame ∷ callers) → AreOwn dues
        → AreOwn (stand_at frame callers dues).dues
    at-own (entry ∷ rest) callers dues holds own = own
    at-own [] [] dues holds own = own
    at-own [] (caller ∷ callers) dues holds own =
        at-own (drop 1 caller) callers (with_changed (changed_by_return (first_of caller)) dues)
        (kept.leaving caller callers holds)
        (changed-own (changed_by_return (first_of caller)) dues (return-own caller holds.1.0) own)

    settled-own : (dues : Dues) (place : Place) → HoldsAt Own place → AreOwn dues → AreOwn (settled dues place).dues
    settled-own dues [] holds own = own
    settled-own dues (frame ∷ callers) holds own = at-own frame callers dues holds own

    after-own : (dues : Dues) (place : Place) (there : Stand) → HoldsAt Own place → AreOwn dues
        → IsAmong there (stands_after program dues place) → AreOwn there.dues
    after-own dues [] there holds own among = absurd among
    after-own dues ([] ∷ callers) there holds own among = absurd among
    after-own dues ((entry ∷ rest) ∷ callers) there holds own among =
        let found = one-mapped (settled (after_entry dues entry)) there (ways program entry rest callers) among in
        subst (λ (s : Stand). AreOwn s.dues) (sym found.2)
        (settled-own (after_entry dues entry) found.0 (kept.way entry rest callers found.0 holds found.1)
        (entry-own dues entry holds.0.0 own))

    along-own : (path : List ℕ) (here there : Stand) → HoldsAt Own here.place → AreOwn here.dues
        → Walks program here path there → AreOwn there.dues
    along-own [] here there holds own same = subst (λ (s : Stand). AreOwn s.dues) same own
    along-own (number ∷ path) here there holds own walk =
        along-own path walk.0 there (kept-after program (HoldsAt Own) kept here.dues here.place walk.0 holds
        walk.1.leads)
        (after-own here.dues here.place walk.0 holds own walk.1.leads) walk.2

    led-own : (path : List ℕ) (there : Stand) → Leads program path there → AreOwn there.dues
    led-own path there leads =
        along-own path (first_stand program) there (kept-led program (HoldsAt Own) kept [] (first_stand program) refl)
        (at-own (body_of program program.main) [] no_dues kept.first none-own) leads

-- A regular program names only what is there

simple-there : (program : Program) (k item : ℕ) → IsSimple program k → IsAmong item (k ∷ [])
    → item < length program.items
simple-there program k item is among =
    among-one (λ n. n < length program.items) item k among (slice_get_within program.items k _ is.there)

array-there : (program : Program) (k item : ℕ) → IsArray program k → IsAmong item (k ∷ []) → item < length program.items
array-there program k item is among =
    among-one (λ n. n < length program.items) item k among (slice_get_within program.items k _ is.there)

process-there : (program : Program) (k file : ℕ) → IsProcess program k → IsAmong file (k ∷ [])
    → file < length program.files
process-there program k file is among =
    among-one (λ n. n < length program.files) file k among (slice_get_within program.files k _ is.there)

spot-there : (program : Program) (locals : ℕ) (spot : Spot) → IsSpotThere program locals spot → (item : ℕ)
    → IsAmong item (global_of_spot spot) → item < length program.items
spot-there program locals (Local k) is item among = absurd among
spot-there program locals (Simple k) is item among = simple-there program k item is among
spot-there program locals (Element k index) is item among = array-there program k item is.0 among

variable-there : (program : Program) (locals : ℕ) (v : Variable) → IsVariableThere program locals v → (item : ℕ)
    → IsAmong item (global_of v) → item < length program.items
variable-there program locals (variable.Local k) is item among = absurd among
variable-there program locals (variable.Simple k) is item among = simple-there program k item is among

both-there : (program : Program) (locals buffer : ℕ) (v : Variable) → IsArray program buffer
    → IsVariableThere program locals v → (item : ℕ) → IsAmong item (buffer ∷ global_of v) → item < length program.items
both-there program locals buffer v array is item (inl same) = array-there program buffer item array (inl same)
both-there program locals buffer v array is item (inr among) = variable-there program locals v is item among

no-one : (P : ℕ → Type 0) (n : ℕ) → IsAmong n [] → P n
no-one P n among = absurd among

touches-own : (program : Program) (locals : ℕ) (gives : Bool) (what : What-F What Statement)
    → IsRegularStatement program locals gives what
    → TouchesOwn (length program.items) (length program.files) what
touches-own program locals gives (What-F.Assign to value) is =
    record {
      changed = spot-there program locals to is.0;
      target = λ item among. absurd among;
      asked = λ file among. absurd among;
    }
touches-own program locals gives (What-F.AssignCall to procedure arguments) is =
    record {
      changed = λ item among. absurd among;
      target = spot-there program locals to is.0;
      asked = λ file among. absurd among;
    }
touches-own program locals gives (What-F.For variable from to down step body last) is =
    record {
      changed = variable-there program locals variable is.0;
      target = λ item among. absurd among;
      asked = λ file among. absurd among;
    }
touches-own program locals gives (What-F.ReadUpdate buffer most got) is =
    record {
      changed = both-there program locals buffer got is.0 is.1.1;
      target = λ item among. absurd among;
      asked = λ file among. absurd among;
    }
touches-own program locals gives (What-F.WriteRead file buffer send room got) is =
    record {
      changed = both-there program locals buffer got is.1.0 is.1.1.1.1;
      target = λ item among. absurd among;
      asked = λ other among. process-there program file other is.0 among;
    }
touches-own program locals gives (What-F.If test first second) is =
    record {
      changed = λ item among. absurd among;
      target = λ item among. absurd among;
      asked = λ file among. absurd among;
    }
touches-own program locals gives (What-F.While test body) is =
    record {
      changed = λ item among. absurd among;
      target = λ item among. absurd among;
      asked = λ file among. absurd among;
    }
touches-own program locals gives (What-F.DoUntil body test) is =
    record {
      changed = λ item among. absurd among;
      target = λ item among. absurd among;
      asked = λ file among. absurd among;
    }
touches-own program locals gives (What-F.Call procedure arguments) is =
    record {
      changed = λ item among. absurd among;
      target = λ item among. absurd among;
      asked = λ file among. absurd among;
    }
touches-own program locals gives (What-F.Return value) is =
    record {
      changed = λ item among. absurd among;
      target = λ item among. absurd among;
      asked = λ file among. absurd among;
    }
touches-own program locals gives (What-F.Reply buffer count) is =
    record {
      changed = λ item among. absurd among;
      target = λ item among. absurd among;
      asked = λ file among. absurd among;
    }
touches-own program locals gives (What-F.Checkpoint items files) is =
    record {
      changed = λ item among. absurd among;
      target = λ item among. absurd among;
      asked = λ file among. absurd among;
    }
touches-own program locals gives What-F.CheckMonitor is =
    record {
      changed = λ item among. absurd among;
      target = λ item among. absurd among;
      asked = λ file among. absurd among;
    }
touches-own program locals gives (What-F.Open file) is =
    record {
      changed = λ item among. absurd among;
      target = λ item among. absurd among;
      asked = λ file among. absurd among;
    }
touches-own program locals gives What-F.Stop is =
    record {
      changed = λ item among. absurd among;
      target = λ item among. absurd among;
      asked = λ file among. absurd among;
    }

place-of : (x : Procedure) (xs : List Procedure) → IsAmong x xs → (k : ℕ) × (slice_get xs k ≡ Some x)
place-of x [] among = absurd among
place-of x (y ∷ xs) (inl same) = (0, ap Some (sym same))
place-of x (y ∷ xs) (inr among) = let later = place-of x xs among in (suc later.0, later.1)

all-own : (program : Program) → IsRegular program → (procedure : Procedure) (statement : Statement)
    → IsAmong procedure program.procedures → IsAmong statement (all_of procedure.body)
    → Own (length program.items) (length program.files) statement
all-own program regular procedure statement among inner =
    let at = place-of procedure program.procedures among in
    touches-own program (length procedure.locals) procedure.gives (out-What statement.what)
    ((regular.procedures at.0 procedure at.1).statements statement inner)

-- what is due where a path leads is of the program's own globals and files
pub dues-own : (program : Program) → IsRegular program → (path : List ℕ) (stand : Stand) → Leads program path stand
    → AreOwn (length program.items) (length program.files) stand.dues
dues-own program regular path stand leads =
    led-own (length program.items) (length program.files) program
    (entries-kept (Own (length program.items) (length program.files)) program (all-own program regular)) path stand
    leads

-- what isn't there is no reason
at-none : (program : Program) (reason : Reason) (dues : Dues) (place : Place) → 1 ≤ most_of program reason
    → amount reason dues ≡ 0 → breaks_entry program reason dues (next_in place) ≡ false
at-none program reason dues place some none = by_next (next_in place)
  where
    by_next : (next : Option Entry) → breaks_entry program reason dues next ≡ false
    by_next None = refl
    by_next (Some entry) =
        breaks-is program reason dues entry ∙ ap (breaks_with program reason entry)
        (ap (min (most_of program reason)) none ∙ (omega arith)) ∙ none-due program reason entry some

pub no-item : (program : Program) (item : ℕ) → IsRegular program → length program.items ≤ item → (path : List ℕ)
    → Breaks program path (Data item) → ⊥
no-item program item regular past path broken =
    let own = dues-own program regular broken.front broken.stand broken.leads in
    let none : is_among item broken.stand.dues.globals ≡ false =
    not_among item broken.stand.dues.globals
    (λ among. let below : item < length program.items = own.globals item among in absurd (omega arith)) in
    never (breaks_at program (Data item) broken.stand) broken.breaks
    (at-none program (Data item) broken.stand.dues broken.stand.place (omega arith)
    (ap (λ (b : Bool). cond b 1 0) none))

pub no-file : (program : Program) (file : ℕ) → IsRegular program → length program.files ≤ file → (path : List ℕ)
    → Breaks program path (SyncBlock file) → ⊥
no-file program file regular past path broken =
    let own = dues-own program regular broken.front broken.stand broken.leads in
    let none : is_among file broken.stand.dues.asked ≡ false =
    not_among file broken.stand.dues.asked (λ among. let below : file < length program.files = own.asked file among in
    absurd (omega arith)) in
    never (breaks_at program (SyncBlock file) broken.stand) broken.breaks
    (at-none program (SyncBlock file) broken.stand.dues broken.stand.place (omega arith)
    (ap (λ (b : Bool). cond b 1 0) none))

pub no-depth : (program : Program) (file : ℕ) → length program.files ≤ file → (path : List ℕ)
    → Breaks program path (Depth file) → ⊥
no-depth program file past path broken =
    never (breaks_at program (Depth file) broken.stand) broken.breaks (by_next (next_in broken.stand.place))
  where
    by_next : (next : Option Entry) → breaks_entry program (Depth file) broken.stand.dues next ≡ false
    by_next None = refl
    by_next (Some entry) =
        breaks-is program (Depth file) broken.stand.dues entry
        ∙ ap (λ (b : Bool). may_break_at (Depth file) entry
        && (b && nat_le (most_of program (Depth file))
        (min (most_of program (Depth file)) (amount (Depth file) broken.stand.dues))))
        (ap is_some (slice_get_past program.files file past)) ∙ and-false (may_break_at (Depth file) entry)
