-- In a regular program what is due are globals that have words and files that are opened to a process, and only such
-- files are asked.
use Rattle.std.proofs.Common.{◌≡◌, inl, inr, ℕ, suc, Bool, IsTrue, List, [], ◌∷◌, ◌++◌, drop, slice_get, length, Some}
use Rattle.std.proofs.Common.{refl, ap, subst, sym}
use Rattle.gd_words.specs.Members.{IsAmong}
use Rattle.gd_words.proofs.Among.{among-either, among-one}
use Rattle.gd_words.proofs.AmongTest.{among_there}
use Rattle.tal_tree.specs.Named.{IsSimple, IsArray, IsProcess, IsVariableThere, IsSpotThere}
use Rattle.tal_tree.specs.Regular.{IsRegular, IsRegularStatement, MayBeListed}
use Rattle.tal_tree.specs.Statements.{all_of}
use Rattle.tal_tree.specs.declared.expression.Spot.{Spot, Local, Simple, Element}
use Rattle.tal_tree.specs.declared.expression.Variable.{Variable}
use Rattle.tal_tree.specs.declared.expression.Variable.TheVariants as variable
use Rattle.tal_tree.specs.declared.program.Procedure.{Procedure}
use Rattle.tal_tree.specs.declared.program.Program.{Program}
use Rattle.tal_tree.specs.declared.program.Shape.TheVariants as shape
use Rattle.tal_tree.specs.declared.statement.Statement.{Statement}
use Rattle.tal_tree.specs.declared.statement.What.{What, What-F, out-What}
use Rattle.process_semantics.specs.State.{Entry, Run, Test, Last, first_of}
use Rattle.path_semantics.specs.declared.dues.Dues.{Dues}
use Rattle.path_semantics.specs.Dues.{no_dues, with_changed, global_of_spot, global_of, changed_by, asked_by}
use Rattle.path_semantics.specs.Dues.{with_effects, after_statement, after_entry, target_of, changed_by_return}
use Rattle.path_semantics.specs.Path.{Walks, Leads}
use Rattle.path_semantics.specs.Place.{Place, Stand, next_in, body_of, ways, stand_at, settled, stands_after}
use Rattle.path_semantics.specs.Place.{first_stand}
use Rattle.path_semantics.proofs.Entries.{HoldsFor, HoldsAt, entries-kept}
use Rattle.path_semantics.proofs.Kept.{IsKept, one-mapped, kept-after, kept-led}
use Rattle.advice.specs.Due.{is_ask, is_ask_next, IsItemDue, IsFileDue, IsAskedAfter}
use Rattle.advice_laws.proofs.Breaking.{never, same-number}

-- where one of these stands
pub place-of : {A : Type 0} (x : A) (xs : List A) → IsAmong x xs → (place : ℕ) × (slice_get xs place ≡ Some x)
place-of x [] among = absurd among
place-of x (y ∷ ys) (inl same) = (0, ap Some (sym same))
place-of x (y ∷ ys) (inr among) = let found = place-of x ys among in (suc found.0, found.1)

module _ (program : Program) where
  abbrev AreListable : List ℕ → Type 0
  AreListable items = (item : ℕ) → IsAmong item items → MayBeListed program item

  abbrev AreProcesses : List ℕ → Type 0
  AreProcesses files = (file : ℕ) → IsAmong file files → IsProcess program file

  more-listable : (items more : List ℕ) → AreListable items → AreListable more → AreListable (items ++ more)
  more-listable items more all later item among =
      elim (among-either item items more among) [ inl before ↦ all item before | inr behind ↦ later item behind ]

  more-processes : (files more : List ℕ) → AreProcesses files → AreProcesses more → AreProcesses (files ++ more)
  more-processes files more all later file among =
      elim (among-either file files more among) [ inl before ↦ all file before | inr behind ↦ later file behind ]

  simple-listable : (item : ℕ) → IsSimple program item → AreListable (item ∷ [])
  simple-listable item simple one among =
      among-one (MayBeListed program) one item among
      (record { item = record { name = simple.name; shape = shape.Simple }; there = simple.there; words = refl })

  array-listable : (item : ℕ) → IsArray program item → AreListable (item ∷ [])
  array-listable item array one among = among-one (MayBeListed program) one item among
      (record {
        item = record { name = array.name; shape = shape.Array array.low array.high };
        there = array.there;
        words = refl;
      })

  module _ (locals : ℕ) where
    spot-listable : (spot : Spot) → IsSpotThere program locals spot → AreListable (global_of_spot spot)
    spot-listable (Local place) there item among = absurd among
    spot-listable (Simple name) there item among = simple-listable name there item among
    spot-listable (Element name index) there item among = array-listable name there.0 item among

    variable-listable : (one : Variable) → IsVariableThere program locals one → AreListable (global_of one)
    variable-listable (variable.Local place) there item among = absurd among
    variable-listable (variable.Simple name) there item among = simple-listable name there item among

    buffer-listable : (buffer : ℕ) (got : Variable) → IsArray program buffer → IsVariableThere program locals got
        → AreListable (buffer ∷ global_of got)
    buffer-listable buffer got array there =
        more-listable (buffer ∷ []) (global_of got) (array-listable buffer array) (variable-listable got there)

  -- what a statement changes and asks
  record IsSound (layer : What-F What Statement) : Type 0 where
    changed : AreListable (changed_by layer)
    target : AreListable (target_of layer)
    asked : AreProcesses (asked_by layer)
    asks : (file : ℕ) → IsTrue (is_ask file layer) → IsProcess program file

  regular-sound : (locals : ℕ) (gives : Bool) (layer : What-F What Statement)
      → IsRegularStatement program locals gives layer → IsSound layer
  regular-sound locals gives (What-F.Assign to value) regular =
      record {
        changed = spot-listable locals to regular.0;
        target = λ item among. absurd among;
        asked = λ file among. absurd among;
        asks = λ file is. never is;
      }
  regular-sound locals gives (What-F.AssignCall to procedure arguments) regular =
      record {
        changed = λ item among. absurd among;
        target = spot-listable locals to regular.0;
        asked = λ file among. absurd among;
        asks = λ file is. never is;
      }
  regular-sound locals gives (What-F.For one from to down step body last) regular =
      record {
        changed = variable-listable locals one regular.0;
        target = λ item among. absurd among;
        asked = λ file among. absurd among;
        asks = λ file is. never is;
      }
  regular-sound locals gives (What-F.ReadUpdate buffer most got) regular =
      record {
        changed = buffer-listable locals buffer got regular.0 regular.1.1;
        target = λ item among. absurd among;
        asked = λ file among. absurd among;
        asks = λ file is. never is;
      }
  regular-sound locals gives (What-F.WriteRead asked buffer send room got) regular =
      record {
        changed = buffer-listable locals buffer got regular.1.0 regular.1.1.1.1;
        target = λ item among. absurd among;
        asked = λ file among. among-one (IsProcess program) file asked among regular.0;
        asks = λ file is. subst (IsProcess program) (same-number asked file is) regular.0;
      }
  regular-sound locals gives _ regular =
      record {
        changed = λ item among. absurd among;
        target = λ item among. absurd among;
        asked = λ file among. absurd among;
        asks = λ file is. never is;
      }

  abbrev Sound : Statement → Type 0
  Sound statement = IsSound (out-What statement.what)

  all-sound : IsRegular program → (procedure : Procedure) (statement : Statement)
      → IsAmong procedure program.procedures → IsAmong statement (all_of procedure.body) → Sound statement
  all-sound regular procedure statement there within =
      let found = place-of procedure program.procedures there in
      regular-sound (length procedure.locals) procedure.gives (out-What statement.what)
      ((regular.procedures found.0 procedure found.1).statements statement within)

  record AreProper (dues : Dues) : Type 0 where
    globals : AreListable dues.globals
    asked : AreProcesses dues.asked

  none-proper : AreProper no_dues
  none-proper = record { globals = λ item among. absurd among; asked = λ file among. absurd among }

  changed-proper : (items : List ℕ) (dues : Dues) → AreListable items → AreProper dues
      → AreProper (with_changed items dues)
  changed-proper items dues listable proper =
      record { globals = more-listable dues.globals items proper.globals listable; asked = proper.asked }

  effects-proper : (dues : Dues) (layer : What-F What Statement) → IsSound layer → AreProper dues
      → AreProper (with_effects dues layer)
  effects-proper dues layer sound proper = record {
    globals = more-listable dues.globals (changed_by layer) proper.globals sound.changed;
    asked = more-processes dues.asked (asked_by layer) proper.asked sound.asked;
  }

  layer-proper : (dues : Dues) (layer : What-F What Statement) → IsSound layer → AreProper dues
      → AreProper (after_statement dues layer)
  layer-proper dues (What-F.Checkpoint items files) sound proper = none-proper
  layer-proper dues (What-F.Assign to value) sound proper = effects-proper dues (What-F.Assign to value) sound proper
  layer-proper dues (What-F.AssignCall to procedure arguments) sound proper =
      effects-proper dues (What-F.AssignCall to procedure arguments) sound proper
  layer-proper dues (What-F.If test first second) sound proper =
      effects-proper dues (What-F.If test first second) sound proper
  layer-proper dues (What-F.While test body) sound proper = effects-proper dues (What-F.While test body) sound proper
  layer-proper dues (What-F.DoUntil body test) sound proper =
      effects-proper dues (What-F.DoUntil body test) sound proper
  layer-proper dues (What-F.For one from to down step body last) sound proper =
      effects-proper dues (What-F.For one from to down step body last) sound proper
  layer-proper dues (What-F.Call procedure arguments) sound proper =
      effects-proper dues (What-F.Call procedure arguments) sound proper
  layer-proper dues (What-F.Return value) sound proper = effects-proper dues (What-F.Return value) sound proper
  layer-proper dues (What-F.ReadUpdate buffer most got) sound proper =
      effects-proper dues (What-F.ReadUpdate buffer most got) sound proper
  layer-proper dues (What-F.Reply buffer count) sound proper =
      effects-proper dues (What-F.Reply buffer count) sound proper
  layer-proper dues (What-F.WriteRead file buffer send room got) sound proper =
      effects-proper dues (What-F.WriteRead file buffer send room got) sound proper
  layer-proper dues What-F.CheckMonitor sound proper = effects-proper dues What-F.CheckMonitor sound proper
  layer-proper dues (What-F.Open file) sound proper = effects-proper dues (What-F.Open file) sound proper
  layer-proper dues What-F.Stop sound proper = effects-proper dues What-F.Stop sound proper

  entry-proper : (dues : Dues) (entry : Entry) (rest : List Entry) → HoldsFor Sound (entry ∷ rest) → AreProper dues
      → AreProper (after_entry dues entry)
  entry-proper dues (Run statement) rest holds proper =
      layer-proper dues (out-What statement.what) (holds.0 statement (inl refl)) proper
  entry-proper dues (Test statement) rest holds proper = proper
  entry-proper dues (Last statement) rest holds proper =
      changed-proper (changed_by (out-What statement.what)) dues ((holds.0 statement (inl refl)).changed) proper

  return-listable : (frame : List Entry) → HoldsFor Sound frame → AreListable (changed_by_return (first_of frame))
  return-listable [] holds item among = absurd among
  return-listable (Run statement ∷ rest) holds item among = (holds.0 statement (inl refl)).target item among
  return-listable (Test statement ∷ rest) holds item among = absurd among
  return-listable (Last statement ∷ rest) holds item among = absurd among

  dropped-holds : (frame : List Entry) → HoldsFor Sound frame → HoldsFor Sound (drop 1 frame)
  dropped-holds [] holds = tt
  dropped-holds (entry ∷ rest) holds = holds.1

  at-proper : (frame : List Entry) (callers : Place) (dues : Dues) → HoldsAt Sound callers → AreProper dues
      → AreProper (stand_at frame callers dues).dues
  at-proper (entry ∷ rest) callers dues holds proper = proper
  at-proper [] [] dues holds proper = proper
  at-proper [] (caller ∷ callers) dues holds proper =
      at-proper (drop 1 caller) callers (with_changed (changed_by_return (first_of caller)) dues) holds.1
      (changed-proper (changed_by_return (first_of caller)) dues (return-listable caller holds.0) proper)

  settled-proper : (dues : Dues) (place : Place) → HoldsAt Sound place → AreProper dues
      → AreProper (settled dues place).dues
  settled-proper dues [] holds proper = proper
  settled-proper dues (frame ∷ callers) holds proper = at-proper frame callers dues holds.1 proper

  module _ (kept : IsKept program (HoldsAt Sound)) where
    step-proper : (dues : Dues) (place : Place) (there : Stand) → HoldsAt Sound place → AreProper dues
        → IsAmong there (stands_after program dues place) → AreProper there.dues
    step-proper dues [] there holds proper among = absurd among
    step-proper dues ([] ∷ callers) there holds proper among = absurd among
    step-proper dues ((entry ∷ rest) ∷ callers) there holds proper among =
        let found = one-mapped (settled (after_entry dues entry)) there (ways program entry rest callers) among in
        subst (λ (stand : Stand). AreProper stand.dues) (sym found.2)
        (settled-proper (after_entry dues entry) found.0 (kept.way entry rest callers found.0 holds found.1)
        (entry-proper dues entry rest holds.0 proper))

    walk-proper : (path : List ℕ) (here there : Stand) → HoldsAt Sound here.place → AreProper here.dues
        → Walks program here path there → AreProper there.dues
    walk-proper [] here there holds proper same = subst (λ (stand : Stand). AreProper stand.dues) same proper
    walk-proper (number ∷ path) here there holds proper walk =
        walk-proper path walk.0 there (kept-after program (HoldsAt Sound) kept here.dues here.place walk.0 holds
        walk.1.leads)
        (step-proper here.dues here.place walk.0 holds proper walk.1.leads) walk.2

  module _ (regular : IsRegular program) where
    kept : IsKept program (HoldsAt Sound)
    kept = entries-kept Sound program (all-sound regular)

    led-proper : (path : List ℕ) (there : Stand) → Leads program path there → AreProper there.dues
    led-proper path there walk =
        walk-proper kept path (first_stand program) there
        (kept-led program (HoldsAt Sound) kept [] (first_stand program) refl)
        (at-proper (body_of program program.main) [] no_dues tt none-proper) walk

    pub item-listable : (number item : ℕ) → IsItemDue program number item → MayBeListed program item
    item-listable number item due =
        (led-proper due.path due.stand due.leads).globals item (among_there item due.stand.dues.globals due.due)

    pub file-process : (number file : ℕ) → IsFileDue program number file → IsProcess program file
    file-process number file due =
        (led-proper due.path due.stand due.leads).asked file (among_there file due.stand.dues.asked due.due)

    next-process : (place : Place) → HoldsAt Sound place → (file : ℕ) → IsTrue (is_ask_next file (next_in place))
        → IsProcess program file
    next-process [] holds file is = never is
    next-process ([] ∷ callers) holds file is = never is
    next-process ((Run statement ∷ rest) ∷ callers) holds file is = (holds.0.0 statement (inl refl)).asks file is
    next-process ((Test statement ∷ rest) ∷ callers) holds file is = never is
    next-process ((Last statement ∷ rest) ∷ callers) holds file is = never is

    pub asked-process : (file count : ℕ) → IsAskedAfter program file count → IsProcess program file
    asked-process file count asked = next-process asked.stand.place
        (kept-led program (HoldsAt Sound) kept asked.path asked.stand asked.leads) file asked.next
