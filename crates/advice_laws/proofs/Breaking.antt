-- For what an entry breaks that names what is chosen, told of the entry as it is.
use Rattle.std.proofs.Common.{◌≡◌, ◌≤◌, ℕ, zero, suc, ◌+◌, ◌==◌, nat_le, Bool, true, false, not, ◌&&◌, ◌||◌, IsTrue}
use Rattle.std.proofs.Common.{List, [], ◌∷◌, slice_get, Option, Some, None, option_map, arith, refl, ap, subst, sym}
use Rattle.std.proofs.Common.{◌∙◌}
use Rattle.gd_words.specs.Members.{is_among}
use Rattle.tal_tree.specs.declared.program.FileUse.{FileUse}
use Rattle.tal_tree.specs.declared.program.Program.{Program}
use Rattle.tal_tree.specs.declared.statement.Statement.{Statement}
use Rattle.tal_tree.specs.declared.statement.What.{What, What-F, out-What}
use Rattle.process_semantics.specs.State.{Entry, Run, Test, Last}
use Rattle.path_semantics.specs.declared.dues.Dues.{Dues}
use Rattle.path_semantics.specs.declared.reason.Reason.TheVariants.{Data, SyncBlock, Input, Depth}
use Rattle.path_semantics.specs.Break.{asked_count, is_reached, omits_item, omits_file, sends, breaks_by, breaks_entry}
use Rattle.advice.specs.Choice.{Choice, files_with, with_choice}
use Rattle.advice.specs.Due.{is_checkpoint, is_ask, is_checkpoint_next, is_ask_next}
use Rattle.advice_laws.specs.Stands.{entry_with}
use Rattle.advice_laws.proofs.Layers.{layer_with, layer-is}

pub never : {A : Type 0} → false ≡ true → A
never wrong = absurd (cc)

pub both : (a b : Bool) → IsTrue a → IsTrue b → IsTrue (a && b)
both true b one other = other
both false b one other = never one

pub each : (a b : Bool) → IsTrue (a && b) → IsTrue a × IsTrue b
each true b is = (refl, is)
each false b is = never is

not-is : (a : Bool) → IsTrue (not a) → a ≡ false
not-is true is = never is
not-is false is = refl

is-not : (a : Bool) → a ≡ false → IsTrue (not a)
is-not a isnt = ap not isnt

or-none : (b : Bool) → (b || false) ≡ b
or-none true = refl
or-none false = refl

itself : (n : ℕ) → IsTrue (n == n)
itself n = grind arith

pub same-number : (n m : ℕ) → IsTrue (n == m) → n ≡ m
same-number n m is = grind arith

le-of : (n m : ℕ) → IsTrue (nat_le n m) → n ≤ m
le-of n m is = grind arith

of-le : (n m : ℕ) → n ≤ m → IsTrue (nat_le n m)
of-le n m less = grind arith

-- the chosen depth of the file at a place
file-at : (choice : Choice) (from place sum : ℕ) (files : List FileUse) → from + place ≡ sum
    → slice_get (files_with choice from files) place
    ≡ option_map (λ (file : FileUse). record file { depth = choice.depth sum }) (slice_get files place)
file-at choice from place sum [] is = refl
file-at choice from zero sum (file ∷ rest) is =
    ap (λ (n : ℕ). Some (record file { depth = choice.depth n })) (let same : from ≡ sum = omega arith in same)
file-at choice from (suc place) sum (file ∷ rest) is = file-at choice (suc from) place sum rest (omega arith)

module _ (choice : Choice) where
  unnamed-item : (item : ℕ) (dues : Dues) (number : ℕ) (layer : What-F What Statement)
      → IsTrue (omits_item item (layer_with choice number layer) && is_among item dues.globals)
      → IsTrue (is_checkpoint layer) × IsTrue (is_among item dues.globals)
      × (is_among item (choice.items number) ≡ false)
  unnamed-item item dues number (What-F.Checkpoint items files) broken =
      let told = each (not (is_among item (choice.items number))) (is_among item dues.globals) broken in
      (refl, told.1, not-is (is_among item (choice.items number)) told.0)
  unnamed-item item dues number _ broken = never broken

  item-unnamed : (item : ℕ) (dues : Dues) (number : ℕ) (layer : What-F What Statement) → IsTrue (is_checkpoint layer)
      → IsTrue (is_among item dues.globals)
      → is_among item (choice.items number) ≡ false
      → IsTrue (omits_item item (layer_with choice number layer) && is_among item dues.globals)
  item-unnamed item dues number (What-F.Checkpoint items files) is due missing =
      both (not (is_among item (choice.items number))) (is_among item dues.globals)
      (is-not (is_among item (choice.items number)) missing) due
  item-unnamed item dues number _ is due missing = never is

  unnamed-file : (file : ℕ) (dues : Dues) (number : ℕ) (layer : What-F What Statement)
      → IsTrue (omits_file file (layer_with choice number layer) && is_among file dues.asked)
      → IsTrue (is_checkpoint layer) × IsTrue (is_among file dues.asked) × (is_among file (choice.files number) ≡ false)
  unnamed-file file dues number (What-F.Checkpoint items files) broken =
      let told = each (not (is_among file (choice.files number))) (is_among file dues.asked) broken in
      (refl, told.1, not-is (is_among file (choice.files number)) told.0)
  unnamed-file file dues number _ broken = never broken

  file-unnamed : (file : ℕ) (dues : Dues) (number : ℕ) (layer : What-F What Statement) → IsTrue (is_checkpoint layer)
      → IsTrue (is_among file dues.asked)
      → is_among file (choice.files number) ≡ false
      → IsTrue (omits_file file (layer_with choice number layer) && is_among file dues.asked)
  file-unnamed file dues number (What-F.Checkpoint items files) is due missing =
      both (not (is_among file (choice.files number))) (is_among file dues.asked)
      (is-not (is_among file (choice.files number)) missing) due
  file-unnamed file dues number _ is due missing = never is

  input-layer : (dues : Dues) (number : ℕ) (layer : What-F What Statement)
      → (sends (layer_with choice number layer) && dues.read) ≡ (sends layer && dues.read)
  input-layer dues number (What-F.Reply buffer count) = refl
  input-layer dues number _ = refl

  module _ (program : Program) where
    abbrev chosen : Program
    chosen = with_choice program choice

    depth-layer : (file : ℕ) (dues : Dues) (number : ℕ) (layer : What-F What Statement)
        → breaks_by chosen (Depth file) dues (layer_with choice number layer)
        ≡ (is_ask file layer && is_reached (slice_get chosen.files file) (asked_count file dues))
    depth-layer file dues number (What-F.WriteRead asked buffer send room got) =
        ap (λ (b : Bool). b && is_reached (slice_get chosen.files file) (asked_count file dues))
        (or-none (asked == file))
    depth-layer file dues number _ = refl

    -- Data: a CHECKPOINT for which a global that is due isn't chosen
    pub data-told : (item : ℕ) (dues : Dues) (next : Option Entry)
        → IsTrue (breaks_entry chosen (Data item) dues (option_map (entry_with choice) next))
        → (number : ℕ) × IsTrue (is_checkpoint_next number next) × IsTrue (is_among item dues.globals)
        × (is_among item (choice.items number) ≡ false)
    data-told item dues None broken = never broken
    data-told item dues (Some (Test statement)) broken = never broken
    data-told item dues (Some (Last statement)) broken = never broken
    data-told item dues (Some (Run statement)) broken =
        let told = unnamed-item item dues statement.number (out-What statement.what)
        (subst (λ (layer : What-F What Statement). IsTrue (omits_item item layer && is_among item dues.globals))
        (layer-is choice statement.number statement.what) broken) in (
          statement.number,
          both (statement.number == statement.number) (is_checkpoint (out-What statement.what))
              (itself statement.number) told.0,
          told.1,
          told.2,
        )

    pub told-data : (item : ℕ) (dues : Dues) (number : ℕ) (next : Option Entry)
        → IsTrue (is_checkpoint_next number next) → IsTrue (is_among item dues.globals)
        → is_among item (choice.items number) ≡ false
        → IsTrue (breaks_entry chosen (Data item) dues (option_map (entry_with choice) next))
    told-data item dues number None is due missing = never is
    told-data item dues number (Some (Test statement)) is due missing = never is
    told-data item dues number (Some (Last statement)) is due missing = never is
    told-data item dues number (Some (Run statement)) is due missing =
        let told = each (statement.number == number) (is_checkpoint (out-What statement.what)) is in
        subst (λ (layer : What-F What Statement). IsTrue (omits_item item layer && is_among item dues.globals))
        (sym (layer-is choice statement.number statement.what))
        (item-unnamed item dues statement.number (out-What statement.what) told.1 due
        (ap (λ (n : ℕ). is_among item (choice.items n)) (same-number statement.number number told.0) ∙ missing))

    -- SyncBlock: a CHECKPOINT for which a file that is due isn't chosen
    pub sync-told : (file : ℕ) (dues : Dues) (next : Option Entry)
        → IsTrue (breaks_entry chosen (SyncBlock file) dues (option_map (entry_with choice) next))
        → (number : ℕ) × IsTrue (is_checkpoint_next number next) × IsTrue (is_among file dues.asked)
        × (is_among file (choice.files number) ≡ false)
    sync-told file dues None broken = never broken
    sync-told file dues (Some (Test statement)) broken = never broken
    sync-told file dues (Some (Last statement)) broken = never broken
    sync-told file dues (Some (Run statement)) broken =
        let told = unnamed-file file dues statement.number (out-What statement.what)
        (subst (λ (layer : What-F What Statement). IsTrue (omits_file file layer && is_among file dues.asked))
        (layer-is choice statement.number statement.what) broken) in (
          statement.number,
          both (statement.number == statement.number) (is_checkpoint (out-What statement.what))
              (itself statement.number) told.0,
          told.1,
          told.2,
        )

    pub told-sync : (file : ℕ) (dues : Dues) (number : ℕ) (next : Option Entry)
        → IsTrue (is_checkpoint_next number next) → IsTrue (is_among file dues.asked)
        → is_among file (choice.files number) ≡ false
        → IsTrue (breaks_entry chosen (SyncBlock file) dues (option_map (entry_with choice) next))
    told-sync file dues number None is due missing = never is
    told-sync file dues number (Some (Test statement)) is due missing = never is
    told-sync file dues number (Some (Last statement)) is due missing = never is
    told-sync file dues number (Some (Run statement)) is due missing =
        let told = each (statement.number == number) (is_checkpoint (out-What statement.what)) is in
        subst (λ (layer : What-F What Statement). IsTrue (omits_file file layer && is_among file dues.asked))
        (sym (layer-is choice statement.number statement.what))
        (file-unnamed file dues statement.number (out-What statement.what) told.1 due
        (ap (λ (n : ℕ). is_among file (choice.files n)) (same-number statement.number number told.0) ∙ missing))

    -- Input: as without the choice
    pub input-told : (dues : Dues) (next : Option Entry)
        → breaks_entry chosen Input dues (option_map (entry_with choice) next) ≡ breaks_entry program Input dues next
    input-told dues None = refl
    input-told dues (Some (Test statement)) = refl
    input-told dues (Some (Last statement)) = refl
    input-told dues (Some (Run statement)) =
        ap (λ (layer : What-F What Statement). sends layer && dues.read)
        (layer-is choice statement.number statement.what) ∙ input-layer dues statement.number (out-What statement.what)

    depth-next : (file : ℕ) (dues : Dues) (next : Option Entry)
        → breaks_entry chosen (Depth file) dues (option_map (entry_with choice) next)
        ≡ (is_ask_next file next && is_reached (slice_get chosen.files file) (asked_count file dues))
    depth-next file dues None = refl
    depth-next file dues (Some (Test statement)) = refl
    depth-next file dues (Some (Last statement)) = refl
    depth-next file dues (Some (Run statement)) =
        ap (breaks_by chosen (Depth file) dues) (layer-is choice statement.number statement.what)
        ∙ depth-layer file dues statement.number (out-What statement.what)

    reached-told : (place count : ℕ) (file : Option FileUse)
        → IsTrue (is_reached (option_map (λ (one : FileUse). record one { depth = choice.depth place }) file) count)
        → ((one : FileUse) × (file ≡ Some one)) × (choice.depth place ≤ count)
    reached-told place count None is = never is
    reached-told place count (Some file) is = ((file, refl), le-of (choice.depth place) count is)

    -- Depth: a WRITEREAD on a file that is there, where as many are counted as the chosen depth
    pub depth-told : (file : ℕ) (dues : Dues) (next : Option Entry)
        → IsTrue (breaks_entry chosen (Depth file) dues (option_map (entry_with choice) next))
        → IsTrue (is_ask_next file next) × ((one : FileUse) × (slice_get program.files file ≡ Some one))
        × (choice.depth file ≤ asked_count file dues)
    depth-told file dues next broken =
        let told = each (is_ask_next file next) (is_reached (slice_get chosen.files file) (asked_count file dues))
        (sym (depth-next file dues next) ∙ broken) in
        let reached = reached-told file (asked_count file dues) (slice_get program.files file)
        (subst (λ (one : Option FileUse). IsTrue (is_reached one (asked_count file dues)))
        (file-at choice 0 file file program.files (omega arith)) told.1) in
        (told.0, reached.0, reached.1)

    pub told-depth : (file : ℕ) (dues : Dues) (next : Option Entry) (one : FileUse)
        → slice_get program.files file ≡ Some one → IsTrue (is_ask_next file next)
        → choice.depth file ≤ asked_count file dues
        → IsTrue (breaks_entry chosen (Depth file) dues (option_map (entry_with choice) next))
    told-depth file dues next one there asks reached =
        depth-next file dues next
        ∙ both (is_ask_next file next) (is_reached (slice_get chosen.files file) (asked_count file dues)) asks
        (ap (λ (found : Option FileUse). is_reached found (asked_count file dues))
        (file-at choice 0 file file program.files (omega arith)
        ∙ ap (option_map (λ (found : FileUse). record found { depth = choice.depth file })) there)
        ∙ of-le (choice.depth file) (asked_count file dues) reached)
