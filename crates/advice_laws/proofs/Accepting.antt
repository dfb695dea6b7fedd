-- The advice is accepted, and every choice that is accepted contains it.
use Rattle.std.proofs.Common.{◌≡◌, ◌≤◌, ◌<◌, ◌⊎◌, inl, inr, ℕ, zero, suc, nat_le, Bool, true, false, IsTrue, List, []}
use Rattle.std.proofs.Common.{◌∷◌, ◌++◌, length, slice_get, Option, Some, None, option_map, is_some, arith, refl, subst}
use Rattle.std.proofs.Common.{sym, ◌∙◌}
use Rattle.std.proofs.lemmas.Option.{slice_get_within}
use Rattle.gd_words.specs.Members.{is_among}
use Rattle.tal_tree.specs.declared.program.FileUse.{FileUse}
use Rattle.tal_tree.specs.declared.program.Program.{Program}
use Rattle.process_semantics.specs.Rests.{entry_number}
use Rattle.process_semantics.specs.State.{Entry}
use Rattle.path_semantics.specs.declared.dues.Dues.{Dues}
use Rattle.path_semantics.specs.declared.reason.Reason.{Reason}
use Rattle.path_semantics.specs.declared.reason.Reason.TheVariants.{Data, SyncBlock, Input, Depth}
use Rattle.path_semantics.specs.Accepted.{IsAccepted}
use Rattle.path_semantics.specs.Bounds.{IsWithinBounds}
use Rattle.path_semantics.specs.Break.{asked_count, breaks_entry, breaks_at, Breaks}
use Rattle.path_semantics.specs.Path.{number_at, Leads}
use Rattle.path_semantics.specs.Place.{Stand, next_entry}
use Rattle.advice.specs.Advice.{IsDepthEnough, IsAdvice}
use Rattle.advice.specs.Choice.{Choice, with_choice, IsContained}
use Rattle.advice.specs.Due.{IsItemDue, IsFileDue, IsAskedAfter}
use Rattle.advice_laws.specs.Stands.{entry_with, stand_with}
use Rattle.advice_laws.proofs.Breaking.{never, data-told, told-data, sync-told, told-sync, input-told, depth-told}
use Rattle.advice_laws.proofs.Breaking.{told-depth}
use Rattle.advice_laws.proofs.SameBounds.{bounds-chosen, bounds-own}
use Rattle.advice_laws.proofs.SamePaths.{next-kept, number-at-kept, leads-chosen, leads-own}

-- what stands at a place within a list
pub within : {A : Type 0} (xs : List A) (place : ℕ) → place < length xs → (x : A) × (slice_get xs place ≡ Some x)
within [] place less = absurd (omega arith)
within (x ∷ xs) zero less = (x, refl)
within (x ∷ xs) (suc place) less = within xs place (omega arith)

module _ (choice : Choice) (program : Program) where
  abbrev chosen : Program
  chosen = with_choice program choice

  -- a path breaks with the choice, told along the program's own stands
  record BreaksSo (path : List ℕ) (reason : Reason) : Type 0 where
    front : List ℕ
    number : ℕ
    stand : Stand
    split : path ≡ front ++ number ∷ []
    leads : Leads program front stand
    next : number_at stand ≡ Some number
    breaks : IsTrue (breaks_entry chosen reason stand.dues (option_map (entry_with choice) (next_entry stand)))

  breaks-told : (path : List ℕ) (reason : Reason) → Breaks chosen path reason → BreaksSo path reason
  breaks-told path reason broken =
      let own = leads-own choice program broken.front broken.stand broken.leads in
      record {
        front = broken.front;
        number = broken.number;
        stand = own.0;
        split = broken.split;
        leads = own.1;
        next = sym (number-at-kept choice own.0)
            ∙ subst (λ (stand : Stand). number_at stand ≡ Some broken.number) own.2 broken.next;
        breaks = subst (λ (next : Option Entry). IsTrue (breaks_entry chosen reason own.0.dues next))
            (next-kept choice own.0.place)
            (subst (λ (stand : Stand). IsTrue (breaks_at chosen reason stand)) own.2 broken.breaks);
      }

  told-breaks : (path : List ℕ) (reason : Reason) → BreaksSo path reason → Breaks chosen path reason
  told-breaks path reason broken = record {
    front = broken.front;
    number = broken.number;
    stand = stand_with choice broken.stand;
    split = broken.split;
    leads = leads-chosen choice program broken.front broken.stand broken.leads;
    next = number-at-kept choice broken.stand ∙ broken.next;
    breaks = subst (λ (next : Option Entry). IsTrue (breaks_entry chosen reason broken.stand.dues next))
        (sym (next-kept choice broken.stand.place)) broken.breaks;
  }

  number-there : (next : Option Entry) → is_some next ≡ true
      → (number : ℕ) × (option_map entry_number next ≡ Some number)
  number-there None some = never some
  number-there (Some entry) some = (entry_number entry, refl)

  some-breaks : (reason : Reason) (dues : Dues) (next : Option Entry)
      → IsTrue (breaks_entry chosen reason dues (option_map (entry_with choice) next)) → is_some next ≡ true
  some-breaks reason dues None broken = never broken
  some-breaks reason dues (Some entry) broken = refl

  -- where a path leads to an entry that breaks with the choice, some path breaks
  breaks-there : (path : List ℕ) (stand : Stand) (reason : Reason) → Leads program path stand
      → IsTrue (breaks_entry chosen reason stand.dues (option_map (entry_with choice) (next_entry stand)))
      → (whole : List ℕ) × Breaks chosen whole reason
  breaks-there path stand reason leads broken =
      let number = number-there (next_entry stand) (some-breaks reason stand.dues (next_entry stand) broken) in (
        path ++ number.0 ∷ [],
        told-breaks (path ++ number.0 ∷ []) reason
            (record {
              front = path;
              number = number.0;
              stand = stand;
              split = refl;
              leads = leads;
              next = number.1;
              breaks = broken;
            }),
      )

  -- The advice is accepted

  unbroken : IsAdvice program choice → ((path : List ℕ) → Breaks program path Input → ⊥)
      → (path : List ℕ) (reason : Reason) → BreaksSo path reason → ⊥
  unbroken advice input path (Data item) broken =
      let told = data-told choice program item broken.stand.dues (next_entry broken.stand) broken.breaks in
      never (sym told.3 ∙ (advice.items told.0 item).1
      (record { path = broken.front; stand = broken.stand; leads = broken.leads; next = told.1; due = told.2 }))
  unbroken advice input path (SyncBlock file) broken =
      let told = sync-told choice program file broken.stand.dues (next_entry broken.stand) broken.breaks in
      never (sym told.3 ∙ (advice.files told.0 file).1
      (record { path = broken.front; stand = broken.stand; leads = broken.leads; next = told.1; due = told.2 }))
  unbroken advice input path Input broken =
      input path (record {
        front = broken.front;
        number = broken.number;
        stand = broken.stand;
        split = broken.split;
        leads = broken.leads;
        next = broken.next;
        breaks = sym (input-told choice program broken.stand.dues (next_entry broken.stand)) ∙ broken.breaks;
      })
  unbroken advice input path (Depth file) broken =
      let told = depth-told choice program file broken.stand.dues (next_entry broken.stand) broken.breaks in
      let enough : asked_count file broken.stand.dues < choice.depth file =
      (advice.depths file).enough.counts (asked_count file broken.stand.dues)
      (record { path = broken.front; stand = broken.stand; leads = broken.leads; next = told.0; counted = refl }) in
      let reached : choice.depth file ≤ asked_count file broken.stand.dues = told.2 in
      absurd (omega arith)

  pub advice-accepted : IsWithinBounds program → ((path : List ℕ) → Breaks program path Input → ⊥)
      → IsAdvice program choice → IsAccepted chosen
  advice-accepted bounds input advice = record {
    bounds = bounds-chosen choice program bounds;
    unbroken = λ path reason broken. unbroken advice input path reason (breaks-told path reason broken);
  }

  -- What is due is chosen by every choice that is accepted

  unless-missing : (b : Bool) → (b ≡ false → ⊥) → IsTrue b
  unless-missing true wrong = refl
  unless-missing false wrong = absurd (wrong refl)

  pub due-chosen : IsAccepted chosen → (number item : ℕ) → IsItemDue program number item
      → IsTrue (is_among item (choice.items number))
  due-chosen accepted number item due =
      unless-missing (is_among item (choice.items number)) (λ missing.
      let broken = breaks-there due.path due.stand (Data item) due.leads
      (told-data choice program item due.stand.dues number (next_entry due.stand) due.next due.due missing) in
      accepted.unbroken broken.0 (Data item) broken.1)

  pub asked-chosen : IsAccepted chosen → (number file : ℕ) → IsFileDue program number file
      → IsTrue (is_among file (choice.files number))
  asked-chosen accepted number file due =
      unless-missing (is_among file (choice.files number)) (λ missing.
      let broken = breaks-there due.path due.stand (SyncBlock file) due.leads
      (told-sync choice program file due.stand.dues number (next_entry due.stand) due.next due.due missing) in
      accepted.unbroken broken.0 (SyncBlock file) broken.1)

  either : (b : Bool) → (b ≡ true) ⊎ (b ≡ false)
  either true = inl refl
  either false = inr refl

  by-test : (n m : ℕ) → (nat_le m n ≡ true) ⊎ (nat_le m n ≡ false) → (n < m) ⊎ (m ≤ n)
  by-test n m (inl is) = inr (grind arith)
  by-test n m (inr isnt) = inl (grind arith)

  -- a file that is there is nowhere asked after as many as its chosen depth
  pub fewer-counted : IsAccepted chosen → (file count : ℕ) (one : FileUse) → slice_get program.files file ≡ Some one
      → IsAskedAfter program file count → count < choice.depth file
  fewer-counted accepted file count one there asked =
      by-order (by-test count (choice.depth file) (either (nat_le (choice.depth file) count)))
    where
      by-order : (count < choice.depth file) ⊎ (choice.depth file ≤ count) → count < choice.depth file
      by-order (inl fewer) = fewer
      by-order (inr reached) =
          let broken = breaks-there asked.path asked.stand (Depth file) asked.leads
          (told-depth choice program file asked.stand.dues (next_entry asked.stand) one there asked.next
          (subst (λ (n : ℕ). choice.depth file ≤ n) (sym asked.counted) reached)) in
          absurd (accepted.unbroken broken.0 (Depth file) broken.1)

  pub depth-enough : IsAccepted chosen → (file : ℕ) → file < length program.files → 1 ≤ choice.depth file
      → IsDepthEnough program file (choice.depth file)
  depth-enough accepted file inside lowest = record {
    lowest = lowest;
    counts = λ count asked. let there =
        within program.files file inside in fewer-counted accepted file count there.0 there.1 asked;
  }

  -- a path breaks for its input with the choice where one does without
  pub input-chosen : (path : List ℕ) → Breaks program path Input → (whole : List ℕ) × Breaks chosen whole Input
  input-chosen path broken =
      breaks-there broken.front broken.stand Input broken.leads
      (input-told choice program broken.stand.dues (next_entry broken.stand) ∙ broken.breaks)

  pub input-own : (path : List ℕ) → Breaks chosen path Input → (whole : List ℕ) × Breaks program whole Input
  input-own path broken =
      let own = breaks-told path Input broken in (
        path,
        record {
          front = own.front;
          number = own.number;
          stand = own.stand;
          split = own.split;
          leads = own.leads;
          next = own.next;
          breaks = sym (input-told choice program own.stand.dues (next_entry own.stand)) ∙ own.breaks;
        },
      )

  -- no choice mends a path that breaks for its input
  pub input-stays : (path : List ℕ) → Breaks program path Input → IsAccepted chosen → ⊥
  input-stays path broken accepted = let there = input-chosen path broken in accepted.unbroken there.0 Input there.1

-- every choice that is accepted, with depths of at least 1, contains the advice
pub advice-contained : (program : Program) (one other : Choice) → IsAdvice program one
    → ((file : ℕ) → file < length program.files → 1 ≤ other.depth file)
    → IsAccepted (with_choice program other) → IsContained program one other
advice-contained program one other advice lowest accepted = record {
  items = λ number item named. due-chosen other program accepted number item ((advice.items number item).0 named);
  files = λ number file named. asked-chosen other program accepted number file ((advice.files number file).0 named);
  depths = λ file inside. (advice.depths file).least (other.depth file)
      (depth-enough other program accepted file inside (lowest file inside));
}

-- A choice that contains an accepted one

missing-too : (b c : Bool) → (IsTrue b → IsTrue c) → c ≡ false → b ≡ false
missing-too false c contains missing = refl
missing-too true c contains missing = never (sym missing ∙ contains refl)

module _ (program : Program) (one other : Choice) (accepted : IsAccepted (with_choice program one))
    (contained : IsContained program one other) where
  still-unbroken : (path : List ℕ) (reason : Reason) → BreaksSo other program path reason → ⊥
  still-unbroken path (Data item) broken =
      let told = data-told other program item broken.stand.dues (next_entry broken.stand) broken.breaks in
      let missing : is_among item (one.items told.0) ≡ false =
      missing-too (is_among item (one.items told.0)) (is_among item (other.items told.0)) (contained.items told.0 item)
      told.3 in
      let there = breaks-there one program broken.front broken.stand (Data item) broken.leads
      (told-data one program item broken.stand.dues told.0 (next_entry broken.stand) told.1 told.2 missing) in
      accepted.unbroken there.0 (Data item) there.1
  still-unbroken path (SyncBlock file) broken =
      let told = sync-told other program file broken.stand.dues (next_entry broken.stand) broken.breaks in
      let missing : is_among file (one.files told.0) ≡ false =
      missing-too (is_among file (one.files told.0)) (is_among file (other.files told.0)) (contained.files told.0 file)
      told.3 in
      let there = breaks-there one program broken.front broken.stand (SyncBlock file) broken.leads
      (told-sync one program file broken.stand.dues told.0 (next_entry broken.stand) told.1 told.2 missing) in
      accepted.unbroken there.0 (SyncBlock file) there.1
  still-unbroken path Input broken =
      let there = breaks-there one program broken.front broken.stand Input broken.leads
      (input-told one program broken.stand.dues (next_entry broken.stand)
      ∙ sym (input-told other program broken.stand.dues (next_entry broken.stand)) ∙ broken.breaks) in
      accepted.unbroken there.0 Input there.1
  still-unbroken path (Depth file) broken =
      let told = depth-told other program file broken.stand.dues (next_entry broken.stand) broken.breaks in
      let less : one.depth file ≤ other.depth file =
      contained.depths file (slice_get_within program.files file told.1.0 told.1.1) in
      let reached : other.depth file ≤ asked_count file broken.stand.dues = told.2 in
      let there = breaks-there one program broken.front broken.stand (Depth file) broken.leads
      (told-depth one program file broken.stand.dues (next_entry broken.stand) told.1.0 told.1.1 told.0
      (omega arith)) in
      accepted.unbroken there.0 (Depth file) there.1

pub more-accepted : (program : Program) (one other : Choice) → IsAccepted (with_choice program one)
    → IsContained program one other → IsAccepted (with_choice program other)
more-accepted program one other accepted contained = record {
  bounds = bounds-chosen other program (bounds-own one program accepted.bounds);
  unbroken = λ path reason broken. still-unbroken program one other accepted contained path reason
      (breaks-told other program path reason broken);
}
