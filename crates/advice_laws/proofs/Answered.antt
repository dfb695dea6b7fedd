-- An answer for a regular program is the advice for it, and may be chosen.
use Rattle.std.proofs.Common.{◌≡◌, ◌≤◌, ◌<◌, ◌⊎◌, ◌↔◌, inl, inr, ℕ, ◌==◌, Bool, true, false, cond, if◌then◌else◌}
use Rattle.std.proofs.Common.{IsTrue, List, [], ◌∷◌, map, filter, length, slice_get, Option, Some, None, arith, refl}
use Rattle.std.proofs.Common.{ap, subst, sym, ◌∙◌}
use Rattle.std.specs.Option.{unwrap_or}
use Rattle.std.proofs.lemmas.Option.{slice_get_within}
use Rattle.gd_words.specs.Members.{IsAmong, is_among}
use Rattle.gd_words.proofs.Among.{among-given}
use Rattle.tal_tree.specs.Named.{IsProcess}
use Rattle.tal_tree.specs.Regular.{IsRegular}
use Rattle.tal_tree.specs.Statements.{all_of}
use Rattle.tal_tree.specs.declared.program.FileUse.{FileUse}
use Rattle.tal_tree.specs.declared.program.Procedure.{Procedure}
use Rattle.tal_tree.specs.declared.program.Program.{Program}
use Rattle.tal_tree.specs.declared.program.Target.TheVariants as target
use Rattle.tal_tree.specs.declared.statement.Statement.{Statement}
use Rattle.tal_tree.specs.declared.statement.What.{out-What}
use Rattle.process_semantics.specs.State.{Run, Test, Last}
use Rattle.path_semantics.specs.Path.{Leads}
use Rattle.path_semantics.specs.Place.{Place, Stand, next_in, next_entry}
use Rattle.path_semantics.proofs.Entries.{HoldsAt, entries-kept}
use Rattle.path_semantics.proofs.Kept.{one-mapped, kept-led}
use Rattle.advice.specs.declared.answer.Advice.{Advice}
use Rattle.advice.specs.declared.answer.Advised.{Advised}
use Rattle.advice.specs.Advice.{IsLeastDepth, IsAdvice}
use Rattle.advice.specs.Answer.{statements_of, is_a_checkpoint, checkpoints_of, items_among, files_among, choice_of}
use Rattle.advice.specs.Answer.{IsAnswer}
use Rattle.advice.specs.Choice.{IsChoice}
use Rattle.advice.specs.Due.{is_checkpoint, is_checkpoint_next, IsItemDue, IsFileDue, IsAskedAfter}
use Rattle.advice_laws.proofs.Accepting.{within}
use Rattle.advice_laws.proofs.Breaking.{never, each, same-number}
use Rattle.advice_laws.proofs.Proper.{item-listable, file-process, asked-process}
use Rattle.advice_laws.proofs.SamePaths.{among-mapped}

-- What is said of a statement

record Speaks (lists : List Advised) (number : ℕ) : Type 0 where
  one : Advised
  there : IsAmong one lists
  same : one.statement ≡ number
  items : items_among lists number ≡ one.items
  files : files_among lists number ≡ one.files

record IsSilent (lists : List Advised) (number : ℕ) : Type 0 where
  nowhere : (one : Advised) → IsAmong one lists → one.statement ≡ number → ⊥
  items : items_among lists number ≡ []
  files : files_among lists number ≡ []

speaks-first : (one : Advised) (rest : List Advised) (number : ℕ) → (one.statement == number) ≡ true
    → Speaks (one ∷ rest) number
speaks-first one rest number is = record {
  one = one;
  there = inl refl;
  same = same-number one.statement number is;
  items = ap (λ (b : Bool). if b then one.items else items_among rest number) is;
  files = ap (λ (b : Bool). if b then one.files else files_among rest number) is;
}

speaks-later : (one : Advised) (rest : List Advised) (number : ℕ) → (one.statement == number) ≡ false
    → Speaks rest number → Speaks (one ∷ rest) number
speaks-later one rest number isnt later = record {
  one = later.one;
  there = inr later.there;
  same = later.same;
  items = ap (λ (b : Bool). if b then one.items else items_among rest number) isnt ∙ later.items;
  files = ap (λ (b : Bool). if b then one.files else files_among rest number) isnt ∙ later.files;
}

differs : (n m : ℕ) → (n == m) ≡ false → n ≡ m → ⊥
differs n m isnt same = absurd (grind arith)

silent-still : (one : Advised) (rest : List Advised) (number : ℕ) → (one.statement == number) ≡ false
    → IsSilent rest number → IsSilent (one ∷ rest) number
silent-still one rest number isnt silent = record {
  nowhere = λ other among same. elim among [
    | inl is ↦ differs one.statement number isnt (ap (λ (x : Advised). x.statement) (sym is) ∙ same)
    | inr later ↦ silent.nowhere other later same
  ];
  items = ap (λ (b : Bool). if b then one.items else items_among rest number) isnt ∙ silent.items;
  files = ap (λ (b : Bool). if b then one.files else files_among rest number) isnt ∙ silent.files;
}

said : (lists : List Advised) (number : ℕ) → Speaks lists number ⊎ IsSilent lists number
said [] number = inr (record { nowhere = λ one among same. among; items = refl; files = refl })
said (one ∷ rest) number = by-test (one.statement == number) refl (said rest number) where
  by-test : (b : Bool) → (one.statement == number) ≡ b → Speaks rest number ⊎ IsSilent rest number
      → Speaks (one ∷ rest) number ⊎ IsSilent (one ∷ rest) number
  by-test true is later = inl (speaks-first one rest number is)
  by-test false isnt (inl later) = inl (speaks-later one rest number isnt later)
  by-test false isnt (inr silent) = inr (silent-still one rest number isnt silent)

-- Where something is due there is a list

passed : (b : Bool) (x y : Statement) (rest : List Statement) → b ≡ true → x ≡ y → IsAmong x (cond b (y ∷ rest) rest)
passed true x y rest is same = inl same
passed false x y rest is same = never is

behind : (b : Bool) (x y : Statement) (rest : List Statement) → IsAmong x rest → IsAmong x (cond b (y ∷ rest) rest)
behind true x y rest among = inr among
behind false x y rest among = among

among-filtered : (test : Statement → Bool) (x : Statement) (xs : List Statement) → IsAmong x xs → test x ≡ true
    → IsAmong x (filter test xs)
among-filtered test x [] among is = absurd among
among-filtered test x (y ∷ ys) (inl same) is = passed (test y) x y (filter test ys) (ap test (sym same) ∙ is) same
among-filtered test x (y ∷ ys) (inr among) is = behind (test y) x y (filter test ys) (among-filtered test x ys among is)

module _ (program : Program) where
  abbrev Stands : Statement → Type 0
  Stands statement = IsAmong statement (statements_of program)

  next-checkpoint : (place : Place) → HoldsAt Stands place → (number : ℕ)
      → IsTrue (is_checkpoint_next number (next_in place))
      → (statement : Statement) × (statement.number ≡ number) × IsAmong statement (checkpoints_of program)
  next-checkpoint [] holds number is = never is
  next-checkpoint ([] ∷ callers) holds number is = never is
  next-checkpoint ((Test statement ∷ rest) ∷ callers) holds number is = never is
  next-checkpoint ((Last statement ∷ rest) ∷ callers) holds number is = never is
  next-checkpoint ((Run statement ∷ rest) ∷ callers) holds number is =
      let told = each (statement.number == number) (is_checkpoint (out-What statement.what)) is in (
        statement,
        same-number statement.number number told.0,
        among-filtered is_a_checkpoint statement (statements_of program) (holds.0.0 statement (inl refl)) told.1,
      )

  -- a path leads only to CHECKPOINTs of the program
  led-checkpoint : (path : List ℕ) (stand : Stand) → Leads program path stand → (number : ℕ)
      → IsTrue (is_checkpoint_next number (next_entry stand))
      → (statement : Statement) × (statement.number ≡ number) × IsAmong statement (checkpoints_of program)
  led-checkpoint path stand leads number is =
      next-checkpoint stand.place
      (kept-led program (HoldsAt Stands)
      (entries-kept Stands program
      (λ procedure statement there inside. among-given (λ (one : Procedure). all_of one.body) procedure statement
      program.procedures there inside)) path stand leads)
      number is

  module _ (advice : Advice) (answer : IsAnswer program advice) where
    never-silent : (path : List ℕ) (stand : Stand) → Leads program path stand → (number : ℕ)
        → IsTrue (is_checkpoint_next number (next_entry stand)) → IsSilent advice.lists number → ⊥
    never-silent path stand leads number is silent =
        let found = led-checkpoint path stand leads number is in
        let listed : IsAmong found.0.number (map (λ (one : Advised). one.statement) advice.lists) =
        subst (λ (numbers : List ℕ). IsAmong found.0.number numbers) (sym answer.numbers)
        (among-mapped (λ (one : Statement). one.number) found.0 (checkpoints_of program) found.2) in
        let one = one-mapped (λ (one : Advised). one.statement) found.0.number advice.lists listed in
        silent.nowhere one.0 one.1 (sym one.2 ∙ found.1)

    -- for each number the chosen globals are those that are due
    items-due : (number item : ℕ) → IsTrue (is_among item (items_among advice.lists number))
        ↔ IsItemDue program number item
    items-due number item = by-said (said advice.lists number) where
      by-said : Speaks advice.lists number ⊎ IsSilent advice.lists number
          → IsTrue (is_among item (items_among advice.lists number)) ↔ IsItemDue program number item
      by-said (inl speaks) =
          let due : IsTrue (is_among item speaks.one.items) ↔ IsItemDue program speaks.one.statement item =
          (answer.lists speaks.one speaks.there).items item in
          subst (λ (n : ℕ). IsTrue (is_among item (items_among advice.lists number)) ↔ IsItemDue program n item)
          speaks.same
          (subst (λ (items : List ℕ). IsTrue (is_among item items) ↔ IsItemDue program speaks.one.statement item)
          (sym speaks.items) due)
      by-said (inr silent) = (
        (λ named. never (sym (ap (is_among item) silent.items) ∙ named)),
        (λ due. absurd (never-silent due.path due.stand due.leads number due.next silent)),
      )

    files-due : (number file : ℕ) → IsTrue (is_among file (files_among advice.lists number))
        ↔ IsFileDue program number file
    files-due number file = by-said (said advice.lists number) where
      by-said : Speaks advice.lists number ⊎ IsSilent advice.lists number
          → IsTrue (is_among file (files_among advice.lists number)) ↔ IsFileDue program number file
      by-said (inl speaks) =
          let due : IsTrue (is_among file speaks.one.files) ↔ IsFileDue program speaks.one.statement file =
          (answer.lists speaks.one speaks.there).files file in
          subst (λ (n : ℕ). IsTrue (is_among file (files_among advice.lists number)) ↔ IsFileDue program n file)
          speaks.same
          (subst (λ (files : List ℕ). IsTrue (is_among file files) ↔ IsFileDue program speaks.one.statement file)
          (sym speaks.files) due)
      by-said (inr silent) = (
        (λ named. never (sym (ap (is_among file) silent.files) ∙ named)),
        (λ due. absurd (never-silent due.path due.stand due.leads number due.next silent)),
      )

    module _ (regular : IsRegular program) where
      -- of a file that is asked nowhere one reply is enough
      unasked : (file : ℕ) → ((count : ℕ) → IsAskedAfter program file count → ⊥) → IsLeastDepth program file 1
      unasked file never-asked = record {
        enough = record { lowest = omega arith; counts = λ count asked. absurd (never-asked count asked) };
        least = λ other enough. enough.lowest;
      }

      missing-file : (file : ℕ) → slice_get advice.depths file ≡ None → slice_get program.files file ≡ None
      missing-file file none = by-found (slice_get program.files file) refl where
        by-found : (found : Option FileUse) → slice_get program.files file ≡ found → slice_get program.files file ≡ None
        by-found None is = is
        by-found (Some one) is =
            let inside : file < length program.files = slice_get_within program.files file one is in
            let count : length advice.depths ≡ length program.files = answer.count in
            let there = within advice.depths file (omega arith) in
            let missing : slice_get advice.depths file ≡ None = none in
            let found : slice_get advice.depths file ≡ Some there.0 = there.1 in
            absurd (cc)

      depth-least : (file : ℕ) (found : Option ℕ) → slice_get advice.depths file ≡ found
          → IsLeastDepth program file (unwrap_or found 1)
      depth-least file (Some depth) is = answer.depths file depth is
      depth-least file None is =
          unasked file (λ count asked.
          let there = asked-process program regular file count asked in
          let missing : slice_get program.files file ≡ None = missing-file file is in
          let found : slice_get program.files file ≡ Some there.opened = there.there in
          absurd (cc))

      depth-few : (file : ℕ) (found : Option ℕ) → slice_get advice.depths file ≡ found → unwrap_or found 1 ≤ 4
      depth-few file (Some depth) is = answer.few file depth is
      depth-few file None is = omega arith

      -- the answer is the advice
      pub answer-advice : IsAdvice program (choice_of advice)
      answer-advice = record {
        items = items-due;
        files = files-due;
        depths = λ file. depth-least file (slice_get advice.depths file) refl;
      }

      receive-other : (one : FileUse) (file : ℕ) → slice_get program.files file ≡ Some one
          → one.target ≡ target.Receive → IsProcess program file → ⊥
      receive-other one file there receive process =
          let same : Some process.opened ≡ Some one = sym process.there ∙ there in
          let equal : process.opened ≡ one = cc in
          let both : target.Process process.process ≡ target.Receive =
          sym process.is ∙ ap (λ (opened : FileUse). opened.target) equal ∙ receive in
          absurd (cc)

      receive-one : (file : ℕ) (one : FileUse) → slice_get program.files file ≡ Some one → one.target ≡ target.Receive
          → (choice_of advice).depth file ≡ 1
      receive-one file one there receive =
          let depth : IsLeastDepth program file ((choice_of advice).depth file) =
          depth-least file (slice_get advice.depths file) refl in
          let unasked-one = unasked file (λ count asked.
          receive-other one file there receive (asked-process program regular file count asked)) in
          let most : (choice_of advice).depth file ≤ 1 = depth.least 1 unasked-one.enough in
          let lowest : 1 ≤ (choice_of advice).depth file = depth.enough.lowest in
          omega arith

      -- and it may be chosen
      pub answer-choice : IsChoice program (choice_of advice)
      answer-choice = record {
        items = λ number item named. item-listable program regular number item ((items-due number item).0 named);
        files = λ number file named. file-process program regular number file ((files-due number file).0 named);
        lowest = λ place inside. (depth-least place (slice_get advice.depths place) refl).enough.lowest;
        highest = λ place inside. depth-few place (slice_get advice.depths place) refl;
        receive = receive-one;
      }
