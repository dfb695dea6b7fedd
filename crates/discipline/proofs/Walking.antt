-- Places that are told by numbers, as a path is walked.
use Rattle.std.proofs.Common.{◌≡◌, ◌≤◌, ◌<◌, ◌⊎◌, inl, inr, ℕ, zero, suc, ◌+◌, ◌==◌, Bool, true, false, arith, List, []}
use Rattle.std.proofs.Common.{◌∷◌, append-nil, drop, length, Option, Some, None, slice_get, eq-eqb, refl, ap, subst}
use Rattle.std.proofs.Common.{sym, ◌∙◌}
use Rattle.std.specs.Prelude.{min, if◌then◌else◌}
use Rattle.std.specs.Option.{option_map, option_to_list}
use Rattle.std.proofs.lemmas.Bool.{eqb-true}
use Rattle.gd_words.specs.Members.{IsAmong, AreDistinct}
use Rattle.gd_words.proofs.Among.{among-given}
use Rattle.gd_words.proofs.Distinct.{given_at, given-all, given-distinct}
use Rattle.tal_tree.specs.Limits.{IsWithinLimits}
use Rattle.tal_tree.specs.Ordered.{IsOrdered}
use Rattle.tal_tree.specs.Statements.{numbers_of, own_calls, all_of}
use Rattle.tal_tree.specs.declared.program.Procedure.{Procedure}
use Rattle.tal_tree.specs.declared.program.Program.{Program}
use Rattle.tal_tree.specs.declared.statement.Statement.{Statement}
use Rattle.process_semantics.specs.Remains.{Remains, leads_to}
use Rattle.process_semantics.specs.Rests.{entry_number, next_number, rests, rest_among, rest_from}
use Rattle.process_semantics.specs.SeenEntries.{entry_of}
use Rattle.process_semantics.specs.State.{Entry, Run, Test, Last, runs_of, called_by}
use Rattle.process_semantics.proofs.Leading.{body-remains, leads-remains}
use Rattle.process_semantics.proofs.Standing.{entry-stands}
use Rattle.process_semantics.proofs.Told.{told, found}
use Rattle.path_semantics.specs.declared.dues.Dues.{Dues}
use Rattle.path_semantics.specs.declared.reason.Reason.{Reason}
use Rattle.path_semantics.specs.Dues.{with_changed, changed_by_return}
use Rattle.path_semantics.specs.Path.{number_at}
use Rattle.path_semantics.specs.Place.{Place, body_in, body_of, next_in, settled}
use Rattle.path_semantics.specs.Told.{statements_in, HasDistinctNumbers}
use Rattle.discipline.specs.declared.find.Found.{Found}
use Rattle.discipline.specs.declared.stack.Position.{Position}
use Rattle.discipline.specs.declared.walker.Way.TheVariants.{Onward, Into}
use Rattle.due_search.specs.reason_dues.specs.Amounts.{amount, most_of, after_changed}
use Rattle.discipline.specs.Finding.{IsFoundAmong, IsFoundIn, IsFirstNumber}
use Rattle.discipline.specs.Walker.{rest_at, Tells, IsNext, LeadsBy, IsAt, IsSettled, TellsNextIn, KeepsSettled}
use Rattle.due_search.specs.reason_dues.proofs.Amounts.{amount-changed}
use Rattle.due_search.specs.reason_dues.proofs.Cut.{changed-cut}

-- What comes next at a position

if-some : (number : ℕ) (all : List (List Entry)) (entry : Entry) (rest : List Entry)
    → (if number == 0 then Some [] else rest_among number all) ≡ Some (entry ∷ rest)
    → rest_among number all ≡ Some (entry ∷ rest)
if-some number all entry rest is = by_test (number == 0) is
  where
    by_test : (b : Bool) → (if b then Some [] else rest_among number all) ≡ Some (entry ∷ rest)
        → rest_among number all ≡ Some (entry ∷ rest)
    by_test true is = absurd (let same : [] ≡ entry ∷ rest = cc in cc)
    by_test false is = is

pub next-none : (program : Program) (position : Position) → slice_get program.procedures position.procedure ≡ None
    → IsNext program position None
next-none program position none entry rest is =
    let there : rest_from [] position.number ≡ Some (entry ∷ rest) =
    ap (λ (p : Option Procedure). rest_from (statements_in p) position.number) (sym none) ∙ is in
    let no_rest : None ≡ Some (entry ∷ rest) = if-some position.number [] entry rest there in absurd (cc)

pub next-found : (program : Program) (position : Position) (procedure : Procedure) (body : List Statement)
    (result : Option Found) → slice_get program.procedures position.procedure ≡ Some procedure
    → body ≡ procedure.body → IsFoundIn (rests body) 0 position.number result → IsNext program position result
next-found program position procedure body result there body_is among entry rest is =
    by_result result (among [] refl)
    (if-some position.number (rests body []) entry rest
    (ap (λ (ss : List Statement). rest_from ss position.number) (body_is ∙ sym (ap statements_in there)) ∙ is))
  where
    by_result : (result : Option Found) → IsFoundAmong position.number (rests body []) result
        → rest_among position.number (rests body []) ≡ Some (entry ∷ rest)
        → (one : Found) × (result ≡ Some one) × (entry_of one.entry ≡ entry) × (one.after ≡ next_number rest)
    by_result None none some = absurd (let both : None ≡ Some (entry ∷ rest) = sym none ∙ some in cc)
    by_result (Some one) (later, is_later, after) some =
        let both : Some (entry_of one.entry ∷ later) ≡ Some (entry ∷ rest) = sym is_later ∙ some in (
          one,
          refl,
          (let same : entry_of one.entry ≡ entry = cc in same),
          after
              ∙ ap next_number (let same : later ≡ rest = cc in same),
        )

-- Numbers tell what remains

pub has-numbers : (program : Program) → IsOrdered program → IsWithinLimits program → HasDistinctNumbers program
has-numbers program ordered limits = record {
  distinct = λ k procedure there. subst AreDistinct (ap (given_at numbers) there)
      (given-distinct numbers program.procedures k ordered.numbers);
  positive = λ k procedure there n among.
      (limits.numbers n (given-all numbers program.procedures k n
      (subst (λ (o : Option Procedure). IsAmong n (given_at numbers o)) (sym there) among))).0;
}
  where
    numbers : Procedure → List ℕ
    numbers procedure = numbers_of procedure.body

module _ (program : Program) (ordered : IsOrdered program) (limits : IsWithinLimits program) where
  told-at : (k number : ℕ) (frame : List Entry) → Remains (statements_in (slice_get program.procedures k)) frame
      → number ≡ next_number frame
      → rest_at program (record { procedure = k; number = number }) ≡ Some frame
  told-at k number frame remains is = ap (rest_from (statements_in (slice_get program.procedures k))) is
      ∙ which (slice_get program.procedures k) refl remains
    where
      which : (procedure : Option Procedure) → slice_get program.procedures k ≡ procedure
          → Remains (statements_in procedure) frame
          → rest_from (statements_in procedure) (next_number frame) ≡ Some frame
      which None there remains = told [] tt (λ n among. absurd among) frame remains
      which (Some procedure) there remains =
          let numbered = has-numbers program ordered limits in
          told procedure.body (numbered.distinct k procedure there) (numbered.positive k procedure there) frame remains

  remains-at : (position : Position) (frame : List Entry) → rest_at program position ≡ Some frame
      → Remains (statements_in (slice_get program.procedures position.procedure)) frame
      × (next_number frame ≡ position.number)
  remains-at position frame is =
      found (statements_in (slice_get program.procedures position.procedure)) position.number frame is

  first-way : (entry : Entry) (rest : List Entry) → IsAmong rest (leads_to entry rest)
  first-way (Run statement) rest = inl refl
  first-way (Test statement) rest = inl refl
  first-way (Last statement) rest = inl refl

  -- a position from which a procedure goes on
  onward-at : (position : Position) (entry : Entry) (rest frame : List Entry) (number : ℕ)
      → rest_at program position ≡ Some (entry ∷ rest) → number ≡ next_number frame
      → ((frame ≡ []) ⊎ IsAmong frame (leads_to entry rest))
      → rest_at program (record { procedure = position.procedure; number = number }) ≡ Some frame
  onward-at position entry rest frame number is same (inl none) =
      told-at position.procedure number frame (inl none) same
  onward-at position entry rest frame number is same (inr among) =
      told-at position.procedure number frame
      (leads-remains (statements_in (slice_get program.procedures position.procedure)) entry rest frame
      (remains-at position (entry ∷ rest) is).0 among) same

  body-is : (procedure : Option Procedure) → Remains (statements_in procedure) (body_in procedure)
  body-is None = inl refl
  body-is (Some procedure) = body-remains procedure.body

  -- a call is of an earlier procedure
  call-earlier : (position : Position) (entry : Entry) (rest : List Entry) (called : ℕ)
      → rest_at program position ≡ Some (entry ∷ rest) → called_by (entry ∷ rest) ≡ Some called
      → called < position.procedure
  call-earlier position (Test statement) rest called is calls = absurd (cc)
  call-earlier position (Last statement) rest called is calls = absurd (cc)
  call-earlier position (Run statement) rest called is calls =
      which (slice_get program.procedures position.procedure) refl (remains-at position (Run statement ∷ rest) is).0
    where
      which : (procedure : Option Procedure) → slice_get program.procedures position.procedure ≡ procedure
          → Remains (statements_in procedure) (Run statement ∷ rest) → called < position.procedure
      which None there (inl none) = absurd (cc)
      which None there (inr among) = absurd among
      which (Some procedure) there remains =
          ordered.calls position.procedure procedure there called
          (among-given own_calls statement called (all_of procedure.body)
          (entry-stands procedure.body (Run statement) rest remains)
          (subst (λ (o : Option ℕ). IsAmong called (option_to_list o)) (sym calls) (inl refl)))

  few-below : (below : List Position) (k : ℕ) → k + length below ≤ program.main → length below < 64
  few-below below k room = let main = limits.main in let most = limits.procedures.1 in omega arith

  -- Ways

  -- a procedure that goes on
  pub onward : (position : Position) (below positions : List Position) (entry : Entry) (rest : List Entry)
      (callers place : Place) (number : ℕ) → Tells program (position ∷ below) ((entry ∷ rest) ∷ callers)
      → LeadsBy program entry rest callers (Onward number) place
      → (length below < 64 → positions ≡ record { procedure = position.procedure; number = number } ∷ below)
      → Tells program positions place
  onward position below positions entry rest callers place number (called, is, room, tells)
      (frame, same, numbered, among) pushed =
      subst (λ (ps : List Position). Tells program ps place) (sym (pushed (few-below below position.procedure room)))
      (subst (Tells program (record { procedure = position.procedure; number = number } ∷ below)) (sym same)
      (called, onward-at position entry rest frame number is numbered among, room, tells))

  -- a procedure that is entered
  pub entered : (positions new : List Position) (entry : Entry) (rest : List Entry) (callers place : Place)
      (procedure number : ℕ) → Tells program positions ((entry ∷ rest) ∷ callers)
      → LeadsBy program entry rest callers (Into procedure) place → number ≡ next_number (body_of program procedure)
      → (length positions < 64 → new ≡ record { procedure = procedure; number = number } ∷ positions)
      → Tells program new place
  entered [] new entry rest callers place procedure number tells leads numbered pushed = absurd tells
  entered (position ∷ below) new entry rest callers place procedure number (called, is, room, tells) (same, calls)
      numbered pushed =
      let earlier : procedure < position.procedure = call-earlier position entry rest procedure is calls in
      let higher : procedure + (length below + 1) ≤ program.main = omega arith in
      let count : length (position ∷ below) ≡ length below + 1 = counted below in
      let room_here : procedure + length (position ∷ below) ≤ program.main =
      subst (λ (n : ℕ). procedure + n ≤ program.main) (sym count) higher in
      subst (λ (ps : List Position). Tells program ps place)
      (sym (pushed (few-below (position ∷ below) procedure room_here)))
      (subst (Tells program (record { procedure = procedure; number = number } ∷ position ∷ below)) (sym same) (
        calls,
        told-at procedure number (body_of program procedure) (body-is (slice_get program.procedures procedure))
            numbered,
        room_here,
        (called, is, room, tells),
      ))
    where
      counted : (ps : List Position) → length (position ∷ ps) ≡ length ps + 1
      counted ps = omega arith

  -- Leaving

  pub keeps-at-first : (reason : Reason) (positions : List Position) (due : ℕ)
      → KeepsSettled program reason positions due positions due
  keeps-at-first reason positions due place dues tells cut = (place, dues, tells, cut, refl)

  number-some : (position : Position) (frame : List Entry) → rest_at program position ≡ Some frame
      → (position.number ≡ 0 → ⊥) → frame ≡ [] → ⊥
  number-some position frame is some none = some (sym (remains-at position frame is).1 ∙ ap next_number none)

  number-none : (position : Position) (frame : List Entry) → rest_at program position ≡ Some frame
      → position.number ≡ 0 → frame ≡ []
  number-none position frame is none =
      let there : Some [] ≡ Some frame = ap (rest_from
      (statements_in (slice_get program.procedures position.procedure))) (sym none) ∙ is in
      (let same : [] ≡ frame = cc in sym same)

  -- nothing is left to leave where something comes next
  pub stays : (reason : Reason) (positions : List Position) (due : ℕ) (position : Position) (new : List Position)
      (new_due : ℕ) → KeepsSettled program reason positions due new new_due → Some position ≡ slice_get new 0
      → (position.number ≡ 0 → ⊥) → IsSettled program reason positions due new new_due
  stays reason positions due position new new_due keeps top some place dues tells cut =
      let kept = keeps place dues tells cut in
      subst (IsAt program reason new new_due) kept.4 (by_place new kept.0 kept.2 top)
    where
      by_place : (new : List Position) (later : Place) → Tells program new later → Some position ≡ slice_get new 0
          → IsAt program reason new new_due (settled (keeps place dues tells cut).1 later)
      by_place [] later tells_new top = absurd (cc)
      by_place (first ∷ below) [] tells_new top = absurd tells_new
      by_place (first ∷ below) ([] ∷ callers) (called, is, room, below_tells) top =
          absurd (number-some first [] is (λ none.
          some (ap (λ (p : Position). p.number) (let same : position ≡ first = cc in same) ∙ none)) refl)
      by_place (first ∷ below) ((entry ∷ rest) ∷ callers) tells_new top =
          record { tells = tells_new; cut = (keeps place dues tells cut).3 }

  -- nor where the program has ended
  pub ended : (reason : Reason) (positions : List Position) (due : ℕ) (new : List Position) (new_due : ℕ)
      → KeepsSettled program reason positions due new new_due → new ≡ []
      → IsSettled program reason positions due new new_due
  ended reason positions due new new_due keeps none place dues tells cut =
      let kept = keeps place dues tells cut in
      subst (IsAt program reason new new_due) kept.4 (by_place new kept.0 kept.2 none)
    where
      by_place : (new : List Position) (later : Place) → Tells program new later → new ≡ []
          → IsAt program reason new new_due (settled (keeps place dues tells cut).1 later)
      by_place [] [] tells_new none = record { tells = tt; cut = (keeps place dues tells cut).3 }
      by_place [] (frame ∷ callers) tells_new none = absurd tells_new
      by_place (first ∷ below) later tells_new none = absurd (cc)

  -- MAIN is left
  pub left : (reason : Reason) (positions : List Position) (due : ℕ) (position : Position) (before new : List Position)
      (new_due : ℕ) → KeepsSettled program reason positions due before new_due
      → Some position ≡ slice_get before 0 → position.number ≡ 0 → None ≡ slice_get (drop 1 before) 0
      → new ≡ drop 1 (drop 1 before) → IsSettled program reason positions due new new_due
  left reason positions due position before new new_due keeps top none alone left_new place dues tells cut =
      let kept = keeps place dues tells cut in
      subst (IsAt program reason new new_due) kept.4 (by_place before kept.0 kept.2 top alone left_new)
    where
      by_place : (before : List Position) (later : Place) → Tells program before later
          → Some position ≡ slice_get before 0 → None ≡ slice_get (drop 1 before) 0 → new ≡ drop 1 (drop 1 before)
          → IsAt program reason new new_due (settled (keeps place dues tells cut).1 later)
      by_place [] later tells_before top alone left_new = absurd (cc)
      by_place (first ∷ second ∷ below) later tells_before top alone left_new = absurd (cc)
      by_place (first ∷ []) [] tells_before top alone left_new = absurd tells_before
      by_place (first ∷ []) (frame ∷ caller ∷ callers) tells_before top alone left_new = absurd tells_before.3
      by_place (first ∷ []) ((entry ∷ rest) ∷ []) (called, is, room, below_tells) top alone left_new =
          absurd (let empty : entry ∷ rest ≡ [] =
          number-none first (entry ∷ rest) is (ap (λ (p : Position). p.number)
          (let same : first ≡ position = cc in same) ∙ none) in cc)
      by_place (first ∷ []) ([] ∷ []) tells_before top alone left_new =
          subst (λ (ps : List Position). IsAt program reason ps new_due
          (record { place = []; dues = (keeps place dues tells cut).1 })) (sym left_new)
          (record { tells = tt; cut = (keeps place dues tells cut).3 })

  -- a procedure is left, and with it the call in progress
  pub returned : (reason : Reason) (positions : List Position) (due : ℕ) (position caller : Position)
      (before new : List Position) (before_due new_due : ℕ) (result : Option Found) (one : Found)
      → KeepsSettled program reason positions due before before_due → Some position ≡ slice_get before 0
      → position.number ≡ 0 → Some caller ≡ slice_get (drop 1 before) 0 → IsNext program caller result
      → result ≡ Some one
      → new_due ≡ min (most_of program reason)
      (after_changed reason (changed_by_return (Some (entry_of one.entry))) before_due)
      → (length (drop 1 (drop 1 before)) < 64
      → new ≡ record { procedure = caller.procedure; number = one.after } ∷ drop 1 (drop 1 before))
      → KeepsSettled program reason positions due new new_due
  returned reason positions due position caller before new before_due new_due result one keeps top none top_caller next
      is_one due_is pushed place dues tells cut =
      let kept = keeps place dues tells cut in
      by_place before kept.0 kept.2 top top_caller pushed kept.1 kept.3 kept.4
    where
      by_place : (before : List Position) (later : Place) → Tells program before later
          → Some position ≡ slice_get before 0 → Some caller ≡ slice_get (drop 1 before) 0
          → (length (drop 1 (drop 1 before)) < 64
          → new ≡ record { procedure = caller.procedure; number = one.after } ∷ drop 1 (drop 1 before)) → (more : Dues)
          → before_due ≡ min (most_of program reason) (amount reason more) → settled more later ≡ settled dues place
          → (last : Place) × (final : Dues) × Tells program new last
          × (new_due ≡ min (most_of program reason) (amount reason final)) × (settled final last ≡ settled dues place)
      by_place [] later tells_before top top_caller pushed more more_is same = absurd (cc)
      by_place (first ∷ []) later tells_before top top_caller pushed more more_is same = absurd (cc)
      by_place (first ∷ second ∷ below) [] tells_before top top_caller pushed more more_is same = absurd tells_before
      by_place (first ∷ second ∷ below) (frame ∷ []) tells_before top top_caller pushed more more_is same =
          absurd tells_before.3
      by_place (first ∷ second ∷ below) (frame ∷ [] ∷ callers) tells_before top top_caller pushed more more_is same =
          absurd (let none : None ≡ Some first.procedure = tells_before.0 in cc)
      by_place (first ∷ second ∷ below) ((entry ∷ rest) ∷ caller_frame ∷ callers) (called, is, room, below_tells) top
          top_caller pushed more more_is same =
          absurd (let empty : entry ∷ rest ≡ [] =
          number-none first (entry ∷ rest) is (ap (λ (p : Position). p.number)
          (let same_first : first ≡ position = cc in same_first) ∙ none) in cc)
      by_place (first ∷ second ∷ below) ([] ∷ (call ∷ rest) ∷ callers)
          (called, is, room, (below_called, below_is, below_room, below_tells)) top top_caller pushed more more_is
          same =
          let caller_is : caller ≡ second = cc in
          let at = next call rest (ap (rest_at program) caller_is ∙ below_is) in
          let same_one : at.0 ≡ one = let both : Some at.0 ≡ Some one = sym at.1 ∙ is_one in cc in
          let entry_is : entry_of one.entry ≡ call = ap (λ (f : Found). entry_of f.entry) (sym same_one) ∙ at.2 in
          let after_is : one.after ≡ next_number rest = ap (λ (f : Found). f.after) (sym same_one) ∙ at.3 in
          let targets = changed_by_return (Some call) in (
            rest ∷ callers,
            with_changed targets more,
            subst (λ (ps : List Position). Tells program ps (rest ∷ callers))
                (sym (pushed (few-below below second.procedure below_room))) (
                  below_called ∙ ap (λ (p : Position). Some p.procedure) (sym caller_is),
                  ap (λ (k : ℕ). rest_at program (record { procedure = k; number = one.after }))
                      (ap (λ (p : Position). p.procedure) caller_is)
                      ∙ onward-at second call rest rest one.after below_is after_is (inr (first-way call rest)),
                  subst (λ (k : ℕ). k + length below ≤ program.main) (ap (λ (p : Position). p.procedure) (sym
                      caller_is))
                      below_room,
                  below_tells,
                ),
            due_is ∙ ap (λ (e : Entry). min (most_of program reason)
                (after_changed reason (changed_by_return (Some e)) before_due)) entry_is
                ∙ ap (λ (n : ℕ). min (most_of program reason) (after_changed reason targets n)) more_is
                ∙ changed-cut reason (most_of program reason) (amount reason more) targets
                ∙ ap (min (most_of program reason)) (sym (amount-changed reason targets more)),
            same,
          )

  -- a call in progress is always found
  pub lost : (reason : Reason) (positions : List Position) (due : ℕ) (position caller : Position)
      (before new : List Position) (before_due new_due : ℕ)
      → KeepsSettled program reason positions due before before_due
      → Some position ≡ slice_get before 0 → position.number ≡ 0 → Some caller ≡ slice_get (drop 1 before) 0
      → IsNext program caller None → IsSettled program reason positions due new new_due
  lost reason positions due position caller before new before_due new_due keeps top none top_caller next place dues
      tells cut =
      let kept = keeps place dues tells cut in absurd (by_place before kept.0 kept.2 top top_caller)
    where
      by_place : (before : List Position) (later : Place) → Tells program before later
          → Some position ≡ slice_get before 0 → Some caller ≡ slice_get (drop 1 before) 0 → ⊥
      by_place [] later tells_before top top_caller = cc
      by_place (first ∷ []) later tells_before top top_caller = cc
      by_place (first ∷ second ∷ below) [] tells_before top top_caller = tells_before
      by_place (first ∷ second ∷ below) (frame ∷ []) tells_before top top_caller = tells_before.3
      by_place (first ∷ second ∷ below) (frame ∷ [] ∷ callers) tells_before top top_caller =
          let no_call : None ≡ Some first.procedure = tells_before.0 in cc
      by_place (first ∷ second ∷ below) ((entry ∷ rest) ∷ caller_frame ∷ callers) (called, is, room, below_tells) top
          top_caller =
          let empty : entry ∷ rest ≡ [] = number-none first (entry ∷ rest) is
          (ap (λ (p : Position). p.number) (let same_first : first ≡ position = cc in same_first) ∙ none) in cc
      by_place (first ∷ second ∷ below) ([] ∷ (call ∷ rest) ∷ callers)
          (called, is, room, (below_called, below_is, below_room, below_tells)) top top_caller =
          let caller_is : caller ≡ second = cc in
          let at = next call rest (ap (rest_at program) caller_is ∙ below_is) in
          let none_found : None ≡ Some at.0 = at.1 in cc

  -- MAIN begins
  pub begins : (new : List Position) (number : ℕ) → number ≡ next_number (body_of program program.main)
      → new ≡ record { procedure = program.main; number = number } ∷ []
      → Tells program new (body_of program program.main ∷ [])
  begins new number numbered is =
      subst (λ (ps : List Position). Tells program ps (body_of program program.main ∷ [])) (sym is) (
        refl,
        told-at program.main number (body_of program program.main)
            (body-is (slice_get program.procedures program.main)) numbered,
        (omega arith),
        tt,
      )

-- the stack gets shorter
pub shorter : (before middle after : List Position) (top caller : Position) → Some top ≡ slice_get before 0
    → Some caller ≡ slice_get (drop 1 before) 0 → middle ≡ drop 1 (drop 1 before) → length after ≤ length middle + 1
    → length after < length before
shorter [] middle after top caller is is_caller same few = absurd (cc)
shorter (first ∷ []) middle after top caller is is_caller same few = absurd (cc)
shorter (first ∷ second ∷ before) middle after top caller is is_caller same few =
    let count : length middle ≡ length before = ap length same in omega arith

-- What comes next

number-is : (program : Program) (position : Position) (frame : List Entry) → rest_at program position ≡ Some frame
    → next_number frame ≡ position.number
number-is program position frame is =
    (found (statements_in (slice_get program.procedures position.procedure)) position.number frame is).1

zero-none : (program : Program) (position : Position) (frame : List Entry) → rest_at program position ≡ Some frame
    → position.number ≡ 0 → frame ≡ []
zero-none program position frame is none =
    let there : Some [] ≡ Some frame = ap (rest_from (statements_in (slice_get program.procedures position.procedure)))
    (sym none) ∙ is in (let same : [] ≡ frame = cc in sym same)

next-at : (program : Program) (positions : List Position) (position : Position) (place : Place)
    → Tells program positions place → Some position ≡ slice_get positions 0
    → (position.number ≡ 0 → option_map entry_number (next_in place) ≡ None)
    × ((position.number ≡ 0 → ⊥) → option_map entry_number (next_in place) ≡ Some position.number)
next-at program [] position place tells top = absurd (cc)
next-at program (first ∷ below) position [] tells top = absurd tells
next-at program (first ∷ below) position ([] ∷ callers) (called, is, room, below_tells) top = (
  (λ none. refl),
  (λ some. absurd (some (ap (λ (p : Position). p.number) (let same : position ≡ first = cc in same)
      ∙ sym (number-is program first [] is)))),
)
next-at program (first ∷ below) position ((entry ∷ rest) ∷ callers) (called, is, room, below_tells) top =
    let same : first ≡ position = cc in
    let number : entry_number entry ≡ position.number =
    number-is program first (entry ∷ rest) is ∙ ap (λ (p : Position). p.number) same in (
      (λ none. absurd (let empty : entry ∷ rest
          ≡ [] = zero-none program first (entry ∷ rest) is (ap (λ (p : Position). p.number) same ∙ none) in cc)),
      (λ some. ap Some number),
    )

pub tells-some : (positions : List Position) (position : Position) (number : ℕ) (result : Bool)
    → Some position ≡ slice_get positions 0 → (number ≡ 0 → ⊥) → result ≡ (position.number == number)
    → TellsNextIn positions number result
tells-some positions position number result top some is program stand tells = by_test (position.number == number) refl
  where
    known : (position.number ≡ 0 → number_at stand ≡ None)
        × ((position.number ≡ 0 → ⊥) → number_at stand ≡ Some position.number)
    known = next-at program positions position stand.place tells top

    by_test : (b : Bool) → (position.number == number) ≡ b
        → (result ≡ true → number_at stand ≡ Some number) × (number_at stand ≡ Some number → result ≡ true)
    by_test true equal =
        let same : position.number ≡ number = eqb-true position.number number equal in
        ((λ _. known.1 (λ none. some (sym same ∙ none)) ∙ ap Some same), (λ _. is ∙ equal))
    by_test false equal = (
      (λ holds. absurd (let both : true ≡ false = sym holds ∙ is ∙ equal in cc)),
      (λ next. absurd (other next (zero-or-more position.number))),
    )
      where
        zero-or-more : (n : ℕ) → (n ≡ 0) ⊎ (n ≡ 0 → ⊥)
        zero-or-more zero = inl refl
        zero-or-more (suc n) = inr (λ none. absurd (omega arith))

        other : number_at stand ≡ Some number → (position.number ≡ 0) ⊎ (position.number ≡ 0 → ⊥) → ⊥
        other next (inl none) = let both : None ≡ Some number = sym (known.0 none) ∙ next in cc
        other next (inr more) =
            let both : Some position.number ≡ Some number = sym (known.1 more) ∙ next in
            let same : position.number ≡ number = cc in
            let there : (position.number == number) ≡ true = eq-eqb position.number number same in
            let differ : true ≡ false = sym there ∙ equal in cc

pub tells-zero : (positions : List Position) (position : Position) (number : ℕ) (result : Bool)
    → Some position ≡ slice_get positions 0 → number ≡ 0 → result ≡ false
    → TellsNextIn positions number result
tells-zero positions position number result top zero_is none program stand tells = (
  (λ holds. absurd (let both : true ≡ false = sym holds ∙ none in cc)),
  (λ next. absurd (other next (zero-or-more position.number))),
)
  where
    known : (position.number ≡ 0 → number_at stand ≡ None)
        × ((position.number ≡ 0 → ⊥) → number_at stand ≡ Some position.number)
    known = next-at program positions position stand.place tells top

    zero-or-more : (n : ℕ) → (n ≡ 0) ⊎ (n ≡ 0 → ⊥)
    zero-or-more zero = inl refl
    zero-or-more (suc n) = inr (λ none. absurd (omega arith))

    other : number_at stand ≡ Some number → (position.number ≡ 0) ⊎ (position.number ≡ 0 → ⊥) → ⊥
    other next (inl none_here) = let both : None ≡ Some number = sym (known.0 none_here) ∙ next in cc
    other next (inr more) =
        let both : Some position.number ≡ Some number =
        sym (known.1 more) ∙ next in more (let same : position.number ≡ number = cc in same ∙ zero_is)

pub tells-empty : (positions : List Position) (number : ℕ) → None ≡ slice_get positions 0
    → TellsNextIn positions number false
tells-empty (first ∷ below) number top program stand tells = absurd (cc)
tells-empty [] number top program stand tells =
    ((λ holds. absurd (cc)), (λ next. absurd (by_place stand.place tells next)))
  where
    by_place : (place : Place) → Tells program [] place → option_map entry_number (next_in place) ≡ Some number → ⊥
    by_place [] tells next = cc
    by_place (frame ∷ callers) tells next = tells

-- with which number a procedure begins
pub body-begins : (program : Program) (k : ℕ) (procedure : Procedure) (body : List Statement) (number : ℕ)
    → IsFirstNumber body 0 number → body ≡ procedure.body → slice_get program.procedures k ≡ Some procedure
    → number ≡ next_number (body_of program k)
body-begins program k procedure body number begins same there =
    begins [] refl ∙ ap next_number (append-nil (runs_of body))
    ∙ ap (λ (ss : List Statement). next_number (runs_of ss)) same
    ∙ ap (λ (p : Option Procedure). next_number (body_in p)) (sym there)

pub top-none : (positions : List Position) → None ≡ slice_get positions 0 → positions ≡ []
top-none [] none = refl
top-none (first ∷ positions) none = absurd (cc)
