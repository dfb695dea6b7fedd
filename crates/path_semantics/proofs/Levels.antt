-- The numbers of the entries that remain at a place: those of one frame are apart, and each frame has those of a
-- procedure of its own.
use Rattle.std.proofs.Common.{◌≡◌, inl, inr, ℕ, ◌+◌, ◌<◌, ◌≤◌, List, [], ◌∷◌, ◌++◌, drop, Option, Some, None, slice_get}
use Rattle.std.proofs.Common.{flat_map, refl, ap, subst, sym, append_assoc}
use Rattle.tal_tree.specs.declared.program.Program.{Program}
use Rattle.tal_tree.specs.declared.program.Procedure.{Procedure}
use Rattle.tal_tree.specs.declared.statement.Statement.{Statement}
use Rattle.tal_tree.specs.declared.statement.What.{What, What-F, out-What}
use Rattle.process_semantics.specs.State.{Entry, Run, Test, Last, runs_of}
use Rattle.process_semantics.specs.Rests.{entry_number}
use Rattle.tal_tree.specs.ByStatements.{HoldsInside, holds-before, by-statements}
use Rattle.tal_tree.specs.Statements.{last_of, body_before, all_in, all_of, numbers_of, own_calls, calls_of}
use Rattle.path_semantics.specs.Place.{Place, body_in}
use Rattle.gd_words.specs.Members.{AreDistinct, IsAmong}
use Rattle.tal_tree.specs.Ordered.{IsOrdered}
use Rattle.gd_words.proofs.Distinct.{distinct-left, distinct-right, distinct-apart, given-part, given_at}
use Rattle.gd_words.proofs.Distinct.{given-distinct}
use Rattle.process_semantics.proofs.Rests.{runs-more}
use Rattle.process_semantics.proofs.Standing.{statement_of}
use Rattle.gd_words.proofs.Among.{among-left, among-right, among-either}
use Rattle.tal_tree.proofs.Numbers.{numbers_inside, numbers-more}
use Rattle.tal_tree.proofs.Within.{within-is, before-within}

-- the numbers in a statement, at any level: its own first, since a DO's test leads into its body
abbrev pub inside : ℕ → What-F What Statement → List ℕ
inside number what = number ∷ (numbers_of (body_before what) ++ numbers_inside number what)

abbrev pub inside_test : ℕ → What-F What Statement → List ℕ
inside_test number (What-F.For variable from to down step body last) = (number + 1) ∷ numbers_of body ++ last ∷ []
inside_test number _ = (number + 1) ∷ []

-- the numbers of an entry and of what it leads into
abbrev pub numbers_at : Entry → List ℕ
numbers_at (Run statement) = inside statement.number (out-What statement.what)
numbers_at (Test statement) = inside_test statement.number (out-What statement.what)
numbers_at (Last statement) = last_of (out-What statement.what) ∷ []

-- the calls in an entry's statement
abbrev pub calls_at : Entry → List ℕ
calls_at entry = flat_map own_calls (all_in (statement_of entry))

number-in-test : (number : ℕ) (what : What-F What Statement) → IsAmong (number + 1) (inside_test number what)
number-in-test number (What-F.For variable from to down step body last) = inl refl
number-in-test number _ = inl refl

pub number-own : (entry : Entry) → IsAmong (entry_number entry) (numbers_at entry)
number-own (Run statement) = inl refl
number-own (Test statement) = number-in-test statement.number (out-What statement.what)
number-own (Last statement) = inl refl

-- Frames

-- no later entry has a number of an earlier one
abbrev pub AreApart : List Entry → Type 0
AreApart [] = Unit {0}
AreApart (entry ∷ rest) = AreDistinct (numbers_at entry)
    × ((later : Entry) → IsAmong later rest → IsAmong (entry_number later) (numbers_at entry) → ⊥) × AreApart rest

abbrev pub numbers_of_procedure : Program → ℕ → List ℕ
numbers_of_procedure program k =
    given_at (λ (procedure : Procedure). numbers_of procedure.body) (slice_get program.procedures k)

-- an entry is of a procedure, and calls procedures before it
pub record BelongsTo (program : Program) (k : ℕ) (entry : Entry) : Type 0 where
  pub numbers : (n : ℕ) → IsAmong n (numbers_at entry) → IsAmong n (numbers_of_procedure program k)
  pub calls : (called : ℕ) → IsAmong called (calls_at entry) → called < k

abbrev pub BelongTo : Program → ℕ → List Entry → Type 0
BelongTo program k entries = (entry : Entry) → IsAmong entry entries → BelongsTo program k entry

pub record IsFrameOf (program : Program) (k : ℕ) (frame : List Entry) : Type 0 where
  pub apart : AreApart frame
  pub belong : BelongTo program k frame

-- each frame is of a procedure before that of the frame below it
abbrev pub AreLevels : Program → ℕ → Place → Type 0
AreLevels program low [] = Unit {0}
AreLevels program low (frame ∷ callers) =
    (k : ℕ) × (low ≤ k) × IsFrameOf program k frame × AreLevels program (k + 1) callers

-- What a statement of some has, they all have

abbrev HaveNumbers : List Statement → Type 0
HaveNumbers statements = (entry : Entry) (n : ℕ) → IsAmong entry (runs_of statements) → IsAmong n (numbers_at entry)
    → IsAmong n (numbers_of statements)

-- the numbers of the first statement are among those of all
first-has : (statement : Statement) (rest : List Statement) (n : ℕ) → IsAmong n (numbers_at (Run statement))
    → IsAmong n (numbers_of (body_before (out-What statement.what))
    ++ (statement.number ∷ numbers_inside statement.number (out-What statement.what) ++ numbers_of rest))
first-has statement rest n (inl same) =
    among-right n (numbers_of (body_before (out-What statement.what)))
    (statement.number ∷ numbers_inside statement.number (out-What statement.what) ++ numbers_of rest) (inl same)
first-has statement rest n (inr among) =
    let before : List ℕ = numbers_of (body_before (out-What statement.what)) in
    let inner : List ℕ = numbers_inside statement.number (out-What statement.what) in
    elim (among-either n before inner among) [
      | inl here' ↦ among-left n before (statement.number ∷ inner ++ numbers_of rest) here'
      | inr there' ↦ among-right n before (statement.number ∷ inner ++ numbers_of rest)
          (inr (among-left n inner (numbers_of rest) there'))
    ]

more-numbers : (statement : Statement) (rest : List Statement) → HoldsInside HaveNumbers (out-What statement.what)
    → HaveNumbers rest → HaveNumbers (statement ∷ rest)
more-numbers statement rest parts others entry n among inner =
    subst (IsAmong n) (sym (numbers-more statement rest))
    (elim (among-either entry (runs_of body) (Run statement ∷ runs_of rest)
    (subst (IsAmong entry) (runs-more statement rest) among)) [
      | inl in_body ↦ among-left n (numbers_of body) own
          (holds-before HaveNumbers (λ e m none inner. absurd none) (out-What statement.what) parts entry n in_body
          inner)
      | inr later ↦ which later
    ])
  where
    body : List Statement
    body = body_before (out-What statement.what)

    own : List ℕ
    own = statement.number ∷ numbers_inside statement.number (out-What statement.what) ++ numbers_of rest

    which : IsAmong entry (Run statement ∷ runs_of rest) → IsAmong n (numbers_of body ++ own)
    which (inl same) =
        first-has statement rest n (subst (λ (e : Entry). IsAmong n (numbers_at e)) same inner)
    which (inr among) = among-right n (numbers_of body) own
        (inr (among-right n (numbers_inside statement.number (out-What statement.what)) (numbers_of rest)
        (others entry n among inner)))

pub run-numbers : (statements : List Statement) → HaveNumbers statements
run-numbers = by-statements HaveNumbers (record { none = λ entry n among inner. absurd among; more = more-numbers })

-- the same of the statements that stand in one
abbrev HaveParts : List Statement → Type 0
HaveParts statements = (entry : Entry) (part : Statement) → IsAmong entry (runs_of statements)
    → IsAmong part (all_in (statement_of entry)) → IsAmong part (all_of statements)

more-parts : (statement : Statement) (rest : List Statement) → HoldsInside HaveParts (out-What statement.what)
    → HaveParts rest → HaveParts (statement ∷ rest)
more-parts statement rest parts others entry part among inner =
    elim (among-either entry (runs_of (body_before (out-What statement.what))) (Run statement ∷ runs_of rest)
    (subst (IsAmong entry) (runs-more statement rest) among)) [
      | inl in_body ↦ among-left part (all_in statement) (all_of rest)
          (inr (subst (IsAmong part) (sym (within-is statement.what)) (before-within (out-What statement.what) part
          (holds-before HaveParts (λ e m none inner. absurd none) (out-What statement.what) parts entry part in_body
          inner))))
      | inr later ↦ which later
    ]
  where
    which : IsAmong entry (Run statement ∷ runs_of rest) → IsAmong part (all_of (statement ∷ rest))
    which (inl same) = among-left part (all_in statement) (all_of rest)
        (subst (λ (e : Entry). IsAmong part (all_in (statement_of e))) same inner)
    which (inr among) = among-right part (all_in statement) (all_of rest) (others entry part among inner)

run-parts : (statements : List Statement) → HaveParts statements
run-parts = by-statements HaveParts (record { none = λ entry part among inner. absurd among; more = more-parts })

pub run-calls : (statements : List Statement) (entry : Entry) (n : ℕ) → IsAmong entry (runs_of statements)
    → IsAmong n (calls_at entry) → IsAmong n (calls_of statements)
run-calls statements entry n among inner =
    given-part own_calls (all_in (statement_of entry)) (all_of statements)
    (λ part there'. run-parts statements entry part among there') n inner

pub apart-join : (first second : List Entry) → AreApart first → AreApart second
    → ((entry later : Entry) → IsAmong entry first → IsAmong later second
    → IsAmong (entry_number later) (numbers_at entry) → ⊥) → AreApart (first ++ second)
apart-join [] second one two cross = two
apart-join (entry ∷ first) second one two cross = (
  one.0,
  (λ later among. elim (among-either later first second among)
      [ inl here' ↦ one.1 later here' | inr there' ↦ cross entry later (inl refl) there' ]),
  apart-join first second one.2 two (λ e later among. cross e later (inr among)),
)

-- a number that stands behind others may stand before them
moved-first : (before : List ℕ) (n : ℕ) (rest : List ℕ) → AreDistinct (before ++ (n ∷ rest))
    → AreDistinct (n ∷ (before ++ rest))
moved-first [] n rest distinct = distinct
moved-first (b ∷ before) n rest distinct =
    let moved : AreDistinct (n ∷ (before ++ rest)) = moved-first before n rest distinct.1 in (
      (λ among. elim among [
        | inl same ↦ distinct.0 (among-right b before (n ∷ rest) (inl (sym same)))
        | inr later ↦ moved.0 later
      ]),
      (
        (λ among. elim (among-either b before rest among) [
          | inl here' ↦ distinct.0 (among-left b before (n ∷ rest) here')
          | inr there' ↦ distinct.0 (among-right b before (n ∷ rest) (inr there'))
        ]),
        moved.1,
      ),
    )

abbrev AreRunsApart : List Statement → Type 0
AreRunsApart statements = AreDistinct (numbers_of statements) → AreApart (runs_of statements)

more-apart : (statement : Statement) (rest : List Statement) → HoldsInside AreRunsApart (out-What statement.what)
    → AreRunsApart rest → AreRunsApart (statement ∷ rest)
more-apart statement rest parts others distinct =
    subst AreApart (sym (runs-more statement rest))
    (apart-join (runs_of body) (Run statement ∷ runs_of rest)
    (holds-before AreRunsApart (λ none. tt) (out-What statement.what) parts
    (distinct-left (numbers_of body) own whole)) (
      distinct-left (numbers_at (Run statement)) (numbers_of rest) split,
      (λ later among inner. distinct-apart (numbers_at (Run statement)) (numbers_of rest) split (entry_number later)
          inner
          (run-numbers rest later (entry_number later) among (number-own later))),
      others (distinct-right (numbers_at (Run statement)) (numbers_of rest) split),
    )
    (λ entry later among there' inner. distinct-apart (numbers_of body) own whole (entry_number later)
    (run-numbers body entry (entry_number later) among inner) (later-own later there')))
  where
    body : List Statement
    body = body_before (out-What statement.what)

    inner_numbers : List ℕ
    inner_numbers = numbers_inside statement.number (out-What statement.what)

    own : List ℕ
    own = statement.number ∷ inner_numbers ++ numbers_of rest

    whole : AreDistinct (numbers_of body ++ own)
    whole = subst AreDistinct (numbers-more statement rest) distinct

    split : AreDistinct (numbers_at (Run statement) ++ numbers_of rest)
    split = subst (λ (ns : List ℕ). AreDistinct (statement.number ∷ ns))
        (sym (append_assoc (numbers_of body) inner_numbers (numbers_of rest)))
        (moved-first (numbers_of body) statement.number (inner_numbers ++ numbers_of rest) whole)

    later-own : (later : Entry) → IsAmong later (Run statement ∷ runs_of rest) → IsAmong (entry_number later) own
    later-own later (inl same) = inl (ap entry_number same)
    later-own later (inr among) = inr (among-right (entry_number later) inner_numbers (numbers_of rest)
        (run-numbers rest later (entry_number later) among (number-own later)))

pub apart-runs : (statements : List Statement) → AreRunsApart statements
apart-runs = by-statements AreRunsApart (record { none = λ distinct. tt; more = more-apart })

apart-drop : (frame : List Entry) → AreApart frame → AreApart (drop 1 frame)
apart-drop [] apart = tt
apart-drop (entry ∷ rest) apart = apart.2

drop-among : (entry : Entry) (frame : List Entry) → IsAmong entry (drop 1 frame) → IsAmong entry frame
drop-among entry [] among = among
drop-among entry (first ∷ rest) among = inr among

pub dropped : (program : Program) (k : ℕ) (frame : List Entry) → IsFrameOf program k frame
    → IsFrameOf program k (drop 1 frame)
dropped program k frame is =
    record { apart = apart-drop frame is.apart; belong = λ entry among. is.belong entry (drop-among entry frame among) }

pub body-frame : (program : Program) → IsOrdered program → (k : ℕ) (procedure : Option Procedure)
    → slice_get program.procedures k ≡ procedure
    → IsFrameOf program k (body_in procedure)
body-frame program ordered k None is = record { apart = tt; belong = λ entry among. absurd among }
body-frame program ordered k (Some procedure) is =
    let numbers : numbers_of procedure.body ≡ numbers_of_procedure program k =
    ap (given_at (λ (procedure : Procedure). numbers_of procedure.body)) (sym is) in
    record {
      apart = apart-runs procedure.body
          (subst AreDistinct (sym numbers) (given-distinct (λ (procedure : Procedure). numbers_of procedure.body)
          program.procedures k ordered.numbers));
      belong = λ entry among. record {
        numbers = λ n inner. subst (IsAmong n) numbers (run-numbers procedure.body entry n among inner);
        calls = λ called inner. ordered.calls k procedure is called (run-calls procedure.body entry called among inner);
      };
    }
