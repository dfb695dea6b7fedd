-- Each entry has the number of its place, and what remains from a number on begins with its entry.
use Rattle.std.proofs.Common.{◌≡◌, inl, inr, ℕ, zero, suc, ◌+◌, List, [], ◌∷◌, ◌++◌, map, flat_map, slice_get}
use Rattle.std.proofs.Common.{Option, Some, None, refl, ap, ap₂, subst, sym, ◌∙◌, arith}
use Rattle.std.proofs.lemmas.List.{map-append}
use Rattle.std.proofs.lemmas.Option.{slice_get-map}
use Rattle.std.specs.Option.{option_map}
use Rattle.gd_words.specs.Members.{IsAmong}
use Rattle.gd_words.proofs.Among.{among-given}
use Rattle.process_semantics.specs.Rests.{entry_number, next_number, rests_before, rests_in, rests_of, rests_row}
use Rattle.process_semantics.specs.State.{Entry, Run, Test, Last, first_of, runs_row}
use Rattle.process_semantics.proofs.Told.{in-order}
use Rattle.tal_tree.specs.Ordered.{IsNumbered, numbers_in_all}
use Rattle.tal_tree.specs.Rows.{rows}
use Rattle.tal_tree.specs.Statements.{numbers_of}
use Rattle.tal_tree.specs.declared.program.Procedure.{Procedure}
use Rattle.tal_tree.specs.declared.program.Program.{Program}
use Rattle.tal_tree.specs.declared.statement.Statement.{Statement}
use Rattle.tal_tree.specs.declared.statement.What.{What, Assign, AssignCall, If', While', For', DoUntil', Call}
use Rattle.tal_tree.specs.declared.statement.What.{Return, ReadUpdate, Reply, WriteRead, Checkpoint, CheckMonitor}
use Rattle.tal_tree.specs.declared.statement.What.{Open, Stop}
use Rattle.tal_tree.specs.declared.statement.What.{Row_of-Statement, end_of-Statement, more_of-Statement}
use Rattle.program_entries.specs.Entries.{entries_row, entries_before, entries_within, entries_in, entries_of}
use Rattle.program_entries.specs.Entries.{entry_among, entry_at}

-- What remains from each number on begins with its entry

abbrev firsts : List (List Entry) → List (Option Entry)
firsts all = map first_of all

abbrev each : List Entry → List (Option Entry)
each entries = map Some entries

row-each : (first second : List Entry) → each (first ++ second) ≡ each first ++ each second
row-each first second = map-append Some first second

-- one statement, behind what comes before its own entry
abbrev led : List Entry → Entry → List Entry → List Entry → List Entry
led before own inner others = before ++ (own ∷ inner ++ others)

led-each : (before : List Entry) (own : Entry) (inner others : List Entry)
    → each (led before own inner others) ≡ each before ++ (Some own ∷ each inner ++ each others)
led-each before own inner others =
    row-each before (own ∷ inner ++ others)
    ∙ ap (λ (later : List (Option Entry)). each before ++ (Some own ∷ later)) (row-each inner others)

mutual
  row-firsts : {n : _} (row : Row_of-Statement n) (after : List Entry)
      → firsts (rests_row row after) ≡ each (entries_row row)
  row-firsts end_of-Statement after = refl
  row-firsts (more_of-Statement number line what rest) after =
      let self : Statement = record { number = number; line = line; what = what } in
      let later : List Entry = runs_row rest ++ after in
      map-append first_of (rests_before what (Run self ∷ later))
      ((Run self ∷ later) ∷ rests_in what self later ++ rests_row rest after)
      ∙ ap₂ (λ (before inner : List (Option Entry)). before ++ (Some (Run self) ∷ inner))
      (before-firsts what (Run self ∷ later))
      (map-append first_of (rests_in what self later) (rests_row rest after)
      ∙ ap₂ (λ (inner others : List (Option Entry)). inner ++ others) (inside-firsts what self later)
      (row-firsts rest after))
      ∙ sym (led-each (entries_before what) (Run self) (entries_within self what) (entries_row rest))

  before-firsts : (what : What) (after : List Entry) → firsts (rests_before what after) ≡ each (entries_before what)
  before-firsts (DoUntil' s body test) after = row-firsts body after
  before-firsts (Assign to value) after = refl
  before-firsts (AssignCall to procedure arguments) after = refl
  before-firsts (If' test s first t second) after = refl
  before-firsts (While' test s body) after = refl
  before-firsts (For' variable from to down step s body last) after = refl
  before-firsts (Call procedure arguments) after = refl
  before-firsts (Return value) after = refl
  before-firsts (ReadUpdate buffer most got) after = refl
  before-firsts (Reply buffer count) after = refl
  before-firsts (WriteRead file buffer send room got) after = refl
  before-firsts (Checkpoint items files) after = refl
  before-firsts CheckMonitor after = refl
  before-firsts (Open file) after = refl
  before-firsts Stop after = refl

  inside-firsts : (what : What) (self : Statement) (after : List Entry)
      → firsts (rests_in what self after) ≡ each (entries_within self what)
  inside-firsts (If' test s first t second) self after =
      map-append first_of (rests_row first after) (rests_row second after)
      ∙ ap₂ (λ (xs ys : List (Option Entry)). xs ++ ys) (row-firsts first after) (row-firsts second after)
      ∙ sym (row-each (entries_row first) (entries_row second))
  inside-firsts (While' test s body) self after = row-firsts body (Run self ∷ after)
  inside-firsts (For' variable from to down step s body last) self after =
      ap (λ (inner : List (Option Entry)). Some (Test self) ∷ inner)
      (map-append first_of (rests_row body (Last self ∷ Test self ∷ after)) ((Last self ∷ Test self ∷ after) ∷ [])
      ∙ ap (λ (inner : List (Option Entry)). inner ++ Some (Last self) ∷ [])
      (row-firsts body (Last self ∷ Test self ∷ after))
      ∙ sym (row-each (entries_row body) (Last self ∷ [])))
  inside-firsts (DoUntil' s body test) self after = refl
  inside-firsts (Assign to value) self after = refl
  inside-firsts (AssignCall to procedure arguments) self after = refl
  inside-firsts (Call procedure arguments) self after = refl
  inside-firsts (Return value) self after = refl
  inside-firsts (ReadUpdate buffer most got) self after = refl
  inside-firsts (Reply buffer count) self after = refl
  inside-firsts (WriteRead file buffer send room got) self after = refl
  inside-firsts (Checkpoint items files) self after = refl
  inside-firsts CheckMonitor self after = refl
  inside-firsts (Open file) self after = refl
  inside-firsts Stop self after = refl

body-firsts : (body : List Statement) → firsts (rests_of body) ≡ each (entries_in body)
body-firsts body = row-firsts (rows body) []

among-firsts : (entry : Entry) (rest : List Entry) (all : List (List Entry)) → IsAmong (entry ∷ rest) all
    → IsAmong (Some entry) (firsts all)
among-firsts entry rest [] among = absurd among
among-firsts entry rest (one ∷ all) (inl same) = inl (ap first_of same)
among-firsts entry rest (one ∷ all) (inr among) = inr (among-firsts entry rest all among)

among-each : (entry : Entry) (entries : List Entry) → IsAmong (Some entry) (each entries) → IsAmong entry entries
among-each entry [] among = absurd among
among-each entry (one ∷ entries) (inl same) = inl (cc)
among-each entry (one ∷ entries) (inr among) = inr (among-each entry entries among)

-- Numbers

abbrev number_if : Option Entry → ℕ
number_if None = 0
number_if (Some entry) = entry_number entry

of-firsts : (all : List (List Entry)) → map next_number all ≡ map number_if (firsts all)
of-firsts [] = refl
of-firsts ([] ∷ all) = ap (λ (later : List ℕ). 0 ∷ later) (of-firsts all)
of-firsts ((entry ∷ rest) ∷ all) = ap (λ (later : List ℕ). entry_number entry ∷ later) (of-firsts all)

of-each : (entries : List Entry) → map number_if (each entries) ≡ map entry_number entries
of-each [] = refl
of-each (entry ∷ entries) = ap (λ (later : List ℕ). entry_number entry ∷ later) (of-each entries)

body-numbers : (body : List Statement) → map entry_number (entries_in body) ≡ numbers_of body
body-numbers body =
    sym (of-each (entries_in body)) ∙ ap (map number_if) (sym (body-firsts body)) ∙ sym (of-firsts (rests_of body))
    ∙ in-order body

-- Whole programs

all-numbers : (procedures : List Procedure)
    → map entry_number (flat_map (λ procedure. entries_in procedure.body) procedures) ≡ numbers_in_all procedures
all-numbers [] = refl
all-numbers (procedure ∷ rest) =
    map-append entry_number (entries_in procedure.body) (flat_map (λ procedure. entries_in procedure.body) rest)
    ∙ ap₂ (λ (xs ys : List ℕ). xs ++ ys) (body-numbers procedure.body) (all-numbers rest)

pub numbers-each : (program : Program) → map entry_number (entries_of program) ≡ numbers_in_all program.procedures
numbers-each program = all-numbers program.procedures

-- where an entry stands
record IsAt (entry : Entry) (entries : List Entry) : Type 0 where
  place : ℕ
  there : slice_get entries place ≡ Some entry

at-place : (entry : Entry) (entries : List Entry) → IsAmong entry entries → IsAt entry entries
at-place entry [] among = absurd among
at-place entry (one ∷ entries) (inl same) = record { place = zero; there = ap Some (sym same) }
at-place entry (one ∷ entries) (inr among) =
    let at = at-place entry entries among in record { place = suc at.place; there = at.there }

number-at : (entry : Entry) (entries : List Entry) (place : ℕ) → slice_get entries place ≡ Some entry
    → slice_get (map entry_number entries) place ≡ Some (entry_number entry)
number-at entry entries place there =
    slice_get-map entry_number entries place ∙ ap (option_map entry_number) there

pub next-named : (program : Program) (procedure : Procedure) (entry : Entry) (rest : List Entry) → IsNumbered program
    → IsAmong procedure program.procedures → IsAmong (entry ∷ rest) (rests_of procedure.body)
    → entry_at program (entry_number entry) ≡ Some entry
next-named program procedure entry rest numbered among inside =
    ap (entry_among (entries_of program)) is ∙ at.there
  where
    within : IsAmong entry (entries_in procedure.body)
    within = among-each entry (entries_in procedure.body)
        (subst (IsAmong (Some entry)) (body-firsts procedure.body)
        (among-firsts entry rest (rests_of procedure.body) inside))

    at : IsAt entry (entries_of program)
    at = at-place entry (entries_of program)
        (among-given (λ (p : Procedure). entries_in p.body) procedure entry program.procedures among within)

    is : entry_number entry ≡ suc at.place
    is = let counted : entry_number entry ≡ at.place + 1 =
        numbered at.place (entry_number entry)
        (subst (λ (numbers : List ℕ). slice_get numbers at.place ≡ Some (entry_number entry)) (numbers-each program)
        (number-at entry (entries_of program) at.place at.there)) in
        omega arith
