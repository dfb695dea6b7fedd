-- Each trap is told: if nothing comes of a step, there is the trap of a value, of a count or of a target.
use Rattle.std.proofs.Common.{◌≡◌, ◌⊎◌, inl, inr, ℕ, ℤ, Bool, true, false, if◌then◌else◌, is_some, List, [], ◌∷◌, drop}
use Rattle.std.proofs.Common.{slice_get, Option, Some, None, IsSome, Ok, Err, refl, ap, ◌∙◌}
use Rattle.std.specs.Option.{option_and_then, option_map, option_or}
use Rattle.std.specs.Result.{result_ok}
use Rattle.process_semantics.specs.Changes.{left, variable_cell, variable_of}
use Rattle.process_semantics.specs.Points.{point_in}
use Rattle.process_semantics.specs.State.{Entry, Frame, ProgramState, Run, Test, Last, count_of, first_of, good_count}
use Rattle.process_semantics.specs.State.{memory_of, next_of, words_of}
use Rattle.process_semantics.specs.Steps.{state_after_assigning, state_after_count, state_after_count_in}
use Rattle.process_semantics.specs.Steps.{state_after_entry, entered_by, for_begun, given}
use Rattle.process_semantics.specs.Steps.{given_in, given_to, goes_round, inner_in, result_of, state_after_return}
use Rattle.process_semantics.specs.Steps.{tested}
use Rattle.process_semantics.specs.Steps.{tested_in, values_of}
use Rattle.process_semantics.specs.declared.point.Point.TheVariants as point
use Rattle.tal_tree.specs.declared.expression.Cond.{Cond}
use Rattle.tal_tree.specs.declared.expression.Expr.{Expr}
use Rattle.tal_tree.specs.declared.expression.Spot.{Spot}
use Rattle.tal_tree.specs.declared.expression.Variable.{Variable}
use Rattle.tal_tree.specs.declared.program.Procedure.{Procedure}
use Rattle.tal_tree.specs.declared.program.Program.{Program}
use Rattle.tal_tree.specs.declared.statement.Statement.{Statement}
use Rattle.tal_tree.specs.declared.statement.What.{What, What-F, out-What}
use Rattle.value_traps.proofs.Lacks.{cell-ok, found, none-err, none-trap, truth-ok, value-ok}
use Rattle.value_traps.specs.Traps.{Worked, cell_or_trap, trap_of, truth_or_trap, value_or_trap, word_or_trap}
use Rattle.value_traps.specs.declared.trap.ValueTrap.TheVariants.{NotThere}
use Rattle.tal_values.specs.Value.{Memory, cell_of, truth_of, value_of, word_at}
use Rattle.tal_values.specs.declared.memory.Cell.{Cell}
use Rattle.program_ends.specs.Traps.{WorksOut, trap_among, trap_in_count, trap_in_statement, trap_in_test, trap_of_call}
use Rattle.program_ends.specs.Traps.{trap_of_count, trap_of_number, trap_of_result, trap_of_spot, trap_of_target}
use Rattle.program_ends.specs.Traps.{trap_of_test, trap_of_variable}
use Rattle.program_ends.specs.declared.ending.Trap.{Trap}
use Rattle.program_ends.proofs.Why.{asks-why, reads-why, replies-why}

or-first : {A : Type 0} (first second : Option A) → IsSome first → IsSome (option_or first second)
or-first None second is = absurd (cc)
or-first (Some x) second is = refl

or-second : {A : Type 0} (first second : Option A) → IsSome second → IsSome (option_or first second)
or-second None second is = is
or-second (Some x) second is = refl

spot-told : (m : Memory) (spot : Spot) → cell_of m spot ≡ None → IsSome (trap_of_spot m spot)
spot-told m spot none = none-err (cell_or_trap m spot) (cell-ok m spot ∙ none)

test-told : (m : Memory) (test : Cond) → truth_of m test ≡ None → IsSome (trap_of_test m test)
test-told m test none = none-err (truth_or_trap m test) (truth-ok m test ∙ none)

variable-told : (m : Memory) (variable : Variable) → word_at m (variable_cell variable) ≡ None
    → IsSome (trap_of_variable m variable)
variable-told m variable none =
    none-err (word_or_trap m (variable_cell variable)) (found (word_at m (variable_cell variable)) NotThere ∙ none)

result-told : (m : Memory) (value : Option Expr) → result_of m value ≡ None → IsSome (trap_of_result m value)
result-told m None none = absurd (cc)
result-told m (Some e) none = none-trap m e none

-- Statements

map-none : (f : List ℤ → List ℤ) (words : Option (List ℤ)) → option_map f words ≡ None → words ≡ None
map-none f None none = refl
map-none f (Some words) none = absurd (cc)

among-told : (m : Memory) (es : List Expr) → values_of m es ≡ None → IsSome (trap_among m es)
among-told m [] none = absurd (cc)
among-told m (e ∷ es) none = by (value_of m e) refl none (among-told m es)
  where
    by : (word : Option ℤ) → value_of m e ≡ word
        → option_and_then (λ word. option_map (λ words. word ∷ words) (values_of m es)) word ≡ None
        → (values_of m es ≡ None → IsSome (trap_among m es)) → IsSome (option_or (trap_of m e) (trap_among m es))
    by None is none later = or-first (trap_of m e) (trap_among m es) (none-trap m e is)
    by (Some word) is none later =
        or-second (trap_of m e) (trap_among m es) (later (map-none (λ words. word ∷ words) (values_of m es) none))

assign-told : (program : Program) (s : ProgramState) (to : Spot) (value : Expr)
    → state_after_assigning s (cell_of (memory_of program s) to) (value_of (memory_of program s) value) ≡ None
    → IsSome (option_or (trap_of (memory_of program s) value) (trap_of_spot (memory_of program s) to))
assign-told program s to value none =
    by (cell_of (memory_of program s) to) (value_of (memory_of program s) value) refl refl none
  where
    by : (cell : Option Cell) (word : Option ℤ) → cell_of (memory_of program s) to ≡ cell
        → value_of (memory_of program s) value ≡ word → state_after_assigning s cell word ≡ None
        → IsSome (option_or (trap_of (memory_of program s) value) (trap_of_spot (memory_of program s) to))
    by cell None at is none = or-first _ _ (none-trap (memory_of program s) value is)
    by None (Some word) at is none = or-second _ _ (spot-told (memory_of program s) to at)
    by (Some cell) (Some word) at is none = absurd (cc)

no-truth : (s : ProgramState) (first second : List Entry) (truth : Option Bool) → tested s first second truth ≡ None
    → truth ≡ None
no-truth s first second None none = refl
no-truth s first second (Some truth) none = absurd (cc)

not-begun : (s : ProgramState) (statement : Statement) (variable : Variable) (word : Option ℤ)
    → for_begun s statement variable word ≡ None → word ≡ None
not-begun s statement variable None none = refl
not-begun s statement variable (Some word) none = absurd (cc)

no-body : (s : ProgramState) (number : ℕ) (arguments : List ℤ) (body : Option Procedure) → IsSome body
    → entered_by s number arguments body ≡ None → ⊥
no-body s number arguments None there none = absurd (cc)
no-body s number arguments (Some body) there none = absurd (cc)

entered-told : (program : Program) (s : ProgramState) (procedure : ℕ) (arguments : List Expr)
    → IsSome (slice_get program.procedures procedure)
    → state_after_entry program s procedure (values_of (memory_of program s) arguments) ≡ None
    → IsSome (trap_among (memory_of program s) arguments)
entered-told program s procedure arguments there none =
    by (values_of (memory_of program s) arguments) refl none
  where
    by : (words : Option (List ℤ)) → values_of (memory_of program s) arguments ≡ words
        → state_after_entry program s procedure words ≡ None → IsSome (trap_among (memory_of program s) arguments)
    by None is none = among-told (memory_of program s) arguments is
    by (Some words) is none =
        absurd (no-body s procedure words (slice_get program.procedures procedure) there none)

pub statement-told : (program : Program) (s : ProgramState) (statement : Statement) (layer : What-F What Statement)
    → WorksOut program layer → inner_in program s statement layer ≡ None
    → IsSome (trap_in_statement (memory_of program s) layer)
statement-told program s statement (What-F.Assign to value) works none = assign-told program s to value none
statement-told program s statement (What-F.AssignCall to procedure arguments) works none =
    entered-told program s procedure arguments works none
statement-told program s statement (What-F.If test first second) works none =
    test-told (memory_of program s) test (no-truth s _ _ _ none)
statement-told program s statement (What-F.While test body) works none =
    test-told (memory_of program s) test (no-truth s _ _ _ none)
statement-told program s statement (What-F.For variable from to down step body last) works none =
    none-trap (memory_of program s) from (not-begun s statement variable _ none)
statement-told program s statement (What-F.DoUntil body test) works none =
    test-told (memory_of program s) test (no-truth s _ _ _ none)
statement-told program s statement (What-F.Call procedure arguments) works none =
    entered-told program s procedure arguments works none
statement-told program s statement (What-F.Return value) works none = absurd works
statement-told program s statement (What-F.ReadUpdate buffer most got) works none = absurd works
statement-told program s statement (What-F.Reply buffer count) works none = absurd works
statement-told program s statement (What-F.WriteRead file buffer send room got) works none = absurd works
statement-told program s statement (What-F.Checkpoint items files) works none = absurd works
statement-told program s statement What-F.CheckMonitor works none = absurd works
statement-told program s statement (What-F.Open file) works none = absurd works
statement-told program s statement What-F.Stop works none = absurd works

-- A FOR

round-told : (program : Program) (s : ProgramState) (down : Bool) (variable : Variable) (to : Expr)
    → goes_round down (variable_of program s variable) (value_of (memory_of program s) to) ≡ None
    → IsSome (option_or (trap_of_variable (memory_of program s) variable) (trap_of (memory_of program s) to))
round-told program s down variable to none =
    by (variable_of program s variable) (value_of (memory_of program s) to) refl refl none
  where
    by : (word limit : Option ℤ) → variable_of program s variable ≡ word → value_of (memory_of program s) to ≡ limit
        → goes_round down word limit ≡ None
        → IsSome (option_or (trap_of_variable (memory_of program s) variable) (trap_of (memory_of program s) to))
    by None limit at is none = or-first _ _ (variable-told (memory_of program s) variable at)
    by (Some word) None at is none = or-second _ _ (none-trap (memory_of program s) to is)
    by (Some word) (Some limit) at is none = absurd (cc)

pub test-step-told : (program : Program) (s : ProgramState) (statement : Statement) (variable : Variable)
    (from to : Expr) (down : Bool) (step : ℤ) (body : List Statement) (last : ℕ)
    → tested_in program s statement (What-F.For variable from to down step body last) ≡ None
    → IsSome (trap_in_test (memory_of program s) (What-F.For variable from to down step body last))
test-step-told program s statement variable from to down step body last none =
    round-told program s down variable to (no-truth s _ _ _ none)

not-counted : (s : ProgramState) (cell : Cell) (down : Bool) (step : ℤ) (word : Option ℤ)
    → state_after_count s cell down step word ≡ None → word ≡ None
not-counted s cell down step None none = refl
not-counted s cell down step (Some word) none = absurd (cc)

pub count-step-told : (program : Program) (s : ProgramState) (variable : Variable) (from to : Expr) (down : Bool)
    (step : ℤ) (body : List Statement) (last : ℕ)
    → state_after_count_in program s (What-F.For variable from to down step body last) ≡ None
    → IsSome (trap_in_count (memory_of program s) (What-F.For variable from to down step body last))
count-step-told program s variable from to down step body last none =
    variable-told (memory_of program s) variable (not-counted s _ _ _ _ none)

-- Words that go back

no-cell : (s : ProgramState) (cell : Option Cell) (word : ℤ)
    → state_after_assigning s cell (Some word) ≡ None → cell ≡ None
no-cell s None word none = refl
no-cell s (Some cell) word none = absurd (cc)

target-told : (program : Program) (word : ℤ) (s : ProgramState) (layer : What-F What Statement)
    → given_in program word s layer ≡ None → IsSome (trap_of_target (memory_of program s) layer)
target-told program word s (What-F.AssignCall to procedure arguments) none =
    spot-told (memory_of program s) to (no-cell s _ word none)
target-told program word s _ none = absurd (cc)

call-told : (program : Program) (word : ℤ) (s : ProgramState) (call : Option Entry)
    → given program word s call ≡ None → IsSome (trap_of_call (memory_of program s) call)
call-told program word s (Some (Run statement)) none = target-told program word s (out-What statement.what) none
call-told program word s (Some (Test statement)) none = absurd (cc)
call-told program word s (Some (Last statement)) none = absurd (cc)
call-told program word s None none = absurd (cc)

caller-told : (program : Program) (word : ℤ) (s : ProgramState) (callers : List Frame)
    → given_to program word s callers ≡ None → IsSome (trap_of_call (memory_of program s) (next_of callers))
caller-told program word s [] none = absurd (cc)
caller-told program word s (caller ∷ callers) none = call-told program word s (first_of caller.rest) none

pub word-told : (program : Program) (s : ProgramState) (word : ℤ) → state_after_return program s (Some word) ≡ None
    → IsSome (trap_of_call (memory_of program (left s)) (next_of (left s).frames))
word-told program s word none = caller-told program word (left s) (drop 1 s.frames) none

pub return-told : (program : Program) (s : ProgramState) (statement : Statement) (value : Option Expr)
    → inner_in program s statement (What-F.Return value) ≡ None
    → IsSome (trap_of_result (memory_of program s) value)
    ⊎ IsSome (trap_of_call (memory_of program (left s)) (next_of (left s).frames))
return-told program s statement value none = by (result_of (memory_of program s) value) refl none
  where
    by : (word : Option ℤ) → result_of (memory_of program s) value ≡ word → state_after_return program s word ≡ None
        → IsSome (trap_of_result (memory_of program s) value)
        ⊎ IsSome (trap_of_call (memory_of program (left s)) (next_of (left s).frames))
    by None is none = inl (result-told (memory_of program s) value is)
    by (Some word) is none = inr (word-told program s word none)

-- Counts

good-told : (good : Option ℕ) (bad : Trap) → good ≡ None → IsSome (if is_some good then None else Some bad)
good-told None bad none = refl
good-told (Some n) bad none = absurd (cc)

number-told : (words : List ℤ) (value : Worked ℤ) → option_and_then (good_count words) (result_ok value) ≡ None
    → IsSome (trap_of_number words value)
number-told words (Err met) none = refl
number-told words (Ok count) none = good-told (good_count words count) _ none

pub count-told : (program : Program) (s : ProgramState) (buffer : ℕ) (count : Expr)
    → count_of program s buffer count ≡ None → IsSome (trap_of_count (memory_of program s) buffer count)
count-told program s buffer count none =
    number-told (words_of s.globals buffer) (value_or_trap (memory_of program s) count)
    (ap (option_and_then (good_count (words_of s.globals buffer))) (value-ok (memory_of program s) count) ∙ none)

pub reads-told : (program : Program) (s : ProgramState) (buffer : ℕ) (most : Expr) (got : Variable)
    → s.in_hand ≡ false → point_in program s (What-F.ReadUpdate buffer most got) ≡ point.Inner
    → IsSome (trap_of_count (memory_of program s) buffer most)
reads-told program s buffer most got none is =
    count-told program s buffer most (reads-why program s buffer most got none is)

pub replies-told : (program : Program) (s : ProgramState) (buffer : ℕ) (count : Expr) → s.in_hand ≡ true
    → point_in program s (What-F.Reply buffer count) ≡ point.Inner
    → IsSome (trap_of_count (memory_of program s) buffer count)
replies-told program s buffer count hand is =
    count-told program s buffer count (replies-why program s buffer count hand is)

pub asks-told : (program : Program) (s : ProgramState) (file buffer : ℕ) (send room : Expr) (got : Variable)
    → point_in program s (What-F.WriteRead file buffer send room got) ≡ point.Inner
    → IsSome (option_or (trap_of_count (memory_of program s) buffer send)
    (trap_of_count (memory_of program s) buffer room))
asks-told program s file buffer send room got is = by (asks-why program s file buffer send room got is)
  where
    by : (count_of program s buffer send ≡ None) ⊎ (count_of program s buffer room ≡ None)
        → IsSome (option_or (trap_of_count (memory_of program s) buffer send)
        (trap_of_count (memory_of program s) buffer room))
    by (inl none) = or-first _ _ (count-told program s buffer send none)
    by (inr none) = or-second _ _ (count-told program s buffer room none)
