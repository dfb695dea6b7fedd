-- A trap that is told is one: nothing comes of the step that works out the value, the count or the target.
use Rattle.std.proofs.Common.{◌≡◌, ℕ, ℤ, Bool, if◌then◌else◌, is_some, List, [], ◌∷◌, drop, Option, Some, None, Ok, Err}
use Rattle.std.proofs.Common.{refl, ap, sym, ◌∙◌}
use Rattle.std.specs.Option.{option_and_then, option_map, option_or}
use Rattle.std.specs.Result.{result_ok}
use Rattle.process_semantics.specs.Changes.{left, variable_cell, variable_of}
use Rattle.process_semantics.specs.State.{Entry, Frame, ProgramState, Run, Test, Last, count_of, first_of, good_count}
use Rattle.process_semantics.specs.State.{memory_of, next_of, words_of}
use Rattle.process_semantics.specs.Steps.{state_after_assigning, state_after_count, state_after_count_in}
use Rattle.process_semantics.specs.Steps.{state_after_entry, for_begun, given, given_in, given_to}
use Rattle.process_semantics.specs.Steps.{goes_round, inner_in, result_of, state_after_return, tested, tested_in}
use Rattle.process_semantics.specs.Steps.{values_of}
use Rattle.tal_tree.specs.declared.expression.Cond.{Cond}
use Rattle.tal_tree.specs.declared.expression.Expr.{Expr}
use Rattle.tal_tree.specs.declared.expression.Spot.{Spot}
use Rattle.tal_tree.specs.declared.expression.Variable.{Variable}
use Rattle.tal_tree.specs.declared.program.Program.{Program}
use Rattle.tal_tree.specs.declared.statement.Statement.{Statement}
use Rattle.tal_tree.specs.declared.statement.What.{What, What-F, out-What}
use Rattle.value_traps.proofs.Lacks.{cell-ok, err-none, found, truth-ok, trap-none, value-ok}
use Rattle.value_traps.specs.Traps.{Worked, cell_or_trap, trap_of, truth_or_trap, value_or_trap, word_or_trap}
use Rattle.value_traps.specs.declared.trap.ValueTrap.{ValueTrap}
use Rattle.value_traps.specs.declared.trap.ValueTrap.TheVariants.{NotThere}
use Rattle.tal_values.specs.Value.{Memory, cell_of, truth_of, value_of, word_at}
use Rattle.tal_values.specs.declared.memory.Cell.{Cell}
use Rattle.program_ends.specs.Traps.{trap_among, trap_in_count, trap_in_statement, trap_in_test, trap_of_call}
use Rattle.program_ends.specs.Traps.{trap_of_count, trap_of_number, trap_of_result, trap_of_spot, trap_of_target}
use Rattle.program_ends.specs.Traps.{trap_of_test, trap_of_variable}
use Rattle.program_ends.specs.declared.ending.Trap.{Trap}

spot-lacks : (m : Memory) (spot : Spot) (trap : ValueTrap) → trap_of_spot m spot ≡ Some trap → cell_of m spot ≡ None
spot-lacks m spot trap is = sym (cell-ok m spot) ∙ err-none (cell_or_trap m spot) trap is

test-lacks : (m : Memory) (test : Cond) (trap : ValueTrap) → trap_of_test m test ≡ Some trap → truth_of m test ≡ None
test-lacks m test trap is = sym (truth-ok m test) ∙ err-none (truth_or_trap m test) trap is

variable-lacks : (m : Memory) (variable : Variable) (trap : ValueTrap) → trap_of_variable m variable ≡ Some trap
    → word_at m (variable_cell variable) ≡ None
variable-lacks m variable trap is =
    sym (found (word_at m (variable_cell variable)) NotThere)
    ∙ err-none (word_or_trap m (variable_cell variable)) trap is

pub result-lacks : (m : Memory) (value : Option Expr) (trap : ValueTrap) → trap_of_result m value ≡ Some trap
    → result_of m value ≡ None
result-lacks m None trap is = absurd (cc)
result-lacks m (Some e) trap is = trap-none m e trap is

no-later : {A : Type 0} (f : A → Option (List A)) (words : Option A) → ((word : A) → f word ≡ None)
    → option_and_then f words ≡ None
no-later f None none = refl
no-later f (Some word) none = none word

among-lacks : (m : Memory) (es : List Expr) (trap : ValueTrap) → trap_among m es ≡ Some trap → values_of m es ≡ None
among-lacks m [] trap is = absurd (cc)
among-lacks m (e ∷ es) trap is = by (trap_of m e) refl is (among-lacks m es trap)
  where
    by : (first : Option ValueTrap) → trap_of m e ≡ first → option_or first (trap_among m es) ≡ Some trap
        → (trap_among m es ≡ Some trap → values_of m es ≡ None) → values_of m (e ∷ es) ≡ None
    by (Some other) told is later =
        ap (option_and_then (λ word. option_map (λ words. word ∷ words) (values_of m es))) (trap-none m e other told)
    by None told is later =
        no-later (λ word. option_map (λ words. word ∷ words) (values_of m es)) (value_of m e)
        (λ word. ap (option_map (λ words. word ∷ words)) (later is))

no-cell : (s : ProgramState) (word : Option ℤ) → state_after_assigning s None word ≡ None
no-cell s None = refl
no-cell s (Some word) = refl

assign-lacks : (program : Program) (s : ProgramState) (to : Spot) (value : Expr) (trap : ValueTrap)
    → option_or (trap_of (memory_of program s) value) (trap_of_spot (memory_of program s) to) ≡ Some trap
    → state_after_assigning s (cell_of (memory_of program s) to) (value_of (memory_of program s) value) ≡ None
assign-lacks program s to value trap is = by (trap_of (memory_of program s) value) refl is
  where
    by : (first : Option ValueTrap) → trap_of (memory_of program s) value ≡ first
        → option_or first (trap_of_spot (memory_of program s) to) ≡ Some trap
        → state_after_assigning s (cell_of (memory_of program s) to) (value_of (memory_of program s) value) ≡ None
    by (Some other) told is =
        ap (state_after_assigning s (cell_of (memory_of program s) to))
        (trap-none (memory_of program s) value other told)
    by None told is =
        ap (λ (cell : Option Cell). state_after_assigning s cell (value_of (memory_of program s) value))
        (spot-lacks (memory_of program s) to trap is)
        ∙ no-cell s (value_of (memory_of program s) value)

tested-lacks : (program : Program) (s : ProgramState) (first second : List Entry) (test : Cond) (trap : ValueTrap)
    → trap_of_test (memory_of program s) test ≡ Some trap
    → tested s first second (truth_of (memory_of program s) test) ≡ None
tested-lacks program s first second test trap is =
    ap (tested s first second) (test-lacks (memory_of program s) test trap is)

pub statement-lacks : (program : Program) (s : ProgramState) (statement : Statement) (layer : What-F What Statement)
    (trap : ValueTrap) → trap_in_statement (memory_of program s) layer ≡ Some trap
    → inner_in program s statement layer ≡ None
statement-lacks program s statement (What-F.Assign to value) trap is = assign-lacks program s to value trap is
statement-lacks program s statement (What-F.AssignCall to procedure arguments) trap is =
    ap (state_after_entry program s procedure) (among-lacks (memory_of program s) arguments trap is)
statement-lacks program s statement (What-F.If test first second) trap is = tested-lacks program s _ _ test trap is
statement-lacks program s statement (What-F.While test body) trap is = tested-lacks program s _ _ test trap is
statement-lacks program s statement (What-F.For variable from to down step body last) trap is =
    ap (for_begun s statement variable) (trap-none (memory_of program s) from trap is)
statement-lacks program s statement (What-F.DoUntil body test) trap is = tested-lacks program s _ _ test trap is
statement-lacks program s statement (What-F.Call procedure arguments) trap is =
    ap (state_after_entry program s procedure) (among-lacks (memory_of program s) arguments trap is)
statement-lacks program s statement (What-F.Return value) trap is =
    ap (state_after_return program s) (result-lacks (memory_of program s) value trap is)
statement-lacks program s statement (What-F.ReadUpdate buffer most got) trap is = absurd (cc)
statement-lacks program s statement (What-F.Reply buffer count) trap is = absurd (cc)
statement-lacks program s statement (What-F.WriteRead file buffer send room got) trap is = absurd (cc)
statement-lacks program s statement (What-F.Checkpoint items files) trap is = absurd (cc)
statement-lacks program s statement What-F.CheckMonitor trap is = absurd (cc)
statement-lacks program s statement (What-F.Open file) trap is = absurd (cc)
statement-lacks program s statement What-F.Stop trap is = absurd (cc)

no-limit : (down : Bool) (variable : Option ℤ) → goes_round down variable None ≡ None
no-limit down None = refl
no-limit down (Some word) = refl

limit-lacks : (program : Program) (s : ProgramState) (down : Bool) (variable : Variable) (to : Expr) (trap : ValueTrap)
    → option_or (trap_of_variable (memory_of program s) variable) (trap_of (memory_of program s) to) ≡ Some trap
    → goes_round down (variable_of program s variable) (value_of (memory_of program s) to) ≡ None
limit-lacks program s down variable to trap is = by (trap_of_variable (memory_of program s) variable) refl is
  where
    by : (first : Option ValueTrap) → trap_of_variable (memory_of program s) variable ≡ first
        → option_or first (trap_of (memory_of program s) to) ≡ Some trap
        → goes_round down (variable_of program s variable) (value_of (memory_of program s) to) ≡ None
    by (Some other) told is =
        ap (λ (word : Option ℤ). goes_round down word (value_of (memory_of program s) to))
        (variable-lacks (memory_of program s) variable other told)
    by None told is =
        ap (goes_round down (variable_of program s variable)) (trap-none (memory_of program s) to trap is)
        ∙ no-limit down (variable_of program s variable)

pub test-step-lacks : (program : Program) (s : ProgramState) (statement : Statement) (layer : What-F What Statement)
    (trap : ValueTrap) → trap_in_test (memory_of program s) layer ≡ Some trap
    → tested_in program s statement layer ≡ None
test-step-lacks program s statement (What-F.For variable from to down step body last) trap is =
    ap (tested s _ []) (limit-lacks program s down variable to trap is)
test-step-lacks program s statement _ trap is = refl

pub count-step-lacks : (program : Program) (s : ProgramState) (layer : What-F What Statement) (trap : ValueTrap)
    → trap_in_count (memory_of program s) layer ≡ Some trap → state_after_count_in program s layer ≡ None
count-step-lacks program s (What-F.For variable from to down step body last) trap is =
    ap (state_after_count s (variable_cell variable) down step) (variable-lacks (memory_of program s) variable trap is)
count-step-lacks program s _ trap is = refl

-- Counts

good-lacks : (good : Option ℕ) (bad trap : Trap) → (if is_some good then None else Some bad) ≡ Some trap
    → good ≡ None
good-lacks None bad trap is = refl
good-lacks (Some n) bad trap is = absurd (cc)

number-lacks : (words : List ℤ) (value : Worked ℤ) (trap : Trap) → trap_of_number words value ≡ Some trap
    → option_and_then (good_count words) (result_ok value) ≡ None
number-lacks words (Err met) trap is = refl
number-lacks words (Ok count) trap is = good-lacks (good_count words count) _ trap is

pub count-lacks : (program : Program) (s : ProgramState) (buffer : ℕ) (count : Expr) (trap : Trap)
    → trap_of_count (memory_of program s) buffer count ≡ Some trap → count_of program s buffer count ≡ None
count-lacks program s buffer count trap is =
    ap (option_and_then (good_count (words_of s.globals buffer))) (sym (value-ok (memory_of program s) count))
    ∙ number-lacks (words_of s.globals buffer) (value_or_trap (memory_of program s) count) trap is

-- Targets

target-lacks : (program : Program) (word : ℤ) (s : ProgramState) (layer : What-F What Statement) (trap : ValueTrap)
    → trap_of_target (memory_of program s) layer ≡ Some trap → given_in program word s layer ≡ None
target-lacks program word s (What-F.AssignCall to procedure arguments) trap is =
    ap (λ (cell : Option Cell). state_after_assigning s cell (Some word)) (spot-lacks (memory_of program s) to trap is)
target-lacks program word s _ trap is = absurd (cc)

call-lacks : (program : Program) (word : ℤ) (s : ProgramState) (call : Option Entry) (trap : ValueTrap)
    → trap_of_call (memory_of program s) call ≡ Some trap → given program word s call ≡ None
call-lacks program word s (Some (Run statement)) trap is = target-lacks program word s (out-What statement.what) trap is
call-lacks program word s (Some (Test statement)) trap is = absurd (cc)
call-lacks program word s (Some (Last statement)) trap is = absurd (cc)
call-lacks program word s None trap is = absurd (cc)

caller-lacks : (program : Program) (word : ℤ) (s : ProgramState) (callers : List Frame) (trap : ValueTrap)
    → trap_of_call (memory_of program s) (next_of callers) ≡ Some trap → given_to program word s callers ≡ None
caller-lacks program word s [] trap is = absurd (cc)
caller-lacks program word s (caller ∷ callers) trap is = call-lacks program word s (first_of caller.rest) trap is

pub word-lacks : (program : Program) (s : ProgramState) (word : Option ℤ) (trap : ValueTrap)
    → trap_of_call (memory_of program (left s)) (next_of (left s).frames) ≡ Some trap
    → state_after_return program s word ≡ None
word-lacks program s None trap is = refl
word-lacks program s (Some word) trap is = caller-lacks program word (left s) (drop 1 s.frames) trap is
