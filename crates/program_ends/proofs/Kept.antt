-- A step of which something comes ends a program only at STOP, at the end of MAIN and at its RETURN.
use Rattle.std.proofs.Common.{◌≡◌, ℕ, ℤ, pos, Bool, true, false, List, [], ◌∷◌, drop}
use Rattle.std.proofs.Common.{Option, Some, None, refl, ap, subst, sym, ◌∙◌}
use Rattle.process_semantics.specs.Changes.{done, left, with_word}
use Rattle.process_semantics.specs.State.{Entry, Frame, ProgramState, Run, Test, Last, first_of, memory_of, next_of}
use Rattle.process_semantics.specs.Steps.{state_after_assigning, state_after_count, state_after_entry, entered_by}
use Rattle.process_semantics.specs.Steps.{for_begun, given, given_in, given_to}
use Rattle.process_semantics.specs.Steps.{state_after_count_in, inner, inner_entry, inner_in, or_ends, result_of}
use Rattle.process_semantics.specs.Steps.{state_after_return, tested, tested_in}
use Rattle.tal_tree.specs.declared.expression.Expr.{Expr}
use Rattle.tal_tree.specs.declared.expression.Variable.{Variable}
use Rattle.tal_tree.specs.declared.expression.Variable.TheVariants as variable
use Rattle.tal_tree.specs.declared.program.Procedure.{Procedure}
use Rattle.tal_tree.specs.declared.program.Program.{Program}
use Rattle.tal_tree.specs.declared.statement.Statement.{Statement}
use Rattle.tal_tree.specs.declared.statement.What.{What, What-F, out-What}
use Rattle.tal_values.specs.Value.{cell_of}
use Rattle.tal_values.specs.declared.memory.Cell.{Cell}
use Rattle.tal_values.specs.declared.memory.Cell.TheVariants as cell
use Rattle.value_traps.specs.declared.trap.ValueTrap.{ValueTrap}
use Rattle.program_ends.specs.Ends.{at_end, at_entry, at_return, at_statement, is_trap, target_by, target_in_state}
use Rattle.program_ends.specs.Traps.{trap_of_result}
use Rattle.program_ends.specs.declared.ending.WordTarget.{WordTarget}
use Rattle.program_ends.proofs.Told.{result-lacks}

-- what comes of a step, if anything does, has ended exactly where this says
abbrev Keeps : Bool → Option ProgramState → Type 0
Keeps ended result = (t : ProgramState) → result ≡ Some t → t.ended ≡ ended

abbrev ended_or : Bool → Option ProgramState → Bool
ended_or ended None = ended
ended_or ended (Some t) = t.ended

none-keeps : (ended : Bool) → Keeps ended None
none-keeps ended t same = absurd (cc)

some-keeps : (ended : Bool) (u : ProgramState) → u.ended ≡ ended → Keeps ended (Some u)
some-keeps ended u is t same = ap (ended_or ended) (sym same) ∙ is

word-keeps : (to : Cell) (word : ℤ) (s : ProgramState) → (done (with_word to word s)).ended ≡ s.ended
word-keeps (cell.Local local) word s = refl
word-keeps (cell.Global item offset) word s = refl

assigned-keeps : (s : ProgramState) (to : Option Cell) (word : Option ℤ)
    → Keeps s.ended (state_after_assigning s to word)
assigned-keeps s to None = none-keeps s.ended
assigned-keeps s None (Some word) = none-keeps s.ended
assigned-keeps s (Some to) (Some word) = some-keeps s.ended (done (with_word to word s)) (word-keeps to word s)

tested-keeps : (s : ProgramState) (first second : List Entry) (truth : Option Bool)
    → Keeps s.ended (tested s first second truth)
tested-keeps s first second None = none-keeps s.ended
tested-keeps s first second (Some truth) = some-keeps s.ended _ refl

entered_by-keeps : (s : ProgramState) (number : ℕ) (arguments : List ℤ) (procedure : Option Procedure)
    → Keeps s.ended (entered_by s number arguments procedure)
entered_by-keeps s number arguments None = none-keeps s.ended
entered_by-keeps s number arguments (Some procedure) = some-keeps s.ended _ refl

entered-keeps : (program : Program) (s : ProgramState) (number : ℕ) (arguments : Option (List ℤ))
    → Keeps s.ended (state_after_entry program s number arguments)
entered-keeps program s number None = none-keeps s.ended
entered-keeps program s number (Some arguments) = entered_by-keeps s number arguments _

given_in-keeps : (program : Program) (word : ℤ) (s : ProgramState) (layer : What-F What Statement)
    → Keeps s.ended (given_in program word s layer)
given_in-keeps program word s (What-F.AssignCall to procedure arguments) =
    assigned-keeps s (cell_of (memory_of program s) to) (Some word)
given_in-keeps program word s _ = some-keeps s.ended (done s) refl

given-keeps : (program : Program) (word : ℤ) (s : ProgramState) (entry : Option Entry)
    → Keeps s.ended (given program word s entry)
given-keeps program word s None = some-keeps s.ended (done s) refl
given-keeps program word s (Some (Run statement)) = given_in-keeps program word s (out-What statement.what)
given-keeps program word s (Some (Test statement)) = some-keeps s.ended (done s) refl
given-keeps program word s (Some (Last statement)) = some-keeps s.ended (done s) refl

-- a word that goes back to a caller
called-keeps : (program : Program) (word : ℤ) (s u : ProgramState) (callers : List Frame)
    → is_trap (at_end (target_by program s callers)) ≡ true → Keeps u.ended (given_to program word u callers)
called-keeps program word s u [] called = absurd (cc)
called-keeps program word s u (caller ∷ callers) called = given-keeps program word u (first_of caller.rest)

returned-keeps : (program : Program) (s : ProgramState) (word : Option ℤ)
    → is_trap (at_end (target_in_state program s)) ≡ true → Keeps s.ended (state_after_return program s word)
returned-keeps program s None called = none-keeps s.ended
returned-keeps program s (Some word) called = called-keeps program word s (left s) (drop 1 s.frames) called

for-keeps : (s : ProgramState) (statement : Statement) (variable : Variable) (word : Option ℤ)
    → Keeps s.ended (for_begun s statement variable word)
for-keeps s statement variable None = none-keeps s.ended
for-keeps s statement (variable.Local local) (Some word) =
    some-keeps s.ended _ refl
for-keeps s statement (variable.Simple item) (Some word) =
    some-keeps s.ended _ refl

counted-keeps : (s : ProgramState) (variable : Cell) (down : Bool) (step : ℤ) (word : Option ℤ)
    → Keeps s.ended (state_after_count s variable down step word)
counted-keeps s variable down step None = none-keeps s.ended
counted-keeps s variable down step (Some word) = some-keeps s.ended _ (word-keeps variable _ s)

-- a RETURN whose word is there is no trap where the end of the procedure is none
return-only : (target : Option WordTarget) (line : ℕ) → is_trap (at_return target line None) ≡ true
    → is_trap (at_end target) ≡ true
return-only None line is = absurd (cc)
return-only (Some target) line is = refl

-- RETURN, whose word meets this trap or none
return-keeps : (program : Program) (s : ProgramState) (line : ℕ) (value : Option Expr) (trap : Option ValueTrap)
    → trap_of_result (memory_of program s) value ≡ trap
    → is_trap (at_return (target_in_state program s) line trap) ≡ true
    → Keeps s.ended (state_after_return program s (result_of (memory_of program s) value))
return-keeps program s line value (Some trap) told is =
    subst (λ (word : Option ℤ). Keeps s.ended (state_after_return program s word))
    (sym (result-lacks (memory_of program s) value trap told)) (none-keeps s.ended)
return-keeps program s line value None told is =
    returned-keeps program s (result_of (memory_of program s) value)
    (return-only (target_in_state program s) line is)

inner-keeps : (program : Program) (s : ProgramState) (in_hand : Bool) (statement : Statement)
    (layer : What-F What Statement)
    → is_trap (at_statement (memory_of program s) (target_in_state program s) in_hand statement.line layer) ≡ true
    → Keeps s.ended (inner_in program s statement layer)
inner-keeps program s in_hand statement (What-F.Assign to value) is = assigned-keeps s _ _
inner-keeps program s in_hand statement (What-F.AssignCall to procedure arguments) is =
    entered-keeps program s procedure _
inner-keeps program s in_hand statement (What-F.If test first second) is = tested-keeps s _ _ _
inner-keeps program s in_hand statement (What-F.While test body) is = tested-keeps s _ _ _
inner-keeps program s in_hand statement (What-F.For variable from to down step body last) is =
    for-keeps s statement variable _
inner-keeps program s in_hand statement (What-F.DoUntil body test) is = tested-keeps s _ _ _
inner-keeps program s in_hand statement (What-F.Call procedure arguments) is = entered-keeps program s procedure _
inner-keeps program s in_hand statement (What-F.Return value) is =
    return-keeps program s statement.line value (trap_of_result (memory_of program s) value) refl is
inner-keeps program s in_hand statement What-F.CheckMonitor is = some-keeps s.ended (done s) refl
inner-keeps program s in_hand statement (What-F.Open file) is = some-keeps s.ended (done s) refl
inner-keeps program s in_hand statement What-F.Stop is = absurd (cc)
inner-keeps program s in_hand statement (What-F.ReadUpdate buffer most got) is = none-keeps s.ended
inner-keeps program s in_hand statement (What-F.Reply buffer count) is = none-keeps s.ended
inner-keeps program s in_hand statement (What-F.WriteRead file buffer send room got) is = none-keeps s.ended
inner-keeps program s in_hand statement (What-F.Checkpoint items files) is = none-keeps s.ended

test-keeps : (program : Program) (s : ProgramState) (statement : Statement) (layer : What-F What Statement)
    → Keeps s.ended (tested_in program s statement layer)
test-keeps program s statement (What-F.For variable from to down step body last) = tested-keeps s _ _ _
test-keeps program s statement _ = none-keeps s.ended

last-keeps : (program : Program) (s : ProgramState) (layer : What-F What Statement)
    → Keeps s.ended (state_after_count_in program s layer)
last-keeps program s (What-F.For variable from to down step body last) = counted-keeps s _ down step _
last-keeps program s _ = none-keeps s.ended

entry-keeps : (program : Program) (s : ProgramState) (in_hand : Bool) (entry : Option Entry)
    → is_trap (at_entry (memory_of program s) (target_in_state program s) in_hand entry) ≡ true
    → Keeps s.ended (inner_entry program s entry)
entry-keeps program s in_hand None is = returned-keeps program s (Some (pos 0)) is
entry-keeps program s in_hand (Some (Run statement)) is =
    inner-keeps program s in_hand statement (out-What statement.what) is
entry-keeps program s in_hand (Some (Test statement)) is = test-keeps program s statement (out-What statement.what)
entry-keeps program s in_hand (Some (Last statement)) is = last-keeps program s (out-What statement.what)

nothing-came : (s : ProgramState) (result : Option ProgramState) → Keeps false result
    → (or_ends s result).ended ≡ true → result ≡ None
nothing-came s None keeps ended = refl
nothing-came s (Some t) keeps ended = let kept : t.ended ≡ false = keeps t refl in absurd (cc)

pub traps-by : (program : Program) (s : ProgramState) (in_hand : Bool) → s.ended ≡ false
    → (inner program s).ended ≡ true
    → is_trap (at_entry (memory_of program s) (target_in_state program s) in_hand (next_of s.frames)) ≡ true
    → inner_entry program s (next_of s.frames) ≡ None
traps-by program s in_hand runs ended is =
    nothing-came s (inner_entry program s (next_of s.frames))
    (λ t same. entry-keeps program s in_hand (next_of s.frames) is t same ∙ runs) ended

pub ends-by : (program : Program) (s : ProgramState) → inner_entry program s (next_of s.frames) ≡ None
    → (inner program s).ended ≡ true
ends-by program s none = ap (λ (result : Option ProgramState). (or_ends s result).ended) none
