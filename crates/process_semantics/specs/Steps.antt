-- The steps of a program at Inner: an assignment, a test, entering a procedure, its RETURN or its end, or a system call
-- that no other process sees.
use Rattle.std.specs.Option.{option_map, option_and_then, unwrap_or}
use Rattle.std.specs.Prelude.{ℕ, ℤ, pos, ◌+ℤ◌, ◌-ℤ◌, Bool, true, false, if◌then◌else◌, List, [], ◌∷◌, ◌++◌, drop}
use Rattle.std.specs.Prelude.{slice_get, Option, Some}
use Rattle.std.specs.Prelude.{None}
use Rattle.tal_values.specs.gd_words.specs.Arithmetic.{wrap}
use Rattle.tal_values.specs.tal_tree.specs.declared.expression.Expr.{Expr}
use Rattle.tal_values.specs.tal_tree.specs.declared.expression.Rel.{Rel}
use Rattle.tal_values.specs.tal_tree.specs.declared.expression.Rel.TheVariants.{AtMost, AtLeast}
use Rattle.tal_values.specs.tal_tree.specs.declared.expression.Variable.{Variable}
use Rattle.tal_values.specs.tal_tree.specs.declared.program.Procedure.{Procedure}
use Rattle.tal_values.specs.tal_tree.specs.declared.program.Program.{Program}
use Rattle.tal_values.specs.tal_tree.specs.declared.statement.Statement.{Statement}
use Rattle.tal_values.specs.tal_tree.specs.declared.statement.What.{What, What-F, out-What}
use Rattle.tal_values.specs.Value.{Memory, value_of, cell_of, truth_of, both, holds}
use Rattle.tal_values.specs.declared.memory.Cell.{Cell}
use Rattle.process_semantics.specs.Changes.{done, before, entering, left, ends, with_word, variable_cell, variable_of}
use Rattle.process_semantics.specs.State.{Entry, Frame, ProgramState, runs_of, first_of, next_of, memory_of, Run, Test}
use Rattle.process_semantics.specs.State.{Last}

-- the values of arguments, from left to right; none where one traps
abbrev pub values_of : Memory → List Expr → Option (List ℤ)
values_of memory [] = Some []
values_of memory (e ∷ es) =
    option_and_then (λ word. option_map (λ words. word ∷ words) (values_of memory es)) (value_of memory e)

-- the state after a word went to a target, if neither traps
abbrev pub state_after_assigning : ProgramState → Option Cell → Option ℤ → Option ProgramState
state_after_assigning s to None = None
state_after_assigning s None (Some word) = None
state_after_assigning s (Some to) (Some word) = Some (done (with_word to word s))

-- the state after a test: one list of entries comes next where it is true, the other where it is false
abbrev pub tested : ProgramState → List Entry → List Entry → Option Bool → Option ProgramState
tested s first second None = None
tested s first second (Some holds) = Some (before (if holds then first else second) (done s))

-- the state after this procedure was entered, where it is there
abbrev pub entered_by : ProgramState → ℕ → List ℤ → Option Procedure → Option ProgramState
entered_by s number arguments None = None
entered_by s number arguments (Some procedure) = Some (entering number arguments procedure s)

-- the state after a procedure was entered; the call stays first in its frame
abbrev pub state_after_entry : Program → ProgramState → ℕ → Option (List ℤ) → Option ProgramState
state_after_entry program s number None = None
state_after_entry program s number (Some arguments) =
    entered_by s number arguments (slice_get program.procedures number)

-- the state after the call in this statement got its word back: only an assignment keeps it
abbrev pub given_in : Program → ℤ → ProgramState → What-F What Statement → Option ProgramState
given_in program word s (What-F.AssignCall to procedure arguments) =
    state_after_assigning s (cell_of (memory_of program s) to) (Some word)
given_in program word s _ = Some (done s)

-- the state after a call got its word back
abbrev pub given : Program → ℤ → ProgramState → Option Entry → Option ProgramState
given program word s (Some (Run statement)) = given_in program word s (out-What statement.what)
given program word s _ = Some (done s)

-- the state after the caller got a word back; where there is none, the process ends
abbrev pub given_to : Program → ℤ → ProgramState → List Frame → Option ProgramState
given_to program word s [] = Some (ends s)
given_to program word s (caller ∷ callers) = given program word s (first_of caller.rest)

-- the state after the procedure that runs returned a word: it goes to the target of the call. MAIN's return ends the
-- process
abbrev pub state_after_return : Program → ProgramState → Option ℤ → Option ProgramState
state_after_return program s None = None
state_after_return program s (Some word) = given_to program word (left s) (drop 1 s.frames)

-- the word that RETURN gives, 0 where it has no expression
abbrev pub result_of : Memory → Option Expr → Option ℤ
result_of memory None = Some (pos 0)
result_of memory (Some e) = value_of memory e

-- a FOR's variable got a word, and its test comes next
abbrev pub for_begun : ProgramState → Statement → Variable → Option ℤ → Option ProgramState
for_begun s statement variable None = None
for_begun s statement variable (Some word) =
    Some (before (Test statement ∷ []) (done (with_word (variable_cell variable) word s)))

-- the step of a statement
abbrev pub inner_in : Program → ProgramState → Statement → What-F What Statement → Option ProgramState
inner_in program s statement (What-F.Assign to value) =
    state_after_assigning s (cell_of (memory_of program s) to) (value_of (memory_of program s) value)
inner_in program s statement (What-F.AssignCall to procedure arguments) =
    state_after_entry program s procedure (values_of (memory_of program s) arguments)
inner_in program s statement (What-F.If test first second) =
    tested s (runs_of first) (runs_of second) (truth_of (memory_of program s) test)
inner_in program s statement (What-F.While test body) =
    tested s (runs_of body ++ Run statement ∷ []) [] (truth_of (memory_of program s) test)
inner_in program s statement (What-F.For variable from to down step body last) =
    for_begun s statement variable (value_of (memory_of program s) from)
inner_in program s statement (What-F.DoUntil body test) =
    tested s [] (runs_of body ++ Run statement ∷ []) (truth_of (memory_of program s) test)
inner_in program s statement (What-F.Call procedure arguments) =
    state_after_entry program s procedure (values_of (memory_of program s) arguments)
inner_in program s statement (What-F.Return value) =
    state_after_return program s (result_of (memory_of program s) value)
inner_in program s statement What-F.CheckMonitor = Some (done s)
inner_in program s statement (What-F.Open file) = Some (done s)
inner_in program s statement What-F.Stop = Some (ends s)
inner_in program s statement (What-F.ReadUpdate buffer most got) = None
inner_in program s statement (What-F.Reply buffer count) = None
inner_in program s statement (What-F.WriteRead file buffer send room got) = None
inner_in program s statement (What-F.Checkpoint items files) = None

-- how a FOR's variable stands to its limit as long as the FOR goes round
abbrev pub bound_by : Bool → Rel
bound_by false = AtMost
bound_by true = AtLeast

-- whether a FOR goes round once more
abbrev pub goes_round : Bool → Option ℤ → Option ℤ → Option Bool
goes_round down variable limit = both (λ i last. Some (holds (bound_by down) i last)) variable limit

-- the step of a FOR's test
abbrev pub tested_in : Program → ProgramState → Statement → What-F What Statement → Option ProgramState
tested_in program s statement (What-F.For variable from to down step body last) =
    tested s (runs_of body ++ Last statement ∷ Test statement ∷ []) []
    (goes_round down (variable_of program s variable) (value_of (memory_of program s) to))
tested_in program s statement (What-F.Assign _ _) = None
tested_in program s statement (What-F.AssignCall _ _ _) = None
tested_in program s statement (What-F.If _ _ _) = None
tested_in program s statement (What-F.While _ _) = None
tested_in program s statement (What-F.DoUntil _ _) = None
tested_in program s statement (What-F.Call _ _) = None
tested_in program s statement (What-F.Return _) = None
tested_in program s statement (What-F.ReadUpdate _ _ _) = None
tested_in program s statement (What-F.Reply _ _) = None
tested_in program s statement (What-F.WriteRead _ _ _ _ _) = None
tested_in program s statement (What-F.Checkpoint _ _) = None
tested_in program s statement What-F.CheckMonitor = None
tested_in program s statement (What-F.Open _) = None
tested_in program s statement What-F.Stop = None

-- the word after one where a FOR counts by so much, up or down
abbrev pub next_word : Bool → ℤ → ℤ → ℤ
next_word false step word = wrap (word +ℤ step)
next_word true step word = wrap (word -ℤ step)

-- a FOR's variable was counted up or down
abbrev pub state_after_count : ProgramState → Cell → Bool → ℤ → Option ℤ → Option ProgramState
state_after_count s variable down step None = None
state_after_count s variable down step (Some word) = Some (done (with_word variable (next_word down step word) s))

-- the step of a FOR's last assignment
abbrev pub state_after_count_in : Program → ProgramState → What-F What Statement → Option ProgramState
state_after_count_in program s (What-F.For variable from to down step body last) =
    state_after_count s (variable_cell variable) down step (variable_of program s variable)
state_after_count_in program s (What-F.Assign _ _) = None
state_after_count_in program s (What-F.AssignCall _ _ _) = None
state_after_count_in program s (What-F.If _ _ _) = None
state_after_count_in program s (What-F.While _ _) = None
state_after_count_in program s (What-F.DoUntil _ _) = None
state_after_count_in program s (What-F.Call _ _) = None
state_after_count_in program s (What-F.Return _) = None
state_after_count_in program s (What-F.ReadUpdate _ _ _) = None
state_after_count_in program s (What-F.Reply _ _) = None
state_after_count_in program s (What-F.WriteRead _ _ _ _ _) = None
state_after_count_in program s (What-F.Checkpoint _ _) = None
state_after_count_in program s What-F.CheckMonitor = None
state_after_count_in program s (What-F.Open _) = None
state_after_count_in program s What-F.Stop = None

-- the step of the next entry; a procedure's end returns 0
abbrev pub inner_entry : Program → ProgramState → Option Entry → Option ProgramState
inner_entry program s None = state_after_return program s (Some (pos 0))
inner_entry program s (Some (Run statement)) = inner_in program s statement (out-What statement.what)
inner_entry program s (Some (Test statement)) = tested_in program s statement (out-What statement.what)
inner_entry program s (Some (Last statement)) = state_after_count_in program s (out-What statement.what)

-- a trap ends the process
abbrev pub or_ends : ProgramState → Option ProgramState → ProgramState
or_ends s next = unwrap_or next (ends s)

-- the step at Inner
abbrev pub inner : Program → ProgramState → ProgramState
inner program s = or_ends s (inner_entry program s (next_of s.frames))
