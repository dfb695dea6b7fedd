-- With which step a program ended, and at which line of its text it stands. Our own.
use Rattle.std.specs.Option.{option_map, option_or}
use Rattle.std.specs.Prelude.{ℕ, ℤ, Bool, true, false, if◌then◌else◌, List, [], ◌∷◌, drop, Option, Some, None}
use Rattle.image_places.specs.Memories.{globals_in, memory_in, memory_with}
use Rattle.image_places.specs.Running.{Running, caller_in, next_in}
use Rattle.process_semantics.specs.Changes.{left}
use Rattle.process_semantics.specs.State.{Entry, Frame, ProgramState, Run, Test, Last, first_of, memory_of}
use Rattle.process_semantics.specs.Words.{Front}
use Rattle.program_entries.specs.Entries.{entry_at}
use Rattle.tal_tree.specs.declared.program.Program.{Program}
use Rattle.tal_tree.specs.declared.statement.Statement.{Statement}
use Rattle.tal_tree.specs.declared.statement.What.{What, What-F, out-What}
use Rattle.value_traps.specs.declared.trap.ValueTrap.{ValueTrap}
use Rattle.value_traps.specs.declared.trap.ValueTrap.TheVariants.{NotThere}
use Rattle.tal_values.specs.Value.{Memory}
use Rattle.program_ends.specs.Traps.{trap_in_count, trap_in_statement, trap_in_test, trap_of_call, trap_of_count}
use Rattle.program_ends.specs.Traps.{trap_of_result}
use Rattle.program_ends.specs.declared.ending.LastStep.{LastStep}
use Rattle.program_ends.specs.declared.ending.LastStep.TheVariants.{MainEnded, Stopped, Returned, Trapped}
use Rattle.program_ends.specs.declared.ending.LastStep.TheVariants.{TrappedAtEnd}
use Rattle.program_ends.specs.declared.ending.Trap.{Trap}
use Rattle.program_ends.specs.declared.ending.Trap.TheVariants as trap
use Rattle.program_ends.specs.declared.ending.WordTarget.{WordTarget}

-- What ended a program, by what it did last, and by the call that the procedure ran for, if it wasn't MAIN

-- the end of a procedure: MAIN's ends the program. Another one gives its word to a target that isn't there
abbrev pub at_end : Option WordTarget → LastStep
at_end None = MainEnded
at_end (Some target) = TrappedAtEnd target

-- a trap of a value. If none is met, what the statement names isn't there
abbrev pub met_or_lacking : Option ValueTrap → ValueTrap
met_or_lacking None = NotThere
met_or_lacking (Some met) = met

abbrev pub by_value : Option ValueTrap → Trap
by_value met = trap.Value (met_or_lacking met)

-- a trap of a count
abbrev pub by_count : Option Trap → Trap
by_count None = trap.Value NotThere
by_count (Some met) = met

-- RETURN, whose word meets this trap or none: MAIN's ends the program. Another one gives its word to a target that
-- isn't there
abbrev pub at_return : Option WordTarget → ℕ → Option ValueTrap → LastStep
at_return None line None = Returned line
at_return (Some target) line None = Trapped line (trap.Target target.met)
at_return None line (Some met) = Trapped line (trap.Value met)
at_return (Some target) line (Some met) = Trapped line (trap.Value met)

-- READUPDATE takes no request while one is in hand
abbrev pub of_reading : Bool → Option Trap → Trap
of_reading in_hand met = if in_hand then trap.RequestInHand else by_count met

-- REPLY answers the request that is in hand
abbrev pub of_replying : Bool → Option Trap → Trap
of_replying in_hand met = if in_hand then by_count met else trap.NothingInHand

-- why a statement trapped, with a request in hand or none
abbrev pub why : Memory → Bool → What-F What Statement → Trap
why m in_hand (What-F.ReadUpdate buffer most got) = of_reading in_hand (trap_of_count m buffer most)
why m in_hand (What-F.Reply buffer count) = of_replying in_hand (trap_of_count m buffer count)
why m in_hand (What-F.WriteRead file buffer send room got) =
    by_count (option_or (trap_of_count m buffer send) (trap_of_count m buffer room))
why m in_hand (What-F.Assign to value) = by_value (trap_in_statement m (What-F.Assign to value))
why m in_hand (What-F.AssignCall to procedure arguments) =
    by_value (trap_in_statement m (What-F.AssignCall to procedure arguments))
why m in_hand (What-F.If test first second) = by_value (trap_in_statement m (What-F.If test first second))
why m in_hand (What-F.While test body) = by_value (trap_in_statement m (What-F.While test body))
why m in_hand (What-F.For variable from to down step body last) =
    by_value (trap_in_statement m (What-F.For variable from to down step body last))
why m in_hand (What-F.DoUntil body test) = by_value (trap_in_statement m (What-F.DoUntil body test))
why m in_hand (What-F.Call procedure arguments) = by_value (trap_in_statement m (What-F.Call procedure arguments))
why m in_hand (What-F.Return value) = by_value (trap_in_statement m (What-F.Return value))
why m in_hand (What-F.Checkpoint items files) = by_value (trap_in_statement m (What-F.Checkpoint items files))
why m in_hand What-F.CheckMonitor = by_value (trap_in_statement m What-F.CheckMonitor)
why m in_hand (What-F.Open file) = by_value (trap_in_statement m (What-F.Open file))
why m in_hand What-F.Stop = by_value (trap_in_statement m What-F.Stop)

-- a statement on this line that isn't done
abbrev pub trapping : Memory → Bool → ℕ → What-F What Statement → LastStep
trapping m in_hand line what = Trapped line (why m in_hand what)

-- a statement over this memory
abbrev pub at_statement : Memory → Option WordTarget → Bool → ℕ → What-F What Statement → LastStep
at_statement m target in_hand line What-F.Stop = Stopped line
at_statement m target in_hand line (What-F.Return value) = at_return target line (trap_of_result m value)
at_statement m target in_hand line (What-F.ReadUpdate buffer most got) =
    trapping m in_hand line (What-F.ReadUpdate buffer most got)
at_statement m target in_hand line (What-F.Reply buffer count) = trapping m in_hand line (What-F.Reply buffer count)
at_statement m target in_hand line (What-F.WriteRead file buffer send room got) =
    trapping m in_hand line (What-F.WriteRead file buffer send room got)
at_statement m target in_hand line (What-F.Assign to value) = trapping m in_hand line (What-F.Assign to value)
at_statement m target in_hand line (What-F.AssignCall to procedure arguments) =
    trapping m in_hand line (What-F.AssignCall to procedure arguments)
at_statement m target in_hand line (What-F.If test first second) =
    trapping m in_hand line (What-F.If test first second)
at_statement m target in_hand line (What-F.While test body) = trapping m in_hand line (What-F.While test body)
at_statement m target in_hand line (What-F.For variable from to down step body last) =
    trapping m in_hand line (What-F.For variable from to down step body last)
at_statement m target in_hand line (What-F.DoUntil body test) = trapping m in_hand line (What-F.DoUntil body test)
at_statement m target in_hand line (What-F.Call procedure arguments) =
    trapping m in_hand line (What-F.Call procedure arguments)
at_statement m target in_hand line (What-F.Checkpoint items files) =
    trapping m in_hand line (What-F.Checkpoint items files)
at_statement m target in_hand line What-F.CheckMonitor = trapping m in_hand line What-F.CheckMonitor
at_statement m target in_hand line (What-F.Open file) = trapping m in_hand line (What-F.Open file)

abbrev pub at_entry : Memory → Option WordTarget → Bool → Option Entry → LastStep
at_entry m target in_hand None = at_end target
at_entry m target in_hand (Some (Run statement)) =
    at_statement m target in_hand statement.line (out-What statement.what)
at_entry m target in_hand (Some (Test statement)) =
    Trapped statement.line (by_value (trap_in_test m (out-What statement.what)))
at_entry m target in_hand (Some (Last statement)) =
    Trapped statement.line (by_value (trap_in_count m (out-What statement.what)))

-- the line of what has this number; none of 0, where nothing comes
abbrev pub line_of_entry : Entry → ℕ
line_of_entry (Run statement) = statement.line
line_of_entry (Test statement) = statement.line
line_of_entry (Last statement) = statement.line

abbrev pub line_of_number : Program → ℕ → Option ℕ
line_of_number program number = option_map line_of_entry (entry_at program number)

-- the target of the word of a call; the memory is that of the procedure that made it
abbrev pub target_of : Memory → Option Entry → WordTarget
target_of m call = record { line = option_map line_of_entry call; met = met_or_lacking (trap_of_call m call) }

-- of the procedure that has called the one that runs, if MAIN isn't that
abbrev pub target_by : Program → ProgramState → List Frame → Option WordTarget
target_by program s [] = None
target_by program s (caller ∷ callers) = Some (target_of (memory_of program (left s)) (first_of caller.rest))

-- where the word of the procedure that runs in a state goes
abbrev pub target_in_state : Program → ProgramState → Option WordTarget
target_in_state program s = target_by program s (drop 1 s.frames)

-- By the words of an image

-- what comes next in a program
abbrev pub coming_in : Program → List ℤ → Option Entry
coming_in program words = entry_at program (next_in program words)

abbrev pub target_at : Program → List (List ℤ) → Front Running → Option WordTarget
target_at program globals None = None
target_at program globals (Some (caller, left)) =
    Some (target_of (memory_with program globals caller.locals) (entry_at program caller.next))

-- where the word of the procedure that runs goes, where the items have these words
abbrev pub target_in : Program → List ℤ → List (List ℤ) → Option WordTarget
target_in program words globals = target_at program globals (caller_in program words)

-- the step with which it ended that stood so, with a request in hand or none. The other image, with everything, is of
-- the end that came of it
abbrev pub end_of_program : Program → List ℤ → Bool → List ℤ → LastStep
end_of_program program words in_hand everything =
    at_entry (memory_in program words everything) (target_in program words (globals_in program everything)) in_hand
    (coming_in program words)

-- whether it is a trap, and no end that the program asks for
abbrev pub is_trap : LastStep → Bool
is_trap MainEnded = false
is_trap (Stopped line) = false
is_trap (Returned line) = false
is_trap (Trapped line trap) = true
is_trap (TrappedAtEnd target) = true
