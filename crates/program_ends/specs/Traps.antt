-- Which trap a step meets first, in the order in which it works out its values, its counts and its target. Our own.
use Rattle.std.specs.Option.{option_or}
use Rattle.std.specs.Prelude.{ℕ, ℤ, pos, if◌then◌else◌, is_some, length, min, List, [], ◌∷◌, slice_get, Option, Some}
use Rattle.std.specs.Prelude.{None, IsSome, Ok, Err}
use Rattle.std.specs.Result.{result_err}
use Rattle.gd_words.specs.declared.limits.TheConstants.{MOST_MESSAGE_WORDS}
use Rattle.process_semantics.specs.Changes.{variable_cell}
use Rattle.process_semantics.specs.State.{Entry, Run, Test, Last, good_count, words_of}
use Rattle.tal_tree.specs.declared.expression.Cond.{Cond}
use Rattle.tal_tree.specs.declared.expression.Expr.{Expr}
use Rattle.tal_tree.specs.declared.expression.Spot.{Spot}
use Rattle.tal_tree.specs.declared.expression.Variable.{Variable}
use Rattle.tal_tree.specs.declared.program.Program.{Program}
use Rattle.tal_tree.specs.declared.statement.Statement.{Statement}
use Rattle.tal_tree.specs.declared.statement.What.{What, What-F, out-What}
use Rattle.value_traps.specs.Traps.{Worked, cell_or_trap, trap_of, truth_or_trap, value_or_trap, word_or_trap}
use Rattle.value_traps.specs.declared.trap.ValueTrap.{ValueTrap}
use Rattle.tal_values.specs.Value.{Memory}
use Rattle.program_ends.specs.declared.ending.Trap.{Trap}
use Rattle.program_ends.specs.declared.ending.Trap.TheVariants.{Count, Value}

-- Values

-- of an element that gets a word, by its index
abbrev pub trap_of_spot : Memory → Spot → Option ValueTrap
trap_of_spot m spot = result_err (cell_or_trap m spot)

abbrev pub trap_of_test : Memory → Cond → Option ValueTrap
trap_of_test m test = result_err (truth_or_trap m test)

abbrev pub trap_of_variable : Memory → Variable → Option ValueTrap
trap_of_variable m variable = result_err (word_or_trap m (variable_cell variable))

-- of the arguments of a call, from left to right
abbrev pub trap_among : Memory → List Expr → Option ValueTrap
trap_among m [] = None
trap_among m (e ∷ es) = option_or (trap_of m e) (trap_among m es)

-- of the word that RETURN gives, if it names one
abbrev pub trap_of_result : Memory → Option Expr → Option ValueTrap
trap_of_result m None = None
trap_of_result m (Some e) = trap_of m e

-- of a statement. An assignment works out its value before the element that gets it
abbrev pub trap_in_statement : Memory → What-F What Statement → Option ValueTrap
trap_in_statement m (What-F.Assign to value) = option_or (trap_of m value) (trap_of_spot m to)
trap_in_statement m (What-F.AssignCall to procedure arguments) = trap_among m arguments
trap_in_statement m (What-F.If test first second) = trap_of_test m test
trap_in_statement m (What-F.While test body) = trap_of_test m test
trap_in_statement m (What-F.For variable from to down step body last) = trap_of m from
trap_in_statement m (What-F.DoUntil body test) = trap_of_test m test
trap_in_statement m (What-F.Call procedure arguments) = trap_among m arguments
trap_in_statement m (What-F.Return value) = trap_of_result m value
trap_in_statement m (What-F.ReadUpdate buffer most got) = None
trap_in_statement m (What-F.Reply buffer count) = None
trap_in_statement m (What-F.WriteRead file buffer send room got) = None
trap_in_statement m (What-F.Checkpoint items files) = None
trap_in_statement m What-F.CheckMonitor = None
trap_in_statement m (What-F.Open file) = None
trap_in_statement m What-F.Stop = None

-- of a FOR's test: its variable stands before its limit
abbrev pub trap_in_test : Memory → What-F What Statement → Option ValueTrap
trap_in_test m (What-F.Assign to value) = None
trap_in_test m (What-F.AssignCall to procedure arguments) = None
trap_in_test m (What-F.If test first second) = None
trap_in_test m (What-F.While test body) = None
trap_in_test m (What-F.For variable from to down step body last) =
    option_or (trap_of_variable m variable) (trap_of m to)
trap_in_test m (What-F.DoUntil body test) = None
trap_in_test m (What-F.Call procedure arguments) = None
trap_in_test m (What-F.Return value) = None
trap_in_test m (What-F.ReadUpdate buffer most got) = None
trap_in_test m (What-F.Reply buffer count) = None
trap_in_test m (What-F.WriteRead file buffer send room got) = None
trap_in_test m (What-F.Checkpoint items files) = None
trap_in_test m What-F.CheckMonitor = None
trap_in_test m (What-F.Open file) = None
trap_in_test m What-F.Stop = None

-- of a FOR's last assignment
abbrev pub trap_in_count : Memory → What-F What Statement → Option ValueTrap
trap_in_count m (What-F.Assign to value) = None
trap_in_count m (What-F.AssignCall to procedure arguments) = None
trap_in_count m (What-F.If test first second) = None
trap_in_count m (What-F.While test body) = None
trap_in_count m (What-F.For variable from to down step body last) = trap_of_variable m variable
trap_in_count m (What-F.DoUntil body test) = None
trap_in_count m (What-F.Call procedure arguments) = None
trap_in_count m (What-F.Return value) = None
trap_in_count m (What-F.ReadUpdate buffer most got) = None
trap_in_count m (What-F.Reply buffer count) = None
trap_in_count m (What-F.WriteRead file buffer send room got) = None
trap_in_count m (What-F.Checkpoint items files) = None
trap_in_count m What-F.CheckMonitor = None
trap_in_count m (What-F.Open file) = None
trap_in_count m What-F.Stop = None

-- a statement that works out values as it comes. If it calls a procedure, that is there
abbrev pub WorksOut : Program → What-F What Statement → Type 0
WorksOut program (What-F.Assign to value) = Unit {0}
WorksOut program (What-F.AssignCall to procedure arguments) = IsSome (slice_get program.procedures procedure)
WorksOut program (What-F.If test first second) = Unit {0}
WorksOut program (What-F.While test body) = Unit {0}
WorksOut program (What-F.For variable from to down step body last) = Unit {0}
WorksOut program (What-F.DoUntil body test) = Unit {0}
WorksOut program (What-F.Call procedure arguments) = IsSome (slice_get program.procedures procedure)
WorksOut program (What-F.Return value) = ⊥
WorksOut program (What-F.ReadUpdate buffer most got) = ⊥
WorksOut program (What-F.Reply buffer count) = ⊥
WorksOut program (What-F.WriteRead file buffer send room got) = ⊥
WorksOut program (What-F.Checkpoint items files) = ⊥
WorksOut program What-F.CheckMonitor = ⊥
WorksOut program (What-F.Open file) = ⊥
WorksOut program What-F.Stop = ⊥

-- Counts

-- of the count of words of an array: it has no value, or it is none of the array's
abbrev pub trap_of_number : List ℤ → Worked ℤ → Option Trap
trap_of_number words (Err met) = Some (Value met)
trap_of_number words (Ok count) =
    if is_some (good_count words count) then None else Some (Count count (pos (min MOST_MESSAGE_WORDS (length words))))

abbrev pub trap_of_count : Memory → ℕ → Expr → Option Trap
trap_of_count m buffer count = trap_of_number (words_of m.globals buffer) (value_or_trap m count)

-- Targets

-- of the element that gets the word which a call gives
abbrev pub trap_of_target : Memory → What-F What Statement → Option ValueTrap
trap_of_target m (What-F.Assign to value) = None
trap_of_target m (What-F.AssignCall to procedure arguments) = trap_of_spot m to
trap_of_target m (What-F.If test first second) = None
trap_of_target m (What-F.While test body) = None
trap_of_target m (What-F.For variable from to down step body last) = None
trap_of_target m (What-F.DoUntil body test) = None
trap_of_target m (What-F.Call procedure arguments) = None
trap_of_target m (What-F.Return value) = None
trap_of_target m (What-F.ReadUpdate buffer most got) = None
trap_of_target m (What-F.Reply buffer count) = None
trap_of_target m (What-F.WriteRead file buffer send room got) = None
trap_of_target m (What-F.Checkpoint items files) = None
trap_of_target m What-F.CheckMonitor = None
trap_of_target m (What-F.Open file) = None
trap_of_target m What-F.Stop = None

-- of the call that a procedure runs for; the memory is that of the procedure that made it
abbrev pub trap_of_call : Memory → Option Entry → Option ValueTrap
trap_of_call m (Some (Run statement)) = trap_of_target m (out-What statement.what)
trap_of_call m (Some (Test statement)) = None
trap_of_call m (Some (Last statement)) = None
trap_of_call m None = None
