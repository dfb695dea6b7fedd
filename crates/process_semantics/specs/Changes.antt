-- Changes of a program's state, of which its steps are made.
use Rattle.std.specs.Prelude.{ℕ, ℤ, Bool, true, false, List, [], ◌∷◌, ◌++◌, length, drop, slice_set, Option}
use Rattle.tal_values.specs.tal_tree.specs.declared.expression.Variable.{Variable}
use Rattle.tal_values.specs.tal_tree.specs.declared.expression.Variable.TheVariants.{Local, Simple}
use Rattle.tal_values.specs.tal_tree.specs.declared.program.Procedure.{Procedure}
use Rattle.tal_values.specs.tal_tree.specs.declared.program.Program.{Program}
use Rattle.tal_values.specs.Value.{word_at}
use Rattle.tal_values.specs.declared.memory.Cell.{Cell}
use Rattle.process_semantics.specs.State.{Entry, Frame, ProgramState, frame_of, memory_of, words_of}
use Rattle.tal_values.specs.declared.memory.Cell.TheVariants as cell

-- the frames without the next entry
abbrev pub without_next : List Frame → List Frame
without_next [] = []
without_next (frame ∷ callers) = record frame { rest = drop 1 frame.rest } ∷ callers

-- the state after its next entry was done
abbrev pub done : ProgramState → ProgramState
done s = record s { frames = without_next s.frames }

-- the frames with entries that come next
abbrev pub put_before : List Entry → List Frame → List Frame
put_before entries [] = []
put_before entries (frame ∷ callers) = record frame { rest = entries ++ frame.rest } ∷ callers

-- the state with entries that come next
abbrev pub before : List Entry → ProgramState → ProgramState
before entries s = record s { frames = put_before entries s.frames }

-- the state after a procedure was entered
abbrev pub entering : ℕ → List ℤ → Procedure → ProgramState → ProgramState
entering number arguments procedure s = record s { frames = frame_of number arguments procedure ∷ s.frames }

-- the state after the procedure that runs was left
abbrev pub left : ProgramState → ProgramState
left s = record s { frames = drop 1 s.frames }

-- the state after the process ended
abbrev pub ends : ProgramState → ProgramState
ends s = record s { frames = []; awaits = false; ended = true }

-- the state with a request in hand or none
abbrev pub with_hand : Bool → ProgramState → ProgramState
with_hand in_hand s = record s { in_hand = in_hand }

-- the state that awaits a reply or none
abbrev pub with_waiting : Bool → ProgramState → ProgramState
with_waiting awaits s = record s { awaits = awaits }

-- the frames with a word in a local of the procedure that runs
abbrev pub local_set : ℕ → ℤ → List Frame → List Frame
local_set local word [] = []
local_set local word (frame ∷ callers) = record frame { locals = slice_set frame.locals local word } ∷ callers

-- the state with a word in a cell
abbrev pub with_word : Cell → ℤ → ProgramState → ProgramState
with_word (cell.Local local) word s = record s { frames = local_set local word s.frames }
with_word (cell.Global item offset) word s =
    record s { globals = slice_set s.globals item (slice_set (words_of s.globals item) offset word) }

-- the state with words at the start of a global
abbrev pub with_words : ℕ → List ℤ → ProgramState → ProgramState
with_words item words s =
    record s { globals = slice_set s.globals item (words ++ drop (length words) (words_of s.globals item)) }

-- the cell of a simple variable
abbrev pub variable_cell : Variable → Cell
variable_cell (Local local) = cell.Local local
variable_cell (Simple item) = cell.Global item 0

-- the word of a simple variable
abbrev pub variable_of : Program → ProgramState → Variable → Option ℤ
variable_of program s variable = word_at (memory_of program s) (variable_cell variable)
