-- What a deed does to the state of a program, at each point, and what it tells there.
use Rattle.std.specs.Prelude.{ℕ, ℤ, Bool, true, false, if◌then◌else◌, List, [], ◌∷◌, drop, Option, Some, None}
use Rattle.tal_tree.specs.declared.program.Program.{Program}
use Rattle.process_semantics.specs.tal_values.specs.Value.{value_of, truth_of, cell_of}
use Rattle.process_semantics.specs.tal_values.specs.declared.memory.Cell.{Cell}
use Rattle.process_semantics.specs.Calls.{received, first_words}
use Rattle.process_semantics.specs.Changes.{done, left, ends, with_hand, with_waiting, with_word}
use Rattle.process_semantics.specs.Points.{where_good, where_both_good}
use Rattle.process_semantics.specs.State.{Entry, Frame, ProgramState, memory_of, words_of, count_of}
use Rattle.process_semantics.specs.Steps.{state_after_entry, state_after_assigning, result_of, values_of}
use Rattle.process_semantics.specs.declared.point.Point.{Point}
use Rattle.process_semantics.specs.declared.point.Point.TheVariants as point
use Rattle.program_deeds.specs.Deed.{Deed, Assigns, Tests, Enters, Returns, Passes, Stops, Takes, Asks, Answers}
use Rattle.program_deeds.specs.Deed.{Checkpoints, deed_of}

-- The step at Inner

-- the frames, where these entries remain in the one that runs
abbrev pub with_rest : List Entry → List Frame → List Frame
with_rest rest [] = []
with_rest rest (frame ∷ callers) = record frame { rest = rest } ∷ callers

-- the state that goes on with these entries
abbrev pub going_on : List Entry → ProgramState → ProgramState
going_on rest s = record s { frames = with_rest rest s.frames }

-- the state after a word went to a cell, if neither traps: it goes on with these entries
abbrev pub state_after_store : List Entry → ProgramState → Option Cell → Option ℤ → Option ProgramState
state_after_store rest s to None = None
state_after_store rest s None (Some word) = None
state_after_store rest s (Some to) (Some word) = Some (going_on rest (with_word to word s))

-- the state after a test: it goes on with one list of entries where it is true, with the other where it is false
abbrev pub state_after_test : List Entry → List Entry → ProgramState → Option Bool → Option ProgramState
state_after_test first second s None = None
state_after_test first second s (Some holds) = Some (going_on (if holds then first else second) s)

-- the state after a word came back to a deed: only an assignment's call keeps it
abbrev pub deed_given : Program → ℤ → ProgramState → Deed → Option ProgramState
deed_given program word s (Enters procedure arguments (Some to)) =
    state_after_assigning s (cell_of (memory_of program s) to) (Some word)
deed_given program word s _ = Some (done s)

-- the state after the caller got a word back; where there is none, the process ends
abbrev pub caller_given : Program → ℤ → ProgramState → List Frame → Option ProgramState
caller_given program word s [] = Some (ends s)
caller_given program word s (caller ∷ callers) = deed_given program word s (deed_of caller.rest)

-- the state after the procedure that runs returned a word
abbrev pub gives_back : Program → ProgramState → Option ℤ → Option ProgramState
gives_back program s None = None
gives_back program s (Some word) = caller_given program word (left s) (drop 1 s.frames)

-- the step of a deed at Inner: READUPDATE, WRITEREAD, REPLY and CHECKPOINT do nothing there but trap
abbrev pub deed_inner : Program → ProgramState → Deed → Option ProgramState
deed_inner program s (Assigns to value rest) =
    state_after_store rest s (cell_of (memory_of program s) to) (value_of (memory_of program s) value)
deed_inner program s (Tests test first second) = state_after_test first second s (truth_of (memory_of program s) test)
deed_inner program s (Enters procedure arguments to) =
    state_after_entry program s procedure (values_of (memory_of program s) arguments)
deed_inner program s (Returns value) = gives_back program s (result_of (memory_of program s) value)
deed_inner program s Passes = Some (done s)
deed_inner program s Stops = Some (ends s)
deed_inner program s (Takes buffer most got) = None
deed_inner program s (Asks file buffer send room got) = None
deed_inner program s (Answers buffer count) = None
deed_inner program s (Checkpoints items files) = None

-- The other points

-- the point of a deed in a state that hasn't ended
abbrev pub point_by : Program → ProgramState → Deed → Point
point_by program s (Takes buffer most got) =
    if s.in_hand then point.Inner else where_good point.Take (count_of program s buffer most)
point_by program s (Asks file buffer send room got) =
    if s.awaits then point.Await else where_both_good point.Ask (count_of program s buffer send)
    (count_of program s buffer room)
point_by program s (Answers buffer count) =
    if s.in_hand then where_good point.Answer (count_of program s buffer count) else point.Inner
point_by program s (Checkpoints items files) = point.AtCheckpoint
point_by program s _ = point.Inner

-- the point of a deed
abbrev pub deed_point : Program → ProgramState → Deed → Point
deed_point program s deed = if s.ended then point.Ended else point_by program s deed

-- the step at Take, with the words of the request
abbrev pub deed_took : Program → ProgramState → List ℤ → Deed → ProgramState
deed_took program s words (Takes buffer most got) =
    with_hand true (received s buffer got words (count_of program s buffer most))
deed_took program s words _ = s

-- the number of the file that is asked
abbrev pub deed_file : Deed → ℕ
deed_file (Asks file buffer send room got) = file
deed_file _ = 0

-- the words that are asked
abbrev pub deed_asked : Program → ProgramState → Deed → List ℤ
deed_asked program s (Asks file buffer send room got) =
    first_words (words_of s.globals buffer) (count_of program s buffer send)
deed_asked program s _ = []

-- the step at Await, with the words of the reply
abbrev pub deed_got : Program → ProgramState → List ℤ → Deed → ProgramState
deed_got program s words (Asks file buffer send room got) =
    with_waiting false (received s buffer got words (count_of program s buffer room))
deed_got program s words _ = s

-- the words that are answered
abbrev pub deed_answer : Program → ProgramState → Deed → List ℤ
deed_answer program s (Answers buffer count) = first_words (words_of s.globals buffer) (count_of program s buffer count)
deed_answer program s _ = []

-- the items that a checkpoint names
abbrev pub deed_items : Deed → List ℕ
deed_items (Checkpoints items files) = items
deed_items _ = []

-- the files that a checkpoint names
abbrev pub deed_files : Deed → List ℕ
deed_files (Checkpoints items files) = files
deed_files _ = []
