-- The steps of a program at the other points: READUPDATE, WRITEREAD, REPLY and CHECKPOINT.
use Rattle.std.specs.Prelude.{ℕ, ℤ, pos, true, false, min, List, [], length, take, Option, Some, None}
use Rattle.tal_values.specs.tal_tree.specs.declared.expression.Variable.{Variable}
use Rattle.tal_values.specs.tal_tree.specs.declared.program.Program.{Program}
use Rattle.tal_values.specs.tal_tree.specs.declared.statement.Statement.{Statement}
use Rattle.tal_values.specs.tal_tree.specs.declared.statement.What.{What, What-F}
use Rattle.process_semantics.specs.Changes.{done, with_hand, with_waiting, with_word, with_words, variable_cell}
use Rattle.process_semantics.specs.State.{ProgramState, words_of, count_of, in_next}

-- the state after words came: as many as there is room for go to the start of an array, and their number to a variable
abbrev pub received : ProgramState → ℕ → Variable → List ℤ → Option ℕ → ProgramState
received s buffer got words None = s
received s buffer got words (Some room) =
    done (with_word (variable_cell got) (pos (min room (length words))) (with_words buffer (take room words) s))

-- READUPDATE gets the words of a request, which is in hand from now on
abbrev pub took_in : Program → ProgramState → List ℤ → What-F What Statement → ProgramState
took_in program s words (What-F.ReadUpdate buffer most got) =
    with_hand true (received s buffer got words (count_of program s buffer most))
took_in program s words _ = s

-- WRITEREAD gets the words of a reply, which is awaited no more
abbrev pub got_in : Program → ProgramState → List ℤ → What-F What Statement → ProgramState
got_in program s words (What-F.WriteRead file buffer send room got) =
    with_waiting false (received s buffer got words (count_of program s buffer room))
got_in program s words _ = s

-- as many words as a count names
abbrev pub first_words : List ℤ → Option ℕ → List ℤ
first_words words None = []
first_words words (Some n) = take n words

-- the number of the file that WRITEREAD asks
abbrev pub file_in : What-F What Statement → ℕ
file_in (What-F.WriteRead file buffer send room got) = file
file_in _ = 0

-- the words that WRITEREAD asks
abbrev pub asked_in : Program → ProgramState → What-F What Statement → List ℤ
asked_in program s (What-F.WriteRead file buffer send room got) =
    first_words (words_of s.globals buffer) (count_of program s buffer send)
asked_in program s _ = []

-- the words that REPLY answers
abbrev pub answer_in : Program → ProgramState → What-F What Statement → List ℤ
answer_in program s (What-F.Reply buffer count) =
    first_words (words_of s.globals buffer) (count_of program s buffer count)
answer_in program s _ = []

-- the step at Take: READUPDATE gets the words of the request that is taken
abbrev pub after_took : Program → ProgramState → List ℤ → ProgramState
after_took program s words = in_next s (took_in program s words) s.frames

-- what WRITEREAD asks at Ask: its file, and the words
abbrev pub asked_file : ProgramState → ℕ
asked_file s = in_next 0 file_in s.frames

-- the words that are asked at Ask
abbrev pub asked_words : Program → ProgramState → List ℤ
asked_words program s = in_next [] (asked_in program s) s.frames

-- the step at Ask: the reply is awaited from now on, and WRITEREAD stays
abbrev pub after_asked : ProgramState → ProgramState
after_asked s = with_waiting true s

-- the step at Await: WRITEREAD gets the words of the reply
abbrev pub after_got : Program → ProgramState → List ℤ → ProgramState
after_got program s words = in_next s (got_in program s words) s.frames

-- the words that REPLY answers
abbrev pub answer_of : Program → ProgramState → List ℤ
answer_of program s = in_next [] (answer_in program s) s.frames

-- the step at Answer: nothing is in hand
abbrev pub after_answered : ProgramState → ProgramState
after_answered s = with_hand false (done s)

-- the step at a checkpoint
abbrev pub after_checkpoint : ProgramState → ProgramState
after_checkpoint s = done s
