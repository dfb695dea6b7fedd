-- The words of a program's state, and the changes that leave them words.
use Rattle.std.proofs.Common.{ℕ, ◌-◌, ◌≤◌, ℤ, pos, List, [], ◌∷◌, ◌++◌, length, map, take, drop, min}
use Rattle.std.proofs.Common.{slice_get, slice_set, Option, Some, None, arith}
use Rattle.tal_tree.specs.Shapes.{width}
use Rattle.tal_tree.specs.declared.expression.Variable.{Variable}
use Rattle.tal_tree.specs.declared.program.Item.{Item}
use Rattle.tal_tree.specs.declared.program.Procedure.{Procedure}
use Rattle.tal_tree.specs.declared.program.Program.{Program}
use Rattle.tal_values.specs.declared.memory.Cell.{Cell}
use Rattle.tal_values.specs.declared.memory.Cell.TheVariants as cell
use Rattle.process_semantics.specs.Calls.{received}
use Rattle.process_semantics.specs.Changes.{before, done, ends, entering, left, local_set, put_before, variable_cell}
use Rattle.process_semantics.specs.Changes.{with_word, with_words, without_next}
use Rattle.process_semantics.specs.State.{Entry, Frame, ProgramState, first_frames, locals_of, start, words_of}
use Rattle.process_semantics.specs.State.{zeros}
use Rattle.told_reports.specs.InForm.{AreEach}
use Rattle.told_reports.specs.Words.{AreWords, IsWord}
use Rattle.shown_forms.proofs.Lists.{append-words, drop-first, drop-words, item-words, set-each, set-words, take-words}
use Rattle.shown_forms.proofs.Lists.{zero-words}

abbrev pub HasLocalWords : Frame → Type 0
HasLocalWords frame = AreWords frame.locals

-- globals and locals
abbrev pub HasStateWords : ProgramState → Type 0
HasStateWords s = AreEach AreWords s.globals × AreEach HasLocalWords s.frames

pub local-words : (frames : List Frame) → AreEach HasLocalWords frames → AreWords (locals_of frames)
local-words [] are = tt
local-words (frame ∷ callers) are = are.0

next-words : (frames : List Frame) → AreEach HasLocalWords frames → AreEach HasLocalWords (without_next frames)
next-words [] are = tt
next-words (frame ∷ callers) are = are

put-words : (entries : List Entry) (frames : List Frame) → AreEach HasLocalWords frames
    → AreEach HasLocalWords (put_before entries frames)
put-words entries [] are = tt
put-words entries (frame ∷ callers) are = are

set-local : (local : ℕ) (word : ℤ) (frames : List Frame) → IsWord word → AreEach HasLocalWords frames
    → AreEach HasLocalWords (local_set local word frames)
set-local local word [] is are = tt
set-local local word (frame ∷ callers) is are = (set-words frame.locals local word are.0 is, are.1)

pub done-words : (s : ProgramState) → HasStateWords s → HasStateWords (done s)
done-words s has = (has.0, next-words s.frames has.1)

pub before-words : (entries : List Entry) (s : ProgramState) → HasStateWords s → HasStateWords (before entries s)
before-words entries s has = (has.0, put-words entries s.frames has.1)

pub ends-words : (s : ProgramState) → HasStateWords s → HasStateWords (ends s)
ends-words s has = (has.0, tt)

pub left-words : (s : ProgramState) → HasStateWords s → HasStateWords (left s)
left-words s has = (has.0, drop-first HasLocalWords s.frames has.1)

pub word-words : (to : Cell) (word : ℤ) (s : ProgramState) → IsWord word → HasStateWords s
    → HasStateWords (with_word to word s)
word-words (cell.Local local) word s is has = (has.0, set-local local word s.frames is has.1)
word-words (cell.Global item offset) word s is has = (
  set-each AreWords s.globals item (slice_set (words_of s.globals item) offset word) has.0
      (set-words (words_of s.globals item) offset word (item-words s.globals item has.0) is),
  has.1,
)

words-words : (item : ℕ) (words : List ℤ) (s : ProgramState) → AreWords words → HasStateWords s
    → HasStateWords (with_words item words s)
words-words item words s are has = (
  set-each AreWords s.globals item (words ++ drop (length words) (words_of s.globals item)) has.0
      (append-words words (drop (length words) (words_of s.globals item)) are
      (drop-words (length words) (words_of s.globals item) (item-words s.globals item has.0))),
  has.1,
)

pub entering-words : (number : ℕ) (arguments : List ℤ) (procedure : Procedure) (s : ProgramState) → AreWords arguments
    → HasStateWords s → HasStateWords (entering number arguments procedure s)
entering-words number arguments procedure s are has = (
  has.0,
  (
    append-words arguments (zeros (length procedure.locals - length arguments)) are
        (zero-words (length procedure.locals - length arguments)),
    has.1,
  ),
)

zero-globals : (items : List Item) → AreEach AreWords (map (λ (item : Item). zeros (width item.shape)) items)
zero-globals [] = tt
zero-globals (item ∷ items) = (zero-words (width item.shape), zero-globals items)

first-words-of : (number : ℕ) (o : Option Procedure) → AreEach HasLocalWords (first_frames number o)
first-words-of number None = tt
first-words-of number (Some procedure) = (zero-words (length procedure.locals - 0), tt)

pub start-words : (program : Program) → HasStateWords (start program)
start-words program =
    (zero-globals program.items, first-words-of program.main (slice_get program.procedures program.main))

-- words that come; how many is a word, where there are few
pub received-words : (s : ProgramState) (buffer : ℕ) (got : Variable) (words : List ℤ) (room : Option ℕ)
    → AreWords words → length words ≤ 16 → HasStateWords s → HasStateWords (received s buffer got words room)
received-words s buffer got words None are few has = has
received-words s buffer got words (Some room) are few has =
    let put = with_words buffer (take room words) s in
    done-words (with_word (variable_cell got) (pos (min room (length words))) put)
    (word-words (variable_cell got) (pos (min room (length words))) put (omega (arith, few))
    (words-words buffer (take room words) s (take-words room words are) has))
