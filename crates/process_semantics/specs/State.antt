-- The state of a program: what remains in each procedure that runs, and the words of its globals and locals.
use Rattle.std.specs.Option.{option_and_then, unwrap_or}
use Rattle.std.specs.Prelude.{ℕ, ◌-◌, ℤ, pos, negsuc, Bool, false, ◌&&◌, if◌then◌else◌, nat_le, List, [], ◌∷◌, ◌++◌}
use Rattle.std.specs.Prelude.{length, map, replicate, slice_get, Option, Some, None}
use Rattle.tal_values.specs.tal_tree.specs.Rows.{rows}
use Rattle.tal_values.specs.tal_tree.specs.Shapes.{width}
use Rattle.tal_values.specs.tal_tree.specs.Statements.{called_in}
use Rattle.tal_values.specs.tal_tree.specs.declared.expression.Expr.{Expr}
use Rattle.tal_values.specs.tal_tree.specs.declared.program.Procedure.{Procedure}
use Rattle.tal_values.specs.tal_tree.specs.declared.program.Program.{Program}
use Rattle.tal_values.specs.tal_tree.specs.declared.statement.Statement.{Statement}
use Rattle.tal_values.specs.tal_tree.specs.declared.statement.What.{What, What-F, out-What, Assign, AssignCall, If'}
use Rattle.tal_values.specs.tal_tree.specs.declared.statement.What.{While', For'}
use Rattle.tal_values.specs.tal_tree.specs.declared.statement.What.{DoUntil', Call, Return, ReadUpdate, Reply}
use Rattle.tal_values.specs.tal_tree.specs.declared.statement.What.{WriteRead, Checkpoint}
use Rattle.tal_values.specs.tal_tree.specs.declared.statement.What.{CheckMonitor, Open, Stop, Row_of-Statement}
use Rattle.tal_values.specs.tal_tree.specs.declared.statement.What.{end_of-Statement}
use Rattle.tal_values.specs.tal_tree.specs.declared.statement.What.{more_of-Statement}
use Rattle.tal_values.specs.Value.{Memory, value_of}
use Rattle.tal_values.specs.gd_words.specs.declared.limits.TheConstants.{MOST_MESSAGE_WORDS}

-- what remains to be done in a procedure: a statement by its own number, which of an IF, a WHILE or a DO is its test;
-- the test of a FOR; or the last assignment of a FOR
pub data Entry : Type 0 where
  Run : Statement → Entry
  Test : Statement → Entry
  Last : Statement → Entry

-- a procedure that runs: its number, its locals, and what remains, the next entry first. A call in progress stays first
-- until its procedure returns
pub record Frame : Type 0 where
  pub procedure : ℕ
  pub locals : List ℤ
  pub rest : List Entry

-- the state of a program. The frame that runs stands first and MAIN's last; an ended state has none
pub record ProgramState : Type 0 where
  pub globals : List (List ℤ)
  pub frames : List Frame
  pub in_hand : Bool
  pub awaits : Bool
  pub ended : Bool

-- a program with the state in which it is
pub record Execution : Type 0 where
  pub program : Program
  pub state : ProgramState

-- Beginning

abbrev mutual
  -- the statements of a list as entries. A DO's test comes after the entries of its body
  pub runs_row : {n : _} → Row_of-Statement n → List Entry
  runs_row end_of-Statement = []
  runs_row (more_of-Statement number line what rest) =
      runs_before what ++ (Run (record { number = number; line = line; what = what }) ∷ runs_row rest)

  -- the entries that come before a statement's own: those of a DO's body
  pub runs_before : What → List Entry
  runs_before (DoUntil' _ body test) = runs_row body
  runs_before (Assign to value) = []
  runs_before (AssignCall to procedure arguments) = []
  runs_before (If' test _ first _ second) = []
  runs_before (While' test _ body) = []
  runs_before (For' variable from to down step _ body last) = []
  runs_before (Call procedure arguments) = []
  runs_before (Return value) = []
  runs_before (ReadUpdate buffer most got) = []
  runs_before (Reply buffer count) = []
  runs_before (WriteRead file buffer send room got) = []
  runs_before (Checkpoint items files) = []
  runs_before CheckMonitor = []
  runs_before (Open file) = []
  runs_before Stop = []

abbrev pub runs_of : List Statement → List Entry
runs_of statements = runs_row (rows statements)

-- so many words, all 0
abbrev pub zeros : ℕ → List ℤ
zeros n = replicate n (pos 0)

-- the frame of a procedure that is entered: the arguments are the first locals, and the others are 0
abbrev pub frame_of : ℕ → List ℤ → Procedure → Frame
frame_of number arguments procedure = record {
  procedure = number;
  locals = arguments ++ zeros (length procedure.locals - length arguments);
  rest = runs_of procedure.body;
}

-- MAIN's frame alone
abbrev pub first_frames : ℕ → Option Procedure → List Frame
first_frames number None = []
first_frames number (Some procedure) = frame_of number [] procedure ∷ []

-- a program at its beginning: all words are 0, and MAIN's body remains
abbrev pub start : Program → ProgramState
start program = record {
  globals = map (λ item. zeros (width item.shape)) program.items;
  frames = first_frames program.main (slice_get program.procedures program.main);
  in_hand = false;
  awaits = false;
  ended = false;
}

-- What a state has

-- the locals of the procedure that runs
abbrev pub locals_of : List Frame → List ℤ
locals_of [] = []
locals_of (frame ∷ callers) = frame.locals

-- what remains of the procedure that runs
abbrev pub rest_of : List Frame → List Entry
rest_of [] = []
rest_of (frame ∷ callers) = frame.rest

-- the first of what remains
abbrev pub first_of : List Entry → Option Entry
first_of [] = None
first_of (entry ∷ rest) = Some entry

-- the next entry: the first of the frame that runs; none at a procedure's end
abbrev pub next_of : List Frame → Option Entry
next_of frames = first_of (rest_of frames)

-- what the expressions of a statement read
abbrev pub memory_of : Program → ProgramState → Memory
memory_of program s = record { items = program.items; globals = s.globals; locals = locals_of s.frames }

-- the words of a global
abbrev pub words_of : List (List ℤ) → ℕ → List ℤ
words_of globals item = unwrap_or (slice_get globals item) []

-- a count of words of an array, from its value
abbrev pub good_count : List ℤ → ℤ → Option ℕ
good_count words (pos n) = if nat_le n (length words) && nat_le n MOST_MESSAGE_WORDS then Some n else None
good_count words (negsuc n) = None

-- a count of words of an array; none where it traps: it has no value, is below 0, or is above 16 or the array's words
abbrev pub count_of : Program → ProgramState → ℕ → Expr → Option ℕ
count_of program s buffer count =
    option_and_then (good_count (words_of s.globals buffer)) (value_of (memory_of program s) count)

-- what a function gives of an entry's statement
abbrev pub in_entry : {A : Type 0} → A → (What-F What Statement → A) → Option Entry → A
in_entry none_there f (Some (Run statement)) = f (out-What statement.what)
in_entry none_there f _ = none_there

-- what a function gives of the next entry's statement
abbrev pub in_next : {A : Type 0} → A → (What-F What Statement → A) → List Frame → A
in_next none_there f frames = in_entry none_there f (next_of frames)

-- the procedure that a frame has called: that of the call that stands first in it
abbrev pub called_by : List Entry → Option ℕ
called_by (Run statement ∷ rest) = called_in (out-What statement.what)
called_by _ = None
