-- A program with one simple global, an array of twenty words, and a function of one parameter; and its states.
use Rattle.std.specs.Prelude.{ℕ, ℤ, pos, Bool, true, false, List, [], ◌∷◌, slice_set}
use Rattle.tal_tree.specs.declared.program.Program.{Program}
use Rattle.tal_tree.specs.declared.program.Procedure.{Procedure}
use Rattle.tal_tree.specs.declared.program.Shape.TheVariants as shape
use Rattle.tal_tree.specs.declared.statement.Statement.{Statement}
use Rattle.tal_tree.specs.declared.statement.What.{What}
use Rattle.tal_tree.specs.declared.expression.Expr.{Expr, Number}
use Rattle.process_semantics.specs.State.{Entry, Run, Frame, ProgramState, zeros}

abbrev pub procedure_of : Bool → ℕ → List (List ℕ) → List Statement → Procedure
procedure_of gives parameters locals body =
    record { name = 80 ∷ []; gives = gives; parameters = parameters; locals = locals; body = body }

-- MAIN has no statements: what remains stands in each state
abbrev pub code : Program
code = record {
  items = record { name = 88 ∷ []; shape = shape.Simple }
      ∷ record { name = 66 ∷ []; shape = shape.Array (pos 0) (pos 19) } ∷ [];
  files = [];
  procedures = procedure_of true 1 ((65 ∷ []) ∷ (76 ∷ []) ∷ []) [] ∷ procedure_of false 0 [] [] ∷ [];
  main = 1;
}

-- a statement
abbrev pub does : What → Statement
does what = record { number = 7; line = 1; what = what }

abbrev pub word : ℤ → Expr
word w = Number w

-- MAIN's frame, where these entries remain
abbrev pub main_with : List Entry → Frame
main_with rest = record { procedure = 1; locals = []; rest = rest }

-- the function's frame with its two locals, where these entries remain
abbrev pub function_with : ℤ → ℤ → List Entry → Frame
function_with first second rest = record { procedure = 0; locals = first ∷ second ∷ []; rest = rest }

-- the state with this simple global and these frames, the running one first, where nothing is in hand and no reply is
-- awaited
abbrev pub with_frames : ℤ → List Frame → ProgramState
with_frames x frames =
    record { globals = (x ∷ []) ∷ zeros 20 ∷ []; frames = frames; in_hand = false; awaits = false; ended = false }

-- MAIN alone, with these entries
abbrev pub standing : ℤ → List Entry → ProgramState
standing x rest = with_frames x (main_with rest ∷ [])

-- MAIN alone, with this statement alone
abbrev pub at_statement : What → ProgramState
at_statement what = standing (pos 0) (Run (does what) ∷ [])

-- with these words in the array
abbrev pub with_array : List ℤ → ProgramState → ProgramState
with_array words s = record s { globals = slice_set s.globals 1 words }

-- with a request in hand
abbrev pub in_hand : ProgramState → ProgramState
in_hand s = record s { in_hand = true }

-- the state with this simple global after a process ended
abbrev pub over : ℤ → ProgramState
over x = record { globals = (x ∷ []) ∷ zeros 20 ∷ []; frames = []; in_hand = false; awaits = false; ended = true }
