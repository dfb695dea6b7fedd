-- A program with a call inside an IF inside a FOR, one with a call of a DO in a DO, and their states; a disc that has
-- made many writes.
use Rattle.std.specs.Prelude.{ℕ, ℤ, pos, negsuc, true, false, List, [], ◌∷◌, Option, None}
use Rattle.tal_tree.specs.declared.program.Program.{Program}
use Rattle.tal_tree.specs.declared.program.Shape.TheVariants as shape
use Rattle.tal_tree.specs.declared.program.Target.TheVariants as target
use Rattle.tal_tree.specs.declared.statement.Statement.{Statement}
use Rattle.tal_tree.specs.declared.statement.What.{What, If, For, DoUntil, Call, Return, Checkpoint, Stop}
use Rattle.tal_tree.specs.declared.expression.Cond.{Truth}
use Rattle.tal_tree.specs.declared.expression.Expr.{Number}
use Rattle.tal_tree.specs.declared.expression.Variable.TheVariants.{Local}
use Rattle.process_semantics.specs.declared.point.Point.{Point}
use Rattle.process_semantics.specs.declared.point.Point.TheVariants as point
use Rattle.process_semantics.specs.Process.{ProcessState, Runs, Serves}
use Rattle.process_semantics.specs.State.{Entry, Run, Test, Last, Frame, start}
use Rattle.process_guards.specs.States.{procedure_of}

abbrev numbered : ℕ → What → Statement
numbered n what = record { number = n; line = n; what = what }

abbrev pub checkpoints : Statement
checkpoints = numbered 1 (Checkpoint (0 ∷ []) [])

abbrev pub gives : Statement
gives = numbered 2 (Return None)

abbrev pub calls : Statement
calls = numbered 6 (Call 0 (Number (pos 5) ∷ []))

-- its test has the number 4, and its last assignment 7
abbrev pub repeats : Statement
repeats = numbered 3 (For (Local 0) (Number (pos 1)) (Number (pos 9)) false (pos 1)
    (numbered 5 (If (Truth (Number (pos 1))) (calls ∷ []) []) ∷ []) 7)

abbrev pub stops : Statement
stops = numbered 8 Stop

-- a simple global, an array of two words, and a file
abbrev pub nested : Program
nested = record {
  items = record { name = 88 ∷ []; shape = shape.Simple }
      ∷ record { name = 66 ∷ []; shape = shape.Array (pos 0) (pos 1) }
      ∷ record { name = 70 ∷ []; shape = shape.File 0 } ∷ [];
  files = record { item = 2; target = target.Process (36 ∷ 80 ∷ []); depth = 1 } ∷ [];
  procedures = procedure_of false 1 ((65 ∷ []) ∷ (76 ∷ []) ∷ []) (checkpoints ∷ gives ∷ [])
      ∷ procedure_of false 0 ((73 ∷ []) ∷ []) (repeats ∷ stops ∷ []) ∷ [];
  main = 1;
}

-- MAIN's frame and that of the procedure which it calls, where these entries remain
abbrev pub main_at : List Entry → Frame
main_at rest = record { procedure = 1; locals = pos 2 ∷ []; rest = rest }

abbrev pub called_at : List Entry → Frame
called_at rest = record { procedure = 0; locals = pos 5 ∷ negsuc 0 ∷ []; rest = rest }

-- MAIN while its call is in progress
abbrev pub calling : Frame
calling = main_at (Run calls ∷ Last repeats ∷ Test repeats ∷ Run stops ∷ [])

-- the program with a request in hand, where the array has these words and these frames run
abbrev pub busy : List ℤ → List Frame → ProcessState
busy array frames = Runs nested (record
    { globals = (pos 7 ∷ []) ∷ array ∷ [] ∷ []; frames = frames; in_hand = true; awaits = false; ended = false })

-- the same where the array's words are 0
abbrev pub running : List Frame → ProcessState
running frames = busy (pos 0 ∷ pos 0 ∷ []) frames

-- the program at its beginning
abbrev pub fresh : ProcessState
fresh = Runs nested (start nested)

-- the program once it ended
abbrev pub ended : ProcessState
ended = Runs nested (record {
  globals = (pos 7 ∷ []) ∷ (pos 0 ∷ pos 0 ∷ []) ∷ [] ∷ [];
  frames = [];
  in_hand = false;
  awaits = false;
  ended = true;
})

-- a DO in a DO, and a RETURN in the inner one: the numbers of their tests stand behind it
abbrev pub leaves : Statement
leaves = numbered 1 (Return None)

abbrev pub inner_loop : Statement
inner_loop = numbered 2 (DoUntil (leaves ∷ []) (Truth (Number (pos 0))))

abbrev pub outer_loop : Statement
outer_loop = numbered 3 (DoUntil (inner_loop ∷ []) (Truth (Number (pos 1))))

-- a FOR that counts down by 2; its test has the number 5
abbrev pub enters : Statement
enters = numbered 6 (Call 0 [])

abbrev pub counts_down : Statement
counts_down = numbered 4 (For (Local 0) (Number (pos 9)) (Number (pos 1)) true (pos 2) (enters ∷ []) 7)

abbrev pub looping : Program
looping = record nested {
  procedures = procedure_of false 0 [] (outer_loop ∷ [])
      ∷ procedure_of false 0 ((73 ∷ []) ∷ []) (counts_down ∷ stops ∷ []) ∷ [];
}

-- that program at its beginning, and with a request in hand where these frames run
abbrev pub looping_fresh : ProcessState
looping_fresh = Runs looping (start looping)

abbrev pub in_loops : List Frame → ProcessState
in_loops frames = Runs looping (record (start looping) { frames = frames; in_hand = true })

-- the frame of the procedure with the DOs, where these entries remain, before MAIN
abbrev pub inside_call : List Entry → List Frame
inside_call rest = record { procedure = 0; locals = []; rest = rest }
    ∷ main_at (Run enters ∷ Last counts_down ∷ Test counts_down ∷ Run stops ∷ []) ∷ []

-- a disc after 171,072 writes, which are twice 65,536 and 40,000
abbrev pub disc_at : Point → Option (List ℤ) → Option (List ℤ) → ProcessState
disc_at label request reply = Serves 2 (record { label = label; request = request; reply = reply; last_write = 171072 })

-- a disc with nothing in hand, after so many writes
abbrev pub disc_after : ℕ → ProcessState
disc_after writes = Serves 2 (record { label = point.Take; request = None; reply = None; last_write = writes })
