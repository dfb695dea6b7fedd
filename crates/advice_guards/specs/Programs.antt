-- Small programs, each for one telling point of what is due at a CHECKPOINT. A statement stands ten lines behind its
-- number.
use Rattle.std.specs.Prelude.{ℕ, ◌+◌, pos, true, List, [], ◌∷◌, codes}
use Rattle.tal_tree.specs.Rows.{places, rows}
use Rattle.tal_tree.specs.declared.expression.Cond.{Cond, Truth}
use Rattle.tal_tree.specs.declared.expression.Expr.{Expr, Number}
use Rattle.tal_tree.specs.declared.expression.Spot as spot
use Rattle.tal_tree.specs.declared.expression.Variable.TheVariants as variable
use Rattle.tal_tree.specs.declared.program.FileUse.{FileUse}
use Rattle.tal_tree.specs.declared.program.Item.{Item}
use Rattle.tal_tree.specs.declared.program.Procedure.{Procedure}
use Rattle.tal_tree.specs.declared.program.Program.{Program}
use Rattle.tal_tree.specs.declared.program.Shape.TheVariants as shape
use Rattle.tal_tree.specs.declared.program.Target.TheVariants as target
use Rattle.tal_tree.specs.declared.statement.Statement.{Statement}
use Rattle.tal_tree.specs.declared.statement.What.{What, Assign, AssignCall, If', While', DoUntil', Call, ReadUpdate}
use Rattle.tal_tree.specs.declared.statement.What.{Reply, WriteRead, Checkpoint, Stop}

-- X and Y are simple, A and BUF arrays of two words, RCV is opened to `$RECEIVE` and DISK to a process, GOT counts
-- words
abbrev items : List Item
items =
    record { name = codes "X"; shape = shape.Simple }
    ∷ record { name = codes "Y"; shape = shape.Simple }
    ∷ record { name = codes "A"; shape = shape.Array (pos 0) (pos 1) }
    ∷ record { name = codes "RCV"; shape = shape.File 0 }
    ∷ record { name = codes "DISK"; shape = shape.File 1 }
    ∷ record { name = codes "GOT"; shape = shape.Simple }
    ∷ record { name = codes "BUF"; shape = shape.Array (pos 0) (pos 1) }
    ∷ []

abbrev files : List FileUse
files = record { item = 3; target = target.Receive; depth = 1 }
    ∷ record { item = 4; target = target.Process (codes "$DATA"); depth = 2 } ∷ []

abbrev procedure_of : List Statement → Procedure
procedure_of body = record { name = codes "P"; gives = true; parameters = 0; locals = []; body = body }

-- MAIN alone
abbrev pub main_alone : List Statement → Program
main_alone body = record { items = items; files = files; procedures = procedure_of body ∷ []; main = 0 }

-- a procedure, and MAIN behind it
abbrev pub with_called : List Statement → List Statement → Program
with_called called body =
    record { items = items; files = files; procedures = procedure_of called ∷ procedure_of body ∷ []; main = 1 }

abbrev pub at : ℕ → What → Statement
at number what = record { number = number; line = number + 10; what = what }

abbrev one : Expr
one = Number (pos 1)

abbrev always : Cond
always = Truth one

abbrev pub sets : ℕ → What
sets item = Assign (spot.Simple item) one

abbrev pub sets_element : ℕ → What
sets_element place = Assign (spot.Element 2 (Number (pos place))) one

abbrev pub checkpoints : What
checkpoints = Checkpoint [] []

abbrev pub asks : What
asks = WriteRead 1 6 one one (variable.Simple 5)

abbrev pub takes : What
takes = ReadUpdate 6 one (variable.Simple 5)

abbrev pub answers : What
answers = Reply 6 one

-- x := 1; CHECKPOINT; CHECKPOINT; y := 1; CHECKPOINT
abbrev pub two_lists : Program
two_lists = main_alone (at 1 (sets 0) ∷ at 2 checkpoints ∷ at 3 checkpoints ∷ at 4 (sets 1) ∷ at 5 checkpoints ∷ [])

-- x := 1; IF .. THEN BEGIN STOP; y := 1 END; CHECKPOINT; STOP; CHECKPOINT
abbrev pub stopping : List Statement
stopping = at 3 Stop ∷ at 4 (sets 1) ∷ []

abbrev pub unreached : Program
unreached = main_alone (at 1 (sets 0) ∷ at 2 (If' always (places stopping) (rows stopping) [] (rows [])) ∷ at 5
    checkpoints
    ∷ at 6 Stop ∷ at 7 checkpoints ∷ [])

-- F is y := 1, and MAIN is x := 1; F; CHECKPOINT
abbrev pub calling : Program
calling = with_called (at 1 (sets 1) ∷ []) (at 2 (sets 0) ∷ at 3 (Call 0 []) ∷ at 4 checkpoints ∷ [])

-- F is CHECKPOINT, and MAIN is x := F; CHECKPOINT
abbrev pub targeting : Program
targeting = with_called (at 1 checkpoints ∷ []) (at 2 (AssignCall (spot.Simple 0) 0 []) ∷ at 3 checkpoints ∷ [])

-- F is CHECKPOINT, and MAIN is x := 1; F; y := 1; F
abbrev pub shared : Program
shared = with_called (at 1 checkpoints ∷ []) (at 2 (sets 0) ∷ at 3 (Call 0 []) ∷ at 4 (sets 1) ∷ at 5 (Call 0 []) ∷ [])

-- a[0] := 1; a[1] := 1; CHECKPOINT
abbrev pub elements : Program
elements = main_alone (at 1 (sets_element 0) ∷ at 2 (sets_element 1) ∷ at 3 checkpoints ∷ [])

-- IF .. THEN x := 1 ELSE y := 1; CHECKPOINT
abbrev pub first_branch : List Statement
first_branch = at 2 (sets 0) ∷ []

abbrev pub second_branch : List Statement
second_branch = at 3 (sets 1) ∷ []

abbrev pub branching : Program
branching = main_alone (at 1 (If' always (places first_branch) (rows first_branch) (places second_branch)
    (rows second_branch)) ∷ at 4 checkpoints ∷ [])

-- WHILE .. DO BEGIN CHECKPOINT; x := 1 END
abbrev pub round : List Statement
round = at 2 checkpoints ∷ at 3 (sets 0) ∷ []

abbrev pub again : Program
again = main_alone (at 1 (While' always (places round) (rows round)) ∷ [])

-- x := 1; DO BEGIN CHECKPOINT; y := 1 END UNTIL ..; CHECKPOINT
abbrev pub first_round : List Statement
first_round = at 2 checkpoints ∷ at 3 (sets 1) ∷ []

abbrev pub until : Program
until = main_alone (at 1 (sets 0) ∷ at 4 (DoUntil' (places first_round) (rows first_round) always) ∷ at 5 checkpoints
    ∷ [])

-- WRITEREAD; CHECKPOINT; WRITEREAD
abbrev pub asking_once : Program
asking_once = main_alone (at 1 asks ∷ at 2 checkpoints ∷ at 3 asks ∷ [])

-- WRITEREAD; WRITEREAD; CHECKPOINT
abbrev pub asking_twice : Program
asking_twice = main_alone (at 1 asks ∷ at 2 asks ∷ at 3 checkpoints ∷ [])

-- four WRITEREADs, and five
abbrev pub asking_four : Program
asking_four = main_alone (at 1 asks ∷ at 2 asks ∷ at 3 asks ∷ at 4 asks ∷ [])

abbrev pub asking_five : Program
asking_five = main_alone (at 1 asks ∷ at 2 asks ∷ at 3 asks ∷ at 4 asks ∷ at 5 asks ∷ [])

-- READUPDATE; REPLY
abbrev pub hasty : Program
hasty = main_alone (at 1 takes ∷ at 2 answers ∷ [])

-- a server's turn: READUPDATE; x := 1; CHECKPOINT; WRITEREAD; REPLY
abbrev pub turn : List Statement
turn = at 2 takes ∷ at 3 (sets 0) ∷ at 4 checkpoints ∷ at 5 asks ∷ at 6 answers ∷ []

abbrev pub serving : Program
serving = main_alone (at 1 (While' always (places turn) (rows turn)) ∷ [])

-- the same with these lists and depths
abbrev turn_with : List ℕ → List ℕ → List Statement
turn_with globals named = at 2 takes ∷ at 3 (sets 0) ∷ at 4 (Checkpoint globals named) ∷ at 5 asks ∷ at 6 answers ∷ []

abbrev pub serving_with : List ℕ → List ℕ → ℕ → ℕ → Program
serving_with globals named first second = record {
  items = items;
  files = record { item = 3; target = target.Receive; depth = first }
      ∷ record { item = 4; target = target.Process (codes "$DATA"); depth = second } ∷ [];
  procedures =
      procedure_of (at 1 (While' always (places (turn_with globals named)) (rows (turn_with globals named))) ∷ []) ∷ [];
  main = 0;
}
