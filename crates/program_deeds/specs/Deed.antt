-- What a program does next: the deed at the entry that comes next, and the entries that come after it.
use Rattle.std.specs.Prelude.{ℕ, Bool, true, false, List, [], ◌∷◌, ◌++◌, Option, Some, None}
use Rattle.tal_tree.specs.declared.expression.Cond.{Cond}
use Rattle.tal_tree.specs.declared.expression.Cond.TheVariants.{Compare}
use Rattle.tal_tree.specs.declared.expression.Expr.{Expr}
use Rattle.tal_tree.specs.declared.expression.Expr.TheVariants.{Number, Read, Two}
use Rattle.tal_tree.specs.declared.expression.Op.{Op}
use Rattle.tal_tree.specs.declared.expression.Op.TheVariants.{Add, Sub}
use Rattle.tal_tree.specs.declared.expression.Spot.{Spot}
use Rattle.tal_tree.specs.declared.expression.Variable.{Variable}
use Rattle.tal_tree.specs.declared.statement.Statement.{Statement}
use Rattle.tal_tree.specs.declared.statement.What.{What, What-F, out-What}
use Rattle.process_semantics.specs.tal_values.specs.Spots.{spot_of}
use Rattle.process_semantics.specs.State.{Entry, Run, Test, Last, runs_of}
use Rattle.process_semantics.specs.Steps.{bound_by}

-- what is done at an entry. An assignment and a test have the entries that come next. Where any other deed goes on in
-- its procedure, the entries after its own come next
pub data Deed : Type 0 where
  -- a spot gets the value of an expression
  Assigns : Spot → Expr → List Entry → Deed
  -- the first list comes next where the condition is true, the second where it is false
  Tests : Cond → List Entry → List Entry → Deed
  -- a procedure is entered with arguments; its word goes to the spot, if there is one
  Enters : ℕ → List Expr → Option Spot → Deed
  -- the procedure gives its caller the value of the expression, or 0
  Returns : Option Expr → Deed
  -- nothing changes
  Passes : Deed
  -- the process ends
  Stops : Deed
  -- READUPDATE takes a request: its buffer, the most words that it takes, and the variable that gets their number
  Takes : ℕ → Expr → Variable → Deed
  -- WRITEREAD asks on a file: its buffer, how many words it sends, for how many it has room, and the variable that gets
  -- their number
  Asks : ℕ → ℕ → Expr → Expr → Variable → Deed
  -- REPLY answers: its buffer, and how many words it sends
  Answers : ℕ → Expr → Deed
  -- CHECKPOINT: the items and the files that it names
  Checkpoints : List ℕ → List ℕ → Deed

-- what is done at a statement, where these entries stand after it
abbrev pub deed_run : List Entry → Statement → What-F What Statement → Deed
deed_run after statement (What-F.Assign to value) = Assigns to value after
deed_run after statement (What-F.AssignCall to procedure arguments) = Enters procedure arguments (Some to)
deed_run after statement (What-F.If test first second) = Tests test (runs_of first ++ after) (runs_of second ++ after)
deed_run after statement (What-F.While test body) = Tests test (runs_of body ++ Run statement ∷ after) after
deed_run after statement (What-F.For variable from to down step body last) =
    Assigns (spot_of variable) from (Test statement ∷ after)
deed_run after statement (What-F.DoUntil body test) = Tests test after (runs_of body ++ Run statement ∷ after)
deed_run after statement (What-F.Call procedure arguments) = Enters procedure arguments None
deed_run after statement (What-F.Return value) = Returns value
deed_run after statement (What-F.ReadUpdate buffer most got) = Takes buffer most got
deed_run after statement (What-F.Reply buffer count) = Answers buffer count
deed_run after statement (What-F.WriteRead file buffer send room got) = Asks file buffer send room got
deed_run after statement (What-F.Checkpoint items files) = Checkpoints items files
deed_run after statement What-F.CheckMonitor = Passes
deed_run after statement (What-F.Open file) = Passes
deed_run after statement What-F.Stop = Stops

-- what is done at a FOR's test: the body, its last assignment and the test again come next while the variable isn't
-- past the limit
abbrev pub deed_test : List Entry → Statement → What-F What Statement → Deed
deed_test after statement (What-F.For variable from to down step body last) =
    Tests (Compare (bound_by down) (Read (spot_of variable)) to)
    (runs_of body ++ Last statement ∷ Test statement ∷ after) after
deed_test after statement (What-F.Assign _ _) = Stops
deed_test after statement (What-F.AssignCall _ _ _) = Stops
deed_test after statement (What-F.If _ _ _) = Stops
deed_test after statement (What-F.While _ _) = Stops
deed_test after statement (What-F.DoUntil _ _) = Stops
deed_test after statement (What-F.Call _ _) = Stops
deed_test after statement (What-F.Return _) = Stops
deed_test after statement (What-F.ReadUpdate _ _ _) = Stops
deed_test after statement (What-F.Reply _ _) = Stops
deed_test after statement (What-F.WriteRead _ _ _ _ _) = Stops
deed_test after statement (What-F.Checkpoint _ _) = Stops
deed_test after statement What-F.CheckMonitor = Stops
deed_test after statement (What-F.Open _) = Stops
deed_test after statement What-F.Stop = Stops

-- by which operator a FOR counts
abbrev pub counts_by : Bool → Op
counts_by false = Add
counts_by true = Sub

-- what is done at a FOR's last assignment: its variable is counted up or down
abbrev pub deed_last : List Entry → What-F What Statement → Deed
deed_last after (What-F.For variable from to down step body last) =
    Assigns (spot_of variable) (Two (counts_by down) (Read (spot_of variable)) (Number step)) after
deed_last after (What-F.Assign _ _) = Stops
deed_last after (What-F.AssignCall _ _ _) = Stops
deed_last after (What-F.If _ _ _) = Stops
deed_last after (What-F.While _ _) = Stops
deed_last after (What-F.DoUntil _ _) = Stops
deed_last after (What-F.Call _ _) = Stops
deed_last after (What-F.Return _) = Stops
deed_last after (What-F.ReadUpdate _ _ _) = Stops
deed_last after (What-F.Reply _ _) = Stops
deed_last after (What-F.WriteRead _ _ _ _ _) = Stops
deed_last after (What-F.Checkpoint _ _) = Stops
deed_last after What-F.CheckMonitor = Stops
deed_last after (What-F.Open _) = Stops
deed_last after What-F.Stop = Stops

-- what is done at the first of what remains; a procedure's end returns 0
abbrev pub deed_of : List Entry → Deed
deed_of [] = Returns None
deed_of (Run statement ∷ after) = deed_run after statement (out-What statement.what)
deed_of (Test statement ∷ after) = deed_test after statement (out-What statement.what)
deed_of (Last statement ∷ after) = deed_last after (out-What statement.what)
