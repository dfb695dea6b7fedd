-- Places: where a program may stand, told without its values, and where it may stand next.
use Rattle.std.specs.Prelude.{ℕ, List, [], ◌∷◌, ◌++◌, map, drop, slice_get, Option, Some, None}
use Rattle.tal_tree.specs.declared.program.Program.{Program}
use Rattle.tal_tree.specs.declared.program.Procedure.{Procedure}
use Rattle.tal_tree.specs.declared.statement.Statement.{Statement}
use Rattle.tal_tree.specs.declared.statement.What.{What, What-F, out-What}
use Rattle.process_semantics.specs.State.{Entry, Run, Test, Last, Frame, runs_of, first_of}
use Rattle.path_semantics.specs.declared.dues.Dues.{Dues}
use Rattle.path_semantics.specs.Dues.{no_dues, with_changed, after_entry, changed_by_return}

-- a place: what remains in each procedure that runs, the one that runs now first and MAIN last. A call in progress
-- stays first in its frame. A program that has ended has no frame
abbrev pub Place : Type 0
Place = List (List Entry)

-- the place of a running program: its frames without their values
abbrev pub place_of : List Frame → Place
place_of frames = map (λ frame. frame.rest) frames

-- a place that is come to, and what is due there
pub record Stand : Type 0 where
  pub place : Place
  pub dues : Dues

abbrev pub body_in : Option Procedure → List Entry
body_in None = []
body_in (Some procedure) = runs_of procedure.body

-- what there is to do in a procedure
abbrev pub body_of : Program → ℕ → List Entry
body_of program procedure = body_in (slice_get program.procedures procedure)

abbrev pub next_in : Place → Option Entry
next_in [] = None
next_in (frame ∷ callers) = first_of frame

-- the next entry: the first that remains in the procedure that runs
abbrev pub next_entry : Stand → Option Entry
next_entry stand = next_in stand.place

-- where a statement leads, from a frame with so much after it: a test leads both ways, a call into its procedure,
-- RETURN to the procedure's end, STOP to the end
abbrev pub ways_of : Program → Statement → List Entry → Place → What-F What Statement → List Place
ways_of program statement rest callers (What-F.If test first second) =
    ((runs_of first ++ rest) ∷ callers) ∷ ((runs_of second ++ rest) ∷ callers) ∷ []
ways_of program statement rest callers (What-F.While test body) =
    ((runs_of body ++ Run statement ∷ rest) ∷ callers) ∷ (rest ∷ callers) ∷ []
ways_of program statement rest callers (What-F.DoUntil body test) =
    (rest ∷ callers) ∷ ((runs_of body ++ Run statement ∷ rest) ∷ callers) ∷ []
ways_of program statement rest callers (What-F.For variable from to down step body last) =
    ((Test statement ∷ rest) ∷ callers) ∷ []
ways_of program statement rest callers (What-F.AssignCall to procedure arguments) =
    (body_of program procedure ∷ (Run statement ∷ rest) ∷ callers) ∷ []
ways_of program statement rest callers (What-F.Call procedure arguments) =
    (body_of program procedure ∷ (Run statement ∷ rest) ∷ callers) ∷ []
ways_of program statement rest callers (What-F.Return value) = ([] ∷ callers) ∷ []
ways_of program statement rest callers What-F.Stop = [] ∷ []
ways_of program statement rest callers (What-F.Assign _ _) = (rest ∷ callers) ∷ []
ways_of program statement rest callers (What-F.ReadUpdate _ _ _) = (rest ∷ callers) ∷ []
ways_of program statement rest callers (What-F.Reply _ _) = (rest ∷ callers) ∷ []
ways_of program statement rest callers (What-F.WriteRead _ _ _ _ _) = (rest ∷ callers) ∷ []
ways_of program statement rest callers (What-F.Checkpoint _ _) = (rest ∷ callers) ∷ []
ways_of program statement rest callers What-F.CheckMonitor = (rest ∷ callers) ∷ []
ways_of program statement rest callers (What-F.Open _) = (rest ∷ callers) ∷ []

abbrev pub rounds_of : Statement → List Entry → Place → What-F What Statement → List Place
rounds_of statement rest callers (What-F.For variable from to down step body last) =
    ((runs_of body ++ Last statement ∷ Test statement ∷ rest) ∷ callers) ∷ (rest ∷ callers) ∷ []
rounds_of statement rest callers (What-F.Assign _ _) = (rest ∷ callers) ∷ []
rounds_of statement rest callers (What-F.AssignCall _ _ _) = (rest ∷ callers) ∷ []
rounds_of statement rest callers (What-F.If _ _ _) = (rest ∷ callers) ∷ []
rounds_of statement rest callers (What-F.While _ _) = (rest ∷ callers) ∷ []
rounds_of statement rest callers (What-F.DoUntil _ _) = (rest ∷ callers) ∷ []
rounds_of statement rest callers (What-F.Call _ _) = (rest ∷ callers) ∷ []
rounds_of statement rest callers (What-F.Return _) = (rest ∷ callers) ∷ []
rounds_of statement rest callers (What-F.ReadUpdate _ _ _) = (rest ∷ callers) ∷ []
rounds_of statement rest callers (What-F.Reply _ _) = (rest ∷ callers) ∷ []
rounds_of statement rest callers (What-F.WriteRead _ _ _ _ _) = (rest ∷ callers) ∷ []
rounds_of statement rest callers (What-F.Checkpoint _ _) = (rest ∷ callers) ∷ []
rounds_of statement rest callers What-F.CheckMonitor = (rest ∷ callers) ∷ []
rounds_of statement rest callers (What-F.Open _) = (rest ∷ callers) ∷ []
rounds_of statement rest callers What-F.Stop = (rest ∷ callers) ∷ []

-- where an entry leads: a FOR's test goes round once more or on, its last assignment to its test
abbrev pub ways : Program → Entry → List Entry → Place → List Place
ways program (Run statement) rest callers = ways_of program statement rest callers (out-What statement.what)
ways program (Test statement) rest callers = rounds_of statement rest callers (out-What statement.what)
ways program (Last statement) rest callers = (rest ∷ callers) ∷ []

-- where nothing remains in the procedure that runs, its frame is removed, and with it the call in the frame below: then
-- the call's target is due. Where nothing remains in MAIN, the program has ended
abbrev pub stand_at : List Entry → Place → Dues → Stand
stand_at (entry ∷ rest) callers dues = record { place = (entry ∷ rest) ∷ callers; dues = dues }
stand_at [] [] dues = record { place = []; dues = dues }
stand_at [] (caller ∷ callers) dues =
    stand_at (drop 1 caller) callers (with_changed (changed_by_return (first_of caller)) dues)

-- the calls whose procedures end where so much remains in the procedure that runs: none where something remains, and
-- else the call in the frame below it, with those that end where that call was the last thing there
abbrev pub calls_ended : List Entry → Place → List Entry
calls_ended (entry ∷ rest) callers = []
calls_ended [] [] = []
calls_ended [] ([] ∷ callers) = calls_ended [] callers
calls_ended [] ((call ∷ rest) ∷ callers) = call ∷ calls_ended rest callers

-- a place as it is come to: without the procedures at whose end it stands
abbrev pub settled : Dues → Place → Stand
settled dues [] = record { place = []; dues = dues }
settled dues (frame ∷ callers) = stand_at frame callers dues

abbrev pub stands_after : Program → Dues → Place → List Stand
stands_after program dues [] = []
stands_after program dues ([] ∷ callers) = []
stands_after program dues ((entry ∷ rest) ∷ callers) =
    map (settled (after_entry dues entry)) (ways program entry rest callers)

-- where the program may stand after its next entry, and what is due there
abbrev pub successors : Program → Stand → List Stand
successors program stand = stands_after program stand.dues stand.place

-- the first place has MAIN's body, and nothing is due
abbrev pub first_stand : Program → Stand
first_stand program = stand_at (body_of program program.main) [] no_dues
