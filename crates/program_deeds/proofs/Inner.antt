-- The step of a program at Inner is that of its deed.
use Rattle.std.proofs.Common.{◌≡◌, pos, Bool, true, false, List, [], ◌∷◌, ◌++◌, Option, Some, None, ℤ, refl, ap, sym}
use Rattle.std.proofs.Common.{◌∙◌, append_assoc}
use Rattle.tal_tree.specs.declared.expression.Expr.TheVariants.{Number, Read}
use Rattle.tal_tree.specs.declared.expression.Variable.{Variable}
use Rattle.tal_tree.specs.declared.expression.Variable.TheVariants as variable
use Rattle.tal_tree.specs.declared.program.Program.{Program}
use Rattle.tal_tree.specs.declared.statement.Statement.{Statement}
use Rattle.tal_tree.specs.declared.statement.What.{What, What-F, out-What}
use Rattle.process_semantics.specs.tal_values.specs.Value.{Memory, value_of, cell_of, truth_of, both}
use Rattle.process_semantics.specs.tal_values.specs.Value.{result_of as operated}
use Rattle.process_semantics.specs.tal_values.proofs.ValueSteps.{value-read, value-two}
use Rattle.process_semantics.specs.Changes.{variable_cell, variable_of}
use Rattle.process_semantics.specs.State.{Entry, Run, Test, Last, Frame, ProgramState, memory_of, rest_of, runs_of}
use Rattle.process_semantics.specs.Steps.{tested, for_begun, state_after_count, tested_in, state_after_count_in}
use Rattle.process_semantics.specs.Steps.{goes_round, inner_in}
use Rattle.process_semantics.specs.Steps.{inner, or_ends, result_of}
use Rattle.process_semantics.specs.tal_values.specs.Spots.{spot_of}
use Rattle.program_deeds.specs.Deed.{Deed, deed_run, counts_by, deed_test, deed_last, deed_of}
use Rattle.program_deeds.specs.Doing.{state_after_store, state_after_test, deed_inner}
use Rattle.program_deeds.proofs.Given.{assigned-goes, returned-gives}

variable-read : (program : Program) (s : ProgramState) (one : Variable)
    → variable_of program s one ≡ value_of (memory_of program s) (Read (spot_of one))
variable-read program s (variable.Local local) = sym (value-read (memory_of program s) (spot_of (variable.Local local)))
variable-read program s (variable.Simple item) = sym (value-read (memory_of program s) (spot_of (variable.Simple item)))

-- a state whose running frame has these entries
abbrev standing : ProgramState → Frame → List Frame → List Entry → ProgramState
standing s frame callers rest = record s { frames = record frame { rest = rest } ∷ callers }

-- the step of a deed, which ends the process where it traps
abbrev step-by : Program → ProgramState → Deed → ProgramState
step-by program s deed = or_ends s (deed_inner program s deed)

module _ (program : Program) (s : ProgramState) (frame : Frame) (callers : List Frame) (statement : Statement)
    (after : List Entry) where
  -- the state in which this entry comes next
  abbrev at : Entry → ProgramState
  at entry = standing s frame callers (entry ∷ after)

  tested-is : (entry : Entry) (first second : List Entry) (holds : Option Bool)
      → tested (at entry) first second holds ≡ state_after_test (first ++ after) (second ++ after) (at entry) holds
  tested-is entry first second None = refl
  tested-is entry first second (Some true) = refl
  tested-is entry first second (Some false) = refl

  begun-is : (memory : Memory) (one : Variable) (word : Option ℤ)
      → for_begun (at (Run statement)) statement one word
      ≡ state_after_store (Test statement ∷ after) (at (Run statement)) (cell_of memory (spot_of one)) word
  begun-is memory (variable.Local local) None = refl
  begun-is memory (variable.Simple item) None = refl
  begun-is memory (variable.Local local) (Some word) = refl
  begun-is memory (variable.Simple item) (Some word) = refl

  counted-is : (memory : Memory) (one : Variable) (down : Bool) (step : ℤ) (word : Option ℤ)
      → state_after_count (at (Last statement)) (variable_cell one) down step word
      ≡ state_after_store after (at (Last statement)) (cell_of memory (spot_of one))
      (both (operated (counts_by down)) word (Some step))
  counted-is memory (variable.Local local) down step None = refl
  counted-is memory (variable.Simple item) down step None = refl
  counted-is memory (variable.Local local) false step (Some word) = refl
  counted-is memory (variable.Local local) true step (Some word) = refl
  counted-is memory (variable.Simple item) false step (Some word) = refl
  counted-is memory (variable.Simple item) true step (Some word) = refl

  run-is : (what : What-F What Statement)
      → or_ends (at (Run statement)) (inner_in program (at (Run statement)) statement what)
      ≡ step-by program (at (Run statement)) (deed_run after statement what)
  run-is (What-F.Assign to value) =
      let t = at (Run statement) in
      ap (or_ends t) (assigned-goes t (cell_of (memory_of program t) to) (value_of (memory_of program t) value))
  run-is (What-F.AssignCall to procedure arguments) = refl
  run-is (What-F.If test first second) =
      let t = at (Run statement) in
      ap (or_ends t) (tested-is (Run statement) (runs_of first) (runs_of second) (truth_of (memory_of program t) test))
  run-is (What-F.While test body) =
      let t = at (Run statement) in
      let holds = truth_of (memory_of program t) test in
      ap (or_ends t) (tested-is (Run statement) (runs_of body ++ Run statement ∷ []) [] holds
      ∙ ap (λ first. state_after_test first after t holds) (append_assoc (runs_of body) (Run statement ∷ []) after))
  run-is (What-F.For variable from to down step body last) =
      let t = at (Run statement) in
      ap (or_ends t) (begun-is (memory_of program t) variable (value_of (memory_of program t) from))
  run-is (What-F.DoUntil body test) =
      let t = at (Run statement) in
      let holds = truth_of (memory_of program t) test in
      ap (or_ends t) (tested-is (Run statement) [] (runs_of body ++ Run statement ∷ []) holds
      ∙ ap (λ second. state_after_test after second t holds) (append_assoc (runs_of body) (Run statement ∷ []) after))
  run-is (What-F.Call procedure arguments) = refl
  run-is (What-F.Return value) =
      let t = at (Run statement) in
      ap (or_ends t) (returned-gives program t (result_of (memory_of program t) value))
  run-is (What-F.ReadUpdate buffer most got) = refl
  run-is (What-F.Reply buffer count) = refl
  run-is (What-F.WriteRead file buffer send room got) = refl
  run-is (What-F.Checkpoint items files) = refl
  run-is What-F.CheckMonitor = refl
  run-is (What-F.Open file) = refl
  run-is What-F.Stop = refl

  test-is : (what : What-F What Statement)
      → or_ends (at (Test statement)) (tested_in program (at (Test statement)) statement what)
      ≡ step-by program (at (Test statement)) (deed_test after statement what)
  test-is (What-F.Assign to value) = refl
  test-is (What-F.AssignCall to procedure arguments) = refl
  test-is (What-F.If test first second) = refl
  test-is (What-F.While test body) = refl
  test-is (What-F.DoUntil body test) = refl
  test-is (What-F.For variable from to down step body last) =
      let t = at (Test statement) in
      let body_then = runs_of body ++ Last statement ∷ Test statement ∷ [] in
      let limit = value_of (memory_of program t) to in
      let here = value_of (memory_of program t) (Read (spot_of variable)) in
      ap (or_ends t) (ap (λ word. tested t body_then [] (goes_round down word limit)) (variable-read program t variable)
      ∙ tested-is (Test statement) body_then [] (goes_round down here limit)
      ∙ ap (λ first. state_after_test first after t (goes_round down here limit))
      (append_assoc (runs_of body) (Last statement ∷ Test statement ∷ []) after))
  test-is (What-F.Call procedure arguments) = refl
  test-is (What-F.Return value) = refl
  test-is (What-F.ReadUpdate buffer most got) = refl
  test-is (What-F.Reply buffer count) = refl
  test-is (What-F.WriteRead file buffer send room got) = refl
  test-is (What-F.Checkpoint items files) = refl
  test-is What-F.CheckMonitor = refl
  test-is (What-F.Open file) = refl
  test-is What-F.Stop = refl

  last-is : (what : What-F What Statement)
      → or_ends (at (Last statement)) (state_after_count_in program (at (Last statement)) what)
      ≡ step-by program (at (Last statement)) (deed_last after what)
  last-is (What-F.Assign to value) = refl
  last-is (What-F.AssignCall to procedure arguments) = refl
  last-is (What-F.If test first second) = refl
  last-is (What-F.While test body) = refl
  last-is (What-F.DoUntil body test) = refl
  last-is (What-F.For variable from to down step body last) =
      let t = at (Last statement) in
      let memory = memory_of program t in
      let place = cell_of memory (spot_of variable) in
      let by = operated (counts_by down) in
      ap (or_ends t) (counted-is memory variable down step (variable_of program t variable)
      ∙ ap (λ word. state_after_store after t place (both by word (Some step))) (variable-read program t variable)
      ∙ ap (state_after_store after t place) (sym
      (value-two memory (counts_by down) (Read (spot_of variable)) (Number step))))
  last-is (What-F.Call procedure arguments) = refl
  last-is (What-F.Return value) = refl
  last-is (What-F.ReadUpdate buffer most got) = refl
  last-is (What-F.Reply buffer count) = refl
  last-is (What-F.WriteRead file buffer send room got) = refl
  last-is (What-F.Checkpoint items files) = refl
  last-is What-F.CheckMonitor = refl
  last-is (What-F.Open file) = refl
  last-is What-F.Stop = refl

rest-is : (program : Program) (s : ProgramState) (frame : Frame) (callers : List Frame) (rest : List Entry)
    → inner program (standing s frame callers rest) ≡ step-by program (standing s frame callers rest) (deed_of rest)
rest-is program s frame callers [] =
    let t = standing s frame callers [] in
    ap (or_ends t) (returned-gives program t (Some (pos 0)))
rest-is program s frame callers (Run statement ∷ after) =
    run-is program s frame callers statement after (out-What statement.what)
rest-is program s frame callers (Test statement ∷ after) =
    test-is program s frame callers statement after (out-What statement.what)
rest-is program s frame callers (Last statement ∷ after) =
    last-is program s frame callers statement after (out-What statement.what)

frames-is : (program : Program) (s : ProgramState) (frames : List Frame)
    → inner program (record s { frames = frames })
    ≡ step-by program (record s { frames = frames }) (deed_of (rest_of frames))
frames-is program s [] = refl
frames-is program s (frame ∷ callers) = rest-is program s frame callers frame.rest

pub inner-is : (program : Program) (s : ProgramState)
    → inner program s ≡ or_ends s (deed_inner program s (deed_of (rest_of s.frames)))
inner-is program s = frames-is program s s.frames
