-- What a call gets back is told by the deed that stands first in its frame, and a deed that is done leaves the entries
-- after its own.
use Rattle.std.proofs.Common.{◌≡◌, ℤ, List, [], ◌∷◌, drop, Option, Some, None, refl}
use Rattle.tal_tree.specs.declared.program.Program.{Program}
use Rattle.tal_tree.specs.declared.statement.Statement.{Statement}
use Rattle.tal_tree.specs.declared.statement.What.{What, What-F, out-What}
use Rattle.process_semantics.specs.tal_values.specs.declared.memory.Cell.{Cell}
use Rattle.process_semantics.specs.tal_values.specs.declared.memory.Cell.TheVariants as cell
use Rattle.process_semantics.specs.Changes.{done, left}
use Rattle.process_semantics.specs.State.{Entry, Run, Test, Last, Frame, ProgramState, rest_of, first_of}
use Rattle.process_semantics.specs.Steps.{state_after_assigning, given, given_in, given_to, state_after_return}
use Rattle.program_deeds.specs.Deed.{deed_run, deed_test, deed_last, deed_of}
use Rattle.program_deeds.specs.Doing.{going_on, state_after_store, deed_given, caller_given, gives_back}

done-frames : (s : ProgramState) (frames : List Frame)
    → done (record s { frames = frames }) ≡ going_on (drop 1 (rest_of frames)) (record s { frames = frames })
done-frames s [] = refl
done-frames s (frame ∷ callers) = refl

pub done-goes : (s : ProgramState) → done s ≡ going_on (drop 1 (rest_of s.frames)) s
done-goes s = done-frames s s.frames

assigned-frames : (s : ProgramState) (frames : List Frame) (to : Option Cell) (word : Option ℤ)
    → state_after_assigning (record s { frames = frames }) to word
    ≡ state_after_store (drop 1 (rest_of frames)) (record s { frames = frames }) to word
assigned-frames s frames None None = refl
assigned-frames s frames (Some to) None = refl
assigned-frames s frames None (Some word) = refl
assigned-frames s [] (Some (cell.Local local)) (Some word) = refl
assigned-frames s (frame ∷ callers) (Some (cell.Local local)) (Some word) = refl
assigned-frames s [] (Some (cell.Global item offset)) (Some word) = refl
assigned-frames s (frame ∷ callers) (Some (cell.Global item offset)) (Some word) = refl

pub assigned-goes : (s : ProgramState) (to : Option Cell) (word : Option ℤ)
    → state_after_assigning s to word ≡ state_after_store (drop 1 (rest_of s.frames)) s to word
assigned-goes s to word = assigned-frames s s.frames to word

module _ (program : Program) (word : ℤ) (s : ProgramState) (after : List Entry) (statement : Statement) where
  given-run : (what : What-F What Statement)
      → given_in program word s what ≡ deed_given program word s (deed_run after statement what)
  given-run (What-F.Assign to value) = refl
  given-run (What-F.AssignCall to procedure arguments) = refl
  given-run (What-F.If test first second) = refl
  given-run (What-F.While test body) = refl
  given-run (What-F.For variable from to down step body last) = refl
  given-run (What-F.DoUntil body test) = refl
  given-run (What-F.Call procedure arguments) = refl
  given-run (What-F.Return value) = refl
  given-run (What-F.ReadUpdate buffer most got) = refl
  given-run (What-F.Reply buffer count) = refl
  given-run (What-F.WriteRead file buffer send room got) = refl
  given-run (What-F.Checkpoint items files) = refl
  given-run What-F.CheckMonitor = refl
  given-run (What-F.Open file) = refl
  given-run What-F.Stop = refl

  given-test : (what : What-F What Statement)
      → Some (done s) ≡ deed_given program word s (deed_test after statement what)
  given-test (What-F.Assign to value) = refl
  given-test (What-F.AssignCall to procedure arguments) = refl
  given-test (What-F.If test first second) = refl
  given-test (What-F.While test body) = refl
  given-test (What-F.For variable from to down step body last) = refl
  given-test (What-F.DoUntil body test) = refl
  given-test (What-F.Call procedure arguments) = refl
  given-test (What-F.Return value) = refl
  given-test (What-F.ReadUpdate buffer most got) = refl
  given-test (What-F.Reply buffer count) = refl
  given-test (What-F.WriteRead file buffer send room got) = refl
  given-test (What-F.Checkpoint items files) = refl
  given-test What-F.CheckMonitor = refl
  given-test (What-F.Open file) = refl
  given-test What-F.Stop = refl

  given-last : (what : What-F What Statement) → Some (done s) ≡ deed_given program word s (deed_last after what)
  given-last (What-F.Assign to value) = refl
  given-last (What-F.AssignCall to procedure arguments) = refl
  given-last (What-F.If test first second) = refl
  given-last (What-F.While test body) = refl
  given-last (What-F.For variable from to down step body last) = refl
  given-last (What-F.DoUntil body test) = refl
  given-last (What-F.Call procedure arguments) = refl
  given-last (What-F.Return value) = refl
  given-last (What-F.ReadUpdate buffer most got) = refl
  given-last (What-F.Reply buffer count) = refl
  given-last (What-F.WriteRead file buffer send room got) = refl
  given-last (What-F.Checkpoint items files) = refl
  given-last What-F.CheckMonitor = refl
  given-last (What-F.Open file) = refl
  given-last What-F.Stop = refl

given-rest : (program : Program) (word : ℤ) (s : ProgramState) (rest : List Entry)
    → given program word s (first_of rest) ≡ deed_given program word s (deed_of rest)
given-rest program word s [] = refl
given-rest program word s (Run statement ∷ after) = given-run program word s after statement (out-What statement.what)
given-rest program word s (Test statement ∷ after) = given-test program word s after statement (out-What statement.what)
given-rest program word s (Last statement ∷ after) = given-last program word s after statement (out-What statement.what)

given-caller : (program : Program) (word : ℤ) (s : ProgramState) (frames : List Frame)
    → given_to program word s frames ≡ caller_given program word s frames
given-caller program word s [] = refl
given-caller program word s (caller ∷ callers) = given-rest program word s caller.rest

-- a return gives its word to the deed of the caller
pub returned-gives : (program : Program) (s : ProgramState) (word : Option ℤ)
    → state_after_return program s word ≡ gives_back program s word
returned-gives program s None = refl
returned-gives program s (Some word) = given-caller program word (left s) (drop 1 s.frames)
