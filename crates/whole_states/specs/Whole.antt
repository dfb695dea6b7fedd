-- Whole states: those that a program may be in. What is no state of a program, such as two frames of which the lower
-- one has called nothing, is none.
use Rattle.std.specs.Prelude.{◌≡◌, ℕ, ℤ, true, false, List, [], ◌∷◌, map, length, slice_get, Option, Some}
use Rattle.process_semantics.specs.tal_tree.specs.Shapes.{width}
use Rattle.process_semantics.specs.tal_tree.specs.declared.program.Program.{Program}
use Rattle.process_semantics.specs.tal_tree.specs.declared.program.Procedure.{Procedure}
use Rattle.process_semantics.specs.declared.point.Point.TheVariants.{Ask}
use Rattle.process_semantics.specs.State.{Frame, ProgramState, called_by}
use Rattle.process_semantics.specs.Changes.{with_waiting}
use Rattle.process_semantics.specs.Points.{point_of}
use Rattle.process_semantics.specs.Image.{is_empty}
use Rattle.process_semantics.specs.Remains.{Remains}

-- a frame of a procedure: it has the procedure's locals, and what remains is of its body
pub record IsFrame (program : Program) (frame : Frame) : Type 0 where
  pub procedure : Procedure
  pub there : slice_get program.procedures frame.procedure ≡ Some procedure
  pub locals : length frame.locals ≡ length procedure.locals
  pub rest : Remains procedure.body frame.rest

-- the procedure that runs above these frames: the one that the first of them has called, and MAIN above none
abbrev pub called_above : Program → List Frame → Option ℕ
called_above program [] = Some program.main
called_above program (caller ∷ callers) = called_by caller.rest

-- each frame is of the procedure that the one below it has called, and the lowest is MAIN's
abbrev pub AreFrames : Program → List Frame → Type 0
AreFrames program [] = Unit {0}
AreFrames program (frame ∷ callers) =
    IsFrame program frame × ((called_above program callers ≡ Some frame.procedure) × AreFrames program callers)

-- how many words each global of a state has
abbrev pub sizes_of : List (List ℤ) → List ℕ
sizes_of globals = map (λ words. length words) globals

-- how many words each global of a program has
abbrev pub widths_of : Program → List ℕ
widths_of program = map (λ item. width item.shape) program.items

-- a whole state of a program: its frames and globals are the program's, it has ended exactly where no procedure runs,
-- and a reply is awaited only where a process that awaits none would ask
pub record IsWhole (program : Program) (s : ProgramState) : Type 0 where
  pub frames : AreFrames program s.frames
  pub globals : sizes_of s.globals ≡ widths_of program
  pub ended : s.ended ≡ is_empty s.frames
  pub awaits : s.awaits ≡ true → point_of program (with_waiting false s) ≡ Ask
