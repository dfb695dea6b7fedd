-- The frames of a running program: after the procedure that runs come its callers, of which the last called it.
use Rattle.std.specs.Prelude.{List, [], ◌∷◌, reverse, Option, Some, None}
use Rattle.plain_program.specs.declared.frame.Frames.{Frames}
use Rattle.process_semantics.specs.State.{Frame}

-- the frames, the one that runs first
abbrev pub frames_of : Option Frames → List Frame
frames_of None = []
frames_of (Some frames) = frames.running ∷ reverse frames.callers.items
