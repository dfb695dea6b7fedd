-- The frames of a program that runs, from what is kept of them.
use Rattle.std.specs.Prelude.{List, [], ◌∷◌, map, reverse, Option, Some, None}
use Rattle.process_semantics.specs.State.{Entry, Frame}
use Rattle.tal_table.specs.Places.{rest_at}
use Rattle.tal_interp.specs.declared.frame.Frame.{Frame as Kept}

-- a frame of which the number that comes next is kept
abbrev pub frame_seen : List (List Entry) → Kept → Frame
frame_seen places frame = record { procedure = frame.procedure; locals = frame.locals; rest = rest_at places frame.at }

-- the frames of the procedure that runs and of its callers, MAIN's first
abbrev pub frames_seen : List (List Entry) → Option Kept → List Kept → List Frame
frames_seen places None callers = []
frames_seen places (Some running) callers = frame_seen places running ∷ map (frame_seen places) (reverse callers)
