use Rattle.std.proofs.Common.{◌+◌, ◌*◌}
use Rattle.break_progress.specs.Progress.{TellsOn, runs_of}
use Rattle.break_runs.specs.Breaks.{AreSoundBelow}
use Rattle.break_runs.proofs.stops.first_stop.Given as goal

-- nothing broke so far, and that is told
abbrev pub invariant-loop-processor : goal.invariant-loop-processor
invariant-loop-processor g l =
    AreSoundBelow l.site l.lines l.places l.processor
    × TellsOn g.K.Sink.held g.K.Sink.faults g.K.Sink.sure (runs_of l.site.processors l.places) 1
    (1 + l.processor * l.places) l.fn.sink l.fn.written l.sink l.written
