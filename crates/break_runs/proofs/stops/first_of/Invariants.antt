use Rattle.std.proofs.Common.{◌+◌, ◌*◌}
use Rattle.break_progress.specs.Progress.{TellsOn, runs_of}
use Rattle.break_runs.specs.Breaks.{AreSoundUpTo, stop_of}
use Rattle.break_runs.specs.Meanwhile.{tried_before}
use Rattle.break_runs.proofs.stops.first_of.Given as goal

-- nothing broke so far, and that is told
abbrev pub invariant-loop-after : goal.invariant-loop-after
invariant-loop-after g l =
    AreSoundUpTo l.site l.lines l.processor l.after
    × TellsOn g.K.Sink.held g.K.Sink.faults g.K.Sink.sure (runs_of l.site.processors l.places)
    (1 + l.processor * l.places) (tried_before l.places (stop_of l.processor l.after)) l.fn.sink l.fn.written l.sink
    l.written
