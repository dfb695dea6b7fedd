use Rattle.std.proofs.Common.{Ok, take}
use Rattle.gd_io.specs.Puts.{Puts}
use Rattle.trace_print.specs.MirrorLine.{mirror_lines}
use Rattle.trace_print.proofs.mirrors.write_all_mirrors.Given as goal

-- the lines so far are written
abbrev pub invariant-loop-drives : goal.invariant-loop-drives
invariant-loop-drives g l =
    Puts g.K.Sink.held g.K.Sink.faults g.K.Sink.sure l.fn.sink l.sink
    (mirror_lines l.site (take l.drives-index l.mirrors)) (Ok tt)
