use Rattle.std.proofs.Common.{Ok, take}
use Rattle.gd_io.specs.Puts.{Puts}
use Rattle.trace_print.specs.SectorLine.{sector_lines}
use Rattle.trace_print.proofs.sectors.write_all_sectors.Given as goal

-- the lines so far are written
abbrev pub invariant-loop-written : goal.invariant-loop-written
invariant-loop-written g l =
    Puts g.K.Sink.held g.K.Sink.faults g.K.Sink.sure l.fn.sink l.sink
    (sector_lines l.site (take l.written-index l.sectors)) (Ok tt)
