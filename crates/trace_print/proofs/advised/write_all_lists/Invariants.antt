use Rattle.std.proofs.Common.{Ok, take}
use Rattle.gd_io.specs.Puts.{Puts}
use Rattle.trace_print.specs.AdviceText.{list_lines}
use Rattle.trace_print.proofs.advised.write_all_lists.Given as goal

-- the part so far is written
abbrev pub invariant-loop-one : goal.invariant-loop-one
invariant-loop-one g l = Puts g.K.Sink.held g.K.Sink.faults g.K.Sink.sure l.fn.sink l.sink
    (list_lines l.site l.process (take l.one-index l.lists)) (Ok tt)
