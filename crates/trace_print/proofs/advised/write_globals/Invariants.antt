use Rattle.std.proofs.Common.{Ok, take}
use Rattle.gd_io.specs.Puts.{Puts}
use Rattle.trace_print.specs.AdviceText.{globals_text}
use Rattle.trace_print.proofs.advised.write_globals.Given as goal

-- the part so far is written
abbrev pub invariant-loop-item : goal.invariant-loop-item
invariant-loop-item g l = Puts g.K.Sink.held g.K.Sink.faults g.K.Sink.sure l.fn.sink l.sink
    (globals_text l.site l.process (take l.item-index l.items)) (Ok tt)
