use Rattle.std.proofs.Common.{Ok, take}
use Rattle.gd_io.specs.Puts.{Puts}
use Rattle.trace_print.specs.AdviceText.{pair_texts}
use Rattle.trace_print.proofs.advised.write_all_pairs.Given as goal

-- the part so far is written
abbrev pub invariant-loop-pair : goal.invariant-loop-pair
invariant-loop-pair g l = Puts g.K.Sink.held g.K.Sink.faults g.K.Sink.sure l.fn.sink l.sink
    (pair_texts l.site (take l.pair-index l.pairs)) (Ok tt)
