use Rattle.std.proofs.Common.{Ok, take}
use Rattle.gd_io.specs.Puts.{Puts}
use Rattle.trace_print.specs.AdviceText.{files_text}
use Rattle.trace_print.proofs.advised.write_files.Given as goal

-- the part so far is written
abbrev pub invariant-loop-file : goal.invariant-loop-file
invariant-loop-file g l = Puts g.K.Sink.held g.K.Sink.faults g.K.Sink.sure l.fn.sink l.sink
    (files_text l.site l.process (take l.file-index l.files)) (Ok tt)
