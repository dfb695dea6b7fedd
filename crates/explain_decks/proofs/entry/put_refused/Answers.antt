use Rattle.std.proofs.Common.{ℕ, List, ◌++◌, subst}
use Rattle.fault_text.specs.trace_print.specs.FaultLine.{fault_line}
use Rattle.gd_io.specs.Puts.{Puts}
use Rattle.explain_decks.proofs.entry.put_refused.Goals as goal

pub returns : goal.returns
returns g c = (
  c.write_why-written.result,
  subst (λ (told : List ℕ). Puts g.K.Sink.held g.K.Sink.faults g.K.Sink.sure c.args.sink.now
      c.write_why-written.new.sink (told ++ fault_line c.args.refused.now.fault) c.write_why-written.result)
      c.as_slice.ensures c.write_why-written.ensures,
  c.status_after.ensures,
)
