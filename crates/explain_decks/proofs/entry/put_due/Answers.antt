use Rattle.std.proofs.Common.{ℕ, List, subst, sym}
use Rattle.explain_decks.specs.Written.{Comes, IsWritten}
use Rattle.explain_decks.specs.declared.due.Due.{Due}
use Rattle.explain_decks.specs.declared.status.Status.{Status}
use Rattle.explain_decks.proofs.entry.put_due.Goals as goal

pub returns-in-Judged : goal.returns-in-Judged
returns-in-Judged g c =
    let told = subst (λ (text : List ℕ). IsWritten g.K.Sink.held g.K.Sink.faults g.K.Sink.sure text
    c.judged_status.result c.args.sink.now c.put_told.new.sink c.put_told.result) c.as_slice.ensures
    c.put_told.ensures in
    let judged = subst (λ (whole : Status). IsWritten g.K.Sink.held g.K.Sink.faults g.K.Sink.sure
    c.in-Judged.judged.told whole c.args.sink.now c.put_told.new.sink c.put_told.result) c.judged_status.ensures
    told in
    subst (λ (one : Due). Comes g.K.Sink.held g.K.Sink.faults g.K.Sink.sure one c.args.sink.now c.put_told.new.sink
    c.put_told.result) (sym c.in-Judged.is) judged
