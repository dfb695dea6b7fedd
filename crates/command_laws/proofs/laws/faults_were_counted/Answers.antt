use Rattle.command_laws.proofs.Faults.{reading-failed, writing-failed, writing-is-sure}
use Rattle.command_laws.proofs.laws.faults_were_counted.Goals as goal

pub returns-clause-read : goal.returns-clause-read
returns-clause-read g c = λ words source source_now sink sink_now outcome ends fault.
    reading-failed words (g.S.Source.left source) (g.S.Source.faults source) (g.S.Source.faults source_now)
    ends.decided ends.is_written.result outcome
    ends.is_due ends.is_written.is fault

pub returns-clause-written : goal.returns-clause-written
returns-clause-written g c = λ words source source_now sink sink_now outcome ends fault.
    writing-failed g.K.Sink.held g.K.Sink.faults g.K.Sink.sure sink sink_now ends.decided outcome ends.is_written fault

pub returns-clause-sure : goal.returns-clause-sure
returns-clause-sure g c = λ words source source_now sink sink_now outcome ends able.
    writing-is-sure g.K.Sink.held g.K.Sink.faults g.K.Sink.sure sink sink_now ends.decided outcome ends.is_written able
