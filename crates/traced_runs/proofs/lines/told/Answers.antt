use Rattle.std.proofs.Common.{List, ℕ, Option, subst, sym}
use Rattle.std.proofs.lemmas.Result.{IfOk-weaker}
use Rattle.gd_io.specs.Joining.{puts_nothing}
use Rattle.packet_runs.specs.Runs.{packet_rules}
use Rattle.schedule_loop.specs.Ends.{IsTriedBy}
use Rattle.schedule_loop.specs.declared.ran.Ending.{Ending}
use Rattle.traced_runs.specs.Traces.{Tells}
use Rattle.traced_runs.proofs.lines.told.Goals as goal

pub returns-in-Ok-clause-tried : goal.returns-in-Ok-clause-tried
returns-in-Ok-clause-tried g c =
    IfOk-weaker c.put_played.result _ _
    (λ ending is. subst (λ (one : Option Ending). IsTriedBy packet_rules c.args.machine.now.state c.args.asked.event
    c.played_line.new.machine.state one) (sym is) c.in-Ok.ensures.tried)
    c.put_played.ensures.ending

pub returns-in-Ok-clause-whole : goal.returns-in-Ok-clause-whole
returns-in-Ok-clause-whole g c =
    IfOk-weaker c.put_played.result _ _ (λ ending is. c.in-Ok.ensures.whole) c.put_played.ensures.ending

pub returns-in-Ok-clause-told : goal.returns-in-Ok-clause-told
returns-in-Ok-clause-told g c =
    subst (λ (line : List ℕ). Tells g.K.Sink.held g.K.Sink.faults g.K.Sink.sure c.args.sink.now c.put_played.new.sink
    line c.put_played.result) c.in-Ok.ensures.line c.put_played.ensures.told

pub returns-in-Err-clause-told : goal.returns-in-Err-clause-told
returns-in-Err-clause-told g c = puts_nothing g.K.Sink.held g.K.Sink.faults g.K.Sink.sure c.args.sink.now
