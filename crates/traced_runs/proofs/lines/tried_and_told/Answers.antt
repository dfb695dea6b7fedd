use Rattle.std.proofs.Common.{[], Bool, if◌then◌else◌, ◌∙◌, subst, sym}
use Rattle.traced_runs.specs.Trace.{told_line}
use Rattle.traced_runs.specs.Traces.{Tells}
use Rattle.traced_runs.proofs.Tried.{tells_nothing}
use Rattle.traced_runs.proofs.lines.tried_and_told.Goals as goal

pub returns-then-not-has-clause-told : goal.returns-then-not-has-clause-told
returns-then-not-has-clause-told g c =
    subst (λ (within : Bool). Tells g.K.Sink.held g.K.Sink.faults g.K.Sink.sure c.args.sink.now c.args.sink.now
    (if within
    then told_line c.args.manner.form c.args.site.now c.args.places.now c.args.asked.number c.args.machine.now.state
    c.args.asked.event
    else [])
    c.untold.result)
    (sym (sym c.has.ensures ∙ c.if-not-has.true))
    (tells_nothing g.K.Sink.held g.K.Sink.faults g.K.Sink.sure c.args.sink.now c.untold.result
    c.untold.ensures.fault)

pub returns-clause-told : goal.returns-clause-told
returns-clause-told g c =
    subst (λ (within : Bool). Tells g.K.Sink.held g.K.Sink.faults g.K.Sink.sure c.args.sink.now c.told.new.sink
    (if within
    then told_line c.args.manner.form c.args.site.now c.args.places.now c.args.asked.number c.args.machine.now.state
    c.args.asked.event
    else [])
    c.told.result)
    (sym (sym c.has.ensures ∙ c.if-not-has.false)) c.told.ensures.told
