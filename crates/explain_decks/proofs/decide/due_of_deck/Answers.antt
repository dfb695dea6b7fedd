use Rattle.std.proofs.Common.{[], refl, subst, sym, ◌∙◌}
use Rattle.std.specs.Prelude.{IfOk}
use Rattle.explain_break.specs.break_progress.proofs.Told.{nothing_goes_out, nothing_is_told}
use Rattle.explain_left.specs.Left.{IsLeftDeck}
use Rattle.explain_left.specs.explain_why.specs.Judged.{IsJudgedDeck}
use Rattle.explain_decks.specs.Decided.{IsDueOfDeck, IsTold, due_of_chart}
use Rattle.explain_decks.specs.Written.{CanBeWritten}
use Rattle.explain_decks.specs.declared.due.Due.{Due}
use Rattle.explain_decks.specs.declared.telling.Telling.{Telling}
use Rattle.explain_decks.proofs.DecidedLemmas.{chart_is_due, chart_is_written, quietly, told_is_due}
use Rattle.explain_decks.proofs.DecidedLemmas.{told_is_written, trace_is_due, trace_is_written}
use Rattle.explain_decks.proofs.decide.due_of_deck.Goals as goal

pub returns-then-not-can_stop-clause-due : goal.returns-then-not-can_stop-clause-due
returns-then-not-can_stop-clause-due g c = (
  [],
  nothing_goes_out g.P.Sink.held g.P.Sink.faults g.P.Sink.sure c.args.progress.now,
  (sym c.can_stop.ensures ∙ c.if-not-can_stop.true, refl),
)

pub returns-in-Why-clause-due : goal.returns-in-Why-clause-due
returns-in-Why-clause-due g c = (
  [],
  nothing_goes_out g.P.Sink.held g.P.Sink.faults g.P.Sink.sure c.args.progress.now,
  subst (λ (one : Due). IsDueOfDeck c.args.telling c.args.bytes.now c.args.deck [] one) (sym c.due_of_told.ensures)
      (told_is_due c.args.telling c.args.bytes.now [] c.args.deck c.why_told.result
      (sym c.can_stop.ensures ∙ c.if-not-can_stop.false) nothing_is_told
      (subst (λ (one : Telling). IfOk c.why_told.result (IsTold one c.args.bytes.now c.args.deck [])) (sym c.in-Why.is)
      (quietly (IsJudgedDeck c.args.bytes.now c.args.deck.site.processes) c.why_told.result c.why_told.ensures))),
)

pub returns-in-Why-clause-written : goal.returns-in-Why-clause-written
returns-in-Why-clause-written g c =
    subst CanBeWritten (sym c.due_of_told.ensures) (told_is_written c.why_told.result)

pub returns-in-Left-clause-due : goal.returns-in-Left-clause-due
returns-in-Left-clause-due g c = (
  [],
  nothing_goes_out g.P.Sink.held g.P.Sink.faults g.P.Sink.sure c.args.progress.now,
  subst (λ (one : Due). IsDueOfDeck c.args.telling c.args.bytes.now c.args.deck [] one)
      (sym c.due_of_told-in-Left.ensures)
      (told_is_due c.args.telling c.args.bytes.now [] c.args.deck c.left_deck.result
      (sym c.can_stop.ensures ∙ c.if-not-can_stop.false) nothing_is_told
      (subst (λ (one : Telling). IfOk c.left_deck.result (IsTold one c.args.bytes.now c.args.deck []))
      (sym c.in-Left.is) (quietly (IsLeftDeck c.args.bytes.now c.args.deck c.in-Left.stop) c.left_deck.result
      c.left_deck.ensures))),
)

pub returns-in-Left-clause-written : goal.returns-in-Left-clause-written
returns-in-Left-clause-written g c =
    subst CanBeWritten (sym c.due_of_told-in-Left.ensures) (told_is_written c.left_deck.result)

pub returns-in-Breaks-clause-due : goal.returns-in-Breaks-clause-due
returns-in-Breaks-clause-due g c =
    let told = c.break_deck.ensures in (
      told.0,
      told.1,
      subst (λ (one : Due). IsDueOfDeck c.args.telling c.args.bytes.now c.args.deck told.0 one)
          (sym c.due_of_told-in-Breaks.ensures)
          (told_is_due c.args.telling c.args.bytes.now told.0 c.args.deck c.break_deck.result
          (sym c.can_stop.ensures ∙ c.if-not-can_stop.false) told.2
          (subst (λ (one : Telling). IfOk c.break_deck.result (IsTold one c.args.bytes.now c.args.deck told.0))
          (sym c.in-Breaks.is) told.3)),
    )

pub returns-in-Breaks-clause-written : goal.returns-in-Breaks-clause-written
returns-in-Breaks-clause-written g c =
    subst CanBeWritten (sym c.due_of_told-in-Breaks.ensures) (told_is_written c.break_deck.result)

pub returns-in-Trace-clause-due : goal.returns-in-Trace-clause-due
returns-in-Trace-clause-due g c = (
  [],
  nothing_goes_out g.P.Sink.held g.P.Sink.faults g.P.Sink.sure c.args.progress.now,
  subst (λ (one : Telling). IsDueOfDeck one c.args.bytes.now c.args.deck [] c.due_of_trace.result) (sym c.in-Trace.is)
      (trace_is_due c.args.bytes.now c.args.deck c.in-Trace.stop c.in-Trace.manner c.due_of_trace.result
      (rw c.in-Trace.is at (sym c.can_stop.ensures ∙ c.if-not-can_stop.false)) c.due_of_trace.ensures),
)

pub returns-in-Trace-clause-written : goal.returns-in-Trace-clause-written
returns-in-Trace-clause-written g c =
    trace_is_written c.args.bytes.now c.args.deck c.in-Trace.stop c.in-Trace.manner c.due_of_trace.result
    c.requires.spelt c.due_of_trace.ensures

pub returns-in-Chart-clause-due : goal.returns-in-Chart-clause-due
returns-in-Chart-clause-due g c = (
  [],
  nothing_goes_out g.P.Sink.held g.P.Sink.faults g.P.Sink.sure c.args.progress.now,
  subst (λ (one : Due). IsDueOfDeck c.args.telling c.args.bytes.now c.args.deck [] one) (sym c.due_of_chart.ensures)
      (subst (λ (one : Telling). IsDueOfDeck one c.args.bytes.now c.args.deck [] (due_of_chart c.chart_deck.result))
      (sym c.in-Chart.is)
      (chart_is_due c.args.bytes.now c.args.deck c.in-Chart.stop c.in-Chart.scope c.chart_deck.result
      (rw c.in-Chart.is at (sym c.can_stop.ensures ∙ c.if-not-can_stop.false)) c.chart_deck.ensures)),
)

pub returns-in-Chart-clause-written : goal.returns-in-Chart-clause-written
returns-in-Chart-clause-written g c =
    subst CanBeWritten (sym c.due_of_chart.ensures) (chart_is_written c.chart_deck.result)
