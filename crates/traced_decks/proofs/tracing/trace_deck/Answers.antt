use Rattle.std.proofs.Common.{subst, sym}
use Rattle.schedule_loop.specs.Ends.{CanBePlayed}
use Rattle.traced_runs.proofs.Ends.{without_memory_at_first}
use Rattle.traced_runs.specs.Traces.{Traces}
use Rattle.traced_runs.specs.packet_runs.specs.Runs.{course_on, packet_rules}
use Rattle.traced_runs.specs.packet_runs.specs.site_machine.specs.Needs.{IsReady}
use Rattle.traced_decks.proofs.tracing.trace_deck.Goals as goal

pub run-requires-clause-can : goal.run-requires-clause-can
run-requires-clause-can g c =
    subst (λ lines. CanBePlayed packet_rules IsReady (course_on c.in-Ok.site lines c.args.stop))
    (sym c.as_slice.ensures)
    (subst (λ site. CanBePlayed packet_rules IsReady (course_on site c.args.deck.lines c.args.stop))
    (sym c.in-Ok.ensures)
    (c.an_accepted_deck_meets_the_premises.ensures.can c.requires.spelt.0 c.args.deck c.args.stop c.requires.spelt.1
    c.requires.accepted))

pub returns-in-Ok : goal.returns-in-Ok
returns-in-Ok g c =
    subst (λ site. Traces g.K.Sink.held g.K.Sink.faults g.K.Sink.sure c.args.sink.now c.run.new.sink site
    c.args.places.now c.args.deck.lines c.args.stop c.args.manner c.run.result) c.in-Ok.ensures
    (subst (λ lines. Traces g.K.Sink.held g.K.Sink.faults g.K.Sink.sure c.args.sink.now c.run.new.sink c.in-Ok.site
    c.args.places.now lines c.args.stop c.args.manner c.run.result) c.as_slice.ensures c.run.ensures)

pub returns : goal.returns
returns g c =
    without_memory_at_first g.K.Sink.held g.K.Sink.faults g.K.Sink.sure c.args.sink.now (record {
      site = c.args.deck.site;
      places = c.args.places.now;
      lines = c.args.deck.lines;
      stop = c.args.stop;
      manner = c.args.manner;
    }) c.in-Err.memory
