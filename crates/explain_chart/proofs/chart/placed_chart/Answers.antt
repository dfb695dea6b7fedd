use Rattle.std.proofs.Common.{subst, sym}
use Rattle.explain_chart.specs.DeckCharts.{ChartsSite, IsOfChart}
use Rattle.charted_runs.specs.packet_runs.specs.Runs.{course_on, packet_rules}
use Rattle.schedule_loop.specs.Ends.{CanBePlayed}
use Rattle.charted_runs.specs.site_machine.specs.Needs.{IsReady}
use Rattle.explain_chart.proofs.DeckCharts.{told_of_deck}
use Rattle.explain_chart.proofs.chart.placed_chart.Goals as goal

pub site_chart-requires-clause-can : goal.site_chart-requires-clause-can
site_chart-requires-clause-can c =
    subst (λ lines. CanBePlayed packet_rules IsReady (course_on c.in-Ok.site lines c.args.stop))
    (sym c.as_slice.ensures)
    (subst (λ site. CanBePlayed packet_rules IsReady (course_on site c.args.deck.lines c.args.stop))
    (sym c.in-Ok.ensures)
    (c.an_accepted_deck_meets_the_premises.ensures.can c.args.bytes.now c.args.deck c.args.stop c.requires.spelt
    c.requires.accepted))

pub returns-in-Ok : goal.returns-in-Ok
returns-in-Ok c =
    let run = subst (λ lines. ChartsSite c.in-Ok.site c.args.places.now lines c.args.stop c.args.scope
    c.site_chart.result) c.as_slice.ensures c.site_chart.ensures in
    let there = subst (λ site. ChartsSite site c.args.places.now c.args.deck.lines c.args.stop c.args.scope
    c.site_chart.result) c.in-Ok.ensures run in
    let placed = subst (λ places. ChartsSite c.args.deck.site places c.args.deck.lines c.args.stop c.args.scope
    c.site_chart.result) c.requires.placed there in
    subst (λ result. IsOfChart c.args.bytes.now c.args.deck c.args.stop c.args.scope result) (sym c.told.ensures)
    (told_of_deck c.args.bytes.now c.args.deck c.args.stop c.args.scope c.site_chart.result c.requires.accepted placed)
