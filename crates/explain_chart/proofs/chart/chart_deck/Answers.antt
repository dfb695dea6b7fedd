use Rattle.std.proofs.Common.{subst}
use Rattle.explain_why.specs.Judged.{IsJudgedDeck}
use Rattle.explain_chart.proofs.DeckCharts.{whole_deck}
use Rattle.explain_chart.proofs.chart.chart_deck.Goals as goal

pub accepted_chart-requires-clause-accepted : goal.accepted_chart-requires-clause-accepted
accepted_chart-requires-clause-accepted c =
    c.unrefused_programs_are_accepted.ensures c.args.bytes.now c.args.deck.site.processes c.in-Ok.judged
    (subst (λ specs. IsJudgedDeck c.args.bytes.now specs c.in-Ok.judged) c.as_slice.ensures c.in-Ok.ensures)
    c.if-judged.false

pub returns : goal.returns
returns c =
    whole_deck c.args.bytes.now c.args.deck c.args.stop c.args.scope c.accepted_chart.result c.accepted_chart.ensures
