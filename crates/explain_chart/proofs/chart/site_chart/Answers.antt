use Rattle.std.proofs.Common.{◌≡◌, ◌∙◌, Err, Ok, ap, subst, sym}
use Rattle.chart_drawing.specs.Chart.{drawing_of}
use Rattle.charted_runs.specs.Charts.{Charts}
use Rattle.charted_runs.specs.site_machine.specs.process_copies.specs.Starting.{IsStartable}
use Rattle.explain_chart.specs.DeckCharts.{ChartsSite, layout_of}
use Rattle.std.specs.Prelude.{IfOk}
use Rattle.svg_text.specs.Sheets.{drawing_text}
use Rattle.explain_chart.proofs.DeckCharts.{text_of_site}
use Rattle.explain_chart.proofs.chart.site_chart.Goals as goal

pub layout_of-layout-requires : goal.layout_of-layout-requires
layout_of-layout-requires c = subst (λ site. IsStartable site) (sym c.get.ensures) c.requires.startable

pub returns-in-Ok : goal.returns-in-Ok
returns-in-Ok c =
    let layout = c.layout_of-layout.ensures ∙ ap (λ site. layout_of site c.args.scope) c.get.ensures in
    let charts = subst (λ one. Charts c.args.site.now c.args.places.now c.args.lines.now c.args.stop one
    c.args.scope.span.to (Ok c.in-Ok.charted)) layout c.in-Ok.ensures in
    let text = subst (λ site. IfOk c.chart_text.result
    (λ one. one ≡ drawing_text (drawing_of site c.in-Ok.charted.chart))) c.get-in-Ok.ensures c.chart_text.ensures in
    subst (λ result. ChartsSite c.args.site.now c.args.places.now c.args.lines.now c.args.stop c.args.scope result)
    (sym c.chart_told.ensures)
    (text_of_site c.args.site.now c.args.places.now c.args.lines.now c.args.stop c.args.scope c.in-Ok.charted
    c.chart_text.result charts text)

pub returns-in-Err : goal.returns-in-Err
returns-in-Err c =
    let layout = c.layout_of-layout.ensures ∙ ap (λ site. layout_of site c.args.scope) c.get.ensures in
    subst (λ one. Charts c.args.site.now c.args.places.now c.args.lines.now c.args.stop one c.args.scope.span.to
    (Err c.in-Err.fault)) layout c.in-Err.ensures
