use Rattle.chart_drawing.specs.Chart.{drawing_of}
use Rattle.svg_text.specs.Sheets.{drawing_text}
use Rattle.explain_chart.proofs.DeckCharts.{written_alone}
use Rattle.explain_chart.proofs.chart.chart_text.Goals as goal

pub returns : goal.returns
returns c =
    written_alone drawing_text c.put_drawing.new.text c.new-text.result c.in_ok-drawing.drawing
    (drawing_of c.args.site.now c.args.chart) c.new-text.ensures c.in_ok-put_drawing.ensures
    c.in_ok-drawing.ensures
