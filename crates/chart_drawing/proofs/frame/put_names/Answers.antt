use Rattle.std.proofs.Common.{◌∙◌}
use Rattle.chart_drawing.specs.Frame.{names_of}
use Rattle.chart_drawing.proofs.Ranges.{range-step}
use Rattle.chart_drawing.proofs.frame.put_names.Goals as goal

pub loop-process-preserved : goal.loop-process-preserved
loop-process-preserved c =
    let there = rw c.get-spec.ensures.value at c.in_ok-put_names_of.ensures in
    let more = rw c.from.ensures at there in
    c.loop-process.invariant
    ∙ range-step (names_of c.args.layout c.args.site.now) c.loop-process.process c.args.layout.processes
    c.loop-process.shapes c.put_names_of.new.shapes c.loop-process-test.true more
