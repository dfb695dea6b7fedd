use Rattle.std.proofs.Common.{◌∙◌}
use Rattle.chart_drawing.specs.Standings.{copies_of}
use Rattle.chart_drawing.proofs.Ranges.{range-step}
use Rattle.chart_drawing.proofs.standing.standings_at_boot.Goals as goal

pub loop-process-preserved : goal.loop-process-preserved
loop-process-preserved c =
    let there = rw c.get.ensures.value at c.in_ok-put_copies.ensures in
    let more = rw c.from.ensures at there in
    c.loop-process.invariant
    ∙ range-step (copies_of c.args.site.now) c.loop-process.process c.args.layout.processes
    c.loop-process.standings c.put_copies.new.standings c.loop-process-test.true more
