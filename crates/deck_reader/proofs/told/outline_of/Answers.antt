use Rattle.std.proofs.Common.{sym, ◌∙◌, ◌+◌, arith}
use Rattle.deck_lines.specs.Lines.{lines_of}
use Rattle.deck_reader.proofs.StageLemmas.{one_line_on, stage_kept}
use Rattle.deck_reader.proofs.told.outline_of.Goals as goal

pub loop-line-preserved : goal.loop-line-preserved
loop-line-preserved c =
    let stage = c.loop-line.stage in
    let next = c.in-Next.next in
    let step = sym c.in-Next.is ∙ c.in_ok-breach.ensures in (
      one_line_on stage next c.loop-line.number c.in-Some.line.now (lines_of c.in-Some.rest.now)
          (lines_of c.loop-line.text.now) c.in-Some.ensures.0 step ∙ c.loop-line.invariant.0,
      omega (arith, c.loop-line.invariant.1, c.in-Some.ensures.1),
      stage_kept stage next (c.loop-line.number + 1) c.in-Some.line.now c.loop-line.invariant.2 step,
    )
