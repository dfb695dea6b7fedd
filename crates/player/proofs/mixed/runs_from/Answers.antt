use Rattle.std.proofs.Common.{◌≡◌, ◌<◌, ◌%◌, ap, sym, ◌∙◌, arith}
use Rattle.player.specs.Mixes.{word}
use Rattle.player.proofs.Runs.{runs_from-some, runs_from-none}
use Rattle.player.proofs.mixed.runs_from.Goals as goal

pub returns-then-times-gt0 : goal.returns-then-times-gt0
returns-then-times-gt0 c =
    let some : 0 < word c.loop-process.draws % 4 = rw (sym c.draw_word-draw.ensures.word) c.if-times-gt0.true in
    rw (c.draw_word-draw.ensures.word, c.draw_word-draw.ensures.draws)
    (sym
    (c.loop-process.invariant
    ∙ runs_from-some c.args.sizes c.args.x c.args.y c.loop-process.process c.loop-process.draws
    c.loop-process-test.true some))

pub loop-process-preserved : goal.loop-process-preserved
loop-process-preserved c =
    let none : c.draw_word-draw.result.word % 4 ≡ 0 = omega (arith, c.if-times-gt0.false) in
    rw (c.draw_word-draw.ensures.draws)
    (c.loop-process.invariant
    ∙ runs_from-none c.args.sizes c.args.x c.args.y c.loop-process.process c.loop-process.draws c.loop-process-test.true
    (ap (λ word. word % 4) (sym c.draw_word-draw.ensures.word) ∙ none))
