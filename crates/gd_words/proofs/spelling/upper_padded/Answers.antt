use Rattle.std.proofs.Common.{ap, ◌∙◌, set}
use Rattle.gd_words.proofs.PaddedSteps.{padded_more}
use Rattle.gd_words.proofs.spelling.upper_padded.Goals as goal

pub loop-k-preserved : goal.loop-k-preserved
loop-k-preserved g c =
    ap (λ xs. set xs c.loop-k.k c.to_ascii_uppercase.result) c.loop-k.invariant
    ∙ ap (set _ c.loop-k.k) c.to_ascii_uppercase.ensures.value
    ∙ padded_more g.row.N c.loop-k.k c.args.text.now _ c.loop-k-test.true c.requires
