use Rattle.std.proofs.Common.{◌++◌, ◌∙◌, ap, set, take, drop}
use Rattle.process_semantics.proofs.Overwriting.{overwrite-more}
use Rattle.process_semantics.proofs.globals.overwrite.Goals as goal

pub loop-k-preserved : goal.loop-k-preserved
loop-k-preserved g c =
    c.set.ensures
    ∙ ap (λ cells. set cells c.loop-k.k c.index-items-k.result) c.loop-k.invariant
    ∙ ap (set (take c.loop-k.k c.args.items.now ++ drop c.loop-k.k c.args.cells.now) c.loop-k.k) c.index-items-k.is
    ∙ overwrite-more c.args.items.now c.args.cells.now c.loop-k.k c.index-items-k.result c.loop-k-test.true c.requires
