use Rattle.std.proofs.Common.{◌≤◌, ◌<◌, ◌∙◌, sym, subst}
use Rattle.discipline.specs.Suspects.{IsSettled}
use Rattle.discipline.proofs.Settling.{one-further, read-at, all-before}
use Rattle.discipline.proofs.suspects.Sets.are_settled.Goals as goal

pub loop-k-preserved : goal.loop-k-preserved
loop-k-preserved c =
    one-further (λ node here. IsSettled c.args.self.now.sets.items here node) c.args.flow.now
    c.args.self.now.sets.items c.loop-k.k c.node.result.now c.index.result.now
    c.loop-k.invariant c.node.ensures.node
    (read-at c.args.self.now.sets.items c.from.result c.loop-k.k c.index.result.now c.from.ensures
    (subst (λ n. c.loop-k.k < n) (c.len-k-end.ensures.count ∙ sym c.requires) c.loop-k-test.true) c.index.ensures)
    c.if-not-is_settled.ensures

pub returns : goal.returns
returns c =
    all-before (λ node here. IsSettled c.args.self.now.sets.items here node) c.args.flow.now c.args.self.now.sets.items
    c.loop-k.k
    (subst (λ n. n ≤ c.loop-k.k) c.len-k-end.ensures.count c.loop-k-test.false) c.loop-k.invariant
