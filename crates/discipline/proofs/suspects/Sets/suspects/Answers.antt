use Rattle.std.proofs.Common.{◌≤◌, ◌<◌, ◌∙◌, sym, subst, arith}
use Rattle.discipline.proofs.Settling.{found-more, read-at, suspected}
use Rattle.discipline.proofs.suspects.Sets.suspects.Goals as goal

pub loop-k-preserved : goal.loop-k-preserved
loop-k-preserved c =
    found-more c.args.flow.now c.args.self.now.sets.items c.loop-k.found c.or-found.result c.loop-k.k c.node.result.now
    c.index-due.result.now c.broken_by.result c.and.result _
    c.entry.ensures c.broken_by.ensures c.and.ensures c.or-found.ensures c.loop-k.invariant c.node.ensures.node
    (read-at c.args.self.now.sets.items c.from.result c.loop-k.k c.index-due.result.now c.from.ensures
    (subst (λ n. c.loop-k.k < n) (c.len-k-end.ensures.count ∙ sym c.requires.count) c.loop-k-test.true)
    c.index-due.ensures)

pub returns : goal.returns
returns c =
    let all = subst (λ n. n ≤ c.loop-k.k) c.len-k-end.ensures.count c.loop-k-test.false in
    suspected c.args.flow.now c.args.self.now.sets.items c.loop-k.found c.requires.count c.requires.settled
    (λ j node here less got at. c.loop-k.invariant j node here (omega arith) got at)
