use Rattle.std.proofs.Common.{◌+◌, ap, arith, not}
use Rattle.node.specs.Held.{one_if}
use Rattle.node.proofs.Holding.{most-taken, take-holding}
use Rattle.node.proofs.node.count_holding.Goals as goal

pub counted_again-holding-requires-clause-room : goal.counted_again-holding-requires-clause-room
counted_again-holding-requires-clause-room c =
    let more = take-holding c.args.ends.now c.loop-end.end-index c.end-item.result c.end-item.is c.loop-end-test.true in
    let most = most-taken c.args.ends.now (c.loop-end.end-index + 1) in
    let same = ap (λ b. one_if (not b)) c.is_empty.ensures in
    let counts = c.loop-end.invariant in
    let within = c.loop-end.auto.end-index-end in
    let less = c.loop-end-test.true in
    omega (arith, more, most, same, counts, within, less)

pub loop-end-preserved : goal.loop-end-preserved
loop-end-preserved c =
    let more = take-holding c.args.ends.now c.loop-end.end-index c.end-item.result c.end-item.is c.loop-end-test.true in
    let same = ap (λ b. one_if (not b)) c.is_empty.ensures in
    let counts = c.loop-end.invariant in
    let sums = c.counted_again-holding.ensures in
    omega (arith, more, same, counts, sums)
