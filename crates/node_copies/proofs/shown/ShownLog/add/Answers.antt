use Rattle.std.proofs.Common.{List, length, ap, arith}
use Rattle.tal_tree.specs.declared.act.Shown.{Shown}
use Rattle.node_copies.proofs.ShownCounts.{replies-most, writes-most}
use Rattle.node_copies.proofs.shown.ShownLog.add.Goals as goal

pub overflow_add-self : goal.overflow_add-self
overflow_add-self c =
    let most = writes-most c.self.inside.log in
    let same = ap (λ (all : List Shown). length all) c.self.view_is in
    omega (arith, most, same, c.self.invariant.0, c.requires)

pub overflow_add-self-else-is_write : goal.overflow_add-self-else-is_write
overflow_add-self-else-is_write c =
    let most = replies-most c.self.inside.log in
    let same = ap (λ (all : List Shown). length all) c.self.view_is in
    omega (arith, most, same, c.self.invariant.1, c.requires)
