use Rattle.std.proofs.Common.{◌≡◌, ◌≤◌, length, arith, rules}
use Rattle.tal_recogniser.specs.Machine.{open_levels}
use Rattle.tal_recogniser.proofs.Levels.{few_levels}
use Rattle.tal_recogniser.proofs.stack.Stack.push.Goals as goal

pub prove-unreachable-requires : goal.prove-unreachable-requires
prove-unreachable-requires c =
    let few : open_levels c.self.inside.symbols.items ≤ length c.self.inside.symbols.items =
    few_levels c.self.inside.symbols.items in
    let a = c.len-held.ensures in
    let b = c.in_ok-push_front.ensures.len in
    let d = c.self.invariant in
    let e = c.if-prove.true in
    let f : length c.self.inside.symbols.items ≡ c.self.inside.symbols.len = search rules in
    omega arith
