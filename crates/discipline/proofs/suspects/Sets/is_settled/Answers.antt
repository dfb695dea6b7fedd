use Rattle.std.proofs.Common.{length}
use Rattle.discipline.proofs.Settling.{first-inside, second-inside}
use Rattle.discipline.proofs.suspects.Sets.is_settled.Goals as goal

pub reaches-requires : goal.reaches-requires
reaches-requires c =
    first-inside (length c.args.self.now.sets.items) c.args.node.now c.requires c.first.result.now c.first.ensures

pub reaches-requires-in-Some : goal.reaches-requires-in-Some
reaches-requires-in-Some c =
    second-inside (length c.args.self.now.sets.items) c.args.node.now c.requires c.in-Some.edge.now c.in-Some.ensures
