use Rattle.std.proofs.Common.{sym, subst}
use Rattle.flow_paths.specs.Graph.{IsWithin}
use Rattle.flow_paths.proofs.Nodes.{first-within, second-within}
use Rattle.flow_paths.proofs.graph.Node.moved.Goals as goal

pub moved-requires-clause-within : goal.moved-requires-clause-within
moved-requires-clause-within c = first-within 8192 _ (subst (IsWithin 8192) (sym c.self.view_is) c.requires.within)

pub moved-requires-in-Some-second-clause-within : goal.moved-requires-in-Some-second-clause-within
moved-requires-in-Some-second-clause-within c =
    second-within 8192 _ c.in-Some-second.edge (subst (IsWithin 8192) (sym c.self.view_is) c.requires.within)
    c.in-Some-second.is
