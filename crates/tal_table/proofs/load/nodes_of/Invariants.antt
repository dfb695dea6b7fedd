use Rattle.std.proofs.Common.{take}
use Rattle.tal_table.specs.Loads.{Fills}
use Rattle.tal_table.proofs.load.nodes_of.Given as goal

abbrev pub invariant-loop-number : goal.invariant-loop-number
invariant-loop-number l = Fills l.procedures (take l.number l.procedures) l.nodes.items
