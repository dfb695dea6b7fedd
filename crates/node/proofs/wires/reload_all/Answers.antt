use Rattle.std.proofs.Common.{rules}
use Rattle.std.proofs.lemmas.List.Edits.{map_over_more}
use Rattle.event_parts.specs.packet_wires.specs.Nodes.{node_after_reload}
use Rattle.node.proofs.wires.reload_all.Goals as goal

pub loop-node-preserved : goal.loop-node-preserved
loop-node-preserved c = search (rules, map_over_more (node_after_reload c.args.processors c.args.loaded))
