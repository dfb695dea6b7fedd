use Rattle.event_parts.proofs.Adds.{adds-packet, adds-learns, adds-push, adds-sends, adds-all-posted, adds-arrived}
use Rattle.event_parts.proofs.Adds.{adds-ticked, adds-cut-off, adds-declares, adds-loaded}
use Rattle.event_parts.proofs.laws.what_nodes_do_only_adds.Goals as goal

pub returns : goal.returns
returns c = record {
  packet = adds-packet;
  learns = adds-learns;
  pushes = adds-push;
  sends = adds-sends;
  posts = adds-all-posted;
  arrives = adds-arrived;
  ticks = adds-ticked;
  cuts = adds-cut-off;
  declares = adds-declares;
  loads = adds-loaded;
}
