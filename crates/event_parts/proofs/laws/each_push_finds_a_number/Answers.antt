use Rattle.event_parts.proofs.Numbers.{can-learns, can-push, can-all-posted, can-arrived, can-ticked, can-cut-off}
use Rattle.event_parts.proofs.Numbers.{can-declares, can-loaded}
use Rattle.event_parts.proofs.laws.each_push_finds_a_number.Goals as goal

pub returns : goal.returns
returns c = record {
  learns = can-learns;
  pushes = can-push;
  posts = can-all-posted;
  arrives = can-arrived;
  ticks = can-ticked;
  cuts = can-cut-off;
  declares = can-declares;
  loads = can-loaded;
}
