use Rattle.std.proofs.Common.{◌≡◌, ◌++◌, map, take, drop}
use Rattle.std.specs.List.{flat_map}
use Rattle.tal_tree.specs.declared.site.Site.{Site}
use Rattle.world_semantics.specs.Rules.{pair_at_down, told_at_down}
use Rattle.world_copies.specs.Changes.{changed}
use Rattle.world_copies.specs.Room.{AllWatchersHaveRoom}
use Rattle.world_copies.specs.Seen.{ArePlaced, pairs_in}
use Rattle.world_copies.proofs.marking.mark_all.Given as goal

abbrev pub invariant-loop-number : goal.invariant-loop-number
invariant-loop-number l = record {
  marked : take l.number l.processes ++ map (changed (pair_at_down l.node l.processor)) (drop l.number l.processes)
      ≡ map (changed (pair_at_down l.node l.processor)) l.initial.processes;
  told : l.told ++ flat_map (told_at_down l.node l.processor) (pairs_in (drop l.number l.processes))
      ≡ l.initial.told ++ flat_map (told_at_down l.node l.processor) (pairs_in l.initial.processes);
  watching : AllWatchersHaveRoom (pairs_in l.processes);
  placed : (site : Site) → ArePlaced site l.initial.processes → ArePlaced site l.processes;
}
