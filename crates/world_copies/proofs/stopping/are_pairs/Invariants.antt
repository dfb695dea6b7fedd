use Rattle.std.proofs.Common.{◌≡◌, drop, not}
use Rattle.std.specs.List.{list_any}
use Rattle.world_semantics.specs.World.{is_pair_of}
use Rattle.world_copies.specs.Seen.{pairs_in}
use Rattle.world_copies.proofs.stopping.are_pairs.Given as goal

abbrev pub invariant-loop-process : goal.invariant-loop-process
invariant-loop-process l =
    list_any (λ pair. not (is_pair_of pair.first.role pair.second.role)) (pairs_in l.processes)
    ≡ list_any (λ pair. not (is_pair_of pair.first.role pair.second.role)) (pairs_in (drop l.process-index l.processes))
