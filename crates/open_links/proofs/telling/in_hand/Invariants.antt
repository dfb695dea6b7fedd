use Rattle.std.proofs.Common.{◌≡◌, ◌++◌, drop, flat_map}
use Rattle.open_links.specs.Parts.{in_hand_of}
use Rattle.open_links.proofs.telling.in_hand.Given as goal

abbrev pub invariant-loop-process : goal.invariant-loop-process
invariant-loop-process l = flat_map (in_hand_of l.node) l.processes
    ≡ l.names ++ flat_map (in_hand_of l.node) (drop l.process-index l.processes)
