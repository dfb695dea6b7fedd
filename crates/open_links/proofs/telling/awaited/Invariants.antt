use Rattle.std.proofs.Common.{◌≡◌, ◌++◌, drop, flat_map}
use Rattle.open_links.specs.Parts.{awaited_of}
use Rattle.open_links.proofs.telling.awaited.Given as goal

abbrev pub invariant-loop-process : goal.invariant-loop-process
invariant-loop-process l = flat_map (awaited_of l.node) l.processes
    ≡ l.requests ++ flat_map (awaited_of l.node) (drop l.process-index l.processes)
