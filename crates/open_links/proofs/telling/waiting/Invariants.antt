use Rattle.std.proofs.Common.{◌≡◌, ◌++◌, drop, flat_map}
use Rattle.open_links.specs.Parts.{waiting_of}
use Rattle.open_links.proofs.telling.waiting.Given as goal

abbrev pub invariant-loop-process : goal.invariant-loop-process
invariant-loop-process l = flat_map (waiting_of l.node) l.processes
    ≡ l.requests ++ flat_map (waiting_of l.node) (drop l.process-index l.processes)
