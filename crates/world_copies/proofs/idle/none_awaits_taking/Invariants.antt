use Rattle.std.proofs.Common.{◌≡◌, drop}
use Rattle.process_copies.specs.message_wires.specs.Idle.{none_awaits_taking}
use Rattle.world_copies.specs.Seen.{pairs_in}
use Rattle.world_copies.proofs.idle.none_awaits_taking.Given as goal

abbrev pub invariant-loop-process : goal.invariant-loop-process
invariant-loop-process l =
    none_awaits_taking (pairs_in l.processes) ≡ none_awaits_taking (pairs_in (drop l.process-index l.processes))
