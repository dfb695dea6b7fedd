use Rattle.std.proofs.Common.{◌≡◌, ◌-◌, length, is_none}
use Rattle.world_semantics.specs.Running.{run_done}
use Rattle.process_copies.specs.message_wires.specs.Idle.{all_from, none_runs}
use Rattle.world_copies.proofs.copies.WorldCopies.none_runs.Given as goal

abbrev pub invariant-loop-number : goal.invariant-loop-number
invariant-loop-number l =
    none_runs l.self.site l.self.world ≡ all_from (λ number. is_none (run_done l.self.site number l.self.world))
    l.number (length l.self.world.processes - l.number)
