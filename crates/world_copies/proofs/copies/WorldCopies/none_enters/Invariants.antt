use Rattle.std.proofs.Common.{◌≡◌, ◌-◌, length, is_none}
use Rattle.process_copies.specs.computed_changes.specs.Entered.{enter_done}
use Rattle.process_copies.specs.message_wires.specs.Idle.{all_from, none_enters}
use Rattle.world_copies.proofs.copies.WorldCopies.none_enters.Given as goal

abbrev pub invariant-loop-terminal : goal.invariant-loop-terminal
invariant-loop-terminal l = none_enters l.self.site l.self.world
    ≡ all_from (λ terminal. is_none (enter_done l.self.site terminal l.self.world)) l.terminal
    (length l.self.world.terminals - l.terminal)
