use Rattle.std.proofs.Common.{◌≡◌, ◌-◌, length}
use Rattle.message_wires.specs.Play.{marks_from}
use Rattle.world_copies.specs.Room.{AllWatchersHaveRoom}
use Rattle.pair_machine.proofs.whole.MachineParts.mark_each.Given as goal

-- what is left to be marked leads to the same state, and those that still watch have room
abbrev pub invariant-loop-processor : goal.invariant-loop-processor
invariant-loop-processor l = record {
  left : marks_from l.node l.processor (length l.initial.self.world.stopped - l.processor) l.self
      ≡ marks_from l.node 0 (length l.initial.self.world.stopped) l.initial.self;
  watching : AllWatchersHaveRoom l.self.world.processes;
}
