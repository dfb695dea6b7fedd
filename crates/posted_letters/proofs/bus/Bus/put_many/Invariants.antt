use Rattle.std.proofs.Common.{◌≡◌, drop, length}
use Rattle.message_wires.specs.Wires.{put_again}
use Rattle.posted_letters.proofs.OnBus.{on_bus_of}
use Rattle.posted_letters.proofs.bus.Bus.put_many.Given as goal

-- what is left to be put again leads to the same bus, and what is told of the bus is so of it as it is
abbrev pub invariant-loop-k : goal.invariant-loop-k
invariant-loop-k l =
    (put_again l.stopped l.node (drop l.k l.owed) l.self ≡ put_again l.stopped l.node l.owed l.initial.self)
    × (on_bus_of l.self (drop l.k l.owed) ≡ drop l.k l.on_bus.items)
    × (length l.on_bus.items ≡ length l.owed)
