use Rattle.std.proofs.Common.{◌≡◌, take}
use Rattle.posted_letters.proofs.OnBus.{on_bus_of}
use Rattle.posted_letters.proofs.bus.Bus.on_bus.Given as goal

-- what the packets so far tell
abbrev pub invariant-loop-k : goal.invariant-loop-k
invariant-loop-k l = l.on_bus.items ≡ on_bus_of (take l.k l.self) l.owed
