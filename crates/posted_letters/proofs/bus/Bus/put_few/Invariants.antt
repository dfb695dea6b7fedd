use Rattle.std.proofs.Common.{◌≡◌, drop}
use Rattle.message_wires.specs.Wires.{put_again}
use Rattle.posted_letters.proofs.bus.Bus.put_few.Given as goal

-- what is left to be put again leads to the same bus
abbrev pub invariant-loop-one : goal.invariant-loop-one
invariant-loop-one l =
    put_again l.stopped l.node (drop l.one-index l.owed) l.self ≡ put_again l.stopped l.node l.owed l.initial.self
