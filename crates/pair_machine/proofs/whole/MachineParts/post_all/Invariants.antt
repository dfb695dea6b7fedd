use Rattle.std.proofs.Common.{◌≡◌}
use Rattle.std.specs.Vec.Iter.{into_iter_items}
use Rattle.pair_machine.specs.Told.{sent_all}
use Rattle.pair_machine.proofs.whole.MachineParts.post_all.Given as goal

-- what is left to be posted leads to the same state
abbrev pub invariant-loop-sending : goal.invariant-loop-sending
invariant-loop-sending l = sent_all (into_iter_items l.sending-iterator) l.self ≡ sent_all l.fn.sendings l.initial.self
