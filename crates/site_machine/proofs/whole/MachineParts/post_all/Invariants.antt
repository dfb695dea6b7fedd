use Rattle.std.proofs.Common.{◌≡◌}
use Rattle.std.specs.Vec.Iter.{into_iter_items}
use Rattle.node.specs.event_parts.specs.Numbers.{CanPush}
use Rattle.site_machine.specs.Needs.{AreWithin}
use Rattle.site_machine.specs.Told.{sent_all}
use Rattle.site_machine.proofs.whole.MachineParts.post_all.Given as goal

-- what is left to be posted leads to the same state
abbrev pub invariant-loop-sending : goal.invariant-loop-sending
invariant-loop-sending l = record {
  left : sent_all (into_iter_items l.sending-iterator) l.self ≡ sent_all l.fn.sendings l.initial.self;
  within : AreWithin l.self.world (into_iter_items l.sending-iterator);
  numbered : CanPush l.self.wires.nodes;
}
