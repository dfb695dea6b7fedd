use Rattle.std.proofs.Common.{refl, subst, sym}
use Rattle.message_wires.specs.computed_changes.specs.Stopped.{world_at_down}
use Rattle.pair_machine.specs.Room.{AreCounted}
use Rattle.pair_machine.proofs.Marks.{marked-steps}
use Rattle.pair_machine.proofs.whole.MachineParts.mark_down.Goals as goal

pub post_all-requires : goal.post_all-requires
post_all-requires c =
    subst AreCounted
    (sym (marked-steps c.args.self.now _ _ _ c.args.node c.args.processor _
    (world_at_down c.args.node c.args.processor c.args.self.now.world)
    c.in_ok-sendings.ensures.state c.in_ok-sendings.ensures.told c.pay_between.ensures refl))
    c.requires.letters

pub returns : goal.returns
returns c =
    marked-steps c.args.self.now _ _ _ c.args.node c.args.processor _
    (world_at_down c.args.node c.args.processor c.args.self.now.world)
    c.in_ok-sendings.ensures.state c.in_ok-sendings.ensures.told c.pay_between.ensures c.in_ok-post_all.ensures
