use Rattle.std.proofs.Common.{◌∙◌, ap, subst₂, sym}
use Rattle.node.specs.computed_changes.specs.Stopped.{world_at_down}
use Rattle.node.specs.packet_wires.specs.Play.{Packeted}
use Rattle.site_machine.specs.Needs.{AreWithin}
use Rattle.site_machine.proofs.Marks.{marked-steps}
use Rattle.site_machine.proofs.whole.MachineParts.mark_down.Goals as goal

pub post_all-requires-clause-within : goal.post_all-requires-clause-within
post_all-requires-clause-within c =
    subst₂ AreWithin
    (sym (ap (λ (s : Packeted). s.world) c.cut_off.ensures
    ∙ ap (λ (s : Packeted). s.world) c.in_ok-sendings.ensures.state)) (sym c.in_ok-sendings.ensures.told)
    c.requires.within

pub returns : goal.returns
returns c =
    marked-steps c.args.self.now _ _ _ c.args.node c.args.processor _
    (world_at_down c.args.node c.args.processor c.args.self.now.world)
    c.in_ok-sendings.ensures.state c.in_ok-sendings.ensures.told c.cut_off.ensures c.in_ok-post_all.ensures
