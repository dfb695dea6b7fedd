use Rattle.std.proofs.Common.{◌≡◌, true, false, refl, ap, sym, ◌∙◌}
use Rattle.node.specs.world_semantics.specs.World.{is_whole}
use Rattle.node.specs.packet_wires.specs.Play.{Packeted}
use Rattle.site_machine.proofs.Stops.{stops-none, stops-whole}
use Rattle.site_machine.proofs.whole.MachineParts.stop_where_whole.Goals as goal

pub returns-then-not-is_whole : goal.returns-then-not-is_whole
returns-then-not-is_whole c =
    let broken : is_whole c.args.self.now.world ≡ false =
    sym (ap (λ (s : Packeted). is_whole s.world) c.self.view_is) ∙ sym c.is_whole.ensures ∙ c.if-not-is_whole.true in
    stops-none c.args.processor c.args.self.now _ c.requires broken refl

pub returns : goal.returns
returns c =
    let whole : is_whole c.args.self.now.world ≡ true =
    sym (ap (λ (s : Packeted). is_whole s.world) c.self.view_is) ∙ sym c.is_whole.ensures ∙ c.if-not-is_whole.false in
    stops-whole c.args.processor c.args.self.now _ c.requires whole c.stop.ensures
