use Rattle.std.proofs.Common.{◌≡◌, true, None, Some, ◌∙◌, refl, ap, sym}
use Rattle.node.specs.world_semantics.specs.World.{is_running}
use Rattle.node.specs.machine_states.specs.declared.effect.Effect.TheVariants as effect
use Rattle.node.specs.packet_wires.specs.Play.{Packeted}
use Rattle.site_machine.proofs.Ticks.{line_in, tick-settles}
use Rattle.site_machine.proofs.whole.MachineParts.tick.Goals as goal

pub returns-in_ok-tick_wires-in-None : goal.returns-in_ok-tick_wires-in-None
returns-in_ok-tick_wires-in-None c =
    let runs : is_running c.args.self.now.world.stopped c.args.node ≡ true =
    sym (ap (λ (s : Packeted). is_running s.world.stopped c.args.node) c.self.view_is) ∙ sym c.is_running.ensures
    ∙ c.if-not-is_running.false in
    tick-settles c.args.self.now _ effect.Done c.args.node None runs
    (c.in-None.ensures c.args.self.now.site.processors
    ∙ ap (line_in c.args.self.now.site.processors c.args.node) c.self.view_is)
    (refl, c.in_ok-tick_wires-in-None.ensures)

pub returns-in_ok-effect-in-Some : goal.returns-in_ok-effect-in-Some
returns-in_ok-effect-in-Some c =
    let runs : is_running c.args.self.now.world.stopped c.args.node ≡ true =
    sym (ap (λ (s : Packeted). is_running s.world.stopped c.args.node) c.self.view_is) ∙ sym c.is_running.ensures
    ∙ c.if-not-is_running.false in
    tick-settles c.args.self.now _ c.in_ok-effect-in-Some.effect c.args.node (Some c.in-Some.processor) runs
    (c.in-Some.ensures c.args.self.now.site.processors
    ∙ ap (line_in c.args.self.now.site.processors c.args.node) c.self.view_is)
    c.in_ok-effect-in-Some.ensures
