use Rattle.std.proofs.Common.{◌∙◌, ap, refl, sym}
use Rattle.machine_states.specs.declared.effect.Effect.TheVariants.{Done, WouldStopSecond}
use Rattle.message_wires.specs.Play.{MachineState}
use Rattle.world_semantics.specs.World.{is_whole}
use Rattle.pair_machine.proofs.Loads.{stops-none, stops-whole}
use Rattle.pair_machine.proofs.whole.MachineParts.stop_where_whole.Goals as goal

pub returns-then-not-is_whole : goal.returns-then-not-is_whole
returns-then-not-is_whole c =
    let s = c.args.self.now in
    stops-none c.args.processor s s (WouldStopSecond c.args.processor) c.requires
    (sym (ap (λ (s : MachineState). is_whole s.world) c.self.view_is) ∙ sym c.is_whole.ensures
    ∙ c.if-not-is_whole.true) refl refl

pub returns : goal.returns
returns c =
    let s = c.args.self.now in
    stops-whole c.args.processor s c.stop.new.self Done c.requires
    (sym (ap (λ (s : MachineState). is_whole s.world) c.self.view_is) ∙ sym c.is_whole.ensures
    ∙ c.if-not-is_whole.false) refl c.stop.ensures
