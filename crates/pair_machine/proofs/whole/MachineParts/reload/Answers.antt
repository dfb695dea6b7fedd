use Rattle.std.proofs.Common.{◌∙◌, refl, sym}
use Rattle.message_wires.specs.computed_changes.specs.Stopped.{reload_done}
use Rattle.machine_states.specs.declared.effect.Effect.TheVariants.{Done, Skipped}
use Rattle.pair_machine.proofs.Loads.{reloads-done, reloads-none}
use Rattle.pair_machine.proofs.whole.MachineParts.reload.Goals as goal

pub returns-then-not-done : goal.returns-then-not-done
returns-then-not-done c =
    let s = c.args.self.now in
    reloads-none c.args.processor s c.reload_world.new.self Skipped (reload_done s.site c.args.processor s.world)
    (sym c.in_ok-done.ensures.told ∙ c.if-not-done.true) refl c.in_ok-done.ensures.state

pub returns : goal.returns
returns c =
    let s = c.args.self.now in
    reloads-done c.args.processor s c.reload_world.new.self c.reload_wires.new.self Done
    (reload_done s.site c.args.processor s.world)
    (sym c.in_ok-done.ensures.told ∙ c.if-not-done.false) refl c.in_ok-done.ensures.state c.reload_wires.ensures
