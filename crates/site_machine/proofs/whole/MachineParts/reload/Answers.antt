use Rattle.std.proofs.Common.{sym, ◌∙◌}
use Rattle.node.specs.computed_changes.specs.Stopped.{reload_done}
use Rattle.site_machine.proofs.Stops.{can-reload, reloads-done, reloads-none}
use Rattle.site_machine.proofs.whole.MachineParts.reload.Goals as goal

pub returns-then-not-done : goal.returns-then-not-done
returns-then-not-done c =
    reloads-none c.args.processor c.args.self.now _
    (reload_done c.args.self.now.site c.args.processor c.args.self.now.world)
    (sym c.in_ok-done.ensures.told ∙ c.if-not-done.true) c.in_ok-done.ensures.state

pub reload_wires-requires : goal.reload_wires-requires
reload_wires-requires c =
    can-reload c.args.processor c.args.self.now _ _ c.requires.bears c.in_ok-done.ensures.told
    c.if-not-done.false c.in_ok-done.ensures.state

pub returns : goal.returns
returns c =
    reloads-done c.args.processor c.args.self.now _ _
    (reload_done c.args.self.now.site c.args.processor c.args.self.now.world)
    (sym c.in_ok-done.ensures.told ∙ c.if-not-done.false) c.in_ok-done.ensures.state
    c.reload_wires.ensures
