use Rattle.std.proofs.Common.{◌≡◌, ◌-◌, ◌+◌, suc, ◌∙◌, arith}
use Rattle.node.specs.packet_wires.specs.Idle.{is_quiet}
use Rattle.site_machine.proofs.Passes.{all-done, all-next, all-stop}
use Rattle.site_machine.proofs.whole.MachineParts.is_quiet_from.Goals as goal

pub returns-then-not-is_quiet : goal.returns-then-not-is_quiet
returns-then-not-is_quiet c =
    let count : 17 - c.loop-to.to ≡ suc (17 - (c.loop-to.to + 1)) = omega (arith, c.loop-to-test.true) in
    all-stop (is_quiet c.args.self.now.world.stopped c.args.self.now.wires.nodes c.args.from)
    c.loop-to.to (17 - c.loop-to.to) (17 - (c.loop-to.to + 1)) c.is_quiet.result count c.is_quiet.ensures
    c.if-not-is_quiet.true ∙ c.loop-to.invariant

pub loop-to-preserved : goal.loop-to-preserved
loop-to-preserved c =
    let count : 17 - c.loop-to.to ≡ suc (17 - (c.loop-to.to + 1)) = omega (arith, c.loop-to-test.true) in
    all-next (is_quiet c.args.self.now.world.stopped c.args.self.now.wires.nodes c.args.from)
    c.loop-to.to (17 - c.loop-to.to) (17 - (c.loop-to.to + 1)) c.is_quiet.result count c.is_quiet.ensures
    c.if-not-is_quiet.false ∙ c.loop-to.invariant

pub returns : goal.returns
returns c =
    all-done (is_quiet c.args.self.now.world.stopped c.args.self.now.wires.nodes c.args.from)
    c.loop-to.to (17 - c.loop-to.to) (omega (arith, c.loop-to-test.false)) ∙ c.loop-to.invariant
