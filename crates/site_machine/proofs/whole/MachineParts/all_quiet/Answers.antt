use Rattle.std.proofs.Common.{◌≡◌, ◌-◌, ◌+◌, ℕ, suc, ◌∙◌, arith}
use Rattle.std.specs.List.{list_all}
use Rattle.node.specs.packet_wires.specs.Idle.{is_quiet}
use Rattle.node.specs.packet_wires.specs.Nodes.{all_nodes}
use Rattle.site_machine.proofs.Passes.{all-done, all-next, all-stop}
use Rattle.site_machine.proofs.whole.MachineParts.all_quiet.Goals as goal

pub returns-then-not-is_quiet_from : goal.returns-then-not-is_quiet_from
returns-then-not-is_quiet_from c =
    let count : 17 - c.loop-from.from ≡ suc (17 - (c.loop-from.from + 1)) = omega (arith, c.loop-from-test.true) in
    all-stop (λ (x : ℕ). list_all (is_quiet c.args.self.now.world.stopped c.args.self.now.wires.nodes x) all_nodes)
    c.loop-from.from (17 - c.loop-from.from) (17 - (c.loop-from.from + 1)) c.is_quiet_from.result count
    c.is_quiet_from.ensures
    c.if-not-is_quiet_from.true ∙ c.loop-from.invariant

pub loop-from-preserved : goal.loop-from-preserved
loop-from-preserved c =
    let count : 17 - c.loop-from.from ≡ suc (17 - (c.loop-from.from + 1)) = omega (arith, c.loop-from-test.true) in
    all-next (λ (x : ℕ). list_all (is_quiet c.args.self.now.world.stopped c.args.self.now.wires.nodes x) all_nodes)
    c.loop-from.from (17 - c.loop-from.from) (17 - (c.loop-from.from + 1)) c.is_quiet_from.result count
    c.is_quiet_from.ensures
    c.if-not-is_quiet_from.false ∙ c.loop-from.invariant

pub returns : goal.returns
returns c =
    all-done (λ (x : ℕ). list_all (is_quiet c.args.self.now.world.stopped c.args.self.now.wires.nodes x) all_nodes)
    c.loop-from.from (17 - c.loop-from.from) (omega (arith, c.loop-from-test.false)) ∙ c.loop-from.invariant
