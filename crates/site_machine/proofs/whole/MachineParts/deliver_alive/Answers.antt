use Rattle.std.proofs.Common.{slice_get, sym, ◌∙◌}
use Rattle.node.specs.packet_wires.specs.Wires.{on_bus}
use Rattle.site_machine.proofs.Deliveries.{alive-comes, alive-dropped}
use Rattle.site_machine.proofs.whole.MachineParts.deliver_alive.Goals as goal

pub returns-then-first_comes_in : goal.returns-then-first_comes_in
returns-then-first_comes_in c =
    alive-comes c.args.bus 0 c.args.self.now (slice_get (on_bus c.args.bus c.args.self.now.wires) 0) c.args.receiver
    c.args.sender c.hear_first.new.self c.requires (sym c.first_comes_in.ensures ∙ c.if-first_comes_in.true)
    c.hear_first.ensures.completed c.hear_first.ensures.after

pub returns-else-first_comes_in : goal.returns-else-first_comes_in
returns-else-first_comes_in c =
    alive-dropped c.args.bus 0 c.args.self.now (slice_get (on_bus c.args.bus c.args.self.now.wires) 0) c.args.receiver
    c.args.sender c.take_off-lost.new.self c.requires (sym c.first_comes_in.ensures ∙ c.if-first_comes_in.false)
    c.take_off-lost.ensures.after
