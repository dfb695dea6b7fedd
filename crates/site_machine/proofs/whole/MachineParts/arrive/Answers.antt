use Rattle.std.proofs.Common.{subst, sym}
use Rattle.node.specs.packet_wires.specs.Play.{Packeted}
use Rattle.site_machine.specs.Needs.{HaveNumbersLeft}
use Rattle.site_machine.proofs.whole.MachineParts.arrive.Goals as goal

pub arrive-requires : goal.arrive-requires
arrive-requires c = λ node there e has.
    subst (λ (s : Packeted). HaveNumbersLeft s.wires.nodes) (sym c.self.view_is) c.requires c.args.packet.now.receiver
    c.args.packet.now.sender node e there has
