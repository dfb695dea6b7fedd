use Rattle.std.proofs.Common.{sym, subst}
use Rattle.node.specs.packet_wires.specs.Play.{Packeted}
use Rattle.node.specs.event_parts.specs.Numbers.{CanReload}
use Rattle.site_machine.proofs.whole.MachineParts.reload_wires.Goals as goal

pub reload-requires : goal.reload-requires
reload-requires c = subst (λ (s : Packeted). CanReload c.args.processor s.wires.nodes) (sym c.self.view_is) c.requires
