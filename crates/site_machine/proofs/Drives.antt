-- An event of a drive sends nothing: what it makes of the world is what it makes of the machine.
use Rattle.std.proofs.Common.{ℕ, ap}
use Rattle.node.specs.machine_states.specs.Drives.{Turned, Turns, Rests, Loses}
use Rattle.node.specs.machine_states.specs.States.{Settles, played_turn}
use Rattle.node.specs.machine_states.specs.declared.effect.Effect.{Effect}
use Rattle.node.specs.packet_wires.specs.Play.{Packeted, underway, ended}
use Rattle.node.specs.packet_wires.specs.Wires.{Wires}
use Rattle.open_links.specs.world_copies.specs.SiteWorld.{SettlesTurn, SiteWorld}

-- a machine over this world, with these wires
abbrev pub over_wires : Wires → SiteWorld → Packeted
over_wires wires s = record { site = s.site; world = s.world; wires = wires; drives = s.drives }

pub machine-settles : (wires : Wires) (process : ℕ) (turn : Turned) (before after : SiteWorld) (answer : Effect)
    → SettlesTurn turn process before answer after
    → Settles (ended wires (played_turn process (underway (over_wires wires before)) turn)) (over_wires wires before)
    answer (over_wires wires after)
machine-settles wires process (Turns states) before after answer settled =
    (settled.0, ap (over_wires wires) settled.1)
machine-settles wires process Rests before after answer settled = (settled.0, ap (over_wires wires) settled.1)
machine-settles wires process Loses before after answer settled = (settled.0, ap (over_wires wires) settled.1)
