use Rattle.std.proofs.Common.{◌∙◌, ℕ, Option, ap, slice_get}
use Rattle.std.specs.Option.{option_and_then}
use Rattle.node.specs.packet_wires.specs.Lines.{line_pulled}
use Rattle.node.specs.packet_wires.specs.Wires.{Wires, nothing_sent, midst_after_tick}
use Rattle.site_machine.specs.Seen.{MachineStanding}
use Rattle.site_machine.specs.declared.machine.Machine.TheInside.{Inside}
use Rattle.site_machine.proofs.machine.Machine.line_after_tick.Goals as goal

later : ℕ → ℕ → Wires → Option ℕ
later processors node wires =
    option_and_then (line_pulled node) (slice_get
    (midst_after_tick processors node (nothing_sent wires.nodes)).nodes node)

pub returns : goal.returns
unfolding later
returns c = λ processors.
    c.line_after_tick.ensures processors
    ∙ ap (λ (m : Inside). later processors c.args.node m.whole.wires) c.self-inside.view_is
    ∙ ap (λ (m : MachineStanding). later processors c.args.node m.state.wires) c.self.view_is
