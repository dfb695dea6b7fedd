use Rattle.std.proofs.Common.{◌∙◌, ℕ, Option, Some, refl, sym, subst}
use Rattle.schedule.specs.declared.bus_name.BusName.{BusName}
use Rattle.packet_words.specs.declared.packet.Packet.{Packet}
use Rattle.node.specs.machine_states.specs.States.{Settles}
use Rattle.node.specs.machine_states.specs.declared.effect.Effect.{Effect}
use Rattle.node.specs.machine_states.specs.declared.effect.Effect.TheVariants as effect
use Rattle.node.specs.packet_wires.specs.Play.{Packeted, deliver_acted, ended, underway}
use Rattle.node.specs.packet_wires.specs.Wires.{without_packet}
use Rattle.site_machine.proofs.Deliveries.{arrived-off, can-hand, comes-off, delivery-comes, none-delivered, whole-off}
use Rattle.site_machine.proofs.whole.MachineParts.deliver.Goals as goal

-- what a packet that was found on a bus makes of a state
abbrev Delivers : BusName → ℕ → Packeted → Option Packet → Effect → Packeted → Type 0
Delivers name k s found answer after =
    Settles (ended (without_packet name k s.wires) (deliver_acted name (underway s) found)) s answer after

pub returns-in_default : goal.returns-in_default
returns-in_default c =
    none-delivered c.args.bus c.args.k c.args.self.now c.take_off.new.self c.in_default.ensures.packet
    c.in_default.ensures.after

pub hand_words-requires : goal.hand_words-requires
hand_words-requires c =
    can-hand c.args.bus c.args.k c.args.self.now c.arrive.new.self (Some c.in-Some.packet) c.requires
    (arrived-off c.args.bus c.args.k c.args.self.now c.in-Some.packet c.take_off.new.self
    c.in-Some.ensures.after c.arrive.new.self c.in_ok-words.ensures.after)

pub returns-in_ok-hand_words : goal.returns-in_ok-hand_words
returns-in_ok-hand_words c =
    subst (λ (found : Option Packet). Delivers c.args.bus c.args.k c.args.self.now found effect.Done
    c.hand_words.new.self) c.in-Some.ensures.packet
    (delivery-comes c.args.bus c.args.k c.args.self.now (Some c.in-Some.packet) c.in-Some.packet.receiver
    c.arrive.new.self c.hand_words.new.self c.in_ok-words.words refl
    (sym (comes-off c.args.bus c.args.k c.args.self.now c.in-Some.packet c.take_off.new.self
    c.in-Some.ensures.after) ∙ sym c.comes_in.ensures ∙ c.if-comes_in.true)
    (whole-off c.args.bus c.args.k c.args.self.now c.in-Some.packet c.take_off.new.self
    c.in-Some.ensures.after c.in_ok-words.words c.in_ok-words.ensures.completed)
    (arrived-off c.args.bus c.args.k c.args.self.now c.in-Some.packet c.take_off.new.self
    c.in-Some.ensures.after c.arrive.new.self c.in_ok-words.ensures.after)
    c.in_ok-hand_words.ensures)
