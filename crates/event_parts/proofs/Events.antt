-- Events that are one part.
use Rattle.std.specs.Option.{option_and_then}
use Rattle.std.proofs.Common.{◌≡◌, ℕ, ℤ, Bool, true, if◌then◌else◌, List, Option, Some, None, slice_get, refl, ap, sym}
use Rattle.std.proofs.Common.{◌∙◌, ◌&&◌}
use Rattle.schedule.specs.declared.event.Event.TheVariants.{Deliver, Reload, Repeat, Tick}
use Rattle.schedule.specs.declared.bus_name.BusName.{BusName}
use Rattle.schedule.specs.declared.bus_name.BusName.TheVariants as bus
use Rattle.packet_words.specs.declared.packet.Packet.{Packet}
use Rattle.packet_wires.specs.machine_states.specs.States.{Makes, Skips}
use Rattle.packet_wires.specs.message_wires.specs.computed_changes.specs.Stopped.{reload_done}
use Rattle.packet_wires.specs.world_semantics.specs.Running.{Done}
use Rattle.packet_wires.specs.world_semantics.specs.World.{is_running}
use Rattle.packet_wires.specs.Lines.{line_pulled}
use Rattle.packet_wires.specs.Nodes.{Node, end_at}
use Rattle.packet_wires.specs.Play.{Packeted, Underway, underway, deliver_acted, ended, handed_words, packet_at, play}
use Rattle.packet_wires.specs.Play.{is_current_at, pulls, pulls_its, received, reload_acted, repeat_acted}
use Rattle.packet_wires.specs.Wires.{Wires, midst_after_arrival, loaded_again, nothing_sent}
use Rattle.packet_wires.specs.Wires.{midst_after_tick, with_sent}
use Rattle.packet_wires.specs.Wires.{without_packet}
use Rattle.event_parts.specs.Parts.{carried_out, completed_by, wires_after_delivery, wires_after_repeat}

nodes-same : (name : BusName) (k : ℕ) (wires : Wires) → (without_packet name k wires).nodes ≡ wires.nodes
nodes-same bus.X k wires = refl
nodes-same bus.Y k wires = refl

pub delivers : (s : Packeted) (name : BusName) (k : ℕ) (packet : Packet) → packet_at s name k ≡ Some packet
    → is_running s.world.stopped packet.receiver ≡ true
    → is_current_at packet (end_at s.wires.nodes packet.receiver packet.sender) ≡ true
    → completed_by (Some packet) s.wires.nodes ≡ None
    → play s (Deliver name k) ≡ Makes (record s { wires = wires_after_delivery name k (Some packet) s.wires })
delivers s name k packet found runs current none =
    let off : Wires = without_packet name k s.wires in
    let after : Underway =
    record (underway s) { wires = midst_after_arrival name packet (nothing_sent s.wires.nodes) } in
    ap (λ (o : Option Packet). ended off (deliver_acted name (underway s) o)) found
    ∙ ap (λ (b : Bool). ended off (Makes (if b && is_current_at packet
    (end_at s.wires.nodes packet.receiver packet.sender) then received name packet (underway s) else underway s))) runs
    ∙ ap (λ (b : Bool). ended off (Makes (if b then received name packet (underway s) else underway s))) current
    ∙ ap (λ (w : Option (List ℤ)). ended off (Makes (handed_words packet.receiver w after))) none
    ∙ ap (λ (nodes : List Node). Makes (record s
    { wires = with_sent (midst_after_arrival name packet (nothing_sent nodes)) off }))
    (sym (nodes-same name k s.wires))

pub repeats : (s : Packeted) (name : BusName) (k : ℕ) (packet : Packet) → packet_at s name k ≡ Some packet
    → play s (Repeat name k) ≡ Makes (record s { wires = wires_after_repeat name (Some packet) s.wires })
repeats s name k packet found = ap (λ (o : Option Packet). ended s.wires (repeat_acted name (underway s) o)) found

pub ticks : (s : Packeted) (node : ℕ) → is_running s.world.stopped node ≡ true
    → option_and_then (line_pulled node) (slice_get
    (midst_after_tick s.site.processors node (nothing_sent s.wires.nodes)).nodes
    node) ≡ None
    → play s (Tick node) ≡ Makes (record s { wires = carried_out (midst_after_tick s.site.processors node) s.wires })
ticks s node runs none =
    let after : Underway =
    record (underway s) { wires = midst_after_tick s.site.processors node (nothing_sent s.wires.nodes) } in
    ap (λ (b : Bool). ended s.wires (if b then pulls_its node after else Skips)) runs
    ∙ ap (λ (line : Option ℕ). ended s.wires (pulls node after line)) none

pub reloads : (s : Packeted) (processor : ℕ) (done : Done) → reload_done s.site processor s.world ≡ Some done
    → play s (Reload processor) ≡ Makes (record s {
      world = done.world;
      wires = carried_out (loaded_again s.site.processors processor) s.wires;
    })
reloads s processor done is = ap (λ (o : Option Done). ended s.wires (reload_acted processor (underway s) o)) is
