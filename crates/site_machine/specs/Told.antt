-- What becomes of the machine where something is done: first of the world, and then of the wires, to which what it
-- sends is posted. Our own rule.
use Rattle.std.specs.Prelude.{ℕ, List, Option}
use Rattle.node.specs.world_semantics.specs.Messages.{Sending}
use Rattle.node.specs.letters.specs.Routes.{letters_of}
use Rattle.node.specs.machine_states.specs.Answered.{AnswersBy}
pub use Rattle.node.specs.machine_states.specs.Answered.{unsent}
use Rattle.node.specs.machine_states.specs.declared.effect.Effect.{Effect}
use Rattle.node.specs.packet_wires.specs.Parcels.{parcels_of}
use Rattle.node.specs.packet_wires.specs.Play.{Packeted, Underway, underway, over}
use Rattle.node.specs.packet_wires.specs.Wires.{all_posted, nothing_sent, midst_after_tick}
use Rattle.node.specs.event_parts.specs.Parts.{carried_out}

-- the state after these messages were sent, by its routes
abbrev pub sent_all : List Sending → Packeted → Packeted
sent_all sendings s =
    record s {
      wires = carried_out (all_posted s.world.stopped (parcels_of s.world (letters_of s.site s.world sendings)))
          s.wires;
    }

-- the answer where nothing was done, and where something was done that sends this, and the state after that was posted
abbrev pub Answers : Option (List Sending) → Packeted → Effect → Packeted → Type 0
Answers = AnswersBy sent_all

-- the state after a part of an event that began with it
abbrev pub after_part : (Underway → Underway) → Packeted → Packeted
after_part part s = over s.wires (part (underway s))

-- a state in the midst of a tick, after the node sent what its tick sends
abbrev pub in_tick : ℕ → Packeted → Underway
in_tick node s = record (underway s) { wires = midst_after_tick s.site.processors node (nothing_sent s.wires.nodes) }
