-- Whence comes what a packet completes.
use Rattle.std.proofs.Common.{◌≡◌, inl, inr, ℕ, ℤ, true, List, Option, Some, None, ap, ap₂, sym, subst, ◌∙◌}
use Rattle.gd_words.specs.Members.{IsAmong}
use Rattle.schedule.specs.declared.event.Event.{Event}
use Rattle.schedule.specs.declared.bus_name.BusName.{BusName}
use Rattle.packet_words.specs.declared.packet.Packet.{Packet}
use Rattle.world_semantics.specs.Messages.{Message}
use Rattle.world_semantics.specs.World.{World, is_running}
use Rattle.world_semantics.proofs.Roles.{both-true}
use Rattle.letters.specs.Routes.{Letter}
use Rattle.letters_layout.specs.message_layout.specs.Messages.{NodeMessage, Carrying, Changing, Reporting, Declaring}
use Rattle.packet_nets.specs.packet_wires.specs.Nodes.{end_at}
use Rattle.packet_nets.specs.packet_wires.specs.Parcels.{Parcel}
use Rattle.packet_nets.specs.packet_wires.specs.Play.{Packeted, underway, comes_in, message_at_end, is_current_at}
use Rattle.packet_nets.specs.packet_wires.specs.Play.{packet_at}
use Rattle.packet_nets.specs.packet_wires.specs.Wires.{midst_after_arrival, nothing_sent}
use Rattle.channel_laws.specs.Net.{Net}
use Rattle.packet_nets.specs.Owing.{IsContent, IsTrueOf, content_of, on_both}
use Rattle.packet_nets.proofs.Arriving.{Arrives, hands_none, hands_other, hands_letter, hands_again}
use Rattle.packet_nets.proofs.Sending.{Came, came}
use Rattle.packets_laws.specs.Carried.{IsCarriedAtRest, StandsFor, WasSentInWords, WasTold}
use Rattle.packets_laws.proofs.Playing.{stands-there}

-- the letter of a parcel that goes as itself
itself : (w : World) (x y : ℕ) (message : Message) (letter : Letter)
    → StandsFor w (record { sender = x; receiver = y; content = Carrying message }) letter
    → letter ≡ record { sender = x; receiver = y; message = message }
itself w x y message letter stands =
    elim stands.form [
      | inl same ↦ (let it : message ≡ letter.message = cc in sym (whole it))
      | inr (before, one, is, goes_as, known, next_to) ↦ absurd cc
    ]
  where
    letter_with : Message → ℕ → ℕ → Letter
    letter_with carries from to = record { sender = from; receiver = to; message = carries }

    whole : message ≡ letter.message → letter_with message x y ≡ letter
    whole it = ap₂ (letter_with message) stands.sender stands.receiver
        ∙ ap (λ (m : Message). letter_with m letter.sender letter.receiver) it

module _ (events : List Event) (s : Packeted) (owed sent : List Letter) (held : IsCarriedAtRest events s owed sent)
    (p : Packet) where
  abbrev parcel : NodeMessage → Parcel
  parcel content = record { sender = p.sender; receiver = p.receiver; content = content }

  -- what is the content of a parcel that was posted is that of a letter that was sent
  told-letter : (content : NodeMessage) → IsContent content → IsAmong (parcel content) held.posted
      → WasTold s.world sent p.sender p.receiver content
  told-letter (Carrying message) own among =
      let one = held.were (parcel (Carrying message)) among in
      subst (λ (letter : Letter). IsAmong letter sent)
      (itself s.world p.sender p.receiver message one.0 one.2) one.1
  told-letter (Changing change) own among = held.were (parcel (Changing change)) among
  told-letter (Reporting node silent) own among = absurd cc
  told-letter (Declaring processor) own among = absurd cc

  told-other : (told : NodeMessage) → content_of told ≡ None
      → IsTrueOf s.world.stopped s.world.reloads held.posted p.sender p.receiver told
      → WasTold s.world sent p.sender p.receiver told
  told-other (Carrying message) none right = absurd cc
  told-other (Changing change) none right = absurd cc
  told-other (Reporting node silent) none right = tt
  told-other (Declaring processor) none right = right

  pub comes-right : (name : BusName) (k : ℕ) (words : List ℤ)
      → packet_at s name k ≡ Some p → comes_in p (underway s) ≡ true
      → message_at_end p (end_at s.wires.nodes p.receiver p.sender) ≡ Some words
      → WasSentInWords s.site s.world sent p.sender p.receiver words
  comes-right name k words at comes is =
      subst Right is (of all.net (message_at_end p (end_at s.wires.nodes p.receiver p.sender)) all.arrived)
    where
      Right : Option (List ℤ) → Type 0
      Right None = Unit {0}
      Right (Some words) = WasSentInWords s.site s.world sent p.sender p.receiver words

      of : (next : Net) (h : Option (List ℤ))
          → Arrives s.site s.world.stopped s.world.reloads held.parcels held.posted next p.sender p.receiver h
          → Right h
      of next None (hands_none o) = tt
      of next (Some words) (hands_other told reads fits right none o) =
          (told, reads, fits, told-other told none right)
      of next (Some words) (hands_letter content own reads fits among taken o) =
          (content, reads, fits, told-letter content own among)
      of next (Some words) (hands_again content own reads fits among o) =
          (content, reads, fits, told-letter content own among)

      both : (is_running s.world.stopped p.receiver ≡ true)
          × (is_current_at p (end_at s.wires.nodes p.receiver p.sender) ≡ true)
      both = both-true (is_running s.world.stopped p.receiver)
          (is_current_at p (end_at s.wires.nodes p.receiver p.sender)) comes

      all : Came s.site s.world.stopped s.world.reloads (on_both s.wires)
          (midst_after_arrival name p (nothing_sent s.wires.nodes)) held.parcels
          held.posted p.sender p.receiver (message_at_end p (end_at s.wires.nodes p.receiver p.sender))
      all = came (nothing_sent s.wires.nodes) held.ties name p
          (held.ties.tied.flight p (stands-there s name k p at)) both.0 both.1
