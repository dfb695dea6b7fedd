-- Only the last piece of a message hands anything over.
use Rattle.std.proofs.Common.{◌≡◌, ◌⊎◌, inl, inr, ℕ, ℤ, Bool, true, false, if◌then◌else◌, List, Option, Some, None}
use Rattle.std.proofs.Common.{refl, sym, subst, ◌∙◌}
use Rattle.schedule.specs.declared.event.Event.TheVariants.{Deliver, Drive, Lose, Repeat}
use Rattle.schedule.specs.declared.bus_name.BusName.{BusName}
use Rattle.packet_words.specs.declared.packet.Packet.{Packet}
use Rattle.packet_words.specs.declared.packet.PacketKind.{PacketKind}
use Rattle.packet_words.specs.declared.packet.PacketKind.TheVariants as kind
use Rattle.packet_words.specs.declared.piece.Piece.{Piece}
use Rattle.packet_words.specs.Pieces as pieces
use Rattle.link_control.specs.Ends as ends
use Rattle.link_control.specs.Ends.{End, handed_by_packet, handed_by_kind}
use Rattle.world_semantics.specs.World.{is_running}
use Rattle.message_wires_laws.specs.machine_states.specs.States.{Played, Makes, Skips, Would}
use Rattle.packet_nets.specs.packet_wires.specs.Nodes.{end_at}
use Rattle.packet_nets.specs.packet_wires.specs.Play.{Packeted, underway, message_at_end, handed_words, received}
use Rattle.packet_nets.specs.packet_wires.specs.Play.{deliver_acted}
use Rattle.packet_nets.specs.packet_wires.specs.Play.{lose_acted}
use Rattle.packet_nets.specs.packet_wires.specs.Play.{repeat_acted, packet_at, acted, taken_off, ended, play, comes_in}
use Rattle.packet_nets.specs.packet_wires.specs.Play.{is_current_at}
use Rattle.world_semantics.proofs.Roles.{both-true}
use Rattle.packet_nets.specs.packet_wires.specs.Wires.{Wires, Midst, midst_after_arrival}
use Rattle.packets_laws.specs.Pieces.{HandsOver}
use Rattle.message_wires_laws.specs.machine_states.proofs.Turning.{drive-cases}
use Rattle.schedule.specs.declared.event.DriveEvent.{DriveEvent}

-- a packet that completes a message is a last piece
pub record IsLast (packet : Packet) : Type 0 where
  pub number : ℕ
  pub piece : Piece
  pub kind : packet.kind ≡ kind.Piece number piece
  pub last : piece.last ≡ true

last-piece : (packet : Packet) (e : End) (words : List ℤ) → handed_by_packet packet e ≡ Some words → IsLast packet
last-piece packet e words is = by e.down is
  where
    whole : (number : ℕ) (piece : Piece) → packet.kind ≡ kind.Piece number piece → (last : Bool) → piece.last ≡ last
        → pieces.message_with_piece piece e.receiving.part ≡ Some words → IsLast packet
    whole number piece same true last is = record { number = number; piece = piece; kind = same; last = last }
    whole number piece same false last is = absurd (let none : None ≡ Some words = sym (rw last refl) ∙ is in cc)

    next : (number : ℕ) (piece : Piece) → packet.kind ≡ kind.Piece number piece → (test : Bool)
        → (if test then pieces.message_with_piece piece e.receiving.part else None) ≡ Some words → IsLast packet
    next number piece same true is = whole number piece same piece.last refl is
    next number piece same false is = absurd cc

    by_kind : (k : PacketKind) → packet.kind ≡ k → handed_by_kind k e ≡ Some words → IsLast packet
    by_kind kind.Alive same is = absurd cc
    by_kind (kind.Piece number piece) same is = next number piece same (ends.is_next number e.receiving) is
    by_kind (kind.Acknowledgement number) same is = absurd cc

    by : (down : Bool) → (if down then None else handed_by_kind packet.kind e) ≡ Some words → IsLast packet
    by true is = absurd cc
    by false is = by_kind packet.kind refl is

completed-last : (packet : Packet) (e : Option End) (words : List ℤ) → message_at_end packet e ≡ Some words
    → IsLast packet
completed-last packet None words is = absurd cc
completed-last packet (Some e) words is = last-piece packet e words is

-- what an event makes, if it makes a state, has the world of before, or the packet hands over
abbrev Stays : {W : Type 0} → Packeted → Type 0 → Played W → Type 0
Stays s Or (Makes next) = (next.world ≡ s.world) ⊎ Or
Stays s Or Skips = Unit {0}
Stays s Or (Would harm) = Unit {0}

over-stays : (s : Packeted) (Or : Type 0) (wires : Wires) (played : Played Midst) → Stays s Or played
    → Stays s Or (ended wires played)
over-stays s Or wires (Makes next) stays = stays
over-stays s Or wires Skips stays = tt
over-stays s Or wires (Would harm) stays = tt

deliver-stays : (s : Packeted) (name : BusName) (k : ℕ) (found : Option Packet) → packet_at s name k ≡ found
    → Stays s (HandsOver s name k) (deliver_acted name (underway s) found)
deliver-stays s name k None there = tt
deliver-stays s name k (Some packet) there = by (comes_in packet (underway s)) refl
  where
    handing : is_running s.world.stopped packet.receiver ≡ true
        → is_current_at packet (end_at s.wires.nodes packet.receiver packet.sender) ≡ true → (found : Option (List ℤ))
        → message_at_end packet (end_at s.wires.nodes packet.receiver packet.sender) ≡ found
        → Stays s (HandsOver s name k) (Makes (handed_words packet.receiver found
        (record (underway s) { wires = midst_after_arrival name packet (underway s).wires })))
    handing runs current None whole = inl refl
    handing runs current (Some words) whole =
        let is = completed-last packet (end_at s.wires.nodes packet.receiver packet.sender) words whole in
        inr (record {
          packet = packet;
          number = is.number;
          piece = is.piece;
          there = there;
          kind = is.kind;
          last = is.last;
          runs = runs;
          current = current;
        })

    by : (test : Bool) → comes_in packet (underway s) ≡ test
        → Stays s (HandsOver s name k) (Makes (if test then received name packet (underway s) else underway s))
    by true comes =
        let both = both-true (is_running s.world.stopped packet.receiver)
        (is_current_at packet (end_at s.wires.nodes packet.receiver packet.sender)) comes in
        handing both.0 both.1 (message_at_end packet (end_at s.wires.nodes packet.receiver packet.sender)) refl
    by false rests = inl refl

pub deliver-hands : (s next : Packeted) (bus : BusName) (k : ℕ) → play s (Deliver bus k) ≡ Makes next
    → (next.world ≡ s.world) ⊎ HandsOver s bus k
deliver-hands s next bus k e =
    subst (Stays s (HandsOver s bus k)) e
    (over-stays s (HandsOver s bus k) (taken_off (Deliver bus k) s.wires) (acted s (Deliver bus k))
    (deliver-stays s bus k (packet_at s bus k) refl))

abbrev Keeps : Packeted → Played Wires → Type 0
Keeps s (Makes next) = next.world ≡ s.world
Keeps s Skips = Unit {0}
Keeps s (Would harm) = Unit {0}

pub lose-keeps : (s next : Packeted) (bus : BusName) (k : ℕ) → play s (Lose bus k) ≡ Makes next → next.world ≡ s.world
lose-keeps s next bus k e = subst (Keeps s) e (by (packet_at s bus k))
  where
    by : (found : Option Packet) → Keeps s (ended (taken_off (Lose bus k) s.wires) (lose_acted (underway s) found))
    by None = tt
    by (Some packet) = refl

pub repeat-keeps : (s next : Packeted) (bus : BusName) (k : ℕ) → play s (Repeat bus k) ≡ Makes next
    → next.world ≡ s.world
repeat-keeps s next bus k e = subst (Keeps s) e (by (packet_at s bus k))
  where
    by : (found : Option Packet) → Keeps s (ended s.wires (repeat_acted bus (underway s) found))
    by None = tt
    by (Some packet) = refl

pub drive-keeps : (s next : Packeted) (event : DriveEvent) → play s (Drive event) ≡ Makes next → next.world ≡ s.world
drive-keeps s next event e =
    subst (Keeps s) e (drive-cases event (underway s) (λ (played : Played Midst). Keeps s (ended s.wires played))
    (λ drives. refl) tt (λ process. tt))
