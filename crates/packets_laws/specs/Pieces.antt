-- What a packet is that hands something over.
use Rattle.std.specs.Prelude.{◌≡◌, ℕ, true, Some}
use Rattle.schedule.specs.declared.bus_name.BusName.{BusName}
use Rattle.packet_words.specs.declared.packet.Packet.{Packet}
use Rattle.packet_words.specs.declared.packet.PacketKind.TheVariants as kind
use Rattle.packet_words.specs.declared.piece.Piece.{Piece}
use Rattle.world_semantics.specs.World.{is_running}
use Rattle.packet_nets.specs.packet_wires.specs.Nodes.{end_at}
use Rattle.packet_nets.specs.packet_wires.specs.Play.{Packeted, is_current_at, packet_at}

-- at this position of a bus stands the last piece of a message, which comes in at a node that runs
pub record HandsOver (s : Packeted) (name : BusName) (k : ℕ) : Type 0 where
  pub packet : Packet
  pub number : ℕ
  pub piece : Piece
  pub there : packet_at s name k ≡ Some packet
  pub kind : packet.kind ≡ kind.Piece number piece
  pub last : piece.last ≡ true
  pub runs : is_running s.world.stopped packet.receiver ≡ true
  pub current : is_current_at packet (end_at s.wires.nodes packet.receiver packet.sender) ≡ true
