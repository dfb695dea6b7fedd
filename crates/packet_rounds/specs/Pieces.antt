-- A piece that has its acknowledgement.
use Rattle.std.specs.Prelude.{◌≡◌, ◌≤◌, ℕ, Some}
use Rattle.link_control.specs.Ends.{End}
use Rattle.channel_laws.specs.Way.{IsEnded}
use Rattle.packet_wires.specs.Nodes.{end_at}
use Rattle.packet_wires.specs.Play.{Packeted}

-- the piece n from a to b has been acknowledged: it is outstanding no more at its sender's end, and its receiver's end
-- has kept it
pub record IsAcknowledged (s : Packeted) (a b n : ℕ) : Type 0 where
  pub sender : End
  pub at_sender : end_at s.wires.nodes a b ≡ Some sender
  pub ended : IsEnded n sender.sending
  pub receiver : End
  pub at_receiver : end_at s.wires.nodes b a ≡ Some receiver
  pub kept : n ≤ receiver.receiving.kept
