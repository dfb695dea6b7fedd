-- The wires of a state as a net of channels.
use Rattle.std.specs.Prelude.{◌≡◌, ◌≤◌, ℕ, Bool, true, false, not, List, length, slice_get, Some}
use Rattle.std.specs.Option.{unwrap_or}
use Rattle.gd_words.specs.declared.limits.TheConstants.{MOST_PROCESSORS, TERMINAL_NODE}
use Rattle.gd_words.specs.Members.{IsAmong}
use Rattle.packet_words.specs.declared.packet.Packet.{Packet}
use Rattle.link_control.specs.Ends.{End}
use Rattle.channel_laws.specs.Net.{Net, IsNamed, IsWhole}
use Rattle.world_semantics.specs.World.{is_running}
use Rattle.alive_regroup.specs.declared.neighbour.Neighbour.{Neighbour}
use Rattle.alive_regroup.specs.declared.neighbour.Neighbour.TheVariants.{Absent}
use Rattle.alive_regroup.specs.Watching.{Watching}
use Rattle.packet_wires.specs.Nodes.{Node, end_at}
use Rattle.packet_wires.specs.Wires.{Midst, Outgoing}

-- a node is one of the processors that have stopped
abbrev pub stands : List Bool → ℕ → Bool
stands stopped x = unwrap_or (slice_get stopped x) false

-- the wires in the midst of an event are those of a net, while these packets are on the buses: between the nodes that
-- there may be each has an end with each, which bears its names; the net is whole, and its nodes have stopped where the
-- world's don't run; the ends of a node that runs are the net's; what is on the buses and what the event has sent is in
-- flight in the net, which forgets no packet; and who is cut off has stopped
pub record IsTied (stopped : List Bool) (on : List Packet) (midst : Midst) (n : Net) : Type 0 where
  pub shape : (x y : ℕ) → x ≤ TERMINAL_NODE → y ≤ TERMINAL_NODE → (e : End) × (end_at midst.nodes x y ≡ Some e)
  pub names : (x y : ℕ) (e : End) → end_at midst.nodes x y ≡ Some e → IsNamed n.reloads x y e
  pub whole : IsWhole n
  pub stood : (x : ℕ) → n.stopped x ≡ not (is_running stopped x)
  pub ends : (x y : ℕ) (e : End) → is_running stopped x ≡ true → end_at midst.nodes x y ≡ Some e → n.ends x y ≡ e
  pub flight : (p : Packet) → IsAmong p on → IsAmong p n.flight
  pub out : (one : Outgoing) → IsAmong one midst.out → IsAmong one.packet n.flight
  pub down : (x y : ℕ) → (n.ends x y).down ≡ true → stands stopped y ≡ true

-- the node x of a site with so many processors watches as many as a site may have, of which those that the site
-- hasn't are absent
pub record IsWatch (processors x : ℕ) (watch : Watching) : Type 0 where
  pub me : watch.me ≡ x
  pub size : length watch.neighbours ≡ MOST_PROCESSORS
  pub past : (k : ℕ) (one : Neighbour) → slice_get watch.neighbours k ≡ Some one → processors ≤ k → one ≡ Absent

abbrev pub AreWatches : ℕ → List Node → Type 0
AreWatches processors nodes = (x : ℕ) (node : Node) → slice_get nodes x ≡ Some node → IsWatch processors x node.watch
