-- What an event needs: numbers that have successors, and messages that keep to the layout. Our own rule.
use Rattle.std.specs.Option.{unwrap_or}
use Rattle.std.specs.Prelude.{◌≡◌, ◌++◌, ℕ, List, Option, Some, None, slice_get}
use Rattle.std.specs.List.{All}
use Rattle.tal_tree.specs.declared.site.Site.{Site}
use Rattle.node.specs.world_semantics.specs.World.{World}
use Rattle.node.specs.world_semantics.specs.Messages.{Message, Sending}
use Rattle.node.specs.world_semantics.specs.Running.{Done, run_done}
use Rattle.node.specs.change_layout.specs.declared.message.ChangeMessage.{ChangeMessage}
use Rattle.node.specs.computed_changes.specs.Changed.{change_done}
use Rattle.node.specs.computed_changes.specs.Entered.{enter_done}
use Rattle.node.specs.computed_changes.specs.Handed.{handed_done}
use Rattle.node.specs.computed_changes.specs.Stopped.{down_done, stop_done}
use Rattle.node.specs.letters.specs.Again.{sent_again}
use Rattle.node.specs.link_control.specs.Ends.{End, HasNumbersLeft}
use Rattle.node.specs.packet_wires.specs.message_layout.specs.Layout.{Fits, IsCarriedWithin, IsWithin}
use Rattle.node.specs.packet_wires.specs.message_layout.specs.Messages.{NodeMessage, Carrying, Changing}
use Rattle.node.specs.packet_wires.specs.Parcels.{form_of}
use Rattle.node.specs.packet_wires.specs.Nodes.{Node}
use Rattle.node.specs.event_parts.specs.Numbers.{CanPush}
use Rattle.node.specs.packet_wires.specs.Play.{Packeted}
use Rattle.open_links.specs.world_copies.specs.message_wires.specs.HasRoom.{WorldHasRoom}

-- a message that is sent in this world keeps to the layout, whole and in the form in which it goes
abbrev pub IsSentWithin : World → Message → Type 0
IsSentWithin w message = IsCarriedWithin message × IsWithin (form_of w message)

abbrev pub AreWithin : World → List Sending → Type 0
AreWithin w = All (λ sending. IsSentWithin w sending.message)

abbrev pub AreWithinIfAny : World → Option (List Sending) → Type 0
AreWithinIfAny w None = Unit {0}
AreWithinIfAny w (Some sendings) = AreWithin w sendings

-- and so does all that a mark sends, and what is sent again
abbrev pub DownsWithin : Site → World → Type 0
DownsWithin site w = (node processor : ℕ) (done : Done) → down_done node processor w ≡ Some done
    → AreWithin done.world (done.sendings ++ sent_again site w done.world node processor)

-- whatever changes the world next, what that sends keeps to the layout. A line that is pulled stops its processor first
pub record SendsWithin (site : Site) (w : World) : Type 0 where
  pub runs : (number : ℕ) (done : Done) → run_done site number w ≡ Some done
      → AreWithin done.world done.sendings
  pub enters : (terminal : ℕ) (done : Done) → enter_done site terminal w ≡ Some done
      → AreWithin done.world done.sendings
  pub handed : (node : ℕ) (message : Message) (done : Done) → Fits site (Carrying message)
      → handed_done site node message w ≡ Some done → AreWithin done.world done.sendings
  pub changed : (node : ℕ) (change : ChangeMessage) (done : Done) → Fits site (Changing change)
      → change_done site node change w ≡ Some done → AreWithin done.world done.sendings
  pub marked : DownsWithin site w
  pub pulled : (processor : ℕ) (done : Done) → stop_done processor w ≡ Some done → DownsWithin site done.world

-- a message that was read, if one was, keeps to the layout
abbrev pub IsReadWithin : Option NodeMessage → Type 0
IsReadWithin None = Unit {0}
IsReadWithin (Some message) = IsWithin message

-- what a message needs that is handed over
pub record CanHand (s : Packeted) : Type 0 where
  pub room : WorldHasRoom s.world
  pub numbered : CanPush s.wires.nodes
  pub messages : SendsWithin s.site s.world

-- each end of each node has numbers left
abbrev pub HaveNumbersLeft : List Node → Type 0
HaveNumbersLeft nodes = (x y : ℕ) (node : Node) (e : End) → slice_get nodes x ≡ Some node
    → slice_get node.ends y ≡ Some e → HasNumbersLeft e

-- how often a node was loaded again; that of the terminals never was
abbrev pub times_loaded : List ℕ → ℕ → ℕ
times_loaded reloads node = unwrap_or (slice_get reloads node) 0

-- an end bears how often its two nodes were loaded again
pub record BearsReloads (reloads : List ℕ) (e : End) : Type 0 where
  pub sender : e.incarnation.sender ≡ times_loaded reloads e.here
  pub receiver : e.incarnation.receiver ≡ times_loaded reloads e.there

-- each end of each node
abbrev pub AllBearReloads : List ℕ → List Node → Type 0
AllBearReloads reloads nodes = (x y : ℕ) (node : Node) (e : End) → slice_get nodes x ≡ Some node
    → slice_get node.ends y ≡ Some e → BearsReloads reloads e

-- what the next event needs
pub record IsReady (s : Packeted) : Type 0 where
  pub room : WorldHasRoom s.world
  pub numbers : HaveNumbersLeft s.wires.nodes
  pub bears : AllBearReloads s.world.reloads s.wires.nodes
  pub messages : SendsWithin s.site s.world
