-- What goes on in the net of channels when an event is played.
use Rattle.std.specs.Prelude.{◌≡◌, ◌≤◌, ℕ, List, [], length, Option, Some, None}
use Rattle.gd_words.specs.declared.limits.TheConstants.{MOST_PROCESSORS}
use Rattle.gd_words.specs.Members.{IsAmong}
use Rattle.schedule.specs.declared.event.Event.{Event}
use Rattle.schedule.specs.declared.event.Event.TheVariants.{Run, Enter, Deliver, Lose, Repeat, Tick, Fail, Reload}
use Rattle.schedule.specs.declared.event.Event.TheVariants.{Drive}
use Rattle.packet_words.specs.declared.packet.Packet.{Packet}
use Rattle.channel_laws.specs.Net.{Net, Goes, ticked_net}
use Rattle.channel_laws.specs.Rounds.{Passes}
use Rattle.packet_nets.specs.packet_wires.specs.Play.{Packeted, IsClear, packet_at}
use Rattle.packet_nets.specs.Owing.{on_both}
use Rattle.packet_nets.specs.Passing.{IsNet}

-- the packet that an event delivers
abbrev pub delivered : Packeted → Event → Option Packet
delivered s (Run number) = None
delivered s (Enter terminal) = None
delivered s (Deliver bus k) = packet_at s bus k
delivered s (Lose bus k) = None
delivered s (Repeat bus k) = None
delivered s (Tick node) = None
delivered s (Fail processor) = None
delivered s (Reload processor) = None
delivered s (Drive event) = None

-- an event takes nothing off a bus that it doesn't deliver
abbrev pub TakesToDeliver : Event → Type 0
TakesToDeliver (Run number) = Unit {0}
TakesToDeliver (Enter terminal) = Unit {0}
TakesToDeliver (Deliver bus k) = Unit {0}
TakesToDeliver (Lose bus k) = ⊥
TakesToDeliver (Repeat bus k) = Unit {0}
TakesToDeliver (Tick node) = Unit {0}
TakesToDeliver (Fail processor) = Unit {0}
TakesToDeliver (Reload processor) = Unit {0}
TakesToDeliver (Drive event) = Unit {0}

-- an event loads no processor again
abbrev pub ReloadsNone : Event → Type 0
ReloadsNone (Run number) = Unit {0}
ReloadsNone (Enter terminal) = Unit {0}
ReloadsNone (Deliver bus k) = Unit {0}
ReloadsNone (Lose bus k) = Unit {0}
ReloadsNone (Repeat bus k) = Unit {0}
ReloadsNone (Tick node) = Unit {0}
ReloadsNone (Fail processor) = Unit {0}
ReloadsNone (Reload processor) = ⊥
ReloadsNone (Drive event) = Unit {0}

-- the wires of a state are those of a net
abbrev pub IsNetOf : Packeted → Net → Type 0
IsNetOf s n = IsNet s.world.stopped s.wires n

-- a net in which just those packets are in flight that are on the buses of this state
abbrev pub as_on_buses : Packeted → Net → Net
as_on_buses s n = record n { flight = on_both s.wires }

-- from the net of a state, what an event does goes on in the net, while a and b don't stop, and what it delivers comes.
-- What is lost then, by a Lose or for want of room, is a step of its own that leads to the net of the next state; and
-- where nothing is, what goes on leads there
pub record IsPassed (a b : ℕ) (s : Packeted) (event : Event) (next : Packeted) (n : Net) : Type 0 where
  pub came : List Packet
  pub middle : Net
  pub passes : Passes a b n came middle
  pub comes : (p : Packet) → delivered s event ≡ Some p → IsAmong p came
  pub lost : Goes middle (as_on_buses next middle)
  pub net : IsNetOf next (as_on_buses next middle)
  pub clear : IsClear s event → TakesToDeliver event → Passes a b n came (as_on_buses next middle)
  pub few : length next.world.stopped ≤ MOST_PROCESSORS

-- the same of a tick of the node a, cut where its end with b ticks: what went on before that, and what since
pub record IsTickPassed (a b : ℕ) (s next : Packeted) (n : Net) : Type 0 where
  pub middle : Net
  pub first : Passes a b n [] middle
  pub last : Net
  pub rest : Passes a b (ticked_net a b middle) [] last
  pub lost : Goes last (as_on_buses next last)
  pub net : IsNetOf next (as_on_buses next last)
  pub clear : IsClear s (Tick a) → Passes a b (ticked_net a b middle) [] (as_on_buses next last)
