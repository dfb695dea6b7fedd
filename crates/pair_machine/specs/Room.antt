-- What a part of an event needs, so that its letters are counted and each request on the bus names an opener. Our own
-- rule.
use Rattle.std.specs.Prelude.{◌<◌, ◌^◌, List, Option, Some, None}
use Rattle.gd_words.specs.Members.{IsAmong}
use Rattle.world_semantics.specs.Messages.{Sending}
use Rattle.machine_states.specs.States.{Played, Makes, Skips, Would}
use Rattle.message_wires.specs.Wires.{Sent, Wires}
use Rattle.message_wires.specs.Play.{MachineState}
use Rattle.world_copies.specs.Room.{NamesItsOpener}
use Rattle.pair_machine.specs.Told.{sent_all}

-- the count of the letters that were sent has 64 bits
abbrev pub AreCounted : MachineState → Type 0
AreCounted s = s.wires.count < 2 ^ 64

-- and so it has after an event, if that makes a change
abbrev pub AreCountedAfter : Played Wires → Type 0
AreCountedAfter (Makes next) = AreCounted next
AreCountedAfter Skips = Unit {0}
AreCountedAfter (Would harm) = Unit {0}

-- and after these messages were sent, if something is done that sends them
abbrev pub AreCountedTelling : Option (List Sending) → MachineState → Type 0
AreCountedTelling None s = Unit {0}
AreCountedTelling (Some sendings) s = AreCounted (sent_all sendings s)

-- each request on the bus names an opener of the process that it is for
abbrev pub OpenersAreThere : MachineState → Type 0
OpenersAreThere s = (packet : Sent) → IsAmong packet s.wires.bus → NamesItsOpener s.site packet.letter.message
