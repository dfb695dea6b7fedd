-- States of worked runs of the adder, and what is told of events there.
use Rattle.std.specs.Prelude.{ℕ, List, [], ◌∷◌, take, Option, Some, None, true, false, replicate}
use Rattle.alive_regroup.specs.declared.set.ProcessorSet.{ProcessorSet}
use Rattle.event_findings.specs.Told.{told}
use Rattle.event_findings.specs.machine_views.specs.Views.{view_of}
use Rattle.event_findings.specs.machine_views.specs.declared.views.CopyView.{CopyView}
use Rattle.mirror.specs.declared.state.DriveState.{DriveState}
use Rattle.schedule.specs.declared.bus_name.BusName.TheVariants as bus
use Rattle.schedule.specs.declared.event.DriveChange.{DriveChange}
use Rattle.schedule.specs.declared.event.Event.{Event}
use Rattle.schedule.specs.declared.event.Event.TheVariants as event
use Rattle.event_findings.specs.site_machine.specs.packet_wires.specs.Examples.{adder_at_boot, before_third_piece}
use Rattle.event_findings.specs.site_machine.specs.packet_wires.specs.Examples.{next_x, times}
use Rattle.event_findings.specs.site_machine.specs.packet_wires.specs.Examples.{up_to_checkpoint, up_to_reply}
use Rattle.event_findings.specs.site_machine.specs.packet_wires.specs.Play.{Packeted}
use Rattle.event_findings.specs.site_machine.specs.packet_wires.specs.Sights.{end_of}
use Rattle.tal_tree.specs.declared.site.Who.TheVariants as who
use Rattle.trace_lines.specs.declared.finding.ActName.{ActName}
use Rattle.trace_lines.specs.declared.finding.ActName.TheVariants as act
use Rattle.trace_lines.specs.declared.finding.Fate.{Fate}
use Rattle.trace_lines.specs.declared.finding.Finding.{Finding}
use Rattle.trace_lines.specs.declared.finding.Finding.TheVariants as finding
use Rattle.trace_lines.specs.declared.finding.MessageName.{MessageName}
use Rattle.trace_lines.specs.declared.finding.MessageName.TheVariants as name
use Rattle.trace_lines.specs.declared.finding.PacketSort.{PacketSort}

abbrev pub told_in : Packeted → Event → List Finding
told_in s event = told s.site s event

-- a packet of this sort from one node for another met this fate: a piece of a message, if one is known
abbrev pub packet_of : PacketSort → ℕ → ℕ → Fate → Option MessageName → Finding
packet_of sort sender receiver fate message =
    finding.Packet (record { sender = sender; receiver = receiver; sort = sort }) fate message

abbrev pub packet : PacketSort → ℕ → ℕ → Fate → Finding
packet sort sender receiver fate = packet_of sort sender receiver fate None

abbrev pub piece : PacketSort → ℕ → ℕ → Fate → MessageName → Finding
piece sort sender receiver fate message = packet_of sort sender receiver fate (Some message)

-- a node sends another one a message, whose last piece has this number, for the first time or again
abbrev pub sends : ℕ → ℕ → ℕ → MessageName → Finding
sends sender receiver last message = finding.Sends sender receiver last (Some message) false

abbrev pub sends_again : ℕ → ℕ → ℕ → MessageName → Finding
sends_again sender receiver last message = finding.Sends sender receiver last (Some message) true

-- the request of the terminal, and the reply to it
abbrev pub request_named : MessageName
request_named = name.Request (Some (who.Terminal 0)) 0 1

abbrev pub reply_named : MessageName
reply_named = name.Reply (Some (who.Terminal 0)) 0 1

-- the take of the request
abbrev pub take_named : ActName
take_named = act.Take 0 (Some (who.Terminal 0))

-- the first checkpoint, and that it was taken
abbrev pub checkpoint_named : MessageName
checkpoint_named = name.Checkpoint 0 0 1

abbrev pub taken_named : MessageName
taken_named = name.Taken 0 0 1

-- the request was entered, and is on bus X
abbrev pub entered : Packeted
entered = end_of adder_at_boot (event.Enter 0 ∷ [])

-- the program stands at its READUPDATE, and the request waits
abbrev pub before_take : Packeted
before_take = end_of adder_at_boot (take 6 up_to_checkpoint)

-- it has the request
abbrev pub after_take : Packeted
after_take = end_of adder_at_boot (take 7 up_to_checkpoint)

-- the program stands at its CHECKPOINT
abbrev pub at_checkpoint : Packeted
at_checkpoint = end_of adder_at_boot (take 9 up_to_checkpoint)

-- its checkpoint was sent
abbrev pub checkpoint_sent : Packeted
checkpoint_sent = end_of adder_at_boot up_to_checkpoint

-- the last piece of the checkpoint comes next
abbrev pub before_last_piece : Packeted
before_last_piece = end_of checkpoint_sent (times 4 (next_x ∷ []))

-- the checkpoint was acknowledged
abbrev pub acknowledged : Packeted
acknowledged = end_of checkpoint_sent (times 8 (next_x ∷ []))

-- the reply is on bus X
abbrev pub replied : Packeted
replied = end_of checkpoint_sent (take 10 up_to_reply)

-- processor 0 stopped between the pieces of its checkpoint, and processor 1 ticked three times
abbrev pub before_takeover : Packeted
before_takeover = end_of before_third_piece (times 3 (event.Tick 1 ∷ []))

-- the adder at the beginning, with drives that stand so
abbrev pub with_drives : List DriveState → Packeted
with_drives states = record adder_at_boot { drives = states ∷ [] }

-- an event of a drive of its process
abbrev pub driven : ℕ → DriveChange → Event
driven drive change = event.Drive (record { process = 0; drive = drive; change = change })

-- the request came, and its packet stands on bus X once more
abbrev pub doubled : Packeted
doubled = end_of entered (event.Repeat bus.X 0 ∷ next_x ∷ [])

-- the same after its first tick
abbrev pub after_one_tick : Packeted
after_one_tick = end_of before_third_piece (event.Tick 1 ∷ [])

-- processor 0 alone
abbrev pub first_silent : ProcessorSet
first_silent = record { members = true ∷ replicate 15 false }

-- that the checkpoint was taken comes next
abbrev pub before_taken : Packeted
before_taken = end_of checkpoint_sent (times 6 (next_x ∷ []))

abbrev pub copies_of : Packeted → List CopyView
copies_of s = (view_of s.world).copies
