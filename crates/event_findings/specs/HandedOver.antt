-- What the message does that a delivered piece makes whole: a checkpoint that the copy ignores, and that a checkpoint
-- was taken. What else it does is told by what changed.
use Rattle.std.specs.Prelude.{ℕ, ◌+◌, ◌==◌, ◌&&◌, Bool, true, false, if◌then◌else◌, List, [], ◌∷◌, Option, Some, None}
use Rattle.std.specs.Option.{option_and_then, option_map}
use Rattle.link_control.specs.Ends.{End}
use Rattle.machine_views.specs.declared.views.CopyView.{CopyView}
use Rattle.machine_views.specs.declared.views.View.{View}
use Rattle.packet_words.specs.declared.packet.Packet.{Packet}
use Rattle.schedule.specs.declared.event.Event.{Event}
use Rattle.schedule.specs.declared.event.Event.TheVariants.{Run, Enter, Deliver, Lose, Repeat, Tick, Fail, Reload}
use Rattle.schedule.specs.declared.event.Event.TheVariants.{Drive}
use Rattle.machine_views.specs.site_machine.specs.packet_wires.specs.Nodes.{end_at}
use Rattle.machine_views.specs.site_machine.specs.packet_wires.specs.Play.{Packeted, packet_at}
use Rattle.trace_lines.specs.declared.finding.Fate.{Fate}
use Rattle.trace_lines.specs.declared.finding.Fate.TheVariants as fate
use Rattle.trace_lines.specs.declared.finding.Finding.{Finding}
use Rattle.trace_lines.specs.declared.finding.Finding.TheVariants as finding
use Rattle.trace_lines.specs.declared.finding.MessageName.{MessageName}
use Rattle.trace_lines.specs.declared.finding.MessageName.TheVariants as name
use Rattle.trace_lines.specs.declared.finding.PacketSort.{PacketSort}
use Rattle.trace_lines.specs.declared.finding.PacketSort.TheVariants as sort
use Rattle.trace_lines.specs.declared.finding.WhyIgnored.{WhyIgnored}
use Rattle.trace_lines.specs.declared.finding.WhyIgnored.TheVariants as why
use Rattle.world_semantics.specs.declared.role.Role.{Role}
use Rattle.world_semantics.specs.declared.role.Role.TheVariants as role
use Rattle.event_findings.specs.Packets.{fate_of, message_of, sort_of}
use Rattle.event_findings.specs.declared.noting.HandedOver.{HandedOver}

-- Which message is handed over

-- whether a piece follows the last one that came to an end
abbrev pub follows : ℕ → Option End → Bool
follows number None = false
follows number (Some e) = number == e.receiving.kept + 1

-- whether a packet makes a message whole at an end
abbrev pub makes_whole : PacketSort → Option End → Bool
makes_whole (sort.LastPiece number) e = follows number e
makes_whole (sort.Piece number) e = false
makes_whole (sort.Acknowledgement number) e = false
makes_whole sort.Alive e = false

abbrev pub has_come : Fate → Bool
has_come fate.Came = true
has_come fate.CameAgain = false
has_come fate.Dropped = false
has_come fate.Refused = false
has_come fate.Old = false
has_come fate.Lost = false
has_come fate.Repeated = false

abbrev pub handed_at : ℕ → MessageName → HandedOver
handed_at node message = record { node = node; message = message }

-- the message that a packet makes whole at the node to which it comes
abbrev pub handed_with : Packeted → Event → Packet → Option HandedOver
handed_with s event packet =
    if has_come (fate_of s event packet)
    && makes_whole (sort_of packet.kind) (end_at s.wires.nodes packet.receiver packet.sender)
    then option_map (handed_at packet.receiver) (message_of s packet) else None

abbrev pub handed_over : Packeted → Event → Option HandedOver
handed_over s (Deliver bus k) = option_and_then (handed_with s (Deliver bus k)) (packet_at s bus k)
handed_over s (Run process) = None
handed_over s (Enter terminal) = None
handed_over s (Lose bus k) = None
handed_over s (Repeat bus k) = None
handed_over s (Tick node) = None
handed_over s (Fail processor) = None
handed_over s (Reload processor) = None
handed_over s (Drive one) = None

-- What it does

-- the copy of a process in a processor
abbrev pub copy_at : ℕ → ℕ → List CopyView → Option CopyView
copy_at process processor [] = None
copy_at process processor (copy ∷ copies) =
    if (copy.process == process) && (copy.processor == processor) then Some copy else copy_at process processor copies

-- why a copy that watches or is blank ignores a checkpoint, if it does: it takes only the next one of its era
abbrev pub why_watching : CopyView → ℕ → ℕ → Option WhyIgnored
why_watching copy era number =
    if era == copy.era then (if number == copy.number + 1 then None else Some why.NotNext) else Some why.OtherEra

abbrev pub why_as : CopyView → ℕ → ℕ → Role → Option WhyIgnored
why_as copy era number role.Acting = Some why.Acts
why_as copy era number role.Watching = why_watching copy era number
why_as copy era number role.Blank = why_watching copy era number
why_as copy era number role.Gone = None

abbrev pub ignores : CopyView → ℕ → WhyIgnored → Finding
ignores copy number why = finding.IgnoresCheckpoint copy.process copy.processor number why

abbrev pub ignored_by : ℕ → ℕ → CopyView → Option Finding
ignored_by era number copy = option_map (ignores copy number) (why_as copy era number copy.role)

-- whether it is the checkpoint at which a copy stands that was taken
abbrev pub awaits_taken : ℕ → ℕ → CopyView → Bool
awaits_taken era number copy = copy.sent && (era == copy.era) && (number == copy.number)

abbrev pub taken_by : ℕ → ℕ → CopyView → Option Finding
taken_by era number copy =
    if awaits_taken era number copy then Some (finding.HearsTaken copy.process copy.processor number) else None

abbrev pub done_by : ℕ → List CopyView → MessageName → Option Finding
done_by node copies (name.Checkpoint process era number) =
    option_and_then (ignored_by era number) (copy_at process node copies)
done_by node copies (name.Taken process era number) =
    option_and_then (taken_by era number) (copy_at process node copies)
done_by node copies (name.Request asker process number) = None
done_by node copies (name.Reply asker process number) = None
done_by node copies (name.Report from silent) = None
done_by node copies (name.Down processor) = None

-- what is told of the message that is handed over, by the copies before the event
abbrev pub handed_found : Option HandedOver → View → Option Finding
handed_found None before = None
handed_found (Some handed) before = done_by handed.node before.copies handed.message

abbrev pub handed_since : Option HandedOver → Option View → Option Finding
handed_since handed None = None
handed_since handed (Some before) = handed_found handed before
