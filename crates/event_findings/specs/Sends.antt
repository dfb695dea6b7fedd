-- The messages that an event sends: what waits at the ends of its node after it and didn't before. An end has the
-- messages that aren't acknowledged whole, the oldest first; what an event sends stands behind what waited.
use Rattle.std.specs.Prelude.{ℕ, ◌+◌, ◌-◌, ◌%◌, ◌==◌, ◌&&◌, Bool, true, false, ℤ, if◌then◌else◌, List, [], ◌∷◌, ◌++◌}
use Rattle.std.specs.Prelude.{length, map, flat_map}
use Rattle.std.specs.Prelude.{Option, Some, None}
use Rattle.std.specs.Option.{option_map}
use Rattle.link_control.specs.Ends.{End, Sending}
use Rattle.machine_views.specs.declared.views.CopyView.{CopyView}
use Rattle.machine_views.specs.declared.views.View.{View}
use Rattle.packet_words.specs.Pieces.{pieces}
use Rattle.schedule.specs.declared.event.Event.{Event}
use Rattle.schedule.specs.declared.event.Event.TheVariants.{Run, Enter, Deliver, Lose, Repeat, Tick, Fail, Reload}
use Rattle.schedule.specs.declared.event.Event.TheVariants.{Drive}
use Rattle.machine_views.specs.site_machine.specs.packet_wires.specs.Nodes.{Node, all_nodes, end_at}
use Rattle.machine_views.specs.site_machine.specs.packet_wires.specs.Play.{Packeted, packet_at}
use Rattle.tal_tree.specs.declared.site.Site.{Site}
use Rattle.trace_lines.specs.declared.finding.Finding.{Finding}
use Rattle.trace_lines.specs.declared.finding.Finding.TheVariants as finding
use Rattle.trace_lines.specs.declared.finding.MessageName.{MessageName}
use Rattle.trace_lines.specs.declared.finding.MessageName.TheVariants as name
use Rattle.world_semantics.specs.World.{terminal_node}
use Rattle.event_findings.specs.Messages.{message_named}
use Rattle.machine_views.specs.Views.{acting_of}
use Rattle.event_findings.specs.declared.noting.Queued.{Queued}

-- Before the event

abbrev pub processor_of : Option CopyView → Option ℕ
processor_of copy = option_map (λ one. one.processor) copy

-- the node at which an event sends, if it may send
abbrev pub sender_of : Packeted → Event → View → Option ℕ
sender_of s (Run process) view = processor_of (acting_of process view.copies)
sender_of s (Enter terminal) view = Some terminal_node
sender_of s (Deliver bus k) view = option_map (λ packet. packet.receiver) (packet_at s bus k)
sender_of s (Lose bus k) view = None
sender_of s (Repeat bus k) view = None
sender_of s (Tick node) view = Some node
sender_of s (Fail processor) view = None
sender_of s (Reload processor) view = None
sender_of s (Drive one) view = None

-- how many messages wait at an end, if there is one
abbrev pub count_at : Option End → ℕ
count_at None = 0
count_at (Some e) = length e.sending.queue

-- whether a request or a reply that an event sends is sent again. A process asks and replies as it runs, and a terminal
-- asks as it enters; at a mark, and if a request comes that was replied to, what was sent before is sent once more
abbrev pub sends_again : Event → Bool
sends_again (Deliver bus k) = true
sends_again (Tick node) = true
sends_again (Run process) = false
sends_again (Enter terminal) = false
sends_again (Lose bus k) = false
sends_again (Repeat bus k) = false
sends_again (Fail processor) = false
sends_again (Reload processor) = false
sends_again (Drive one) = false

abbrev pub queued_for : List Node → Bool → ℕ → ℕ → Queued
queued_for nodes again from to =
    record { from = from; to = to; count = count_at (end_at nodes from to); again = again }

abbrev pub queued_at : List Node → Bool → Option ℕ → List Queued
queued_at nodes again None = []
queued_at nodes again (Some from) = map (queued_for nodes again from) all_nodes

-- what waits at the node at which an event sends
abbrev pub queued_by : Packeted → Event → Option View → List Queued
queued_by s event None = []
queued_by s event (Some view) = queued_at s.wires.nodes (sends_again event) (sender_of s event view)

-- After the event

-- the number of a message's last piece, behind a piece of this number; numbers are below 4,294,967,296
abbrev pub last_behind : ℕ → List ℤ → ℕ
last_behind number words = (number + pieces words) % 4294967296

-- the number of the piece before the first one of the oldest message that waits
abbrev pub before_first : Sending → ℕ
before_first sending = (sending.numbered - sending.place) - 1

-- whether a message may be one that is sent again: a request or a reply
abbrev pub is_asked : MessageName → Bool
is_asked (name.Request asker process number) = true
is_asked (name.Reply asker process number) = true
is_asked (name.Checkpoint process era number) = false
is_asked (name.Taken process era number) = false
is_asked (name.Report node silent) = false
is_asked (name.Down processor) = false

abbrev pub is_again : Bool → Option MessageName → Bool
is_again again None = false
is_again again (Some message) = again && is_asked message

abbrev pub sends_named : Queued → ℕ → Option MessageName → Finding
sends_named queued last message = finding.Sends queued.from queued.to last message (is_again queued.again message)

abbrev pub sends : Site → Queued → ℕ → List ℤ → Finding
sends site queued last words = sends_named queued last (message_named site words)

-- the same of a message, unless it is one of so many that waited before
abbrev pub sends_unless : Site → Queued → ℕ → ℕ → List ℤ → List Finding
sends_unless site queued waited last words = if waited == 0 then sends site queued last words ∷ [] else []

-- the messages that are sent among those that wait behind a piece of this number, of which so many waited before
abbrev pub sends_behind : Site → Queued → ℕ → ℕ → List (List ℤ) → List Finding
sends_behind site queued number waited [] = []
sends_behind site queued number waited (words ∷ rest) =
    sends_unless site queued waited (last_behind number words) words
    ++ sends_behind site queued (last_behind number words) (waited - 1) rest

-- the messages that are sent over an end at which so many waited before
abbrev pub sends_over : Site → Queued → Option End → List Finding
sends_over site queued None = []
sends_over site queued (Some e) =
    sends_behind site queued (before_first e.sending) queued.count e.sending.queue

abbrev pub sends_of : Packeted → Queued → List Finding
sends_of next queued = sends_over next.site queued (end_at next.wires.nodes queued.from queued.to)

-- all that was sent since so many messages waited
abbrev pub sends_since : Packeted → List Queued → List Finding
sends_since next queued = flat_map (sends_of next) queued
