-- Messages between nodes, by their names: which packet is a piece of which, and which a node sends. Our own wording.
use Rattle.std.specs.Prelude.{ℕ, not, Bool, true, false, if◌then◌else◌, List, [], ◌++◌, codes, flat_map, Option, Some}
use Rattle.std.specs.Prelude.{None}
use Rattle.std.specs.List.{list_all}
use Rattle.alive_regroup.specs.Sets.{has}
use Rattle.alive_regroup.specs.Watching.{places}
use Rattle.alive_regroup.specs.declared.set.ProcessorSet.{ProcessorSet}
use Rattle.tal_tree.specs.declared.site.Site.{Site}
use Rattle.tal_tree.specs.declared.site.Who.{Who}
use Rattle.tal_tree.specs.declared.site.Who.TheVariants as who
use Rattle.trace_lines.specs.Names.{numbered_text, process_name, terminal_name}
use Rattle.trace_lines.specs.PacketFates.{nodes_text, packet_text}
use Rattle.trace_lines.specs.declared.finding.Fate.{Fate}
use Rattle.trace_lines.specs.declared.finding.MessageName.{MessageName}
use Rattle.trace_lines.specs.declared.finding.MessageName.TheVariants as name
use Rattle.trace_lines.specs.declared.finding.PacketSight.{PacketSight}

-- Requests and replies

abbrev pub asker_name : Site → Who → List ℕ
asker_name site (who.File process file) = process_name site process
asker_name site (who.Terminal terminal) = terminal_name site terminal

-- who asks, if that is known
abbrev pub of_asker_text : Site → Option Who → List ℕ
of_asker_text site None = []
of_asker_text site (Some asker) = codes " of " ++ asker_name site asker

abbrev pub asked_text : Site → Option Who → ℕ → List ℕ
asked_text site asker number = numbered_text (codes "request ") number [] ++ of_asker_text site asker

abbrev pub request_text : Site → Option Who → ℕ → ℕ → List ℕ
request_text site asker process number =
    asked_text site asker number ++ codes " to " ++ process_name site process

abbrev pub reply_text : Site → Option Who → ℕ → ℕ → List ℕ
reply_text site asker process number =
    codes "reply of " ++ process_name site process ++ codes " to " ++ asked_text site asker number

-- Checkpoints

abbrev pub checkpoint_text : Site → ℕ → ℕ → List ℕ
checkpoint_text site process number =
    numbered_text (codes "checkpoint ") number (codes " of ") ++ process_name site process

abbrev pub taken_text : Site → ℕ → ℕ → List ℕ
taken_text site process number = codes "that " ++ checkpoint_text site process number ++ codes " was taken"

-- Reports

abbrev pub has_none : ProcessorSet → Bool
has_none silent = list_all not silent.members

abbrev pub member_text : ProcessorSet → ℕ → List ℕ
member_text silent processor = if has silent processor then numbered_text (codes " ") processor [] else []

-- the processors that are silent, by their numbers
abbrev pub silent_text : ProcessorSet → List ℕ
silent_text silent = if has_none silent then codes " none" else flat_map (member_text silent) places

abbrev pub report_text : ℕ → ProcessorSet → List ℕ
report_text node silent = numbered_text (codes "report of node ") node (codes ", silent:") ++ silent_text silent

-- that a node reports so now
abbrev pub reports_text : ℕ → ProcessorSet → List ℕ
reports_text node silent = numbered_text (codes "node ") node (codes " reports, silent:") ++ silent_text silent

-- Messages

abbrev pub message_text : Site → MessageName → List ℕ
message_text site (name.Request asker process number) = request_text site asker process number
message_text site (name.Reply asker process number) = reply_text site asker process number
message_text site (name.Checkpoint process era number) = checkpoint_text site process number
message_text site (name.Taken process era number) = taken_text site process number
message_text site (name.Report node silent) = report_text node silent
message_text site (name.Down processor) = numbered_text (codes "that processor ") processor (codes " is down")

abbrev pub any_message_text : Site → Option MessageName → List ℕ
any_message_text site None = codes "a message"
any_message_text site (Some message) = message_text site message

-- the message of which a packet is a piece, if that is known, behind what became of the packet
abbrev pub behind_text : Site → Option MessageName → List ℕ
behind_text site None = []
behind_text site (Some message) = codes ": " ++ message_text site message

abbrev pub packet_of_text : Site → PacketSight → Fate → Option MessageName → List ℕ
packet_of_text site packet fate message = packet_text packet fate ++ behind_text site message

-- the last piece of a message that is sent, as a packet is told
abbrev pub last_text : ℕ → ℕ → ℕ → List ℕ
last_text last sender receiver = numbered_text (codes ", last piece ") last [] ++ nodes_text sender receiver

abbrev pub again_text : Bool → List ℕ
again_text true = codes " again"
again_text false = []

abbrev pub sends_text : Site → ℕ → ℕ → ℕ → Option MessageName → Bool → List ℕ
sends_text site sender receiver last message again =
    codes "sends " ++ any_message_text site message ++ again_text again ++ last_text last sender receiver
