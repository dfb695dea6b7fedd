-- From where packets come: what a node sent a node, and at which event. A piece goes with the first message between its
-- nodes that ends with it or behind it, and an acknowledgement comes from where its piece last came. Our own.
use Rattle.std.specs.Prelude.{ℕ, ◌==◌, ◌&&◌, not, nat_le, Bool, true, false, if◌then◌else◌, List, [], ◌∷◌, flat_map}
use Rattle.std.specs.Prelude.{option_to_list, Option, Some, None}
use Rattle.chart_drawing.specs.declared.ways.Way.{Way}
use Rattle.trace_lines.specs.declared.finding.Fate.{Fate}
use Rattle.trace_lines.specs.declared.finding.Fate.TheVariants as fate
use Rattle.trace_lines.specs.declared.finding.Finding.{Finding}
use Rattle.trace_lines.specs.declared.finding.Finding.TheVariants as finding
use Rattle.trace_lines.specs.declared.finding.PacketSight.{PacketSight}
use Rattle.trace_lines.specs.declared.finding.PacketSort.{PacketSort}
use Rattle.trace_lines.specs.declared.finding.PacketSort.TheVariants as sort

-- Where ways begin

abbrev pub message_by : ℕ → ℕ → ℕ → ℕ → Way
message_by event sender receiver last =
    record { sender = sender; receiver = receiver; acknowledges = false; number = last; event = event }

abbrev pub acknowledging : ℕ → PacketSight → ℕ → Way
acknowledging event packet number = record {
  sender = packet.receiver;
  receiver = packet.sender;
  acknowledges = true;
  number = number;
  event = event;
}

abbrev pub acknowledgement_of : ℕ → PacketSight → PacketSort → Option Way
acknowledgement_of event packet (sort.Piece number) = Some (acknowledging event packet number)
acknowledgement_of event packet (sort.LastPiece number) = Some (acknowledging event packet number)
acknowledgement_of event packet (sort.Acknowledgement number) = None
acknowledgement_of event packet sort.Alive = None

-- a piece that comes is acknowledged
abbrev pub answer_by : ℕ → PacketSight → Fate → Option Way
answer_by event packet fate.Came = acknowledgement_of event packet packet.sort
answer_by event packet fate.CameAgain = acknowledgement_of event packet packet.sort
answer_by event packet fate.Dropped = None
answer_by event packet fate.Refused = None
answer_by event packet fate.Old = None
answer_by event packet fate.Lost = None
answer_by event packet fate.Repeated = None

-- the way that begins with what an event did, if one does
abbrev pub way_by : ℕ → Finding → Option Way
way_by event (finding.Sends sender receiver last message again) = Some (message_by event sender receiver last)
way_by event (finding.Packet packet fate message) = answer_by event packet fate
way_by event finding.Skipped = None
way_by event (finding.StandsStill point) = None
way_by event (finding.WouldStopSecond processor) = None
way_by event (finding.WouldLoseDisc process) = None
way_by event (finding.Makes process statement) = None
way_by event (finding.Sets process item place value) = None
way_by event (finding.DiscGoesOn point) = None
way_by event (finding.SendsCheckpoint number) = None
way_by event finding.PassesCheckpoint = None
way_by event (finding.SendsEverything number) = None
way_by event finding.EndsSending = None
way_by event (finding.AppliesCheckpoint process processor number) = None
way_by event (finding.Waits process processor number) = None
way_by event (finding.TakesOver process processor era statement) = None
way_by event (finding.Stops processor) = None
way_by event (finding.Reloads processor) = None
way_by event (finding.Marks node processor) = None
way_by event (finding.Misses node processor) = None
way_by event (finding.FindsSilent node processor) = None
way_by event (finding.Reports node silent) = None
way_by event (finding.PullsLine node processor) = None
way_by event (finding.IgnoresCheckpoint process processor number why) = None
way_by event (finding.HearsTaken process processor number) = None
way_by event (finding.Keeps act) = None
way_by event (finding.HoldsBack act) = None
way_by event (finding.Enters number) = None
way_by event (finding.Drive state) = None

abbrev pub way_or_none : Option Way → List Way
way_or_none way = option_to_list way

-- the ways that begin with an event
abbrev pub ways_by : ℕ → List Finding → List Way
ways_by event findings = flat_map (λ finding. way_or_none (way_by event finding)) findings

-- Which way a packet goes

abbrev pub goes_with : PacketSort → Way → Bool
goes_with (sort.Piece number) way = not way.acknowledges && nat_le number way.number
goes_with (sort.LastPiece number) way = not way.acknowledges && nat_le number way.number
goes_with (sort.Acknowledgement number) way = way.acknowledges && (number == way.number)
goes_with sort.Alive way = false

abbrev pub goes_by : PacketSight → Way → Bool
goes_by packet way = (packet.sender == way.sender) && (packet.receiver == way.receiver) && goes_with packet.sort way

-- the event of the first way that a packet goes by
abbrev pub first_begun : PacketSight → List Way → Option ℕ
first_begun packet [] = None
first_begun packet (way ∷ ways) = if goes_by packet way then Some way.event else first_begun packet ways

-- the event of the last one, or this where it goes by none
abbrev pub last_begun : PacketSight → Option ℕ → List Way → Option ℕ
last_begun packet none [] = none
last_begun packet none (way ∷ ways) = last_begun packet (if goes_by packet way then Some way.event else none) ways

-- the event at which a packet was sent, if that was told
abbrev pub begun_by : PacketSort → PacketSight → List Way → Option ℕ
begun_by (sort.Piece number) packet ways = first_begun packet ways
begun_by (sort.LastPiece number) packet ways = first_begun packet ways
begun_by (sort.Acknowledgement number) packet ways = last_begun packet None ways
begun_by sort.Alive packet ways = None

abbrev pub begun_at : PacketSight → List Way → Option ℕ
begun_at packet ways = begun_by packet.sort packet ways
