-- What an event did, in words. Our own wording.
use Rattle.std.specs.Prelude.{ℕ, List, [], ◌++◌, codes, Option, Some, None}
use Rattle.mirror.specs.declared.state.DriveState.{DriveState}
use Rattle.mirror.specs.declared.state.DriveState.TheVariants.{Working, Failed, Reviving}
use Rattle.process_semantics.specs.declared.point.Point.{Point}
use Rattle.process_semantics.specs.declared.point.Point.TheVariants as point
use Rattle.tal_tree.specs.declared.site.Site.{Site}
use Rattle.trace_lines.specs.ActWords.{act_text}
use Rattle.trace_lines.specs.CheckpointWords.{hears_taken_text, ignores_text}
use Rattle.trace_lines.specs.MessageNames.{packet_of_text, reports_text, sends_text}
use Rattle.trace_lines.specs.Names.{numbered_text, pair_text, process_name}
use Rattle.trace_lines.specs.SetWords.{set_text}
use Rattle.trace_lines.specs.Statements.{statement_text}
use Rattle.trace_lines.specs.declared.finding.Finding.{Finding}
use Rattle.trace_lines.specs.declared.finding.Finding.TheVariants as finding
use Rattle.trace_lines.specs.declared.places.Places.{Places}

-- what the process of a disc does that stands here
abbrev pub disc_text : Point → List ℕ
disc_text point.Take = codes "takes a request"
disc_text point.Device = codes "calls its device"
disc_text point.Answer = codes "replies"
disc_text point.Inner = codes "makes a step"
disc_text point.Ask = codes "makes a step"
disc_text point.Await = codes "makes a step"
disc_text point.AtCheckpoint = codes "makes a step"
disc_text point.Ended = codes "makes a step"

-- for what a process waits that stands here
abbrev pub still_text : Point → List ℕ
still_text point.Take = codes "waits for a request"
still_text point.Await = codes "waits for a reply"
still_text point.AtCheckpoint = codes "waits until its checkpoint is acknowledged"
still_text point.Ended = codes "has ended"
still_text point.Inner = codes "stands still"
still_text point.Ask = codes "stands still"
still_text point.Answer = codes "stands still"
still_text point.Device = codes "stands still"

abbrev pub applies_text : List ℕ → ℕ → ℕ → List ℕ
applies_text name processor number = name ++ numbered_text (codes " in processor ") processor []
    ++ numbered_text (codes " puts checkpoint ") number (codes " in")

abbrev pub waits_text : List ℕ → ℕ → ℕ → List ℕ
waits_text name processor number = name ++ numbered_text (codes " in processor ") processor []
    ++ numbered_text (codes " has request ") number (codes " waiting")

abbrev pub takes_over_text : List ℕ → ℕ → ℕ → List ℕ
takes_over_text name processor era =
    name ++ numbered_text (codes " in processor ") processor [] ++ numbered_text (codes " takes over, era ") era []

-- from where a copy goes on that takes over, if that is known
abbrev pub from_text : Places → ℕ → Option ℕ → List ℕ
from_text places process None = []
from_text places process (Some statement) = codes ", from " ++ statement_text places process statement

abbrev pub marks_text : ℕ → ℕ → List ℕ
marks_text node processor =
    numbered_text (codes "node ") node [] ++ numbered_text (codes " marks processor ") processor []

abbrev pub loses_text : List ℕ → List ℕ
loses_text name = codes "the last drive of " ++ name ++ codes " would fail: the run ends here"

-- how a drive stands
abbrev pub drive_text : DriveState → List ℕ
drive_text Working = codes "the drive works"
drive_text Failed = codes "the drive has failed"
drive_text (Reviving next) = numbered_text (codes "the drive is being revived, next sector ") next []

abbrev pub found_text : Site → Places → Finding → List ℕ
found_text site places finding.Skipped = codes "skipped"
found_text site places (finding.StandsStill point) = still_text point
found_text site places (finding.WouldStopSecond processor) =
    numbered_text (codes "processor ") processor
    (codes " would stop while another has, or a process has no backup: the run ends here")
found_text site places (finding.WouldLoseDisc process) = loses_text (process_name site process)
found_text site places (finding.Packet packet fate message) = packet_of_text site packet fate message
found_text site places (finding.Sends sender receiver last message again) =
    sends_text site sender receiver last message again
found_text site places (finding.Makes process statement) = statement_text places process statement
found_text site places (finding.Sets process item place value) = set_text site process item place value
found_text site places (finding.DiscGoesOn point) = disc_text point
found_text site places (finding.SendsCheckpoint number) = codes "comes to its CHECKPOINT"
found_text site places finding.PassesCheckpoint = codes "goes on behind its CHECKPOINT"
found_text site places (finding.SendsEverything number) = codes "sends a checkpoint of all that it has"
found_text site places finding.EndsSending = codes "goes on behind a checkpoint of all that it has"
found_text site places (finding.AppliesCheckpoint process processor number) =
    applies_text (process_name site process) processor number
found_text site places (finding.IgnoresCheckpoint process processor number why) =
    ignores_text (process_name site process) processor number why
found_text site places (finding.HearsTaken process processor number) =
    hears_taken_text (process_name site process) processor number
found_text site places (finding.Waits process processor number) =
    waits_text (process_name site process) processor number
found_text site places (finding.TakesOver process processor era statement) =
    takes_over_text (process_name site process) processor era ++ from_text places process statement
found_text site places (finding.Keeps act) = act_text site (codes "keeps ") act
found_text site places (finding.HoldsBack act) = act_text site (codes "holds back ") act
found_text site places (finding.Stops processor) = numbered_text (codes "processor ") processor (codes " stops")
found_text site places (finding.Reloads processor) =
    numbered_text (codes "processor ") processor (codes " is loaded again")
found_text site places (finding.Marks node processor) = marks_text node processor
found_text site places (finding.Misses node processor) =
    pair_text (codes "node ") node (codes " misses processor ") processor
found_text site places (finding.FindsSilent node processor) =
    pair_text (codes "processor ") processor (codes " is silent to node ") node
found_text site places (finding.Reports node silent) = reports_text node silent
found_text site places (finding.PullsLine node processor) =
    pair_text (codes "node ") node (codes " pulls the hold line of processor ") processor
found_text site places (finding.Enters number) = numbered_text (codes "enters request ") number []
found_text site places (finding.Drive state) = drive_text state

-- one thing that an event did, behind a bar
abbrev pub finding_text : Site → Places → Finding → List ℕ
finding_text site places finding = codes " | " ++ found_text site places finding
