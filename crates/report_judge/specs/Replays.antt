-- Acts that are made one by one; only the clauses of private functions cite it.
use Rattle.std.specs.Prelude.{◌≡◌, ℕ, Bool, true, false, List, [], ◌++◌, length, Some, None}
use Rattle.plain_semantics.specs.Machine.{IsStill, made, made_all, plain_start}
use Rattle.shown_sectors.specs.Sectors.{sectors_after}
use Rattle.tal_tree.specs.declared.act.Act.{Act}
use Rattle.tal_tree.specs.declared.act.Shown.{Shown}
use Rattle.tal_tree.specs.declared.site.Site.{Site}
use Rattle.report_reader.specs.trace_print.specs.ReportText.{report_text}
use Rattle.report_reader.specs.trace_print.specs.declared.closing.End.{End}
use Rattle.report_reader.specs.trace_print.specs.declared.closing.End.TheVariants.{Idle}
use Rattle.report_reader.specs.Reading.{stops_in}
use Rattle.report_reader.specs.declared.reading.Reading.{Reading}
use Rattle.report_reader.specs.declared.told.Told.{Told}
use Rattle.report_reader.specs.declared.told.Told.TheVariants as told
use Rattle.report_judge.specs.Lines.{IsFirstDifference, lines_of}
use Rattle.report_judge.specs.Verdicts.{IsFirstImpossible}
use Rattle.report_judge.specs.declared.judge.VerifyFault.{VerifyFault}
use Rattle.report_judge.specs.declared.judge.VerifyFault.TheVariants as refusal
use Rattle.report_judge.specs.declared.judge.Why.TheVariants as why
use Rattle.report_judge.specs.declared.replay.Replay.{Replay}

-- the acts come to the machine as it is now, and show what is kept of them
pub record IsReplayOf (site : Site) (acts : List Act) (replay : Replay) : Type 0 where
  pub on_site : replay.plain.site ≡ site
  pub came : made_all site (plain_start site) acts ≡ Some (record { plain = replay.plain.state; shown = replay.shown })

-- no act was made on the machine of this site
abbrev pub IsBegun : Site → Replay → Type 0
IsBegun site replay = IsReplayOf site [] replay

-- an act was made and shows this
pub record IsMadeBy (act : Act) (old new : Replay) : Type 0 where
  pub shown : List Shown
  pub on_site : new.plain.site ≡ old.plain.site
  pub came : made old.plain.site old.plain.state act ≡ Some (record { plain = new.plain.state; shown = shown })
  pub kept : new.shown ≡ old.shown ++ shown

-- an act was made, or it isn't possible
abbrev pub GoesOnBy : Act → Replay → Replay → Bool → Type 0
GoesOnBy act old new true = IsMadeBy act old new
GoesOnBy act old new false = made old.plain.site old.plain.state act ≡ None

-- what a line tells was made, if it is an act
abbrev pub GoesOn : Told → Replay → Replay → Bool → Type 0
GoesOn (told.Act act) old new went = GoesOnBy act old new went
GoesOn _ old new went = (went ≡ true) × (new ≡ old)

-- an act that a line tells isn't possible
abbrev pub IsActRefusal : Site → List Told → VerifyFault → Type 0
IsActRefusal site lines (refusal.Rejected number why.Act) = IsFirstImpossible site lines number
IsActRefusal site lines (refusal.NoMemory memory) = Unit {0}
IsActRefusal site lines _ = ⊥

-- the report of acts with what was kept of them
abbrev pub text_told : Site → Replay → Reading → List Act → List ℕ
text_told site replay reading acts =
    report_text site replay.shown (sectors_after site replay.shown) (stops_in reading.told) acts reading.end

-- the report differs from the text
abbrev pub IsTextRefusal : List ℕ → List ℕ → VerifyFault → Type 0
IsTextRefusal report text (refusal.Rejected number why.Differs) =
    IsFirstDifference (lines_of report) (lines_of text) number
IsTextRefusal report text (refusal.NoMemory memory) = Unit {0}
IsTextRefusal report text _ = ⊥

-- after an idle end no act is possible
abbrev pub IsEndedAs : End → Replay → Type 0
IsEndedAs end replay = end ≡ Idle → IsStill replay.plain.site replay.plain.state

-- an act is left after an idle end
pub record IsLeft (lines : List Told) (end : End) (replay : Replay) (number : ℕ) : Type 0 where
  pub idle : end ≡ Idle
  pub left : IsStill replay.plain.site replay.plain.state → ⊥
  pub last : number ≡ length lines

abbrev pub IsEndRefusal : List Told → End → Replay → VerifyFault → Type 0
IsEndRefusal lines end replay (refusal.Rejected number why.NotIdle) = IsLeft lines end replay number
IsEndRefusal lines end replay _ = ⊥
