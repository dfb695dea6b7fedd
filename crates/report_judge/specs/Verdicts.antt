-- How a report is judged: it is one of the site, or it is rejected at a line for the first cause that holds. Our own
-- rule.
use Rattle.std.specs.Prelude.{◌≡◌, ℕ, ◌+◌, List, [], ◌∷◌, ◌++◌, length, Result, Ok, Err}
use Rattle.plain_semantics.specs.Machine.{IsNoneLeft, IsPossible, shown_by}
use Rattle.shown_sectors.specs.Sectors.{sectors_after}
use Rattle.tal_tree.specs.declared.act.Act.{Act}
use Rattle.tal_tree.specs.declared.site.Site.{Site}
use Rattle.report_reader.specs.trace_print.specs.ReportText.{report_text}
use Rattle.report_reader.specs.trace_print.specs.declared.closing.End.TheVariants.{Idle}
use Rattle.report_reader.specs.Reading.{acts_in, read_report, stops_in}
use Rattle.report_reader.specs.declared.reading.Reading.{Reading}
use Rattle.report_reader.specs.declared.told.Told.{Told}
use Rattle.report_reader.specs.declared.told.Told.TheVariants as told
use Rattle.report_judge.specs.Lines.{IsFirstDifference, lines_of}
use Rattle.report_judge.specs.Reported.{IsReported}
use Rattle.report_judge.specs.declared.judge.VerifyFault.{VerifyFault}
use Rattle.report_judge.specs.declared.judge.VerifyFault.TheVariants as refusal
use Rattle.report_judge.specs.declared.judge.Why.{Why}
use Rattle.report_judge.specs.declared.judge.Why.TheVariants as why

-- the line of this number tells an act that isn't possible after those before it, which are
pub record IsFirstImpossible (site : Site) (lines : List Told) (number : ℕ) : Type 0 where
  pub front : List Told
  pub act : Act
  pub back : List Told
  pub is : lines ≡ front ++ told.Act act ∷ back
  pub possible : IsPossible site (acts_in front)
  pub impossible : IsPossible site (acts_in front ++ act ∷ []) → ⊥
  pub counted : number ≡ length front + 1

-- the report that the acts have, with the processors and the end that the lines tell
abbrev pub text_of_acts : Site → Reading → List ℕ
text_of_acts site reading =
    let shown = shown_by site (acts_in reading.told) in
    report_text site shown (sectors_after site shown) (stops_in reading.told) (acts_in reading.told) reading.end

-- the acts are possible, and the line of this number is the first that isn't that of their report
pub record DiffersAt (site : Site) (report : List ℕ) (reading : Reading) (number : ℕ) : Type 0 where
  pub possible : IsPossible site (acts_in reading.told)
  pub first : IsFirstDifference (lines_of report) (lines_of (text_of_acts site reading)) number

-- the report is that of the acts and ends idle, which the line of this number tells, the last, and an act is left
pub record IsNotIdleAt (site : Site) (report : List ℕ) (reading : Reading) (number : ℕ) : Type 0 where
  pub possible : IsPossible site (acts_in reading.told)
  pub text : report ≡ text_of_acts site reading
  pub idle : reading.end ≡ Idle
  pub left : IsNoneLeft site (acts_in reading.told) → ⊥
  pub last : number ≡ length reading.told

-- why a report is rejected each line of which has its form
abbrev pub IsRejectedOn : Site → List ℕ → Reading → ℕ → Why → Type 0
IsRejectedOn site report reading number why.Form = ⊥
IsRejectedOn site report reading number why.Act = IsFirstImpossible site reading.told number
IsRejectedOn site report reading number why.Differs = DiffersAt site report reading number
IsRejectedOn site report reading number why.NotIdle = IsNotIdleAt site report reading number

-- how a report is judged whose lines tell this: it is one of the site with so many acts, or why it is rejected
abbrev pub IsVerdictOn : Site → List ℕ → Reading → Result ℕ VerifyFault → Type 0
IsVerdictOn site report reading (Ok count) =
    IsReported site report (acts_in reading.told) (stops_in reading.told) reading.end
    × (length (acts_in reading.told) ≡ count)
IsVerdictOn site report reading (Err (refusal.Rejected number cause)) = IsRejectedOn site report reading number cause
IsVerdictOn site report reading (Err (refusal.NoMemory memory)) = Unit {0}

-- a line has no form where it stands, or the report is judged by what its lines tell
abbrev pub IsVerdict : Site → List ℕ → Result ℕ VerifyFault → Type 0
IsVerdict site report (Err (refusal.Rejected number why.Form)) = read_report site report ≡ Err number
IsVerdict site report (Err (refusal.NoMemory memory)) = Unit {0}
IsVerdict site report verdict =
    (reading : Reading) × (read_report site report ≡ Ok reading) × IsVerdictOn site report reading verdict
