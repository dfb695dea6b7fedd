-- The lines of a report, one after the other. Our own rule.
use Rattle.std.specs.Prelude.{◌≡◌, ℕ, ◌+◌, ◌==◌, List, [], ◌∷◌, length, Option, Some, None, Result, Ok, Err}
use Rattle.std.specs.Prelude.{if◌then◌else◌}
use Rattle.tal_tree.specs.declared.act.Act.{Act}
use Rattle.tal_tree.specs.declared.site.Site.{Site}
use Rattle.trace_print.specs.declared.closing.End.{End}
use Rattle.report_reader.specs.Parts.{parts_of}
use Rattle.report_reader.specs.Telling.{next_told}
use Rattle.report_reader.specs.declared.reading.Reading.{Reading}
use Rattle.report_reader.specs.declared.reading.ReportFault.{ReportFault}
use Rattle.report_reader.specs.declared.reading.ReportFault.TheVariants as fault
use Rattle.report_reader.specs.declared.told.Told.{Told}
use Rattle.report_reader.specs.declared.told.Told.TheVariants as told

-- the end that the last line told, if nothing follows it
abbrev pub ended_by : Option Told → List ℕ → Option End
ended_by (Some (told.End end)) rest = if length rest == 0 then Some end else None
ended_by _ rest = None

-- what is told at the end of a report, or the number of the line that isn't there
abbrev pub closed : ℕ → Option End → Result Reading ℕ
closed number None = Err number
closed number (Some end) = Ok (record { told = []; end = end })

-- what a line and those after it tell
abbrev pub told_first : Told → Result Reading ℕ → Result Reading ℕ
told_first first (Err number) = Err number
told_first first (Ok reading) = Ok (record reading { told = first ∷ reading.told })

-- what the line of this number tells, with those after it
abbrev pub read_on : ℕ → (Told → Result Reading ℕ) → Option Told → Result Reading ℕ
read_on number rest None = Err number
read_on number rest (Some next) = told_first next (rest next)

-- what lines tell, from one of this number on, and behind one that told this; what follows the last line feed is no
-- line. Or the number of the first that can't stand where it does, or of the one that is missing
abbrev pub read_lines : Site → Option Told → ℕ → List ℕ → List (List ℕ) → Result Reading ℕ
read_lines site before number left [] = closed number (ended_by before left)
read_lines site before number line (next ∷ lines) =
    read_on number (λ (one : Told). read_lines site (Some one) (number + 1) next lines) (next_told site before line)

-- the lines of a report, each of which ends with a line feed
abbrev pub read_report : Site → List ℕ → Result Reading ℕ
read_report site report = read_lines site None 1 (parts_of 10 report).first (parts_of 10 report).others

-- a line of this number can't stand where it does, or memory ran out
abbrev pub IsFaultOf : Site → List ℕ → ReportFault → Type 0
IsFaultOf site report (fault.Formless number) = read_report site report ≡ Err number
IsFaultOf site report (fault.NoMemory memory) = Unit {0}

-- the acts that lines tell, in order
abbrev pub acts_in : List Told → List Act
acts_in [] = []
acts_in (told.Act act ∷ lines) = act ∷ acts_in lines
acts_in (_ ∷ lines) = acts_in lines

-- the processors that they tell
abbrev pub stops_in : List Told → List ℕ
stops_in [] = []
stops_in (told.Stop processor ∷ lines) = processor ∷ stops_in lines
stops_in (_ ∷ lines) = stops_in lines
