-- The text of a path that breaks: its statements as lines of the deck. Our own.
use Rattle.std.specs.Prelude.{ℕ, ◌+◌, ◌-◌, ◌==◌, nat_le, nat_lt, if◌then◌else◌, List, [], ◌∷◌, ◌++◌, codes}
use Rattle.std.specs.Prelude.{length, take, drop}
use Rattle.std.specs.Fmt.{decimal}
use Rattle.path_semantics.specs.declared.reason.Reason.{Reason}
use Rattle.path_semantics.specs.declared.reason.Reason.TheVariants.{Data, SyncBlock, Input, Depth}
use Rattle.statement_lines.specs.Lines.{line_among}
use Rattle.tal_tree.specs.declared.program.Program.{Program}
use Rattle.pair_findings.specs.Notes.{has_note}
use Rattle.pair_findings.specs.declared.finding.PairFinding.{PairFinding}
use Rattle.finding_text.specs.DeckPlace.{source_text}
use Rattle.finding_text.specs.Names.{file_name, item_name}
use Rattle.finding_text.specs.declared.steps.Way.{Way}

-- a number of up to seven digits ends in the same column
abbrev pub padding : ℕ → List ℕ
padding number =
    if nat_lt number 10 then codes "      " else if nat_lt number 100 then codes "     "
    else if nat_lt number 1000 then codes "    " else if nat_lt number 10000 then codes "   "
    else if nat_lt number 100000 then codes "  " else codes " "

abbrev pub place_text : ℕ → List ℕ
place_text line = padding line ++ decimal line ++ codes "  "

-- what a statement made due
abbrev pub due_note : Program → Reason → List ℕ
due_note program (Data item) = codes "   <- sets " ++ item_name program item
due_note program (SyncBlock file) = codes "   <- asks " ++ file_name program file
due_note program Input = codes "   <- reads a request"
due_note program (Depth file) = codes "   <- asks " ++ file_name program file

abbrev pub unnamed_note : List ℕ → List ℕ
unnamed_note name = codes "   <- doesn't name " ++ name

abbrev pub uncovered_note : List ℕ
uncovered_note = codes "   <- comes with no CHECKPOINT before it"

abbrev pub one_too_many_note : List ℕ → List ℕ
one_too_many_note name = codes "   <- is one too many for " ++ name

-- how the last statement breaks
abbrev pub last_note : Program → Reason → List ℕ
last_note program (Data item) = unnamed_note (item_name program item)
last_note program (SyncBlock file) = unnamed_note (file_name program file)
last_note program Input = uncovered_note
last_note program (Depth file) = one_too_many_note (file_name program file)

abbrev pub note_text : Program → PairFinding → Way → ℕ → ℕ → List ℕ
note_text program finding way place number =
    if place + 1 == way.count then last_note program way.reason
    else if has_note finding.deeds finding.since place number then due_note program way.reason
    else []

-- the statement of this number at a place of the path
abbrev pub step_text : List ℕ → Program → PairFinding → Way → ℕ → ℕ → List ℕ
step_text bytes program finding way place number =
    place_text (way.start + line_among finding.lines number)
    ++ source_text bytes (way.start + line_among finding.lines number)
    ++ note_text program finding way place number ++ 10 ∷ []

-- statements, of which the first stands at this place
abbrev pub steps_text : List ℕ → Program → PairFinding → Way → ℕ → List ℕ → List ℕ
steps_text bytes program finding way place [] = []
steps_text bytes program finding way place (number ∷ rest) =
    step_text bytes program finding way place number ++ steps_text bytes program finding way (place + 1) rest

abbrev pub gap_text : ℕ → List ℕ
gap_text count = codes "     ..  " ++ decimal count ++ codes " statements are left out" ++ 10 ∷ []

-- a path of more than 60 statements is cut: 30 of each end are shown
abbrev pub path_text : List ℕ → Program → PairFinding → Way → List ℕ → List ℕ
path_text bytes program finding way path =
    if nat_le (length path) 60 then steps_text bytes program finding way 0 path
    else steps_text bytes program finding way 0 (take 30 path) ++ gap_text (length path - 60)
    ++ steps_text bytes program finding way (length path - 30) (drop (length path - 30) path)
