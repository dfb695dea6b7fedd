-- The texts of verdicts on programs.
use Rattle.std.specs.Prelude.{ℕ, List, [], ◌∷◌, ◌++◌, flat_map, slice_get, codes}
use Rattle.std.specs.Fmt.{decimal}
use Rattle.std.specs.Option.{option_map, unwrap_or}
use Rattle.site_advice.specs.path_semantics.specs.declared.reason.Reason.{Reason}
use Rattle.site_advice.specs.path_semantics.specs.declared.reason.Reason.TheVariants.{Data, SyncBlock, Input, Depth}
use Rattle.site_advice.specs.path_semantics.specs.declared.reason.RefusalFault.{RefusalFault}
use Rattle.site_advice.specs.path_semantics.specs.declared.reason.RefusalFault.TheVariants.{TooDeep, TooLarge, Broken}
use Rattle.site_advice.specs.path_semantics.specs.declared.reason.RefusalFault.TheVariants.{NoMemory}
use Rattle.statement_lines.specs.Lines.{line_among}
use Rattle.tal_tree.specs.declared.site.Kind.{Kind}
use Rattle.tal_tree.specs.declared.site.Kind.TheVariants as kind
use Rattle.tal_tree.specs.declared.site.ProcessSpec.{ProcessSpec}
use Rattle.tal_tree.specs.declared.site.Site.{Site}
use Rattle.trace_print.specs.ActLine.{variable_name}
use Rattle.trace_print.specs.EndLine.{end_line}
use Rattle.trace_print.specs.ShownLine.{process_name}
use Rattle.trace_print.specs.declared.closing.End.TheVariants as end

-- Accepted

-- `ACCEPTED NAME` of a pair; a disc has no line
abbrev pub accepted_by : List ℕ → Kind → List ℕ
accepted_by name (kind.Disc sectors mirrored) = []
accepted_by name (kind.Pair program) = codes "ACCEPTED " ++ name ++ 10 ∷ []

abbrev pub accepted_line : ProcessSpec → List ℕ
accepted_line spec = accepted_by spec.name spec.what

-- the lines of all pairs, in deck order
abbrev pub accepted_lines : List ProcessSpec → List ℕ
accepted_lines specs = flat_map accepted_line specs

-- where every program is accepted
abbrev pub accepted_text : Site → List ℕ
accepted_text site = accepted_lines site.processes ++ end_line end.Checked

-- Refused

-- the name of a program's global; nothing where it isn't there
abbrev pub global_in : Kind → ℕ → List ℕ
global_in (kind.Disc sectors mirrored) item = []
global_in (kind.Pair program) item = unwrap_or (option_map (λ found. found.name) (slice_get program.items item)) []

abbrev pub global_name : Site → ℕ → ℕ → List ℕ
global_name site process item =
    unwrap_or (option_map (λ spec. global_in spec.what item) (slice_get site.processes process)) []

-- a reason, with the global or the variable of the file that it is about
abbrev pub reason_text : Site → ℕ → Reason → List ℕ
reason_text site process (Data item) = codes "Data " ++ global_name site process item
reason_text site process (SyncBlock file) = codes "SyncBlock " ++ variable_name site process file
reason_text site process Input = codes "Input"
reason_text site process (Depth file) = codes "Depth " ++ variable_name site process file

abbrev pub cause_text : Site → ℕ → RefusalFault → List ℕ
cause_text site process TooDeep = codes "TooDeep"
cause_text site process (TooLarge size) = codes "TooLarge " ++ decimal size
cause_text site process (Broken reason path) = reason_text site process reason
cause_text site process (NoMemory _) = []

-- `REFUSED NAME` and the cause
abbrev pub refused_line : Site → ℕ → RefusalFault → List ℕ
refused_line site process refusal =
    codes "REFUSED " ++ process_name site process ++ codes " " ++ cause_text site process refusal ++ 10 ∷ []

-- `P NUMBER LINE` of a statement of a path, where these are the lines of a program's statements in the order of their
-- numbers, from 1
abbrev pub step_line : List ℕ → ℕ → List ℕ
step_line lines number = codes "P " ++ decimal number ++ codes " " ++ decimal (line_among lines number) ++ 10 ∷ []

abbrev pub step_lines : List ℕ → List ℕ → List ℕ
step_lines lines path = flat_map (step_line lines) path

-- the path of a refusal, if it has one
abbrev pub path_of : RefusalFault → List ℕ
path_of (Broken reason path) = path
path_of TooDeep = []
path_of (TooLarge size) = []
path_of (NoMemory _) = []

-- where a program is refused: the cause, the path that shows it, and the end
abbrev pub refusal_text : Site → ℕ → RefusalFault → List ℕ → List ℕ
refusal_text site process refusal lines =
    refused_line site process refusal ++ step_lines lines (path_of refusal) ++ end_line end.Refused
