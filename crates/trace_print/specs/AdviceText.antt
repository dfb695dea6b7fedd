-- The texts of advice.
use Rattle.std.specs.Prelude.{ℕ, ◌+◌, List, [], ◌∷◌, ◌++◌, flat_map, slice_get, codes, Option, Some, None}
use Rattle.std.specs.Fmt.{decimal}
use Rattle.std.specs.Option.{option_map, unwrap_or}
use Rattle.tal_tree.specs.declared.program.FileUse.{FileUse}
use Rattle.tal_tree.specs.declared.program.Program.{Program}
use Rattle.tal_tree.specs.declared.program.Target.{Target}
use Rattle.tal_tree.specs.declared.program.Target.TheVariants as target
use Rattle.tal_tree.specs.declared.site.Kind.{Kind}
use Rattle.tal_tree.specs.declared.site.Kind.TheVariants as kind
use Rattle.tal_tree.specs.declared.site.Site.{Site}
use Rattle.site_advice.specs.advice.specs.declared.answer.Advised.{Advised}
use Rattle.site_advice.specs.declared.pairs.PairAdvice.{PairAdvice}
use Rattle.trace_print.specs.ActLine.{variable_name}
use Rattle.trace_print.specs.EndLine.{end_line}
use Rattle.trace_print.specs.ShownLine.{process_name}
use Rattle.trace_print.specs.VerdictText.{global_name}
use Rattle.trace_print.specs.declared.closing.End.TheVariants as end

-- `ADVICE NAME` of a pair
abbrev pub advice_line : Site → ℕ → List ℕ
advice_line site process = codes "ADVICE " ++ process_name site process ++ 10 ∷ []

-- the names of globals, and those of the variables of files, each after a space
abbrev pub globals_text : Site → ℕ → List ℕ → List ℕ
globals_text site process items = flat_map (λ item. 32 ∷ global_name site process item) items

abbrev pub files_text : Site → ℕ → List ℕ → List ℕ
files_text site process files = flat_map (λ file. 32 ∷ variable_name site process file) files

-- `C STATEMENT LINE` of a CHECKPOINT, and behind it what it has to name
abbrev pub place_text : Advised → List ℕ
place_text one = codes "C " ++ decimal one.statement ++ codes " " ++ decimal one.line

abbrev pub list_line : Site → ℕ → Advised → List ℕ
list_line site process one =
    place_text one ++ globals_text site process one.items ++ files_text site process one.files ++ 10 ∷ []

abbrev pub list_lines : Site → ℕ → List Advised → List ℕ
list_lines site process lists = flat_map (list_line site process) lists

-- `O FILE DEPTH` of a file that is opened to a process; `$RECEIVE` has no line
abbrev pub opened_line : List ℕ → Target → ℕ → List ℕ
opened_line name target.Receive depth = []
opened_line name (target.Process opened) depth = codes "O " ++ name ++ codes " " ++ decimal depth ++ 10 ∷ []

abbrev pub item_name : Program → ℕ → List ℕ
item_name program item = unwrap_or (option_map (λ found. found.name) (slice_get program.items item)) []

abbrev pub file_line : Program → Option FileUse → ℕ → List ℕ
file_line program None depth = []
file_line program (Some used) depth = opened_line (item_name program used.item) used.target depth

abbrev pub depth_in : Kind → ℕ → ℕ → List ℕ
depth_in (kind.Disc sectors mirrored) file depth = []
depth_in (kind.Pair program) file depth = file_line program (slice_get program.files file) depth

abbrev pub depth_line : Site → ℕ → ℕ → ℕ → List ℕ
depth_line site process file depth =
    unwrap_or (option_map (λ spec. depth_in spec.what file depth) (slice_get site.processes process)) []

-- those of depths, in the order of the OPENs, of which the first is that of this file
abbrev pub depth_lines : Site → ℕ → ℕ → List ℕ → List ℕ
depth_lines site process file [] = []
depth_lines site process file (depth ∷ rest) =
    depth_line site process file depth ++ depth_lines site process (file + 1) rest

-- the advice for a pair
abbrev pub pair_text : Site → PairAdvice → List ℕ
pair_text site pair =
    advice_line site pair.process ++ list_lines site pair.process pair.advice.lists
    ++ depth_lines site pair.process 0 pair.advice.depths

abbrev pub pair_texts : Site → List PairAdvice → List ℕ
pair_texts site pairs = flat_map (pair_text site) pairs

-- the advice for the pairs of a site, and the end
abbrev pub advised_text : Site → List PairAdvice → List ℕ
advised_text site pairs = pair_texts site pairs ++ end_line end.Advised
