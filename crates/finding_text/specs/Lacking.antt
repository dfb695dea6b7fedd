-- What a refused program lacks, as text. Our own wording.
use Rattle.std.specs.Prelude.{ℕ, ◌+◌, ◌-◌, nat_le, if◌then◌else◌, List, [], ◌∷◌, ◌++◌, codes, flat_map, length}
use Rattle.std.specs.Prelude.{slice_get, Option, Some, None}
use Rattle.std.specs.Fmt.{decimal}
use Rattle.pair_findings.specs.advice.specs.declared.answer.Advice.{Advice}
use Rattle.pair_findings.specs.advice.specs.declared.answer.Advised.{Advised}
use Rattle.pair_findings.specs.advice.specs.reason_dues.specs.Amounts.{depth_in}
use Rattle.path_semantics.specs.declared.reason.Reason.{Reason}
use Rattle.path_semantics.specs.declared.reason.Reason.TheVariants.{Data, SyncBlock, Input, Depth}
use Rattle.pair_findings.specs.statement_dues.specs.declared.checkpoints.NamedCheckpoint.{NamedCheckpoint}
use Rattle.statement_lines.specs.Lines.{line_among}
use Rattle.tal_tree.specs.declared.program.Program.{Program}
use Rattle.pair_findings.specs.declared.finding.PairFinding.{PairFinding}
use Rattle.pair_findings.specs.declared.finding.Remedy.{Remedy}
use Rattle.pair_findings.specs.declared.finding.Remedy.TheVariants.{Lists, Unmendable, OutOfBounds}
use Rattle.finding_text.specs.Lists.{all_listed, lacking}
use Rattle.finding_text.specs.Names.{file_name, listed_name}
use Rattle.finding_text.specs.declared.lists.Listed.{Listed}

abbrev pub others_text : Program → List Listed → List ℕ
others_text program others = flat_map (λ listed. codes ", " ++ listed_name program listed) others

-- names, with commas between them
abbrev pub names_text : Program → List Listed → List ℕ
names_text program [] = []
names_text program (listed ∷ others) = listed_name program listed ++ others_text program others

abbrev pub lacking_line : Program → ℕ → List Listed → List ℕ
lacking_line program line lacking =
    codes "lacking: line " ++ decimal line ++ codes " has to name " ++ names_text program lacking
    ++ (codes ":" ++ 10 ∷ [])

abbrev pub call_line : Program → List Listed → List ℕ
call_line program all = codes "         CALL CHECKPOINT(" ++ names_text program all ++ (codes ");" ++ 10 ∷ [])

-- what a CHECKPOINT on a line lacks, and all that it has to name
abbrev pub whole_text : Program → ℕ → List Listed → List Listed → List ℕ
whole_text program line all lacking = lacking_line program line lacking ++ call_line program all

-- nothing, where it lacks nothing
abbrev pub listed_text : Program → ℕ → List Listed → List Listed → List ℕ
listed_text program line all [] = []
listed_text program line all (one ∷ more) = whole_text program line all (one ∷ more)

abbrev pub lack_text : ℕ → Program → NamedCheckpoint → List Advised → List ℕ
lack_text start program named advised =
    listed_text program (start + named.line) (all_listed named ++ lacking named advised) (lacking named advised)

abbrev pub lacks_text : ℕ → Program → List NamedCheckpoint → List Advised → List ℕ
lacks_text start program checkpoints advised = flat_map (λ named. lack_text start program named advised) checkpoints

abbrev pub kept_text : Program → ℕ → ℕ → List ℕ
kept_text program file depth =
    codes "lacking: the OPEN of " ++ file_name program file ++ codes " has to keep " ++ decimal depth
    ++ (codes " replies" ++ 10 ∷ [])

-- a file whose OPEN keeps fewer replies than this
abbrev pub depth_text : Program → ℕ → ℕ → List ℕ
depth_text program file depth =
    if nat_le depth (depth_in (slice_get program.files file)) then [] else kept_text program file depth

-- the files whose OPENs keep too few, of which the first has this number
abbrev pub depths_text : Program → ℕ → List ℕ → List ℕ
depths_text program file [] = []
depths_text program file (depth ∷ rest) = depth_text program file depth ++ depths_text program (file + 1) rest

abbrev pub lists_text : ℕ → Program → PairFinding → Advice → List ℕ
lists_text start program finding advice =
    lacks_text start program finding.checkpoints advice.lists ++ depths_text program 0 advice.depths

abbrev pub line_under : List ℕ → Option ℕ → ℕ
line_under lines None = 0
line_under lines (Some number) = line_among lines number

-- the line of a path's last statement
abbrev pub last_line : List ℕ → List ℕ → ℕ
last_line lines path = line_under lines (slice_get path (length path - 1))

abbrev pub deepest_text : Program → ℕ → List ℕ
deepest_text program file =
    codes ", since an OPEN keeps 4 replies at most, and " ++ file_name program file
    ++ (codes " is asked a fifth time there" ++ 10 ∷ [])

abbrev pub behind_text : List ℕ
behind_text = codes ", behind the READUPDATE" ++ 10 ∷ []

abbrev pub unmended_text : Program → Reason → List ℕ
unmended_text program (Depth file) = deepest_text program file
unmended_text program (Data item) = behind_text
unmended_text program (SyncBlock file) = behind_text
unmended_text program Input = behind_text

abbrev pub unmendable_text : Program → Reason → ℕ → List ℕ
unmendable_text program reason line =
    codes "lacking: no names mend it; a CHECKPOINT has to stand before line " ++ decimal line
    ++ unmended_text program reason

-- what a program lacks that begins behind this line
abbrev pub remedy_of : ℕ → Program → PairFinding → Remedy → List ℕ
remedy_of start program finding (Lists advice) = lists_text start program finding advice
remedy_of start program finding (Unmendable reason path) =
    unmendable_text program reason (start + last_line finding.lines path)
remedy_of start program finding OutOfBounds = []

abbrev pub remedy_text : ℕ → Program → PairFinding → List ℕ
remedy_text start program finding = remedy_of start program finding finding.remedy
