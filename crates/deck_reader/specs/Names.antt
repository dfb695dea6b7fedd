-- The first line of a deck that names what isn't there, or whose program opens its own pair. Names are looked up only
-- where no line has another fault; a name may be used before its line.
use Rattle.std.specs.Prelude.{◌≡◌, ℕ, Bool, true, false, not, nat_lt, List, [], ◌∷◌, Option, Some, None, is_some}
use Rattle.std.specs.Prelude.{if◌then◌else◌}
use Rattle.std.specs.List.{list_all}
use Rattle.std.specs.Str.{bytes_eq}
use Rattle.name_table.specs.Entries.{Named, place_of}
use Rattle.tal_tree.specs.declared.program.FileUse.{FileUse}
use Rattle.tal_tree.specs.declared.program.Target.{Target}
use Rattle.tal_tree.specs.declared.program.Target.TheVariants as target
use Rattle.tal_tree.specs.declared.site.Kind.{Kind}
use Rattle.tal_tree.specs.declared.site.Kind.TheVariants as kind
use Rattle.tal_tree.specs.declared.site.ProcessSpec.{ProcessSpec}
use Rattle.deck_reader.specs.declared.names.NameFault.{NameFault}
use Rattle.deck_reader.specs.declared.outline.Body.{Body}
use Rattle.deck_reader.specs.declared.outline.Body.TheVariants as body
use Rattle.deck_reader.specs.declared.outline.Outline.{Outline}
use Rattle.deck_reader.specs.declared.outline.ProcessLines.{ProcessLines}
use Rattle.deck_reader.specs.declared.outline.TerminalLines.{TerminalLines}

-- a process has this name
abbrev pub is_process : List (Named ProcessLines) → List ℕ → Bool
is_process processes name = is_some (place_of processes name)

-- a file is opened to `$RECEIVE`, or to a process that is there
abbrev pub is_known : List (Named ProcessLines) → Target → Bool
is_known processes target.Receive = true
is_known processes (target.Process name) = is_process processes name

-- a file isn't opened to the process of this name
abbrev pub is_other : List ℕ → Target → Bool
is_other own target.Receive = true
is_other own (target.Process name) = not (bytes_eq name own)

-- the pair on this line, of this name: it opens files to processes that are there, and to none that is itself
abbrev pub files_misnamed : List (Named ProcessLines) → ℕ → List ℕ → List FileUse → Option NameFault
files_misnamed processes line own files =
    if not (list_all (λ (file : FileUse). is_known processes file.target) files) then Some
    (record { line = line; own = false })
    else if not (list_all (λ (file : FileUse). is_other own file.target) files) then Some
    (record { line = line; own = true })
    else None

-- a pair with its program; a disc names nothing
abbrev pub kind_misnamed : List (Named ProcessLines) → List ℕ → ℕ → Kind → Option NameFault
kind_misnamed processes own line (kind.Disc sectors mirrored) = None
kind_misnamed processes own line (kind.Pair program) = files_misnamed processes line own program.files

abbrev pub process_misnamed : List (Named ProcessLines) → List ℕ → Body → Kind → Option NameFault
process_misnamed processes own (body.Disc sectors mirrored) what = None
process_misnamed processes own (body.Pair lines) what = kind_misnamed processes own lines.line what

-- the first of two, where it is there
abbrev pub first_of : Option NameFault → Option NameFault → Option NameFault
first_of None later = later
first_of (Some first) later = Some first

-- the first pair of some lines with their processes, among all these
abbrev pub pairs_misnamed : List (Named ProcessLines) → List (Named ProcessLines) → List ProcessSpec → Option NameFault
pairs_misnamed all [] processes = None
pairs_misnamed all (lines ∷ rest) [] = None
pairs_misnamed all (lines ∷ rest) (process ∷ processes) =
    first_of (process_misnamed all lines.0 lines.1.body process.what) (pairs_misnamed all rest processes)

-- the first terminal whose target is no process
abbrev pub targets_misnamed : List (Named ProcessLines) → List (Named TerminalLines) → Option NameFault
targets_misnamed processes [] = None
targets_misnamed processes (terminal ∷ rest) =
    if is_process processes terminal.1.target then targets_misnamed processes rest else Some
    (record { line = terminal.1.line; own = false })

-- this is the line of a terminal of these lines, whose target is no process
pub record IsMisnamedTarget (processes : List (Named ProcessLines)) (terminal : TerminalLines) (misnamed : NameFault) :
    Type 0 where
  pub unknown : place_of processes terminal.target ≡ None
  pub same : misnamed ≡ record { line = terminal.line; own = false }

-- the first event line that names no process to run, no terminal to enter at, or no mirrored disc
abbrev pub event_misnamed : Option ℕ → Option NameFault
event_misnamed None = None
event_misnamed (Some line) = Some (record { line = line; own = false })

-- the one on the earlier line
abbrev pub earlier_than : NameFault → Option NameFault → NameFault
earlier_than one None = one
earlier_than one (Some other) = if nat_lt other.line one.line then other else one

abbrev pub earlier : Option NameFault → Option NameFault → Option NameFault
earlier None other = other
earlier (Some one) other = Some (earlier_than one other)

-- the first line of all
abbrev pub misnamed_in : Outline → List ProcessSpec → Option NameFault
misnamed_in outline processes =
    earlier (earlier (pairs_misnamed outline.processes outline.processes processes)
    (targets_misnamed outline.processes outline.terminals))
    (event_misnamed outline.events.unknown)
