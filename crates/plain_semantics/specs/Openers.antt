-- The openers of processes. Those of one process are, in this order: each file of a program that opens its name, the
-- processes in deck order and their files in the order of the OPENs; then each terminal that names it.
use Rattle.std.specs.Prelude.{ℕ, ◌+◌, ◌==◌, ◌&&◌, Bool, false, if◌then◌else◌, List, [], ◌∷◌, ◌++◌, slice_get, Option}
use Rattle.std.specs.Prelude.{Some, None}
use Rattle.std.specs.Option.{option_map}
use Rattle.std.specs.Str.{bytes_eq}
use Rattle.process_semantics.specs.tal_tree.specs.declared.program.FileUse.{FileUse}
use Rattle.process_semantics.specs.tal_tree.specs.declared.program.Target.{Target}
use Rattle.process_semantics.specs.tal_tree.specs.declared.program.Target.TheVariants as target
use Rattle.process_semantics.specs.tal_tree.specs.declared.site.Site.{Site}
use Rattle.process_semantics.specs.tal_tree.specs.declared.site.ProcessSpec.{ProcessSpec}
use Rattle.process_semantics.specs.tal_tree.specs.declared.site.TerminalSpec.{TerminalSpec}
use Rattle.process_semantics.specs.tal_tree.specs.declared.site.OpenerSpec.{OpenerSpec}
use Rattle.process_semantics.specs.tal_tree.specs.declared.site.Kind.{Kind}
use Rattle.process_semantics.specs.tal_tree.specs.declared.site.Kind.TheVariants as kind
use Rattle.process_semantics.specs.tal_tree.specs.declared.site.Who.{Who}
use Rattle.process_semantics.specs.tal_tree.specs.declared.site.Who.TheVariants as who
use Rattle.plain_semantics.specs.declared.slot.Opener.{Opener}

-- whether two names are one
abbrev pub same_name : List ℕ → List ℕ → Bool
same_name one other = bytes_eq one other

-- whether a file is opened to this name
abbrev pub opens : List ℕ → Target → Bool
opens name target.Receive = false
opens name (target.Process other) = same_name name other

-- a file of a process as an opener of this name, if it is one
abbrev pub file_opener : List ℕ → ℕ → ℕ → FileUse → List OpenerSpec
file_opener name process number file =
    if opens name file.target then record { who = who.File process number; depth = file.depth } ∷ [] else []

-- the openers among the files of a process, from a number of a file on
abbrev pub files_from : List ℕ → ℕ → ℕ → List FileUse → List OpenerSpec
files_from name process number [] = []
files_from name process number (file ∷ files) =
    file_opener name process number file ++ files_from name process (number + 1) files

-- the files of a process: a disc has none
abbrev pub files_of : Kind → List FileUse
files_of (kind.Disc sectors mirrored) = []
files_of (kind.Pair program) = program.files

-- the openers among the files of processes, from a place in the deck on
abbrev pub processes_from : List ℕ → ℕ → List ProcessSpec → List OpenerSpec
processes_from name number [] = []
processes_from name number (process ∷ processes) =
    files_from name number 0 (files_of process.what) ++ processes_from name (number + 1) processes

-- a terminal as an opener of a process, if it is one
abbrev pub terminal_opener : ℕ → ℕ → TerminalSpec → List OpenerSpec
terminal_opener process number terminal =
    if terminal.target == process then record { who = who.Terminal number; depth = 1 } ∷ [] else []

-- the openers among terminals, from a place in the deck on
abbrev pub terminals_from : ℕ → ℕ → List TerminalSpec → List OpenerSpec
terminals_from process number [] = []
terminals_from process number (terminal ∷ terminals) =
    terminal_opener process number terminal ++ terminals_from process (number + 1) terminals

-- the openers of the process of this name
abbrev pub openers_by : Site → ℕ → Option ProcessSpec → List OpenerSpec
openers_by site process None = []
openers_by site process (Some named) =
    processes_from named.name 0 site.processes ++ terminals_from process 0 site.terminals

-- the openers of a process
abbrev pub openers_of : Site → ℕ → List OpenerSpec
openers_of site process = openers_by site process (slice_get site.processes process)

-- whether two openers are one
abbrev pub same_who : Who → Who → Bool
same_who (who.File p f) (who.File q g) = (p == q) && (f == g)
same_who (who.Terminal t) (who.Terminal u) = t == u
same_who _ _ = false

-- the place of an opener among openers, the first from a number on
abbrev pub place_from : Who → ℕ → List OpenerSpec → Option ℕ
place_from one number [] = None
place_from one number (opener ∷ openers) =
    if same_who one opener.who then Some number else place_from one (number + 1) openers

-- the place in the deck of the first process of a name, from a number on
abbrev pub named_from : List ℕ → ℕ → List ProcessSpec → Option ℕ
named_from name number [] = None
named_from name number (process ∷ processes) =
    if same_name name process.name then Some number else named_from name (number + 1) processes

-- the process to which a file is opened
abbrev pub server_of : Site → Target → Option ℕ
server_of site target.Receive = None
server_of site (target.Process name) = named_from name 0 site.processes

-- a file of a process, if both are there
abbrev pub file_of : Option ProcessSpec → ℕ → Option FileUse
file_of None file = None
file_of (Some spec) file = slice_get (files_of spec.what) file

-- the process to which a file is opened, if it is there
abbrev pub server_of_file : Site → Option FileUse → Option ℕ
server_of_file site None = None
server_of_file site (Some file) = server_of site file.target

-- the process that a file of a process or a terminal asks
abbrev pub server_by : Site → Who → Option ℕ
server_by site (who.File process file) = server_of_file site (file_of (slice_get site.processes process) file)
server_by site (who.Terminal terminal) = option_map (λ spec. spec.target) (slice_get site.terminals terminal)

-- an opener at a place of a server, if it has one
abbrev pub opener_at : ℕ → Option ℕ → Option Opener
opener_at server None = None
opener_at server (Some place) = Some (record { server = server; place = place })

-- where an opener stands on its server, if it has one
abbrev pub opener_on : Site → Who → Option ℕ → Option Opener
opener_on site one None = None
opener_on site one (Some server) = opener_at server (place_from one 0 (openers_of site server))

-- where an opener stands: its server, and its place among the server's openers
abbrev pub opener_of : Site → Who → Option Opener
opener_of site one = opener_on site one (server_by site one)
