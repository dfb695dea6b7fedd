-- The openers of a process of a site that can be started keep 1 to 4 replies each.
use Rattle.std.proofs.Common.{◌≡◌, ℕ, ◌+◌, ◌==◌, Bool, true, false, if◌then◌else◌, List, [], ◌∷◌, Option, Some, None}
use Rattle.std.proofs.Common.{slice_get, subst, arith}
use Rattle.std.specs.List.{All}
use Rattle.std.proofs.lemmas.List.Elements.{All-nil, All-cons, All-head, All-tail, All-append}
use Rattle.std.proofs.lemmas.Option.{get_or_from_slice_get, slice_get_within}
use Rattle.tal_tree.specs.declared.program.FileUse.{FileUse}
use Rattle.tal_tree.specs.declared.site.OpenerSpec.{OpenerSpec}
use Rattle.tal_tree.specs.declared.site.ProcessSpec.{ProcessSpec}
use Rattle.tal_tree.specs.declared.site.Site.{Site}
use Rattle.tal_tree.specs.declared.site.TerminalSpec.{TerminalSpec}
use Rattle.tal_tree.specs.declared.site.Who.TheVariants as who
use Rattle.plain_semantics.specs.Openers.{file_opener, files_from, files_of, opens, openers_by, openers_of}
use Rattle.plain_semantics.specs.Openers.{processes_from, terminal_opener, terminals_from}
use Rattle.node_copies.specs.sync_ids.specs.Tables.{IsDepth}
use Rattle.process_copies.specs.Starting.{HasDepths}

pub all-there : {A : Type 0} (P : A → Type 0) (xs : List A) (k : ℕ) (x : A) → All P xs → slice_get xs k ≡ Some x → P x
all-there P xs k x all e = subst P (get_or_from_slice_get xs k x x e) (all k x (slice_get_within xs k x e))

abbrev IsDeep : OpenerSpec → Type 0
IsDeep opener = IsDepth opener.depth

abbrev IsDeepFile : FileUse → Type 0
IsDeepFile file = IsDepth file.depth

abbrev HasDeepFiles : ProcessSpec → Type 0
HasDeepFiles spec = HasDepths spec.what

one-or-none : (b : Bool) (opener : OpenerSpec) → IsDeep opener → All IsDeep (if b then opener ∷ [] else [])
one-or-none true opener deep = All-cons IsDeep opener [] deep (All-nil IsDeep)
one-or-none false opener deep = All-nil IsDeep

of-files : (name : List ℕ) (process number : ℕ) (files : List FileUse) → All IsDeepFile files
    → All IsDeep (files_from name process number files)
of-files name process number [] all = All-nil IsDeep
of-files name process number (file ∷ files) all =
    All-append IsDeep (file_opener name process number file) (files_from name process (number + 1) files)
    (one-or-none (opens name file.target) (record { who = who.File process number; depth = file.depth })
    (All-head IsDeepFile file files all))
    (of-files name process (number + 1) files (All-tail IsDeepFile file files all))

of-processes : (name : List ℕ) (number : ℕ) (processes : List ProcessSpec) → All HasDeepFiles processes
    → All IsDeep (processes_from name number processes)
of-processes name number [] all = All-nil IsDeep
of-processes name number (process ∷ processes) all =
    All-append IsDeep (files_from name number 0 (files_of process.what)) (processes_from name (number + 1) processes)
    (of-files name number 0 (files_of process.what) (All-head HasDeepFiles process processes all))
    (of-processes name (number + 1) processes (All-tail HasDeepFiles process processes all))

of-terminals : (process number : ℕ) (terminals : List TerminalSpec)
    → All IsDeep (terminals_from process number terminals)
of-terminals process number [] = All-nil IsDeep
of-terminals process number (terminal ∷ terminals) =
    All-append IsDeep (terminal_opener process number terminal) (terminals_from process (number + 1) terminals)
    (one-or-none (terminal.target == process) (record { who = who.Terminal number; depth = 1 })
    (omega arith, omega arith))
    (of-terminals process (number + 1) terminals)

by-spec : (site : Site) (process : ℕ) (spec : Option ProcessSpec) → All HasDeepFiles site.processes
    → All IsDeep (openers_by site process spec)
by-spec site process None all = All-nil IsDeep
by-spec site process (Some named) all =
    All-append IsDeep (processes_from named.name 0 site.processes) (terminals_from process 0 site.terminals)
    (of-processes named.name 0 site.processes all) (of-terminals process 0 site.terminals)

pub openers-deep : (site : Site) (process : ℕ) → All HasDeepFiles site.processes → All IsDeep (openers_of site process)
openers-deep site process all = by-spec site process (slice_get site.processes process) all
