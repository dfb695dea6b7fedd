-- How many openers a process has at most.
use Rattle.std.proofs.Common.{ℕ, ◌+◌, ◌*◌, ◌==◌, ◌≤◌, Bool, true, false, if◌then◌else◌, List, [], ◌∷◌, length, Option}
use Rattle.std.proofs.Common.{Some, None, slice_get, arith}
use Rattle.std.proofs.lemmas.List.{length-append}
use Rattle.std.proofs.lemmas.List.Elements.{All-head, All-tail}
use Rattle.std.specs.List.{All}
use Rattle.process_semantics.specs.tal_tree.specs.declared.site.Who.TheVariants as who
use Rattle.process_semantics.specs.tal_tree.specs.declared.program.FileUse.{FileUse}
use Rattle.process_semantics.specs.tal_tree.specs.declared.site.Site.{Site}
use Rattle.process_semantics.specs.tal_tree.specs.declared.site.OpenerSpec.{OpenerSpec}
use Rattle.process_semantics.specs.tal_tree.specs.declared.site.ProcessSpec.{ProcessSpec}
use Rattle.process_semantics.specs.tal_tree.specs.declared.site.TerminalSpec.{TerminalSpec}
use Rattle.plain_semantics.specs.Openers.{opens, file_opener, files_of, files_from, processes_from, terminal_opener}
use Rattle.plain_semantics.specs.Openers.{terminals_from, openers_by, openers_of}
use Rattle.plain_semantics.specs.SiteLimits.{KeepsSiteLimits}

one-if : (b : Bool) (opener : OpenerSpec) → length (if b then opener ∷ [] else []) ≤ 1
one-if true opener = omega arith
one-if false opener = omega arith

files-few : (name : List ℕ) (process number : ℕ) (files : List FileUse)
    → length (files_from name process number files) ≤ length files
files-few name process number [] = omega arith
files-few name process number (file ∷ files) =
    omega (
      arith,
      length-append (file_opener name process number file) (files_from name process (number + 1) files),
      one-if (opens name file.target) (record { who = who.File process number; depth = file.depth }),
      files-few name process (number + 1) files,
    )

processes-few : (name : List ℕ) (number : ℕ) (specs : List ProcessSpec)
    → All (λ spec. length (files_of spec.what) ≤ 8) specs
    → length (processes_from name number specs) ≤ 8 * length specs
processes-few name number [] few = omega arith
processes-few name number (spec ∷ specs) few =
    omega (
      arith,
      length-append (files_from name number 0 (files_of spec.what)) (processes_from name (number + 1) specs),
      files-few name number 0 (files_of spec.what),
      All-head (λ (s : ProcessSpec). length (files_of s.what) ≤ 8) spec specs few,
      processes-few name (number + 1) specs (All-tail (λ (s : ProcessSpec). length (files_of s.what) ≤ 8) spec specs
          few),
    )

terminals-few : (process number : ℕ) (specs : List TerminalSpec)
    → length (terminals_from process number specs) ≤ length specs
terminals-few process number [] = omega arith
terminals-few process number (spec ∷ specs) =
    omega (
      arith,
      length-append (terminal_opener process number spec) (terminals_from process (number + 1) specs),
      one-if (spec.target == process) (record { who = who.Terminal number; depth = 1 }),
      terminals-few process (number + 1) specs,
    )

openers-by-few : (site : Site) (process : ℕ) (named : Option ProcessSpec) → KeepsSiteLimits site
    → length (openers_by site process named) ≤ 144
openers-by-few site process None keeps = omega arith
openers-by-few site process (Some named) keeps =
    omega (
      arith,
      length-append (processes_from named.name 0 site.processes) (terminals_from process 0 site.terminals),
      processes-few named.name 0 site.processes keeps.files,
      terminals-few process 0 site.terminals,
      keeps.processes,
      keeps.terminals,
    )

-- a process of a site within the limits has at most 144 openers
pub openers-few : (site : Site) (process : ℕ) → KeepsSiteLimits site → length (openers_of site process) ≤ 144
openers-few site process keeps = openers-by-few site process (slice_get site.processes process) keeps
