-- The state of a process of either kind, where it stands, and which processes can be loaded.
use Rattle.std.specs.Prelude.{ℕ}
use Rattle.tal_interp.specs.Sound.{IsLoadable}
use Rattle.tal_interp.specs.tal_tree.specs.declared.site.Kind.{Kind}
use Rattle.tal_interp.specs.tal_tree.specs.declared.site.Kind.TheVariants as kind
use Rattle.tal_interp.specs.process_semantics.specs.Process.{ProcessState, Runs, Serves}
use Rattle.tal_interp.specs.process_semantics.specs.Rests.{next_number}
use Rattle.tal_interp.specs.process_semantics.specs.State.{rest_of}
use Rattle.processes.specs.declared.process.Process.{Process}
use Rattle.processes.specs.declared.process.Process.TheVariants as process

-- the state of a process
abbrev pub state_of : Process → ProcessState
state_of (process.Program execution) = Runs execution.program execution.state
state_of (process.Disc serving) = Serves serving.sectors serving.disc

-- the number of what a process does next. A disc does nothing that has a number
abbrev pub next_number_of : ProcessState → ℕ
next_number_of (Runs program s) = next_number (rest_of s.frames)
next_number_of (Serves sectors s) = 0

-- a disc, or a program that can be loaded
abbrev pub IsLoadableKind : Kind → Type 0
IsLoadableKind (kind.Disc sectors mirrored) = Unit {0}
IsLoadableKind (kind.Pair program) = IsLoadable program
