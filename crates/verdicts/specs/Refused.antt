-- The first program of a site that is refused.
use Rattle.std.specs.Prelude.{◌≡◌, ◌≢◌, ◌<◌, ℕ, List, Option, Some, None, Err, slice_get}
use Rattle.std.specs.Option.{option_and_then}
use Rattle.gd_words.specs.Memory.{no_memory}
use Rattle.tal_tree.specs.declared.program.Program.{Program}
use Rattle.tal_tree.specs.declared.site.Kind.{Kind}
use Rattle.tal_tree.specs.declared.site.Kind.TheVariants as kind
use Rattle.tal_tree.specs.declared.site.ProcessSpec.{ProcessSpec}
use Rattle.discipline.specs.path_semantics.specs.Accepted.{IsAccepted}
use Rattle.discipline.specs.path_semantics.specs.declared.reason.RefusalFault.TheVariants.{NoMemory}
use Rattle.discipline.specs.Verdict.{IsVerdict}
use Rattle.statement_lines.specs.Lines.{lines_of}
use Rattle.verdicts.specs.declared.refused.RefusedProgram.{RefusedProgram}

-- the program of a pair; a disc has none
abbrev pub program_of : Kind → Option Program
program_of (kind.Disc sectors mirrored) = None
program_of (kind.Pair program) = Some program

-- the program of the process at a place
abbrev pub program_at : List ProcessSpec → ℕ → Option Program
program_at specs place = option_and_then (λ spec. program_of spec.what) (slice_get specs place)

-- the programs of these processes are accepted
abbrev pub AreAccepted : List ProcessSpec → Type 0
AreAccepted specs = (place : ℕ) (program : Program) → program_at specs place ≡ Some program → IsAccepted program

-- the programs before a place are accepted
abbrev pub AreAcceptedBefore : List ProcessSpec → ℕ → Type 0
AreAcceptedBefore specs end =
    (place : ℕ) (program : Program) → place < end → program_at specs place ≡ Some program → IsAccepted program

-- the process has the first program that is refused, with its refusal and the lines of its statements
pub record IsFirstRefused (specs : List ProcessSpec) (refused : RefusedProgram) : Type 0 where
  pub program : Program
  pub there : program_at specs refused.process ≡ Some program
  pub verdict : IsVerdict program (Err refused.refusal)
  pub told : refused.refusal ≢ NoMemory no_memory
  pub before : AreAcceptedBefore specs refused.process
  pub lines : refused.lines ≡ lines_of program
