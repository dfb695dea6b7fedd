-- What is found of one process; only the clauses of private functions cite it.
use Rattle.std.specs.Prelude.{◌≡◌, ◌≢◌, Option, Some, Err}
use Rattle.gd_words.specs.Memory.{no_memory}
use Rattle.tal_tree.specs.declared.program.Program.{Program}
use Rattle.tal_tree.specs.declared.site.Kind.{Kind}
use Rattle.discipline.specs.path_semantics.specs.Accepted.{IsAccepted}
use Rattle.discipline.specs.path_semantics.specs.declared.reason.RefusalFault.TheVariants.{NoMemory}
use Rattle.discipline.specs.Verdict.{IsVerdict}
use Rattle.statement_lines.specs.Lines.{lines_of}
use Rattle.verdicts.specs.Refused.{program_of}
use Rattle.verdicts.specs.declared.refused.Cause.{Cause}

-- the program of a process, if it has one, is accepted
abbrev pub IsAcceptedKind : Kind → Type 0
IsAcceptedKind what = (program : Program) → program_of what ≡ Some program → IsAccepted program

-- the program of a process is refused so
pub record IsCauseOf (what : Kind) (cause : Cause) : Type 0 where
  pub program : Program
  pub there : program_of what ≡ Some program
  pub verdict : IsVerdict program (Err cause.refusal)
  pub told : cause.refusal ≢ NoMemory no_memory
  pub lines : cause.lines ≡ lines_of program
