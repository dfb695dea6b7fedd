-- What is found of one process; only the clauses of private functions cite it.
use Rattle.std.specs.Prelude.{◌≡◌, ◌⊎◌, ℕ, List, [], ◌∷◌, ◌++◌, Option, Some, None}
use Rattle.tal_tree.specs.declared.program.Program.{Program}
use Rattle.tal_tree.specs.declared.site.Kind.{Kind}
use Rattle.statement_lines.specs.Lines.{lines_of}
use Rattle.verdicts.specs.Refused.{program_of}
use Rattle.verdicts.specs.declared.refused.Cause.{Cause}
use Rattle.advice_search.specs.advice.specs.declared.answer.Advice.{Advice}
use Rattle.advice_search.specs.advice.specs.Answer.{IsAnswer}
use Rattle.site_advice.specs.SiteAdvised.{IsUnadvised}
use Rattle.site_advice.specs.declared.pairs.PairAdvice.{PairAdvice}

-- there is no advice for the program of a process, with this cause
pub record IsCauseOf (what : Kind) (cause : Cause) : Type 0 where
  pub program : Program
  pub there : program_of what ≡ Some program
  pub unadvised : IsUnadvised program cause.refusal
  pub lines : cause.lines ≡ lines_of program

abbrev pub IsCause : Kind → Option Cause → Type 0
IsCause what None = ⊥
IsCause what (Some cause) = IsCauseOf what cause

-- the advice for the program of a process
pub record IsAdviceFor (what : Kind) (advice : Advice) : Type 0 where
  pub program : Program
  pub there : program_of what ≡ Some program
  pub answer : IsAnswer program advice

-- the advice for the program of a process is put behind others; a disc has none
abbrev pub IsMore : ℕ → Kind → List PairAdvice → List PairAdvice → Type 0
IsMore process what old new = ((program_of what ≡ None) × (new ≡ old))
    ⊎ ((advice : Advice) × IsAdviceFor what advice × (new ≡ old ++ record { process = process; advice = advice } ∷ []))

abbrev pub IsPushed : ℕ → Kind → List PairAdvice → List PairAdvice → Option Cause → Type 0
IsPushed process what old new None = IsMore process what old new
IsPushed process what old new (Some cause) = IsCauseOf what cause
