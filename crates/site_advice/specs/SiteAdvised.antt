-- The advice for the programs of a site. Our own rule.
use Rattle.std.specs.Prelude.{◌≡◌, ◌<◌, ℕ, ◌+◌, List, [], ◌∷◌, ◌++◌, map, Some, Err}
use Rattle.gd_words.specs.Members.{IsAmong}
use Rattle.tal_tree.specs.declared.program.Program.{Program}
use Rattle.tal_tree.specs.declared.site.Kind.{Kind}
use Rattle.tal_tree.specs.declared.site.Kind.TheVariants as kind
use Rattle.tal_tree.specs.declared.site.ProcessSpec.{ProcessSpec}
use Rattle.advice_search.specs.path_semantics.specs.declared.reason.RefusalFault.{RefusalFault}
use Rattle.advice_search.specs.path_semantics.specs.declared.reason.RefusalFault.TheVariants.{TooDeep, TooLarge, Broken}
use Rattle.advice_search.specs.path_semantics.specs.declared.reason.RefusalFault.TheVariants.{NoMemory}
use Rattle.statement_lines.specs.Lines.{lines_of}
use Rattle.verdicts.specs.Refused.{program_at}
use Rattle.verdicts.specs.declared.refused.RefusedProgram.{RefusedProgram}
use Rattle.advice_search.specs.advice.specs.declared.answer.Advice.{Advice}
use Rattle.advice_search.specs.advice.specs.declared.answer.AdviseFault.TheVariants as advise
use Rattle.advice_search.specs.advice.specs.Answer.{IsAdvised, IsAnswer, IsUnmendable}
use Rattle.site_advice.specs.declared.pairs.PairAdvice.{PairAdvice}
use Rattle.site_advice.specs.declared.pairs.SiteAdvice.{SiteAdvice}
use Rattle.site_advice.specs.declared.pairs.SiteAdvice.TheVariants.{Given, Refused}

-- there is no advice for a program: calls too deep, too many statements, or a path that no lists and depths mend
abbrev pub IsUnadvised : Program → RefusalFault → Type 0
IsUnadvised program TooDeep = IsAdvised program (Err advise.TooDeep)
IsUnadvised program (TooLarge n) = IsAdvised program (Err (advise.TooLarge n))
IsUnadvised program (Broken reason path) = IsUnmendable program reason path
IsUnadvised program (NoMemory _) = ⊥

-- the place of a pair; a disc counts none
abbrev pub pair_at : ℕ → Kind → List ℕ
pair_at place (kind.Disc sectors mirrored) = []
pair_at place (kind.Pair program) = place ∷ []

-- the places of the pairs among processes, of which the first has this place
abbrev pub pairs_from : ℕ → List ProcessSpec → List ℕ
pairs_from place [] = []
pairs_from place (spec ∷ specs) = pair_at place spec.what ++ pairs_from (place + 1) specs

-- each pair among processes has its advice, in deck order
pub record AreAdvised (specs : List ProcessSpec) (pairs : List PairAdvice) : Type 0 where
  pub places : map (λ one. one.process) pairs ≡ pairs_from 0 specs
  pub each : (one : PairAdvice) (program : Program) → IsAmong one pairs → program_at specs one.process ≡ Some program
      → IsAnswer program one.advice

-- there is advice for the programs before a place
abbrev pub AreAdvisedBefore : List ProcessSpec → ℕ → Type 0
AreAdvisedBefore specs end = (place : ℕ) (program : Program) → place < end → program_at specs place ≡ Some program
    → (advice : Advice) × IsAnswer program advice

-- the process has the first program for which there is no advice, with the cause and the lines of its statements
pub record IsFirstUnadvised (specs : List ProcessSpec) (refused : RefusedProgram) : Type 0 where
  pub program : Program
  pub there : program_at specs refused.process ≡ Some program
  pub cause : IsUnadvised program refused.refusal
  pub before : AreAdvisedBefore specs refused.process
  pub lines : refused.lines ≡ lines_of program

-- what comes of asking for advice for the programs of processes
abbrev pub IsSiteAdvice : List ProcessSpec → SiteAdvice → Type 0
IsSiteAdvice specs (Given pairs) = AreAdvised specs pairs
IsSiteAdvice specs (Refused refused) = IsFirstUnadvised specs refused
