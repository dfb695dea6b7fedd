-- What is found of the programs of a site's pairs. Our own.
use Rattle.std.specs.Prelude.{◌≡◌, ◌≢◌, ◌⊎◌, ℕ, List, [], ◌∷◌, Option, Some, None, Err}
use Rattle.gd_words.specs.Memory.{no_memory}
use Rattle.tal_tree.specs.declared.program.Program.{Program}
use Rattle.tal_tree.specs.declared.site.Kind.{Kind}
use Rattle.tal_tree.specs.declared.site.Kind.TheVariants as kind
use Rattle.tal_tree.specs.declared.site.ProcessSpec.{ProcessSpec}
use Rattle.path_semantics.specs.Accepted.{IsAccepted}
use Rattle.path_semantics.specs.declared.reason.RefusalFault.{RefusalFault}
use Rattle.path_semantics.specs.declared.reason.RefusalFault.TheVariants.{TooDeep, TooLarge, Broken, NoMemory}
use Rattle.verdicts.specs.discipline.specs.Verdict.{IsVerdict}
use Rattle.statement_lines.specs.Lines.{lines_of}
use Rattle.advice_search.specs.advice.specs.Answer.{IsAnswer, IsUnmendable}
use Rattle.statement_dues.specs.Checkpoints.{checkpoints_of}
use Rattle.statement_dues.specs.Deeds.{deeds_of}
use Rattle.statement_dues.specs.declared.deeds.Deed.{Deed}
use Rattle.pair_findings.specs.Notes.{IsSince}
use Rattle.pair_findings.specs.declared.finding.Finding.{Finding}
use Rattle.pair_findings.specs.declared.finding.Finding.TheVariants as found
use Rattle.pair_findings.specs.declared.finding.PairFinding.{PairFinding}
use Rattle.pair_findings.specs.declared.finding.Remedy.{Remedy}
use Rattle.pair_findings.specs.declared.finding.Remedy.TheVariants.{Lists, Unmendable, OutOfBounds}

-- a program is accepted, or refused for this cause, which is its verdict
abbrev pub IsJudged : Program → Option RefusalFault → Type 0
IsJudged program None = IsAccepted program
IsJudged program (Some refusal) = IsVerdict program (Err refusal) × (refusal ≢ NoMemory no_memory)

-- what mends a program: its advice, or a path that no lists and depths mend; or its calls are too deep or too many
abbrev pub IsRemedy : Program → Remedy → Type 0
IsRemedy program (Lists advice) = IsAnswer program advice
IsRemedy program (Unmendable reason path) = IsUnmendable program reason path
IsRemedy program OutOfBounds =
    IsVerdict program (Err TooDeep) ⊎ ((size : ℕ) × IsVerdict program (Err (TooLarge size)))

abbrev pub deeds_for : Program → Option RefusalFault → List Deed
deeds_for program (Some (Broken reason path)) = deeds_of reason program
deeds_for program (Some TooDeep) = []
deeds_for program (Some (TooLarge size)) = []
deeds_for program (Some (NoMemory memory)) = []
deeds_for program None = []

abbrev pub path_of : Option RefusalFault → List ℕ
path_of (Some (Broken reason path)) = path
path_of (Some TooDeep) = []
path_of (Some (TooLarge size)) = []
path_of (Some (NoMemory memory)) = []
path_of None = []

-- what is found of a program
pub record IsFinding (program : Program) (finding : PairFinding) : Type 0 where
  pub judged : IsJudged program finding.refusal
  pub remedy : IsRemedy program finding.remedy
  pub lines : finding.lines ≡ lines_of program
  pub deeds : finding.deeds ≡ deeds_for program finding.refusal
  pub since : IsSince finding.deeds (path_of finding.refusal) finding.since
  pub checkpoints : finding.checkpoints ≡ checkpoints_of program

abbrev pub IsFindingOf : Kind → Finding → Type 0
IsFindingOf (kind.Disc sectors mirrored) finding = finding ≡ found.Disc
IsFindingOf (kind.Pair program) (found.Pair one) = IsFinding program one
IsFindingOf (kind.Pair program) found.Disc = ⊥

-- what is found of processes, one for each, in order
abbrev pub AreFindings : List ProcessSpec → List Finding → Type 0
AreFindings [] [] = Unit {0}
AreFindings (spec ∷ specs) (finding ∷ findings) = IsFindingOf spec.what finding × AreFindings specs findings
AreFindings [] (finding ∷ findings) = ⊥
AreFindings (spec ∷ specs) [] = ⊥
