-- What is found of the pairs of a deck, as text. Our own wording.
use Rattle.std.specs.Prelude.{ℕ, List, [], ◌∷◌, ◌++◌, codes, length, Option, Some, None}
use Rattle.path_semantics.specs.declared.reason.RefusalFault.{RefusalFault}
use Rattle.path_semantics.specs.declared.reason.RefusalFault.TheVariants.{TooDeep, TooLarge, Broken, NoMemory}
use Rattle.tal_tree.specs.declared.program.Program.{Program}
use Rattle.tal_tree.specs.declared.site.Kind.{Kind}
use Rattle.tal_tree.specs.declared.site.Kind.TheVariants as kind
use Rattle.tal_tree.specs.declared.site.ProcessSpec.{ProcessSpec}
use Rattle.pair_findings.specs.declared.finding.Finding.{Finding}
use Rattle.pair_findings.specs.declared.finding.Finding.TheVariants as found
use Rattle.pair_findings.specs.declared.finding.PairFinding.{PairFinding}
use Rattle.finding_text.specs.Carried.{accepted_text}
use Rattle.finding_text.specs.DeckPlace.{pair_line}
use Rattle.finding_text.specs.Lacking.{remedy_text}
use Rattle.finding_text.specs.Sentences.{cause_text, hint_of, refusal_text}
use Rattle.finding_text.specs.Steps.{path_text}
use Rattle.finding_text.specs.declared.steps.Way.{Way}

abbrev pub praise_text : List ℕ → List ℕ
praise_text name = codes "the program of " ++ name ++ (codes " is accepted" ++ 10 ∷ [])

abbrev pub head_text : List ℕ → Program → RefusalFault → List ℕ
head_text name program refusal = codes "error: " ++ refusal_text name program refusal ++ 10 ∷ []

abbrev pub way_text : List ℕ → Program → PairFinding → Way → List ℕ → List ℕ
way_text bytes program found way path =
    codes "a shortest way there, by lines of the deck:" ++ 10 ∷ [] ++ path_text bytes program found way path

-- the path that breaks, if the cause has one
abbrev pub broken_text : List ℕ → ℕ → Program → PairFinding → RefusalFault → List ℕ
broken_text bytes start program found (Broken reason path) =
    way_text bytes program found (record { start = start; reason = reason; count = length path }) path
broken_text bytes start program found TooDeep = []
broken_text bytes start program found (TooLarge size) = []
broken_text bytes start program found (NoMemory memory) = []

abbrev pub hint_line : RefusalFault → List ℕ
hint_line refusal = codes "hint: " ++ hint_of refusal ++ 10 ∷ []

abbrev pub refused_line : List ℕ → Program → RefusalFault → List ℕ
refused_line name program refusal =
    codes "guardian: REFUSED " ++ name ++ codes " " ++ cause_text program refusal ++ 10 ∷ []

-- what is lost, and the line that `guardian` writes
abbrev pub cause_line : List ℕ → Program → RefusalFault → List ℕ
cause_line name program refusal =
    hint_line refusal ++ refused_line name program refusal

abbrev pub refused_text : List ℕ → ℕ → List ℕ → Program → PairFinding → RefusalFault → List ℕ
refused_text bytes start name program found refusal =
    head_text name program refusal ++ broken_text bytes start program found refusal
    ++ remedy_text start program found ++ cause_line name program refusal

abbrev pub judged_text : List ℕ → ℕ → List ℕ → Program → PairFinding → Option RefusalFault → List ℕ
judged_text bytes start name program found None = praise_text name ++ accepted_text bytes start program found
judged_text bytes start name program found (Some refusal) = refused_text bytes start name program found refusal

-- what is found of the program of a pair of this name
abbrev pub program_text : List ℕ → List ℕ → Program → PairFinding → List ℕ
program_text bytes name program found =
    judged_text bytes (pair_line bytes name) name program found found.refusal

abbrev pub pair_text : List ℕ → List ℕ → Kind → Finding → List ℕ
pair_text bytes name (kind.Disc sectors mirrored) finding = []
pair_text bytes name (kind.Pair program) found.Disc = []
pair_text bytes name (kind.Pair program) (found.Pair one) = program_text bytes name program one

-- what is found of processes, in order; a disc has no text
abbrev pub pair_texts : List ℕ → List ProcessSpec → List Finding → List ℕ
pair_texts bytes [] findings = []
pair_texts bytes (spec ∷ specs) [] = []
pair_texts bytes (spec ∷ specs) (finding ∷ findings) =
    pair_text bytes spec.name spec.what finding ++ pair_texts bytes specs findings
