-- What is told of the programs of a deck that can be read.
use Rattle.std.specs.Prelude.{◌≡◌, ℕ, Bool, false, List, [], ◌∷◌, ◌++◌, codes, is_some}
use Rattle.std.specs.List.{list_any}
use Rattle.explain_why.specs.declared.judged.JudgedDeck.{JudgedDeck}
use Rattle.finding_text.specs.PairText.{pair_texts}
use Rattle.finding_text.specs.pair_findings.specs.Findings.{AreFindings}
use Rattle.finding_text.specs.pair_findings.specs.declared.finding.Finding.{Finding}
use Rattle.finding_text.specs.pair_findings.specs.declared.finding.Finding.TheVariants as found
use Rattle.tal_tree.specs.declared.site.ProcessSpec.{ProcessSpec}

-- whether a finding is that a program is refused
abbrev pub is_refused : Finding → Bool
is_refused found.Disc = false
is_refused (found.Pair one) = is_some one.refusal

abbrev pub are_refused : List Finding → Bool
are_refused findings = list_any is_refused findings

-- what is told of a deck that can be read
abbrev pub judged_text : List ℕ → List ProcessSpec → List Finding → List ℕ
judged_text bytes specs findings =
    codes "the deck can be read" ++ 10 ∷ [] ++ pair_texts bytes specs findings

-- what is told of the programs of a deck is found of them, and whether one is refused
abbrev pub IsJudgedDeck : List ℕ → List ProcessSpec → JudgedDeck → Type 0
IsJudgedDeck bytes specs judged =
    (findings : List Finding) × AreFindings specs findings × (judged.told ≡ judged_text bytes specs findings)
    × (judged.refused ≡ are_refused findings)
