-- What is found of one process more.
use Rattle.std.proofs.Common.{◌≡◌, ℕ, ◌+◌, ◌<◌, List, [], ◌∷◌, ◌++◌, length, take, get_or, ap, sym, subst, ◌∙◌}
use Rattle.std.proofs.lemmas.List.{take_more}
use Rattle.tal_tree.specs.declared.site.ProcessSpec.{ProcessSpec}
use Rattle.pair_findings.specs.Findings.{AreFindings, IsFindingOf}
use Rattle.pair_findings.specs.declared.finding.Finding.{Finding}

behind : (specs : List ProcessSpec) (findings : List Finding) (spec : ProcessSpec) (finding : Finding)
    → AreFindings specs findings → IsFindingOf spec.what finding
    → AreFindings (specs ++ spec ∷ []) (findings ++ finding ∷ [])
behind [] [] spec finding before one = (one, tt)
behind (s ∷ specs) (f ∷ findings) spec finding before one =
    (before.0, behind specs findings spec finding before.1 one)
behind [] (f ∷ findings) spec finding before one = absurd before
behind (s ∷ specs) [] spec finding before one = absurd before

pub one-more : (specs : List ProcessSpec) (k : ℕ) (spec : ProcessSpec) (findings : List Finding) (finding : Finding)
    → spec ≡ get_or specs k spec → k < length specs → AreFindings (take k specs) findings
    → IsFindingOf spec.what finding → AreFindings (take (k + 1) specs) (findings ++ finding ∷ [])
one-more specs k spec findings finding is inside before one =
    subst (λ (front : List ProcessSpec). AreFindings front (findings ++ finding ∷ []))
    (sym (take_more specs k spec inside ∙ ap (λ (x : ProcessSpec). take k specs ++ x ∷ []) (sym is)))
    (behind (take k specs) findings spec finding before one)
