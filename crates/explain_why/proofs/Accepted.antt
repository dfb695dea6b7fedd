-- Where no finding is that a program is refused, all programs are accepted.
use Rattle.std.proofs.Common.{◌≡◌, ℕ, zero, suc, Bool, true, false, List, [], ◌∷◌, Option, Some, None, refl, subst}
use Rattle.std.specs.Prelude.{◌||◌, is_some}
use Rattle.path_semantics.specs.Accepted.{IsAccepted}
use Rattle.path_semantics.specs.declared.reason.RefusalFault.{RefusalFault}
use Rattle.finding_text.specs.pair_findings.specs.Findings.{AreFindings, IsFindingOf, IsJudged}
use Rattle.finding_text.specs.pair_findings.specs.declared.finding.Finding.{Finding}
use Rattle.finding_text.specs.pair_findings.specs.declared.finding.Finding.TheVariants as found
use Rattle.tal_tree.specs.declared.program.Program.{Program}
use Rattle.tal_tree.specs.declared.site.Kind.{Kind}
use Rattle.tal_tree.specs.declared.site.Kind.TheVariants as kind
use Rattle.tal_tree.specs.declared.site.ProcessSpec.{ProcessSpec}
use Rattle.finding_text.specs.verdicts.specs.Refused.{AreAccepted, program_at, program_of}
use Rattle.explain_why.specs.Judged.{are_refused, is_refused}

neither : (first second : Bool) → (first || second) ≡ false → (first ≡ false) × (second ≡ false)
neither true second is = absurd (cc)
neither false second is = (refl, is)

-- a judgement without a cause
accepted_judgement : (program : Program) (refusal : Option RefusalFault) → IsJudged program refusal
    → is_some refusal ≡ false → IsAccepted program
accepted_judgement program None judged none = judged
accepted_judgement program (Some cause) judged none = absurd (cc)

accepted_kind : (what : Kind) (finding : Finding) (program : Program) → IsFindingOf what finding
    → is_refused finding ≡ false → program_of what ≡ Some program → IsAccepted program
accepted_kind (kind.Disc sectors mirrored) finding program is none there = absurd (cc)
accepted_kind (kind.Pair own) found.Disc program is none there = absurd is
accepted_kind (kind.Pair own) (found.Pair one) program is none there =
    subst IsAccepted (cc) (accepted_judgement own one.refusal is.judged none)

at_place : (spec : ProcessSpec) (specs : List ProcessSpec)
    → ((program : Program) → program_of spec.what ≡ Some program → IsAccepted program) → AreAccepted specs
    → (place : ℕ) (program : Program) → program_at (spec ∷ specs) place ≡ Some program → IsAccepted program
at_place spec specs first later zero program there = first program there
at_place spec specs first later (suc k) program there = later k program there

pub unrefused_are_accepted : (specs : List ProcessSpec) (findings : List Finding) → AreFindings specs findings
    → are_refused findings ≡ false → AreAccepted specs
unrefused_are_accepted [] findings are none = λ place program there. absurd (cc)
unrefused_are_accepted (spec ∷ specs) [] are none = absurd are
unrefused_are_accepted (spec ∷ specs) (finding ∷ findings) are none =
    let each = neither (is_refused finding) (are_refused findings) none in
    at_place spec specs (λ program there. accepted_kind spec.what finding program are.0 each.0 there)
    (unrefused_are_accepted specs findings are.1 each.1)
