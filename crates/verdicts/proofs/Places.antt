-- Which programs stand before a place.
use Rattle.std.proofs.Common.{◌≡◌, ℕ, zero, suc, ◌+◌, ◌<◌, ◌==◌, Bool, true, false, List, [], ◌∷◌, length, Option, Some}
use Rattle.std.proofs.Common.{None, slice_get, get_or, refl, ap, sym, ◌∙◌, arith}
use Rattle.std.proofs.lemmas.Bool.{eqb-true, eqb-false}
use Rattle.std.specs.Option.{option_and_then}
use Rattle.tal_tree.specs.declared.program.Program.{Program}
use Rattle.tal_tree.specs.declared.site.ProcessSpec.{ProcessSpec}
use Rattle.discipline.specs.path_semantics.specs.Accepted.{IsAccepted}
use Rattle.verdicts.specs.Causes.{IsAcceptedKind}
use Rattle.verdicts.specs.Refused.{AreAccepted, AreAcceptedBefore, program_at, program_of}

-- what stands at a place of a list
got-there : {X : Type 0} (xs : List X) (i : ℕ) (d : X) → i < length xs → slice_get xs i ≡ Some (get_or xs i d)
got-there [] i d within = absurd (omega (arith, within))
got-there (x ∷ xs) zero d within = refl
got-there (x ∷ xs) (suc i) d within = got-there xs i d (omega (arith, within))

-- the program of the process at a place
pub program-there : (specs : List ProcessSpec) (place : ℕ) (spec : ProcessSpec) → place < length specs
    → spec ≡ get_or specs place spec
    → program_at specs place ≡ program_of spec.what
program-there specs place spec within is =
    ap (option_and_then (λ (s : ProcessSpec). program_of s.what)) (got-there specs place spec within ∙ ap Some (sym is))

-- one more program that is accepted
pub before-more : (specs : List ProcessSpec) (end : ℕ) (spec : ProcessSpec) → end < length specs
    → spec ≡ get_or specs end spec
    → IsAcceptedKind spec.what → AreAcceptedBefore specs end → AreAcceptedBefore specs (end + 1)
before-more specs end spec within is accepted before place program less there = by-test (place == end) refl
  where
    by-test : (t : Bool) → (place == end) ≡ t → IsAccepted program
    by-test true same =
        accepted program (sym (ap (program_at specs) (eqb-true place end same)
        ∙ program-there specs end spec within is) ∙ there)
    by-test false other = before place program (earlier (eqb-false place end other)) there
      where
        earlier : (place ≡ end → ⊥) → place < end
        earlier apart = omega (arith, less, apart)

within-specs : (specs : List ProcessSpec) (place : ℕ) (program : Program) → program_at specs place ≡ Some program
    → place < length specs
within-specs [] place program there = absurd (cc)
within-specs (spec ∷ specs) zero program there = omega arith
within-specs (spec ∷ specs) (suc place) program there = omega (arith, within-specs specs place program there)

-- the programs before the end are all
pub all-before : (specs : List ProcessSpec) → AreAcceptedBefore specs (length specs) → AreAccepted specs
all-before specs before place program there = before place program (within-specs specs place program there) there
