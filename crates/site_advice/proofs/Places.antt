-- The pairs before a place, and their advice.
use Rattle.std.proofs.Common.{◌≡◌, ◌⊎◌, inl, inr, ℕ, suc, ◌+◌, ◌<◌, List, [], ◌∷◌, ◌++◌, map, length, take, get_or}
use Rattle.std.proofs.Common.{Some, None, refl, ap, subst, sym, ◌∙◌, arith, append_assoc, append-nil}
use Rattle.std.proofs.Common.{length-take}
use Rattle.std.specs.Option.{option_and_then}
use Rattle.std.proofs.lemmas.List.{map-append, take_more}
use Rattle.std.proofs.lemmas.Option.{slice_get_read}
use Rattle.gd_words.specs.Members.{IsAmong}
use Rattle.gd_words.proofs.Among.{among-either}
use Rattle.tal_tree.specs.declared.program.Program.{Program}
use Rattle.tal_tree.specs.declared.site.Kind.{Kind}
use Rattle.tal_tree.specs.declared.site.Kind.TheVariants as kind
use Rattle.tal_tree.specs.declared.site.ProcessSpec.{ProcessSpec}
use Rattle.verdicts.specs.Refused.{program_at, program_of}
use Rattle.advice_search.specs.advice.specs.declared.answer.Advice.{Advice}
use Rattle.advice_search.specs.advice.specs.Answer.{IsAnswer}
use Rattle.site_advice.specs.Pushed.{IsMore, IsAdviceFor}
use Rattle.site_advice.specs.SiteAdvised.{pair_at, pairs_from, AreAdvised, AreAdvisedBefore}
use Rattle.site_advice.specs.declared.pairs.PairAdvice.{PairAdvice}

-- the program of the process at a place
pub program-there : (specs : List ProcessSpec) (place : ℕ) (spec : ProcessSpec) → place < length specs
    → spec ≡ get_or specs place spec → program_at specs place ≡ program_of spec.what
program-there specs place spec inside is =
    ap (option_and_then (λ (s : ProcessSpec). program_of s.what))
    (slice_get_read specs (length specs) place spec refl inside is)

pairs-append : (start : ℕ) (xs ys : List ProcessSpec)
    → pairs_from start (xs ++ ys) ≡ pairs_from start xs ++ pairs_from (start + length xs) ys
pairs-append start [] ys = ap (λ (n : ℕ). pairs_from n ys) (let same : start ≡ start + 0 = omega arith in same)
pairs-append start (x ∷ xs) ys =
    let same : (start + 1) + length xs ≡ start + suc (length xs) = omega arith in
    ap (λ (later : List ℕ). pair_at start x.what ++ later)
    (pairs-append (start + 1) xs ys ∙ ap (λ (n : ℕ). pairs_from (start + 1) xs ++ pairs_from n ys) same)
    ∙ sym (append_assoc (pair_at start x.what) (pairs_from (start + 1) xs) (pairs_from (start + suc (length xs)) ys))

-- one process more
pub pairs-more : (specs : List ProcessSpec) (k : ℕ) (spec : ProcessSpec) → k < length specs
    → spec ≡ get_or specs k spec
    → pairs_from 0 (take (k + 1) specs) ≡ pairs_from 0 (take k specs) ++ pair_at k spec.what
pairs-more specs k spec inside is =
    let count : 0 + length (take k specs) ≡ k = omega (arith, length-take k specs) in
    ap (pairs_from 0) (take_more specs k spec inside ∙ ap (λ (s : ProcessSpec). take k specs ++ s ∷ []) (sym is))
    ∙ pairs-append 0 (take k specs) (spec ∷ [])
    ∙ ap (λ (n : ℕ). pairs_from 0 (take k specs) ++ pairs_from n (spec ∷ [])) count
    ∙ ap (λ (own : List ℕ). pairs_from 0 (take k specs) ++ own) (append-nil (pair_at k spec.what))

-- the pairs before a place have their advice, in deck order, and these are theirs
pub record AreGathered (specs : List ProcessSpec) (end : ℕ) (pairs : List PairAdvice) : Type 0 where
  pub places : map (λ one. one.process) pairs ≡ pairs_from 0 (take end specs)
  pub each : (one : PairAdvice) (program : Program) → IsAmong one pairs → program_at specs one.process ≡ Some program
      → IsAnswer program one.advice
  pub before : AreAdvisedBefore specs end

pub none-gathered : (specs : List ProcessSpec) → AreGathered specs 0 []
none-gathered specs = record {
  places = refl;
  each = λ one program among there. absurd among;
  before = λ place program less there. absurd (let wrong : place < 0 = less in omega arith);
}

no-pair : (place : ℕ) (what : Kind) → program_of what ≡ None → pair_at place what ≡ []
no-pair place (kind.Disc sectors mirrored) none = refl
no-pair place (kind.Pair program) none = absurd (let wrong : Some program ≡ None = none in cc)

one-pair : (place : ℕ) (what : Kind) (program : Program) → program_of what ≡ Some program
    → pair_at place what ≡ place ∷ []
one-pair place (kind.Disc sectors mirrored) program there = absurd (let wrong : None ≡ Some program = there in cc)
one-pair place (kind.Pair own) program there = refl

less-or-same : (n m : ℕ) → n < m + 1 → (n < m) ⊎ (n ≡ m)
less-or-same n m less = grind arith

module _ (specs : List ProcessSpec) (k : ℕ) (spec : ProcessSpec) (inside : k < length specs)
    (is : spec ≡ get_or specs k spec) where
  there-is : (program : Program) → program_at specs k ≡ Some program → program_of spec.what ≡ Some program
  there-is program there = sym (program-there specs k spec inside is) ∙ there

  disc-before : program_of spec.what ≡ None → AreAdvisedBefore specs k → AreAdvisedBefore specs (k + 1)
  disc-before none before place program less there = by_place (less-or-same place k less)
    where
      by_place : (place < k) ⊎ (place ≡ k) → (advice : Advice) × IsAnswer program advice
      by_place (inl earlier) = before place program earlier there
      by_place (inr same) =
          let at : program_at specs k ≡ Some program = ap (program_at specs) (sym same) ∙ there in
          absurd (let wrong : None ≡ Some program = sym none ∙ there-is program at in cc)

  same-program : (one other : Program) → program_of spec.what ≡ Some one → program_of spec.what ≡ Some other
      → one ≡ other
  same-program one other first second = let both : Some one ≡ Some other = sym first ∙ second in cc

  pair-before : (advice : Advice) → IsAdviceFor spec.what advice → AreAdvisedBefore specs k
      → AreAdvisedBefore specs (k + 1)
  pair-before advice given before place program less there = by_place (less-or-same place k less)
    where
      by_place : (place < k) ⊎ (place ≡ k) → (advice : Advice) × IsAnswer program advice
      by_place (inl earlier) = before place program earlier there
      by_place (inr same) =
          let at : program_at specs k ≡ Some program = ap (program_at specs) (sym same) ∙ there in (
            advice,
            subst (λ (p : Program). IsAnswer p advice)
                (same-program given.program program given.there (there-is program at)) given.answer,
          )

  pub more-gathered : (old new : List PairAdvice) → AreGathered specs k old → IsMore k spec.what old new
      → AreGathered specs (k + 1) new
  more-gathered old new gathered (inl disc) = subst (AreGathered specs (k + 1)) (sym disc.1) (record {
    places = gathered.places ∙ sym (append-nil (pairs_from 0 (take k specs)))
        ∙ ap (λ (own : List ℕ). pairs_from 0 (take k specs) ++ own) (sym (no-pair k spec.what disc.0))
        ∙ sym (pairs-more specs k spec inside is);
    each = gathered.each;
    before = disc-before disc.0 gathered.before;
  })
  more-gathered old new gathered (inr pair) = subst (AreGathered specs (k + 1)) (sym pair.2) (record {
    places = map-append (λ (one : PairAdvice). one.process) old (here ∷ [])
        ∙ ap (λ (front : List ℕ). front ++ k ∷ []) gathered.places
        ∙ ap (λ (own : List ℕ). pairs_from 0 (take k specs) ++ own)
        (sym (one-pair k spec.what pair.1.program pair.1.there))
        ∙ sym (pairs-more specs k spec inside is);
    each = λ one program among there. by_part one program (among-either one old (here ∷ []) among) there;
    before = pair-before pair.0 pair.1 gathered.before;
  })
    where
      here : PairAdvice
      here = record { process = k; advice = pair.0 }

      by_part : (one : PairAdvice) (program : Program) → IsAmong one old ⊎ IsAmong one (here ∷ [])
          → program_at specs one.process ≡ Some program → IsAnswer program one.advice
      by_part one program (inl earlier) there = gathered.each one program earlier there
      by_part one program (inr (inl same)) there =
          let at : program_at specs k ≡ Some program =
          ap (λ (o : PairAdvice). program_at specs o.process) (sym same) ∙ there in
          subst (λ (o : PairAdvice). IsAnswer program o.advice) (sym same)
          (subst (λ (p : Program). IsAnswer p pair.0)
          (same-program pair.1.program program pair.1.there (there-is program at)) pair.1.answer)
      by_part one program (inr (inr none)) there = absurd none

-- all pairs
pub all-gathered : (specs : List ProcessSpec) (pairs : List PairAdvice) → take (length specs) specs ≡ specs
    → AreGathered specs (length specs) pairs → AreAdvised specs pairs
all-gathered specs pairs whole gathered =
    record { places = gathered.places ∙ ap (pairs_from 0) whole; each = gathered.each }
