-- A report has one verdict.
use Rattle.std.proofs.Common.{◌≡◌, ◌≢◌, ◌⊎◌, inl, inr, ℕ, suc, List, [], ◌∷◌, ◌++◌, length, refl, sym, ap, ap₂}
use Rattle.std.proofs.Common.{subst, ◌∙◌, arith, append_assoc, append-nil}
use Rattle.std.specs.Prelude.{Result, Ok, Err}
use Rattle.plain_semantics.proofs.Runs.{front-possible}
use Rattle.plain_semantics.specs.Machine.{IsPossible}
use Rattle.tal_tree.specs.declared.act.Act.{Act}
use Rattle.tal_tree.specs.declared.site.Site.{Site}
use Rattle.report_judge.specs.report_reader.specs.Reading.{acts_in, read_report, stops_in}
use Rattle.report_judge.specs.report_reader.specs.declared.reading.Reading.{Reading}
use Rattle.report_judge.specs.report_reader.specs.declared.told.Told.{Told}
use Rattle.report_judge.specs.report_reader.specs.declared.told.Told.TheVariants as told
use Rattle.report_judge.proofs.ReplayLemmas.{acts-append}
use Rattle.report_judge.specs.Lines.{IsFirstDifference, first_in, lines_of}
use Rattle.report_judge.specs.Reported.{IsReported}
use Rattle.report_judge.specs.Verdicts.{IsFirstImpossible, IsRejectedOn, IsVerdict, IsVerdictOn}
use Rattle.report_judge.specs.declared.judge.VerifyFault.{VerifyFault}
use Rattle.report_judge.specs.declared.judge.VerifyFault.TheVariants as refusal
use Rattle.report_judge.specs.declared.judge.Why.{Why}
use Rattle.report_judge.specs.declared.judge.Why.TheVariants as why
use Rattle.report_laws.specs.OneVerdict.{IsSameVerdict}

-- Lists

-- two fronts of one list: they are as long, or one of them goes on past the other
data Fronts {X : Type 0} (front other : List X) (x y : X) : Type 0 where
  alike : length front ≡ length other → Fronts front other x y
  goes_past : (more : List X) → front ≡ other ++ y ∷ more → Fronts front other x y
  falls_short : (more : List X) → other ≡ front ++ x ∷ more → Fronts front other x y

fronts : {X : Type 0} (front other back rest : List X) (x y : X) → front ++ x ∷ back ≡ other ++ y ∷ rest
    → Fronts front other x y
fronts [] [] back rest x y same = alike refl
fronts [] (z ∷ other) back rest x y same = let first : z ≡ x = cc in falls_short other (ap (λ a. a ∷ other) first)
fronts (z ∷ front) [] back rest x y same = let first : z ≡ y = cc in goes_past front (ap (λ a. a ∷ front) first)
fronts (z ∷ front) (w ∷ other) back rest x y same = more (fronts front other back rest x y (cc)) (cc)
  where
    more : Fronts front other x y → z ≡ w → Fronts (z ∷ front) (w ∷ other) x y
    more (alike e) first = alike (ap suc e)
    more (goes_past tail e) first = goes_past tail (ap (λ a. a ∷ front) first ∙ ap (λ xs. w ∷ xs) e)
    more (falls_short tail e) first = falls_short tail (ap (λ a. a ∷ other) (sym first) ∙ ap (λ xs. z ∷ xs) e)

-- Acts that aren't possible

-- an act behind lines is possible where all acts of longer lines are
act-possible : (site : Site) (front back : List Told) (act : Act)
    → IsPossible site (acts_in (front ++ told.Act act ∷ back)) → IsPossible site (acts_in front ++ act ∷ [])
act-possible site front back act possible =
    front-possible site (acts_in front ++ act ∷ []) (acts_in back)
    (subst (IsPossible site) (acts-append front (told.Act act ∷ back)
    ∙ sym (append_assoc (acts_in front) (act ∷ []) (acts_in back))) possible)

all-possible : (site : Site) (lines : List Told) (number : ℕ) → IsFirstImpossible site lines number
    → IsPossible site (acts_in lines) → ⊥
all-possible site lines number first possible =
    first.impossible (act-possible site first.front first.back first.act
    (subst (λ (xs : List Told). IsPossible site (acts_in xs)) first.is possible))

one-act : (site : Site) (lines : List Told) (number other : ℕ) → IsFirstImpossible site lines number
    → IsFirstImpossible site lines other → number ≡ other
one-act site lines number other first second =
    by (fronts first.front second.front first.back second.back (told.Act first.act) (told.Act second.act)
    (sym first.is ∙ second.is))
  where
    by : Fronts first.front second.front (told.Act first.act) (told.Act second.act) → number ≡ other
    by (alike e) = omega (arith, first.counted, second.counted, e)
    by (goes_past more e) =
        absurd (second.impossible (act-possible site second.front more second.act
        (subst (λ (xs : List Told). IsPossible site (acts_in xs)) e first.possible)))
    by (falls_short more e) =
        absurd (first.impossible (act-possible site first.front more first.act
        (subst (λ (xs : List Told). IsPossible site (acts_in xs)) e second.possible)))

-- Lines that differ

tails : {X : Type 0} (front one other : List X) → front ++ one ≡ front ++ other → one ≡ other
tails [] one other same = same
tails (x ∷ front) one other same = tails front one other (cc)

-- a text doesn't differ from itself
same-texts : (one other : List (List ℕ)) (number : ℕ) → IsFirstDifference one other number → one ≡ other → ⊥
same-texts one other number first same =
    first.differ (ap first_in (tails first.same first.one_rest first.other_rest
    (sym first.one_is ∙ same ∙ first.other_is)))

-- one front of two lists that ends where they differ is no longer than another
no-longer : (one other same more one_rest other_rest one_left other_left : List (List ℕ))
    → one ≡ (same ++ more) ++ one_rest → other ≡ (same ++ more) ++ other_rest
    → one ≡ same ++ one_left → other ≡ same ++ other_left → first_in one_left ≢ first_in other_left → more ≡ []
no-longer one other same [] one_rest other_rest one_left other_left one_is other_is one_same other_same apart = refl
no-longer one other same (line ∷ more) one_rest other_rest one_left other_left one_is other_is one_same other_same
    apart =
    absurd (apart (ap first_in (here one one_rest one_left one_is one_same)
    ∙ sym (ap first_in (here other other_rest other_left other_is other_same))))
  where
    here : (text rest left : List (List ℕ)) → text ≡ (same ++ line ∷ more) ++ rest → text ≡ same ++ left
        → left ≡ line ∷ more ++ rest
    here text rest left is left_is =
        tails same left (line ∷ more ++ rest) (sym left_is ∙ is ∙ append_assoc same (line ∷ more) rest)

-- one of two fronts of a list goes on past the other
nested : {X : Type 0} (front other one rest : List X) → front ++ one ≡ other ++ rest
    → ((more : List X) × (other ≡ front ++ more)) ⊎ ((more : List X) × (front ≡ other ++ more))
nested [] other one rest same = inl (other, refl)
nested (x ∷ front) [] one rest same = inr (x ∷ front, refl)
nested (x ∷ front) (y ∷ other) one rest same = more (nested front other one rest (cc)) (cc)
  where
    more : ((tail : List _) × (other ≡ front ++ tail)) ⊎ ((tail : List _) × (front ≡ other ++ tail)) → x ≡ y
        → ((tail : List _) × (y ∷ other ≡ (x ∷ front) ++ tail)) ⊎ ((tail : List _) × (x ∷ front ≡ (y ∷ other) ++ tail))
    more (inl longer) first = inl (longer.0, ap (λ a. a ∷ other) (sym first) ∙ ap (λ xs. x ∷ xs) longer.1)
    more (inr longer) first = inr (longer.0, ap (λ a. a ∷ front) first ∙ ap (λ xs. y ∷ xs) longer.1)

one-line : (one other : List (List ℕ)) (number later : ℕ) → IsFirstDifference one other number
    → IsFirstDifference one other later → number ≡ later
one-line one other number later first second =
    elim (nested first.same second.same first.one_rest second.one_rest (sym first.one_is ∙ second.one_is)) [
      | inl longer ↦ (let none = no-longer one other first.same longer.0 second.one_rest second.other_rest
          first.one_rest first.other_rest
          (second.one_is ∙ ap (λ (xs : List (List ℕ)). xs ++ second.one_rest) longer.1)
          (second.other_is ∙ ap (λ (xs : List (List ℕ)). xs ++ second.other_rest) longer.1)
          first.one_is first.other_is first.differ in counted first second (ends longer.0 longer.1 none))
      | inr longer ↦ (let none = no-longer one other second.same longer.0 first.one_rest first.other_rest
          second.one_rest second.other_rest
          (first.one_is ∙ ap (λ (xs : List (List ℕ)). xs ++ first.one_rest) longer.1)
          (first.other_is ∙ ap (λ (xs : List (List ℕ)). xs ++ first.other_rest) longer.1)
          second.one_is second.other_is second.differ in counted first second (sym (ends-back longer.0 longer.1 none)))
    ]
  where
    counted : (a : IsFirstDifference one other number) (b : IsFirstDifference one other later)
        → length b.same ≡ length a.same → number ≡ later
    counted a b e = omega (arith, a.counted, b.counted, e)

    ends : (more : List (List ℕ)) → second.same ≡ first.same ++ more → more ≡ []
        → length second.same ≡ length first.same
    ends more longer none = ap (λ (xs : List (List ℕ)). length xs)
        (longer ∙ ap (λ (xs : List (List ℕ)). first.same ++ xs) none ∙ append-nil first.same)

    ends-back : (more : List (List ℕ)) → first.same ≡ second.same ++ more → more ≡ []
        → length first.same ≡ length second.same
    ends-back more longer none = ap (λ (xs : List (List ℕ)). length xs)
        (longer ∙ ap (λ (xs : List (List ℕ)). second.same ++ xs) none ∙ append-nil second.same)

-- Verdicts

module _ (site : Site) (report : List ℕ) (reading : Reading) where
  abbrev Verified : Type 0
  Verified = IsReported site report (acts_in reading.told) (stops_in reading.told) reading.end

  -- what is verified isn't rejected
  not-rejected : (number : ℕ) (cause : Why) → Verified → IsRejectedOn site report reading number cause → ⊥
  not-rejected number why.Form is rejected = rejected
  not-rejected number why.Act is rejected = all-possible site reading.told number rejected is.possible
  not-rejected number why.Differs is rejected = same-texts _ _ number rejected.first (ap lines_of is.text)
  not-rejected number why.NotIdle is rejected = rejected.left (is.idle rejected.idle)

  -- and it is rejected once
  one-rejection : (number other : ℕ) (cause later : Why) → IsRejectedOn site report reading number cause
      → IsRejectedOn site report reading other later
      → (number ≡ other) × (cause ≡ later)
  one-rejection number other why.Form later is second = absurd is
  one-rejection number other cause why.Form is second = absurd second
  one-rejection number other why.Act why.Act is second = (one-act site reading.told number other is second, refl)
  one-rejection number other why.Act why.Differs is second =
      absurd (all-possible site reading.told number is second.possible)
  one-rejection number other why.Act why.NotIdle is second =
      absurd (all-possible site reading.told number is second.possible)
  one-rejection number other why.Differs why.Act is second =
      absurd (all-possible site reading.told other second is.possible)
  one-rejection number other why.Differs why.Differs is second = (one-line _ _ number other is.first second.first, refl)
  one-rejection number other why.Differs why.NotIdle is second =
      absurd (same-texts _ _ number is.first (ap lines_of second.text))
  one-rejection number other why.NotIdle why.Act is second =
      absurd (all-possible site reading.told other second is.possible)
  one-rejection number other why.NotIdle why.Differs is second =
      absurd (same-texts _ _ other second.first (ap lines_of is.text))
  one-rejection number other why.NotIdle why.NotIdle is second = (is.last ∙ sym second.last, refl)

  same-on : (one other : Result ℕ VerifyFault) → IsVerdictOn site report reading one
      → IsVerdictOn site report reading other → IsSameVerdict one other
  same-on (Ok count) (Ok later) is second = ap Ok (sym is.1 ∙ second.1)
  same-on (Ok count) (Err (refusal.Rejected number cause)) is second = absurd (not-rejected number cause is.0 second)
  same-on (Ok count) (Err (refusal.NoMemory memory)) is second = tt
  same-on (Err (refusal.Rejected number cause)) (Ok later) is second = absurd (not-rejected number cause second.0 is)
  same-on (Err (refusal.Rejected number cause)) (Err (refusal.Rejected other later)) is second =
      let one = one-rejection number other cause later is second in
      ap₂ (λ (n : ℕ) (c : Why). Err (refusal.Rejected n c)) one.0 one.1
  same-on (Err (refusal.Rejected number cause)) (Err (refusal.NoMemory memory)) is second = tt
  same-on (Err (refusal.NoMemory memory)) other is second = tt

-- how a report is judged: a line has no form, or by a reading
data Judged (site : Site) (report : List ℕ) (verdict : Result ℕ VerifyFault) : Type 0 where
  formless : (number : ℕ) → read_report site report ≡ Err number → verdict ≡ Err (refusal.Rejected number why.Form)
      → Judged site report verdict
  by_lines : (reading : Reading) → read_report site report ≡ Ok reading → IsVerdictOn site report reading verdict
      → Judged site report verdict
  no_memory : (memory : _) → verdict ≡ Err (refusal.NoMemory memory) → Judged site report verdict

judged : (site : Site) (report : List ℕ) (verdict : Result ℕ VerifyFault) → IsVerdict site report verdict
    → Judged site report verdict
judged site report (Ok count) is = by_lines is.0 is.1 is.2
judged site report (Err (refusal.Rejected number why.Form)) is = formless number is refl
judged site report (Err (refusal.Rejected number why.Act)) is = by_lines is.0 is.1 is.2
judged site report (Err (refusal.Rejected number why.Differs)) is = by_lines is.0 is.1 is.2
judged site report (Err (refusal.Rejected number why.NotIdle)) is = by_lines is.0 is.1 is.2
judged site report (Err (refusal.NoMemory memory)) is = no_memory memory refl

either-memory : (one : Result ℕ VerifyFault) (memory : _) → IsSameVerdict one (Err (refusal.NoMemory memory))
either-memory (Ok count) memory = tt
either-memory (Err (refusal.Rejected number cause)) memory = tt
either-memory (Err (refusal.NoMemory other)) memory = tt

itself : (one : Result ℕ VerifyFault) → IsSameVerdict one one
itself (Ok count) = refl
itself (Err (refusal.Rejected number cause)) = refl
itself (Err (refusal.NoMemory memory)) = tt

err-ok : (number : ℕ) (reading : Reading) → ◌≡◌ {A = Result Reading ℕ} (Err number) (Ok reading) → ⊥
err-ok number reading e = cc

pub one-verdict : (site : Site) (report : List ℕ) (one other : Result ℕ VerifyFault) → IsVerdict site report one
    → IsVerdict site report other → IsSameVerdict one other
one-verdict site report one other is second = by (judged site report one is) (judged site report other second)
  where
    by : Judged site report one → Judged site report other → IsSameVerdict one other
    by (no_memory memory e) later = subst (λ (v : Result ℕ VerifyFault). IsSameVerdict v other) (sym e) tt
    by first (no_memory memory e) = subst (IsSameVerdict one) (sym e) (either-memory one memory)
    by (formless number read e) (formless later again f) =
        let same : number ≡ later = of_err (sym read ∙ again) in
        subst (IsSameVerdict one) (e ∙ ap (λ (n : ℕ). Err (refusal.Rejected n why.Form)) same ∙ sym f) (itself one)
      where
        of_err : {m n : ℕ} → ◌≡◌ {A = Result Reading ℕ} (Err m) (Err n) → m ≡ n
        of_err e = cc
    by (formless number read e) (by_lines reading again verdict) = absurd (err-ok number reading (sym read ∙ again))
    by (by_lines reading read verdict) (formless number again f) = absurd (err-ok number reading (sym again ∙ read))
    by (by_lines reading read verdict) (by_lines later again after) =
        let same : reading ≡ later = of_ok (sym read ∙ again) in
        same-on site report reading one other verdict
        (subst (λ (r : Reading). IsVerdictOn site report r other) (sym same) after)
      where
        of_ok : {m n : Reading} → ◌≡◌ {A = Result Reading ℕ} (Ok m) (Ok n) → m ≡ n
        of_ok e = cc

pub verified : (site : Site) (report : List ℕ) (reading : Reading) (verdict : Result ℕ VerifyFault)
    → read_report site report ≡ Ok reading
    → IsReported site report (acts_in reading.told) (stops_in reading.told) reading.end → IsVerdict site report verdict
    → IsSameVerdict verdict (Ok (length (acts_in reading.told)))
verified site report reading verdict read is verdict_is =
    one-verdict site report verdict (Ok (length (acts_in reading.told))) verdict_is (reading, read, (is, refl))
