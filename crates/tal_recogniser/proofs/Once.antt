-- Tokens are judged in one way.
use Rattle.std.proofs.Common.{◌≡◌, ◌⊎◌, inl, inr, ℕ, zero, suc, ◌+◌, ◌<◌, ◌≤◌, List, [], ◌∷◌, ◌++◌, length, take}
use Rattle.std.proofs.Common.{get_or, Option, Some, None, refl, sym, ap, ◌∙◌, arith, append_assoc, append-nil}
use Rattle.std.proofs.lemmas.List.{length-take-le, take_all}
use Rattle.tal_tokens.specs.declared.token.Token.{Token}
use Rattle.tal_syntax.specs.Nesting.{nest_text}
use Rattle.tal_syntax.specs.Expected.{AllAtMost, Viable, IsWithin, Begins, IsUnexpected, IsTooDeep, too_deep}
use Rattle.tal_syntax.specs.Expected.{IsUnfinished}
use Rattle.tal_recogniser.specs.ExpressionTable.{Stack}
use Rattle.tal_recogniser.specs.Machine.{trace, start}
use Rattle.tal_recogniser.specs.Judged.{Judged}
use Rattle.tal_tokens.specs.gd_words.specs.declared.limits.TheConstants.{MOST_LEVELS as deepest}
use Rattle.tal_recogniser.specs.declared.judgement.Judgement.{Judgement}
use Rattle.tal_recogniser.specs.declared.judgement.Judgement.TheVariants.{Fine, Unfinished, Unexpected, TooDeep}
use Rattle.tal_recogniser.proofs.Exact.{front-levels, not-viable}
use Rattle.tal_recogniser.proofs.CompleteTexts.{complete-text}
use Rattle.tal_recogniser.proofs.Ended.{ended}

-- a front of a front
front-of : (ks : List Token) (i j : ℕ) → i ≤ j → (rest : List Token) × (take j ks ≡ take i ks ++ rest)
front-of ks zero j h = (take j ks, refl)
front-of ks (suc i) zero h = absurd (omega arith)
front-of [] (suc i) (suc j) h = ([], refl)
front-of (k ∷ ks) (suc i) (suc j) h = let r = front-of ks i j (omega arith) in (r.0, ap (λ l. k ∷ l) r.1)

fewer : (ks : List Token) (i j : ℕ) → i ≤ j → length (take i ks) ≤ length (take j ks)
fewer ks zero j h = omega arith
fewer ks (suc i) zero h = absurd (omega arith)
fewer [] (suc i) (suc j) h = omega arith
fewer (k ∷ ks) (suc i) (suc j) h =
    let r : length (take i ks) ≤ length (take j ks) = fewer ks i j (omega arith) in omega arith

all-fewer : (m : ℕ) (ls : List ℕ) (i j : ℕ) → i ≤ j → AllAtMost m (take j ls) → AllAtMost m (take i ls)
all-fewer m ls zero j h a = tt
all-fewer m ls (suc i) zero h a = absurd (omega arith)
all-fewer m [] (suc i) (suc j) h a = tt
all-fewer m (l ∷ ls) (suc i) (suc j) h a = (a.0, all-fewer m ls i j (omega arith) a.1)

all-get : (m : ℕ) (ls : List ℕ) (k : ℕ) → AllAtMost m (take (suc k) ls) → get_or ls k 0 ≤ m
all-get m [] k a = omega arith
all-get m (l ∷ ls) zero a = a.0
all-get m (l ∷ ls) (suc k) a = all-get m ls k a.1

begins-fewer : (m : ℕ) (ks : List Token) (i j : ℕ) → i ≤ j → Begins m (take j ks) → Begins m (take i ks)
begins-fewer m ks i j h (t, more, n, e, a) =
    let r = front-of ks i j h in (
      t,
      r.0 ++ more,
      n,
      e ∙ ap (λ l. l ++ more) r.1 ∙ append_assoc (take i ks) r.0 more,
      all-fewer m (nest_text t) (length (take i ks)) (length (take j ks)) (fewer ks i j h) a,
    )

viable-begins : (m : ℕ) (ks : List Token) → Begins m ks → Viable ks
viable-begins m ks (t, more, n, e, a) = (t, more, n, e)

reached-by : (ks : List Token) (o : Option Stack) → (trace start ks).0 ≡ o → Viable ks
    → (ss : Stack) × ((trace start ks).0 ≡ Some ss)
reached-by ks None r v = absurd (not-viable ks r v)
reached-by ks (Some ss) r v = (ss, r)

-- what stands too deep does so in each text that begins alike
not-within : (m : ℕ) (ks : List Token) (k : ℕ) → IsTooDeep m ks k → Begins m (take (k + 1) ks) → ⊥
not-within m ks k (too_deep t more h n e a deep) (u, rest, nu, eu, au) =
    let r = reached-by (take (k + 1) ks) (trace start (take (k + 1) ks)).0 refl (t, more, n, e) in
    let same : take (length (take (k + 1) ks)) (nest_text t) ≡ take (length (take (k + 1) ks)) (nest_text u) =
    front-levels t (take (k + 1) ks) more r.0 n e r.1 ∙ sym (front-levels u (take (k + 1) ks) rest r.0 nu eu r.1) in
    let all : AllAtMost m (take (length (take (k + 1) ks)) (nest_text t)) = rw same au in
    let long : length (take (k + 1) ks) ≡ suc k = length-take-le (k + 1) ks (omega arith) ∙ omega arith in
    let few : get_or (nest_text t) k 0 ≤ m = all-get m (nest_text t) k (rw long at all) in
    omega arith

-- how far tokens begin a text within the levels
pub data Reach (m : ℕ) (ks : List Token) (k : ℕ) : Type 0 where
  reach : k < length ks → Begins m (take k ks) → (Begins m (take (k + 1) ks) → ⊥) → Reach m ks k

reach-unexpected : (m : ℕ) (ks : List Token) (k : ℕ) → IsUnexpected m ks k → Reach m ks k
reach-unexpected m ks k u = reach u.there u.before (λ b. u.after (viable-begins m (take (k + 1) ks) b))

reach-deep : (m : ℕ) (ks : List Token) (k : ℕ) → IsTooDeep m ks k → Reach m ks k
reach-deep m ks k (too_deep t more h n e a deep) =
    let r = front-of ks k (k + 1) (omega arith) in
    let long : length (take k ks) ≡ k = length-take-le k ks (omega arith) in
    reach h (t, r.0 ++ more, n, e ∙ ap (λ l. l ++ more) r.1 ∙ append_assoc (take k ks) r.0 more, rw long a)
    (λ b. not-within m ks k (too_deep t more h n e a deep) b)

apart-suc : (i j : ℕ) → (i ≡ j) ⊎ ((i < j) ⊎ (j < i)) → (suc i ≡ suc j) ⊎ ((suc i < suc j) ⊎ (suc j < suc i))
apart-suc i j (inl e) = inl (ap suc e)
apart-suc i j (inr (inl h)) = inr (inl (omega arith))
apart-suc i j (inr (inr h)) = inr (inr (omega arith))

apart : (i j : ℕ) → (i ≡ j) ⊎ ((i < j) ⊎ (j < i))
apart zero zero = inl refl
apart zero (suc j) = inr (inl (omega arith))
apart (suc i) zero = inr (inr (omega arith))
apart (suc i) (suc j) = apart-suc i j (apart i j)

one-of : (m : ℕ) (ks : List Token) (i j : ℕ) → Reach m ks i → Reach m ks j → (i ≡ j) ⊎ ((i < j) ⊎ (j < i)) → i ≡ j
one-of m ks i j r q (inl e) = e
one-of m ks i j (reach h b n) (reach g c o) (inr (inl l)) = absurd (n (begins-fewer m ks (i + 1) j (omega arith) c))
one-of m ks i j (reach h b n) (reach g c o) (inr (inr l)) = absurd (o (begins-fewer m ks (j + 1) i (omega arith) b))

one-reach : (m : ℕ) (ks : List Token) (i j : ℕ) → Reach m ks i → Reach m ks j → i ≡ j
one-reach m ks i j r q = one-of m ks i j r q (apart i j)

-- what begins a text to its end stops nowhere before
no-reach : (m : ℕ) (ks : List Token) (k : ℕ) → Begins m ks → Reach m ks k → ⊥
no-reach m ks k b (reach h c n) =
    n (begins-fewer m ks (k + 1) (length ks) (omega arith) (rw (take_all (length ks) ks (omega arith)) b))

all-take : (m : ℕ) (ls : List ℕ) (i : ℕ) → AllAtMost m ls → AllAtMost m (take i ls)
all-take m ls zero a = tt
all-take m [] (suc i) a = tt
all-take m (l ∷ ls) (suc i) a = (a.0, all-take m ls i a.1)

within-begins : (m : ℕ) (ks : List Token) → IsWithin m ks → Begins m ks
within-begins m ks (t, n, e, a) = (t, [], n, e ∙ sym (append-nil ks), all-take m (nest_text t) (length ks) a)

-- a text has its end
no-end : (m : ℕ) (ks : List Token) → IsWithin m ks → IsUnfinished m ks → ⊥
no-end m ks (t, n, e, a) u =
    let r = ended ks (ap (λ l. (trace start l).0) (sym e) ∙ ap (λ v. v.0) (complete-text t n)) in
    u.endless r.0 r.1 r.2

-- a text goes on after what stands too deep
deep-viable : (m : ℕ) (ks : List Token) (k : ℕ) → IsTooDeep m ks k → Viable (take (k + 1) ks)
deep-viable m ks k (too_deep t more h n e a deep) = (t, more, n, e)

not-both : (m : ℕ) (ks : List Token) (i j : ℕ) → IsUnexpected m ks i → IsTooDeep m ks j → ⊥
not-both m ks i j u d =
    let same : i ≡ j = one-reach m ks i j (reach-unexpected m ks i u) (reach-deep m ks j d) in
    u.after (rw same (deep-viable m ks j d))

pub one_judgement : (ks : List Token) (i j : Judgement) → Judged ks i → Judged ks j → i ≡ j
one_judgement ks Fine Fine a b = refl
one_judgement ks Fine Unfinished a b = absurd (no-end deepest ks a b)
one_judgement ks Fine (Unexpected j) a b =
    absurd (no-reach deepest ks j (within-begins deepest ks a) (reach-unexpected deepest ks j b))
one_judgement ks Fine (TooDeep j) a b =
    absurd (no-reach deepest ks j (within-begins deepest ks a) (reach-deep deepest ks j b))
one_judgement ks Unfinished Fine a b = absurd (no-end deepest ks b a)
one_judgement ks Unfinished Unfinished a b = refl
one_judgement ks Unfinished (Unexpected j) a b =
    absurd (no-reach deepest ks j a.begins (reach-unexpected deepest ks j b))
one_judgement ks Unfinished (TooDeep j) a b = absurd (no-reach deepest ks j a.begins (reach-deep deepest ks j b))
one_judgement ks (Unexpected i) Fine a b =
    absurd (no-reach deepest ks i (within-begins deepest ks b) (reach-unexpected deepest ks i a))
one_judgement ks (Unexpected i) Unfinished a b =
    absurd (no-reach deepest ks i b.begins (reach-unexpected deepest ks i a))
one_judgement ks (Unexpected i) (Unexpected j) a b =
    ap Unexpected (one-reach deepest ks i j (reach-unexpected deepest ks i a) (reach-unexpected deepest ks j b))
one_judgement ks (Unexpected i) (TooDeep j) a b = absurd (not-both deepest ks i j a b)
one_judgement ks (TooDeep i) Fine a b =
    absurd (no-reach deepest ks i (within-begins deepest ks b) (reach-deep deepest ks i a))
one_judgement ks (TooDeep i) Unfinished a b = absurd (no-reach deepest ks i b.begins (reach-deep deepest ks i a))
one_judgement ks (TooDeep i) (Unexpected j) a b = absurd (not-both deepest ks j i b a)
one_judgement ks (TooDeep i) (TooDeep j) a b =
    ap TooDeep (one-reach deepest ks i j (reach-deep deepest ks i a) (reach-deep deepest ks j b))
