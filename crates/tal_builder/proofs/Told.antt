-- What is known of a part that may be found.
use Rattle.std.proofs.Common.{◌≡◌, ℕ, ◌+◌, ◌≤◌, Bool, true, false, cond, zero, suc, List, Some, None, ap, ◌∙◌, arith}
use Rattle.std.specs.Prelude.{Option, option_map}
use Rattle.std.specs.Option.{MatchOption, option_and_then}
use Rattle.tal_tokens.specs.declared.token.Token.{Token}
use Rattle.tal_syntax.specs.Expected.{AllAtMost}
use Rattle.tal_builder.specs.Parse.{Found, rest_by, rest_after, row_by}

pub record Told {X : Type 0} (o : Option X) (P : X → Type 0) : Type 0 where
  pub told : MatchOption o (Unit {0}) P

pub and_then : {X Y : Type 0} {P : X → Type 0} {Q : Y → Type 0} (o : Option X) (f : X → Option Y)
    → Told o P → ((x : X) → P x → Told (f x) Q) → Told (option_and_then f o) Q
and_then None f h g = record { told = tt }
and_then (Some x) f h g = g x h.told

pub mapped : {X Y : Type 0} {P : X → Type 0} {Q : Y → Type 0} (o : Option X) (f : X → Y)
    → Told o P → ((x : X) → P x → Q (f x)) → Told (option_map f o) Q
mapped None f h g = record { told = tt }
mapped (Some x) f h g = record { told = g x h.told }

pub weaker : {X : Type 0} {P : X → Type 0} {Q : X → Type 0} (o : Option X) → Told o P → ((x : X) → P x → Q x) → Told o Q
weaker None h g = record { told = tt }
weaker (Some x) h g = record { told = g x h.told }

pub told_of : {X : Type 0} {P : X → Type 0} (o : Option X) (x : X) → Told o P → o ≡ Some x → P x
told_of {P = P} o x h e = rw e at h.told

-- in r more levels, wherever a part stands, its tokens stand no deeper than allowed
abbrev pub Within : {X : Type 0} → (ℕ → X → List ℕ → List ℕ) → ℕ → X → Type 0
Within nest r x = (n m : ℕ) (ls : List ℕ) → n + r ≤ m → AllAtMost m ls → AllAtMost m (nest n x ls)

-- the same of a part that opens the first of them
abbrev pub Below : {X : Type 0} → (ℕ → X → List ℕ → List ℕ) → ℕ → X → Type 0
Below nest r x =
    (n m : ℕ) → n + r ≤ m → (suc n ≤ m) × ((ls : List ℕ) → AllAtMost m ls → AllAtMost m (nest (suc n) x ls))

pub below : {X : Type 0} (nest : ℕ → X → List ℕ → List ℕ) (r : ℕ) (x : X) → Within nest r x → Below nest (suc r) x
below nest r x w n m l = (omega (arith, l), λ ls a. w (suc n) m ls (omega (arith, l)) a)

pub stands : (n r m : ℕ) → n + r ≤ m → n ≤ m
stands n r m l = omega (arith, l)

-- a part is found in its tokens, and Fits
abbrev pub Reads : {X : Type 0} → (X → List Token → List Token) → (X → Type 0) → (List Token → Found X) → Type 0
Reads of_x Fits reader = (ks : List Token) → Told (reader ks) (λ r. (of_x r.0 r.1 ≡ ks) × Fits r.0)

module _ {S X R : Type 0} (none : R) (more : S → X → R → R) (sign : List Token → Found S) (part : List Token → Found X)
    (of_s : S → List Token → List Token) (of_x : X → List Token → List Token) (of_r : R → List Token → List Token)
    (Fits : X → Type 0) (Fit : R → Type 0) where
  pub record Chain : Type 0 where
    pub starts : (ks : List Token) → of_r none ks ≡ ks
    pub fits : Fit none
    pub goes_on : (s : S) (x : X) (r : R) (ks : List Token) → of_r (more s x r) ks ≡ of_s s (of_x x (of_r r ks))
    pub fits_on : (s : S) (x : X) (r : R) → Fits x → Fit r → Fit (more s x r)
    pub signs : (ks : List Token) → Told (sign ks) (λ r. of_s r.0 r.1 ≡ ks)
    pub parts : (ks : List Token) → Told (part ks) (λ r. (of_x r.0 r.1 ≡ ks) × Fits r.0)

  link : Chain → (go : List Token → Found R) → ((us : List Token) → Told (go us) (λ r. (of_r r.0 r.1 ≡ us) × Fit r.0))
      → (ks : List Token) (o : Found S)
      → Told o (λ r. of_s r.0 r.1 ≡ ks) → Told (rest_after none more part go ks o) (λ r. (of_r r.0 r.1 ≡ ks) × Fit r.0)
  link c go known ks None h = record { told = (c.starts ks, c.fits) }
  link c go known ks (Some (s, us)) h =
      and_then (part us) _ (c.parts us) (λ p q. mapped (go p.1) _ (known p.1) (λ r w. (
        c.goes_on s p.0 r.0 r.1 ∙ ap (λ t. of_s s (of_x p.0 t)) w.0 ∙ ap (of_s s) q.0
            ∙ h.told,
        c.fits_on s p.0 r.0 q.1 w.1,
      )))

  -- a chain has the tokens in which it is found
  pub chain : Chain → (k : ℕ) (ks : List Token)
      → Told (rest_by none more sign part k ks) (λ r. (of_r r.0 r.1 ≡ ks) × Fit r.0)
  chain c zero ks = record { told = (c.starts ks, c.fits) }
  chain c (suc k) ks = link c (rest_by none more sign part k) (chain c k) ks (sign ks) (c.signs ks)

module _ {X R : Type 0} (none : R) (more : X → R → R) (begins : List Token → Bool) (part : List Token → Found X)
    (of_x : X → List Token → List Token) (of_r : R → List Token → List Token) (Fits : X → Type 0)
    (Fit : R → Type 0) where
  pub record Rows : Type 0 where
    pub starts : (ks : List Token) → of_r none ks ≡ ks
    pub fits : Fit none
    pub goes_on : (x : X) (r : R) (ks : List Token) → of_r (more x r) ks ≡ of_x x (of_r r ks)
    pub fits_on : (x : X) (r : R) → Fits x → Fit r → Fit (more x r)
    pub parts : (ks : List Token) → Told (part ks) (λ r. (of_x r.0 r.1 ≡ ks) × Fits r.0)

  one_more : Rows → (k : ℕ) → ((us : List Token)
      → Told (row_by none more begins part k us) (λ r. (of_r r.0 r.1 ≡ us) × Fit r.0)) → (ks : List Token) (b : Bool)
      → Told {X = R × List Token} (cond b (option_and_then
      (λ p. option_map (λ r. (more p.0 r.0, r.1)) (row_by none more begins part k p.1)) (part ks)) (Some (none, ks)))
      (λ r. (of_r r.0 r.1 ≡ ks) × Fit r.0)
  one_more c k known ks false = record { told = (c.starts ks, c.fits) }
  one_more c k known ks true =
      and_then (part ks) _ (c.parts ks) (λ p q. mapped (row_by none more begins part k p.1) _ (known p.1) (λ r w.
      (c.goes_on p.0 r.0 r.1 ∙ ap (of_x p.0) w.0 ∙ q.0, c.fits_on p.0 r.0 q.1 w.1)))

  -- a row has the tokens in which it is found
  pub row : Rows → (k : ℕ) (ks : List Token)
      → Told (row_by none more begins part k ks) (λ r. (of_r r.0 r.1 ≡ ks) × Fit r.0)
  row c zero ks = record { told = (c.starts ks, c.fits) }
  row c (suc k) ks = one_more c k (row c k) ks (begins ks)
