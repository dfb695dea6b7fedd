-- One turn of a loop that reads a chain: the links so far before what is left.
use Rattle.std.proofs.Common.{◌≡◌, ℕ, Bool, true, false, cond, zero, suc, List, [], ◌∷◌, ◌++◌, Some, None, refl, sym}
use Rattle.std.proofs.Common.{ap, ◌∙◌}
use Rattle.std.specs.Prelude.{option_map}
use Rattle.std.specs.Option.{option_and_then}
use Rattle.tal_tokens.specs.declared.token.Token.{Token}
use Rattle.tal_syntax.specs.Seen.{chained}
use Rattle.tal_builder.specs.Parse.{Found, rest_by, rest_after, row_by}

-- links before a chain that is found
abbrev pub onto : {T R : Type 0} → (T → R → R) → List T → Found R → Found R
onto link all found = option_map (λ r. (chained link all r.0, r.1)) found

pub onto-none : {T R : Type 0} (link : T → R → R) (found : Found R) → onto link [] found ≡ found
onto-none link None = refl
onto-none link (Some r) = refl

chained-last : {T R : Type 0} (link : T → R → R) (all : List T) (t : T) (r : R)
    → chained link (all ++ t ∷ []) r ≡ chained link all (link t r)
chained-last link [] t r = refl
chained-last link (u ∷ all) t r = ap (link u) (chained-last link all t r)

onto-last : {T R : Type 0} (link : T → R → R) (all : List T) (t : T) (step : R → R)
    (same : (r : R) → link t r ≡ step r) (found : Found R)
    → onto link all (option_map (λ r. (step r.0, r.1)) found) ≡ onto link (all ++ t ∷ []) found
onto-last link all t step same None = refl
onto-last link all t step same (Some r) =
    ap (λ x. Some (x, r.1)) (ap (chained link all) (sym (same r.0)) ∙ sym (chained-last link all t r.0))

module _ {T S X R : Type 0} (link : T → R → R) (none : R) (more : S → X → R → R) (sign : List Token → Found S)
    (part : List Token → Found X) where
  -- the chain ends where no sign stands
  pub ends : (all : List T) (n : ℕ) (rest : List Token) → sign rest ≡ None
      → onto link all (rest_by none more sign part n rest) ≡ Some (chained link all none, rest)
  ends all zero rest e = refl
  ends all (suc n) rest e = ap (λ s. onto link all (rest_after none more part (rest_by none more sign part n) rest s)) e

  -- one more link
  pub turns : (all : List T) (n m : ℕ) (rest us vs : List Token) (s : S) (x : X) (t : T) → n ≡ suc m
      → sign rest ≡ Some (s, us) → part us ≡ Some (x, vs)
      → ((r : R) → link t r ≡ more s x r)
      → onto link all (rest_by none more sign part n rest)
      ≡ onto link (all ++ t ∷ []) (rest_by none more sign part m vs)
  turns all n m rest us vs s x t count e f same =
      ap (λ k. onto link all (rest_by none more sign part k rest)) count
      ∙ ap (λ o. onto link all (rest_after none more part (rest_by none more sign part m) rest o)) e
      ∙ ap (λ o. onto link all (option_and_then
      (λ p. option_map (λ r. (more s p.0 r.0, r.1)) (rest_by none more sign part m p.1)) o)) f
      ∙ onto-last link all t (more s x) same (rest_by none more sign part m vs)

  -- no link where its part isn't found
  pub fails : (all : List T) (n m : ℕ) (rest us : List Token) (s : S) → n ≡ suc m → sign rest ≡ Some (s, us)
      → part us ≡ None
      → onto link all (rest_by none more sign part n rest) ≡ None
  fails all n m rest us s count e f =
      ap (λ k. onto link all (rest_by none more sign part k rest)) count
      ∙ ap (λ o. onto link all (rest_after none more part (rest_by none more sign part m) rest o)) e
      ∙ ap (λ o. onto link all (option_and_then
      (λ p. option_map (λ r. (more s p.0 r.0, r.1)) (rest_by none more sign part m p.1)) o)) f

module _ {T X R : Type 0} (link : T → R → R) (none : R) (more : X → R → R) (begins : List Token → Bool)
    (part : List Token → Found X) where
  abbrev step : ℕ → Found X → Found R
  step m o = option_and_then (λ p. option_map (λ r. (more p.0 r.0, r.1)) (row_by none more begins part m p.1)) o

  -- the row ends where none begins
  pub row_ends : (all : List T) (n : ℕ) (rest : List Token) → begins rest ≡ false
      → onto link all (row_by none more begins part n rest) ≡ Some (chained link all none, rest)
  row_ends all zero rest e = refl
  row_ends all (suc n) rest e = ap (λ b. onto link all (cond b (step n (part rest)) (Some (none, rest)))) e

  -- one more in the row
  pub row_turns : (all : List T) (n m : ℕ) (rest vs : List Token) (x : X) (t : T) → n ≡ suc m → begins rest ≡ true
      → part rest ≡ Some (x, vs)
      → ((r : R) → link t r ≡ more x r)
      → onto link all (row_by none more begins part n rest)
      ≡ onto link (all ++ t ∷ []) (row_by none more begins part m vs)
  row_turns all n m rest vs x t count e f same =
      ap (λ k. onto link all (row_by none more begins part k rest)) count
      ∙ ap (λ b. onto link all (cond b (step m (part rest)) (Some (none, rest)))) e
      ∙ ap (λ o. onto link all (step m o)) f
      ∙ onto-last link all t (more x) same (row_by none more begins part m vs)

  -- nothing where the next isn't found
  pub row_fails : (all : List T) (n m : ℕ) (rest : List Token) → n ≡ suc m → begins rest ≡ true → part rest ≡ None
      → onto link all (row_by none more begins part n rest) ≡ None
  row_fails all n m rest count e f =
      ap (λ k. onto link all (row_by none more begins part k rest)) count
      ∙ ap (λ b. onto link all (cond b (step m (part rest)) (Some (none, rest)))) e
      ∙ ap (λ o. onto link all (step m o)) f
