-- Chains of links, none or more of them one behind the other.
use Rattle.std.specs.Prelude.{ℕ, zero, suc, Bool, List, Option, Some, None, option_map, if◌then◌else◌}
use Rattle.std.specs.Option.{option_and_then}
use Rattle.tal_tokens.specs.declared.token.Token.{Token}

-- a part that is found, and the tokens after it
abbrev pub Found : Type 0 → Type 0
Found X = Option (X × List Token)

-- where no level is left, nothing that opens one is found
abbrev pub no_level : {X : Type 0} → List Token → Found X
no_level ks = None

abbrev pub rest_after : {S X R : Type 0} → R → (S → X → R → R) → (List Token → Found X) → (List Token → Found R)
    → List Token → Found S → Found R
rest_after none more part go ks None = Some (none, ks)
rest_after none more part go ks (Some (s, us)) =
    option_and_then (λ p. option_map (λ r. (more s p.0 r.0, r.1)) (go p.1)) (part us)

-- `{ sign part }`, at most k times, as long as a sign stands there
abbrev pub rest_by : {S X R : Type 0} → R → (S → X → R → R) → (List Token → Found S) → (List Token → Found X) → ℕ
    → List Token → Found R
rest_by none more sign part zero ks = Some (none, ks)
rest_by none more sign part (suc k) ks = rest_after none more part (rest_by none more sign part k) ks (sign ks)

-- `{ part }`, at most k times, as long as one begins
abbrev pub row_by : {X R : Type 0} → R → (X → R → R) → (List Token → Bool) → (List Token → Found X) → ℕ → List Token
    → Found R
row_by none more begins part zero ks = Some (none, ks)
row_by none more begins part (suc k) ks =
    if begins ks then option_and_then (λ p. option_map (λ r. (more p.0 r.0, r.1)) (row_by none more begins part k p.1))
    (part ks) else Some (none, ks)
