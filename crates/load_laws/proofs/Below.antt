-- What holds of each number below a bound.
use Rattle.std.proofs.Common.{◌≡◌, ◌<◌, ◌≤◌, ⊎_elim, ℕ, zero, suc, ◌&&◌, Bool, true, subst, arith}
use Rattle.std.proofs.lemmas.Bool.{cases_lt}
use Rattle.deck_reader.specs.Decks.{EachWith}
use Rattle.deck_reader.proofs.EachLemmas.{each_more}
use Rattle.accepted_sites.proofs.Listed.{both}
use Rattle.load_laws.specs.LoadDeck.{each_below}

-- one after another, from 0 on
abbrev pub AllBelow : (ℕ → Type 0) → ℕ → Type 0
AllBelow P zero = Unit {0}
AllBelow P (suc number) = AllBelow P number × P number

-- each of them passes
abbrev pub all_below : (ℕ → Bool) → ℕ → Bool
all_below passes zero = true
all_below passes (suc number) = all_below passes number && passes number

pub passes-below : (passes : ℕ → Bool) (bound number : ℕ) → all_below passes bound ≡ true → number < bound
    → passes number ≡ true
passes-below passes zero number all below = absurd (omega arith)
passes-below passes (suc bound) number all below =
    let parts = both (all_below passes bound) (passes bound) all in
    ⊎_elim (λ (less : number < bound). passes-below passes bound number parts.0 less)
    (λ (least : bound ≤ number). let same : bound ≡ number = omega arith in
    subst (λ (n : ℕ). passes n ≡ true) same parts.1) (cases_lt number bound)

pub so-below : (P Q : ℕ → Type 0) → ((number : ℕ) → P number → Q number) → (bound : ℕ) → AllBelow P bound
    → AllBelow Q bound
so-below P Q so zero all = tt
so-below P Q so (suc number) all = (so-below P Q so number all.0, so number all.1)

pub each-with : {X Y : Type 0} (R : X → Y → Type 0) (x : ℕ → X) (y : ℕ → Y) (bound : ℕ)
    → AllBelow (λ number. R (x number) (y number)) bound
    → EachWith R (each_below x bound) (each_below y bound)
each-with R x y zero all = tt
each-with R x y (suc number) all =
    each_more R (each_below x number) (each_below y number) (x number) (y number) (each-with R x y number all.0) all.1
