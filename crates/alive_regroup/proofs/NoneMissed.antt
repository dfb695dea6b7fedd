-- Where the last check missed no processor, none is silent after the next tick.
use Rattle.std.specs.List.{list_all}
use Rattle.std.specs.Option.{option_map, unwrap_or}
use Rattle.std.proofs.Common.{◌≡◌, ℕ, zero, suc, ◌&&◌, not, nat_lt, Bool, true, false, List, [], ◌∷◌, map, slice_get}
use Rattle.std.proofs.Common.{refl}
use Rattle.std.proofs.Common.{if◌then◌else◌}
use Rattle.alive_regroup.specs.declared.neighbour.Missed.TheVariants as missed
use Rattle.alive_regroup.specs.declared.neighbour.Neighbour.{Neighbour}
use Rattle.alive_regroup.specs.declared.neighbour.Neighbour.TheVariants.{Absent, Up, Down}
use Rattle.alive_regroup.specs.Watching.{Watching, after_check, after_tick, agrees, all_but, does_check, is_coordinator}
use Rattle.alive_regroup.specs.Watching.{is_held, is_missed, is_silent, is_silent_at, misses_none}
use Rattle.alive_regroup.specs.Watching.{neighbour_after_check}

heard-of : (one : Neighbour) → not (is_missed one) ≡ true
    → (is_silent one ≡ false) × (is_silent (neighbour_after_check one) ≡ false)
heard-of Absent none = (refl, refl)
heard-of (Down came) none = (refl, refl)
heard-of (Up true missed.None report) none = (refl, refl)
heard-of (Up false missed.None report) none = (refl, refl)
heard-of (Up came missed.One report) none = absurd (cc)
heard-of (Up came missed.More report) none = absurd (cc)

pub first-of : (a b : Bool) → (a && b) ≡ true → (a ≡ true) × (b ≡ true)
first-of true true both = (refl, refl)
first-of true false both = absurd (cc)
first-of false b both = absurd (cc)

none-now : (all : List Neighbour) (k : ℕ) → list_all (λ one. not (is_missed one)) all ≡ true
    → unwrap_or (option_map is_silent (slice_get all k)) false ≡ false
none-now [] zero none = refl
none-now [] (suc k) none = refl
none-now (one ∷ all) zero none = (heard-of one (first-of _ _ none).0).0
none-now (one ∷ all) (suc k) none = none-now all k (first-of _ _ none).1

none-checked : (all : List Neighbour) (k : ℕ) → list_all (λ one. not (is_missed one)) all ≡ true
    → unwrap_or (option_map is_silent (slice_get (map neighbour_after_check all) k)) false ≡ false
none-checked [] zero none = refl
none-checked [] (suc k) none = refl
none-checked (one ∷ all) zero none = (heard-of one (first-of _ _ none).0).1
none-checked (one ∷ all) (suc k) none = none-checked all k (first-of _ _ none).1

none-silent : (w : Watching) (processor : ℕ) (checks : Bool)
    → list_all (λ one. not (is_missed one)) w.neighbours ≡ true
    → is_silent_at processor (if checks then after_check w else record w { checks = true }) ≡ false
none-silent w processor true none = none-checked w.neighbours processor none
none-silent w processor false none = none-now w.neighbours processor none

not-held : (w : Watching) (processor : ℕ) (high silent : Bool) → silent ≡ false
    → (high && silent && is_coordinator processor w && all_but processor (agrees processor) w.neighbours) ≡ false
not-held w processor true true none = absurd (cc)
not-held w processor false true none = absurd (cc)
not-held w processor true false none = refl
not-held w processor false false none = refl

pub none-held : (w : Watching) → misses_none w ≡ true → (processor : ℕ)
    → is_held processor (after_tick w) ≡ false
none-held w none processor =
    not-held (after_tick w) processor (nat_lt (after_tick w).me 16) (is_silent_at processor (after_tick w))
    (none-silent w processor (does_check w) none)
