-- The adder and the bank are accepted: where they may stand.
use Rattle.std.proofs.Common.{◌≡◌, ℕ, List, [], ◌∷◌, ◌++◌, true, refl, arith}
use Rattle.std.specs.List.{list_all}
use denote.Hole.Carrier.{shown, out}
use Rattle.tal_tree.specs.declared.statement.What.{out-What}
use Rattle.tal_tree.specs.declared.statement.What.TheBlock.{shown-the_row-Statement-0}
use Rattle.process_semantics.specs.State.{runs_of}
use Rattle.path_semantics.specs.declared.dues.Dues.{Dues}
use Rattle.path_semantics.specs.Accepted.{IsAccepted}
use Rattle.path_semantics.specs.Bounds.{IsWithinBounds}
use Rattle.path_semantics.specs.Dues.{no_dues}
use Rattle.path_semantics.specs.Place.{Stand, body_of}
use Rattle.world_semantics.specs.Examples.{adder, adding, bank, banking}
use Rattle.accepted_sites.proofs.Listed.{AreLed, along, behind, ended, is_safe_at, last_in, listed-accepted}

-- MAIN up to its WHILE, a round with the WHILE behind it, and the end
abbrev adder_stands : List Stand
adder_stands =
    along no_dues (body_of adder 0) ++ along no_dues (runs_of adding ++ last_in (body_of adder 0)) ++ ended no_dues ∷ []

-- where in the list each of them leads
abbrev adder_ways : List (List ℕ)
adder_ways =
    (1 ∷ []) ∷ (2 ∷ []) ∷ (3 ∷ 9 ∷ []) ∷ (4 ∷ []) ∷ (5 ∷ []) ∷ (6 ∷ []) ∷ (7 ∷ []) ∷ (2 ∷ []) ∷ (3 ∷ 9 ∷ []) ∷ [] ∷ []

adder-led : AreLed adder adder_stands adder_ways
unfolding out-What shown-the_row-Statement-0 shown out
adder-led = refl

adder-safe : list_all (is_safe_at adder) adder_stands ≡ true
unfolding out-What shown-the_row-Statement-0 shown out
adder-safe = refl

adder-bounds : IsWithinBounds adder
unfolding out-What shown-the_row-Statement-0 shown out
adder-bounds = record { depth = omega arith; size = omega arith }

pub adder-accepted : IsAccepted adder
adder-accepted = listed-accepted adder adder_stands adder_ways adder-bounds refl adder-led adder-safe

-- what is due behind a round of the bank
abbrev after_round : Dues
after_round = behind no_dues (runs_of banking)

-- MAIN up to its WHILE, the first round and a later one with the WHILE behind each, and the ends
abbrev bank_stands : List Stand
bank_stands =
    along no_dues (body_of bank 0) ++ along no_dues (runs_of banking ++ last_in (body_of bank 0))
    ++ along after_round (runs_of banking ++ last_in (body_of bank 0)) ++ ended no_dues ∷ ended after_round ∷ []

abbrev bank_ways : List (List ℕ)
bank_ways =
    (1 ∷ []) ∷ (2 ∷ []) ∷ (3 ∷ []) ∷ (4 ∷ 24 ∷ []) ∷ (5 ∷ []) ∷ (6 ∷ []) ∷ (7 ∷ []) ∷ (8 ∷ []) ∷ (9 ∷ []) ∷ (10 ∷ [])
    ∷ (11 ∷ []) ∷ (12 ∷ []) ∷ (13 ∷ [])
    ∷ (14 ∷ 25 ∷ []) ∷ (15 ∷ []) ∷ (16 ∷ []) ∷ (17 ∷ []) ∷ (18 ∷ []) ∷ (19 ∷ []) ∷ (20 ∷ []) ∷ (21 ∷ []) ∷ (22 ∷ [])
    ∷ (23 ∷ []) ∷ (14 ∷ 25 ∷ [])
    ∷ [] ∷ [] ∷ []

bank-led : AreLed bank bank_stands bank_ways
unfolding out-What shown-the_row-Statement-0 shown out
bank-led = refl

bank-safe : list_all (is_safe_at bank) bank_stands ≡ true
unfolding out-What shown-the_row-Statement-0 shown out
bank-safe = refl

bank-bounds : IsWithinBounds bank
unfolding out-What shown-the_row-Statement-0 shown out
bank-bounds = record { depth = omega arith; size = omega arith }

pub bank-accepted : IsAccepted bank
bank-accepted = listed-accepted bank bank_stands bank_ways bank-bounds refl bank-led bank-safe
