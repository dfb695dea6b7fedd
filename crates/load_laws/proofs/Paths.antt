-- The programs of the banks are accepted: where they may stand.
use Rattle.std.proofs.Common.{◌≡◌, ℕ, List, [], ◌∷◌, ◌++◌, true, refl, arith}
use Rattle.std.specs.List.{list_all}
use denote.Hole.Carrier.{shown, out, hidden}
use Rattle.tal_tree.specs.declared.statement.What.{out-What}
use Rattle.tal_tree.specs.declared.statement.What.TheBlock.{shown-the_row-Statement-0, shape-the_row-Statement-0}
use Rattle.tal_tree.specs.declared.statement.What.TheBlock.{hidden-the_row-Statement-0}
use Rattle.process_semantics.specs.State.{Entry, runs_of}
use Rattle.path_semantics.specs.declared.dues.Dues.{Dues}
use Rattle.path_semantics.specs.Accepted.{IsAccepted}
use Rattle.path_semantics.specs.Bounds.{IsWithinBounds}
use Rattle.path_semantics.specs.Dues.{no_dues}
use Rattle.path_semantics.specs.Place.{Stand, body_of}
use Rattle.accepted_sites.proofs.Listed.{AreLed, along, behind, ended, is_safe_at, last_in, listed-accepted}
use Rattle.load_laws.specs.LoadDeck.{bank_program, serving}

-- what is due behind a round
abbrev after_round : ℕ → Dues
after_round sector = behind no_dues (runs_of (serving sector))

-- a round and the WHILE behind it
abbrev round : ℕ → ℕ → List Entry
round disc sector = runs_of (serving sector) ++ last_in (body_of (bank_program disc sector) 0)

-- MAIN up to its WHILE, the first round and a later one with the WHILE behind each, and the ends
abbrev stands : ℕ → ℕ → List Stand
stands disc sector =
    along no_dues (body_of (bank_program disc sector) 0) ++ along no_dues (round disc sector)
    ++ along (after_round sector) (round disc sector)
    ++ ended no_dues ∷ ended (after_round sector) ∷ []

-- where in the list each of them leads
abbrev ways : List (List ℕ)
ways =
    (1 ∷ []) ∷ (2 ∷ []) ∷ (3 ∷ []) ∷ (4 ∷ 24 ∷ []) ∷ (5 ∷ []) ∷ (6 ∷ []) ∷ (7 ∷ []) ∷ (8 ∷ []) ∷ (9 ∷ []) ∷ (10 ∷ [])
    ∷ (11 ∷ []) ∷ (12 ∷ []) ∷ (13 ∷ [])
    ∷ (14 ∷ 25 ∷ []) ∷ (15 ∷ []) ∷ (16 ∷ []) ∷ (17 ∷ []) ∷ (18 ∷ []) ∷ (19 ∷ []) ∷ (20 ∷ []) ∷ (21 ∷ []) ∷ (22 ∷ [])
    ∷ (23 ∷ []) ∷ (14 ∷ 25 ∷ [])
    ∷ [] ∷ [] ∷ []

led : (disc sector : ℕ) → AreLed (bank_program disc sector) (stands disc sector) ways
unfolding out-What shown-the_row-Statement-0 shape-the_row-Statement-0 hidden-the_row-Statement-0 shown out hidden
led disc sector = refl

safe : (disc sector : ℕ) → list_all (is_safe_at (bank_program disc sector)) (stands disc sector) ≡ true
unfolding out-What shown-the_row-Statement-0 shape-the_row-Statement-0 hidden-the_row-Statement-0 shown out hidden
safe disc sector = refl

bounds : (disc sector : ℕ) → IsWithinBounds (bank_program disc sector)
unfolding out-What shown-the_row-Statement-0 shape-the_row-Statement-0 hidden-the_row-Statement-0 shown out hidden
bounds disc sector = record { depth = omega arith; size = omega arith }

pub program-accepted : (disc sector : ℕ) → IsAccepted (bank_program disc sector)
program-accepted disc sector =
    listed-accepted (bank_program disc sector) (stands disc sector) ways (bounds disc sector) refl (led disc sector)
    (safe disc sector)
