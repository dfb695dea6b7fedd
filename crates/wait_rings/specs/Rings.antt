-- The rings of those that wait, by going from each to whom it awaits. `TellsRings` of Waits.antt says what they are.
use Rattle.std.specs.Prelude.{ℕ, zero, suc, ◌==◌, if◌then◌else◌, nat_lt, List, [], ◌∷◌, ◌++◌, length}
use Rattle.std.specs.Prelude.{Option, Some, None, option_to_list}
use Rattle.wait_rings.specs.Waits.{awaited_next}

-- a ring is told from its lowest number on: who awaits the first one closes it, and who awaits a lower one is in none
-- that begins here
abbrev pub closed_by : (ℕ → Option (List ℕ)) → ℕ → List ℕ → Option ℕ → Option (List ℕ)
closed_by goes_on first members None = None
closed_by goes_on first members (Some next) =
    if next == first then Some members else if nat_lt next first then None else goes_on next

-- the ring that goes from one to whom it awaits, by at most so many waits, where these stand before it
abbrev pub ring_on : List (Option ℕ) → ℕ → ℕ → ℕ → List ℕ → Option (List ℕ)
ring_on awaited zero first one before = None
ring_on awaited (suc more) first one before =
    closed_by (λ next. ring_on awaited more first next (before ++ one ∷ [])) first (before ++ one ∷ [])
    (awaited_next awaited one)

-- the ring whose lowest number this is. No ring has more members than there are
abbrev pub ring_of : List (Option ℕ) → ℕ → Option (List ℕ)
ring_of awaited first = ring_on awaited (length awaited) first first []

-- the rings whose lowest number is below this one
abbrev pub rings_below : List (Option ℕ) → ℕ → List (List ℕ)
rings_below awaited zero = []
rings_below awaited (suc first) = rings_below awaited first ++ option_to_list (ring_of awaited first)

-- all rings of those that wait, each once
abbrev pub rings_of : List (Option ℕ) → List (List ℕ)
rings_of awaited = rings_below awaited (length awaited)
