-- Who waits for whom in a ring, and which rings are told. Our own.
use Rattle.std.specs.Prelude.{◌≡◌, ◌<◌, ℕ, List, [], ◌∷◌, ◌++◌, slice_get, Option, Some, option_and_then}
use Rattle.gd_words.specs.Members.{AreDistinct, IsAmong}

-- who is awaited by one, if any
abbrev pub awaited_next : List (Option ℕ) → ℕ → Option ℕ
awaited_next awaited one = option_and_then (λ next. next) (slice_get awaited one)

-- each of these awaits the next, and the last awaits this one
abbrev pub AwaitOn : List (Option ℕ) → ℕ → List ℕ → Type 0
AwaitOn awaited last [] = Unit {0}
AwaitOn awaited last (one ∷ []) = awaited_next awaited one ≡ Some last
AwaitOn awaited last (one ∷ next ∷ rest) = (awaited_next awaited one ≡ Some next) × AwaitOn awaited last (next ∷ rest)

-- in a ring none stands twice, each awaits the next, and the last awaits the first
abbrev pub IsRing : List (Option ℕ) → List ℕ → Type 0
IsRing awaited [] = ⊥
IsRing awaited (first ∷ rest) = AreDistinct (first ∷ rest) × AwaitOn awaited first (first ∷ rest)

-- the first of these is the lowest
abbrev pub BeginsLowest : List ℕ → Type 0
BeginsLowest [] = ⊥
BeginsLowest (first ∷ rest) = (one : ℕ) → IsAmong one rest → first < one

-- the same ring, told from another of its members on
abbrev pub IsTurned : List ℕ → List ℕ → Type 0
IsTurned ring told = (before : List ℕ) × ((after : List ℕ) × (ring ≡ before ++ after) × (told ≡ after ++ before))

-- the first of these is lower than the first of those
abbrev pub BeginsBelow : List ℕ → List ℕ → Type 0
BeginsBelow [] those = ⊥
BeginsBelow (first ∷ rest) [] = ⊥
BeginsBelow (first ∷ rest) (later ∷ others) = first < later

-- each ring begins lower than each behind it
abbrev pub RiseByFirst : List (List ℕ) → Type 0
RiseByFirst [] = Unit {0}
RiseByFirst (ring ∷ rings) = ((later : List ℕ) → IsAmong later rings → BeginsBelow ring later) × RiseByFirst rings

-- what is told of the rings among those that wait
pub record TellsRings (awaited : List (Option ℕ)) (told : List (List ℕ)) : Type 0 where
  -- what is told is a ring, from its lowest member on
  pub rings : (ring : List ℕ) → IsAmong ring told → IsRing awaited ring × BeginsLowest ring
  -- each ring is told, from whichever of its members on it is read
  pub all : (ring : List ℕ) → IsRing awaited ring → (one : List ℕ) × IsAmong one told × IsTurned ring one
  -- they rise by their lowest, so none is told twice
  pub rise : RiseByFirst told
