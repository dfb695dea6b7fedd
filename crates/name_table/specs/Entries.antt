-- Names, each with what stands under it, in order.
use Rattle.std.specs.Prelude.{ℕ, Bool, List, Option, position}
use Rattle.std.specs.List.{list_any}
use Rattle.std.specs.Str.{bytes_eq}

-- a name with what stands under it
abbrev pub Named : Type 0 → Type 0
Named T = List ℕ × T

module _ {T : Type 0} where
  -- one of the names is this one
  abbrev pub has_name : List (Named T) → List ℕ → Bool
  has_name entries name = list_any (λ entry. bytes_eq entry.0 name) entries

  -- where the name stands, counted from 0
  abbrev pub place_of : List (Named T) → List ℕ → Option ℕ
  place_of entries name = position (λ entry. bytes_eq entry.0 name) entries
