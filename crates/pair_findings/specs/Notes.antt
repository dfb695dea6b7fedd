-- Which statements of a path that breaks made due what breaks at its end. Our own.
use Rattle.std.specs.Prelude.{◌≡◌, ◌≢◌, ◌⊎◌, ◌≤◌, ◌<◌, ℕ, zero, suc, ◌+◌, Bool, true, false, nat_le, List, length}
use Rattle.std.specs.Prelude.{slice_get, slice_index}
use Rattle.std.specs.Option.{unwrap_or}
use Rattle.statement_dues.specs.declared.deeds.Deed.{Deed}
use Rattle.statement_dues.specs.declared.deeds.Deed.TheVariants.{Nothing, MakesDue, GivesDue, Clears}

-- what the statement of a number, from 1, does
abbrev pub deed_at : List Deed → ℕ → Deed
deed_at deeds zero = Nothing
deed_at deeds (suc k) = unwrap_or (slice_get deeds k) Nothing

-- whether the statement at a place of a path clears what is due
abbrev pub ClearsAt : List Deed → List ℕ → ℕ → Type 0
ClearsAt deeds path place = deed_at deeds (slice_index path place) ≡ Clears

-- the place behind the last CHECKPOINT that stands before a path's last statement; 0 where none does
pub record IsSince (deeds : List Deed) (path : List ℕ) (since : ℕ) : Type 0 where
  pub none_later : (place : ℕ) → since ≤ place → place + 1 < length path → ClearsAt deeds path place → ⊥
  pub behind : (since ≡ 0) ⊎ ((place : ℕ) × (since ≡ place + 1) × (place + 1 < length path) × ClearsAt deeds path place)

abbrev pub notes_deed : ℕ → ℕ → Deed → Bool
notes_deed since place MakesDue = nat_le since place
notes_deed since place GivesDue = true
notes_deed since place Nothing = false
notes_deed since place Clears = false

-- a statement has a note where its own step since that place, or the return from its call, makes something due
abbrev pub has_note : List Deed → ℕ → ℕ → ℕ → Bool
has_note deeds since place number = notes_deed since place (deed_at deeds number)
