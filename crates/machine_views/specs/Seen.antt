-- What the machine's processes keep to.
use Rattle.std.specs.Prelude.{◌≡◌, ℕ, List, slice_get, Some}
use Rattle.site_machine.specs.process_copies.specs.Seen.{Placed}

-- each process has the number of its place
abbrev pub AreNumbered : List Placed → Type 0
AreNumbered places = (number : ℕ) (placed : Placed) → slice_get places number ≡ Some placed → placed.number ≡ number
