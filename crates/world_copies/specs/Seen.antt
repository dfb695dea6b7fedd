-- What the parts of the world in code show.
use Rattle.std.specs.Prelude.{◌≡◌, ℕ, List, [], map, slice_get, Option, Some, None}
use Rattle.tal_tree.specs.declared.site.Site.{Site}
pub use Rattle.plain_semantics.specs.OpenerRows.{terminal_row}
use Rattle.world_semantics.specs.World.{Pair}
use Rattle.process_copies.specs.Seen.{Placed}
use Rattle.process_copies.specs.disc_device.specs.Sectors.{Stored}
use Rattle.process_copies.specs.disc_device.specs.mirror.specs.declared.state.DriveState.{DriveState}

-- the processes of places
abbrev pub pairs_in : List Placed → List Pair
pairs_in places = map (λ placed. placed.pair) places

-- the sectors of the device of a process, if it is there
abbrev pub sectors_of : Option Pair → List Stored
sectors_of None = []
sectors_of (Some pair) = pair.sectors

-- how the drives of the processes of places stand
abbrev pub drives_in : List Placed → List (List DriveState)
drives_in places = map (λ placed. placed.drives) places

-- each process is in its place of the site
abbrev pub ArePlaced : Site → List Placed → Type 0
ArePlaced site places = (number : ℕ) (placed : Placed) → slice_get places number ≡ Some placed
    → (placed.site ≡ site) × (placed.number ≡ number)
