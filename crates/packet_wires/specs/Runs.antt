-- Runs of the machine over packets.
use Rattle.std.specs.Prelude.{◌≡◌, List, [], ◌∷◌, ◌++◌}
use Rattle.tal_tree.specs.declared.site.Site.{Site}
use Rattle.schedule.specs.declared.event.Event.{Event}
use Rattle.message_wires.specs.machine_states.specs.States.{Makes, Skips}
use Rattle.packet_wires.specs.Play.{Packeted, packeted_at_boot, play}

-- a state is reached from the beginning by these events in turn, each of which makes the next state or is skipped
pub data IsPlayed (site : Site) : List Event → Packeted → Type 0 where
  played_none : IsPlayed site [] (packeted_at_boot site)
  played_more : {events : List Event} {s next : Packeted} → (event : Event) → IsPlayed site events s
      → play s event ≡ Makes next
      → IsPlayed site (events ++ event ∷ []) next
  skipped : {events : List Event} {s : Packeted} → (event : Event) → IsPlayed site events s → play s event ≡ Skips
      → IsPlayed site (events ++ event ∷ []) s
