-- Runs of the machine over whole messages, and its post.
use Rattle.std.specs.Prelude.{◌≡◌, List, [], ◌∷◌, ◌++◌, map}
use Rattle.tal_tree.specs.declared.site.Site.{Site}
use Rattle.schedule.specs.declared.event.Event.{Event}
use Rattle.letters.specs.Routes.{Letter}
use Rattle.letters.specs.Posts.{Post}
use Rattle.machine_states.specs.States.{Makes, Skips}
use Rattle.message_wires.specs.Wires.{Sent}
use Rattle.message_wires.specs.Play.{MachineState, machine_at_boot, play}

-- events that were played, one after the other, lead from the beginning to a state: each makes the next one, or is
-- skipped
pub data IsPlayed (site : Site) : List Event → MachineState → Type 0 where
  played_none : IsPlayed site [] (machine_at_boot site)
  played_more : {events : List Event} {s next : MachineState} → (event : Event) → IsPlayed site events s
      → play s event ≡ Makes next
      → IsPlayed site (events ++ event ∷ []) next
  skipped : {events : List Event} {s : MachineState} → (event : Event) → IsPlayed site events s → play s event ≡ Skips
      → IsPlayed site (events ++ event ∷ []) s

-- the letters of sendings
abbrev pub letters_in : List Sent → List Letter
letters_in all = map (λ sent. sent.letter) all

-- the post of a state, where these letters were sent and may come
abbrev pub post_of : MachineState → List Letter → Post
post_of s sent = record { world = s.world; owed = letters_in s.wires.owed; sent = sent }
