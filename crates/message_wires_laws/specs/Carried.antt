-- What is on the wires of a state that is played.
use Rattle.std.specs.Prelude.{◌≡◌, ◌<◌, ◌≤◌, ◌⊎◌, ℕ, true, List}
use Rattle.gd_words.specs.Members.{IsAmong}
use Rattle.schedule.specs.declared.event.Event.{Event}
use Rattle.computed_changes.specs.Laws.{IsSent}
use Rattle.letters.specs.Routes.{Letter}
use Rattle.letters.specs.Posts.{HasPlayed}
use Rattle.message_wires.specs.Wires.{Sent, Wires, is_current, count_before}
use Rattle.message_wires.specs.Play.{MachineState}
use Rattle.message_wires.specs.Runs.{post_of}

-- on the bus, or owed
abbrev pub IsOn : Sent → Wires → Type 0
IsOn one wires = IsAmong one wires.bus ⊎ IsAmong one wires.owed

-- what is on the wires is of numbers that were given, each to one letter. No processor was loaded after more letters
-- than were sent, and of what is on the wires these were sent since both their nodes were loaded last
pub record AreTidy (wires : Wires) (sent : List Letter) : Type 0 where
  pub given : (one : Sent) → IsOn one wires → one.number < wires.count
  pub alike : (one other : Sent) → IsOn one wires → IsOn other wires → one.number ≡ other.number
      → one.letter ≡ other.letter
  pub loaded : (node : ℕ) → count_before wires.before node ≤ wires.count
  pub known : (one : Sent) → IsOn one wires → is_current wires.before one ≡ true → IsAmong one.letter sent

-- events lead to the post of a state, with these letters that may come, and its wires are tidy. All that is on them,
-- old letters too, carries what was sent
pub record IsCarried (events : List Event) (s : MachineState) (sent : List Letter) : Type 0 where
  pub played : HasPlayed s.site events (post_of s sent)
  pub tidy : AreTidy s.wires sent
  pub honest : (one : Sent) → IsOn one s.wires → IsSent s.world one.letter.message
