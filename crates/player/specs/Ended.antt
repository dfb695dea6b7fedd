-- How many rounds were made and how many are left.
use Rattle.std.specs.Prelude.{ℕ, ◌+◌, ◌==◌, List, [], ◌∷◌, if◌then◌else◌}
use Rattle.gd_words.specs.declared.limits.TheConstants.{TERMINAL_NODE}
use Rattle.schedule.specs.declared.event.Event.{Event}
use Rattle.schedule.specs.declared.event.Event.TheVariants as event
use Rattle.player.specs.declared.standing.Place.{Place}
use Rattle.player.specs.declared.standing.Place.TheVariants as place
use Rattle.player.specs.declared.standing.MixedPlace.{MixedPlace}
use Rattle.player.specs.declared.standing.MixedPlace.TheVariants as mixed
use Rattle.player.specs.declared.standing.LinePlace.{LinePlace}
use Rattle.player.specs.declared.standing.LinePlace.TheVariants as standing

-- the tick of the terminals' node ends a round
abbrev pub rounds_of_event : Event → ℕ
rounds_of_event (event.Tick node) = if node == TERMINAL_NODE then 1 else 0
rounds_of_event _ = 0

-- how many rounds are ended by events
abbrev pub rounds_ended : List Event → ℕ
rounds_ended [] = 0
rounds_ended (event ∷ events) = rounds_of_event event + rounds_ended events

-- the round that is being made
abbrev pub under_way : Place → ℕ
under_way place.Before = 0
under_way _ = 1

abbrev pub under_way_mixed : MixedPlace → ℕ
under_way_mixed mixed.Before = 0
under_way_mixed _ = 1

-- how many rounds a line may still end
abbrev pub rounds_left : LinePlace → ℕ
rounds_left standing.Ended = 0
rounds_left (standing.Event event left) = left
rounds_left (standing.Rounds rule left place) = left + under_way place
rounds_left (standing.Mixed left place draws) = left + under_way_mixed place
