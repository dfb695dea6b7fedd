-- How many events a schedule asks for at most, on whatever machine.
use Rattle.std.specs.Prelude.{◌≤◌, ℕ, ◌+◌, ◌*◌, List, [], ◌∷◌, Option, Some, None}
use Rattle.schedule.specs.declared.event.Counts.{Counts}
use Rattle.schedule.specs.declared.line.Line.{Line}
use Rattle.schedule.specs.declared.line.Line.TheVariants.{One, Many, Drain, Mix, Mute, Until}
use Rattle.player.specs.declared.standing.Sizes.{Sizes}
use Rattle.player.specs.declared.stop.ProcessorStop.{ProcessorStop}

-- how many packets each bus holds at most
pub record Room : Type 0 where
  pub x : ℕ
  pub y : ℕ

-- no more packets are counted than that
abbrev pub KeepsTo : Room → Counts → Type 0
KeepsTo room counts = (counts.x ≤ room.x) × (counts.y ≤ room.y)

-- a round: each terminal enters; each process runs, in a mixed round up to three times; each bus delivers or loses what
-- was on it when its part of the round began, in a mixed round repeated before; and each node ticks, that of the
-- terminals too
abbrev pub most_in_round : Sizes → Room → ℕ
most_in_round sizes room = sizes.terminals + 3 * sizes.processes + 2 * (room.x + room.y) + sizes.processors + 1

-- a line, where a round has so many events at most
abbrev pub most_in_line : ℕ → Line → ℕ
most_in_line round (One event) = 1
most_in_line round (Many event times) = times
most_in_line round (Drain rounds) = rounds * round
most_in_line round (Mix start rounds) = rounds * round
most_in_line round (Mute node rounds) = rounds * round
most_in_line round (Until writes count rounds) = rounds * round

abbrev pub most_in_lines : ℕ → List Line → ℕ
most_in_lines round [] = 0
most_in_lines round (line ∷ lines) = most_in_line round line + most_in_lines round lines

-- the stop of the words, if there is one
abbrev pub stops_of_words : Option ProcessorStop → ℕ
stops_of_words None = 0
stops_of_words (Some stop) = 1

-- a schedule with a stop
abbrev pub most_events : Sizes → Room → List Line → Option ProcessorStop → ℕ
most_events sizes room lines stop = most_in_lines (most_in_round sizes room) lines + stops_of_words stop
