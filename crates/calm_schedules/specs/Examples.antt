-- Schedules for the guards.
use Rattle.std.specs.Prelude.{true, List, [], ◌∷◌}
use Rattle.schedule.specs.declared.event.Event.TheVariants.{Fail}
use Rattle.schedule.specs.declared.line.Line.{Line}
use Rattle.schedule.specs.declared.line.Line.TheVariants.{One, Drain, Until}

-- a line that waits for one write, a stop of processor 1, and rounds to the end
abbrev pub with_a_stop : List Line
with_a_stop = Until true 1 4000 ∷ One (Fail 1) ∷ Drain 4000 ∷ []

abbrev pub without_a_stop : List Line
without_a_stop = Until true 1 4000 ∷ Drain 4000 ∷ []

-- a line, and then rounds to the end
abbrev pub before_rounds : Line → List Line
before_rounds line = line ∷ Drain 4000 ∷ []
