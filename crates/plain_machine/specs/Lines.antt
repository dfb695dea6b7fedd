-- What the lines of a schedule play on the machine of single unfailing processes.
use Rattle.std.specs.Prelude.{ℕ, zero, suc, List, [], ◌∷◌}
use Rattle.schedule.specs.declared.event.Event.{Event}
use Rattle.schedule.specs.declared.event.Event.TheVariants as event
use Rattle.schedule.specs.declared.line.Line.{Line}
use Rattle.schedule.specs.declared.line.Line.TheVariants.{One, Many, Drain}
use Rattle.tal_tree.specs.declared.act.Act.TheVariants.{Enter}
use Rattle.tal_tree.specs.declared.site.Site.{Site}
use Rattle.plain_machine.specs.Rounds.{Ran, tried, next_move, rounds_on, run_start}

-- `run` is the Take or Step that a process may make next, and `enter` the Enter of a terminal; the machine has no other
-- events
abbrev pub happened : Site → Event → Ran → Ran
happened site (event.Run process) ran = tried site (next_move ran.plain process) ran
happened site (event.Enter terminal) ran = tried site (Enter terminal) ran
happened site _ ran = ran

-- an event so many times
abbrev pub repeated : Site → Event → ℕ → Ran → Ran
repeated site event zero ran = ran
repeated site event (suc left) ran = repeated site event left (happened site event ran)

-- the run after a line: its event, once or so many times, or rounds
abbrev pub line_played : Site → Line → Ran → Ran
line_played site (One event) ran = happened site event ran
line_played site (Many event times) ran = repeated site event times ran
line_played site (Drain rounds) ran = rounds_on site rounds ran
line_played site _ ran = ran

-- the run after lines, one after another
abbrev pub lines_played : Site → List Line → Ran → Ran
lines_played site [] ran = ran
lines_played site (line ∷ lines) ran = lines_played site lines (line_played site line ran)

-- the run of a schedule
abbrev pub run_of : Site → List Line → Ran
run_of site lines = lines_played site lines (run_start site)
