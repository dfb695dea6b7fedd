use Rattle.std.proofs.Common.{length}
use Rattle.alive_rounds.specs.Runs.{PlaysTo}
use Rattle.alive_rounds.proofs.Running.{runs-fresh, nobody-stopped}
use Rattle.alive_rounds.proofs.laws.a_calm_schedule_stops_nobody_at_a_tick.Goals as goal

pub returns : goal.returns
returns c sizes w machine counts watched few has counted shown start lines stop calm fresh events agenda s played plan
    comes
    next =
    nobody-stopped sizes w counts (PlaysTo machine) watched counted few (length events) agenda s next
    (runs-fresh sizes w counts (PlaysTo machine) watched few has counted shown start lines stop calm fresh events agenda
    s
    played) plan comes
