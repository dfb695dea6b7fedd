-- A run of a schedule, of whose processes it is noted with which step they ended.
use Rattle.std.specs.Prelude.{List, length, replicate, Option, None}
use Rattle.noted_rules.specs.Noted.{IsNotedRun}
use Rattle.player.specs.declared.stop.ProcessorStop.{ProcessorStop}
use Rattle.schedule.specs.declared.line.Line.{Line}
use Rattle.tal_tree.specs.declared.site.Site.{Site}
use Rattle.noted_runs.specs.Steps.{Ends, noting_ends}
use Rattle.noted_runs.specs.declared.running.NotedRan.{NotedRan}

-- at the beginning no process has ended
abbrev pub ends_at_boot : Site → Ends
ends_at_boot site = record { site = site; steps = replicate (length site.processes) None }

-- what ran is a run of the schedule with the stop on the site, and its steps are those with which the processes ended
abbrev pub IsRunWithSteps : Site → List Line → Option ProcessorStop → NotedRan → Type 0
IsRunWithSteps site lines stop noted =
    IsNotedRun noting_ends (ends_at_boot site) site lines stop noted.ran.machine.is_broken noted.ran.machine.state
    (record { site = site; steps = noted.steps }) noted.ran.asked noted.ran.ending
