-- A run of a schedule on the machine over whole messages.
use Rattle.std.specs.Prelude.{List, Option}
use Rattle.tal_tree.specs.declared.site.Site.{Site}
use Rattle.schedule.specs.declared.line.Line.{Line}
use Rattle.player.specs.declared.stop.ProcessorStop.{ProcessorStop}
use Rattle.schedule_loop.specs.Ends.{IsRunOn}
use Rattle.schedule_runs.specs.Rules.{pair_rules}
use Rattle.schedule_runs.specs.Runs.{course_on}
use Rattle.schedule_runs.specs.declared.ran.Ran.{Ran}

-- what ran is a run of the schedule with the stop on the site
abbrev pub IsRunOfPairs : Site → List Line → Option ProcessorStop → Ran → Type 0
IsRunOfPairs site lines stop ran =
    IsRunOn pair_rules (course_on site lines stop) ran.machine.is_broken ran.machine.state ran.asked ran.ending
