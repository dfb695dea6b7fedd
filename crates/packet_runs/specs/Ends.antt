-- A run of a schedule on the machine over packets.
use Rattle.std.specs.Prelude.{List, Option}
use Rattle.tal_tree.specs.declared.site.Site.{Site}
use Rattle.schedule.specs.declared.line.Line.{Line}
use Rattle.player.specs.declared.stop.ProcessorStop.{ProcessorStop}
use Rattle.schedule_loop.specs.Ends.{IsRunOn}
use Rattle.packet_runs.specs.Runs.{course_on, packet_rules}
use Rattle.packet_runs.specs.declared.ran.Ran.{Ran}

-- what ran is a run of the schedule with the stop on the site
abbrev pub IsRunOf : Site → List Line → Option ProcessorStop → Ran → Type 0
IsRunOf site lines stop ran =
    IsRunOn packet_rules (course_on site lines stop) ran.machine.is_broken ran.machine.state ran.asked ran.ending
