-- The events of a schedule are events that were played over packets.
use Rattle.std.proofs.Common.{List, Option, inl, inr, subst, sym}
use Rattle.tal_tree.specs.declared.site.Site.{Site}
use Rattle.schedule.specs.declared.event.Event.{Event}
use Rattle.schedule.specs.declared.line.Line.{Line}
use Rattle.player.specs.declared.stop.ProcessorStop.{ProcessorStop}
use Rattle.agendas.specs.Agendas.{Agenda}
use Rattle.site_machine.specs.packet_wires.specs.Play.{Packeted}
use Rattle.site_machine.specs.packet_wires.specs.Runs.{IsPlayed, played_more, played_none, skipped}
use Rattle.schedule_loop.specs.Ends.{Plays}
use Rattle.schedule_loop.specs.Plans.{seen_none, seen_on}
use Rattle.packet_runs.specs.Runs.{course_on, packet_rules}

pub played : {site : Site} {lines : List Line} {stop : Option ProcessorStop} {events : List Event} {agenda : Agenda}
    {s : Packeted}
    → Plays packet_rules (course_on site lines stop) events agenda s → IsPlayed site events s
played seen_none = played_none
played (seen_on plan plays comes (inl makes)) = played_more plan.event (played plays) makes
played (seen_on plan plays comes (inr skips)) =
    subst (IsPlayed _ _) (sym skips.1) (skipped plan.event (played plays) skips.0)
