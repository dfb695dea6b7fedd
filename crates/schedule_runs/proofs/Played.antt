-- The events of a schedule are events that were played.
use Rattle.std.proofs.Common.{List, Option, inl, inr, subst, sym}
use Rattle.tal_tree.specs.declared.site.Site.{Site}
use Rattle.schedule.specs.declared.event.Event.{Event}
use Rattle.schedule.specs.declared.line.Line.{Line}
use Rattle.player.specs.declared.stop.ProcessorStop.{ProcessorStop}
use Rattle.pair_machine.specs.message_wires.specs.Play.{MachineState}
use Rattle.pair_machine.specs.message_wires.specs.Runs.{IsPlayed, played_none, played_more, skipped}
use Rattle.schedule_loop.specs.Ends.{Plays}
use Rattle.schedule_loop.specs.Plans.{seen_none, seen_on}
use Rattle.schedule_runs.specs.Rules.{pair_rules}
use Rattle.schedule_runs.specs.Runs.{Agenda, course_on}

pub played : {site : Site} {lines : List Line} {stop : Option ProcessorStop} {events : List Event} {agenda : Agenda}
    {s : MachineState}
    → Plays pair_rules (course_on site lines stop) events agenda s → IsPlayed site events s
played seen_none = played_none
played (seen_on plan plays comes (inl makes)) = played_more plan.event (played plays) makes
played (seen_on plan plays comes (inr skips)) =
    subst (IsPlayed _ _) (sym skips.1) (skipped plan.event (played plays) skips.0)
