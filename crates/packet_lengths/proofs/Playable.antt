-- Each state that a schedule of an accepted site reaches is ready for the next event.
use Rattle.std.proofs.Common.{◌<◌, List, Option, length, arith}
use Rattle.tal_tree.specs.declared.site.Site.{Site}
use Rattle.schedule.specs.declared.event.Event.{Event}
use Rattle.schedule.specs.declared.line.Line.{Line}
use Rattle.player.specs.declared.stop.ProcessorStop.{ProcessorStop}
use Rattle.agendas.specs.Agendas.{Agenda}
use Rattle.plain_semantics.specs.SiteLimits.{KeepsSiteLimits}
use Rattle.packet_numbers.specs.accepted_sites.specs.Premises.{IsAcceptedSite}
use Rattle.packet_numbers.specs.accepted_sites.proofs.Accepted.{accepted-fit}
use Rattle.packet_numbers.specs.awaited_requests.specs.Seats.{IsLaidOut}
use Rattle.packet_numbers.specs.packet_wires.specs.Play.{Packeted}
use Rattle.line_lengths.specs.schedule_loop.specs.Ends.{CanBePlayed, Plays}
use Rattle.packet_runs.specs.site_machine.specs.Needs.{IsReady}
use Rattle.packet_numbers.specs.packets_played.proofs.Small.{small-of}
use Rattle.packet_numbers.proofs.Ready.{is-ready}
use Rattle.packet_runs.proofs.Played.{played}
use Rattle.packet_runs.specs.Runs.{course_on, packet_rules}
use Rattle.packet_lengths.specs.Lengths.{AsksForFewEvents}
use Rattle.packet_lengths.proofs.Lengths.{so-many}

-- a schedule that asks for few events plays few
plays-few : (site : Site) (lines : List Line) (stop : Option ProcessorStop) → AsksForFewEvents site lines stop
    → (events : List Event) (agenda : Agenda) (s : Packeted)
    → Plays packet_rules (course_on site lines stop) events agenda s → length events < 4294967294
plays-few site lines stop few events agenda s plays =
    let most = so-many site lines stop events agenda s plays in omega (arith, most, few)

pub accepted-can : (site : Site) (lines : List Line) (stop : Option ProcessorStop) → IsAcceptedSite site
    → KeepsSiteLimits site → IsLaidOut site → AsksForFewEvents site lines stop
    → CanBePlayed packet_rules IsReady (course_on site lines stop)
accepted-can site lines stop accepted keeps out few = record {
  ready = λ events agenda s plays. is-ready site events s (accepted-fit site accepted out.places)
      (small-of site accepted keeps) out (plays-few site lines stop few events agenda s plays)
      (played {lines = lines} {stop = stop} plays);
  few = plays-few site lines stop few;
}
