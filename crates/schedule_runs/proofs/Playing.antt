-- The loop over a schedule, on the machine over whole messages.
use Rattle.std.proofs.Common.{◌≡◌, ◌<◌, ◌≤◌, ℕ, Bool, List, length, Option, ap₂, sym, subst, arith}
use Rattle.tal_tree.specs.declared.site.Site.{Site}
use Rattle.schedule.specs.declared.event.Event.{Event}
use Rattle.schedule.specs.declared.line.Line.{Line}
use Rattle.player.specs.declared.standing.Sizes.{Sizes}
use Rattle.player.specs.declared.stop.ProcessorStop.{ProcessorStop}
use Rattle.pair_machine.specs.message_wires.specs.Play.{MachineState, machine_at_boot}
use Rattle.pair_machine.specs.message_wires.specs.Runs.{IsPlayed}
use Rattle.pair_machine.specs.message_wires.specs.Wires.{Wires}
use Rattle.pair_machine.specs.number_laws.proofs.Counts.{letters-within}
use Rattle.pair_machine.specs.number_laws.proofs.Played.{room-within}
use Rattle.pair_machine.specs.number_laws.proofs.Requests.{openers-there}
use Rattle.plain_semantics.specs.SiteLimits.{KeepsSiteLimits}
use Rattle.schedule_loop.specs.Ends.{CanBePlayed, Course, IsRunOn, Plays}
use Rattle.schedule_loop.specs.declared.ran.Ending.{Ending}
use Rattle.schedule_runs.specs.Lengths.{AsksForFewEvents}
use Rattle.schedule_runs.specs.Rules.{CanGoOn, pair_rules}
use Rattle.schedule_runs.specs.Runs.{Agenda, course_on, sizes_of}
use Rattle.schedule_runs.proofs.Lengths.{so-many}
use Rattle.schedule_runs.proofs.Played.{played}

few-events : (site : Site) (lines : List Line) (stop : Option ProcessorStop) (events : List Event) (agenda : Agenda)
    (s : MachineState) → AsksForFewEvents site lines stop → Plays pair_rules (course_on site lines stop) events agenda s
    → length events < 4294967294
few-events site lines stop events agenda s few on =
    let most = so-many site lines stop events agenda s on in omega (arith, most, few)

-- each number of the machine has a successor after so few events, and requests name openers that are there
can-go-on : (site : Site) (events : List Event) (s : MachineState) → KeepsSiteLimits site → site.processors ≤ 255
    → length events < 4294967294 → IsPlayed site events s → CanGoOn s
can-go-on site events s limits processors few is = record {
  room = room-within site events s is few;
  letters = letters-within site limits.processes limits.terminals processors events s is few;
  openers = λ packet among request asks. openers-there site events s is packet request among asks;
}

can-be-played : (site : Site) (lines : List Line) (stop : Option ProcessorStop) → KeepsSiteLimits site
    → site.processors ≤ 255 → AsksForFewEvents site lines stop
    → CanBePlayed pair_rules CanGoOn (course_on site lines stop)
can-be-played site lines stop limits processors few = record {
  ready = λ events agenda s on.
      can-go-on site events s limits processors (few-events site lines stop events agenda s few on)
      (played {lines = lines} {stop = stop} on);
  few = λ events agenda s on. few-events site lines stop events agenda s few on;
}

-- the schedule with its stop, where it is played with these sizes from this state
abbrev pub course_from : Sizes → MachineState → List Line → Option ProcessorStop → Course Wires
course_from sizes start lines stop = record { sizes = sizes; start = start; lines = lines; stop = stop }

same-course : (site : Site) (lines : List Line) (stop : Option ProcessorStop) (sizes : Sizes) (start : MachineState)
    → sizes ≡ sizes_of site → start ≡ machine_at_boot site
    → course_from sizes start lines stop ≡ course_on site lines stop
same-course site lines stop sizes start counted booted =
    ap₂ (λ (z : Sizes) (s : MachineState). course_from z s lines stop) counted booted

pub can-be-played-from : (site : Site) (lines : List Line) (stop : Option ProcessorStop) (sizes : Sizes)
    (start : MachineState) → sizes ≡ sizes_of site → start ≡ machine_at_boot site → KeepsSiteLimits site
    → sizes.processors ≤ 255 → AsksForFewEvents site lines stop
    → CanBePlayed pair_rules CanGoOn (course_from sizes start lines stop)
can-be-played-from site lines stop sizes start counted booted limits processors few =
    subst (λ (course : Course Wires). CanBePlayed pair_rules CanGoOn course)
    (sym (same-course site lines stop sizes start counted booted))
    (can-be-played site lines stop limits (subst (λ (z : Sizes). z.processors ≤ 255) counted processors) few)

-- what the loop answers is a run of the schedule
pub is-run : (site : Site) (lines : List Line) (stop : Option ProcessorStop) (sizes : Sizes) (start left : MachineState)
    (is_broken : Bool) (asked : ℕ) (ending : Ending) → sizes ≡ sizes_of site → start ≡ machine_at_boot site
    → IsRunOn pair_rules (course_from sizes start lines stop) is_broken left asked ending
    → IsRunOn pair_rules (course_on site lines stop) is_broken left asked ending
is-run site lines stop sizes start left is_broken asked ending counted booted ran =
    subst (λ (course : Course Wires). IsRunOn pair_rules course is_broken left asked ending)
    (same-course site lines stop sizes start counted booted) ran
