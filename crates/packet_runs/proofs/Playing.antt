-- The loop over a schedule, on the machine over packets.
use Rattle.std.proofs.Common.{◌≡◌, ℕ, Bool, List, Option, ap₂, sym, subst}
use Rattle.tal_tree.specs.declared.site.Site.{Site}
use Rattle.schedule.specs.declared.line.Line.{Line}
use Rattle.player.specs.declared.standing.Sizes.{Sizes}
use Rattle.player.specs.declared.stop.ProcessorStop.{ProcessorStop}
use Rattle.site_machine.specs.packet_wires.specs.Play.{Packeted, packeted_at_boot}
use Rattle.site_machine.specs.packet_wires.specs.Wires.{Wires}
use Rattle.schedule_loop.specs.Ends.{CanBePlayed, Course, IsRunOn}
use Rattle.schedule_loop.specs.declared.ran.Ending.{Ending}
use Rattle.site_machine.specs.Needs.{IsReady}
use Rattle.packet_runs.specs.Runs.{course_on, packet_rules, sizes_of}

-- the schedule with its stop, where it is played with these sizes from this state
abbrev pub course_from : Sizes → Packeted → List Line → Option ProcessorStop → Course Wires
course_from sizes start lines stop = record { sizes = sizes; start = start; lines = lines; stop = stop }

same-course : (site : Site) (lines : List Line) (stop : Option ProcessorStop) (sizes : Sizes) (start : Packeted)
    → sizes ≡ sizes_of site → start ≡ packeted_at_boot site
    → course_from sizes start lines stop ≡ course_on site lines stop
same-course site lines stop sizes start counted booted =
    ap₂ (λ (z : Sizes) (s : Packeted). course_from z s lines stop) counted booted

pub can-be-played-from : (site : Site) (lines : List Line) (stop : Option ProcessorStop) (sizes : Sizes)
    (start : Packeted) → sizes ≡ sizes_of site → start ≡ packeted_at_boot site
    → CanBePlayed packet_rules IsReady (course_on site lines stop)
    → CanBePlayed packet_rules IsReady (course_from sizes start lines stop)
can-be-played-from site lines stop sizes start counted booted can =
    subst (λ (course : Course Wires). CanBePlayed packet_rules IsReady course)
    (sym (same-course site lines stop sizes start counted booted)) can

pub is-run : (site : Site) (lines : List Line) (stop : Option ProcessorStop) (sizes : Sizes) (start left : Packeted)
    (is_broken : Bool) (asked : ℕ) (ending : Ending) → sizes ≡ sizes_of site → start ≡ packeted_at_boot site
    → IsRunOn packet_rules (course_from sizes start lines stop) is_broken left asked ending
    → IsRunOn packet_rules (course_on site lines stop) is_broken left asked ending
is-run site lines stop sizes start left is_broken asked ending counted booted ran =
    subst (λ (course : Course Wires). IsRunOn packet_rules course is_broken left asked ending)
    (same-course site lines stop sizes start counted booted) ran
