-- The beginning and the end of a run with notes.
use Rattle.std.proofs.Common.{◌≡◌, ℕ, Bool, List, Option, ap₂, sym, subst}
use Rattle.packet_runs.specs.Runs.{course_on, packet_rules, sizes_of}
use Rattle.packet_runs.specs.site_machine.specs.Needs.{IsReady}
use Rattle.packet_runs.specs.site_machine.specs.packet_wires.specs.Play.{Packeted, packeted_at_boot}
use Rattle.player.specs.declared.standing.Sizes.{Sizes}
use Rattle.player.specs.declared.stop.ProcessorStop.{ProcessorStop}
use Rattle.schedule.specs.declared.line.Line.{Line}
use Rattle.schedule_loop.specs.Ends.{CanBePlayed, Course, IsRunOn}
use Rattle.schedule_loop.specs.declared.ran.Ending.{Ending}
use Rattle.tal_tree.specs.declared.site.Site.{Site}
use Rattle.noted_rules.specs.Noted.{IsReadyToo, Noted, NotedWires, Noting, noted_course, noted_rules, with_notes}
use Rattle.noted_rules.proofs.Forgotten.{can_be_noted}

-- the schedule with its stop, where it is played with these sizes from this state
abbrev pub course_from : {Notes : Type 0} → Sizes → Noted Notes → List Line → Option ProcessorStop
    → Course (NotedWires Notes)
course_from sizes start lines stop = record { sizes = sizes; start = start; lines = lines; stop = stop }

module _ {Notes : Type 0} (noting : Noting Notes) (notes first : Notes) (site : Site) (lines : List Line)
    (stop : Option ProcessorStop) (sizes : Sizes) (start : Packeted) (counted : sizes ≡ sizes_of site)
    (noted : first ≡ notes) (booted : start ≡ packeted_at_boot site) where
  same_course : course_from sizes (with_notes first start) lines stop ≡ noted_course notes site lines stop
  same_course =
      ap₂ (λ (z : Sizes) (s : Noted Notes). course_from z s lines stop) counted (ap₂ with_notes noted booted)

  pub can_be_played : CanBePlayed packet_rules IsReady (course_on site lines stop)
      → CanBePlayed (noted_rules noting) IsReadyToo (course_from sizes (with_notes first start) lines stop)
  can_be_played can =
      subst (λ (course : Course (NotedWires Notes)). CanBePlayed (noted_rules noting) IsReadyToo course)
      (sym same_course) (can_be_noted noting notes site lines stop can)

  pub is_noted_run : (is_broken : Bool) (left : Noted Notes) (asked : ℕ) (ending : Ending)
      → IsRunOn (noted_rules noting) (course_from sizes (with_notes first start) lines stop) is_broken left asked
      ending
      → IsRunOn (noted_rules noting) (noted_course notes site lines stop) is_broken left asked ending
  is_noted_run is_broken left asked ending ran =
      subst (λ (course : Course (NotedWires Notes)). IsRunOn (noted_rules noting) course is_broken left asked ending)
      same_course ran
