-- A run that began with no end noted is noted of its site.
use Rattle.std.proofs.Common.{◌≡◌, ℕ, Bool, List, length, Option, Some, None, refl, ap, ap₂, replicate, subst, sym, ◌∙◌}
use Rattle.noted_rules.specs.Noted.{IsNotedRun, noted_course, noted_rules, with_notes}
use Rattle.noted_rules.specs.packet_runs.specs.Runs.{sizes_of}
use Rattle.noted_rules.specs.packet_runs.specs.site_machine.specs.packet_wires.specs.Play.{Packeted, packeted_at_boot}
use Rattle.noted_rules.proofs.Booted.{course_from, is_noted_run}
use Rattle.noted_rules.proofs.Forgotten.{run_part}
use Rattle.player.specs.declared.standing.Sizes.{Sizes}
use Rattle.player.specs.declared.stop.ProcessorStop.{ProcessorStop}
use Rattle.program_ends.specs.declared.ending.LastStep.{LastStep}
use Rattle.schedule.specs.declared.event.Event.{Event}
use Rattle.schedule.specs.declared.line.Line.{Line}
use Rattle.schedule_loop.specs.Ends.{IsRunOn}
use Rattle.schedule_loop.specs.declared.ran.Ending.{Ending}
use Rattle.tal_tree.specs.declared.site.Site.{Site}
use Rattle.noted_runs.specs.Runs.{ends_at_boot}
use Rattle.noted_runs.specs.Steps.{Ends, ends_of_step, noting_ends, stepped}

abbrev pub ends_with : Site → List (Option LastStep) → Ends
ends_with site steps = record { site = site; steps = steps }

-- of so many processes none has ended
abbrev pub none_noted : ℕ → List (Option LastStep)
none_noted count = replicate count None

pub booted_ends : (site other : Site) (steps : List (Option LastStep)) → other ≡ site
    → steps ≡ replicate (length other.processes) None → ends_with other steps ≡ ends_at_boot site
booted_ends site other steps same none =
    ap₂ ends_with same (none ∙ ap (λ (one : Site). replicate (length one.processes) None) same)

-- no event changes of which site it is noted
site-kept : (process : Option ℕ) (event : Event) (before after : Packeted) (ends : Ends)
    → (ends_of_step process before.world after.world ends).site ≡ ends.site
site-kept None event before after ends = refl
site-kept (Some process) event before after ends = refl

module _ (site other last : Site) (lines : List Line) (stop : Option ProcessorStop) (sizes : Sizes)
    (steps ended : List (Option LastStep)) (start left : Packeted) (counted : sizes ≡ sizes_of site)
    (same : other ≡ site) (none : steps ≡ replicate (length other.processes) None)
    (booted : start ≡ packeted_at_boot site) where
  pub is_run : (is_broken : Bool) (asked : ℕ) (ending : Ending)
      → IsRunOn (noted_rules noting_ends) (course_from sizes (with_notes (ends_with other steps) start) lines stop)
      is_broken (with_notes (ends_with last ended) left) asked ending
      → IsNotedRun noting_ends (ends_at_boot site) site lines stop is_broken left (ends_with site ended) asked ending
  is_run is_broken asked ending ran =
      subst (λ (one : Site). IsRunOn (noted_rules noting_ends) (noted_course (ends_at_boot site) site lines stop)
      is_broken (with_notes (ends_with one ended) left) asked ending)
      (sym (run_part noting_ends (λ (ends : Ends). ends.site)
      (λ event before after ends. site-kept (stepped event) event before after ends) (ends_at_boot site) site lines
      stop is_broken (with_notes (ends_with last ended) left) asked ending moved))
      moved
    where
      moved : IsRunOn (noted_rules noting_ends) (noted_course (ends_at_boot site) site lines stop) is_broken
          (with_notes (ends_with last ended) left) asked ending
      moved = is_noted_run noting_ends (ends_at_boot site) (ends_with other steps) site lines stop sizes start counted
          (booted_ends site other steps same none) booted is_broken (with_notes (ends_with last ended) left) asked
          ending ran
