-- A step that was done, with the end of its process noted.
use Rattle.std.proofs.Common.{◌≡◌, ℕ, List, Option, Some, refl, ap, ap₂, sym, ◌∙◌}
use Rattle.machine_states.specs.States.{Makes, Played, Settles, Skips, Would, SecondStop, DiscLoss}
use Rattle.machine_states.specs.declared.effect.Effect.TheVariants.{Done, Skipped, WouldStopSecond, WouldLoseDisc}
use Rattle.noted_rules.specs.Noted.{noted_by, with_notes}
use Rattle.noted_rules.specs.packet_runs.specs.site_machine.specs.packet_wires.specs.Play.{Packeted}
use Rattle.noted_rules.specs.packet_runs.specs.site_machine.specs.packet_wires.specs.Wires.{Wires}
use Rattle.program_ends.specs.declared.ending.LastStep.{LastStep}
use Rattle.schedule.specs.declared.event.Event.{Event}
use Rattle.tal_tree.specs.declared.site.Site.{Site}
use Rattle.noted_runs.specs.Steps.{Ends, ends_after, ends_of_step, everything_at_end, noting_ends, state_in, stepped}
use Rattle.noted_runs.specs.Steps.{stood_by}
use Rattle.noted_runs.specs.declared.steps.Stood.{Stood}
use Rattle.noted_runs.proofs.Booted.{ends_with}

pub done-settled : (before after left : Packeted) (notes new : Ends) (event : Event) (made : Played Wires)
    → Settles made before Done after → left ≡ after → new ≡ noting_ends event before after notes
    → Settles (noted_by noting_ends (with_notes notes before) event made) (with_notes notes before) Done
    (with_notes new left)
done-settled before after left notes new event (Makes next) settles same is = (
  refl,
  ap₂ with_notes (is ∙ ap (λ (one : Packeted). noting_ends event before one notes) settles.1) (same ∙ settles.1),
)
done-settled before after left notes new event Skips settles same is =
    let wrong : Done ≡ Skipped = settles.0 in absurd (cc)
done-settled before after left notes new event (Would (SecondStop processor)) settles same is =
    let wrong : Done ≡ WouldStopSecond processor = settles.0 in absurd (cc)
done-settled before after left notes new event (Would (DiscLoss process)) settles same is =
    let wrong : Done ≡ WouldLoseDisc process = settles.0 in absurd (cc)

pub step-noted : (process : ℕ) (event : Event) (before after : Packeted) (site other : Site)
    (steps ended : List (Option LastStep)) (stood : Option Stood) → stepped event ≡ Some process
    → stood ≡ stood_by (state_in before.world process) → other ≡ site
    → ended ≡ ends_after site process stood (everything_at_end (state_in after.world process)) steps
    → ends_with other ended ≡ noting_ends event before after (ends_with site steps)
step-noted process event before after site other steps ended stood step stands same is =
    ap₂ ends_with same (is ∙ ap (λ (one : Option Stood). ends_after site process one
    (everything_at_end (state_in after.world process)) steps) stands)
    ∙ ap (λ (one : Option ℕ). ends_of_step one before.world after.world (ends_with site steps)) (sym step)
