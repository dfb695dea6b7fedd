-- What is drawn of an event is found by the machine's answer and the state after it.
use Rattle.std.proofs.Common.{◌≡◌, ◌∙◌, ℕ, List, ap, ap₂}
use Rattle.chart_drawing.specs.Chart.{chart_after}
use Rattle.chart_drawing.specs.declared.chart.Chart.{Chart}
use Rattle.charted_runs.specs.Charts.{drawn_by}
use Rattle.traced_runs.specs.event_findings.specs.Told.{found, noted_of, shown_after, shown_by, told}
use Rattle.traced_runs.specs.event_findings.specs.declared.noting.Noted.{Noted}
use Rattle.machine_states.specs.declared.effect.Effect.{Effect}
use Rattle.schedule.specs.declared.event.Event.{Event}
use Rattle.traced_runs.specs.site_machine.specs.packet_wires.specs.Play.{Packeted}
use Rattle.tal_tree.specs.declared.act.Shown.{Shown}
use Rattle.tal_tree.specs.declared.site.Site.{Site}
use Rattle.trace_lines.specs.declared.finding.Finding.{Finding}
use Rattle.trace_lines.specs.declared.places.Places.{Places}

pub drawn_is : (site : Site) (places : Places) (number : ℕ) (noted : Noted) (s next : Packeted) (event : Event)
    (effect : Effect) (chart : Chart) → noted ≡ noted_of s event
    → found site (noted_of s event) event effect next ≡ told site s event
    → shown_after (noted_of s event) next ≡ shown_by s event
    → chart_after site places chart number event (found site noted event effect next) (shown_after noted next)
    ≡ drawn_by site places number s event chart
drawn_is site places number noted s next event effect chart is found_is shown_is =
    ap (λ (one : Noted). chart_after site places chart number event (found site one event effect next)
    (shown_after one next)) is
    ∙ ap₂ (λ (findings : List Finding) (shown : List Shown). chart_after site places chart number event findings shown)
    found_is shown_is
