-- What the machine answers to an event says what became of it.
use Rattle.std.proofs.Common.{◌≡◌, ◌∙◌, ℕ, List, [], Option, Result, Ok, Err, ap, ap₂, inl, inr, refl, subst, sym}
use Rattle.std.specs.Prelude.{IfErr}
use Rattle.event_findings.specs.Told.{found, noted_of, shown_after, shown_by, told}
use Rattle.event_findings.specs.declared.noting.Noted.{Noted}
use Rattle.gd_io.specs.Joining.{puts_nothing}
use Rattle.machine_states.specs.States.{DiscLoss, Harm, Makes, Played, SecondStop, Settles, Skips, Would, effect_of}
use Rattle.machine_states.specs.declared.effect.Effect.{Effect}
use Rattle.packet_runs.specs.Runs.{packet_rules}
use Rattle.schedule.specs.declared.event.Event.{Event}
use Rattle.schedule_loop.specs.Ends.{IsTriedBy}
use Rattle.packet_runs.specs.site_machine.specs.packet_wires.specs.Play.{Packeted, play}
use Rattle.packet_runs.specs.site_machine.specs.packet_wires.specs.Wires.{Wires}
use Rattle.tal_tree.specs.declared.act.Shown.{Shown}
use Rattle.tal_tree.specs.declared.site.Site.{Site}
use Rattle.trace_forms.specs.Forms.{line_in}
use Rattle.trace_forms.specs.declared.form.Form.{Form}
use Rattle.trace_lines.specs.declared.finding.Finding.{Finding}
use Rattle.trace_lines.specs.declared.places.Places.{Places}
use Rattle.traced_runs.specs.Trace.{ending_of, told_line}
use Rattle.traced_runs.specs.Traces.{IsWantOfMemory, Tells}
use Rattle.traced_runs.specs.declared.fault.TraceFault.{TraceFault}
use Rattle.traced_runs.specs.declared.fault.TraceFault.TheVariants as fault

harmed_of : (s next : Packeted) (event : Event) (harm : Harm) → play s event ≡ Would harm → next ≡ s
    → IsTriedBy packet_rules s event next (ending_of (effect_of harm))
harmed_of s next event (SecondStop processor) is same =
    record { harm = SecondStop processor; would = is; ends = refl; same = same }
harmed_of s next event (DiscLoss process) is same =
    record { harm = DiscLoss process; would = is; ends = refl; same = same }

tried_of : (s next : Packeted) (event : Event) (made : Played Wires) (effect : Effect) → play s event ≡ made
    → Settles made s effect next → IsTriedBy packet_rules s event next (ending_of effect)
tried_of s next event (Makes one) effect is settles =
    subst (λ (answer : Effect). IsTriedBy packet_rules s event next (ending_of answer)) (sym settles.0)
    (inl (is ∙ ap Makes (sym settles.1)))
tried_of s next event Skips effect is settles =
    subst (λ (answer : Effect). IsTriedBy packet_rules s event next (ending_of answer)) (sym settles.0)
    (inr (is, settles.1))
tried_of s next event (Would harm) effect is settles =
    subst (λ (answer : Effect). IsTriedBy packet_rules s event next (ending_of answer)) (sym settles.0)
    (harmed_of s next event harm is settles.1)

pub tried_by : (s next : Packeted) (event : Event) (effect : Effect)
    → Settles (play s event) s effect next → IsTriedBy packet_rules s event next (ending_of effect)
tried_by s next event effect settles = tried_of s next event (play s event) effect refl settles

-- nothing is told where a line isn't within the span
pub tells_nothing : {K A : Type 0} (held : K → Option (List ℕ)) (faults : K → ℕ) (sure : K → ℕ → Type 0) (sink : K)
    (result : Result A TraceFault) → IfErr result IsWantOfMemory → Tells held faults sure sink sink [] result
tells_nothing held faults sure sink (Ok answer) want = puts_nothing held faults sure sink
tells_nothing held faults sure sink (Err (fault.NoMemory memory)) want = puts_nothing held faults sure sink
tells_nothing held faults sure sink (Err (fault.Write why)) want = absurd want

-- the line of an event is found by the machine's answer and the state after it
pub line_is : (form : Form) (site : Site) (places : Places) (number : ℕ) (noted : Noted) (s next : Packeted)
    (event : Event) (effect : Effect) → noted ≡ noted_of s event
    → found site (noted_of s event) event effect next ≡ told site s event
    → shown_after (noted_of s event) next ≡ shown_by s event
    → line_in form site places number event (found site noted event effect next) (shown_after noted next)
    ≡ told_line form site places number s event
line_is form site places number noted s next event effect is found_is shown_is =
    ap (λ (one : Noted). line_in form site places number event (found site one event effect next)
    (shown_after one next)) is
    ∙ ap₂ (λ (findings : List Finding) (shown : List Shown). line_in form site places number event findings shown)
    found_is shown_is
