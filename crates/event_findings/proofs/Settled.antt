-- What the machine answers to an event, and the state after it, are those of what the event makes.
use Rattle.std.proofs.Common.{◌≡◌, ap, ap₂}
use Rattle.machine_states.specs.States.{Makes, Played, Settles, Skips, Would}
use Rattle.machine_states.specs.declared.effect.Effect.{Effect}
use Rattle.schedule.specs.declared.event.Event.{Event}
use Rattle.machine_views.specs.site_machine.specs.packet_wires.specs.Play.{Packeted}
use Rattle.machine_views.specs.site_machine.specs.packet_wires.specs.Sights.{state_after}
use Rattle.machine_views.specs.site_machine.specs.packet_wires.specs.Wires.{Wires}
use Rattle.tal_tree.specs.declared.site.Site.{Site}
use Rattle.event_findings.specs.Told.{answer_of, found, shown_after}
use Rattle.event_findings.specs.declared.noting.Noted.{Noted}

pub found_is : (site : Site) (noted : Noted) (event : Event) (s next : Packeted) (effect : Effect)
    (made : Played Wires) → Settles made s effect next
    → found site noted event effect next ≡ found site noted event (answer_of made) (state_after made s)
found_is site noted event s next effect (Makes one) is = ap₂ (found site noted event) is.0 is.1
found_is site noted event s next effect Skips is = ap₂ (found site noted event) is.0 is.1
found_is site noted event s next effect (Would harm) is = ap₂ (found site noted event) is.0 is.1

pub shown_is : (noted : Noted) (s next : Packeted) (effect : Effect) (made : Played Wires)
    → Settles made s effect next → shown_after noted next ≡ shown_after noted (state_after made s)
shown_is noted s next effect (Makes one) is = ap (shown_after noted) is.1
shown_is noted s next effect Skips is = ap (shown_after noted) is.1
shown_is noted s next effect (Would harm) is = ap (shown_after noted) is.1
