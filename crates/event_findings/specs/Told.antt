-- What is told of an event: a function of the state before it, and so of the state after it, which playing it gives.
-- Our own.
use Rattle.std.specs.Prelude.{if◌then◌else◌, List, [], ◌∷◌, ◌++◌, length, drop, reverse, option_to_list, Option}
use Rattle.std.specs.Prelude.{Some, None}
use Rattle.machine_states.specs.States.{Makes, Played, Skips, Would, effect_of}
use Rattle.machine_states.specs.declared.effect.Effect.{Effect}
use Rattle.machine_states.specs.declared.effect.Effect.TheVariants as effect
use Rattle.machine_views.specs.Views.{view_of}
use Rattle.machine_views.specs.declared.views.View.{View}
use Rattle.schedule.specs.declared.event.Event.{Event}
use Rattle.machine_views.specs.site_machine.specs.packet_wires.specs.Play.{Packeted, play}
use Rattle.machine_views.specs.site_machine.specs.packet_wires.specs.Sights.{state_after}
use Rattle.machine_views.specs.site_machine.specs.packet_wires.specs.Wires.{Wires}
use Rattle.tal_tree.specs.declared.act.Shown.{Shown}
use Rattle.tal_tree.specs.declared.site.Site.{Site}
use Rattle.trace_lines.specs.declared.finding.Finding.{Finding}
use Rattle.trace_lines.specs.declared.finding.Finding.TheVariants as finding
use Rattle.event_findings.specs.Acts.{held_since, holding_of, kept_since}
use Rattle.event_findings.specs.Changes.{changes_found, still_found}
use Rattle.event_findings.specs.Drives.{drive_found}
use Rattle.event_findings.specs.HandedOver.{handed_over, handed_since}
use Rattle.event_findings.specs.Packets.{may_change, named_found}
use Rattle.event_findings.specs.Sends.{queued_by, sends_since}
use Rattle.event_findings.specs.Watches.{ticking_of, ticks_found}
use Rattle.event_findings.specs.declared.noting.Noted.{Noted}
use Rattle.world_semantics.specs.Kept.{acts_of}

abbrev pub view_before : Packeted → Event → Option View
view_before s event = if may_change s event then Some (view_of s.world) else None

-- what is noted of a state before an event
abbrev pub noted_of : Packeted → Event → Noted
noted_of s event = record {
  packet = named_found s event;
  handed = handed_over s event;
  ticking = ticking_of s event;
  view = view_before s event;
  queued = queued_by s event (view_before s event);
  shown = length s.world.shown;
  acts = length (acts_of s.world);
  holding = holding_of s.world event;
}

abbrev pub changes_since : Site → Event → Option View → View → List Finding
changes_since site event None after = []
changes_since site event (Some before) after = changes_found site event before after

abbrev pub still_noted : Event → Option View → Option Finding
still_noted event None = None
still_noted event (Some view) = still_found event view

-- what the event shows of itself: what became of its packet, how its drive stands, what its tick finds out, and what is
-- told of the message that it hands over
abbrev pub seen_of : Noted → Event → Packeted → List Finding
seen_of noted event next =
    option_to_list noted.packet ++ option_to_list (drive_found event next) ++ ticks_found noted.ticking
    ++ option_to_list (handed_since noted.handed noted.view)

-- what has changed with it: what the views show, what is sent, and which acts are kept and held back
abbrev pub changed_of : Site → Noted → Event → Packeted → List Finding
changed_of site noted event next =
    changes_since site event noted.view (view_of next.world) ++ sends_since next noted.queued
    ++ kept_since next noted.acts ++ held_since next noted.holding

-- what an event did that has this answer and leads to this state, by what was noted before it
abbrev pub found : Site → Noted → Event → Effect → Packeted → List Finding
found site noted event effect.Skipped next = finding.Skipped ∷ option_to_list (still_noted event noted.view)
found site noted event (effect.WouldStopSecond processor) next = finding.WouldStopSecond processor ∷ []
found site noted event (effect.WouldLoseDisc process) next = finding.WouldLoseDisc process ∷ []
found site noted event effect.Done next = seen_of noted event next ++ changed_of site noted event next

-- what was shown since then
abbrev pub shown_after : Noted → Packeted → List Shown
shown_after noted next = drop noted.shown (reverse next.world.shown)

abbrev pub answer_of : Played Wires → Effect
answer_of (Makes next) = effect.Done
answer_of Skips = effect.Skipped
answer_of (Would harm) = effect_of harm

-- what is told of an event that is played in a state
abbrev pub told : Site → Packeted → Event → List Finding
told site s event = found site (noted_of s event) event (answer_of (play s event)) (state_after (play s event) s)

-- what it shows
abbrev pub shown_by : Packeted → Event → List Shown
shown_by s event = shown_after (noted_of s event) (state_after (play s event) s)
