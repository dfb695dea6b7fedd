-- A run with notes is a run without them.
use Rattle.std.proofs.Common.{◌≡◌, ℕ, Bool, List, Option, inl, inr, refl, ap, sym, ◌∙◌}
use Rattle.agendas.specs.Agendas.{Agenda}
use Rattle.machine_states.specs.States.{Harm, Makes, Played, Skips, Would, SecondStop, DiscLoss}
use Rattle.packet_runs.specs.Runs.{course_on, packet_rules}
use Rattle.packet_runs.specs.site_machine.specs.Needs.{IsReady}
use Rattle.packet_runs.specs.site_machine.specs.packet_wires.specs.Play.{Packeted, play}
use Rattle.packet_runs.specs.site_machine.specs.packet_wires.specs.Wires.{Wires}
use Rattle.player.specs.declared.standing.Sizes.{Sizes}
use Rattle.player.specs.declared.stop.ProcessorStop.{ProcessorStop}
use Rattle.schedule.specs.declared.event.Event.{Event}
use Rattle.schedule.specs.declared.line.Line.{Line}
use Rattle.schedule_loop.specs.Ends.{CanBePlayed, EndsBy, IsRunOn, RunsOutBy, RunsToHarmBy}
use Rattle.schedule_loop.specs.Plans.{seen_none, seen_on}
use Rattle.schedule_loop.specs.Rules.{IsPlayBy, PlaysBy}
use Rattle.schedule_loop.specs.declared.ran.Ending.{Ending}
use Rattle.schedule_loop.specs.declared.ran.Ending.TheVariants.{Idle, Cut, Second, Lost}
use Rattle.tal_tree.specs.declared.site.Site.{Site}
use Rattle.noted_rules.specs.Noted.{IsReadyToo, Noted, NotedWires, Noting, noted_by, noted_course, noted_rules, plain}

module _ {Notes : Type 0} (noting : Noting Notes) where
  -- What an event makes

  abbrev plain_made : Packeted → Played (NotedWires Notes) → Packeted
  plain_made other (Makes next) = plain next
  plain_made other Skips = other
  plain_made other (Would harm) = other

  abbrev harm_made : Harm → Played (NotedWires Notes) → Harm
  harm_made other (Makes next) = other
  harm_made other Skips = other
  harm_made other (Would harm) = harm

  makes_plain : (s : Noted Notes) (event : Event) (made : Played Wires) (next : Noted Notes)
      → noted_by noting s event made ≡ Makes next → made ≡ Makes (plain next)
  makes_plain s event (Makes after) next is = ap Makes (ap (plain_made after) is)
  makes_plain s event Skips next is = absurd (cc)
  makes_plain s event (Would harm) next is = absurd (cc)

  skips_plain : (s : Noted Notes) (event : Event) (made : Played Wires)
      → noted_by noting s event made ≡ Skips → made ≡ Skips
  skips_plain s event (Makes after) is = absurd (cc)
  skips_plain s event Skips is = refl
  skips_plain s event (Would harm) is = absurd (cc)

  harms_plain : (s : Noted Notes) (event : Event) (made : Played Wires) (harm : Harm)
      → noted_by noting s event made ≡ Would harm → made ≡ Would harm
  harms_plain s event (Makes after) harm is = absurd (cc)
  harms_plain s event Skips harm is = absurd (cc)
  harms_plain s event (Would other) harm is = ap Would (ap (harm_made other) is)

  goes_plain : (s : Noted Notes) (event : Event) (next : Noted Notes) → IsPlayBy (noted_rules noting) s event next
      → IsPlayBy packet_rules (plain s) event (plain next)
  goes_plain s event next (inl makes) = inl (makes_plain s event (play (plain s) event) next makes)
  goes_plain s event next (inr skips) = inr (skips_plain s event (play (plain s) event) skips.0, ap plain skips.1)

  -- What a schedule plays

  plays_plain : {sizes : Sizes} {start : Noted Notes} {lines : List Line} {stop : Option ProcessorStop}
      {events : List Event} {agenda : Agenda} {s : Noted Notes}
      → PlaysBy (noted_rules noting) sizes start lines stop events agenda s
      → PlaysBy packet_rules sizes (plain start) lines stop events agenda (plain s)
  plays_plain seen_none = seen_none
  plays_plain (seen_on plan plays comes goes) =
      seen_on plan (plays_plain plays) comes (goes_plain _ plan.event _ goes)

  module _ (notes : Notes) (site : Site) (lines : List Line) (stop : Option ProcessorStop) where
    pub can_be_noted : CanBePlayed packet_rules IsReady (course_on site lines stop)
        → CanBePlayed (noted_rules noting) IsReadyToo (noted_course notes site lines stop)
    can_be_noted can = record {
      ready = λ events agenda s plays. can.ready events agenda (plain s) (plays_plain plays);
      few = λ events agenda s plays. can.few events agenda (plain s) (plays_plain plays);
    }

    -- How a run ends

    out_plain : (events : List Event) (s : Noted Notes)
        → RunsOutBy (noted_rules noting) (noted_course notes site lines stop) events s
        → RunsOutBy packet_rules (course_on site lines stop) events (plain s)
    out_plain events s out = record { agenda = out.agenda; played = plays_plain out.played; over = out.over }

    harm_plain : (events : List Event) (s : Noted Notes) (harm : Harm)
        → RunsToHarmBy (noted_rules noting) (noted_course notes site lines stop) events s harm
        → RunsToHarmBy packet_rules (course_on site lines stop) events (plain s) harm
    harm_plain events s harm to = record {
      agenda = to.agenda;
      plan = to.plan;
      played = plays_plain to.played;
      comes = to.comes;
      would = harms_plain s to.plan.event (play (plain s) to.plan.event) harm to.would;
    }

    ends_plain : (events : List Event) (s left : Noted Notes) (asked : ℕ) (ending : Ending)
        → EndsBy (noted_rules noting) (noted_course notes site lines stop) events s left asked ending
        → EndsBy packet_rules (course_on site lines stop) events (plain s) (plain left) asked ending
    ends_plain events s left asked Idle ends = (out_plain events s ends.0, ends.1, ap plain ends.2, ends.3)
    ends_plain events s left asked Cut ends = (out_plain events s ends.0, ends.1, ap plain ends.2, ends.3)
    ends_plain events s left asked (Second processor) ends =
        (harm_plain events s (SecondStop processor) ends.0, ap plain ends.1, ends.2)
    ends_plain events s left asked (Lost process) ends =
        (harm_plain events s (DiscLoss process) ends.0, ap plain ends.1, ends.2)

    pub run_plain : (is_broken : Bool) (left : Noted Notes) (asked : ℕ) (ending : Ending)
        → IsRunOn (noted_rules noting) (noted_course notes site lines stop) is_broken left asked ending
        → IsRunOn packet_rules (course_on site lines stop) is_broken (plain left) asked ending
    run_plain is_broken left asked ending ran = record {
      events = ran.events;
      state = plain ran.state;
      few = ran.few;
      whole = ran.whole;
      ends = ends_plain ran.events ran.state left asked ending ran.ends;
    }

  -- What no event changes of the notes stays as it was at the beginning

  module _ {A : Type 0} (part : Notes → A)
      (kept : (event : Event) (before after : Packeted) (notes : Notes)
      → part (noting event before after notes) ≡ part notes) where
    abbrev part_made : A → Played (NotedWires Notes) → A
    part_made other (Makes next) = part next.wires.notes
    part_made other Skips = other
    part_made other (Would harm) = other

    makes_part : (s : Noted Notes) (event : Event) (made : Played Wires) (next : Noted Notes)
        → noted_by noting s event made ≡ Makes next → part s.wires.notes ≡ part next.wires.notes
    makes_part s event (Makes after) next is =
        sym (kept event (plain s) after s.wires.notes)
        ∙ ap (part_made (part s.wires.notes)) is
    makes_part s event Skips next is = absurd (cc)
    makes_part s event (Would harm) next is = absurd (cc)

    goes_part : (s : Noted Notes) (event : Event) (next : Noted Notes)
        → IsPlayBy (noted_rules noting) s event next → part s.wires.notes ≡ part next.wires.notes
    goes_part s event next (inl makes) = makes_part s event (play (plain s) event) next makes
    goes_part s event next (inr skips) =
        ap (λ (one : Noted Notes). part one.wires.notes) (sym skips.1)

    plays_part : {sizes : Sizes} {start : Noted Notes} {lines : List Line} {stop : Option ProcessorStop}
        {events : List Event} {agenda : Agenda} {s : Noted Notes}
        → PlaysBy (noted_rules noting) sizes start lines stop events agenda s
        → part start.wires.notes ≡ part s.wires.notes
    plays_part seen_none = refl
    plays_part (seen_on plan plays comes goes) = plays_part plays ∙ goes_part _ plan.event _ goes

    module _ (notes : Notes) (site : Site) (lines : List Line) (stop : Option ProcessorStop) where
      ends_part : (events : List Event) (s left : Noted Notes) (asked : ℕ) (ending : Ending)
          → EndsBy (noted_rules noting) (noted_course notes site lines stop) events s left asked ending
          → part notes ≡ part left.wires.notes
      ends_part events s left asked Idle ends =
          plays_part ends.0.played
          ∙ ap (λ (one : Noted Notes). part one.wires.notes) (sym ends.2)
      ends_part events s left asked Cut ends =
          plays_part ends.0.played
          ∙ ap (λ (one : Noted Notes). part one.wires.notes) (sym ends.2)
      ends_part events s left asked (Second processor) ends =
          plays_part ends.0.played
          ∙ ap (λ (one : Noted Notes). part one.wires.notes) (sym ends.1)
      ends_part events s left asked (Lost process) ends =
          plays_part ends.0.played
          ∙ ap (λ (one : Noted Notes). part one.wires.notes) (sym ends.1)

      pub run_part : (is_broken : Bool) (left : Noted Notes) (asked : ℕ) (ending : Ending)
          → IsRunOn (noted_rules noting) (noted_course notes site lines stop) is_broken left asked ending
          → part notes ≡ part left.wires.notes
      run_part is_broken left asked ending ran = ends_part ran.events ran.state left asked ending ran.ends
