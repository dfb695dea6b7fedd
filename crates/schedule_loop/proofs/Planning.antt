-- The plan that the lines of a schedule give.
use Rattle.std.proofs.Common.{◌≡◌, ◌∙◌, ℕ, Bool, true, false, List, [], ◌∷◌, Option, Some, None, refl, ap, ap₂}
use Rattle.std.proofs.Common.{subst, sym}
use Rattle.std.specs.Option.{IfSome, option_map}
use Rattle.schedule.specs.declared.event.Counts.{Counts}
use Rattle.schedule.specs.declared.event.Event.{Event}
use Rattle.schedule.specs.declared.event.Event.TheVariants.{Fail}
use Rattle.schedule.specs.declared.line.Line.{Line}
use Rattle.player.specs.declared.player.Player.{Player}
use Rattle.player.specs.declared.standing.Sizes.{Sizes}
use Rattle.player.specs.declared.standing.LinePlace.{LinePlace}
use Rattle.player.specs.declared.standing.Move.{Move}
use Rattle.player.specs.declared.stop.ProcessorStop.{ProcessorStop}
use Rattle.player.specs.Lines.{begun, event_of, next_event, stands_after}
use Rattle.agendas.specs.Agendas.{Plan, stopped_by}
use Rattle.schedule_loop.specs.Looks.{asks_packet}
use Rattle.schedule_loop.specs.Plans.{Sight, next_seen, planned_seen}
use Rattle.schedule_loop.specs.Seen.{IsBegun, Scheduled, event_in}
use Rattle.schedule_loop.proofs.Looking.{same-unlooked}

-- where it is told whether a machine is idle
pub asked : (sizes : Sizes) (standing : LinePlace) (player : Player) (counts : Player → Counts) (told : Counts)
    (idle : Bool) → player ≡ record { sizes = sizes; standing = standing }
    → told ≡ record (counts player) { idle = idle }
    → next_event sizes standing told
    ≡ next_event sizes standing (record (counts (record { sizes = sizes; standing = standing })) { idle = idle })
asked sizes standing player counts told idle here is =
    ap (next_event sizes standing) is
    ∙ ap (λ (one : Player). next_event sizes standing (record (counts one) { idle = idle })) here

-- and where the next event doesn't depend on that, it is the same if that is told wrongly
pub unasked : (sizes : Sizes) (standing : LinePlace) (player : Player) (counts : Counts) (idle : Bool)
    → player ≡ record { sizes = sizes; standing = standing }
    → ((any : Counts) (is : Bool) → next_event player.sizes player.standing (record any { idle = is })
    ≡ next_event player.sizes player.standing any)
    → next_event sizes standing (record counts { idle = false })
    ≡ next_event sizes standing (record counts { idle = idle })
unasked sizes standing player counts idle here same =
    let any : (one : Counts) (is : Bool) → next_event sizes standing (record one { idle = is })
    ≡ next_event sizes standing one =
    subst (λ (at : Player). (one : Counts) (is : Bool) → next_event at.sizes at.standing (record one { idle = is })
    ≡ next_event at.sizes at.standing one) here same in
    any counts false ∙ sym (any counts idle)

-- where it doesn't depend on the packet that it concerns, it is the same if no packet is looked at
pub unlooked : (sizes : Sizes) (standing : LinePlace) (player : Player) (counts told : Counts)
    → player ≡ record { sizes = sizes; standing = standing } → asks_packet player.standing ≡ false
    → told ≡ record counts { alive = false; sender = 0 }
    → next_event sizes standing told ≡ next_event sizes standing counts
unlooked sizes standing player counts told here none is =
    ap (next_event sizes standing) is
    ∙ same-unlooked sizes standing (sym (ap (λ (at : Player). asks_packet at.standing) here) ∙ none) counts

-- where the line gives an event, that is the plan
pub gives-event : (sizes : Sizes) (sight : Sight) (stop : Option ProcessorStop) (lines : List Line)
    (move : Option Move) (event : Event) → event_of move ≡ Some event
    → Some event ≡ event_in (planned_seen sizes sight stop lines move)
gives-event sizes sight stop lines None event e = absurd (cc)
gives-event sizes sight stop lines (Some move) event e = sym e

pub gives-agenda : (here after : Scheduled) (sizes : Sizes) (sight : Sight) (move : Option Move) (event : Event)
    → here.agenda.held_back ≡ None
    → here.sizes ≡ sizes → event_of move ≡ Some event
    → after ≡ record here { agenda = record here.agenda { standing = stands_after move } }
    → IfSome (planned_seen here.sizes sight here.agenda.stop here.agenda.lines move)
    (λ plan. after ≡ record { sizes = sizes; agenda = plan.agenda })
gives-agenda here after sizes sight None event held same e next = absurd (cc)
gives-agenda here after sizes sight (Some move) event held same e next =
    next
    ∙ ap₂ (λ (z : Sizes) (h : Option Event). record {
      sizes = z;
      agenda = record { standing = move.standing; lines = here.agenda.lines; stop = here.agenda.stop; held_back = h };
    }) same held

-- the plan of where a schedule stands
abbrev pub Planned : Sight → Scheduled → Option Plan
Planned sight at =
    planned_seen at.sizes sight at.agenda.stop at.agenda.lines (next_seen at.sizes sight at.agenda.standing)

no_move : (move : Option Move) → event_of move ≡ None → move ≡ None
no_move None e = refl
no_move (Some move) e = absurd (cc)

-- where the line gives no event, and the next one begins, the plan is the same
goes_on : (sight : Sight) (here ended begun_ : Scheduled) (lines : List Line) → ended.agenda.lines ≡ lines
    → event_of (next_seen here.sizes sight here.agenda.standing) ≡ None
    → ended ≡ record here {
      agenda = record here.agenda
          { standing = stands_after (next_seen here.sizes sight here.agenda.standing) };
    }
    → IsBegun lines ended true begun_
    → (begun_.agenda.held_back ≡ here.agenda.held_back) × (begun_.agenda.stop ≡ here.agenda.stop)
    × (begun_.sizes ≡ here.sizes)
    × (Planned sight begun_ ≡ Planned sight here)
goes_on sight here ended begun_ [] is e same begins = absurd (cc)
goes_on sight here ended begun_ (line ∷ rest) is e same begins =
    let lines : here.agenda.lines ≡ line ∷ rest = sym (ap (λ (s : Scheduled). s.agenda.lines) same) ∙ is in (
      ap (λ (s : Scheduled). s.agenda.held_back) begins.1 ∙ ap (λ (s : Scheduled). s.agenda.held_back) same,
      ap (λ (s : Scheduled). s.agenda.stop) begins.1 ∙ ap (λ (s : Scheduled). s.agenda.stop) same,
      ap (λ (s : Scheduled). s.sizes) begins.1 ∙ ap (λ (s : Scheduled). s.sizes) same,
      ap (Planned sight) begins.1
          ∙ ap (λ (s : Scheduled). planned_seen s.sizes sight s.agenda.stop rest
          (next_seen s.sizes sight (begun line))) same
          ∙ sym (ap₂ (λ (all : List Line) (move : Option Move). planned_seen here.sizes sight here.agenda.stop all move)
          lines
          (no_move (next_seen here.sizes sight here.agenda.standing) e)),
    )

-- so it is that of the place at which the lines were taken up
pub goes_along : (sight : Sight) (first here ended begun_ : Scheduled) (lines : List Line) → ended.agenda.lines ≡ lines
    → event_of (next_seen here.sizes sight here.agenda.standing) ≡ None
    → ended ≡ record here {
      agenda = record here.agenda
          { standing = stands_after (next_seen here.sizes sight here.agenda.standing) };
    }
    → IsBegun lines ended true begun_
    → (here.agenda.held_back ≡ None) × (here.agenda.stop ≡ first.agenda.stop) × (here.sizes ≡ first.sizes)
    × (Planned sight here ≡ Planned sight first)
    → (begun_.agenda.held_back ≡ None) × (begun_.agenda.stop ≡ first.agenda.stop) × (begun_.sizes ≡ first.sizes)
    × (Planned sight begun_ ≡ Planned sight first)
goes_along sight first here ended begun_ lines is e same begins before =
    let on = goes_on sight here ended begun_ lines is e same begins in
    (on.0 ∙ before.0, on.1 ∙ before.1, on.2 ∙ before.2, on.3 ∙ before.3)

-- and where there is no line more, nothing is planned
pub is_over : (sight : Sight) (here ended after : Scheduled) (lines : List Line) → ended.agenda.lines ≡ lines
    → event_of (next_seen here.sizes sight here.agenda.standing) ≡ None
    → ended ≡ record here {
      agenda = record here.agenda
          { standing = stands_after (next_seen here.sizes sight here.agenda.standing) };
    }
    → IsBegun lines ended false after → Planned sight here ≡ None
is_over sight here ended after [] is e same begins =
    ap₂ (λ (all : List Line) (move : Option Move). planned_seen here.sizes sight here.agenda.stop all move)
    (sym (ap (λ (s : Scheduled). s.agenda.lines) same) ∙ is)
    (no_move (next_seen here.sizes sight here.agenda.standing) e)
is_over sight here ended after (line ∷ rest) is e same begins = absurd (cc)

-- no stop comes before a planned event
pub stays-event : (plan : Option Plan) (stop : Option ℕ) (event : Event) → event_in plan ≡ Some event → stop ≡ None
    → Some event ≡ event_in (option_map (stopped_by stop) plan)
stays-event None stop event e none = absurd (cc)
stays-event (Some plan) None event e none = sym e
stays-event (Some plan) (Some processor) event e none = absurd (cc)

pub stays-agenda : (plan : Option Plan) (stop : Option ℕ) (event : Event) (sizes : Sizes) (after : Scheduled)
    → event_in plan ≡ Some event → stop ≡ None
    → IfSome plan (λ one. after ≡ record { sizes = sizes; agenda = one.agenda })
    → IfSome (option_map (stopped_by stop) plan) (λ one. after ≡ record { sizes = sizes; agenda = one.agenda })
stays-agenda None stop event sizes after e none is = tt
stays-agenda (Some plan) None event sizes after e none is = is
stays-agenda (Some plan) (Some processor) event sizes after e none is = absurd (cc)

-- or one comes, and the event is held back
pub stops-event : (plan : Option Plan) (stop : Option ℕ) (event : Event) (processor : ℕ) → event_in plan ≡ Some event
    → stop ≡ Some processor
    → Some (Fail processor) ≡ event_in (option_map (stopped_by stop) plan)
stops-event None stop event processor e some = absurd (cc)
stops-event (Some plan) None event processor e some = absurd (cc)
stops-event (Some plan) (Some other) event processor e some = ap (option_map Fail) (sym some)

pub stops-agenda : (plan : Option Plan) (stop : Option ℕ) (event : Event) (processor : ℕ) (sizes : Sizes)
    (before after : Scheduled)
    → event_in plan ≡ Some event → stop ≡ Some processor
    → IfSome plan (λ one. before ≡ record { sizes = sizes; agenda = one.agenda })
    → after ≡ record before { agenda = record before.agenda { stop = None; held_back = Some event } }
    → IfSome (option_map (stopped_by stop) plan) (λ one. after ≡ record { sizes = sizes; agenda = one.agenda })
stops-agenda None stop event processor sizes before after e some is next = tt
stops-agenda (Some plan) None event processor sizes before after e some is next = absurd (cc)
stops-agenda (Some plan) (Some other) event processor sizes before after e some is next =
    next
    ∙ ap (λ (s : Scheduled). record s { agenda = record s.agenda { stop = None; held_back = Some event } }) is
    ∙ ap (λ (held : Option Event). record {
      sizes = sizes;
      agenda = record plan.agenda { stop = None; held_back = held };
    }) (sym e)
