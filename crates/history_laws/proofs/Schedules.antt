-- What is counted, the close of a run, and the runs of a schedule, of states that have one present.
use Rattle.std.proofs.Common.{◌≡◌, ℕ, ◌+◌, Bool, true, false, List, [], ◌∷◌, ◌++◌, length, map, Option, Some, None}
use Rattle.std.proofs.Common.{inl, inr, refl, ap, ap₂, sym, ◌∙◌}
use Rattle.std.proofs.Math.Path.{fun_ext}
use Rattle.agendas.specs.Agendas.{Agenda, Plan}
use Rattle.checkpoint_image.specs.tal_tree.specs.declared.act.Act.{Act}
use Rattle.packet_words.specs.declared.packet.Packet.{Packet}
use Rattle.player.specs.Lines.{packet_aimed_at}
use Rattle.player.specs.declared.player.Player.{Player}
use Rattle.player.specs.declared.standing.Sizes.{Sizes}
use Rattle.player.specs.declared.stop.ProcessorStop.{ProcessorStop}
use Rattle.schedule.specs.declared.event.Counts.{Counts}
use Rattle.schedule.specs.declared.bus_name.BusName.{BusName}
use Rattle.schedule.specs.declared.bus_name.BusName.TheVariants as bus
use Rattle.schedule.specs.declared.event.Event.{Event}
use Rattle.schedule.specs.declared.line.Line.{Line}
use Rattle.schedule_loop.specs.Ends.{Course, IsRunOn, Plays, RunsOutBy, RunsToHarmBy, planned_in}
use Rattle.schedule_loop.specs.Plans.{Sight, seen_none, seen_on, upcoming_seen}
use Rattle.schedule_loop.specs.declared.ran.Ending.{Ending}
use Rattle.schedule_loop.specs.declared.ran.Ending.TheVariants.{Cut, Idle, Lost, Second}
use Rattle.schedule_loop.specs.Rules.{IsPlayBy, PlaysBy, sight_of}
use Rattle.schedule_loop.specs.machine_states.specs.States.{DiscLoss, Harm, Makes, Played, SecondStop, Skips, Would}
use Rattle.schedule_loop.specs.world_semantics.specs.Shares.{closed_by, closed_by_all, let_go}
use Rattle.schedule_loop.specs.world_semantics.specs.World.{Pair, World}
use Rattle.packet_runs.specs.Runs.{counts_of, is_alive, packet_meant, packet_rules, sender_of}
use Rattle.packet_runs.specs.node_copies.specs.ShownCounts.{replies_in, writes_in}
use Rattle.packet_runs.specs.packet_wires.specs.Idle.{is_idle}
use Rattle.packet_runs.specs.packet_wires.specs.Play.{Packeted, count_on, play}
use Rattle.packet_runs.specs.packet_wires.specs.Wires.{Wires}
use Rattle.packet_runs.specs.site_machine.specs.Seen.{closed_state}
use Rattle.packet_runs.specs.world_copies.specs.Closed.{closed_world}
use Rattle.history_laws.specs.Present.{present, present_pair, present_played, present_state}
use Rattle.history_laws.proofs.Idle.{idle-present}
use Rattle.history_laws.proofs.Packets.{played-alike}
use Rattle.history_laws.proofs.Worlds.{each-present}

-- What is counted

meant-present : (s : Packeted) (place : Option (BusName × ℕ))
    → packet_meant s place ≡ packet_meant (present_state s) place
meant-present s None = refl
meant-present s (Some place) = refl

-- what is counted in a state where this is the packet that the next event concerns, and it is idle or not
abbrev counted : Packeted → Option Packet → Bool → Counts
counted s found idle = record {
  x = count_on s bus.X;
  y = count_on s bus.Y;
  alive = is_alive found;
  sender = sender_of found;
  idle = idle;
  writes = writes_in s.world.shown;
  replies = replies_in s.world.shown;
}

pub counts-present : (s : Packeted) (player : Player) → counts_of s player ≡ counts_of (present_state s) player
counts-present s player =
    ap₂ (λ (found : Option Packet) (idle : Bool). counted s found idle)
    (meant-present s (packet_aimed_at player.sizes (count_on s bus.X) (count_on s bus.Y) player.standing))
    (idle-present s)

-- The close

kept-present : (pairs : List Pair) (kept : List Act)
    → closed_by_all kept pairs ≡ closed_by_all kept (map present_pair pairs)
kept-present [] kept = refl
kept-present (pair ∷ pairs) kept = kept-present pairs (closed_by kept pair)

pub closed-world : (w : World) → present (closed_world w) ≡ closed_world (present w)
closed-world w =
    ap₂ (λ (kept : List Act) (pairs : List Pair). record w {
      requests = [];
      replies = [];
      kept = kept;
      processes = pairs;
    }) (kept-present w.processes w.kept) (each-present let_go (λ pair. refl) w.processes)

pub closed-present : (s : Packeted) → present_state (closed_state s) ≡ closed_state (present_state s)
closed-present s = ap (λ (w : World). record s { world = w }) (closed-world s.world)

closed-alike : (s other : Packeted) → present_state s ≡ present_state other
    → present_state (closed_state s) ≡ present_state (closed_state other)
closed-alike s other same =
    closed-present s ∙ ap (λ (one : Packeted). closed_state one) same ∙ sym (closed-present other)

-- Runs of a schedule

idle-alike : (s other : Packeted) → present_state s ≡ present_state other → is_idle s ≡ is_idle other
idle-alike s other same =
    idle-present s ∙ ap (λ (one : Packeted). is_idle one) same ∙ sym (idle-present other)

sight-present : (s : Packeted) (player : Player)
    → sight_of packet_rules s player ≡ sight_of packet_rules (present_state s) player
sight-present s player =
    ap₂ (λ (counts : Counts) (idle : Bool). record counts { idle = idle }) (counts-present s player) (idle-present s)

sights-alike : (s other : Packeted) → present_state s ≡ present_state other
    → sight_of packet_rules s ≡ sight_of packet_rules other
sights-alike s other same = fun_ext (λ player.
    sight-present s player ∙ ap (λ (one : Packeted). sight_of packet_rules one player) same
    ∙ sym (sight-present other player))

-- the plan for an event is the same
plan-alike : (sizes : Sizes) (before : ℕ) (s other : Packeted) (agenda : Agenda)
    → present_state s ≡ present_state other
    → planned_in packet_rules sizes before s agenda ≡ planned_in packet_rules sizes before other agenda
plan-alike sizes before s other agenda same =
    ap (λ (sight : Sight). upcoming_seen sizes before sight agenda) (sights-alike s other same)

-- an event is played from a state, and leads to one with this present
abbrev Goes : Packeted → Event → Packeted → Type 0
Goes s event next = (t : Packeted) × IsPlayBy packet_rules s event t × (present_state next ≡ present_state t)

abbrev state_made : Packeted → Played Wires → Packeted
state_made other (Makes next) = next
state_made other Skips = other
state_made other (Would harm) = other

abbrev harm_made : Harm → Played Wires → Harm
harm_made other (Makes next) = other
harm_made other Skips = other
harm_made other (Would harm) = harm

makes-alike : (s next : Packeted) (event : Event) (played : Played Wires) → play s event ≡ played
    → Makes (present_state next) ≡ present_played played → Goes s event next
makes-alike s next event (Makes t) is same = (t, inl is, ap (λ made. state_made next made) same)
makes-alike s next event Skips is same = absurd (cc)
makes-alike s next event (Would harm) is same = absurd (cc)

skips-alike : (played : Played Wires) → Skips ≡ present_played played → played ≡ Skips
skips-alike (Makes t) same = absurd (cc)
skips-alike Skips same = refl
skips-alike (Would harm) same = absurd (cc)

harms-alike : (harm : Harm) (played : Played Wires) → Would harm ≡ present_played played → played ≡ Would harm
harms-alike harm (Makes t) same = absurd (cc)
harms-alike harm Skips same = absurd (cc)
harms-alike harm (Would other) same = ap (λ (one : Harm). Would one) (sym (ap (λ made. harm_made harm made) same))

goes-alike : (s other next : Packeted) (event : Event) → present_state s ≡ present_state other
    → IsPlayBy packet_rules s event next → Goes other event next
goes-alike s other next event same (inl makes) =
    makes-alike other next event (play other event) refl
    (sym (ap (λ made. present_played made) makes) ∙ played-alike s other event same)
goes-alike s other next event same (inr skips) = (
  other,
  inr (
    skips-alike (play other event)
        (sym (ap (λ made. present_played made) skips.0) ∙ played-alike s other event same),
    refl,
  ),
  ap (λ (one : Packeted). present_state one) skips.1 ∙ same,
)

module _ (sizes : Sizes) (lines : List Line) (stop : Option ProcessorStop) (other : Packeted) where
  -- these events were played from the other state, and lead to a state with this present
  abbrev PlaysTo : List Event → Agenda → Packeted → Type 0
  PlaysTo events agenda s =
      (t : Packeted) × PlaysBy packet_rules sizes other lines stop events agenda t
      × (present_state s ≡ present_state t)

  plays-one : {events : List Event} {agenda : Agenda} {s next : Packeted} (plan : Plan)
      → planned_in packet_rules sizes (length events) s agenda ≡ Some plan
      → IsPlayBy packet_rules s plan.event next → PlaysTo events agenda s
      → PlaysTo (events ++ plan.event ∷ []) plan.agenda next
  plays-one {events} {agenda} {s} {next} plan comes goes plays =
      let going = goes-alike s plays.0 next plan.event plays.2 goes in (
        going.0,
        seen_on plan plays.1 (sym (plan-alike sizes (length events) s plays.0 agenda plays.2) ∙ comes) going.1,
        going.2,
      )

  plays-alike : {start : Packeted} {events : List Event} {agenda : Agenda} {s : Packeted}
      → present_state start ≡ present_state other
      → PlaysBy packet_rules sizes start lines stop events agenda s → PlaysTo events agenda s
  plays-alike same seen_none = (other, seen_none, same)
  plays-alike same (seen_on plan plays comes goes) = plays-one plan comes goes (plays-alike same plays)

-- How a run ends

abbrev pub from : Course Wires → Packeted → Course Wires
from course other = record course { start = other }

-- a run of the schedule from the other state played these events, ended so, and left a state with this present
abbrev pub EndsTo : Course Wires → Packeted → Bool → List Event → Packeted → ℕ → Ending → Type 0
EndsTo course other is_broken events left asked ending =
    (rest : Packeted) × (run : IsRunOn packet_rules (from course other) is_broken rest asked ending)
    × (run.events ≡ events) × (present_state left ≡ present_state rest)

module _ (course : Course Wires) (other : Packeted)
    (alike : present_state course.start ≡ present_state other) where
  pub plays-too : (s : Packeted) (events : List Event) (agenda : Agenda) → Plays packet_rules course events agenda s
      → (t : Packeted) × Plays packet_rules (from course other) events agenda t × (present_state s ≡ present_state t)
  plays-too s events agenda plays = plays-alike course.sizes course.lines course.stop other alike plays

  -- the schedule is over from the other state too
  outs-too : (events : List Event) (s : Packeted) → RunsOutBy packet_rules course events s
      → (t : Packeted) × RunsOutBy packet_rules (from course other) events t × (present_state s ≡ present_state t)
  outs-too events s out =
      let played = plays-too s events out.agenda out.played in (
        played.0,
        record {
          agenda = out.agenda;
          played = played.1;
          over = sym (plan-alike course.sizes (length events) s played.0 out.agenda played.2) ∙ out.over;
        },
        played.2,
      )

  harms-too : (events : List Event) (s : Packeted) (harm : Harm) → RunsToHarmBy packet_rules course events s harm
      → (t : Packeted) × RunsToHarmBy packet_rules (from course other) events t harm
      × (present_state s ≡ present_state t)
  harms-too events s harm to =
      let played = plays-too s events to.agenda to.played in (
        played.0,
        record {
          agenda = to.agenda;
          plan = to.plan;
          played = played.1;
          comes = sym (plan-alike course.sizes (length events) s played.0 to.agenda played.2) ∙ to.comes;
          would = harms-alike harm (play played.0 to.plan.event)
              (sym (ap (λ made. present_played made) to.would) ∙ played-alike s played.0 to.plan.event played.2);
        },
        played.2,
      )

  pub ends-too : (is_broken : Bool) (left : Packeted) (asked : ℕ) (ending : Ending)
      → (ran : IsRunOn packet_rules course is_broken left asked ending)
      → EndsTo course other is_broken ran.events left asked ending
  ends-too is_broken left asked Idle ran =
      let out = outs-too ran.events ran.state ran.ends.0 in (
        closed_state out.0,
        record {
          events = ran.events;
          state = out.0;
          few = ran.few;
          whole = ran.whole;
          ends = (out.1, sym (idle-alike ran.state out.0 out.2) ∙ ran.ends.1, refl, ran.ends.3);
        },
        refl,
        ap (λ (one : Packeted). present_state one) ran.ends.2 ∙ closed-alike ran.state out.0 out.2,
      )
  ends-too is_broken left asked Cut ran =
      let out = outs-too ran.events ran.state ran.ends.0 in (
        out.0,
        record {
          events = ran.events;
          state = out.0;
          few = ran.few;
          whole = ran.whole;
          ends = (out.1, sym (idle-alike ran.state out.0 out.2) ∙ ran.ends.1, refl, ran.ends.3);
        },
        refl,
        ap (λ (one : Packeted). present_state one) ran.ends.2 ∙ out.2,
      )
  ends-too is_broken left asked (Second processor) ran =
      let to = harms-too ran.events ran.state (SecondStop processor) ran.ends.0 in (
        to.0,
        record {
          events = ran.events;
          state = to.0;
          few = ran.few;
          whole = ran.whole;
          ends = (to.1, refl, ran.ends.2);
        },
        refl,
        ap (λ (one : Packeted). present_state one) ran.ends.1 ∙ to.2,
      )
  ends-too is_broken left asked (Lost process) ran =
      let to = harms-too ran.events ran.state (DiscLoss process) ran.ends.0 in (
        to.0,
        record {
          events = ran.events;
          state = to.0;
          few = ran.few;
          whole = ran.whole;
          ends = (to.1, refl, ran.ends.2);
        },
        refl,
        ap (λ (one : Packeted). present_state one) ran.ends.1 ∙ to.2,
      )
