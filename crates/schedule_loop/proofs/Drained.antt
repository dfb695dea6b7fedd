-- Rounds of a drain, event by event.
use Rattle.std.proofs.Common.{◌≡◌, ◌≤◌, ◌<◌, ◌∙◌, ℕ, ◌+◌, ◌-◌, Bool, true, false, if◌then◌else◌, List, Option}
use Rattle.std.proofs.Common.{Some, None, Result, Ok, Err, IfOk, refl, ap, ap₂, sym, subst, arith}
use Rattle.std.specs.Bool.{OnTrue}
use Rattle.std.proofs.lemmas.Bool.{le-ltb, lt-ltb}
use Rattle.std.specs.Option.{IfSome, option_map}
use Rattle.schedule.specs.declared.bus_name.BusName.{BusName}
use Rattle.schedule.specs.declared.bus_name.BusName.TheVariants as bus
use Rattle.schedule.specs.declared.event.Event.{Event}
use Rattle.schedule.specs.declared.event.Event.TheVariants as event
use Rattle.schedule.specs.declared.line.Line.{Line}
use Rattle.player.specs.declared.standing.LinePlace.{LinePlace}
use Rattle.player.specs.declared.standing.LinePlace.TheVariants as standing
use Rattle.player.specs.declared.standing.Move.{Move}
use Rattle.player.specs.declared.standing.Place.{Place}
use Rattle.player.specs.declared.standing.Place.TheVariants as place
use Rattle.player.specs.declared.standing.Rule.TheVariants as rule
use Rattle.player.specs.declared.standing.Sizes.{Sizes}
use Rattle.player.specs.declared.standing.Turn.{Turn}
use Rattle.player.specs.declared.stop.ProcessorStop.{ProcessorStop}
use Rattle.player.specs.Lines.{decided_move, is_before, moved, rounds_to_drain}
use Rattle.player.specs.Rounds.{delivers_x, next_turn, runs, turn}
use Rattle.agendas.specs.Agendas.{Plan, stopped_by}
use Rattle.machine_states.specs.States.{State}
use Rattle.schedule_loop.specs.Drained.{Drains, GoesOn, IsDrained, IsDueAt, IsFree, Takes, counted, scheduled}
use Rattle.schedule_loop.specs.Drained.{standing_of, stood}
use Rattle.schedule_loop.specs.Ends.{Course, IsTriedBy}
use Rattle.schedule_loop.specs.Plans.{planned_seen}
use Rattle.schedule_loop.specs.Playing.{IsPlaying}
use Rattle.schedule_loop.specs.Rules.{Rules, sight_of}
use Rattle.schedule_loop.specs.Seen.{Scheduled, event_in}
use Rattle.schedule_loop.specs.declared.drain.Drain.{Drain}
use Rattle.schedule_loop.proofs.Draining.{delivers}
use Rattle.schedule_loop.proofs.Playing.{Coming, goes_on, is_ready}

-- With no event a drain stands where it stood.
pub stays : {Wires : Type 0} (rules : Rules Wires) (drain : Drain) (s : State Wires) → Drains rules drain drain s s
stays rules drain s = record {
  sizes = refl;
  until = refl;
  more = omega arith;
  plays = λ course lines stop free playing. playing;
}

pub onward : {Wires : Type 0} (rules : Rules Wires) (a b c : Drain) (s t u : State Wires) → Drains rules a b s t
    → Drains rules b c t u → Drains rules a c s u
onward rules a b c s t u one two = record {
  sizes = two.sizes ∙ one.sizes;
  until = two.until ∙ one.until;
  more = omega (arith, one.more, two.more);
  plays = λ course lines stop free playing. two.plays course lines stop
      (λ n from until. free n (omega (arith, one.more, from)) (subst (λ m. n < m) one.until until))
      (one.plays course lines stop free playing);
}

pub drained : {Wires : Type 0} (rules : Rules Wires) (ready : State Wires → Type 0) (a b : Drain) (s t : State Wires)
    → IsDrained rules ready a s → Drains rules a b s t → IsDrained rules ready b t
drained rules ready a b s t can one = record {
  course = can.course;
  lines = can.lines;
  stop = can.stop;
  can = can.can;
  free = λ n from until. can.free n (omega (arith, one.more, from)) (subst (λ m. n < m) one.until until);
  playing = one.plays can.course can.lines can.stop can.free can.playing;
}

pub ready : {Wires : Type 0} (rules : Rules Wires) (is_so : State Wires → Type 0) (a : Drain) (s : State Wires)
    → IsDrained rules is_so a s → is_so s
ready rules is_so a s can =
    is_ready rules is_so can.course (scheduled can.lines can.stop a) s a.played can.can can.playing

-- An event is played.
pub plays-one : {Wires : Type 0} (rules : Rules Wires) (rest : ℕ) (before after : Drain) (s next : State Wires)
    (event : Event) (place : Place) → Takes rules rest before s (record { event = event; place = place })
    → before.played < before.until → IsTriedBy rules s event next None → after ≡ stood rest place before
    → Drains rules before after s next
plays-one rules rest before after s next event place takes few tried is =
    subst (λ (one : Drain). Drains rules before one s next) (sym is) (record {
      sizes = refl;
      until = refl;
      more = omega arith;
      plays = λ course lines stop free playing. goes_on rules course (scheduled lines stop before)
          (scheduled lines stop (stood rest place before)) s next before.played event playing
          (ap event_in (comes lines stop free))
          (subst (λ (plan : Option Plan). IfSome plan (λ one. scheduled lines stop (stood rest place before)
          ≡ record (scheduled lines stop before) { agenda = one.agenda })) (sym (comes lines stop free)) refl)
          tried;
    })
  where
    comes : (lines : List Line) (stop : Option ProcessorStop) → IsFree stop before.played before.until
        → Coming rules (scheduled lines stop before) s before.played
        ≡ Some (record { event = event; agenda = (scheduled lines stop (stood rest place before)).agenda })
    comes lines stop free =
        ap₂ (λ (halt : Option ℕ) (move : Option Move).
        option_map (stopped_by halt) (planned_seen before.sizes (sight_of rules s) stop lines move))
        (free before.played (omega arith) few) takes

-- And then the next event is due where the round stands.
due-in : {Wires : Type 0} (rules : Rules Wires) (rest : ℕ) (before : Drain) (s : State Wires) (place : Place)
    → is_before place ≡ false → IsDueAt rules rest (stood rest place before) s place
due-in rules rest before s place.Before is = absurd (cc)
due-in rules rest before s (place.Enters terminal) is = refl
due-in rules rest before s (place.Runs process) is = refl
due-in rules rest before s (place.Delivers bus left) is = refl
due-in rules rest before s (place.Ticks node) is = refl

pub due-then : {Wires : Type 0} (rules : Rules Wires) (rest : ℕ) (before after : Drain) (s : State Wires)
    (place : Place) → is_before place ≡ false → after ≡ stood rest place before → IsDueAt rules rest after s place
due-then rules rest before after s place is same =
    subst (λ (one : Drain). IsDueAt rules rest one s place) (sym same) (due-in rules rest before s place is)

-- Which event is due.
by-turn : {Wires : Type 0} (rules : Rules Wires) (rest : ℕ) (drain : Drain) (s : State Wires) (from : Place)
    (one : Turn) → IsDueAt rules rest drain s from
    → next_turn drain.sizes (counted rules drain s).x (counted rules drain s).y from ≡ one
    → Takes rules rest drain s one
by-turn rules rest drain s from one due is = due ∙ ap (λ (t : Turn). Some (moved rule.Drain rest t)) is

pub due-begin : {Wires : Type 0} (rules : Rules Wires) (drain : Drain) (s : State Wires) → drain.place ≡ place.Before
    → 0 < drain.left → rules.is_idle s ≡ false → IsDueAt rules (drain.left - 1) drain s place.Before
due-begin rules drain s before some busy =
    subst (λ (one : Place). IsDueAt rules (drain.left - 1) (record drain { place = one }) s place.Before) (sym before)
    (ap₂ (λ (idle left : Bool). if idle then None else option_map (decided_move
    (standing.Rounds rule.Drain drain.left place.Before) (counted rules (record drain { place = place.Before }) s))
    (if left then Some (moved rule.Drain (drain.left - 1) (next_turn drain.sizes (counted rules (record drain
    { place = place.Before }) s).x (counted rules (record drain { place = place.Before }) s).y place.Before))
    else None)) busy (lt-ltb 0 drain.left some))

pub enters-one : {Wires : Type 0} (rules : Rules Wires) (rest : ℕ) (drain : Drain) (s : State Wires) (n : ℕ)
    → IsDueAt rules rest drain s (place.Enters n) → n < drain.sizes.terminals
    → Takes rules rest drain s (turn (event.Enter n) (place.Enters (n + 1)))
enters-one rules rest drain s n due some =
    by-turn rules rest drain s (place.Enters n) (turn (event.Enter n) (place.Enters (n + 1))) due
    (ap (λ (b : Bool). if b then turn (event.Enter n) (place.Enters (n + 1))
    else runs drain.sizes (counted rules drain s).x (counted rules drain s).y 0)
    (lt-ltb n drain.sizes.terminals some))

pub runs-one : {Wires : Type 0} (rules : Rules Wires) (rest : ℕ) (drain : Drain) (s : State Wires) (n : ℕ)
    → IsDueAt rules rest drain s (place.Runs n) → n < drain.sizes.processes
    → Takes rules rest drain s (turn (event.Run n) (place.Runs (n + 1)))
runs-one rules rest drain s n due some =
    by-turn rules rest drain s (place.Runs n) (turn (event.Run n) (place.Runs (n + 1))) due
    (ap (λ (b : Bool). if b then turn (event.Run n) (place.Runs (n + 1))
    else delivers_x drain.sizes (counted rules drain s).y (counted rules drain s).x)
    (lt-ltb n drain.sizes.processes some))

pub delivers-one : {Wires : Type 0} (rules : Rules Wires) (rest : ℕ) (drain : Drain) (s : State Wires) (bus : BusName)
    (left : ℕ) → IsDueAt rules rest drain s (place.Delivers bus (left + 1))
    → Takes rules rest drain s (turn (event.Deliver bus 0) (place.Delivers bus left))
delivers-one rules rest drain s bus left due =
    by-turn rules rest drain s (place.Delivers bus (left + 1))
    (turn (event.Deliver bus 0) (place.Delivers bus left)) due
    (delivers drain.sizes (counted rules drain s).x (counted rules drain s).y bus (left + 1)
    (lt-ltb 0 (left + 1) (omega arith)) ∙ ap (λ (n : ℕ). turn (event.Deliver bus 0) (place.Delivers bus n)) less)
  where
    less : left + 1 - 1 ≡ left
    less = omega arith

pub ticks-one : {Wires : Type 0} (rules : Rules Wires) (rest : ℕ) (drain : Drain) (s : State Wires) (n : ℕ)
    → IsDueAt rules rest drain s (place.Ticks n) → n < drain.sizes.processors
    → Takes rules rest drain s (turn (event.Tick n) (place.Ticks (n + 1)))
ticks-one rules rest drain s n due some =
    by-turn rules rest drain s (place.Ticks n) (turn (event.Tick n) (place.Ticks (n + 1))) due
    (ap (λ (b : Bool). if b then turn (event.Tick n) (place.Ticks (n + 1)) else turn (event.Tick 16) place.Before)
    (lt-ltb n drain.sizes.processors some))

-- A part is over.
pub enters-over : {Wires : Type 0} (rules : Rules Wires) (rest : ℕ) (drain : Drain) (s : State Wires) (n : ℕ)
    → IsDueAt rules rest drain s (place.Enters n) → drain.sizes.terminals ≤ n
    → IsDueAt rules rest drain s (place.Runs 0)
enters-over rules rest drain s n due none =
    by-turn rules rest drain s (place.Enters n)
    (next_turn drain.sizes (counted rules drain s).x (counted rules drain s).y (place.Runs 0)) due
    (ap (λ (b : Bool). if b then turn (event.Enter n) (place.Enters (n + 1))
    else runs drain.sizes (counted rules drain s).x (counted rules drain s).y 0)
    (le-ltb n drain.sizes.terminals none))

pub runs-over : {Wires : Type 0} (rules : Rules Wires) (rest : ℕ) (drain : Drain) (s : State Wires) (n : ℕ)
    → IsDueAt rules rest drain s (place.Runs n) → drain.sizes.processes ≤ n
    → IsDueAt rules rest drain s (place.Delivers bus.X (counted rules drain s).x)
runs-over rules rest drain s n due none =
    by-turn rules rest drain s (place.Runs n)
    (next_turn drain.sizes (counted rules drain s).x (counted rules drain s).y
    (place.Delivers bus.X (counted rules drain s).x)) due
    (ap (λ (b : Bool). if b then turn (event.Run n) (place.Runs (n + 1))
    else delivers_x drain.sizes (counted rules drain s).y (counted rules drain s).x)
    (le-ltb n drain.sizes.processes none))

pub x-over : {Wires : Type 0} (rules : Rules Wires) (rest : ℕ) (drain : Drain) (s : State Wires)
    → IsDueAt rules rest drain s (place.Delivers bus.X 0)
    → IsDueAt rules rest drain s (place.Delivers bus.Y (counted rules drain s).y)
x-over rules rest drain s due = due

pub y-over : {Wires : Type 0} (rules : Rules Wires) (rest : ℕ) (drain : Drain) (s : State Wires)
    → IsDueAt rules rest drain s (place.Delivers bus.Y 0) → IsDueAt rules rest drain s (place.Ticks 0)
y-over rules rest drain s due = due

pub ticks-over : {Wires : Type 0} (rules : Rules Wires) (rest : ℕ) (drain : Drain) (s : State Wires) (n : ℕ)
    → IsDueAt rules rest drain s (place.Ticks n) → drain.sizes.processors ≤ n
    → Takes rules rest drain s (turn (event.Tick 16) place.Before)
ticks-over rules rest drain s n due none =
    by-turn rules rest drain s (place.Ticks n) (turn (event.Tick 16) place.Before) due
    (ap (λ (b : Bool). if b then turn (event.Tick n) (place.Ticks (n + 1)) else turn (event.Tick 16) place.Before)
    (le-ltb n drain.sizes.processors none))

-- What a part answers.
pub told-onward : {Wires E : Type 0} (rules : Rules Wires) (a b c : Drain) (s t u : State Wires)
    (answer : Result Bool E) → Drains rules a b s t → IfOk answer (λ went. Drains rules b c t u)
    → IfOk answer (λ went. Drains rules a c s u)
told-onward rules a b c s t u (Ok went) one two = onward rules a b c s t u one two
told-onward rules a b c s t u (Err error) one two = tt

pub told-due : {Wires E : Type 0} (rules : Rules Wires) (rest : ℕ) (before after : Drain) (s : State Wires)
    (place : Place) (answer : Result Bool E) → is_before place ≡ false
    → IfOk answer (λ went. OnTrue went (after ≡ stood rest place before))
    → IfOk answer (λ went. OnTrue went (IsDueAt rules rest after s place))
told-due rules rest before after s place (Ok true) is same = due-then rules rest before after s place is same
told-due rules rest before after s place (Ok false) is same = tt
told-due rules rest before after s place (Err error) is same = tt

pub told-ends : {E : Type 0} (rest : ℕ) (before after : Drain) (answer : Result Bool E)
    → IfOk answer (λ went. OnTrue went (after ≡ stood rest place.Before before))
    → IfOk answer (λ went. OnTrue went ((after.left ≡ rest) × (after.place ≡ place.Before)))
told-ends rest before after (Ok true) same =
    (ap (λ (one : Drain). one.left) same, ap (λ (one : Drain). one.place) same)
told-ends rest before after (Ok false) same = tt
told-ends rest before after (Err error) same = tt

-- A schedule stands at a drain.
pub before-rounds : (at : LinePlace) (left : ℕ) → rounds_to_drain at ≡ Some left
    → at ≡ standing.Rounds rule.Drain left place.Before
before-rounds standing.Ended left is = absurd (cc)
before-rounds (standing.Event event many) left is = absurd (cc)
before-rounds (standing.Rounds (rule.Mute node) many place) left is = absurd (cc)
before-rounds (standing.Rounds (rule.Until writes count) many place) left is = absurd (cc)
before-rounds (standing.Rounds rule.Drain many place.Before) left is =
    let same : many ≡ left = cc in
    ap (λ (n : ℕ). standing.Rounds rule.Drain n place.Before) same
before-rounds (standing.Rounds rule.Drain many (place.Enters terminal)) left is = absurd (cc)
before-rounds (standing.Rounds rule.Drain many (place.Runs process)) left is = absurd (cc)
before-rounds (standing.Rounds rule.Drain many (place.Delivers bus packets)) left is = absurd (cc)
before-rounds (standing.Rounds rule.Drain many (place.Ticks node)) left is = absurd (cc)
before-rounds (standing.Mixed many place draws) left is = absurd (cc)

pub scheduled-there : (all : Scheduled) (left played until : ℕ) → rounds_to_drain all.agenda.standing ≡ Some left
    → all.agenda.held_back ≡ None
    → all ≡ scheduled all.agenda.lines all.agenda.stop (record {
      sizes = all.sizes;
      left = left;
      place = place.Before;
      played = played;
      until = until;
    })
scheduled-there all left played until is none =
    ap₂ (λ (at : LinePlace) (held : Option Event). record {
      sizes = all.sizes;
      agenda = record { standing = at; lines = all.agenda.lines; stop = all.agenda.stop; held_back = held };
    }) (before-rounds all.agenda.standing left is) none

pub from-there : {Wires : Type 0} (rules : Rules Wires) (ready : State Wires → Type 0) (all : Scheduled)
    (drain : Drain) (s : State Wires) (before : ℕ) → GoesOn rules ready all s before
    → all ≡ scheduled all.agenda.lines all.agenda.stop drain → drain.played ≡ before
    → IsFree all.agenda.stop before drain.until → IsDrained rules ready drain s
from-there rules ready all drain s before on is played free = record {
  course = on.course;
  lines = all.agenda.lines;
  stop = all.agenda.stop;
  can = on.can;
  free = subst (λ n. IsFree all.agenda.stop n drain.until) (sym played) free;
  playing = subst (λ n. IsPlaying rules on.course (scheduled all.agenda.lines all.agenda.stop drain) s n) (sym played)
      (subst (λ (one : Scheduled). IsPlaying rules on.course one s before) is on.playing);
}

scheduled-again : (all : Scheduled) (first last : Drain) → all ≡ scheduled all.agenda.lines all.agenda.stop first
    → last.sizes ≡ first.sizes
    → record all { agenda = record all.agenda { standing = standing_of last } }
    ≡ scheduled all.agenda.lines all.agenda.stop last
scheduled-again all first last is same =
    ap₂ (λ (sizes : Sizes) (held : Option Event). record {
      sizes = sizes;
      agenda = record {
        standing = standing_of last;
        lines = all.agenda.lines;
        stop = all.agenda.stop;
        held_back = held;
      };
    }) (ap (λ (one : Scheduled). one.sizes) is ∙ sym same) (ap (λ (one : Scheduled). one.agenda.held_back) is)

pub to-there : {Wires : Type 0} (rules : Rules Wires) (all after : Scheduled) (first last : Drain)
    (s next : State Wires) (before : ℕ) → all ≡ scheduled all.agenda.lines all.agenda.stop first
    → first.played ≡ before → IsFree all.agenda.stop before first.until → Drains rules first last s next
    → after ≡ record all { agenda = record all.agenda { standing = standing_of last } }
    → (course : Course Wires) → IsPlaying rules course all s before → IsPlaying rules course after next last.played
to-there rules all after first last s next before is played free on same course playing =
    subst (λ (one : Scheduled). IsPlaying rules course one next last.played)
    (sym (same ∙ scheduled-again all first last is on.sizes))
    (on.plays course all.agenda.lines all.agenda.stop
    (subst (λ n. IsFree all.agenda.stop n first.until) (sym played) free)
    (subst (λ n. IsPlaying rules course (scheduled all.agenda.lines all.agenda.stop first) s n) (sym played)
    (subst (λ (one : Scheduled). IsPlaying rules course one s before) is playing)))
