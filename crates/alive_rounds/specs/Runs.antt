-- What is played of calm schedules, on whatever machine whose nodes watch each other.
use Rattle.std.specs.Prelude.{◌≡◌, ℕ, Bool, true, false, Option, Some, None}
use Rattle.std.specs.List.{list_all}
use Rattle.schedule.specs.declared.event.Event.{Event}
use Rattle.schedule.specs.declared.event.Event.TheVariants.{Run, Enter, Deliver, Lose, Repeat, Tick, Fail, Reload}
use Rattle.schedule.specs.declared.event.Event.TheVariants.{Drive}
use Rattle.schedule.specs.declared.event.Counts.{Counts}
use Rattle.player.specs.declared.standing.Sizes.{Sizes}
use Rattle.player.specs.declared.standing.Place.{Place}
use Rattle.player.specs.declared.standing.Place.TheVariants as place
use Rattle.player.specs.declared.standing.Rule.{Rule}
use Rattle.player.specs.declared.standing.LinePlace.{LinePlace}
use Rattle.player.specs.declared.standing.LinePlace.TheVariants as standing
use Rattle.player.specs.Lines.{is_reached}
use Rattle.agendas.specs.Agendas.{Agenda}
use Rattle.calm_schedules.specs.Calm.{is_stop, is_calm_line}
use Rattle.round_laws.specs.Rounds.{TurnsIn}
use Rattle.round_laws.specs.Stretches.{is_drain}
use Rattle.alive_rounds.specs.Watched.{Sight}
use Rattle.alive_rounds.specs.Fresh.{IsFresh}

-- ticks, stops, reloads and what becomes of drives write nothing and answer nobody
abbrev pub shows_nothing : Event → Bool
shows_nothing (Run process) = false
shows_nothing (Enter terminal) = false
shows_nothing (Deliver bus k) = false
shows_nothing (Lose bus k) = false
shows_nothing (Repeat bus k) = false
shows_nothing (Tick node) = true
shows_nothing (Fail processor) = true
shows_nothing (Reload processor) = true
shows_nothing (Drive event) = true

-- and so they leave what is counted of it
abbrev pub CountsShown : {S : Type 0} → (S → Event → S → Type 0) → (S → Counts) → Type 0
CountsShown {S} goes counts = (s : S) (event : Event) (next : S) → shows_nothing event ≡ true → goes s event next
    → ((counts next).writes ≡ (counts s).writes) × ((counts next).replies ≡ (counts s).replies)

abbrev pub is_ticking : Place → Bool
is_ticking place.Before = false
is_ticking (place.Enters terminal) = false
is_ticking (place.Runs process) = false
is_ticking (place.Delivers bus left) = false
is_ticking (place.Ticks node) = true

-- alive packets are fresh where a calm line stands; and while nodes tick, its count isn't reached
abbrev pub StandsFresh : {S P : Type 0} → Sizes → Sight S P → (S → Counts) → LinePlace → S → Type 0
StandsFresh {S} {P} sizes w counts standing.Ended s = IsFresh sizes.processors w place.Before s
StandsFresh {S} {P} sizes w counts (standing.Event event left) s =
    IsFresh sizes.processors w place.Before s × (is_stop event ≡ true)
StandsFresh {S} {P} sizes w counts (standing.Rounds kind left at) s = IsFresh sizes.processors w at s
    × (is_drain kind ≡ true) × (is_ticking at ≡ true → is_reached kind (counts s) ≡ false)
StandsFresh {S} {P} sizes w counts (standing.Mixed left at draws) s = ⊥

-- alive packets are fresh, and this comes next, after which a calm line stands so: a turn of a round, or a stop
pub data ComesFresh {S P : Type 0} (sizes : Sizes) (w : Sight S P) (counts : S → Counts) (s : S)
    : LinePlace → Event → Type 0 where
  by_turn : (kind : Rule) (left : ℕ) (from to : Place) (event : Event) → TurnsIn sizes w.buses s from event to
      → IsFresh sizes.processors w from s → is_drain kind ≡ true → is_reached kind (counts s) ≡ false
      → ComesFresh sizes w counts s (standing.Rounds kind left to) event
  by_stop : (left processor : ℕ) → IsFresh sizes.processors w place.Before s
      → ComesFresh sizes w counts s (standing.Event (Fail processor) left) (Fail processor)

abbrev pub HeldFresh : {S P : Type 0} → Sizes → Sight S P → (S → Counts) → LinePlace → S → Option Event → Type 0
HeldFresh {S} {P} sizes w counts now s None = StandsFresh sizes w counts now s
HeldFresh {S} {P} sizes w counts now s (Some event) = ComesFresh sizes w counts s now event

-- alive packets are fresh where a schedule stands, and all lines that are left are calm
abbrev pub RunsFresh : {S P : Type 0} → Sizes → Sight S P → (S → Counts) → Agenda → S → Type 0
RunsFresh {S} {P} sizes w counts agenda s =
    (list_all is_calm_line agenda.lines ≡ true) × HeldFresh sizes w counts agenda.standing s agenda.held_back

-- a machine whose states are numbered, as its packets are
abbrev pub NumberedMachine : Type 0
NumberedMachine = ℕ → Event → Option ℕ

abbrev pub PlaysTo : NumberedMachine → ℕ → Event → ℕ → Type 0
PlaysTo machine s event next = machine s event ≡ Some next
