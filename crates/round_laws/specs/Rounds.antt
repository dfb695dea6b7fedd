-- A drain round on a machine with two buses, with what it delivers.
use Rattle.std.specs.Prelude.{◌≡◌, ℕ, zero, suc, false, List, [], ◌++◌, length}
use Rattle.schedule.specs.declared.bus_name.BusName.{BusName}
use Rattle.schedule.specs.declared.bus_name.BusName.TheVariants as bus
use Rattle.schedule.specs.declared.event.Event.{Event}
use Rattle.schedule.specs.declared.event.Event.TheVariants.{Fail, Tick}
use Rattle.player.specs.declared.standing.Sizes.{Sizes}
use Rattle.player.specs.declared.standing.Place.{Place}
use Rattle.player.specs.declared.standing.Place.TheVariants as place
use Rattle.player.specs.Lines.{is_before}
use Rattle.player.specs.gd_words.specs.declared.limits.TheConstants.{TERMINAL_NODE}
use Rattle.round_laws.specs.Turns.{Turns}
use Rattle.round_laws.specs.Buses.{delivered_of}

-- a turn of a round in a state of a machine with such buses
abbrev pub TurnsIn : {S P : Type 0} → Sizes → (S → BusName → List P) → S → Place → Event → Place → Type 0
TurnsIn {S} {P} sizes buses s from event to =
    Turns sizes (length (buses s bus.X)) (length (buses s bus.Y)) from event to

-- a round that began in a state has come to a place and to a state. So far it has delivered this from each bus, in its
-- order. A processor may stop between its turns
pub data InRound {S P : Type 0} (sizes : Sizes) (buses : S → BusName → List P) (goes : S → Event → S → Type 0)
    (start : S) : (BusName → List P) → Place → S → Type 0 where
  begins : InRound sizes buses goes start (λ bus. []) place.Before start
  goes_on : {came : BusName → List P} {from : Place} {s next : S} → (event : Event) (to : Place)
      → InRound sizes buses goes start came from s → TurnsIn sizes buses s from event to → is_before to ≡ false
      → goes s event next
      → InRound sizes buses goes start (λ bus. came bus ++ delivered_of bus event (buses s bus)) to next
  stops : {came : BusName → List P} {from : Place} {s next : S} → (processor : ℕ)
      → InRound sizes buses goes start came from s → goes s (Fail processor) next
      → InRound sizes buses goes start came from next

-- a whole round, from a state to a state: the tick of the terminals' node ends it
pub record IsWholeRound {S P : Type 0} (sizes : Sizes) (buses : S → BusName → List P) (goes : S → Event → S → Type 0)
    (start next : S) : Type 0 where
  pub came : BusName → List P
  pub from : Place
  pub last : S
  pub made : InRound sizes buses goes start came from last
  pub turn : TurnsIn sizes buses last from (Tick TERMINAL_NODE) place.Before
  pub ended : goes last (Tick TERMINAL_NODE) next

-- so many whole rounds, one after the other
pub data AreRounds {S P : Type 0} (sizes : Sizes) (buses : S → BusName → List P) (goes : S → Event → S → Type 0)
    (start : S) : ℕ → S → Type 0 where
  no_round : AreRounds sizes buses goes start zero start
  one_more : {k : ℕ} {s next : S} → AreRounds sizes buses goes start k s → IsWholeRound sizes buses goes s next
      → AreRounds sizes buses goes start (suc k) next
