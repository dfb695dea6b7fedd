-- Stretches of what is played, from a moment to a later one, on whatever machine; and the rounds of a line in them.
use Rattle.std.specs.Prelude.{◌≡◌, ℕ, ◌+◌, Bool, true, false, List, ◌∷◌, length, Some, None}
use Rattle.schedule.specs.declared.bus_name.BusName.{BusName}
use Rattle.schedule.specs.declared.bus_name.BusName.TheVariants as bus
use Rattle.schedule.specs.declared.event.Event.{Event}
use Rattle.schedule.specs.declared.event.Counts.{Counts}
use Rattle.schedule.specs.declared.line.Line.{Line}
use Rattle.player.specs.declared.standing.Sizes.{Sizes}
use Rattle.player.specs.declared.standing.Move.{Move}
use Rattle.player.specs.declared.standing.Place.TheVariants as place
use Rattle.player.specs.declared.standing.Rule.{Rule}
use Rattle.player.specs.declared.standing.Rule.TheVariants as rule
use Rattle.player.specs.declared.standing.LinePlace.{LinePlace}
use Rattle.player.specs.declared.standing.LinePlace.TheVariants as standing
use Rattle.player.specs.Lines.{begun, next_event}
use Rattle.agendas.specs.Agendas.{Agenda, Plan, next_plan}

-- a rule by which all packets are delivered
abbrev pub is_drain : Rule → Bool
is_drain rule.Drain = true
is_drain (rule.Mute node) = false
is_drain (rule.Until writes count) = true

-- from a moment that so many events precede, the schedule was played on to another one
pub data GoesOn {S : Type 0} (sizes : Sizes) (counts : S → Counts) (goes : S → Event → S → Type 0) (before : ℕ)
    (agenda : Agenda) (s : S) : ℕ → Agenda → S → Type 0 where
  at_once : GoesOn sizes counts goes before agenda s before agenda s
  plays : {now : ℕ} {there : Agenda} {t next : S} → (plan : Plan)
      → GoesOn sizes counts goes before agenda s now there t
      → next_plan sizes now (counts t) there ≡ Some plan → goes t plan.event next
      → GoesOn sizes counts goes before agenda s (now + 1) plan.agenda next

-- the next event is one of a line that stands so, with these lines after it: that of the line which stands now, or of
-- the first one after it that has an event left
pub data IsNextLine (sizes : Sizes) (counts : Counts) (standing : LinePlace) (rest : List Line)
    : LinePlace → List Line → Type 0 where
  itself : (move : Move) → next_event sizes standing counts ≡ Some move
      → IsNextLine sizes counts standing rest standing rest
  later : {now : LinePlace} {line : Line} {lines : List Line} → next_event sizes now counts ≡ None
      → IsNextLine sizes counts standing rest (begun line) lines
      → IsNextLine sizes counts standing rest now (line ∷ lines)

-- a round of a line of this rule comes next, and with it so many are left of the line, with these lines after it
pub record BeginsRound (sizes : Sizes) (counts : Counts) (agenda : Agenda) (rule : Rule) (left : ℕ)
    (rest : List Line) : Type 0 where
  pub free : agenda.held_back ≡ None
  pub next : IsNextLine sizes counts (standing.Rounds rule left place.Before) rest agenda.standing agenda.lines

-- a round of a line has just ended, and so many are left of it
pub record EndsRound (agenda : Agenda) (rule : Rule) (left : ℕ) (rest : List Line) : Type 0 where
  pub free : agenda.held_back ≡ None
  pub stands : agenda.standing ≡ standing.Rounds rule left place.Before
  pub lines : agenda.lines ≡ rest

-- what a machine counts are the packets on its buses
abbrev pub CountsBuses : {S P : Type 0} → (S → BusName → List P) → (S → Counts) → Type 0
CountsBuses {S} {P} buses counts =
    (s : S) → ((counts s).x ≡ length (buses s bus.X)) × ((counts s).y ≡ length (buses s bus.Y))
