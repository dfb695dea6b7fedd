-- What nodes know of each other on a machine with two buses, and what its events do to that. I'm-alive packets, and
-- that
-- a processor which isn't heard of is taken to be down, are Bartlett's.
use Rattle.std.specs.Prelude.{◌≡◌, ◌≢◌, ◌<◌, ℕ, not, Bool, true, false, if◌then◌else◌, List, ◌∷◌, Option, Some}
use Rattle.std.specs.Option.{option_map}
use Rattle.gd_words.specs.Members.{IsAmong}
use Rattle.schedule.specs.declared.bus_name.BusName.{BusName}
use Rattle.schedule.specs.declared.bus_name.BusName.TheVariants as bus
use Rattle.schedule.specs.declared.event.Event.{Event}
use Rattle.schedule.specs.declared.event.Event.TheVariants.{Deliver, Tick}
use Rattle.alive_regroup.specs.declared.neighbour.Missed.{Missed}
use Rattle.alive_regroup.specs.declared.neighbour.Missed.TheVariants as missed
use Rattle.alive_regroup.specs.declared.neighbour.Neighbour.{Neighbour}
use Rattle.alive_regroup.specs.declared.neighbour.Neighbour.TheVariants.{Up}
use Rattle.alive_regroup.specs.declared.set.ProcessorSet.{ProcessorSet}
use Rattle.alive_regroup.specs.Watching.{neighbour_after_check, is_silent}

-- what is seen of a machine: the packets on its buses; which nodes run; what a node knows of a processor; whether its
-- next tick checks; and the I'm-alive packet from one node to another
pub record Sight (S P : Type 0) : Type 0 where
  pub buses : S → BusName → List P
  pub runs : S → ℕ → Bool
  pub knows : S → ℕ → ℕ → Option Neighbour
  pub checks : S → ℕ → Bool
  pub alive : ℕ → ℕ → P

-- a processor is up, and the last check didn't miss it
abbrev pub IsThere : Option Neighbour → Type 0
IsThere known = (came : Bool) × (report : ProcessorSet) × (known ≡ Some (Up came missed.None report))

-- it is up, and was heard of since the last check
abbrev pub WasHeard : Option Neighbour → Type 0
WasHeard known = (misses : Missed) × (report : ProcessorSet) × (known ≡ Some (Up true misses report))

-- what a tick makes of what is known, if it checks
abbrev pub after_tick_of : Bool → Option Neighbour → Option Neighbour
after_tick_of check known = if check then option_map neighbour_after_check known else known

-- of two states, one after the other: a node ran before, its next tick checks as before, and of those who run none was
-- forgotten
pub record KeepsWatch {S P : Type 0} (w : Sight S P) (s next : S) (q : ℕ) : Type 0 where
  pub ran : w.runs s q ≡ true
  pub checks : w.checks next q ≡ w.checks s q
  pub there : (p : ℕ) → w.runs next p ≡ true → IsThere (w.knows s q p) → IsThere (w.knows next q p)
  pub heard : (p : ℕ) → w.runs next p ≡ true → WasHeard (w.knows s q p) → WasHeard (w.knows next q p)

-- a node ticks: every second tick checks; what is known changes by the check alone; and each other processor that runs
-- is sent an I'm-alive packet over bus X
pub record TicksWatch {S P : Type 0} (processors : ℕ) (w : Sight S P) (s next : S) (node : ℕ) : Type 0 where
  pub ran : w.runs s node ≡ true
  pub checks : w.checks next node ≡ not (w.checks s node)
  pub there : (p : ℕ) → w.runs next p ≡ true → IsThere (after_tick_of (w.checks s node) (w.knows s node p))
      → IsThere (w.knows next node p)
  pub sends : (q : ℕ) → q < processors → q ≢ node → w.runs next q ≡ true → IsThere (w.knows s node q)
      → IsAmong (w.alive node q) (w.buses next bus.X)

-- a node pulls the line of a processor at a tick: it is another processor, it runs, and it finds that one silent
pub record PullsLine {S P : Type 0} (processors : ℕ) (w : Sight S P) (s : S) (node p : ℕ) : Type 0 where
  pub one : node < processors
  pub runs : w.runs s node ≡ true
  pub apart : node ≢ p
  pub silent : option_map is_silent (after_tick_of (w.checks s node) (w.knows s node p)) ≡ Some true

-- a machine of so many processors whose nodes watch each other: whatever happens but its own tick, a node keeps its
-- watch, and it hears an I'm-alive packet; and only a pulled line stops a processor at a tick
pub record IsWatched {S P : Type 0} (processors : ℕ) (w : Sight S P) (goes : S → Event → S → Type 0) : Type 0 where
  pub keeps : (s : S) (event : Event) (next : S) (q : ℕ) → goes s event next → q < processors → event ≢ Tick q
      → w.runs next q ≡ true → KeepsWatch w s next q
  pub hears : (s next : S) (p q : ℕ) (rest : List P) → goes s (Deliver bus.X 0) next → q < processors
      → w.buses s bus.X ≡ w.alive p q ∷ rest → w.runs next p ≡ true → w.runs next q ≡ true
      → IsThere (w.knows s q p) → WasHeard (w.knows next q p)
  pub ticks : (s next : S) (node : ℕ) → goes s (Tick node) next → node < processors → w.runs next node ≡ true
      → TicksWatch processors w s next node
  pub stops : (s next : S) (node p : ℕ) → goes s (Tick node) next → w.runs s p ≡ true → w.runs next p ≡ false
      → PullsLine processors w s node p
