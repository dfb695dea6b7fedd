-- The states of machines of copies: our own form.
use Rattle.std.specs.Prelude.{◌≡◌, ℕ, List, slice_set}
use Rattle.world_semantics.specs.disc_device.specs.mirror.specs.declared.state.DriveState.{DriveState}
use Rattle.schedule.specs.declared.event.DriveEvent.{DriveEvent}
use Rattle.world_semantics.specs.tal_tree.specs.declared.site.Site.{Site}
use Rattle.world_semantics.specs.World.{World}
use Rattle.machine_states.specs.Drives.{Turned, Turns, Rests, Loses, drives_turned}
use Rattle.machine_states.specs.declared.effect.Effect.{Effect}
use Rattle.machine_states.specs.declared.effect.Effect.TheVariants.{Done, Skipped, WouldStopSecond, WouldLoseDisc}

-- a state: the site that is played, its world, what is on the wires under it, and how the drives of each process stand,
-- which no world tells apart
pub record State (Wires : Type 0) : Type 0 where
  pub site : Site
  pub world : World
  pub wires : Wires
  pub drives : List (List DriveState)

-- what an event isn't done for: it would stop a processor, this one, in a world that isn't whole; or it would lose a
-- disc, this process
pub data Harm : Type 0 where
  SecondStop : (processor : ℕ) → Harm
  DiscLoss : (process : ℕ) → Harm

-- what an event makes of a state: another one; or nothing, since it can't be done; or nothing, since it would do harm
pub data Played (Wires : Type 0) : Type 0 where
  Makes : State Wires → Played Wires
  Skips : Played Wires
  Would : (harm : Harm) → Played Wires

-- what a machine answers where an event would do harm
abbrev pub effect_of : Harm → Effect
effect_of (SecondStop processor) = WouldStopSecond processor
effect_of (DiscLoss process) = WouldLoseDisc process

-- a machine's state after an event, and its answer, are those of what the event makes
abbrev pub Settles : {Wires : Type 0} → Played Wires → State Wires → Effect → State Wires → Type 0
Settles (Makes next) before answer after = (answer ≡ Done) × (after ≡ next)
Settles Skips before answer after = (answer ≡ Skipped) × (after ≡ before)
Settles (Would harm) before answer after = (answer ≡ effect_of harm) × (after ≡ before)

-- Drives

abbrev pub played_turn : {Wires : Type 0} → ℕ → State Wires → Turned → Played Wires
played_turn process s (Turns states) = Makes (record s { drives = slice_set s.drives process states })
played_turn process s Rests = Skips
played_turn process s Loses = Would (DiscLoss process)

-- what an event of a drive makes of a state: nothing changes but how the drives of its process stand
abbrev pub drive_played : {Wires : Type 0} → DriveEvent → State Wires → Played Wires
drive_played event s = played_turn event.process s (drives_turned event s.world.processes s.drives)
