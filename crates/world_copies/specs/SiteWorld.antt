-- A site with its world and with how the drives of its discs stand, as a machine of copies has them apart from what is
-- on the wires. Our own form.
use Rattle.tal_tree.specs.declared.site.Site.{Site}
use Rattle.std.specs.Prelude.{◌≡◌, ℕ, List, Option, slice_set}
use Rattle.process_copies.specs.disc_device.specs.mirror.specs.declared.state.DriveState.{DriveState}
use Rattle.process_copies.specs.machine_states.specs.Drives.{Turned, Turns, Rests, Loses, drives_at_boot}
use Rattle.process_copies.specs.machine_states.specs.declared.effect.Effect.{Effect}
use Rattle.process_copies.specs.machine_states.specs.declared.effect.Effect.TheVariants as effect
use Rattle.world_semantics.specs.Running.{Done, world_after}
use Rattle.world_semantics.specs.World.{World, boot}

pub record SiteWorld : Type 0 where
  pub site : Site
  pub world : World
  pub drives : List (List DriveState)

abbrev pub site_world_at_boot : Site → SiteWorld
site_world_at_boot site = record { site = site; world = boot site; drives = drives_at_boot site }

-- after a change of the world, if one is made
abbrev pub changed_by : SiteWorld → Option Done → SiteWorld
changed_by s done = record s { world = world_after s.world done }

-- the answer to an event that names a drive of the process of this number, and what stands then: nothing changes but
-- how the drives of that process stand
abbrev pub SettlesTurn : Turned → ℕ → SiteWorld → Effect → SiteWorld → Type 0
SettlesTurn (Turns states) number before answer after =
    (answer ≡ effect.Done) × (after ≡ record before { drives = slice_set before.drives number states })
SettlesTurn Rests number before answer after = (answer ≡ effect.Skipped) × (after ≡ before)
SettlesTurn Loses number before answer after = (answer ≡ effect.WouldLoseDisc number) × (after ≡ before)
