-- What the parts of this crate's code show.
use Rattle.std.specs.Prelude.{ℕ, List, Option, Some, None}
use Rattle.std.specs.Option.{option_map}
use Rattle.disc_device.specs.mirror.specs.declared.state.DriveState.{DriveState}
use Rattle.tal_tree.specs.declared.site.Site.{Site}
use Rattle.world_semantics.specs.World.{Pair}
use Rattle.world_semantics.specs.Messages.{Sending}
use Rattle.world_semantics.specs.Records.{Records}
use Rattle.world_semantics.specs.Running.{Stepped}

-- a process in its place: the site, its number in it, its two copies, and how the drives of its device stand
pub record Placed : Type 0 where
  pub site : Site
  pub number : ℕ
  pub pair : Pair
  pub drives : List DriveState

-- what a step sends
abbrev pub sent_by : Option Stepped → Option (List Sending)
sent_by step = option_map (λ made. made.sendings) step

-- a process after a step, if one was made
abbrev pub placed_after : Placed → Option Stepped → Placed
placed_after before None = before
placed_after before (Some step) = record before { pair = step.pair }

-- the records after a step, if one was made
abbrev pub records_after : Records → Option Stepped → Records
records_after before None = before
records_after before (Some step) = step.records
