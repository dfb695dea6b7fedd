-- What a checkpoint does that comes as what changed since the one before it, computed: the copy at which it comes makes
-- it whole by its own receive table, and then it is a checkpoint like any other. One that doesn't fit the table is
-- ignored. The world knows whole checkpoints alone; that they may come so is our own rule.
use Rattle.std.specs.Prelude.{ℕ, List, [], ◌∷◌, slice_get, Option, Some, None}
use Rattle.std.specs.Option.{option_map, option_and_then}
use Rattle.tal_tree.specs.declared.site.Site.{Site}
use Rattle.change_layout.specs.Changing.{made_whole}
use Rattle.change_layout.specs.declared.message.ChangeMessage.{ChangeMessage}
use Rattle.world_semantics.specs.checkpoint_image.specs.declared.message.ImageMessage.{ImageMessage}
use Rattle.world_semantics.specs.declared.role.Role.{Role}
use Rattle.world_semantics.specs.declared.which.Which.{Which}
use Rattle.world_semantics.specs.Core.{Core}
use Rattle.world_semantics.specs.World.{Copy, Pair, World, copy_of}
use Rattle.world_semantics.specs.Records.{Records, records_of}
use Rattle.world_semantics.specs.Running.{Done, Stepped, in_world}
use Rattle.computed_changes.specs.Checkpoints.{checkpoint_step, core_as}
use Rattle.computed_changes.specs.Fitting.{depths_of}
use Rattle.computed_changes.specs.Handed.{copy_in}

-- The checkpoint since which it changed

-- of checkpoints, the newest first, the last one
abbrev pub last_of : List ImageMessage → Option ImageMessage
last_of [] = None
last_of (last ∷ older) = Some last

-- and the one before the last
abbrev pub one_before : List ImageMessage → Option ImageMessage
one_before [] = None
one_before (last ∷ older) = last_of older

abbrev pub sent_before : Option Pair → Option ImageMessage
sent_before None = None
sent_before (Some pair) = one_before pair.checkpoints

-- the checkpoint that the process of a number sent before its last one
abbrev pub checkpoint_before : World → ℕ → Option ImageMessage
checkpoint_before w number = sent_before (slice_get w.processes number)

-- A change that comes

-- the core of a copy of this era, number and role after a change came to it; none where it is ignored. The copy makes
-- it whole by its own table, and then applies it where it is the next one and fits
abbrev pub core_as_changed : List ℕ → ℕ → ℕ → Core → ChangeMessage → Role → Option Core
core_as_changed depths era number core change role =
    option_and_then (λ message. core_as depths era number core message role) (made_whole depths core.receive change)

abbrev pub core_changing : List ℕ → Copy → ChangeMessage → Option Core
core_changing depths copy change = core_as_changed depths copy.era copy.number copy.core change copy.role

-- the checkpoint that a change makes of the table of a copy of the process of this number
abbrev pub whole_at : Site → ℕ → Pair → ChangeMessage → Which → Option ImageMessage
whole_at site number pair change k = made_whole (depths_of site number) (copy_of k pair).core.receive change

-- the step that a change makes that comes to one copy; none where it changes nothing
abbrev pub change_step : Site → ℕ → Pair → Records → ChangeMessage → Which → Option Stepped
change_step site number pair records change k =
    option_and_then (λ message. checkpoint_step site number k pair records message (copy_of k pair).role)
    (whole_at site number pair change k)

-- the step that it makes where it comes to the process at a node; none where no copy is there
abbrev pub change_step_on : Site → ℕ → ℕ → Pair → Records → ChangeMessage → Option Stepped
change_step_on site number node pair records change =
    option_and_then (change_step site number pair records change) (copy_in node pair)

abbrev pub change_brought_to : Site → ℕ → ℕ → ChangeMessage → World → Option Pair → Option Done
change_brought_to site number node change w None = None
change_brought_to site number node change w (Some pair) =
    option_map (in_world number w) (change_step_on site number node pair (records_of w) change)

-- the change of the world that it makes where it comes to the process of a number at a node
abbrev pub change_brought : Site → ℕ → ℕ → ChangeMessage → World → Option Done
change_brought site number node change w =
    change_brought_to site number node change w (slice_get w.processes number)

-- the change of the world that it makes where it is handed over at a node; none where it changes nothing
abbrev pub change_done : Site → ℕ → ChangeMessage → World → Option Done
change_done site node change w = change_brought site change.process node change w
