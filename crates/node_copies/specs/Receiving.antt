-- What becomes of a copy to which something came. The rules are those of the world of copies.
use Rattle.std.specs.Prelude.{Option, Some, None}
use Rattle.message_wires.specs.change_layout.specs.declared.message.ChangeMessage.{ChangeMessage}
use Rattle.checkpoint_image.specs.declared.message.ImageMessage.{ImageMessage}
use Rattle.kept_acts.specs.world_semantics.specs.Core.{Core}
use Rattle.kept_acts.specs.world_semantics.specs.Passes.{after_getting}
use Rattle.kept_acts.specs.world_semantics.specs.World.{Copy}
use Rattle.node_copies.specs.Seen.{CopyAndDepths}

-- a copy and its depths with the copy changed
abbrev pub with_changed : CopyAndDepths → Copy → CopyAndDepths
with_changed one copy = record one { copy = copy }

-- a copy that has this core by a checkpoint, and watches, if it applied it
abbrev pub copy_applying : Copy → ImageMessage → Option Core → Copy
copy_applying copy message None = copy
copy_applying copy message (Some core) = after_getting message.number core copy

-- a copy that has this core by a checkpoint that came as what changed, if it applied it
abbrev pub copy_changing : Copy → ChangeMessage → Option Core → Copy
copy_changing copy change None = copy
copy_changing copy change (Some core) = after_getting change.number core copy
