-- What the code tells of a message that came to a copy. The rules are those of the world of copies.
use Rattle.std.specs.Prelude.{◌≡◌, ℕ, ◌==◌, Bool, false, Option}
use Rattle.gd_words.specs.declared.message.Reply.{Reply}
use Rattle.process_semantics.specs.Process as process
use Rattle.node_copies.specs.change_layout.specs.declared.message.ChangeMessage.{ChangeMessage}
use Rattle.world_semantics.specs.checkpoint_image.specs.declared.message.ImageMessage.{ImageMessage}
use Rattle.world_semantics.specs.checkpoint_image.specs.declared.message.TakenMessage.{TakenMessage}
use Rattle.tal_tree.specs.declared.site.Site.{Site}
use Rattle.world_semantics.specs.declared.role.Role.{Role}
use Rattle.world_semantics.specs.declared.role.Role.TheVariants.{Acting, Watching, Blank, Gone}
use Rattle.world_semantics.specs.declared.which.Which.{Which}
use Rattle.world_semantics.specs.Core.{Core}
use Rattle.world_semantics.specs.World.{Copy, copy_of, with_copy}
use Rattle.node_copies.specs.computed_changes.specs.Fitting.{depths_of}
use Rattle.node_copies.specs.computed_changes.specs.Changed.{core_changing}
use Rattle.node_copies.specs.computed_changes.specs.Checkpoints.{core_applying}
use Rattle.node_copies.specs.computed_changes.specs.Replies.{awaits}
use Rattle.world_semantics.specs.Records.{Records}
use Rattle.node_copies.specs.Seen.{step_sendings}
use Rattle.node_copies.specs.declared.step.StepOutcome.{StepOutcome}
use Rattle.world_semantics.specs.Running.{Stepped}
use Rattle.process_copies.specs.Seen.{Placed, placed_after, records_after, sent_by}

-- a step was made as it is defined, or none was possible and nothing changed
abbrev pub Settles : Option Stepped → Placed → Records → StepOutcome → Placed → Records → Type 0
Settles made old before step new after =
    (step_sendings step ≡ sent_by made) × (new ≡ placed_after old made) × (after ≡ records_after before made)

-- a process with one of its copies changed
abbrev pub placed_with : Which → Copy → Placed → Placed
placed_with k copy process = record process { pair = with_copy k copy process.pair }

-- Replies

-- whether a copy awaits a reply
abbrev pub is_awaiting : Site → ℕ → Copy → Reply → Bool
is_awaiting site number copy reply = awaits site number copy.core reply (process.point copy.core.state)

-- Checkpoints

-- the core of a copy of the process after a checkpoint came to it
abbrev pub core_by : Which → Placed → ImageMessage → Option Core
core_by k old message = core_applying (depths_of old.site old.number) (copy_of k old.pair) message

-- and after one came as what changed
abbrev pub core_changed_by : Which → Placed → ChangeMessage → Option Core
core_changed_by k old change = core_changing (depths_of old.site old.number) (copy_of k old.pair) change

-- the message that a checkpoint was taken which came as what changed
abbrev pub taken_by_change : ChangeMessage → TakenMessage
taken_by_change change = record { process = change.process; era = change.era; number = change.number }

-- Again

-- whether a copy of this role in this processor acts on a node
abbrev pub acts_on_node : ℕ → Role → ℕ → Bool
acts_on_node node Acting at = at == node
acts_on_node node Watching at = false
acts_on_node node Blank at = false
acts_on_node node Gone at = false
