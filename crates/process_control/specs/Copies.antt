-- One copy of a process by itself: all that a copy in the world of copies has but its processor, the requests that
-- wait, its position and its held acts. What each call makes of it is what the world of copies makes of such a copy.
use Rattle.std.specs.Option.{option_map}
use Rattle.std.specs.Prelude.{ℕ, Bool, List, [], map, Option}
use Rattle.tal_tree.specs.declared.site.OpenerSpec.{OpenerSpec}
use Rattle.process_semantics.specs.Process.{ProcessState}
use Rattle.computed_changes.specs.change_layout.specs.declared.message.ChangeMessage.{ChangeMessage}
use Rattle.checkpoint_image.specs.declared.message.ImageMessage.{ImageMessage}
use Rattle.computed_changes.specs.world_semantics.specs.declared.role.Role.{Role}
use Rattle.computed_changes.specs.world_semantics.specs.Core.{Core, core_at_start}
use Rattle.computed_changes.specs.world_semantics.specs.Passes.{after_getting, after_sending, after_sent, after_told}
use Rattle.computed_changes.specs.world_semantics.specs.Passes.{checkpoint_of, copy_at_checkpoint}
use Rattle.computed_changes.specs.world_semantics.specs.Rules.{blank_copy, copy_with_renewal, taken_over}
use Rattle.computed_changes.specs.world_semantics.specs.World.{Copy, copy_at_boot}
use Rattle.process_control.specs.Cores.{CoreAndDepths, with_depths}
use Rattle.computed_changes.specs.Changed.{core_as_changed}
use Rattle.computed_changes.specs.Checkpoints.{core_as}

-- a copy: its role, its era, the number of the last checkpoint sent or applied in that era, whether it has sent the
-- checkpoint where it stands, whether that was acknowledged, whether it has to send everything, its core, and how many
-- replies are kept at most of each opener of its process
pub record CopyState : Type 0 where
  pub role : Role
  pub era : ℕ
  pub number : ℕ
  pub sent : Bool
  pub acknowledged : Bool
  pub renewal : Bool
  pub core : Core
  pub depths : List ℕ

-- what a copy of the world of copies is here, with the depths of its process's openers
abbrev pub state_of : List ℕ → Copy → CopyState
state_of depths copy = record {
  role = copy.role;
  era = copy.era;
  number = copy.number;
  sent = copy.sent;
  acknowledged = copy.acknowledged;
  renewal = copy.renewal;
  core = copy.core;
  depths = depths;
}

-- a copy as one of the world of copies, at which nothing waits, and which has done nothing yet
abbrev pub as_copy : CopyState → Copy
as_copy copy = record {
  processor = 0;
  role = copy.role;
  era = copy.era;
  number = copy.number;
  sent = copy.sent;
  acknowledged = copy.acknowledged;
  renewal = copy.renewal;
  core = copy.core;
  waiting = [];
  position = 0;
  held = [];
}

-- a copy after what the world of copies makes of it
abbrev pub after : (Copy → Copy) → CopyState → CopyState
after change copy = state_of copy.depths (change (as_copy copy))

-- a copy at its start: in era 0, with no checkpoint sent or applied
abbrev pub copy_of_core : Role → CoreAndDepths → CopyState
copy_of_core role it = state_of it.depths (copy_at_boot role 0 it.core)

abbrev pub copy_at_start : Role → ProcessState → ℕ → List OpenerSpec → CopyState
copy_at_start role state files openers =
    copy_of_core role (with_depths openers (core_at_start state files openers))

-- the copy with this core
abbrev pub with_core : CopyState → Core → CopyState
with_core copy core = record copy { core = core }

-- Sending

-- the checkpoint that a copy sends: the next one of its era, of everything where it has to send that
abbrev pub copy_checkpoint : ℕ → CopyState → ImageMessage
copy_checkpoint process copy = checkpoint_of process (as_copy copy)

-- the copy after it sent its checkpoint
abbrev pub copy_sending : CopyState → CopyState
copy_sending copy = after after_sending copy

-- the copy after it passed its checkpoint
abbrev pub copy_passing : CopyState → CopyState
copy_passing copy = after copy_at_checkpoint copy

-- the copy after what it has sent came to its end elsewhere than at a checkpoint
abbrev pub copy_ending : CopyState → CopyState
copy_ending copy = after after_sent copy

-- the copy after it was told that what it has sent was taken: it has sent everything, if it had to
abbrev pub copy_told : CopyState → CopyState
copy_told copy = after after_told copy

-- Applying

-- the copy that watches with the core that it has by a checkpoint
abbrev pub copy_applied : ImageMessage → CopyState → Core → CopyState
copy_applied message copy core = after (after_getting message.number core) copy

-- the copy after a checkpoint came to it; none where it is ignored
abbrev pub copy_applying : ImageMessage → CopyState → Option CopyState
copy_applying message copy =
    option_map (copy_applied message copy) (core_as copy.depths copy.era copy.number copy.core message copy.role)

-- the copy with the core that it has by a checkpoint that came as what changed
abbrev pub copy_changed : ChangeMessage → CopyState → Core → CopyState
copy_changed change copy core = after (after_getting change.number core) copy

-- the copy after a checkpoint came to it as what changed; none where it is ignored
abbrev pub copy_changing : ChangeMessage → CopyState → Option CopyState
copy_changing change copy =
    option_map (copy_changed change copy)
    (core_as_changed copy.depths copy.era copy.number copy.core change copy.role)

-- the copy after it took over: it acts in the next era, in which no checkpoint was sent yet
abbrev pub copy_taking_over : CopyState → CopyState
copy_taking_over copy = after (taken_over 0) copy

-- Reloads

-- the copy after the processor of the other one was loaded again: it has to send everything, in the next era, in which
-- nothing was sent yet
abbrev pub copy_renewed : CopyState → CopyState
copy_renewed copy = after copy_with_renewal copy

-- the copy in a processor that was loaded again, of a process in this state at its beginning: blank, in this era
abbrev pub copy_blank : ℕ → ProcessState → ℕ → List OpenerSpec → CopyState
copy_blank era state files openers =
    state_of (map (λ opener. opener.depth) openers) (blank_copy 0 era (core_at_start state files openers))
