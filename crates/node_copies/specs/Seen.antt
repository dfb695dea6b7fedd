-- What the parts of this crate's code show.
use Rattle.std.specs.Prelude.{ℕ, List, [], ◌∷◌, slice_get, Option, Some, None}
use Rattle.gd_words.specs.declared.message.Request.{Request}
use Rattle.tal_tree.specs.declared.site.ProcessSpec.{ProcessSpec}
use Rattle.tal_tree.specs.declared.site.Site.{Site}
use Rattle.message_wires.specs.plain_semantics.specs.declared.slot.Opener.{Opener}
pub use Rattle.message_wires.specs.plain_semantics.specs.OpenerRows.{file_row}
use Rattle.message_wires.specs.plain_semantics.specs.Openers.{files_of}
use Rattle.disc_device.specs.Sectors.{Stored}
use Rattle.disc_device.specs.mirror.specs.Mirror.{DriveHeld, content}
use Rattle.disc_device.specs.mirror.specs.States.{states_of}
use Rattle.disc_device.specs.mirror.specs.declared.state.DriveState.{DriveState}
use Rattle.process_control.specs.Copies.{CopyState, state_of}
use Rattle.kept_acts.specs.world_semantics.specs.Shares.{Share}
use Rattle.kept_acts.specs.world_semantics.specs.World.{Copy}
use Rattle.kept_acts.specs.world_semantics.specs.Messages.{Sending}
use Rattle.node_copies.specs.declared.step.StepOutcome.{StepOutcome}
use Rattle.node_copies.specs.declared.step.StepOutcome.TheVariants.{Impossible, Quiet, Sends}

-- a copy, and how many replies are kept at most of each opener of its process
pub record CopyAndDepths : Type 0 where
  pub copy : Copy
  pub depths : List ℕ

-- a copy in its processor, with the requests that wait there and its share of the kept acts
abbrev pub copy_with : ℕ → CopyState → List Request → Share → Copy
copy_with processor control waiting share = record {
  processor = processor;
  role = control.role;
  era = control.era;
  number = control.number;
  sent = control.sent;
  acknowledged = control.acknowledged;
  renewal = control.renewal;
  core = control.core;
  waiting = waiting;
  position = share.position;
  held = share.held;
}

-- a copy by itself
abbrev pub control_of : CopyAndDepths → CopyState
control_of one = state_of one.depths one.copy

-- the sectors of a process's device, if it has one
abbrev pub sectors_on : Option (List DriveHeld) → List Stored
sectors_on None = []
sectors_on (Some drives) = content drives

-- how the drives of a process's device stand, if it has one
abbrev pub drives_on : Option (List DriveHeld) → List DriveState
drives_on None = []
drives_on (Some drives) = states_of drives

abbrev pub files_by : Site → ℕ → Option ProcessSpec → List (Option Opener)
files_by site process None = []
files_by site process (Some spec) = file_row site process 0 (files_of spec.what)

-- where each file of the process of this number stands
abbrev pub openers_on : Site → ℕ → List (Option Opener)
openers_on site process = files_by site process (slice_get site.processes process)

-- what a step that is told sends; none where it is told that none was made
abbrev pub step_sendings : StepOutcome → Option (List Sending)
step_sendings Impossible = None
step_sendings Quiet = Some []
step_sendings (Sends sending) = Some (sending ∷ [])
