-- Copies that the guards name, with all fields different.
use Rattle.std.specs.Prelude.{true, false, List, [], ◌∷◌}
use Rattle.gd_words.specs.declared.message.Request.{Request}
use Rattle.checkpoint_image.specs.declared.receive.ReceiveBlock.{ReceiveBlock}
use Rattle.process_semantics.specs.Process.{ProcessState}
use Rattle.process_semantics.specs.State.{Entry, Frame}
use Rattle.world_semantics.specs.declared.role.Role.TheVariants.{Acting, Watching}
use Rattle.world_semantics.specs.Core.{Core}
use Rattle.world_semantics.specs.World.{Copy}

-- a frame in which this remains
abbrev pub framed : List Entry → Frame
framed rest = record { procedure = 2; locals = []; rest = rest }

-- a core with two files
abbrev pub core_of : ProcessState → ReceiveBlock → Core
core_of state table = record { state = state; next = 5 ∷ 6 ∷ []; receive = table }

-- a copy that has sent its checkpoint, which isn't acknowledged
abbrev pub acting : Core → List Request → Copy
acting core waiting = record {
  processor = 7;
  role = Acting;
  era = 3;
  number = 4;
  sent = true;
  acknowledged = false;
  renewal = false;
  core = core;
  waiting = waiting;
  position = 1;
  held = [];
}

-- a copy that has sent none, and has to send everything
abbrev pub watching : Core → List Request → Copy
watching core waiting = record {
  processor = 8;
  role = Watching;
  era = 4;
  number = 3;
  sent = false;
  acknowledged = true;
  renewal = true;
  core = core;
  waiting = waiting;
  position = 9;
  held = [];
}
