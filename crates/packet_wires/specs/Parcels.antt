-- In which form a letter goes over packets. A checkpoint is a whole image in the world of copies; on the wires the
-- first of an era goes whole, and each later one as what changed since the one that its process sent before it. That a
-- checkpoint need carry no more is Bartlett's; the form is our own rule.
use Rattle.std.specs.Prelude.{ℕ, ◌==◌, if◌then◌else◌, List, map, Option, Some, None}
use Rattle.message_layout.specs.checkpoint_image.specs.declared.message.ImageMessage.{ImageMessage}
use Rattle.message_layout.specs.change_layout.specs.Changing.{change_of}
use Rattle.message_layout.specs.world_semantics.specs.Messages.{Message, Asking, Replying, Checkpointing, Taking}
use Rattle.message_layout.specs.world_semantics.specs.World.{World}
use Rattle.message_wires.specs.computed_changes.specs.Changed.{checkpoint_before}
use Rattle.message_wires.specs.letters.specs.Routes.{Letter}
use Rattle.message_layout.specs.Messages.{NodeMessage, Carrying, Changing}

-- a message from a node to a node, in the form in which it goes
pub record Parcel : Type 0 where
  pub sender : ℕ
  pub receiver : ℕ
  pub content : NodeMessage

-- a checkpoint, where its process sent this one before it
abbrev pub form_after : ImageMessage → Option ImageMessage → NodeMessage
form_after message None = Carrying (Checkpointing message)
form_after message (Some before) =
    if message.number == 1 then Carrying (Checkpointing message) else Changing (change_of before message)

-- the form in which a message goes that was sent last
abbrev pub form_of : World → Message → NodeMessage
form_of w (Asking request) = Carrying (Asking request)
form_of w (Replying reply) = Carrying (Replying reply)
form_of w (Checkpointing message) = form_after message (checkpoint_before w message.process)
form_of w (Taking taken) = Carrying (Taking taken)

-- the parcel of a letter, in the world in which it was sent
abbrev pub parcel_of : World → Letter → Parcel
parcel_of w letter =
    record { sender = letter.sender; receiver = letter.receiver; content = form_of w letter.message }

abbrev pub parcels_of : World → List Letter → List Parcel
parcels_of w letters = map (parcel_of w) letters
