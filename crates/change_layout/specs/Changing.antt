-- A checkpoint as what changed in the receive table since the one before it, and the checkpoint that such a change
-- makes of the table of a copy. That a checkpoint need carry no more of what was received is Bartlett's; the form is
-- our own.
use Rattle.std.specs.Prelude.{ℕ, Bool, true, false, List, Option, Some, None}
use Rattle.receive_changes.specs.checkpoint_image.specs.declared.message.ImageMessage.{ImageMessage}
use Rattle.receive_changes.specs.checkpoint_image.specs.declared.receive.ReceiveBlock.{ReceiveBlock}
use Rattle.receive_changes.specs.sync_ids.specs.Changes.{change_between, table_with_change, fits_change}
use Rattle.change_layout.specs.declared.message.ChangeMessage.{ChangeMessage}

-- a checkpoint as what changed since the one before it
abbrev pub change_of : ImageMessage → ImageMessage → ChangeMessage
change_of before message = record {
  process = message.process;
  era = message.era;
  number = message.number;
  image = record {
    body = message.image.body;
    files = message.image.files;
    receive = change_between before.image.receive message.image.receive;
  };
}

-- the checkpoint that carries the whole table which comes of this one by a change, with openers of these depths
abbrev pub whole_of : List ℕ → ReceiveBlock → ChangeMessage → ImageMessage
whole_of depths table change = record {
  process = change.process;
  era = change.era;
  number = change.number;
  image = record {
    body = change.image.body;
    files = change.image.files;
    receive = table_with_change depths table change.image.receive;
  };
}

abbrev pub whole_where : List ℕ → ReceiveBlock → ChangeMessage → Bool → Option ImageMessage
whole_where depths table change true = Some (whole_of depths table change)
whole_where depths table change false = None

-- the checkpoint that a change makes of a table; none where it doesn't fit
abbrev pub made_whole : List ℕ → ReceiveBlock → ChangeMessage → Option ImageMessage
made_whole depths table change =
    whole_where depths table change (fits_change (record { table = table; depths = depths }) change.image.receive)
