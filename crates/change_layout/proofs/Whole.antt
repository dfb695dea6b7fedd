-- A change makes its checkpoint.
use Rattle.std.proofs.Common.{◌≡◌, ℕ, true, List, Some, ap, ◌∙◌}
use Rattle.receive_changes.specs.checkpoint_image.specs.declared.message.ImageMessage.{ImageMessage}
use Rattle.receive_changes.specs.checkpoint_image.specs.declared.receive.ReceiveBlock.{ReceiveBlock}
use Rattle.receive_changes.specs.sync_ids.specs.Tables.{fits}
use Rattle.receive_changes.specs.Later.{ComesTo}
use Rattle.receive_changes.proofs.LaterTables.{later-fits, later-gives}
use Rattle.change_layout.specs.Changing.{change_of, made_whole, whole_where}

pub makes-whole : (depths : List ℕ) (before message : ImageMessage)
    → fits (record { table = before.image.receive; depths = depths }) before.image.receive ≡ true
    → ComesTo depths before.image.receive message.image.receive
    → fits (record { table = before.image.receive; depths = depths }) message.image.receive ≡ true
    → made_whole depths before.image.receive (change_of before message) ≡ Some message
makes-whole depths before message sound came fit =
    ap (whole_where depths before.image.receive (change_of before message))
    (later-fits (record { table = before.image.receive; depths = depths }) message.image.receive sound came fit)
    ∙ ap (λ (table : ReceiveBlock). Some (record {
      process = message.process;
      era = message.era;
      number = message.number;
      image = record { body = message.image.body; files = message.image.files; receive = table };
    }))
    (later-gives (record { table = before.image.receive; depths = depths }) message.image.receive sound came)
