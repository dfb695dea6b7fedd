-- Reading the words of a checkpoint that carries changes from their front.
use Rattle.std.specs.Prelude.{ℕ, ◌/◌, ◌%◌, ℤ, if◌then◌else◌, nat_le, List, Option, None}
use Rattle.receive_changes.specs.process_semantics.specs.Words.{Front, whole}
use Rattle.receive_changes.specs.checkpoint_image.specs.declared.reading.Heading.{Heading}
use Rattle.receive_changes.specs.checkpoint_image.specs.Reading.{both_in, contents_in, heading_in, listed_in, many_in}
use Rattle.receive_changes.specs.checkpoint_image.specs.Reading.{pair_in, place_in}
use Rattle.receive_changes.specs.checkpoint_image.specs.Reading.{reply_in, sized_in}
use Rattle.receive_changes.specs.sync_ids.specs.declared.change.OpenerChange.{OpenerChange}
use Rattle.receive_changes.specs.sync_ids.specs.declared.change.ReceiveChange.{ReceiveChange}
use Rattle.change_layout.specs.declared.message.ChangeImage.{ChangeImage}
use Rattle.change_layout.specs.declared.message.ChangeMessage.{ChangeMessage}
use Rattle.receive_changes.specs.gd_words.specs.declared.limits.TheConstants.{MOST_DEPTH}

-- the change of the opener at a place, with so many replies
abbrev pub added_in : ℕ → ℕ → List ℤ → Front OpenerChange
added_in opener count =
    both_in (λ taken added. record { opener = opener; taken = taken; added = added }) pair_in (many_in reply_in count)

-- what follows a number that has a place and a count, which is at most 4
abbrev pub change_by : ℕ → List ℤ → Front OpenerChange
change_by n words = if nat_le (n % 8) MOST_DEPTH then added_in (n / 8) (n % 8) words else None

abbrev pub change_in : List ℤ → Front OpenerChange
change_in = sized_in 32767 change_by

abbrev pub receive_in : List ℤ → Front ReceiveChange
receive_in = both_in (λ changes in_hand. record { changes = changes; in_hand = in_hand }) (listed_in change_in) place_in

abbrev pub image_in : List ℤ → Front ChangeImage
image_in = both_in (λ (body, files) receive. record { body = body; files = files; receive = receive }) contents_in
    receive_in

abbrev pub message_of : Heading → ChangeImage → ChangeMessage
message_of heading image =
    record { process = heading.process; era = heading.era; number = heading.number; image = image }

-- the checkpoint of these words
abbrev pub message_in : List ℤ → Option ChangeMessage
message_in words = whole (both_in message_of (heading_in 7) image_in words)
