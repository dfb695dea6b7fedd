-- The words of checkpoints that carry changes are read back, and what is read has its words.
use Rattle.std.proofs.Common.{◌≡◌, ◌≤◌, ℤ, List, length, Some, refl, arith, ap, sym, ◌∙◌}
use Rattle.std.specs.List.{All}
use Rattle.receive_changes.specs.checkpoint_image.specs.declared.reading.Heading.{Heading}
use Rattle.receive_changes.specs.checkpoint_image.specs.Layout.{IsPlace}
use Rattle.receive_changes.specs.checkpoint_image.specs.Reading.{both_in, heading_in}
use Rattle.receive_changes.specs.checkpoint_image.proofs.Messages.{AreFew, AreFilesRead, IsNamedRead, contents-reads}
use Rattle.receive_changes.specs.checkpoint_image.proofs.Messages.{heading-reads}
use Rattle.receive_changes.specs.checkpoint_image.proofs.Messages.{place-reads}
use Rattle.receive_changes.specs.checkpoint_image.proofs.Readers.{IsReader, both-reads, listed-reads, whole-again}
use Rattle.receive_changes.specs.checkpoint_image.proofs.Readers.{whole-exact}
use Rattle.receive_changes.specs.sync_ids.specs.declared.change.OpenerChange.{OpenerChange}
use Rattle.receive_changes.specs.sync_ids.specs.declared.change.ReceiveChange.{ReceiveChange}
use Rattle.change_layout.specs.declared.message.ChangeImage.{ChangeImage}
use Rattle.change_layout.specs.declared.message.ChangeMessage.{ChangeMessage}
use Rattle.change_layout.specs.Layout.{HasShortLists, IsWithinLayout, image_words, message_words}
use Rattle.change_layout.specs.Layout.{place_and_count, receive_words}
use Rattle.change_layout.specs.Reading.{image_in, message_in, message_of, receive_in}
use Rattle.change_layout.proofs.Changes.{IsChangeRead, change-reads}

abbrev IsOpenerRead : OpenerChange → Type 0
IsOpenerRead change = (place_and_count change ≤ 32767) × IsChangeRead change

abbrev AreChangesRead : List OpenerChange → Type 0
AreChangesRead changes = (length changes ≤ 32767) × All IsOpenerRead changes

abbrev IsTableRead : ReceiveChange → Type 0
IsTableRead change = AreChangesRead change.changes × IsPlace change.in_hand

receive-reads : IsReader receive_words IsTableRead receive_in
receive-reads =
    both-reads (listed-reads change-reads) place-reads
    (λ changes in_hand. record { changes = changes; in_hand = in_hand })
    (λ table. table.changes) (λ table. table.in_hand) (λ table. refl) (λ changes in_hand. refl)
    (λ changes in_hand. refl)

abbrev IsImageRead : ChangeImage → Type 0
IsImageRead image = (AreFew 32767 image.body × AreFilesRead image.files) × IsTableRead image.receive

image-reads : IsReader image_words IsImageRead image_in
image-reads =
    both-reads contents-reads receive-reads
    (λ (body, files) receive. record { body = body; files = files; receive = receive })
    (λ image. (image.body, image.files)) (λ image. image.receive) (λ image. refl) (λ contents receive. refl)
    (λ contents receive. refl)

abbrev heading_of : ChangeMessage → Heading
heading_of message = record { process = message.process; era = message.era; number = message.number }

abbrev IsRead : ChangeMessage → Type 0
IsRead message = ((7 ≤ 7) × IsNamedRead (heading_of message)) × IsImageRead message.image

message-reads : IsReader message_words IsRead (both_in message_of (heading_in 7) image_in)
message-reads =
    both-reads (heading-reads 7) image-reads message_of heading_of (λ message. message.image)
    (λ message. refl) (λ heading image. refl) (λ heading image. refl)

is-read : (message : ChangeMessage) → IsWithinLayout message → IsRead message
is-read message is =
    let short : HasShortLists message = is.short in (
      (omega arith, (is.process, (is.era, is.number))),
      (
        ((short.body, tt), (short.files, λ k d among. let one = is.files k d among in (one.file, one.next))),
        (
          (
            short.changes,
            λ k d among. let one = is.changes k d among in
                let few = short.short k d among in (
                  omega (arith, few.opener, few.added),
                  (few.added, (one.taken, λ i e kept. (one.replies i e kept, tt))),
                ),
          ),
          short.in_hand,
        ),
      ),
    )

within : (message : ChangeMessage) → IsRead message → IsWithinLayout message
within message is =
    let heading = is.0.1 in
    let contents = is.1.0 in
    let table = is.1.1 in record {
      short = record {
        body = contents.0.0;
        files = contents.1.0;
        changes = table.0.0;
        short = λ k d among. let one = table.0.1 k d among in record {
          opener = omega (arith, one.0);
          added = one.1.0;
        };
        in_hand = table.1;
      };
      process = heading.0;
      era = heading.1.0;
      number = heading.1.1;
      files = λ k d among. let one = contents.1.1 k d among in record { file = one.0; next = one.1 };
      changes = λ k d among. let one = table.0.1 k d among in record {
        taken = one.1.1.0;
        replies = λ i e kept. (one.1.1.1 i e kept).0;
      };
    }

-- the words of a checkpoint are read as that checkpoint
pub read-again : (message : ChangeMessage) → IsWithinLayout message → message_in (message_words message) ≡ Some message
read-again message is = whole-again message-reads message (is-read message is)

-- what is read has these words and is within the layout
pub read-exact : (words : List ℤ) (message : ChangeMessage) → message_in words ≡ Some message
    → (message_words message ≡ words) × IsWithinLayout message
read-exact words message found =
    let was : (message_words message ≡ words) × IsRead message = whole-exact message-reads words message found in
    (was.0, within message was.1)

pub read-apart : (one other : ChangeMessage) → IsWithinLayout one → IsWithinLayout other
    → message_words one ≡ message_words other → one ≡ other
read-apart one other is_one is_other same =
    let found : Some one ≡ Some other =
    sym (read-again one is_one) ∙ ap message_in same ∙ read-again other is_other in cc
