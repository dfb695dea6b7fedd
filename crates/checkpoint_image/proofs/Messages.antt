-- The words of checkpoints are read back, and what is read has its words.
use Rattle.std.proofs.Common.{◌≡◌, ◌≤◌, ◌<◌, ◌^◌, ◌==◌, ℕ, zero, suc, ℤ, pos, negsuc, Bool, true, false, if◌then◌else◌}
use Rattle.std.proofs.Common.{List, [], ◌∷◌, ◌++◌, length, Option, Some, None, nat_le, refl, arith, ap, sym, ◌∙◌}
use Rattle.std.proofs.Common.{eq-eqb}
use Rattle.std.proofs.lemmas.Bool.{le-leb, leb-true, eqb-true}
use Rattle.std.specs.List.{All}
use Rattle.process_images.specs.process_semantics.specs.Words.{Front, words_in, long, with_count}
use Rattle.checkpoint_image.specs.declared.message.FileNumber.{FileNumber}
use Rattle.checkpoint_image.specs.declared.message.Image.{Image}
use Rattle.checkpoint_image.specs.declared.message.ImageMessage.{ImageMessage}
use Rattle.checkpoint_image.specs.declared.reading.Heading.{Heading}
use Rattle.checkpoint_image.specs.declared.receive.OpenerBlock.{OpenerBlock}
use Rattle.checkpoint_image.specs.declared.receive.ReceiveBlock.{ReceiveBlock}
use Rattle.checkpoint_image.specs.Layout.{words_of_list, file_words, opener_words, place_word, receive_words}
use Rattle.checkpoint_image.specs.Layout.{image_words}
use Rattle.checkpoint_image.specs.Layout.{message_words, IsPlace, HasShortLists, IsWithinLayout}
use Rattle.checkpoint_image.specs.Reading.{body_in, file_in, reply_in, opener_in, place_in, receive_in, contents_in}
use Rattle.checkpoint_image.specs.Reading.{image_in, longs_in, named_in, heading_in, message_of, message_in, both_in}
use Rattle.checkpoint_image.proofs.Patterns.{pair-reads}
use Rattle.checkpoint_image.proofs.Readers.{WasWritten, IsReader, number-reads, words-reads, sized-reads, both-reads}
use Rattle.checkpoint_image.proofs.Readers.{listed-reads, whole-again, whole-exact}

abbrev pub AreFew : ℕ → List ℤ → Type 0
AreFew limit words = (length words ≤ limit) × Unit {0}

body-reads : IsReader with_count (AreFew 32767) body_in
body-reads = sized-reads (λ words. words) (λ words. Unit {0}) length words_in 32767 words-reads

pub reply-reads : IsReader with_count (AreFew 16) reply_in
reply-reads = sized-reads (λ words. words) (λ words. Unit {0}) length words_in 16 words-reads

abbrev pub IsFileRead : FileNumber → Type 0
IsFileRead named = (named.file ≤ 255) × (named.next < 2 ^ 32)

file-reads : IsReader file_words IsFileRead file_in
file-reads =
    both-reads (number-reads 255) pair-reads (λ file next. record { file = file; next = next }) (λ named. named.file)
    (λ named. named.next)
    (λ named. refl) (λ file next. refl) (λ file next. refl)

abbrev IsOpenerRead : OpenerBlock → Type 0
IsOpenerRead block = (block.taken < 2 ^ 32) × ((length block.kept ≤ 32767) × All (AreFew 16) block.kept)

opener-reads : IsReader opener_words IsOpenerRead opener_in
opener-reads =
    both-reads pair-reads (listed-reads reply-reads) (λ taken kept. record { taken = taken; kept = kept })
    (λ block. block.taken) (λ block. block.kept)
    (λ block. refl) (λ taken kept. refl) (λ taken kept. refl)

pub place-reads : IsReader (λ place. place_word place ∷ []) IsPlace place_in
place-reads = record { again = again; exact = exact }
  where
    again : (place : Option ℕ) (left : List ℤ) → IsPlace place → place_in (place_word place ∷ left) ≡ Some (place, left)
    again None left is = refl
    again (Some place) left is = ap (λ (b : Bool). if b then Some (Some place, left) else None) (le-leb place 32767 is)

    tested : (place : ℕ) (left : List ℤ) (b : Bool) → nat_le place 32767 ≡ b
        → WasWritten (λ place. place_word place ∷ []) IsPlace (pos place ∷ left)
        (if b then Some (Some place, left) else None)
    tested place left true is = (refl, leb-true place 32767 is)
    tested place left false is = tt

    exact : (words : List ℤ) → WasWritten (λ place. place_word place ∷ []) IsPlace words (place_in words)
    exact [] = tt
    exact (pos place ∷ left) = tested place left (nat_le place 32767) refl
    exact (negsuc zero ∷ left) = (refl, tt)
    exact (negsuc (suc n) ∷ left) = tt

abbrev AreOpenersRead : List OpenerBlock → Type 0
AreOpenersRead openers = (length openers ≤ 32767) × All IsOpenerRead openers

abbrev IsTableRead : ReceiveBlock → Type 0
IsTableRead table = AreOpenersRead table.openers × IsPlace table.in_hand

receive-reads : IsReader receive_words IsTableRead receive_in
receive-reads =
    both-reads (listed-reads opener-reads) place-reads
    (λ openers in_hand. record { openers = openers; in_hand = in_hand })
    (λ table. table.openers) (λ table. table.in_hand) (λ table. refl) (λ openers in_hand. refl)
    (λ openers in_hand. refl)

abbrev pub AreFilesRead : List FileNumber → Type 0
AreFilesRead files = (length files ≤ 32767) × All IsFileRead files

pub contents-reads : IsReader (λ (body, files). with_count body ++ words_of_list file_words files)
    (λ (body, files). AreFew 32767 body × AreFilesRead files) contents_in
contents-reads =
    both-reads body-reads (listed-reads file-reads) (λ body files. (body, files)) (λ contents. contents.0)
    (λ contents. contents.1)
    (λ contents. refl) (λ body files. refl) (λ body files. refl)

abbrev IsImageRead : Image → Type 0
IsImageRead image = (AreFew 32767 image.body × AreFilesRead image.files) × IsTableRead image.receive

image-reads : IsReader image_words IsImageRead image_in
image-reads =
    both-reads contents-reads receive-reads
    (λ (body, files) receive. record { body = body; files = files; receive = receive })
    (λ image. (image.body, image.files)) (λ image. image.receive) (λ image. refl) (λ contents receive. refl)
    (λ contents receive. refl)

longs-reads : IsReader (λ (era, number). long era ++ long number) (λ (era, number). (era < 2 ^ 32) × (number < 2 ^ 32))
    longs_in
longs-reads =
    both-reads pair-reads pair-reads (λ era number. (era, number)) (λ longs. longs.0) (λ longs. longs.1)
    (λ longs. refl) (λ era number. refl) (λ era number. refl)

abbrev pub named_words : Heading → List ℤ
named_words heading = pos heading.process ∷ long heading.era ++ long heading.number

abbrev pub IsNamedRead : Heading → Type 0
IsNamedRead heading = (heading.process ≤ 255) × ((heading.era < 2 ^ 32) × (heading.number < 2 ^ 32))

named-reads : IsReader named_words IsNamedRead named_in
named-reads =
    both-reads (number-reads 255) longs-reads
    (λ process (era, number). record { process = process; era = era; number = number }) (λ heading. heading.process)
    (λ heading. (heading.era, heading.number)) (λ heading. refl) (λ process longs. refl) (λ process longs. refl)

kind-reads : (wanted kind : ℕ) → IsReader named_words (λ heading. (wanted ≡ kind) × IsNamedRead heading)
    (λ words. if kind == wanted then named_in words else None)
kind-reads wanted kind = record {
  again = λ heading left is.
      ap (λ (b : Bool). if b then named_in (named_words heading ++ left) else None) (eq-eqb kind wanted (sym is.0))
      ∙ named-reads.again heading left is.1;
  exact = λ words. tested words (kind == wanted) refl;
}
  where
    of_kind : wanted ≡ kind → (words : List ℤ) (f : Front Heading) → WasWritten named_words IsNamedRead words f
        → WasWritten named_words (λ heading. (wanted ≡ kind) × IsNamedRead heading) words f
    of_kind is words None was = tt
    of_kind is words (Some (heading, left)) was = (was.0, (is, was.1))

    tested : (words : List ℤ) (b : Bool) → (kind == wanted) ≡ b
        → WasWritten named_words (λ heading. (wanted ≡ kind) × IsNamedRead heading) words
        (if b then named_in words else None)
    tested words true is = of_kind (sym (eqb-true kind wanted is)) words (named_in words) (named-reads.exact words)
    tested words false is = tt

pub heading-reads : (kind : ℕ) → IsReader (λ heading. pos kind ∷ named_words heading)
    (λ heading. (kind ≤ kind) × IsNamedRead heading) (heading_in kind)
heading-reads kind = sized-reads named_words IsNamedRead (λ heading. kind)
    (λ read words. if read == kind then named_in words else None) kind (kind-reads kind)

abbrev heading_of : ImageMessage → Heading
heading_of message = record { process = message.process; era = message.era; number = message.number }

abbrev IsRead : ImageMessage → Type 0
IsRead message = ((3 ≤ 3) × IsNamedRead (heading_of message)) × IsImageRead message.image

message-reads : IsReader message_words IsRead (both_in message_of (heading_in 3) image_in)
message-reads =
    both-reads (heading-reads 3) image-reads message_of heading_of (λ message. message.image)
    (λ message. refl) (λ heading image. refl) (λ heading image. refl)

is-read : (message : ImageMessage) → IsWithinLayout message → IsRead message
is-read message is =
    let short : HasShortLists message = is.short in (
      (omega arith, (is.process, (is.era, is.number))),
      (
        ((short.body, tt), (short.files, λ k d among. let one = is.files k d among in (one.file, one.next))),
        (
          (
            short.openers,
            λ k d among. let one = is.openers k d among in
                (one.taken, (short.kept k d among, λ i e kept. (one.replies i e kept, tt))),
          ),
          short.in_hand,
        ),
      ),
    )

within : (message : ImageMessage) → IsRead message → IsWithinLayout message
within message is =
    let heading = is.0.1 in
    let contents = is.1.0 in
    let table = is.1.1 in record {
      short = record {
        body = contents.0.0;
        files = contents.1.0;
        openers = table.0.0;
        kept = λ k d among. (table.0.1 k d among).1.0;
        in_hand = table.1;
      };
      process = heading.0;
      era = heading.1.0;
      number = heading.1.1;
      files = λ k d among. let one = contents.1.1 k d among in record { file = one.0; next = one.1 };
      openers = λ k d among. let one =
          table.0.1 k d among in record { taken = one.0; replies = λ i e kept. (one.1.1 i e kept).0 };
    }

-- the words of a checkpoint are read as that checkpoint
pub read-again : (message : ImageMessage) → IsWithinLayout message → message_in (message_words message) ≡ Some message
read-again message is = whole-again message-reads message (is-read message is)

-- what is read has these words and is within the layout
pub read-exact : (words : List ℤ) (message : ImageMessage) → message_in words ≡ Some message
    → (message_words message ≡ words) × IsWithinLayout message
read-exact words message found =
    let was : (message_words message ≡ words) × IsRead message = whole-exact message-reads words message found in
    (was.0, within message was.1)

pub read-apart : (one other : ImageMessage) → IsWithinLayout one → IsWithinLayout other
    → message_words one ≡ message_words other → one ≡ other
read-apart one other is_one is_other same =
    let found : Some one ≡ Some other =
    sym (read-again one is_one) ∙ ap message_in same ∙ read-again other is_other in cc
