-- Reading the words of a checkpoint from their front, and what a call that reads tells of it.
use Rattle.std.specs.Option.{option_map, option_and_then}
use Rattle.std.specs.Prelude.{◌≡◌, ℕ, zero, suc, ◌==◌, ℤ, pos, negsuc, Bool, ◌&&◌, if◌then◌else◌, nat_le, nat_lt, List}
use Rattle.std.specs.Prelude.{[], ◌∷◌, Option, Some, None, Result, Ok, Err}
use Rattle.process_images.specs.gd_words.specs.Memory.{no_memory}
use Rattle.process_images.specs.process_semantics.specs.Words.{Front, count_in, words_in, whole, long_in}
use Rattle.checkpoint_image.specs.declared.message.FileNumber.{FileNumber}
use Rattle.checkpoint_image.specs.declared.message.Image.{Image}
use Rattle.checkpoint_image.specs.declared.message.ImageMessage.{ImageMessage}
use Rattle.checkpoint_image.specs.declared.reading.Heading.{Heading}
use Rattle.checkpoint_image.specs.declared.reading.ReadingFault.{ReadingFault}
use Rattle.checkpoint_image.specs.declared.reading.ReadingFault.TheVariants as stop
use Rattle.checkpoint_image.specs.declared.receive.OpenerBlock.{OpenerBlock}
use Rattle.checkpoint_image.specs.declared.receive.ReceiveBlock.{ReceiveBlock}
use Rattle.process_images.specs.gd_words.specs.declared.limits.TheConstants.{MOST_MESSAGE_WORDS}

-- whether an integer is a word of 16 bits, as each is that code reads
abbrev pub is_word : ℤ → Bool
is_word (pos n) = nat_lt n 32768
is_word (negsuc n) = nat_lt n 32768

-- a number of 32 bits, of two words of 16 bits
abbrev pub pair_in : List ℤ → Front ℕ
pair_in (high ∷ low ∷ words) = if is_word high && is_word low then long_in (high ∷ low ∷ words) else None
pair_in _ = None

-- a number up to a limit
abbrev pub number_in : ℕ → List ℤ → Front ℕ
number_in limit words = option_and_then (λ (n, left). if nat_le n limit then Some (n, left) else None) (count_in words)

-- how many, up to a limit, and what is read by that count
abbrev pub sized_in : {A : Type 0} → ℕ → (ℕ → List ℤ → Front A) → List ℤ → Front A
sized_in limit read words = option_and_then (λ (n, left). read n left) (number_in limit words)

-- two parts one after the other, joined
abbrev pub both_in : {A B C : Type 0} → (A → B → C) → (List ℤ → Front A) → (List ℤ → Front B) → List ℤ → Front C
both_in join first second words =
    option_and_then (λ (x, left). option_map (λ (y, rest). (join x y, rest)) (second left)) (first words)

-- so many parts
abbrev pub many_in : {A : Type 0} → (List ℤ → Front A) → ℕ → List ℤ → Front (List A)
many_in part zero words = Some ([], words)
many_in part (suc n) words = both_in (λ item items. item ∷ items) part (many_in part n) words

-- how many parts, and these
abbrev pub listed_in : {A : Type 0} → (List ℤ → Front A) → List ℤ → Front (List A)
listed_in part = sized_in 32767 (many_in part)

abbrev pub body_in : List ℤ → Front (List ℤ)
body_in = sized_in 32767 words_in

abbrev pub file_in : List ℤ → Front FileNumber
file_in = both_in (λ file next. record { file = file; next = next }) (number_in 255) pair_in

abbrev pub reply_in : List ℤ → Front (List ℤ)
reply_in = sized_in MOST_MESSAGE_WORDS words_in

abbrev pub opener_in : List ℤ → Front OpenerBlock
opener_in = both_in (λ taken kept. record { taken = taken; kept = kept }) pair_in (listed_in reply_in)

abbrev pub place_in : List ℤ → Front (Option ℕ)
place_in (pos place ∷ words) = if nat_le place 32767 then Some (Some place, words) else None
place_in (negsuc zero ∷ words) = Some (None, words)
place_in _ = None

abbrev pub receive_in : List ℤ → Front ReceiveBlock
receive_in = both_in (λ openers in_hand. record { openers = openers; in_hand = in_hand }) (listed_in opener_in) place_in

-- the body and the files
abbrev pub contents_in : List ℤ → Front (List ℤ × List FileNumber)
contents_in = both_in (λ body files. (body, files)) body_in (listed_in file_in)

abbrev pub image_in : List ℤ → Front Image
image_in = both_in (λ (body, files) receive. record { body = body; files = files; receive = receive }) contents_in
    receive_in

-- the era and the number
abbrev pub longs_in : List ℤ → Front (ℕ × ℕ)
longs_in = both_in (λ era number. (era, number)) pair_in pair_in

-- the process, the era and the number
abbrev pub named_in : List ℤ → Front Heading
named_in = both_in (λ process (era, number). record { process = process; era = era; number = number }) (number_in 255)
    longs_in

-- the number by which messages of a kind are told, and the numbers after it
abbrev pub heading_in : ℕ → List ℤ → Front Heading
heading_in kind = sized_in kind (λ read words. if read == kind then named_in words else None)

abbrev pub message_of : Heading → Image → ImageMessage
message_of heading image =
    record { process = heading.process; era = heading.era; number = heading.number; image = image }

-- the checkpoint of these words
abbrev pub message_in : List ℤ → Option ImageMessage
message_in words = whole (both_in message_of (heading_in 3) image_in words)

-- What calls tell

-- the answer, seen as what it stands for, is what is read
abbrev pub Gives : {X Y : Type 0} → (X → Y) → Option X → Option Y → Type 0
Gives view None found = found ≡ None
Gives view (Some x) found = found ≡ Some (view x)

-- the same where memory may run out, which tells nothing
abbrev pub Tells : {X Y : Type 0} → (X → Y) → Result X ReadingFault → Option Y → Type 0
Tells view (Ok x) found = found ≡ Some (view x)
Tells view (Err e) found = (e ≡ stop.NoMemory no_memory → ⊥) → found ≡ None
