-- The words of a checkpoint, and which checkpoints have words. That a checkpoint carries its process's state, the
-- numbers of its files and what was taken and answered is Bartlett's; the layout is this project's own.
use Rattle.std.specs.List.{All, flat_map}
use Rattle.std.specs.Prelude.{ℕ, ◌<◌, ◌≤◌, ◌^◌, ℤ, pos, negsuc, zero, List, [], ◌∷◌, ◌++◌, length, Option, Some, None}
use Rattle.process_images.specs.process_semantics.specs.Words.{long, with_count}
use Rattle.checkpoint_image.specs.declared.message.FileNumber.{FileNumber}
use Rattle.checkpoint_image.specs.declared.message.Image.{Image}
use Rattle.checkpoint_image.specs.declared.message.ImageMessage.{ImageMessage}
use Rattle.checkpoint_image.specs.declared.receive.OpenerBlock.{OpenerBlock}
use Rattle.checkpoint_image.specs.declared.receive.ReceiveBlock.{ReceiveBlock}
use Rattle.process_images.specs.gd_words.specs.declared.limits.TheConstants.{MOST_MESSAGE_WORDS}

-- how many there are, and the words of each in order
abbrev pub words_of_list : {A : Type 0} → (A → List ℤ) → List A → List ℤ
words_of_list part items = pos (length items) ∷ flat_map part items

-- a file that is named: its number and the number of the next request on it
abbrev pub file_words : FileNumber → List ℤ
file_words named = pos named.file ∷ long named.next

-- an opener: the number last taken, and the kept replies, the oldest first
abbrev pub opener_words : OpenerBlock → List ℤ
opener_words block = long block.taken ++ words_of_list with_count block.kept

-- the place of the opener whose request is in hand, or -1
abbrev pub place_word : Option ℕ → ℤ
place_word None = negsuc zero
place_word (Some place) = pos place

-- a receive table: the openers, and the place in hand
abbrev pub receive_words : ReceiveBlock → List ℤ
receive_words table = words_of_list opener_words table.openers ++ place_word table.in_hand ∷ []

-- an image: the body, the files and the receive table
abbrev pub image_words : Image → List ℤ
image_words image = with_count image.body ++ words_of_list file_words image.files ++ receive_words image.receive

-- the words before the image: 3, by which checkpoints are told from other messages, the process, the era and the number
abbrev pub heading_words : ImageMessage → List ℤ
heading_words message = pos 3 ∷ pos message.process ∷ long message.era ++ long message.number

-- a checkpoint
abbrev pub message_words : ImageMessage → List ℤ
message_words message = heading_words message ++ image_words message.image

-- Which checkpoints have words

abbrev pub IsPlace : Option ℕ → Type 0
IsPlace None = Unit {0}
IsPlace (Some place) = place ≤ 32767

-- the counts and the place in hand each fit a word
pub record HasShortLists (message : ImageMessage) : Type 0 where
  pub body : length message.image.body ≤ 32767
  pub files : length message.image.files ≤ 32767
  pub openers : length message.image.receive.openers ≤ 32767
  pub kept : All (λ block. length block.kept ≤ 32767) message.image.receive.openers
  pub in_hand : IsPlace message.image.receive.in_hand

pub record IsFile (named : FileNumber) : Type 0 where
  pub file : named.file ≤ 255
  pub next : named.next < 2 ^ 32

pub record IsOpener (block : OpenerBlock) : Type 0 where
  pub taken : block.taken < 2 ^ 32
  pub replies : All (λ words. length words ≤ MOST_MESSAGE_WORDS) block.kept

-- what a checkpoint keeps to: lists and a place that fit, and each number and reply within its range
pub record IsWithinLayout (message : ImageMessage) : Type 0 where
  pub short : HasShortLists message
  pub process : message.process ≤ 255
  pub era : message.era < 2 ^ 32
  pub number : message.number < 2 ^ 32
  pub files : All IsFile message.image.files
  pub openers : All IsOpener message.image.receive.openers
