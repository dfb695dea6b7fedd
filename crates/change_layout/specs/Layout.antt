-- The words of a checkpoint that carries what changed in the receive table, and which such checkpoints have words. The
-- layout is this project's own.
use Rattle.std.specs.List.{All, flat_map}
use Rattle.std.specs.Prelude.{ℕ, ◌+◌, ◌*◌, ◌<◌, ◌≤◌, ◌^◌, ℤ, pos, List, [], ◌∷◌, ◌++◌, length}
use Rattle.receive_changes.specs.process_semantics.specs.Words.{long, with_count}
use Rattle.receive_changes.specs.checkpoint_image.specs.Layout.{IsFile, IsPlace, file_words, words_of_list, place_word}
use Rattle.receive_changes.specs.sync_ids.specs.declared.change.OpenerChange.{OpenerChange}
use Rattle.receive_changes.specs.sync_ids.specs.declared.change.ReceiveChange.{ReceiveChange}
use Rattle.change_layout.specs.declared.message.ChangeImage.{ChangeImage}
use Rattle.change_layout.specs.declared.message.ChangeMessage.{ChangeMessage}
use Rattle.receive_changes.specs.gd_words.specs.declared.limits.TheConstants.{MOST_DEPTH, MOST_MESSAGE_WORDS}

-- an opener's place and how many replies were added to it, in one number
abbrev pub place_and_count : OpenerChange → ℕ
place_and_count change = change.opener * 8 + length change.added

-- what follows that number: the number last taken, and the replies that were added, the oldest first
abbrev pub taken_and_added : OpenerChange → List ℤ
taken_and_added change = long change.taken ++ flat_map with_count change.added

-- what changed of an opener
abbrev pub change_words : OpenerChange → List ℤ
change_words change = pos (place_and_count change) ∷ taken_and_added change

-- what changed in a receive table: the changes, and the place in hand
abbrev pub receive_words : ReceiveChange → List ℤ
receive_words change = words_of_list change_words change.changes ++ place_word change.in_hand ∷ []

-- an image: the body, the files and what changed in the receive table
abbrev pub image_words : ChangeImage → List ℤ
image_words image = with_count image.body ++ words_of_list file_words image.files ++ receive_words image.receive

-- the words before the image: 7, by which these are told from other messages, the process, the era and the number
abbrev pub heading_words : ChangeMessage → List ℤ
heading_words message = pos 7 ∷ pos message.process ∷ long message.era ++ long message.number

-- a checkpoint that carries changes
abbrev pub message_words : ChangeMessage → List ℤ
message_words message = heading_words message ++ image_words message.image

-- Which of them have words

-- the place and the count each fit their part of a word
pub record IsShort (change : OpenerChange) : Type 0 where
  pub opener : change.opener < 4096
  pub added : length change.added ≤ MOST_DEPTH

-- the counts and the places each fit their words
pub record HasShortLists (message : ChangeMessage) : Type 0 where
  pub body : length message.image.body ≤ 32767
  pub files : length message.image.files ≤ 32767
  pub changes : length message.image.receive.changes ≤ 32767
  pub short : All IsShort message.image.receive.changes
  pub in_hand : IsPlace message.image.receive.in_hand

pub record IsChange (change : OpenerChange) : Type 0 where
  pub taken : change.taken < 2 ^ 32
  pub replies : All (λ words. length words ≤ MOST_MESSAGE_WORDS) change.added

-- what such a checkpoint keeps to: lists and places that fit, and each number and reply within its range
pub record IsWithinLayout (message : ChangeMessage) : Type 0 where
  pub short : HasShortLists message
  pub process : message.process ≤ 255
  pub era : message.era < 2 ^ 32
  pub number : message.number < 2 ^ 32
  pub files : All IsFile message.image.files
  pub changes : All IsChange message.image.receive.changes
