-- The words of the messages that nodes send each other, and which messages have words. The layout is this project's
-- own.
use Rattle.std.specs.Prelude.{◌≡◌, ◌<◌, ◌≤◌, ◌^◌, ◌+◌, ◌*◌, ℕ, ℤ, pos, Bool, true, List, [], ◌∷◌, ◌++◌, length}
use Rattle.std.specs.Prelude.{if◌then◌else◌}
use Rattle.std.specs.Int.{w16, cast_signed}
use Rattle.change_layout.specs.gd_words.specs.declared.limits.TheConstants.{MOST_MESSAGE_WORDS, MOST_PROCESSORS}
use Rattle.change_layout.specs.tal_tree.specs.declared.site.Site.{Site}
use Rattle.change_layout.specs.gd_words.specs.declared.message.Request.{Request}
use Rattle.change_layout.specs.gd_words.specs.declared.message.Reply.{Reply}
use Rattle.world_semantics.specs.process_semantics.specs.Words.{long, with_count}
use Rattle.alive_regroup.specs.declared.set.ProcessorSet.{ProcessorSet}
use Rattle.world_semantics.specs.checkpoint_image.specs.declared.message.TakenMessage.{TakenMessage}
use Rattle.world_semantics.specs.checkpoint_image.specs.Layout.{message_words, IsWithinLayout}
use Rattle.world_semantics.specs.Messages.{Message, Asking, Replying, Checkpointing, Taking}
use Rattle.change_layout.specs.Layout as changes
use Rattle.message_layout.specs.Messages.{NodeMessage, Carrying, Changing, Reporting, Declaring, is_known}

-- a request: the process that serves it, the opener's place there, its number, and its words with their count
abbrev pub request_words : Request → List ℤ
request_words request = pos request.process ∷ pos request.opener ∷ long request.number ++ with_count request.words

-- a reply has the places of its request
abbrev pub reply_words : Reply → List ℤ
reply_words reply = pos reply.process ∷ pos reply.opener ∷ long reply.number ++ with_count reply.words

-- that a checkpoint was taken: its process, era and number
abbrev pub taken_words : TakenMessage → List ℤ
taken_words taken = pos taken.process ∷ long taken.era ++ long taken.number

-- a set as a number: bit p is 1 where processor p is a member
abbrev pub mask_of : List Bool → ℕ
mask_of [] = 0
mask_of (member ∷ members) = (if member then 1 else 0) + 2 * mask_of members

-- that number as a pattern of 16 bits
abbrev pub mask_word : ProcessorSet → ℤ
mask_word set = cast_signed w16 (mask_of set.members)

abbrev pub report_words : ℕ → ProcessorSet → List ℤ
report_words node silent = pos node ∷ mask_word silent ∷ []

-- the words of a message of the world. The first one tells the kind: a request is 1, a reply 2, a checkpoint 3, that
-- one was taken 4
abbrev pub words_of_carried : Message → List ℤ
words_of_carried (Asking request) = pos 1 ∷ request_words request
words_of_carried (Replying reply) = pos 2 ∷ reply_words reply
words_of_carried (Checkpointing message) = message_words message
words_of_carried (Taking taken) = pos 4 ∷ taken_words taken

-- the words of a message: a report is of kind 5, that a processor is down of kind 6, and a checkpoint as what changed
-- of kind 7
abbrev pub words_of : NodeMessage → List ℤ
words_of (Carrying message) = words_of_carried message
words_of (Changing change) = changes.message_words change
words_of (Reporting node silent) = pos 5 ∷ report_words node silent
words_of (Declaring processor) = pos 6 ∷ pos processor ∷ []

-- Which messages have words

-- the places of a request or a reply
pub record IsAddressed (p o n : ℕ) (ws : List ℤ) : Type 0 where
  pub process : p ≤ 255
  pub opener : o ≤ 32767
  pub number : n < 2 ^ 32
  pub words : length ws ≤ MOST_MESSAGE_WORDS

pub record IsTakenWithin (taken : TakenMessage) : Type 0 where
  pub process : taken.process ≤ 255
  pub era : taken.era < 2 ^ 32
  pub number : taken.number < 2 ^ 32

abbrev pub IsCarriedWithin : Message → Type 0
IsCarriedWithin (Asking request) = IsAddressed request.process request.opener request.number request.words
IsCarriedWithin (Replying reply) = IsAddressed reply.process reply.opener reply.number reply.words
IsCarriedWithin (Checkpointing message) = IsWithinLayout message
IsCarriedWithin (Taking taken) = IsTakenWithin taken

-- a message keeps to the layout: each number is within its range, and a set has its places
abbrev pub IsWithin : NodeMessage → Type 0
IsWithin (Carrying message) = IsCarriedWithin message
IsWithin (Changing change) = changes.IsWithinLayout change
IsWithin (Reporting node silent) = (node < MOST_PROCESSORS) × (length silent.members ≡ MOST_PROCESSORS)
IsWithin (Declaring processor) = processor < MOST_PROCESSORS

-- a message fits a site: it keeps to the layout, and the site has all that it names
pub record Fits (site : Site) (message : NodeMessage) : Type 0 where
  pub within : IsWithin message
  pub known : is_known site message ≡ true
