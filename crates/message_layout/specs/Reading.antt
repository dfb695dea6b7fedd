-- The message that words tell, and what a site makes of them: words that tell none are dropped, and so is what names
-- something that the site hasn't.
use Rattle.std.specs.Option.{option_map, option_and_then}
use Rattle.std.specs.Int.{w16, cast_unsigned}
use Rattle.std.specs.Prelude.{ℕ, zero, suc, ◌-◌, ◌/◌, ◌%◌, ◌==◌, ℤ, pos, negsuc, Bool, if◌then◌else◌, List, [], ◌∷◌}
use Rattle.std.specs.Prelude.{Option, Some, None}
use Rattle.change_layout.specs.tal_tree.specs.declared.site.Site.{Site}
use Rattle.change_layout.specs.gd_words.specs.declared.limits.TheConstants.{MOST_PROCESSORS}
use Rattle.change_layout.specs.gd_words.specs.declared.message.Request.{Request}
use Rattle.change_layout.specs.gd_words.specs.declared.message.Reply.{Reply}
use Rattle.world_semantics.specs.process_semantics.specs.Words.{Front, whole}
use Rattle.alive_regroup.specs.declared.set.ProcessorSet.{ProcessorSet}
use Rattle.world_semantics.specs.checkpoint_image.specs.declared.message.TakenMessage.{TakenMessage}
use Rattle.world_semantics.specs.checkpoint_image.specs.Reading.{is_word, number_in, both_in, pair_in, longs_in}
use Rattle.world_semantics.specs.checkpoint_image.specs.Reading.{reply_in, message_in}
use Rattle.world_semantics.specs.Messages.{Asking, Replying, Checkpointing, Taking}
use Rattle.change_layout.specs.Reading as changes
use Rattle.message_layout.specs.Messages.{NodeMessage, Carrying, Changing, Reporting, Declaring, is_known}

-- a process and an opener's place
abbrev pub address_in : List ℤ → Front (ℕ × ℕ)
address_in = both_in (λ process opener. (process, opener)) (number_in 255) (number_in 32767)

-- a number, and words with their count
abbrev pub body_in : List ℤ → Front (ℕ × List ℤ)
body_in = both_in (λ number words. (number, words)) pair_in reply_in

abbrev pub request_in : List ℤ → Front Request
request_in =
    both_in (λ (process, opener) (number, words). record
    { process = process; opener = opener; number = number; words = words }) address_in body_in

abbrev pub answer_in : List ℤ → Front Reply
answer_in =
    both_in (λ (process, opener) (number, words). record
    { process = process; opener = opener; number = number; words = words }) address_in body_in

abbrev pub taken_in : List ℤ → Front TakenMessage
taken_in = both_in (λ process (era, number). record { process = process; era = era; number = number }) (number_in 255)
    longs_in

-- the lowest bits of a number, so many, the lowest one first
abbrev pub bits_of : ℕ → ℕ → List Bool
bits_of zero number = []
bits_of (suc more) number = (number % 2 == 1) ∷ bits_of more (number / 2)

-- the set that a pattern of 16 bits tells
abbrev pub set_told : ℤ → ProcessorSet
set_told word = record { members = bits_of 16 (cast_unsigned w16 word) }

abbrev pub set_in : List ℤ → Front ProcessorSet
set_in [] = None
set_in (word ∷ words) = if is_word word then Some (set_told word, words) else None

-- the number of a processor
abbrev pub processor_in : List ℤ → Front ℕ
processor_in = number_in (MOST_PROCESSORS - 1)

abbrev pub report_in : List ℤ → Front (ℕ × ProcessorSet)
report_in = both_in (λ node silent. (node, silent)) processor_in set_in

-- the message of a kind in the words after the kind
abbrev pub message_of_kind : ℕ → List ℤ → Option NodeMessage
message_of_kind (suc zero) words = option_map (λ request. Carrying (Asking request)) (whole (request_in words))
message_of_kind (suc (suc zero)) words = option_map (λ reply. Carrying (Replying reply)) (whole (answer_in words))
message_of_kind (suc (suc (suc zero))) words =
    option_map (λ message. Carrying (Checkpointing message)) (message_in (pos 3 ∷ words))
message_of_kind (suc (suc (suc (suc zero)))) words =
    option_map (λ taken. Carrying (Taking taken)) (whole (taken_in words))
message_of_kind (suc (suc (suc (suc (suc zero))))) words =
    option_map (λ (node, silent). Reporting node silent) (whole (report_in words))
message_of_kind (suc (suc (suc (suc (suc (suc zero)))))) words =
    option_map (λ processor. Declaring processor) (whole (processor_in words))
message_of_kind (suc (suc (suc (suc (suc (suc (suc zero))))))) words =
    option_map (λ change. Changing change) (changes.message_in (pos 7 ∷ words))
message_of_kind _ words = None

-- the message of words
abbrev pub node_message_in : List ℤ → Option NodeMessage
node_message_in [] = None
node_message_in (negsuc n ∷ words) = None
node_message_in (pos kind ∷ words) = message_of_kind kind words

-- a message that names only what the site has; any other is dropped
abbrev pub if_known : Site → NodeMessage → Option NodeMessage
if_known site message = if is_known site message then Some message else None

-- what a node of a site takes words for
abbrev pub understood : Site → List ℤ → Option NodeMessage
understood site words = option_and_then (if_known site) (node_message_in words)
