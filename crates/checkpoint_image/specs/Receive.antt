-- Receive tables: how a request that comes stands to its process, which replies are kept, and which requests wait.
-- Numbers and the depth of what is kept are those of the GUARDIAN manual's sync depth; that one request of an opener
-- waits is our own rule.
use Rattle.std.specs.Prelude.{ℕ, ◌+◌, ◌-◌, ◌==◌, ℤ, Bool, true, false, not, ◌&&◌, if◌then◌else◌, nat_le, nat_lt, List}
use Rattle.std.specs.Prelude.{[], ◌∷◌, ◌++◌, length, drop, reverse, slice_get, slice_set, Option, Some, None}
use Rattle.std.specs.Option.{option_map}
use Rattle.std.specs.List.{filter, flat_map, list_any}
use Rattle.process_images.specs.gd_words.specs.declared.message.Request.{Request}
use Rattle.process_images.specs.gd_words.specs.declared.message.Reply.{Reply}
use Rattle.checkpoint_image.specs.declared.receive.OpenerBlock.{OpenerBlock}
use Rattle.checkpoint_image.specs.declared.receive.ReceiveBlock.{ReceiveBlock}
use Rattle.checkpoint_image.specs.declared.receive.RequestStanding.{RequestStanding}
use Rattle.checkpoint_image.specs.declared.receive.RequestStanding.TheVariants.{Next, InHand, Kept, Old, Ahead}

-- Standing

abbrev pub is_place : Option ℕ → ℕ → Bool
is_place None place = false
is_place (Some held) place = held == place

-- whether the request in hand is of the opener at a place
abbrev pub holds : ReceiveBlock → ℕ → Bool
holds table place = is_place table.in_hand place

-- the number last answered to an opener: the one last taken, or the one before it while that is in hand
abbrev pub answered : Bool → OpenerBlock → ℕ
answered true block = block.taken - 1
answered false block = block.taken

-- the reply kept to the request of a number: the kept replies are those to the last numbers answered, the oldest first
abbrev pub reply_kept : ℕ → List (List ℤ) → ℕ → Option (List ℤ)
reply_kept last kept number = if nat_le number last then slice_get (reverse kept) (last - number) else None

abbrev pub kept_or_old : Option (List ℤ) → RequestStanding
kept_or_old None = Old
kept_or_old (Some words) = Kept words

-- how a number stands to an opener's block: Next is the one after the last taken and Ahead a later one; the last taken
-- is InHand while it is in hand; a number whose reply is kept is Kept, and any other is Old
abbrev pub standing_in : Bool → OpenerBlock → ℕ → RequestStanding
standing_in held block number =
    if number == block.taken + 1 then Next
    else if nat_lt (block.taken + 1) number then Ahead
    else if held && number == block.taken then InHand
    else kept_or_old (reply_kept (answered held block) block.kept number)

abbrev pub standing_by : Bool → Option OpenerBlock → ℕ → RequestStanding
standing_by held None number = Old
standing_by held (Some block) number = standing_in held block number

-- how a number of the opener at a place stands to a receive table
abbrev pub standing_at : ReceiveBlock → ℕ → ℕ → RequestStanding
standing_at table opener number = standing_by (holds table opener) (slice_get table.openers opener) number

-- how a request stands to a receive table
abbrev pub request_standing : ReceiveBlock → Request → RequestStanding
request_standing table request = standing_at table request.opener request.number

-- Taking and answering

-- the table after the next request of the opener at a place was taken: it is in hand
abbrev pub after_taking : ℕ → OpenerBlock → ReceiveBlock → ReceiveBlock
after_taking place block table =
    record table {
      openers = slice_set table.openers place (record block { taken = block.taken + 1 });
      in_hand = Some place;
    }

-- so many of a list, its last ones
abbrev pub last_ones : {A : Type 0} → ℕ → List A → List A
last_ones n items = drop (length items - n) items

-- the table after the request in hand was answered: the reply is kept, the oldest one goes where more than the depth
-- would be kept, and nothing is in hand
abbrev pub after_answering : ℕ → ℕ → OpenerBlock → List ℤ → ReceiveBlock → ReceiveBlock
after_answering depth place block words table =
    record table {
      openers = slice_set table.openers place
          (record block { kept = last_ones depth (block.kept ++ words ∷ []) });
      in_hand = None;
    }

-- Waiting

-- whether two requests are of one opener
abbrev pub is_same_opener : Request → Request → Bool
is_same_opener one other = one.opener == other.opener

-- whether a request of the same opener waits whose number is as great
abbrev pub is_outdone : Request → List Request → Bool
is_outdone request waiting =
    list_any (λ other. is_same_opener request other && nat_le request.number other.number) waiting

-- the waiting requests after one more came to wait. Of one opener one request waits: a greater number takes the place
-- of a smaller one and goes to the end, and any other is dropped
abbrev pub waits : List Request → Request → List Request
waits waiting request =
    if is_outdone request waiting then waiting else filter (λ other. not (is_same_opener request other)) waiting
    ++ request ∷ []

-- whether a request of this standing waits where its process acts
abbrev pub is_waiting : RequestStanding → Bool
is_waiting Next = true
is_waiting Ahead = true
is_waiting _ = false

-- the waiting requests of a copy that acts after a request came: Next and Ahead wait, the others don't
abbrev pub came : ReceiveBlock → List Request → Request → List Request
came table waiting request = if is_waiting (request_standing table request) then waits waiting request else waiting

-- the reply of these words to a request
abbrev pub reply_to : Request → List ℤ → Reply
reply_to request words =
    record { process = request.process; opener = request.opener; number = request.number; words = words }

abbrev pub repeated_by : Request → RequestStanding → List Reply
repeated_by request (Kept words) = reply_to request words ∷ []
repeated_by request _ = []

-- the reply that is sent again when a request came to a copy that acts: the one that is kept
abbrev pub reply_sent_again : ReceiveBlock → Request → List Reply
reply_sent_again table request = repeated_by request (request_standing table request)

-- the waiting requests of a copy that takes over: each is treated in order as if it came now, so Next and Ahead wait on
-- and the others are dropped
abbrev pub still_waiting : ReceiveBlock → List Request → List Request
still_waiting table waiting = filter (λ request. is_waiting (request_standing table request)) waiting

-- the replies that a copy sends again when it takes over
abbrev pub all_repeated : ReceiveBlock → List Request → List Reply
all_repeated table waiting = flat_map (reply_sent_again table) waiting

-- a waiting request that is taken, and those that wait on
pub record Chosen : Type 0 where
  pub request : Request
  pub rest : List Request

abbrev pub is_next : RequestStanding → Bool
is_next Next = true
is_next _ = false

abbrev pub chosen_after : Request → Chosen → Chosen
chosen_after request later = record later { rest = request ∷ later.rest }

abbrev pub chosen_by : Bool → Request → List Request → Option Chosen → Option Chosen
chosen_by true request rest later = Some (record { request = request; rest = rest })
chosen_by false request rest later = option_map (chosen_after request) later

-- the waiting request that is taken: the first that stands Next
abbrev pub choice_among : ReceiveBlock → List Request → Option Chosen
choice_among table [] = None
choice_among table (request ∷ rest) =
    chosen_by (is_next (request_standing table request)) request rest (choice_among table rest)
