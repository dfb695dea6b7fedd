-- How a copy that takes over settles the requests that wait: one kept reply after another is sent again.
use Rattle.std.specs.Prelude.{◌≡◌, List, [], ◌∷◌, Option, None, Some}
use Rattle.gd_words.specs.declared.message.Reply.{Reply}
use Rattle.gd_words.specs.declared.message.Request.{Request}
use Rattle.checkpoint_image.specs.Receive.{reply_to, request_standing}
use Rattle.checkpoint_image.specs.declared.receive.ReceiveBlock.{ReceiveBlock}
use Rattle.checkpoint_image.specs.declared.receive.RequestStanding.{RequestStanding}
use Rattle.checkpoint_image.specs.declared.receive.RequestStanding.TheVariants.{Next, InHand, Kept, Old, Ahead}

-- the next reply that is sent again, where there is one, and the requests that wait then
pub record Settled : Type 0 where
  pub reply : Option Reply
  pub rest : List Request

-- a request waits on before those that are settled after it
abbrev pub settled_after : Request → Settled → Settled
settled_after request later = record later { rest = request ∷ later.rest }

-- what is settled of a request that stands so and of the later ones
abbrev pub settled_by : RequestStanding → Request → List Request → Settled → Settled
settled_by Next request rest later = settled_after request later
settled_by Ahead request rest later = settled_after request later
settled_by InHand request rest later = later
settled_by Old request rest later = later
settled_by (Kept words) request rest later = record { reply = Some (reply_to request words); rest = rest }

-- the reply is that kept to the first request that has one. This request goes, and so does each before it that stands
-- InHand or Old; where no reply is kept, all that stand InHand or Old go
abbrev pub settlement_of : ReceiveBlock → List Request → Settled
settlement_of table [] = record { reply = None; rest = [] }
settlement_of table (request ∷ rest) =
    settled_by (request_standing table request) request rest (settlement_of table rest)

-- the replies that are sent again until there is none, and the requests that wait then
pub data Settles (table : ReceiveBlock) : List Request → List Reply → List Request → Type 0 where
  no_more : {waiting : List Request} → (settlement_of table waiting).reply ≡ None
      → Settles table waiting [] (settlement_of table waiting).rest
  one_more : {waiting end : List Request} {reply : Reply} {replies : List Reply}
      → (settlement_of table waiting).reply ≡ Some reply
      → Settles table (settlement_of table waiting).rest replies end → Settles table waiting (reply ∷ replies) end
