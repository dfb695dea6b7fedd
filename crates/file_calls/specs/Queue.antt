-- The requests that wait at a copy of a process, and what becomes of a request that comes to it.
use Rattle.std.specs.Prelude.{ℕ, ◌<◌, if◌then◌else◌, List, [], ◌∷◌, All, map, Option, None, Some}
use Rattle.gd_words.specs.declared.message.Reply.{Reply}
use Rattle.gd_words.specs.declared.message.Request.{Request}
use Rattle.gd_words.specs.Members.{AreDistinct}
use Rattle.checkpoint_image.specs.Receive.{Chosen, is_outdone, reply_to, request_standing}
use Rattle.checkpoint_image.specs.declared.receive.ReceiveBlock.{ReceiveBlock}
use Rattle.checkpoint_image.specs.declared.receive.RequestStanding.{RequestStanding}
use Rattle.checkpoint_image.specs.declared.receive.RequestStanding.TheVariants.{Next, InHand, Kept, Old, Ahead}
use Rattle.file_calls.specs.declared.waiting.Arrival.{Arrival}
use Rattle.file_calls.specs.declared.waiting.Arrival.TheVariants.{Waits, Dropped, Again}

-- the requests that wait, the oldest first, and how many openers their process has
pub record Queue : Type 0 where
  pub openers : ℕ
  pub requests : List Request

-- the openers of requests
abbrev pub openers_of : List Request → List ℕ
openers_of requests = map (λ request. request.opener) requests

-- what holds of them: each is of an opener of the process, and no two are of one opener
pub record IsOnePerOpener (queue : Queue) : Type 0 where
  pub known : All (λ request. request.opener < queue.openers) queue.requests
  pub single : AreDistinct (openers_of queue.requests)

-- the requests that wait at a copy of a process with so many openers
abbrev pub queue_of : ℕ → List Request → Queue
queue_of openers requests = record { openers = openers; requests = requests }

-- What becomes of a request that comes

-- a request that comes to a copy that watches waits, or is dropped where one as great of its opener waits already
abbrev pub watched_arrival : List Request → Request → Arrival
watched_arrival waiting request = if is_outdone request waiting then Dropped else Waits

-- what becomes of a request that stands so
abbrev pub arrival_by : RequestStanding → List Request → Request → Arrival
arrival_by Next waiting request = watched_arrival waiting request
arrival_by Ahead waiting request = watched_arrival waiting request
arrival_by InHand waiting request = Dropped
arrival_by (Kept words) waiting request = Again (reply_to request words)
arrival_by Old waiting request = Dropped

-- a request that comes to a copy that acts may wait where it stands Next or Ahead; a reply that is kept to it is sent
-- again; any other is dropped
abbrev pub arrival_of : ReceiveBlock → List Request → Request → Arrival
arrival_of table waiting request = arrival_by (request_standing table request) waiting request

-- the reply that is sent again
abbrev pub sent_again : Arrival → List Reply
sent_again Waits = []
sent_again Dropped = []
sent_again (Again reply) = reply ∷ []

-- What is chosen

-- the requests that wait on after a choice
abbrev pub left_by : List Request → Option Chosen → List Request
left_by waiting None = waiting
left_by waiting (Some found) = found.rest
