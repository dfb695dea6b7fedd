-- How the open links of a node differ before and after a change. Our own words.
use Rattle.std.specs.Prelude.{◌≡◌, ℕ, ℤ, false, List, [], ◌∷◌, ◌++◌, slice_get, Some}
use Rattle.gd_words.specs.Members.{IsAmong}
use Rattle.gd_words.specs.declared.message.Reply.{Reply}
use Rattle.gd_words.specs.declared.message.Request.{Request}
use Rattle.checkpoint_image.specs.Receive.{is_waiting, request_standing}
use Rattle.standing_links.specs.Needs.{Name, Needs}
use Rattle.world_semantics.specs.declared.role.Role.TheVariants.{Watching}
use Rattle.world_semantics.specs.declared.which.Which.{Which}
use Rattle.world_semantics.specs.World.{Pair, World, copy_of}

-- no one stands twice
abbrev pub StandApart : {A : Type 0} → List A → Type 0
StandApart [] = Unit {0}
StandApart (one ∷ rest) = (IsAmong one rest → ⊥) × StandApart rest

-- there is one more, and all others stand in their order
pub record IsOneMore {A : Type 0} (one : A) (fewer more : List A) : Type 0 where
  pub front : List A
  pub rest : List A
  pub without : fewer ≡ front ++ rest
  pub within : more ≡ front ++ one ∷ rest

-- a requester's link of this request is open besides, and all other links are the same
pub record HasAskedMore (request : Request) (fewer more : Needs) : Type 0 where
  pub awaited : IsOneMore request fewer.awaited more.awaited
  pub waiting : more.waiting ≡ fewer.waiting
  pub in_hand : more.in_hand ≡ fewer.in_hand

-- a server's link of the request of this name, which is in hand, is open besides, and all other links are the same
pub record HasHeldMore (name : Name) (fewer more : Needs) : Type 0 where
  pub in_hand : IsOneMore name fewer.in_hand more.in_hand
  pub waiting : more.waiting ≡ fewer.waiting
  pub awaited : more.awaited ≡ fewer.awaited

-- the name of the request that a reply answers
abbrev pub answered_name : Reply → Name
answered_name reply = record { process = reply.process; opener = reply.opener; number = reply.number }

-- the request of these words that a reply answers
abbrev pub request_for : Reply → List ℤ → Request
request_for reply words =
    record { process = reply.process; opener = reply.opener; number = reply.number; words = words }

-- a request that waits at a copy which watches is dropped where that takes over: by its table it is neither the next
-- one of its opener nor a later one
pub record IsDropped (w : World) (request : Request) : Type 0 where
  pub number : ℕ
  pub pair : Pair
  pub k : Which
  pub there : slice_get w.processes number ≡ Some pair
  pub watching : (copy_of k pair).role ≡ Watching
  pub waited : IsAmong request (copy_of k pair).waiting
  pub out : is_waiting (request_standing (copy_of k pair).core.receive request) ≡ false
