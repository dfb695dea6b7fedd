-- Which links are open at a node: LINK and LISTEN, READLINK and WRITELINK of the Guardian message system. That they
-- stand for what copies and terminals of the node have to do is our own rule.
use Rattle.std.specs.Prelude.{◌≡◌, ◌⊎◌, ℕ, Option, Some}
use Rattle.gd_words.specs.declared.message.Request.{Request}
use Rattle.gd_words.specs.Members.{IsAmong}
use Rattle.node_links.specs.Linking.{Table, arrived_at, asked_at}
use Rattle.standing_links.specs.Needs.{Needs, name_of}

-- of the links that have requests, the one under this number has this request, and no other one has it
pub record IsTheOnly (requests : ℕ → Option Request) (request : Request) (number : ℕ) : Type 0 where
  pub is_there : requests number ≡ Some request
  pub is_alone : (other : ℕ) → requests other ≡ Some request → other ≡ number

-- the server's link under this number has a request of the same process, opener and number, and no other one has
pub record IsTheOnlyNamed (table : Table) (request : Request) (number : ℕ) : Type 0 where
  pub one : Request
  pub is_there : arrived_at table number ≡ Some one
  pub is_named : name_of one ≡ name_of request
  pub is_alone : (other : ℕ) (later : Request) → arrived_at table other ≡ Some later
      → name_of later ≡ name_of request
      → other ≡ number

-- exactly one of them has this request
abbrev pub HasOne : (ℕ → Option Request) → Request → Type 0
HasOne requests request = (number : ℕ) × IsTheOnly requests request number

-- the links of a node stand for these needs. Each request that waits has exactly one server's link, and each other
-- server's link is of a request in hand. Each request that is awaited has exactly one requester's link, and there are
-- no other ones
pub record StandFor (needs : Needs) (table : Table) : Type 0 where
  pub waiting_have_one : (request : Request) → IsAmong request needs.waiting → HasOne (arrived_at table) request
  pub others_are_in_hand : (number : ℕ) (request : Request) → arrived_at table number ≡ Some request
      → IsAmong request needs.waiting ⊎ IsAmong (name_of request) needs.in_hand
  pub awaited_have_one : (request : Request) → IsAmong request needs.awaited → HasOne (asked_at table) request
  pub others_are_none : (number : ℕ) (request : Request) → asked_at table number ≡ Some request
      → IsAmong request needs.awaited
