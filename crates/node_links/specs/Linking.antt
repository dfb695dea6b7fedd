-- The open links of a node: the links of requesters and of servers in one table, each under its number.
use Rattle.std.specs.Prelude.{◌≡◌, ◌≢◌, ℕ, ℤ, suc, ◌<◌, ◌==◌, ◌&&◌, not, Bool, true, false, List, slice_index_or}
use Rattle.std.specs.Prelude.{slice_set, Option, Some, None, option_map, option_and_then, Result, Ok, Err}
use Rattle.std.specs.Option.{option_map_or}
use Rattle.gd_words.specs.declared.message.Request.{Request}
use Rattle.gd_words.specs.declared.message.Reply.{Reply}
use Rattle.node_links.specs.declared.link.Link.{Link}
use Rattle.node_links.specs.declared.link.Side.{Side}
use Rattle.node_links.specs.declared.link.Side.TheVariants.{Asked, Arrived}
use Rattle.node_links.specs.declared.link.LinkFault.{LinkFault}
use Rattle.node_links.specs.declared.link.LinkFault.TheVariants.{NoSuchLink, NotAnswered}
use Rattle.node_links.specs.declared.link.Wanted.{Wanted}
use Rattle.node_links.specs.declared.link.Wanted.TheVariants.{Unread, Of}

-- for each number the link that is open under it
abbrev pub Table : Type 0
Table = List (Option Link)

-- the open links, and how many were opened so far, those that have ended too
pub record Held : Type 0 where
  pub table : Table
  pub opened : ℕ

-- the link under a number
abbrev pub at : Table → ℕ → Option Link
at table number = slice_index_or table number None

-- Of one link

-- the request of a requester's link
abbrev pub asked_by : Side → Option Request
asked_by (Asked request reply) = Some request
asked_by (Arrived request read) = None

-- the request of a server's link
abbrev pub arrived_by : Side → Option Request
arrived_by (Asked request reply) = None
arrived_by (Arrived request read) = Some request

-- a link with its side changed, which stays as old as it was
abbrev pub with_side : (Side → Side) → Link → Link
with_side change link = record link { side = change link.side }

-- after a reply: a requester's link keeps the first
abbrev pub side_after_reply : List ℤ → Side → Side
side_after_reply words (Asked request None) = Asked request (Some words)
side_after_reply words (Asked request (Some first)) = Asked request (Some first)
side_after_reply words (Arrived request read) = Arrived request read

-- after the server has read it
abbrev pub read : Side → Side
read (Asked request reply) = Asked request reply
read (Arrived request _) = Arrived request true

-- what breaking it gives
abbrev pub reply_of : Side → Result (List ℤ) LinkFault
reply_of (Asked request None) = Err NotAnswered
reply_of (Asked request (Some words)) = Ok words
reply_of (Arrived request read) = Err NoSuchLink

-- the reply to a request
abbrev pub reply_to : List ℤ → Request → Reply
reply_to words request =
    record { process = request.process; opener = request.opener; number = request.number; words = words }

-- a server's link of this process that isn't read yet
abbrev pub is_unread : ℕ → Side → Bool
is_unread process (Asked request reply) = false
is_unread process (Arrived request read) = request.process == process && not read

-- a server's link of the request of this process, opener and number
abbrev pub is_of : ℕ → ℕ → ℕ → Side → Bool
is_of process opener number (Asked request reply) = false
is_of process opener number (Arrived request read) =
    request.process == process && request.opener == opener && request.number == number

-- one of the links that are looked for
abbrev pub is_wanted : Wanted → Side → Bool
is_wanted (Unread process) side = is_unread process side
is_wanted (Of process opener number) side = is_of process opener number side

-- Of the table

-- the request of the requester's link under a number
abbrev pub asked_at : Table → ℕ → Option Request
asked_at table number = option_and_then (λ link. asked_by link.side) (at table number)

-- the request of the server's link under a number
abbrev pub arrived_at : Table → ℕ → Option Request
arrived_at table number = option_and_then (λ link. arrived_by link.side) (at table number)

-- what breaking the link under a number gives
abbrev pub reply_at : Table → ℕ → Result (List ℤ) LinkFault
reply_at table number = option_map_or (λ link. reply_of link.side) (at table number) (Err NoSuchLink)

-- the table with the link under a number changed
abbrev pub changed_at : ℕ → (Side → Side) → Table → Table
changed_at number change table = slice_set table number (option_map (with_side change) (at table number))

-- the table with the link under a number ended
abbrev pub without : ℕ → Table → Table
without number table = slice_set table number None

-- the table changed, and no link opened
abbrev pub with_table : (Table → Table) → Held → Held
with_table change held = record held { table = change held.table }

-- a link was opened under a number that no open link had. It is later than all others, and these stay
pub record Opens (old new : Held) (side : Side) (number : ℕ) : Type 0 where
  pub link : Link
  pub was_free : at old.table number ≡ None
  pub is_open : at new.table number ≡ Some link
  pub has_side : link.side ≡ side
  pub is_latest : (other : ℕ) (before : Link) → at old.table other ≡ Some before → before.opened < link.opened
  pub others_stay : (other : ℕ) → other ≢ number → at new.table other ≡ at old.table other
  pub is_counted : new.opened ≡ suc old.opened

-- of the links that pass, the one under this number was opened before each other
pub record IsOldest (passes : Side → Bool) (table : Table) (number : ℕ) : Type 0 where
  pub link : Link
  pub is_open : at table number ≡ Some link
  pub does_pass : passes link.side ≡ true
  pub is_first : (other : ℕ) (later : Link) → other ≢ number → at table other ≡ Some later → passes later.side ≡ true
      → link.opened < later.opened

-- no open link passes
abbrev pub NonePasses : (Side → Bool) → Table → Type 0
NonePasses passes table = (number : ℕ) (link : Link) → at table number ≡ Some link → passes link.side ≡ false

-- when the links were opened: no two at the same time, and all before the time that comes next
pub record IsTimed (table : Table) (next : ℕ) : Type 0 where
  pub are_past : (number : ℕ) (link : Link) → at table number ≡ Some link → link.opened < next
  pub are_apart : (number other : ℕ) (link second : Link) → at table number ≡ Some link → at table other ≡ Some second
      → link.opened ≡ second.opened → number ≡ other
