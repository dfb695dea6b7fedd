-- The wires of the machine over whole messages: the packets on its bus, each a whole letter, and the letters that are
-- owed. That a message stays with its sender until it was handed over, and is put on the bus again, is Bartlett's retry
-- by the message system; the form for whole messages is our own.
use Rattle.std.specs.Prelude.{ℕ, ◌+◌, ◌==◌, ◌&&◌, Bool, not, if◌then◌else◌, nat_lt, List, [], ◌∷◌, ◌++◌, length}
use Rattle.std.specs.Prelude.{nat_le, replicate, slice_get, slice_set}
use Rattle.std.specs.Option.{unwrap_or}
use Rattle.std.specs.List.{filter, list_any, remove}
use Rattle.computed_changes.specs.world_semantics.specs.World.{is_running}
use Rattle.letters.specs.Posts.{is_from_or_to}
use Rattle.letters.specs.Routes.{Letter, is_between}
use Rattle.tal_tree.specs.gd_words.specs.declared.limits.TheConstants.{MOST_PACKETS}

-- a letter that was sent, with the number of its sending: a message that is sent again is a new sending
pub record Sent : Type 0 where
  pub number : ℕ
  pub letter : Letter

-- how many letters were sent; the packets on the bus, in order; the letters that are owed, the oldest first: those
-- that weren't handed over; and of each processor how many letters were sent before it was loaded last
pub record Wires : Type 0 where
  pub count : ℕ
  pub bus : List Sent
  pub owed : List Sent
  pub before : List ℕ

-- at the beginning nothing was sent, with so many processors
abbrev pub wires_at_boot : ℕ → Wires
wires_at_boot processors = record { count = 0; bus = []; owed = []; before = replicate processors 0 }

-- a bus has room for 4,096 packets
abbrev pub has_room : List Sent → Bool
has_room bus = nat_lt (length bus) MOST_PACKETS

-- a packet goes to the end of the bus, and is lost where there is no room
abbrev pub put_on : Sent → List Sent → List Sent
put_on packet bus = if has_room bus then bus ++ packet ∷ [] else bus

-- a letter is sent: it is owed, and a packet of it goes to the bus
abbrev pub wires_after_post : Letter → Wires → Wires
wires_after_post letter wires = record {
  count = wires.count + 1;
  bus = put_on (record { number = wires.count; letter = letter }) wires.bus;
  owed = wires.owed ++ record { number = wires.count; letter = letter } ∷ [];
  before = wires.before;
}

abbrev pub wires_after_posts : List Letter → Wires → Wires
wires_after_posts [] wires = wires
wires_after_posts (letter ∷ letters) wires = wires_after_posts letters (wires_after_post letter wires)

-- whether a letter is of this sending
abbrev pub is_sending : ℕ → Sent → Bool
is_sending number one = one.number == number

-- a letter is owed no more
abbrev pub without_number : ℕ → List Sent → List Sent
without_number number [] = []
without_number number (one ∷ rest) = if is_sending number one then rest else one ∷ without_number number rest

abbrev pub paid : ℕ → Wires → Wires
paid number wires = record wires { owed = without_number number wires.owed }

-- what is between two nodes is owed no more
abbrev pub paid_between : ℕ → ℕ → Wires → Wires
paid_between one other wires =
    record wires { owed = filter (λ sent. not (is_between one other sent.letter)) wires.owed }

-- how many letters were sent before a node was loaded last
abbrev pub count_before : List ℕ → ℕ → ℕ
count_before before node = unwrap_or (slice_get before node) 0

-- whether a letter was sent since its sender and its receiver were loaded last
abbrev pub is_current : List ℕ → Sent → Bool
is_current before one =
    nat_le (count_before before one.letter.sender) one.number
    && nat_le (count_before before one.letter.receiver) one.number

-- a processor is loaded again: what is from it or to it is owed no more, and what of that is on the bus counts as old
abbrev pub wires_after_reload : ℕ → Wires → Wires
wires_after_reload processor wires =
    record wires {
      owed = filter (λ sent. not (is_from_or_to processor sent.letter)) wires.owed;
      before = slice_set wires.before processor wires.count;
    }

-- the packet at a position is taken off the bus
abbrev pub without_packet : ℕ → Wires → Wires
without_packet k wires = record wires { bus = remove wires.bus k }

-- a packet is on the bus once more
abbrev pub repeated_packet : Sent → Wires → Wires
repeated_packet packet wires = record wires { bus = put_on packet wires.bus }

-- whether a packet of a sending is on the bus
abbrev pub is_on : List Sent → ℕ → Bool
is_on bus number = list_any (is_sending number) bus

-- whether a letter that is owed is put on the bus again at a tick of a node: the node sent it, its receiver runs, and
-- no packet of it is on the bus
abbrev pub is_due : List Bool → ℕ → List Sent → Sent → Bool
is_due stopped node bus one =
    one.letter.sender == node && (is_running stopped one.letter.receiver && not (is_on bus one.number))

-- the bus after those of these letters that are due were put on it again, the oldest first
abbrev pub put_again : List Bool → ℕ → List Sent → List Sent → List Sent
put_again stopped node [] bus = bus
put_again stopped node (one ∷ rest) bus =
    put_again stopped node rest (if is_due stopped node bus one then put_on one bus else bus)

abbrev pub wires_again : List Bool → ℕ → Wires → Wires
wires_again stopped node wires = record wires { bus = put_again stopped node wires.owed wires.bus }
