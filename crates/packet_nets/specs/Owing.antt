-- What a net owes of the parcels in which letters go: the tie between what was pushed and what is still to be handed
-- over.
use Rattle.std.specs.Prelude.{◌≡◌, ◌≤◌, ◌⊎◌, ◌+◌, ◌==◌, ◌&&◌, ◌||◌, ℕ, ℤ, Bool, true, false, not, List, ◌∷◌, ◌++◌}
use Rattle.std.specs.Prelude.{length, slice_get, Option, Some, None, filter_map, map}
use Rattle.std.specs.List.{filter}
use Rattle.std.specs.Option.{option_and_then}
use Rattle.gd_words.specs.declared.limits.TheConstants.{TERMINAL_NODE}
use Rattle.gd_words.specs.Members.{IsAmong}
use Rattle.tal_tree.specs.declared.site.Site.{Site}
use Rattle.packet_words.specs.declared.packet.Packet.{Packet}
use Rattle.channel_laws.specs.Net.{Net}
use Rattle.world_semantics.specs.World.{is_running}
use Rattle.message_layout.specs.Messages.{NodeMessage, Carrying, Changing, Reporting, Declaring}
use Rattle.message_layout.specs.Layout.{words_of, Fits}
use Rattle.message_layout.specs.Reading.{node_message_in, understood}
use Rattle.packet_wires.specs.Parcels.{Parcel}
use Rattle.packet_wires.specs.Wires.{Wires, Midst, nothing_sent}
use Rattle.packet_nets.specs.Tied.{IsTied, AreWatches}

-- a message between nodes, where it is the content of a letter, in whatever form
abbrev pub content_of : NodeMessage → Option NodeMessage
content_of (Carrying message) = Some (Carrying message)
content_of (Changing change) = Some (Changing change)
content_of (Reporting node silent) = None
content_of (Declaring processor) = None

abbrev pub IsContent : NodeMessage → Type 0
IsContent told = content_of told ≡ Some told

abbrev pub carried_of : List ℤ → Option NodeMessage
carried_of words = option_and_then content_of (node_message_in words)

-- what these words carry of letters, in their order
abbrev pub carried : List (List ℤ) → List NodeMessage
carried pushes = filter_map carried_of pushes

abbrev pub goes : ℕ → ℕ → Parcel → Bool
goes x y parcel = parcel.sender == x && parcel.receiver == y

-- the contents of those parcels that go from x to y, in their order
abbrev pub between : ℕ → ℕ → List Parcel → List NodeMessage
between x y parcels = map (λ parcel. parcel.content) (filter (goes x y) parcels)

-- a parcel and the others of a list, in their order
pub data IsTaken (parcel : Parcel) : List Parcel → List Parcel → Type 0 where
  takes_first : {rest : List Parcel} → IsTaken parcel (parcel ∷ rest) rest
  takes_later : {other : Parcel} {parcels rest : List Parcel} → IsTaken parcel parcels rest
      → IsTaken parcel (other ∷ parcels) (other ∷ rest)

-- whether a parcel is between two nodes
abbrev pub is_between : ℕ → ℕ → Parcel → Bool
is_between one other parcel =
    (parcel.sender == one && parcel.receiver == other) || (parcel.sender == other && parcel.receiver == one)

abbrev pub without_those_between : ℕ → ℕ → List Parcel → List Parcel
without_those_between one other parcels = filter (λ parcel. not (is_between one other parcel)) parcels

-- whether a parcel is from a node or to it
abbrev pub is_from_or_to : ℕ → Parcel → Bool
is_from_or_to node parcel = parcel.sender == node || parcel.receiver == node

abbrev pub without_those_of : ℕ → List Parcel → List Parcel
without_those_of node parcels = filter (λ parcel. not (is_from_or_to node parcel)) parcels

-- a processor was loaded again, where these count how often each was
abbrev pub HasLoaded : List ℕ → ℕ → Type 0
HasLoaded reloads processor = (times : ℕ) × (slice_get reloads processor ≡ Some (times + 1))

-- a message from x to y is true: one that is of a letter is the content of a parcel sent there, and a processor that is
-- declared down has stopped, or was loaded again since
abbrev pub IsTrueOf : List Bool → List ℕ → List Parcel → ℕ → ℕ → NodeMessage → Type 0
IsTrueOf stopped reloads sent x y (Carrying message) =
    IsAmong (record { sender = x; receiver = y; content = Carrying message }) sent
IsTrueOf stopped reloads sent x y (Changing change) =
    IsAmong (record { sender = x; receiver = y; content = Changing change }) sent
IsTrueOf stopped reloads sent x y (Reporting node silent) = Unit {0}
IsTrueOf stopped reloads sent x y (Declaring processor) =
    (slice_get stopped processor ≡ Some true) ⊎ HasLoaded reloads processor

-- these words are those of a true message that fits the site
pub record IsPushed (site : Site) (stopped : List Bool) (reloads : List ℕ) (sent : List Parcel) (x y : ℕ)
    (words : List ℤ) : Type 0 where
  pub message : NodeMessage
  pub is : words ≡ words_of message
  pub fits : Fits site message
  pub right : IsTrueOf stopped reloads sent x y message

-- the site understands these words, and they are a true message from x to y
abbrev pub WasPushed : Site → List Bool → List ℕ → List Parcel → ℕ → ℕ → List ℤ → Type 0
WasPushed site stopped reloads sent x y words =
    (message : NodeMessage) × (understood site words ≡ Some message) × Fits site message
    × IsTrueOf stopped reloads sent x y message

-- the channel from x to y is open: x runs, and neither end was thrown away
pub record IsOpen (stopped : List Bool) (n : Net) (x y : ℕ) : Type 0 where
  pub sender : x ≤ TERMINAL_NODE
  pub receiver : y ≤ TERMINAL_NODE
  pub runs : is_running stopped x ≡ true
  pub there : (n.ends x y).down ≡ false
  pub back : (n.ends y x).down ≡ false

-- whatever was pushed was true and fits the site; and what was pushed into an open channel is what came out of it, and
-- then what is owed there
pub record Owes (site : Site) (stopped : List Bool) (reloads : List ℕ) (owed sent : List Parcel) (n : Net) :
    Type 0 where
  pub pushed : (x y : ℕ) (words : List ℤ) → IsAmong words (n.ways x y).pushes
      → IsPushed site stopped reloads sent x y words
  pub owes : (x y : ℕ) → IsOpen stopped n x y
      → carried (n.ways x y).pushes ≡ carried (n.ways x y).out ++ between x y owed

-- while these packets are on the buses, the wires in the midst of an event hold what these parcels owe, in a world in
-- which these have stopped and were loaded again
pub record Ties (site : Site) (stopped : List Bool) (reloads : List ℕ) (on : List Packet) (midst : Midst)
    (owed sent : List Parcel) : Type 0 where
  pub net : Net
  pub tied : IsTied stopped on midst net
  pub owes : Owes site stopped reloads owed sent net
  pub watches : AreWatches site.processors midst.nodes
  pub places : length stopped ≡ site.processors

-- all that is on the buses
abbrev pub on_both : Wires → List Packet
on_both wires = wires.x ++ wires.y

-- between events, wires hold what these parcels owe
abbrev pub TiesAtRest : Site → List Bool → List ℕ → Wires → List Parcel → List Parcel → Type 0
TiesAtRest site stopped reloads wires owed sent =
    Ties site stopped reloads (on_both wires) (nothing_sent wires.nodes) owed sent
