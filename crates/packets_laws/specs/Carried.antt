-- What is played, as a post: the world with its letters. On the wires each letter is a parcel.
use Rattle.std.specs.Prelude.{◌≡◌, ◌⊎◌, ℕ, ℤ, true, List, [], ◌∷◌, slice_get, Some}
use Rattle.gd_words.specs.Members.{IsAmong}
use Rattle.tal_tree.specs.declared.site.Site.{Site}
use Rattle.schedule.specs.declared.event.Event.{Event}
use Rattle.change_layout.specs.Changing.{change_of}
use Rattle.checkpoint_image.specs.declared.message.ImageMessage.{ImageMessage}
use Rattle.packet_words.specs.declared.packet.Packet.{Packet}
use Rattle.world_semantics.specs.Messages.{Message, Checkpointing}
use Rattle.world_semantics.specs.World.{World}
use Rattle.computed_changes.specs.Laws.{IsSent}
use Rattle.checkpoint_chains.specs.Chains.{IsNextTo}
use Rattle.letters.specs.Posts.{HasPlayed}
use Rattle.letters.specs.Routes.{Letter}
use Rattle.letters_layout.specs.message_layout.specs.Layout.{Fits}
use Rattle.letters_layout.specs.message_layout.specs.Messages.{NodeMessage, Carrying, Changing, Reporting, Declaring}
use Rattle.letters_layout.specs.message_layout.specs.Reading.{understood}
use Rattle.packet_nets.specs.packet_wires.specs.Parcels.{Parcel}
use Rattle.packet_nets.specs.packet_wires.specs.Play.{Packeted, Underway, underway}
use Rattle.packet_nets.specs.Owing.{HasLoaded, Ties, on_both}

-- Parcels of letters

-- a message goes in this form: itself; or, if it is a checkpoint, as what changed since one that was sent, to which it
-- is the next
abbrev pub IsFormOf : World → Message → NodeMessage → Type 0
IsFormOf w message content =
    (content ≡ Carrying message)
    ⊎ ((before : ImageMessage) × (one : ImageMessage) × (message ≡ Checkpointing one)
    × (content ≡ Changing (change_of before one)) × IsSent w (Checkpointing before) × IsNextTo before one)

-- a parcel is that of a letter, in a world
pub record StandsFor (w : World) (parcel : Parcel) (letter : Letter) : Type 0 where
  pub sender : parcel.sender ≡ letter.sender
  pub receiver : parcel.receiver ≡ letter.receiver
  pub form : IsFormOf w letter.message parcel.content

-- parcels are those of letters, one by one
abbrev pub AllStandFor : World → List Parcel → List Letter → Type 0
AllStandFor w [] [] = Unit {0}
AllStandFor w (parcel ∷ parcels) (letter ∷ letters) = StandsFor w parcel letter × AllStandFor w parcels letters
AllStandFor w _ _ = ⊥

-- each of these parcels is that of one of these letters
abbrev pub WereSent : World → List Parcel → List Letter → Type 0
WereSent w parcels letters =
    (parcel : Parcel) → IsAmong parcel parcels → (letter : Letter) × IsAmong letter letters × StandsFor w parcel letter

-- Runs

-- in the midst of an event: these events do to a post of the same world, where these letters are owed and were sent,
-- what they did; and the wires hold what it owes, in parcels, while these packets are on the buses
pub record IsCarried (events : List Event) (on : List Packet) (s : Underway) (owed sent : List Letter) : Type 0 where
  pub played : HasPlayed s.site events (record { world = s.world; owed = owed; sent = sent })
  pub parcels : List Parcel
  pub posted : List Parcel
  pub stand : AllStandFor s.world parcels owed
  pub were : WereSent s.world posted sent
  pub ties : Ties s.site s.world.stopped s.world.reloads on s.wires parcels posted

-- between events
abbrev pub IsCarriedAtRest : List Event → Packeted → List Letter → List Letter → Type 0
IsCarriedAtRest events s owed sent = IsCarried events (on_both s.wires) (underway s) owed sent

-- What comes

-- a message from x to y is true: one of the world is that of a letter sent there, and so is a checkpoint that comes as
-- what changed; and a processor that is declared down has stopped, or it had, and was loaded again
abbrev pub WasTold : World → List Letter → ℕ → ℕ → NodeMessage → Type 0
WasTold w sent x y (Carrying message) = IsAmong (record { sender = x; receiver = y; message = message }) sent
WasTold w sent x y (Changing change) =
    (letter : Letter) × IsAmong letter sent
    × StandsFor w (record { sender = x; receiver = y; content = Changing change }) letter
WasTold w sent x y (Reporting node silent) = Unit {0}
WasTold w sent x y (Declaring processor) =
    (slice_get w.stopped processor ≡ Some true) ⊎ HasLoaded w.reloads processor

-- the site understands these words, and they are a true message from x to y
abbrev pub WasSentInWords : Site → World → List Letter → ℕ → ℕ → List ℤ → Type 0
WasSentInWords site w sent x y words =
    (message : NodeMessage) × (understood site words ≡ Some message) × Fits site message × WasTold w sent x y message
