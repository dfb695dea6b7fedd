-- The checkpoints of a process as a chain, and how copies stand to it. That the other copy has what the last checkpoint
-- brought is Bartlett's; numbers are our own.
use Rattle.std.specs.Prelude.{◌≡◌, ◌⊎◌, ◌<◌, ℕ, ◌+◌, Bool, true, false, List, [], ◌∷◌, slice_get, Some}
use Rattle.gd_words.specs.Members.{IsAmong}
use Rattle.tal_tree.specs.declared.site.Site.{Site}
use Rattle.receive_changes.specs.Later.{ComesTo}
use Rattle.checkpoint_image.specs.declared.message.ImageMessage.{ImageMessage}
use Rattle.checkpoint_image.specs.declared.receive.ReceiveBlock.{ReceiveBlock}
use Rattle.letter_laws.specs.computed_changes.specs.Fitting.{depths_of}
use Rattle.world_semantics.specs.declared.role.Role.{Role}
use Rattle.world_semantics.specs.declared.role.Role.TheVariants.{Acting}
use Rattle.world_semantics.specs.World.{Copy, Down, Pair, World, has_marked, receives}

-- a checkpoint is the next one to another of its process and its era
pub record IsNextTo (before message : ImageMessage) : Type 0 where
  pub process : message.process ≡ before.process
  pub era : message.era ≡ before.era
  pub number : message.number ≡ before.number + 1

-- a checkpoint follows older ones: it is of the era of the newest of them and has the number next to that one's, of
-- whose receive table its own comes by taking and answering; or it has number 1, in a later era or as the first of all
abbrev pub FollowsOn : List ℕ → ImageMessage → List ImageMessage → Type 0
FollowsOn depths message [] = message.number ≡ 1
FollowsOn depths message (before ∷ older) =
    ((message.era ≡ before.era) × (message.number ≡ before.number + 1)
    × ComesTo depths before.image.receive message.image.receive)
    ⊎ ((before.era < message.era) × (message.number ≡ 1))

-- checkpoints, the newest first, of which each follows those that are older
abbrev pub IsChain : List ℕ → List ImageMessage → Type 0
IsChain depths [] = Unit {0}
IsChain depths (message ∷ older) = FollowsOn depths message older × IsChain depths older

-- an era, a number and a table go on from the newest checkpoint: they are its era, its number and what comes of its
-- table; or the number is 0, in a later era or where there is none
abbrev pub GoesOnFrom : List ℕ → List ImageMessage → ℕ → ℕ → ReceiveBlock → Type 0
GoesOnFrom depths [] era number table = number ≡ 0
GoesOnFrom depths (message ∷ older) era number table =
    ((era ≡ message.era) × (number ≡ message.number) × ComesTo depths message.image.receive table)
    ⊎ ((message.era < era) × (number ≡ 0))

-- an era, a number and a table are those of one of these checkpoints
abbrev pub IsOfOne : List ImageMessage → ℕ → ℕ → ReceiveBlock → Type 0
IsOfOne sent era number table =
    (message : ImageMessage) × IsAmong message sent × (message.era ≡ era) × (message.number ≡ number)
    × (message.image.receive ≡ table)

-- a copy of this role, era, number and table, whose node has marked the other copy's processor or not, stands to the
-- checkpoints that were sent: where it acts and may send, it goes on from the newest one; and where it watches or is
-- blank, and has applied one in its era, it has the table of that
pub record StandsTo (depths : List ℕ) (sent : List ImageMessage) (is_marked : Bool) (role : Role) (era number : ℕ)
    (table : ReceiveBlock) : Type 0 where
  pub acts : role ≡ Acting → is_marked ≡ false → GoesOnFrom depths sent era number table
  pub watches : receives role ≡ true → (number ≡ 0) ⊎ IsOfOne sent era number table

abbrev pub CopyStandsTo : List ℕ → List ImageMessage → List Down → Copy → Copy → Type 0
CopyStandsTo depths sent downs copy other =
    StandsTo depths sent (has_marked downs copy.processor other.processor) copy.role copy.era copy.number
    copy.core.receive

-- the checkpoints of a process are a chain, and both copies stand to them
abbrev pub IsChained : List ℕ → List Down → Pair → Type 0
IsChained depths downs pair =
    IsChain depths pair.checkpoints
    × (CopyStandsTo depths pair.checkpoints downs pair.first pair.second
    × CopyStandsTo depths pair.checkpoints downs pair.second pair.first)

abbrev pub AllChained : Site → World → Type 0
AllChained site w =
    (number : ℕ) (pair : Pair) → slice_get w.processes number ≡ Some pair
    → IsChained (depths_of site number) w.downs pair

-- a checkpoint is the last one that its process has sent
pub record IsNewest (w : World) (message : ImageMessage) : Type 0 where
  pub pair : Pair
  pub older : List ImageMessage
  pub there : slice_get w.processes message.process ≡ Some pair
  pub first : pair.checkpoints ≡ message ∷ older
