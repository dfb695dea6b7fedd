-- What is so of each world that a run reaches: its kept acts are booked in a ledger, and each process stands to its
-- deeds there as its copies may.
use Rattle.std.specs.Prelude.{◌≡◌, ◌≢◌, ◌≤◌, ℕ, ◌+◌, true, false, List, [], ◌∷◌, ◌++◌, length, slice_get, Some}
use Rattle.gd_words.specs.Members.{IsAmong}
use Rattle.gd_words.specs.declared.message.Request.{Request}
use Rattle.gd_words.specs.declared.message.Reply.{Reply}
use Rattle.tal_tree.specs.declared.act.Act.{Act}
use Rattle.tal_tree.specs.declared.site.Site.{Site}
use Rattle.tal_tree.specs.declared.site.ProcessSpec.{ProcessSpec}
use Rattle.tal_tree.specs.declared.site.Who.{Who}
use Rattle.process_semantics.specs.declared.point.Point.TheVariants as point
use Rattle.process_semantics.specs.Process as process
use Rattle.world_semantics.specs.plain_semantics.specs.Openers.{opener_of}
use Rattle.world_semantics.specs.checkpoint_image.specs.declared.message.ImageMessage.{ImageMessage}
use Rattle.world_semantics.specs.checkpoint_image.specs.declared.message.TakenMessage.{TakenMessage}
use Rattle.world_semantics.specs.declared.role.Role.TheVariants.{Watching, Gone, Acting, Blank}
use Rattle.world_semantics.specs.Core.{Deed, Checkpointed, Took, carried_image, carried_whole}
use Rattle.world_semantics.specs.declared.which.Which.{Which}
use Rattle.world_semantics.specs.World.{Copy, Pair, Terminal, World, copy_of, receives}
use Rattle.plain_histories.specs.process_histories.specs.Devices.{sectors_after}
use Rattle.plain_histories.specs.process_histories.specs.Histories.{HasDone}
use Rattle.plain_histories.specs.Booking.{AreBooked, AreHeld}
use Rattle.plain_histories.specs.Ledgers.{Ledger, requests_of, answered_of}
use Rattle.plain_histories.specs.Slots.{IsEntry}

-- Deeds since a checkpoint was applied

-- a deed that a copy which took over may have to do anew: neither a checkpoint nor a take
abbrev pub IsRepeatable : Deed → Type 0
IsRepeatable Checkpointed = ⊥
IsRepeatable (Took place words) = ⊥
IsRepeatable _ = Unit {0}

abbrev pub AreRepeatable : List Deed → Type 0
AreRepeatable [] = Unit {0}
AreRepeatable (deed ∷ deeds) = IsRepeatable deed × AreRepeatable deeds

-- The copy that leads: it acted last, or it took over

-- how far it is with the kept deeds of its process: level with them; still at a checkpoint that is kept already, since
-- the other copy applied its checkpoint; or behind, where it does anew what a lost copy did
pub data Stage : Type 0 where
  Level : Stage
  Applied : Stage
  Behind : Stage

-- a copy that leads stands at a stage to the kept deeds of its process. What it did beyond them it holds, and where it
-- awaits a reply it has sent nothing
pub data IsLead (site : Site) (ledger : Ledger) (number : ℕ) (spec : ProcessSpec) (deeds : List Deed) (copy : Copy) :
    Stage → Type 0 where
  is_level : {held : List Act} {more : List Deed} → copy.held ≡ held → AreHeld site ledger number held more
      → copy.position ≡ length deeds
      → HasDone site number spec (more ++ deeds) copy.core
      → (copy.sent ≡ true → process.point copy.core.state ≢ point.Await)
      → IsLead site ledger number spec deeds copy Level
  is_applied : (before : List Deed) → copy.held ≡ [] → deeds ≡ Checkpointed ∷ before → copy.position ≡ length before
      → HasDone site number spec before copy.core
      → IsLead site ledger number spec deeds copy Applied
  is_behind : (since : List Deed) (next : Deed) (before : List Deed) → copy.held ≡ [] → deeds ≡ since ++ next ∷ before
      → IsRepeatable next
      → AreRepeatable since → copy.position ≡ length before → HasDone site number spec before copy.core
      → (copy.sent ≡ true → process.point copy.core.state ≢ point.Await)
      → IsLead site ledger number spec deeds copy Behind

-- The other copy

-- the second copy of a process watches: it has what the process had at the base, since which no checkpoint and no take
-- are kept, and in the copies' era no checkpoint of a later number than the first copy's, nor any message that one of a
-- later number than its own was taken, was ever sent
pub record Watches (site : Site) (number : ℕ) (spec : ProcessSpec) (deeds : List Deed) (pair : Pair) : Type 0 where
  pub since : List Deed
  pub before : List Deed
  pub split : deeds ≡ since ++ before
  pub repeatable : AreRepeatable since
  pub base : pair.base ≡ length before
  pub done : HasDone site number spec before pair.second.core
  pub role : pair.second.role ≡ Watching
  pub unsent : pair.second.sent ≡ false
  pub era : pair.second.era ≡ pair.first.era
  pub checkpoints : (message : ImageMessage) → IsAmong message pair.checkpoints → message.era ≡ pair.first.era
      → message.number ≤ pair.first.number
  pub takens : (taken : TakenMessage) → IsAmong taken pair.takens → taken.era ≡ pair.first.era
      → taken.number ≤ pair.second.number

-- the second copy of a process is blank: the first one acts and has to send everything, and in the copies' era at most
-- a checkpoint of everything that it has was sent
pub record IsBlank (site : Site) (number : ℕ) (spec : ProcessSpec) (pair : Pair) : Type 0 where
  pub role : pair.second.role ≡ Blank
  pub acting : pair.first.role ≡ Acting
  pub renewal : pair.first.renewal ≡ true
  pub told : pair.first.acknowledged ≡ false
  pub begun : HasDone site number spec [] pair.second.core
  pub unsent : pair.second.sent ≡ false
  pub era : pair.second.era ≡ pair.first.era
  pub even : pair.first.sent ≡ false → pair.first.number ≡ pair.second.number
  pub ahead : pair.first.sent ≡ true → pair.first.number ≡ pair.second.number + 1
  pub checkpoints : (message : ImageMessage) → IsAmong message pair.checkpoints → message.era ≡ pair.first.era
      → message.number ≤ pair.first.number
  pub image : pair.first.sent ≡ true → (message : ImageMessage) → IsAmong message pair.checkpoints
      → message.era ≡ pair.first.era → message.number ≡ pair.first.number
      → message.image ≡ carried_whole pair.first.core
  pub takens : (taken : TakenMessage) → IsAmong taken pair.takens → taken.era ≡ pair.first.era
      → taken.number ≤ pair.second.number

-- how the second copy stands to the first one, which leads: it is gone; it is blank; a checkpoint of what the first one
-- has may be on its way; none is; it applied that of the one at which the first one still stands; or it applied one of
-- everything, sent at another point, at which the first one still stands
pub data IsOther (site : Site) (number : ℕ) (spec : ProcessSpec) (deeds : List Deed) (pair : Pair) : Stage
    → Type 0 where
  is_lost : {stage : Stage} → pair.second.role ≡ Gone → IsOther site number spec deeds pair stage
  is_blank : {stage : Stage} → IsBlank site number spec pair → IsOther site number spec deeds pair stage
  is_due : Watches site number spec deeds pair → pair.first.sent ≡ true → pair.first.acknowledged ≡ false
      → pair.first.number ≡ pair.second.number + 1
      → process.point pair.first.core.state ≡ point.AtCheckpoint
      → ((message : ImageMessage) → IsAmong message pair.checkpoints → message.era ≡ pair.first.era
      → message.number ≡ pair.first.number
      → message.image ≡ carried_image pair.first.core)
      → IsOther site number spec deeds pair Level
  is_even : {stage : Stage} → stage ≢ Applied → Watches site number spec deeds pair
      → pair.first.number ≡ pair.second.number → pair.first.sent ≡ false
      → pair.first.acknowledged ≡ false → pair.first.renewal ≡ false → IsOther site number spec deeds pair stage
  has_applied : Watches site number spec deeds pair → pair.first.number ≡ pair.second.number → pair.first.sent ≡ true
      → (pair.first.acknowledged ≡ true → pair.first.renewal ≡ false) → IsOther site number spec deeds pair Applied
  has_renewed : {stage : Stage} → stage ≢ Applied → process.point pair.first.core.state ≢ point.AtCheckpoint
      → Watches site number spec deeds pair
      → pair.first.number ≡ pair.second.number → pair.first.sent ≡ true
      → (pair.first.acknowledged ≡ true → pair.first.renewal ≡ false)
      → IsOther site number spec deeds pair stage

-- no message is of a later era than the first copy's
pub record IsDated (pair : Pair) : Type 0 where
  pub other : pair.second.era ≤ pair.first.era
  pub checkpoints : (message : ImageMessage) → IsAmong message pair.checkpoints → message.era ≤ pair.first.era
  pub takens : (taken : TakenMessage) → IsAmong taken pair.takens → taken.era ≤ pair.first.era

-- the first copy of a process leads, and the other one stands to it
pub data FirstLeads (site : Site) (ledger : Ledger) (number : ℕ) (spec : ProcessSpec) (deeds : List Deed)
    (pair : Pair) : Type 0 where
  with_other : {stage : Stage} → receives pair.first.role ≡ false
      → IsLead site ledger number spec deeds pair.first stage
      → IsOther site number spec deeds pair stage → IsDated pair → FirstLeads site ledger number spec deeds pair

-- a process with its copies exchanged
abbrev pub exchanged : Pair → Pair
exchanged pair = record pair { first = pair.second; second = pair.first }

-- one of the two copies leads, whichever it is
pub data IsLed (site : Site) (ledger : Ledger) (number : ℕ) (spec : ProcessSpec) (deeds : List Deed) (pair : Pair) :
    Type 0 where
  by_first : FirstLeads site ledger number spec deeds pair → IsLed site ledger number spec deeds pair
  by_second : FirstLeads site ledger number spec deeds (exchanged pair) → IsLed site ledger number spec deeds pair

-- Messages

-- a request is an entry of its opener's requests
abbrev pub IsAsked : Site → Ledger → Request → Type 0
IsAsked site ledger request =
    (one : Who) × (opener_of site one ≡ Some (record { server = request.process; place = request.opener }))
    × IsEntry request.number request.words (requests_of ledger one)

-- a reply is an entry of what its process answered to the opener
abbrev pub IsAnswered : Ledger → Reply → Type 0
IsAnswered ledger reply =
    IsEntry reply.number reply.words (answered_of ledger (record { server = reply.process; place = reply.opener }))

-- Worlds

-- a process is led by one of its copies, its device has what its deeds left there, all that waits is to it and was
-- asked, and its deeds with the held acts are no more than the events
pub record IsSound (site : Site) (ledger : Ledger) (events number : ℕ) (spec : ProcessSpec) (pair : Pair) : Type 0 where
  pub led : IsLed site ledger number spec (ledger.deeds number) pair
  pub sectors : pair.sectors ≡ sectors_after spec.what (ledger.deeds number)
  pub waiting : (k : Which) (request : Request) → IsAmong request (copy_of k pair).waiting
      → (request.process ≡ number) × IsAsked site ledger request
  pub count : length pair.first.held + length pair.second.held + length (ledger.deeds number) ≤ events

-- a terminal has entered and printed as often as the ledger says
pub record IsSoundTerminal (ledger : Ledger) (number : ℕ) (terminal : Terminal) : Type 0 where
  pub entered : terminal.entered ≡ length (ledger.entered number)
  pub printed : terminal.printed ≡ length (ledger.printed number)

-- after so many events the kept acts are booked with what was shown, and processes, messages and terminals are as the
-- ledger says
pub record Invariant (site : Site) (events : ℕ) (w : World) : Type 0 where
  pub ledger : Ledger
  pub booked : AreBooked site w.kept w.shown ledger
  pub processes : (number : ℕ) (pair : Pair) → slice_get w.processes number ≡ Some pair
      → (spec : ProcessSpec) × (slice_get site.processes number ≡ Some spec)
      × IsSound site ledger events number spec pair
  pub requests : (request : Request) → IsAmong request w.requests → IsAsked site ledger request
  pub replies : (reply : Reply) → IsAmong reply w.replies → IsAnswered ledger reply
  pub terminals : (number : ℕ) (terminal : Terminal) → slice_get w.terminals number ≡ Some terminal
      → IsSoundTerminal ledger number terminal
