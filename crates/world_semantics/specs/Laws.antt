-- Words for the laws of runs.
use Rattle.std.specs.Prelude.{◌≡◌, ◌≤◌, ℕ, ◌+◌, ◌==◌, ℤ, if◌then◌else◌, true, List, [], ◌∷◌, ◌++◌, slice_get, Some}
use Rattle.std.specs.Prelude.{Bool, ◌<◌, ◌≢◌, ◌⊎◌}
use Rattle.checkpoint_image.specs.gd_words.specs.Members.{IsAmong}
use Rattle.checkpoint_image.specs.gd_words.specs.declared.message.Request.{Request}
use Rattle.checkpoint_image.specs.gd_words.specs.declared.message.Reply.{Reply}
use Rattle.checkpoint_image.specs.tal_tree.specs.declared.site.Site.{Site}
use Rattle.checkpoint_image.specs.tal_tree.specs.declared.site.Who.TheVariants as who
use Rattle.checkpoint_image.specs.tal_tree.specs.declared.site.ProcessSpec.{ProcessSpec}
use Rattle.plain_semantics.specs.process_semantics.specs.declared.point.Point.TheVariants as point
use Rattle.plain_semantics.specs.process_semantics.specs.Process as process
use Rattle.plain_semantics.specs.Openers.{opener_of}
use Rattle.plain_semantics.specs.Machine.{next_request}
use Rattle.checkpoint_image.specs.declared.message.ImageMessage.{ImageMessage}
use Rattle.checkpoint_image.specs.declared.message.TakenMessage.{TakenMessage}
use Rattle.checkpoint_image.specs.declared.receive.RequestStanding.TheVariants.{Kept}
use Rattle.world_semantics.specs.declared.role.Role.TheVariants.{Acting}
use Rattle.checkpoint_image.specs.Receive.{request_standing}
use Rattle.world_semantics.specs.Core.{next_on, put_in, carried_by}
use Rattle.world_semantics.specs.World.{Copy, Pair, Terminal, World, Which, copy_of}
use Rattle.world_semantics.specs.Messages.{Message, Asking, Replying, Checkpointing, Taking}

-- a copy as it is later: its era didn't fall, and neither did the number of its checkpoints while the era stayed
pub record IsLater (before after : Copy) : Type 0 where
  pub era : before.era ≤ after.era
  pub number : before.era ≡ after.era → before.number ≤ after.number

-- a terminal as it is later: it has entered as many requests and printed as many replies
pub record IsLaterTerminal (before after : Terminal) : Type 0 where
  pub entered : before.entered ≤ after.entered
  pub printed : before.printed ≤ after.printed

-- a list that has the newest first only grew: something stands before what was there
abbrev pub HasGrown : {A : Type 0} → List A → List A → Type 0
HasGrown {A} before after = (more : List A) × (after ≡ more ++ before)

-- a process as it is later: the messages that its copies ever sent to each other only grew
pub record IsLaterPair (before after : Pair) : Type 0 where
  pub checkpoints : HasGrown before.checkpoints after.checkpoints
  pub takens : HasGrown before.takens after.takens

-- a message was ever sent
abbrev pub WasSent : World → Message → Type 0
WasSent w (Asking request) = IsAmong request w.requests
WasSent w (Replying reply) = IsAmong reply w.replies
WasSent w (Checkpointing message) =
    (number : ℕ) × (pair : Pair) × (slice_get w.processes number ≡ Some pair) × IsAmong message pair.checkpoints
WasSent w (Taking taken) =
    (number : ℕ) × (pair : Pair) × (slice_get w.processes number ≡ Some pair) × IsAmong taken pair.takens

-- Checkpoints

-- a copy has what it had, and in one era the number of its last checkpoint
pub record HasStayed (before after : Copy) : Type 0 where
  pub core : after.core ≡ before.core
  pub number : after.era ≡ before.era → after.number ≡ before.number

-- a checkpoint is the next one for a copy: of the copy's own era, and of the number next to its own
pub record IsNextFor (copy : Copy) (message : ImageMessage) : Type 0 where
  pub era : message.era ≡ copy.era
  pub number : message.number ≡ copy.number + 1

-- a copy after it applied a checkpoint: it has what that carries put into what it had, and its number
pub record HasApplied (before : Copy) (message : ImageMessage) (after : Copy) : Type 0 where
  pub core : put_in before.core message.image ≡ Some after.core
  pub number : after.number ≡ message.number

-- what a copy that acts has sent was taken: the message names the copy's era and the number of its last checkpoint
pub record Acknowledges (copy : Copy) (taken : TakenMessage) : Type 0 where
  pub acting : copy.role ≡ Acting
  pub sent : copy.sent ≡ true
  pub era : taken.era ≡ copy.era
  pub number : taken.number ≡ copy.number

-- a copy that watches keeps up with the other one: it is of the same era and at most one checkpoint behind, and not
-- behind where the other's last one is acknowledged
pub record KeepsUp (copy other : Copy) : Type 0 where
  pub era : copy.era ≡ other.era
  pub not_past : copy.number ≤ other.number
  pub one_behind : other.number ≤ copy.number + 1
  pub acknowledged : other.acknowledged ≡ true → copy.number ≡ other.number

-- the checkpoint that a copy of a process sent last, of everything or not: it has the copy's era and number, and
-- carries what the copy has
abbrev pub last_checkpoint : Bool → ℕ → Copy → ImageMessage
last_checkpoint everything number copy =
    record { process = number; era = copy.era; number = copy.number; image = carried_by everything copy.core }

-- the checkpoint that a copy of a process sent last is among these: its own, where the copy stands at a checkpoint, or
-- one of everything, where it awaits no reply
pub record HasSentWhatItHas (number : ℕ) (copy : Copy) (sent : List ImageMessage) : Type 0 where
  pub everything : Bool
  pub stands : (process.point copy.core.state ≡ point.AtCheckpoint)
      ⊎ ((everything ≡ true) × (process.point copy.core.state ≢ point.Await))
  pub among : IsAmong (last_checkpoint everything number copy) sent

-- a copy after it took over: it has the core that it had, is in the next era, with checkpoint number 0, stands at the
-- base of its process, and holds nothing
pub record HasTakenOver (base : ℕ) (before after : Copy) : Type 0 where
  pub core : after.core ≡ before.core
  pub era : after.era ≡ before.era + 1
  pub number : after.number ≡ 0
  pub position : after.position ≡ base
  pub held : after.held ≡ []

-- Replies

-- a copy of a process awaits a reply: it acts and stands where a reply to what it asked comes, the file on which it
-- asked is open to the reply's server at the reply's place, and the reply's number is that of the request asked last on
-- this file
pub record Awaits (site : Site) (number : ℕ) (copy : Copy) (reply : Reply) : Type 0 where
  pub acting : copy.role ≡ Acting
  pub stands : process.point copy.core.state ≡ point.Await
  pub file : opener_of site (who.File number (process.asked_file copy.core.state))
      ≡ Some (record { server = reply.process; place = reply.opener })
  pub last : next_on copy.core (process.asked_file copy.core.state) ≡ reply.number + 1

-- a terminal awaits a reply: it is to the terminal's own server and place, and its number is that of the request
-- entered last, which isn't printed yet
pub record AwaitsAt (site : Site) (w : World) (number : ℕ) (reply : Reply) : Type 0 where
  pub terminal : Terminal
  pub there : slice_get w.terminals number ≡ Some terminal
  pub opens : opener_of site (who.Terminal number) ≡ Some (record { server = reply.process; place = reply.opener })
  pub last : reply.number ≡ terminal.entered
  pub unprinted : terminal.entered ≡ terminal.printed + 1

-- Requests

-- a copy of a request's process at a node acts, and keeps a reply of these words to the request
pub record KeepsReplyTo (w : World) (node : ℕ) (request : Request) (words : List ℤ) : Type 0 where
  pub pair : Pair
  pub k : Which
  pub there : slice_get w.processes request.process ≡ Some pair
  pub here : (copy_of k pair).processor ≡ node
  pub acting : (copy_of k pair).role ≡ Acting
  pub kept : request_standing (copy_of k pair).core.receive request ≡ Kept words

-- a request is the next one of a terminal: to its own server and place, numbered next to the one that was entered last,
-- and with the words that come next
pub record IsNextOf (site : Site) (number : ℕ) (terminal : Terminal) (request : Request) : Type 0 where
  pub opens : opener_of site (who.Terminal number) ≡ Some (record { server = request.process; place = request.opener })
  pub next : request.number ≡ terminal.entered + 1
  pub words : next_request site number terminal.entered ≡ Some request.words

-- how many of the waiting requests are of the opener at a place
abbrev pub waiting_of : ℕ → List Request → ℕ
waiting_of opener [] = 0
waiting_of opener (request ∷ waiting) = (if request.opener == opener then 1 else 0) + waiting_of opener waiting

-- each process of a site is in two of its processors
abbrev pub IsPlaced : Site → Type 0
IsPlaced site =
    (number : ℕ) (spec : ProcessSpec) → slice_get site.processes number ≡ Some spec
    → (spec.primary < site.processors) × (spec.backup < site.processors) × (spec.primary ≢ spec.backup)
