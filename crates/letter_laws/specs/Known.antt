-- What is known of all letters that were sent, and of those who await a reply. Our own rule.
use Rattle.std.specs.Prelude.{◌≡◌, ◌≢◌, ◌≤◌, ◌<◌, ℕ, ◌-◌, ℤ, true, List, length, slice_get, Some}
use Rattle.gd_words.specs.Members.{IsAmong}
use Rattle.gd_words.specs.declared.message.Request.{Request}
use Rattle.tal_tree.specs.declared.site.ProcessSpec.{ProcessSpec}
use Rattle.tal_tree.specs.declared.site.Site.{Site}
use Rattle.tal_tree.specs.declared.site.Who.TheVariants as who
use Rattle.schedule.specs.declared.event.Event.{Event}
use Rattle.process_semantics.specs.declared.point.Point.TheVariants as point
use Rattle.process_semantics.specs.Process as process
use Rattle.plain_semantics.specs.Machine.{next_request}
use Rattle.plain_semantics.specs.Openers.{files_of, opener_of}
use Rattle.world_semantics.specs.checkpoint_image.specs.declared.message.FileNumber.{FileNumber}
use Rattle.world_semantics.specs.checkpoint_image.specs.declared.message.ImageMessage.{ImageMessage}
use Rattle.world_semantics.specs.declared.role.Role.TheVariants.{Acting}
use Rattle.world_semantics.specs.declared.which.Which.{Which}
use Rattle.world_semantics.specs.Core.{next_on}
use Rattle.world_semantics.specs.Follows.{IsRun}
use Rattle.world_semantics.specs.Messages.{Asking}
use Rattle.world_semantics.specs.World.{Pair, Terminal, World, copy_of, other_of, receives}
use Rattle.computed_changes.specs.Laws.{IsSent}
use Rattle.awaited_requests.specs.letters.specs.Again.{awaited_by, awaited_from}
use Rattle.awaited_requests.specs.letters.specs.Posts.{Post}
use Rattle.awaited_requests.specs.letters.specs.Routes.{Letter}

-- Those who await

-- no copy that watches or is blank awaits a reply
abbrev pub WatchersAreCalm : World → Type 0
WatchersAreCalm w =
    (number : ℕ) (pair : Pair) (k : Which) → slice_get w.processes number ≡ Some pair
    → receives (copy_of k pair).role ≡ true
    → process.point (copy_of k pair).core.state ≢ point.Await

-- the request that a terminal entered last is one of its own
abbrev pub TerminalsEnterTheirs : Site → World → Type 0
TerminalsEnterTheirs site w =
    (number : ℕ) (terminal : Terminal) → slice_get w.terminals number ≡ Some terminal → 1 ≤ terminal.entered
    → (words : List ℤ) × (next_request site number (terminal.entered - 1) ≡ Some words)

-- the requests whose replies are awaited were sent: by copies that act, and by terminals
pub record AwaitedWereSent (site : Site) (w : World) : Type 0 where
  pub copies : (number : ℕ) (pair : Pair) (k : Which) (request : Request) → slice_get w.processes number ≡ Some pair
      → (copy_of k pair).role ≡ Acting
      → IsAmong request (awaited_by site number (copy_of k pair).core) → IsAmong request w.requests
  pub terminals : (number : ℕ) (terminal : Terminal) (request : Request) → slice_get w.terminals number ≡ Some terminal
      → IsAmong request (awaited_from site number terminal) → IsAmong request w.requests

-- Checkpoints

-- the files that the checkpoints name which the copies of a process ever sent are the process's
abbrev pub CheckpointsNameFiles : Site → World → Type 0
CheckpointsNameFiles site w =
    (number : ℕ) (pair : Pair) (spec : ProcessSpec) → slice_get w.processes number ≡ Some pair
    → slice_get site.processes number ≡ Some spec
    → (message : ImageMessage) → IsAmong message pair.checkpoints → (named : FileNumber)
    → IsAmong named message.image.files
    → named.file < length (files_of spec.what)

-- Requests that come to copies that watch or are blank

-- a request has its asker: if its opener is a file, then a copy of the file's process acts and has asked it
abbrev pub HasAsker : Site → World → Request → Type 0
HasAsker site w request =
    (number file : ℕ) → opener_of site (who.File number file)
    ≡ Some (record { server = request.process; place = request.opener })
    → (pair : Pair) × (k : Which) × (slice_get w.processes number ≡ Some pair) × ((copy_of k pair).role ≡ Acting)
    × (request.number < next_on (copy_of k pair).core file)

-- a request came early to a copy of its process: the other copy's processor has stopped, and it has its asker
pub record IsEarly (site : Site) (w : World) (k : Which) (request : Request) : Type 0 where
  pub stopped : (pair : Pair) → slice_get w.processes request.process ≡ Some pair
      → slice_get w.stopped (copy_of (other_of k) pair).processor ≡ Some true
  pub asker : HasAsker site w request

-- the requests that were sent to a copy that watches or is blank, and those that wait there, came early
pub record AreEarly (site : Site) (post : Post) : Type 0 where
  pub sent : (letter : Letter) (request : Request) (pair : Pair) (k : Which) → IsAmong letter post.sent
      → letter.message ≡ Asking request
      → slice_get post.world.processes request.process ≡ Some pair → letter.receiver ≡ (copy_of k pair).processor
      → receives (copy_of k pair).role ≡ true
      → IsEarly site post.world k request
  pub waiting : (number : ℕ) (pair : Pair) (k : Which) (request : Request)
      → slice_get post.world.processes number ≡ Some pair → receives (copy_of k pair).role ≡ true
      → IsAmong request (copy_of k pair).waiting → IsEarly site post.world k request

-- All of it

-- a post is honest, however many processors stop: a run reaches its world; all letters that are owed were sent, and all
-- that were sent carry messages that were; no copy that watches or is blank awaits a reply; terminals enter their own
-- requests; what is awaited was sent; and checkpoints name files of their process
pub record IsHonest (site : Site) (post : Post) : Type 0 where
  pub reached : (events : List Event) × IsRun site events post.world
  pub owed : (letter : Letter) → IsAmong letter post.owed → IsAmong letter post.sent
  pub letters : (letter : Letter) → IsAmong letter post.sent → IsSent post.world letter.message
  pub calm : WatchersAreCalm post.world
  pub entered : TerminalsEnterTheirs site post.world
  pub awaited : AwaitedWereSent site post.world
  pub files : CheckpointsNameFiles site post.world

-- all that is known of a post
pub record IsKnown (site : Site) (post : Post) : Type 0 where
  pub honest : IsHonest site post
  pub early : AreEarly site post
