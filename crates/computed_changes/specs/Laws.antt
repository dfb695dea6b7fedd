-- Words for the laws of computed changes: what they need of a site and of the message that comes.
use Rattle.std.specs.Prelude.{◌≡◌, ◌≢◌, ◌<◌, ℕ, true, length, slice_get, Some}
use Rattle.std.specs.Option.{option_map}
use Rattle.tal_tree.specs.gd_words.specs.Members.{IsAmong}
use Rattle.tal_tree.specs.gd_words.specs.declared.message.Reply.{Reply}
use Rattle.tal_tree.specs.declared.site.Site.{Site}
use Rattle.tal_tree.specs.declared.site.ProcessSpec.{ProcessSpec}
use Rattle.tal_tree.specs.declared.site.Who.{Who}
use Rattle.world_semantics.specs.plain_semantics.specs.Openers.{openers_of}
use Rattle.world_semantics.specs.declared.which.Which.{Which}
use Rattle.world_semantics.specs.World.{Pair, World, copy_of}
use Rattle.world_semantics.specs.Messages.{Message, Asking, Replying, Checkpointing, Taking}
use Rattle.computed_changes.specs.Fitting.{depths_of, fits}
use Rattle.computed_changes.specs.Handed.{copy_in}

-- each process of a site has its two copies in two processors
abbrev pub HasCopiesApart : Site → Type 0
HasCopiesApart site =
    (number : ℕ) (spec : ProcessSpec) → slice_get site.processes number ≡ Some spec → spec.primary ≢ spec.backup

-- a process has this copy at a node
pub record IsCopyAt (w : World) (node number : ℕ) (k : Which) (pair : Pair) : Type 0 where
  pub there : slice_get w.processes number ≡ Some pair
  pub here : copy_in node pair ≡ Some k

-- a request that comes to the process of this number names one of its openers
abbrev pub NamesOpener : Site → ℕ → Message → Type 0
NamesOpener site number (Asking request) = request.opener < length (openers_of site number)
NamesOpener site number (Replying reply) = Unit {0}
NamesOpener site number (Checkpointing message) = Unit {0}
NamesOpener site number (Taking taken) = Unit {0}

-- a reply goes to this opener
abbrev pub GoesTo : Site → Reply → Who → Type 0
GoesTo site reply one =
    option_map (λ opener. opener.who) (slice_get (openers_of site reply.process) reply.opener) ≡ Some one

-- a message was sent, and what copies send each other by copies of the process that it names
abbrev pub IsSent : World → Message → Type 0
IsSent w (Asking request) = IsAmong request w.requests
IsSent w (Replying reply) = IsAmong reply w.replies
IsSent w (Checkpointing message) =
    (pair : Pair) × (slice_get w.processes message.process ≡ Some pair) × IsAmong message pair.checkpoints
IsSent w (Taking taken) = (pair : Pair) × (slice_get w.processes taken.process ≡ Some pair) × IsAmong taken pair.takens

-- what a checkpoint carries fits the copy at the node where it comes; any other message fits
abbrev pub FitsWhereItComes : Site → World → ℕ → Message → Type 0
FitsWhereItComes site w node (Checkpointing message) =
    (pair : Pair) (k : Which) → slice_get w.processes message.process ≡ Some pair → (copy_of k pair).processor ≡ node
    → fits (depths_of site message.process) (copy_of k pair).core message.image ≡ true
FitsWhereItComes site w node (Asking request) = Unit {0}
FitsWhereItComes site w node (Replying reply) = Unit {0}
FitsWhereItComes site w node (Taking taken) = Unit {0}
