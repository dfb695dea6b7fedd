-- The messages that nodes send each other. Requests, replies, checkpoints and their acknowledgements are Bartlett's;
-- reports of silent processors, and that a node tells the others which processor is down, are this project's own, and
-- so is the form of a checkpoint that carries what changed.
use Rattle.std.specs.Prelude.{ℕ, ◌&&◌, not, nat_lt, Bool, length, drop}
use Rattle.std.specs.List.{list_all}
use Rattle.change_layout.specs.tal_tree.specs.declared.site.Site.{Site}
use Rattle.world_semantics.specs.plain_semantics.specs.Openers.{openers_of}
use Rattle.alive_regroup.specs.declared.set.ProcessorSet.{ProcessorSet}
use Rattle.change_layout.specs.declared.message.ChangeMessage.{ChangeMessage}
use Rattle.world_semantics.specs.Messages.{Message, Asking, Replying, Checkpointing, Taking}

-- a node carries a message of the world of copies; a checkpoint as what changed since the one before it; reports the
-- set of processors that are silent to it; or declares a processor down
pub data NodeMessage : Type 0 where
  Carrying : (message : Message) → NodeMessage
  Changing : (change : ChangeMessage) → NodeMessage
  Reporting : (node : ℕ) → (silent : ProcessorSet) → NodeMessage
  Declaring : (processor : ℕ) → NodeMessage

-- What a site has

abbrev pub has_process : Site → ℕ → Bool
has_process site process = nat_lt process (length site.processes)

abbrev pub has_opener : Site → ℕ → ℕ → Bool
has_opener site process opener = has_process site process && nat_lt opener (length (openers_of site process))

-- the node of the terminals is no processor
abbrev pub has_processor : Site → ℕ → Bool
has_processor site processor = nat_lt processor site.processors

-- no processor past the site's is a member
abbrev pub has_members : Site → ProcessorSet → Bool
has_members site set = list_all not (drop site.processors set.members)

-- whether a message of the world names a process, and an opener of it, that the site has
abbrev pub has_named : Site → Message → Bool
has_named site (Asking request) = has_opener site request.process request.opener
has_named site (Replying reply) = has_opener site reply.process reply.opener
has_named site (Checkpointing message) = has_process site message.process
has_named site (Taking taken) = has_process site taken.process

-- whether all that a message names is there at the site
abbrev pub is_known : Site → NodeMessage → Bool
is_known site (Carrying message) = has_named site message
is_known site (Changing change) = has_process site change.process
is_known site (Reporting node silent) = has_processor site node && has_members site silent
is_known site (Declaring processor) = has_processor site processor
