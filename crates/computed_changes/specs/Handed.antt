-- What a message does that is handed over at a node, computed: told of the process alone to whose copy it comes, and
-- then of the world in which that stands. What is computed is a change of the world; a message that changes nothing
-- does none.
use Rattle.std.specs.Prelude.{ℕ, ◌==◌, if◌then◌else◌, slice_get, Option, Some, None}
use Rattle.std.specs.Option.{option_map, option_and_then}
use Rattle.tal_tree.specs.gd_words.specs.declared.message.Reply.{Reply}
use Rattle.tal_tree.specs.declared.site.Site.{Site}
use Rattle.tal_tree.specs.declared.site.Who.{Who}
use Rattle.tal_tree.specs.declared.site.Who.TheVariants as who
use Rattle.world_semantics.specs.plain_semantics.specs.Openers.{openers_of}
use Rattle.world_semantics.specs.declared.which.Which.{Which}
use Rattle.world_semantics.specs.declared.which.Which.TheVariants.{First, Second}
use Rattle.world_semantics.specs.World.{Pair, World, terminal_node, copy_of}
use Rattle.world_semantics.specs.Messages.{Message, Asking, Replying, Checkpointing, Taking}
use Rattle.world_semantics.specs.Records.{Records, records_of}
use Rattle.world_semantics.specs.Running.{Done, Stepped, in_world}
use Rattle.computed_changes.specs.Requests.{request_step}
use Rattle.computed_changes.specs.Replies.{reply_step, printed_at}
use Rattle.computed_changes.specs.Checkpoints.{checkpoint_step, taken_step}

-- which copy of a process is in a processor. The two are in two processors, so it is the first one or else the second
abbrev pub copy_in : ℕ → Pair → Option Which
copy_in node pair =
    if pair.first.processor == node then Some First else if pair.second.processor == node then Some Second else None

-- the step that a message makes that comes to one copy of the process of this number; none where it changes nothing
abbrev pub step_by : Site → ℕ → Pair → Records → Message → Which → Option Stepped
step_by site number pair records (Asking request) k = request_step k pair records request (copy_of k pair).role
step_by site number pair records (Replying reply) k = reply_step site number k pair records reply (copy_of k pair).role
step_by site number pair records (Checkpointing message) k =
    checkpoint_step site number k pair records message (copy_of k pair).role
step_by site number pair records (Taking taken) k = taken_step k pair records taken (copy_of k pair).role

-- the step that it makes where it comes to the process at a node; none where no copy is there
abbrev pub step_on : Site → ℕ → ℕ → Pair → Records → Message → Option Stepped
step_on site number node pair records message =
    option_and_then (step_by site number pair records message) (copy_in node pair)

abbrev pub brought_to : Site → ℕ → ℕ → Message → World → Option Pair → Option Done
brought_to site number node message w None = None
brought_to site number node message w (Some pair) =
    option_map (in_world number w) (step_on site number node pair (records_of w) message)

-- the change that a message makes that comes to the process of a number at a node; none where it changes nothing
abbrev pub brought : Site → ℕ → ℕ → Message → World → Option Done
brought site number node message w = brought_to site number node message w (slice_get w.processes number)

-- a reply goes to the copy of a process at the node, or to a terminal at the node that carries the terminals
abbrev pub replied_to : Site → ℕ → Reply → World → Who → Option Done
replied_to site node reply w (who.File number file) = brought site number node (Replying reply) w
replied_to site node reply w (who.Terminal number) = printed_at site number reply w (node == terminal_node)

-- a reply goes to the opener that stands at its place
abbrev pub replied_done : Site → ℕ → Reply → World → Option Who → Option Done
replied_done site node reply w None = None
replied_done site node reply w (Some opener) = replied_to site node reply w opener

-- the change that a message makes where it is handed over at a node; none where it changes nothing
abbrev pub handed_done : Site → ℕ → Message → World → Option Done
handed_done site node (Asking request) w = brought site request.process node (Asking request) w
handed_done site node (Replying reply) w =
    replied_done site node reply w (option_map (λ opener. opener.who)
    (slice_get (openers_of site reply.process) reply.opener))
handed_done site node (Checkpointing message) w = brought site message.process node (Checkpointing message) w
handed_done site node (Taking taken) w = brought site taken.process node (Taking taken) w
