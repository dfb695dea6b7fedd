-- The routes of nodes, and letters. That a node sends to one copy of a process until it has marked that one's processor
-- is Bartlett's: the system keeps a table of where each process is. That a route is read off the marks is our own form
-- of it.
use Rattle.std.specs.Prelude.{ℕ, ◌==◌, ◌&&◌, ◌||◌, Bool, if◌then◌else◌, List, filter_map, slice_get, Option, Some}
use Rattle.std.specs.Option.{option_map, option_and_then}
use Rattle.world_semantics.specs.tal_tree.specs.declared.site.Site.{Site}
use Rattle.world_semantics.specs.tal_tree.specs.declared.site.Who.{Who}
use Rattle.world_semantics.specs.tal_tree.specs.declared.site.Who.TheVariants as who
use Rattle.world_semantics.specs.plain_semantics.specs.Openers.{openers_of}
use Rattle.world_semantics.specs.World.{Pair, Down, World, terminal_node, has_marked, copy_of, other_of}
use Rattle.world_semantics.specs.Messages.{Message, Asking, Replying, Checkpointing, Taking, Sending}

-- the processor to which a node sends what is for a process: that of the copy that leads, or the other one's once the
-- node has marked that
abbrev pub route_of : List Down → ℕ → Pair → ℕ
route_of downs node pair =
    if has_marked downs node (copy_of pair.led pair).processor then (copy_of (other_of pair.led) pair).processor
    else (copy_of pair.led pair).processor

-- the route of a node to the process of a number, if it is there
abbrev pub route_to : World → ℕ → ℕ → Option ℕ
route_to w node number = option_map (λ pair. route_of w.downs node pair) (slice_get w.processes number)

-- where a node finds an opener: a file by the route to its process, and a terminal at the node of the terminals
abbrev pub home_of : World → ℕ → Who → Option ℕ
home_of w node (who.File number file) = route_to w node number
home_of w node (who.Terminal terminal) = Some terminal_node

-- the processor of the other copy of a process, seen from the node of one of them
abbrev pub other_end : ℕ → Pair → ℕ
other_end node pair = if pair.first.processor == node then pair.second.processor else pair.first.processor

abbrev pub end_of : World → ℕ → ℕ → Option ℕ
end_of w node number = option_map (λ pair. other_end node pair) (slice_get w.processes number)

-- the node to which a node sends a message: a request goes by the route to its process, a reply to where its opener is
-- found, and what is between the two copies of a process to the other one. None where the process or the opener isn't
-- there
abbrev pub receiver_of : Site → World → ℕ → Message → Option ℕ
receiver_of site w node (Asking request) = route_to w node request.process
receiver_of site w node (Replying reply) =
    option_and_then (λ opener. home_of w node opener.who) (slice_get (openers_of site reply.process) reply.opener)
receiver_of site w node (Checkpointing message) = end_of w node message.process
receiver_of site w node (Taking taken) = end_of w node taken.process

-- a message from a node to a node
pub record Letter : Type 0 where
  pub sender : ℕ
  pub receiver : ℕ
  pub message : Message

-- whether a letter is between two nodes
abbrev pub is_between : ℕ → ℕ → Letter → Bool
is_between one other letter =
    (letter.sender == one && letter.receiver == other) || (letter.sender == other && letter.receiver == one)

-- the letter of a sending, by the routes of this world
abbrev pub letter_of : Site → World → Sending → Option Letter
letter_of site w sending =
    option_map (λ receiver. record { sender = sending.node; receiver = receiver; message = sending.message })
    (receiver_of site w sending.node sending.message)

abbrev pub letters_of : Site → World → List Sending → List Letter
letters_of site w sendings = filter_map (letter_of site w) sendings
