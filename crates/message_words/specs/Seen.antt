-- What the messages of the code are. Our own rule, as the layout is.
use Rattle.message_layout.specs.world_semantics.specs.Messages as world
use Rattle.message_layout.specs.Messages as messages
use Rattle.message_layout.specs.Messages.{Carrying, Changing, Reporting, Declaring}
use Rattle.message_words.specs.declared.message.NodeMessage.{NodeMessage}
use Rattle.message_words.specs.declared.message.NodeMessage.TheVariants as message

-- the message between nodes that a message of the code is
abbrev pub message_of : NodeMessage → messages.NodeMessage
message_of (message.Asking request) = Carrying (world.Asking request)
message_of (message.Replying reply) = Carrying (world.Replying reply)
message_of (message.Checkpointing message) = Carrying (world.Checkpointing message)
message_of (message.Taking taken) = Carrying (world.Taking taken)
message_of (message.Changing change) = Changing change
message_of (message.Reporting node silent) = Reporting node silent
message_of (message.Declaring processor) = Declaring processor
