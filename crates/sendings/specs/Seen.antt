-- What the messages of the code are in the world of copies. Our own rule, as that world is.
use Rattle.sendings.specs.declared.message.Message.{Message}
use Rattle.sendings.specs.declared.message.Message.TheVariants as message
use Rattle.letters.specs.world_semantics.specs.Messages as messages

-- the message of the world that a message of the code is
abbrev pub message_of : Message → messages.Message
message_of (message.Asking request) = messages.Asking request
message_of (message.Replying reply) = messages.Replying reply
message_of (message.Checkpointing checkpoint) = messages.Checkpointing checkpoint
message_of (message.Taking taken) = messages.Taking taken
