-- Messages, and what a change of the world is for.
use Rattle.std.specs.Prelude.{ℕ, List, map}
use Rattle.checkpoint_image.specs.gd_words.specs.declared.message.Request.{Request}
use Rattle.checkpoint_image.specs.gd_words.specs.declared.message.Reply.{Reply}
use Rattle.checkpoint_image.specs.declared.message.ImageMessage.{ImageMessage}
use Rattle.checkpoint_image.specs.declared.message.TakenMessage.{TakenMessage}

-- a message from a node to a node: a request, a reply, a checkpoint, or that a checkpoint was taken
pub data Message : Type 0 where
  Asking : Request → Message
  Replying : Reply → Message
  Checkpointing : ImageMessage → Message
  Taking : TakenMessage → Message

-- a message that is sent, or sent again, at a node
pub record Sending : Type 0 where
  pub node : ℕ
  pub message : Message

abbrev pub sent_at : ℕ → List Message → List Sending
sent_at node messages = map (λ message. record { node = node; message = message }) messages

-- what a change is for: a process runs, a terminal enters, a message is handed over at a node, a processor stops, a
-- node marks a processor, or a processor is loaded again
pub data Cause : Type 0 where
  Running : (number : ℕ) → Cause
  Entering : (terminal : ℕ) → Cause
  Handing : (node : ℕ) → (message : Message) → Cause
  Stopping : (processor : ℕ) → Cause
  MarkingDown : (node : ℕ) → (processor : ℕ) → Cause
  Reloading : (processor : ℕ) → Cause
