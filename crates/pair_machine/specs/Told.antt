-- What becomes of the machine where something is done: first of the world, and then of the wires, to which what it
-- sends is posted. Our own rule.
use Rattle.std.specs.Prelude.{List, Option}
use Rattle.world_semantics.specs.Messages.{Sending}
use Rattle.message_wires.specs.letters.specs.Routes.{letters_of}
use Rattle.machine_states.specs.Answered.{AnswersBy}
pub use Rattle.machine_states.specs.Answered.{unsent}
use Rattle.machine_states.specs.declared.effect.Effect.{Effect}
use Rattle.message_wires.specs.Play.{MachineState}
use Rattle.message_wires.specs.Wires.{wires_after_posts}

-- the state after these messages were sent, by its routes
abbrev pub sent_all : List Sending → MachineState → MachineState
sent_all sendings s = record s { wires = wires_after_posts (letters_of s.site s.world sendings) s.wires }

-- the answer where nothing was done, and where something was done that sends this, and the state after that was posted
abbrev pub Answers : Option (List Sending) → MachineState → Effect → MachineState → Type 0
Answers = AnswersBy sent_all
