-- What a machine answers where something is done: first its world changes, and then what that sends goes to its wires.
-- Our own form.
use Rattle.std.specs.Prelude.{◌≡◌, List, Option, Some, None}
use Rattle.world_semantics.specs.Messages.{Sending}
use Rattle.world_semantics.specs.Running.{Done, world_after}
use Rattle.machine_states.specs.States.{State}
use Rattle.machine_states.specs.declared.effect.Effect.{Effect}
use Rattle.machine_states.specs.declared.effect.Effect.TheVariants as effect

-- the state after a change of its world, if one is made, where what that sends isn't posted yet
abbrev pub unsent : {Wires : Type 0} → State Wires → Option Done → State Wires
unsent s done = record s { world = world_after s.world done }

-- the answer where nothing was done, and where something was done that sends this, and the state after the machine has
-- sent it
abbrev pub AnswersBy : {Wires : Type 0} → (List Sending → State Wires → State Wires) → Option (List Sending)
    → State Wires → Effect → State Wires → Type 0
AnswersBy send None before answer after = (answer ≡ effect.Skipped) × (after ≡ before)
AnswersBy send (Some sendings) before answer after = (answer ≡ effect.Done) × (after ≡ send sendings before)
