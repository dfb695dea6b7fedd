-- A change of the world that was made, and what it sends posted: the machine's state is what the change makes of it.
use Rattle.std.proofs.Common.{◌≡◌, List, Option, Some, None, ap, subst, ◌∙◌}
use Rattle.world_semantics.specs.Messages.{Sending}
use Rattle.world_semantics.specs.Running.{Done}
use Rattle.machine_states.specs.States.{Settles}
use Rattle.machine_states.specs.declared.effect.Effect.{Effect}
use Rattle.message_wires.specs.Play.{MachineState, after_any, made_by}
use Rattle.world_copies.specs.Told.{sent_in}
use Rattle.pair_machine.specs.Told.{Answers, sent_all, unsent}

settled : (s mid after : MachineState) (answer : Effect) (done : Option Done) → mid ≡ unsent s done
    → Answers (sent_in done) mid answer after
    → Settles (made_by s done) s answer after
settled s mid after answer None same answers = (answers.0, answers.1 ∙ same)
settled s mid after answer (Some done) same answers = (answers.0, answers.1 ∙ ap (sent_all done.sendings) same)

-- after what a step tells was posted, the change is made, and the answer is given to it
pub answered : (s mid after : MachineState) (answer : Effect) {told : Option (List Sending)} (done : Option Done)
    → mid ≡ unsent s done → told ≡ sent_in done
    → Answers told mid answer after → Settles (made_by s done) s answer after
answered s mid after answer done same sends answers =
    settled s mid after answer done same (subst (λ told. Answers told mid answer after) sends answers)

any : (s after : MachineState) (answer : Effect) (done : Option Done) → Settles (made_by s done) s answer after
    → after ≡ after_any s done
any s after answer None settles = settles.1
any s after answer (Some done) settles = settles.1

pub answered-any : (s mid after : MachineState) (answer : Effect) {told : Option (List Sending)} (done : Option Done)
    → mid ≡ unsent s done → told ≡ sent_in done
    → Answers told mid answer after → after ≡ after_any s done
answered-any s mid after answer done same sends answers =
    any s after answer done (answered s mid after answer done same sends answers)
