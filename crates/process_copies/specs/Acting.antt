-- What an act of one of its copies is for a process, where it runs. The rules are those of the world of copies.
use Rattle.std.specs.Prelude.{◌≡◌, ℕ, Option}
use Rattle.std.specs.Option.{option_map}
use Rattle.world_semantics.specs.declared.which.Which.{Which}
use Rattle.world_semantics.specs.World.{Pair}
use Rattle.world_semantics.specs.Records.{Records}
use Rattle.node_copies.specs.Seen.{step_sendings}
use Rattle.node_copies.specs.declared.step.StepOutcome.{StepOutcome}
use Rattle.process_copies.specs.Seen.{Placed, placed_after, records_after, sent_by}
use Rattle.world_semantics.specs.Running.{Own, Stepped, own_step}

-- the step that is told is this one of the process, or none: what it sends, and the process and the records after it
abbrev pub HasStepped : Option Stepped → StepOutcome → Placed → Placed → Records → Records → Type 0
HasStepped made step before after records now =
    (step_sendings step ≡ sent_by made) × ((after ≡ placed_after before made) × (now ≡ records_after records made))

-- the step of a process that an act of one of its copies is, or none
abbrev pub step_by_act : ℕ → Which → Pair → Records → Option Own → Option Stepped
step_by_act number k pair records own = option_map (own_step number k pair records) own
