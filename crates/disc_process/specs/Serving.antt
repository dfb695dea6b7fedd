-- What a disc process is: a disc of so many sectors in a state, and the state at each phase.
use Rattle.std.specs.Prelude.{ℕ, Some, None}
use Rattle.process_semantics.specs.declared.disc.DiscState.{DiscState}
use Rattle.process_semantics.specs.declared.point.Point.TheVariants as point
use Rattle.disc_process.specs.declared.phase.Phase.{Phase}
use Rattle.disc_process.specs.declared.phase.Phase.TheVariants.{Idle, Checkpointing, Acting, Answering}

-- a disc of so many sectors, and its state
pub record Serving : Type 0 where
  pub sectors : ℕ
  pub disc : DiscState

-- the state of a disc at a phase, whose last write has this number
abbrev pub disc_at : Phase → ℕ → DiscState
disc_at Idle number = record { label = point.Take; request = None; reply = None; last_write = number }
disc_at (Checkpointing request) number =
    record { label = point.AtCheckpoint; request = Some request; reply = None; last_write = number }
disc_at (Acting request) number =
    record { label = point.Device; request = Some request; reply = None; last_write = number }
disc_at (Answering request reply) number =
    record { label = point.Answer; request = Some request; reply = Some reply; last_write = number }
