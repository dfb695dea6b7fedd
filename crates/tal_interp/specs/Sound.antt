-- Programs that can be loaded, and what holds of them while they run.
use Rattle.tal_tree.specs.Limits.{IsWithinLimits}
use Rattle.tal_tree.specs.Ordered.{IsNumbered, IsOrdered}
use Rattle.tal_tree.specs.Regular.{IsRegular}
use Rattle.tal_tree.specs.declared.program.Program.{Program}
use Rattle.process_semantics.specs.State.{Execution}
use Rattle.tal_table.specs.tal_code.specs.Waiting.{WaitsBelow}
use Rattle.tal_table.specs.whole_states.specs.Whole.{IsWhole}

-- a program that can be loaded is numbered and ordered as texts are, keeps the limits, is regular, and has room for the
-- code of what it computes
pub record IsLoadable (program : Program) : Type 0 where
  pub numbered : IsNumbered program
  pub ordered : IsOrdered program
  pub limits : IsWithinLimits program
  pub regular : IsRegular program
  pub waiting : WaitsBelow 80 program

-- a program that runs was loaded, and its state is whole
pub record IsSound (execution : Execution) : Type 0 where
  pub loaded : IsLoadable execution.program
  pub whole : IsWhole execution.program execution.state
