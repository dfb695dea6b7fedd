-- The programs that keep the checkpoint discipline.
use Rattle.std.specs.Prelude.{ℕ, List}
use Rattle.tal_tree.specs.declared.program.Program.{Program}
use Rattle.path_semantics.specs.declared.reason.Reason.{Reason}
use Rattle.path_semantics.specs.Bounds.{IsWithinBounds}
use Rattle.path_semantics.specs.Break.{Breaks}

-- a program is accepted where its calls are within bounds, and no path breaks for any reason
pub record IsAccepted (program : Program) : Type 0 where
  pub bounds : IsWithinBounds program
  pub unbroken : (path : List ℕ) (reason : Reason) → Breaks program path reason → ⊥
