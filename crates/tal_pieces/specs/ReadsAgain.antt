-- A text reads as a program that is the same but for the lines of its statements.
use Rattle.std.specs.Prelude.{ℕ, List}
use Rattle.tal_tree.specs.declared.program.Program.{Program}
use Rattle.tal_reader.specs.Reads.{Reads}
use Rattle.tal_pieces.specs.Unlined.{IsSameButForLines}

pub record ReadsAgain (text : List ℕ) (program : Program) : Type 0 where
  pub again : Program
  pub reads : Reads text again
  pub same : IsSameButForLines again program
