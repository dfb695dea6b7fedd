-- The CHECKPOINTs of a program with what they name.
use Rattle.std.specs.Prelude.{ℕ, List, [], ◌∷◌, flat_map}
use Rattle.tal_tree.specs.declared.program.Program.{Program}
use Rattle.tal_tree.specs.declared.statement.Statement.{Statement}
use Rattle.tal_tree.specs.declared.statement.What.{What, What-F, out-What}
use Rattle.process_semantics.specs.State.{Entry, Run, Test, Last}
use Rattle.program_entries.specs.Entries.{entries_of}
use Rattle.statement_dues.specs.declared.checkpoints.NamedCheckpoint.{NamedCheckpoint}

abbrev pub named_of : ℕ → ℕ → List ℕ → List ℕ → NamedCheckpoint
named_of number line items files = record { statement = number; line = line; items = items; files = files }

-- a statement of this number and line, if it is a CHECKPOINT
abbrev pub named_by : ℕ → ℕ → What-F What Statement → List NamedCheckpoint
named_by number line (What-F.Checkpoint items files) = named_of number line items files ∷ []
named_by number line (What-F.Assign _ _) = []
named_by number line (What-F.AssignCall _ _ _) = []
named_by number line (What-F.If _ _ _) = []
named_by number line (What-F.While _ _) = []
named_by number line (What-F.DoUntil _ _) = []
named_by number line (What-F.For _ _ _ _ _ _ _) = []
named_by number line (What-F.Call _ _) = []
named_by number line (What-F.Return _) = []
named_by number line (What-F.ReadUpdate _ _ _) = []
named_by number line (What-F.Reply _ _) = []
named_by number line (What-F.WriteRead _ _ _ _ _) = []
named_by number line What-F.CheckMonitor = []
named_by number line (What-F.Open _) = []
named_by number line What-F.Stop = []

-- what has to be done, if it is a CHECKPOINT
abbrev pub named_at : Entry → List NamedCheckpoint
named_at (Run statement) = named_by statement.number statement.line (out-What statement.what)
named_at (Test statement) = []
named_at (Last statement) = []

-- those of a program, in the order of the text
abbrev pub checkpoints_of : Program → List NamedCheckpoint
checkpoints_of program = flat_map named_at (entries_of program)
