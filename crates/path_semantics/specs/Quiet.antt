-- Programs that do nothing of which the discipline speaks.
use Rattle.tal_tree.specs.declared.program.Program.{Program}
use Rattle.tal_tree.specs.declared.program.Procedure.{Procedure}
use Rattle.tal_tree.specs.declared.statement.Statement.{Statement}
use Rattle.tal_tree.specs.declared.statement.What.{What, What-F, out-What}
use Rattle.gd_words.specs.Members.{IsAmong}
use Rattle.tal_tree.specs.Statements.{all_of}

-- any statement but CHECKPOINT, READUPDATE, WRITEREAD and REPLY
abbrev pub IsQuietStatement : What-F What Statement → Type 0
IsQuietStatement (What-F.Checkpoint items files) = ⊥
IsQuietStatement (What-F.ReadUpdate buffer most got) = ⊥
IsQuietStatement (What-F.WriteRead file buffer send room got) = ⊥
IsQuietStatement (What-F.Reply buffer count) = ⊥
IsQuietStatement (What-F.Assign _ _) = Unit {0}
IsQuietStatement (What-F.AssignCall _ _ _) = Unit {0}
IsQuietStatement (What-F.If _ _ _) = Unit {0}
IsQuietStatement (What-F.While _ _) = Unit {0}
IsQuietStatement (What-F.DoUntil _ _) = Unit {0}
IsQuietStatement (What-F.For _ _ _ _ _ _ _) = Unit {0}
IsQuietStatement (What-F.Call _ _) = Unit {0}
IsQuietStatement (What-F.Return _) = Unit {0}
IsQuietStatement What-F.CheckMonitor = Unit {0}
IsQuietStatement (What-F.Open _) = Unit {0}
IsQuietStatement What-F.Stop = Unit {0}

-- a program that has none of these four
abbrev pub IsQuiet : Program → Type 0
IsQuiet program = (procedure : Procedure) (statement : Statement) → IsAmong procedure program.procedures
    → IsAmong statement (all_of procedure.body)
    → IsQuietStatement (out-What statement.what)
