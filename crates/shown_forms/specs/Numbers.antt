-- Programs whose numbers are words, and requests and replies that a report may tell.
use Rattle.std.specs.Prelude.{◌≡◌, ◌≤◌, ℕ, ℤ, List, length, slice_get, Option, Some, None}
use Rattle.gd_words.specs.declared.limits.TheConstants.{MOST_MESSAGE_WORDS}
use Rattle.gd_words.specs.Members.{IsAmong}
use Rattle.tal_tree.specs.Statements.{all_of}
use Rattle.tal_tree.specs.declared.expression.Expr.{Expr, Number}
use Rattle.tal_tree.specs.declared.program.Procedure.{Procedure}
use Rattle.tal_tree.specs.declared.program.Program.{Program}
use Rattle.tal_tree.specs.declared.statement.Statement.{Statement}
use Rattle.tal_tree.specs.declared.statement.What.{What, What-F, out-What}
use Rattle.told_reports.specs.InForm.{AreEach}
use Rattle.told_reports.specs.Words.{AreWords, IsWord}

-- an expression that is a number alone is a word; what others give is wrapped, or read
abbrev pub IsWordThere : Expr → Type 0
IsWordThere (Number n) = IsWord n
IsWordThere _ = Unit {0}

abbrev pub IsAnswerWord : Option Expr → Type 0
IsAnswerWord None = Unit {0}
IsAnswerWord (Some value) = IsWordThere value

-- what a statement puts somewhere
abbrev pub HasWords : What-F What Statement → Type 0
HasWords (What-F.Assign to value) = IsWordThere value
HasWords (What-F.AssignCall to procedure arguments) = AreEach IsWordThere arguments
HasWords (What-F.For variable from to down step body last) = IsWordThere from
HasWords (What-F.Call procedure arguments) = AreEach IsWordThere arguments
HasWords (What-F.Return value) = IsAnswerWord value
HasWords (What-F.If _ _ _) = Unit {0}
HasWords (What-F.While _ _) = Unit {0}
HasWords (What-F.DoUntil _ _) = Unit {0}
HasWords (What-F.ReadUpdate _ _ _) = Unit {0}
HasWords (What-F.Reply _ _) = Unit {0}
HasWords (What-F.WriteRead _ _ _ _ _) = Unit {0}
HasWords (What-F.Checkpoint _ _) = Unit {0}
HasWords What-F.CheckMonitor = Unit {0}
HasWords (What-F.Open _) = Unit {0}
HasWords What-F.Stop = Unit {0}

-- each statement of a program, at any level
abbrev pub HasWordNumbers : Program → Type 0
HasWordNumbers program = (k : ℕ) (procedure : Procedure) → slice_get program.procedures k ≡ Some procedure
    → (statement : Statement) → IsAmong statement (all_of procedure.body) → HasWords (out-What statement.what)

-- no more words than a message has
abbrev pub IsMessage : List ℤ → Type 0
IsMessage words = AreWords words × (length words ≤ MOST_MESSAGE_WORDS)
