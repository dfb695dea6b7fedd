-- Regular programs: what is named in their statements is there and of its kind.
use Rattle.std.specs.Prelude.{◌≡◌, ◌≤◌, ◌<◌, ℕ, pos, ◌≤ℤ◌, Bool, true, false, List, length, slice_get, Option}
use Rattle.std.specs.Prelude.{Some, None, is_some}
use Rattle.gd_words.specs.Members.{IsAmong, AreDistinct}
use Rattle.tal_tree.specs.declared.expression.Expr.{Expr}
use Rattle.tal_tree.specs.declared.program.Item.{Item}
use Rattle.tal_tree.specs.declared.program.Procedure.{Procedure}
use Rattle.tal_tree.specs.declared.program.Program.{Program}
use Rattle.tal_tree.specs.declared.statement.Statement.{Statement}
use Rattle.tal_tree.specs.declared.statement.What.{What, What-F, out-What}
use Rattle.tal_tree.specs.Shapes.{has_words}
use Rattle.tal_tree.specs.Statements.{numbers_of, all_of}
use Rattle.tal_tree.specs.Named.{IsArray, IsProcess, IsVariableThere, IsThere, IsSpotThere, IsTestThere, AllThere}

-- the item at a place is there and has words
pub record MayBeListed (program : Program) (k : ℕ) : Type 0 where
  pub item : Item
  pub there : slice_get program.items k ≡ Some item
  pub words : has_words item.shape ≡ true

-- a CHECKPOINT lists items that have words, and files that are opened to a process, each once
pub record AreListed (program : Program) (items files : List ℕ) : Type 0 where
  pub distinct_items : AreDistinct items
  pub items_there : (k : ℕ) → IsAmong k items → MayBeListed program k
  pub distinct_files : AreDistinct files
  pub files_there : (k : ℕ) → IsAmong k files → IsProcess program k

-- a call is of a procedure that is there, with as many values as it has parameters, each of which is one of its locals;
-- where its value is wanted it gives one
pub record IsCalled (program : Program) (locals : ℕ) (wants : Bool) (number : ℕ) (values : List Expr) : Type 0 where
  pub procedure : Procedure
  pub there : slice_get program.procedures number ≡ Some procedure
  pub exact : length values ≡ procedure.parameters
  pub few : length values ≤ length procedure.locals
  pub gives : wants ≡ true → procedure.gives ≡ true
  pub values_there : AllThere program locals values

-- what is read in the value of a RETURN, if it has one, is there
abbrev pub IsAnswerThere : Program → ℕ → Option Expr → Type 0
IsAnswerThere program locals None = Unit {0}
IsAnswerThere program locals (Some value) = IsThere program locals value

-- in a procedure that has so many locals, and gives a value or not
module _ (program : Program) (locals : ℕ) (gives : Bool) where
  -- what a statement names is there and of its kind, and a FOR counts by 1 or more
  abbrev pub IsRegularStatement : What-F What Statement → Type 0
  IsRegularStatement (What-F.Assign to value) = IsSpotThere program locals to × IsThere program locals value
  IsRegularStatement (What-F.AssignCall to procedure arguments) =
      IsSpotThere program locals to × IsCalled program locals true procedure arguments
  IsRegularStatement (What-F.If test first second) = IsTestThere program locals test
  IsRegularStatement (What-F.While test body) = IsTestThere program locals test
  IsRegularStatement (What-F.For variable from to down step body last) =
      IsVariableThere program locals variable × (IsThere program locals from × IsThere program locals to)
      × (pos 1 ≤ℤ step)
  IsRegularStatement (What-F.DoUntil body test) = IsTestThere program locals test
  IsRegularStatement (What-F.Call procedure arguments) = IsCalled program locals false procedure arguments
  IsRegularStatement (What-F.Return value) = (is_some value ≡ gives) × IsAnswerThere program locals value
  IsRegularStatement (What-F.ReadUpdate buffer most got) =
      IsArray program buffer × (IsThere program locals most × IsVariableThere program locals got)
  IsRegularStatement (What-F.Reply buffer count) = IsArray program buffer × IsThere program locals count
  IsRegularStatement (What-F.WriteRead file buffer send room got) =
      IsProcess program file × (IsArray program buffer
      × (IsThere program locals send × (IsThere program locals room × IsVariableThere program locals got)))
  IsRegularStatement (What-F.Checkpoint items files) = AreListed program items files
  IsRegularStatement What-F.CheckMonitor = Unit {0}
  IsRegularStatement (What-F.Open file) = file < length program.files
  IsRegularStatement What-F.Stop = Unit {0}

-- a procedure's numbers are distinct and at least 1, and each of its statements, at any level, is regular
pub record IsRegularProcedure (program : Program) (procedure : Procedure) : Type 0 where
  pub distinct : AreDistinct (numbers_of procedure.body)
  pub positive : (n : ℕ) → IsAmong n (numbers_of procedure.body) → 1 ≤ n
  pub statements : (statement : Statement) → IsAmong statement (all_of procedure.body)
      → IsRegularStatement program (length procedure.locals) procedure.gives (out-What statement.what)

-- a program is regular where its main procedure is there and each procedure is regular
pub record IsRegular (program : Program) : Type 0 where
  pub main : (procedure : Procedure) × (slice_get program.procedures program.main ≡ Some procedure)
  pub procedures : (k : ℕ) (procedure : Procedure) → slice_get program.procedures k ≡ Some procedure
      → IsRegularProcedure program procedure
