-- A choice of what each CHECKPOINT names and of how many replies are kept for each file, and a program with these in
-- place of its own. Lists and sync depths are GUARDIAN's; which of them may be chosen is our own rule.
use Rattle.std.specs.Prelude.{◌≡◌, ◌≤◌, ◌<◌, ℕ, suc, IsTrue, List, [], ◌∷◌, map, length, slice_get, Some}
use Rattle.gd_words.specs.Members.{is_among}
use Rattle.tal_tree.specs.Named.{IsProcess}
use Rattle.tal_tree.specs.Regular.{MayBeListed}
use Rattle.tal_tree.specs.declared.program.FileUse.{FileUse}
use Rattle.tal_tree.specs.declared.program.Procedure.{Procedure}
use Rattle.tal_tree.specs.declared.program.Program.{Program}
use Rattle.tal_tree.specs.declared.program.Target.TheVariants as target
use Rattle.tal_tree.specs.declared.statement.Statement.{Statement}
use Rattle.tal_tree.specs.declared.statement.What.{What, Assign, AssignCall, If', While', For', DoUntil', Call}
use Rattle.tal_tree.specs.declared.statement.What.{Return, ReadUpdate, Reply, WriteRead, Checkpoint, CheckMonitor}
use Rattle.tal_tree.specs.declared.statement.What.{Open, Stop}
use Rattle.tal_tree.specs.declared.statement.What.{Row_of-Statement, end_of-Statement, more_of-Statement}
use Rattle.gd_words.specs.declared.limits.TheConstants.{MOST_DEPTH}

-- the globals and the files that a CHECKPOINT names, by its number, and the depth of a file, by its place among the
-- OPENs
pub record Choice : Type 0 where
  pub items : ℕ → List ℕ
  pub files : ℕ → List ℕ
  pub depth : ℕ → ℕ

-- a statement of this number in which each CHECKPOINT, at any level, names what is chosen
abbrev mutual
  pub what_with : Choice → ℕ → What → What
  what_with choice number (Checkpoint _ _) = Checkpoint (choice.items number) (choice.files number)
  what_with choice number (If' test s first t second) = If' test s (row_with choice first) t (row_with choice second)
  what_with choice number (While' test s body) = While' test s (row_with choice body)
  what_with choice number (For' variable from to down step s body last) =
      For' variable from to down step s (row_with choice body) last
  what_with choice number (DoUntil' s body test) = DoUntil' s (row_with choice body) test
  what_with choice number (Assign to value) = Assign to value
  what_with choice number (AssignCall to procedure arguments) = AssignCall to procedure arguments
  what_with choice number (Call procedure arguments) = Call procedure arguments
  what_with choice number (Return value) = Return value
  what_with choice number (ReadUpdate buffer most got) = ReadUpdate buffer most got
  what_with choice number (Reply buffer count) = Reply buffer count
  what_with choice number (WriteRead file buffer send room got) = WriteRead file buffer send room got
  what_with choice number CheckMonitor = CheckMonitor
  what_with choice number (Open file) = Open file
  what_with choice number Stop = Stop

  pub row_with : {n : _} → Choice → Row_of-Statement n → Row_of-Statement n
  row_with choice end_of-Statement = end_of-Statement
  row_with choice (more_of-Statement number line what rest) =
      more_of-Statement number line (what_with choice number what) (row_with choice rest)

abbrev pub statement_with : Choice → Statement → Statement
statement_with choice statement =
    record { number = statement.number; line = statement.line; what = what_with choice statement.number statement.what }

abbrev pub body_with : Choice → List Statement → List Statement
body_with choice body = map (statement_with choice) body

abbrev pub procedure_with : Choice → Procedure → Procedure
procedure_with choice procedure = record procedure { body = body_with choice procedure.body }

-- files with the chosen depths, the first of them in this place among the OPENs
abbrev pub files_with : Choice → ℕ → List FileUse → List FileUse
files_with choice place [] = []
files_with choice place (file ∷ rest) = record file { depth = choice.depth place } ∷ files_with choice (suc place) rest

-- the program with the chosen lists and depths
abbrev pub with_choice : Program → Choice → Program
with_choice program choice = record program {
  files = files_with choice 0 program.files;
  procedures = map (procedure_with choice) program.procedures;
}

-- the program with the greatest depth, 4, for each file
abbrev pub deepened : FileUse → FileUse
deepened file = record file { depth = MOST_DEPTH }

abbrev pub deepest : Program → Program
deepest program = record program { files = map deepened program.files }

-- what may be chosen for a program: globals that have words, files that are opened to a process, and for each file a
-- depth from 1 to 4, 1 for `$RECEIVE`
pub record IsChoice (program : Program) (choice : Choice) : Type 0 where
  pub items : (number item : ℕ) → IsTrue (is_among item (choice.items number)) → MayBeListed program item
  pub files : (number file : ℕ) → IsTrue (is_among file (choice.files number)) → IsProcess program file
  pub lowest : (place : ℕ) → place < length program.files → 1 ≤ choice.depth place
  pub highest : (place : ℕ) → place < length program.files → choice.depth place ≤ MOST_DEPTH
  pub receive : (place : ℕ) (file : FileUse) → slice_get program.files place ≡ Some file → file.target ≡ target.Receive
      → choice.depth place ≡ 1

-- one choice is contained in another: each CHECKPOINT names no more, and no file's depth is greater
pub record IsContained (program : Program) (one other : Choice) : Type 0 where
  pub items : (number item : ℕ) → IsTrue (is_among item (one.items number))
      → IsTrue (is_among item (other.items number))
  pub files : (number file : ℕ) → IsTrue (is_among file (one.files number))
      → IsTrue (is_among file (other.files number))
  pub depths : (place : ℕ) → place < length program.files → one.depth place ≤ other.depth place
