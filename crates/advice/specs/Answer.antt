-- The answer to a program for which advice is asked: its lists and depths, or why there are none. The rule is our own.
use Rattle.std.specs.Prelude.{◌≡◌, ◌≤◌, ◌<◌, ◌↔◌, ℕ, ◌==◌, Bool, IsTrue, List, [], ◌∷◌, map, filter, flat_map, length}
use Rattle.std.specs.Prelude.{slice_get, Some, if◌then◌else◌, Result, Ok, Err}
use Rattle.std.specs.Option.{unwrap_or}
use Rattle.gd_words.specs.Members.{IsAmong, is_among}
use Rattle.tal_tree.specs.Statements.{all_of}
use Rattle.tal_tree.specs.declared.program.Program.{Program}
use Rattle.tal_tree.specs.declared.statement.Statement.{Statement}
use Rattle.tal_tree.specs.declared.statement.What.{out-What}
use Rattle.discipline.specs.path_semantics.specs.declared.reason.Reason.{Reason}
use Rattle.discipline.specs.path_semantics.specs.declared.reason.Reason.TheVariants.{Data, SyncBlock, Input, Depth}
use Rattle.discipline.specs.path_semantics.specs.declared.reason.RefusalFault.TheVariants as verdict
use Rattle.discipline.specs.path_semantics.specs.Bounds.{IsWithinBounds}
use Rattle.discipline.specs.path_semantics.specs.Break.{Breaks}
use Rattle.discipline.specs.Verdict.{IsEarlier, IsLeast, IsVerdict}
use Rattle.advice.specs.declared.answer.Advice.{Advice}
use Rattle.advice.specs.declared.answer.Advised.{Advised}
use Rattle.advice.specs.declared.answer.AdviseFault.{AdviseFault}
use Rattle.advice.specs.declared.answer.AdviseFault.TheVariants.{TooDeep, TooLarge, Unmendable, NoMemory}
use Rattle.advice.specs.Advice.{IsLeastDepth}
use Rattle.advice.specs.Choice.{Choice, deepest}
use Rattle.advice.specs.Due.{is_checkpoint, IsItemDue, IsFileDue}
use Rattle.gd_words.specs.declared.limits.TheConstants.{MOST_DEPTH}

-- the statements of a program, at any level, in the order of the text
abbrev pub statements_of : Program → List Statement
statements_of program = flat_map (λ procedure. all_of procedure.body) program.procedures

abbrev pub is_a_checkpoint : Statement → Bool
is_a_checkpoint statement = is_checkpoint (out-What statement.what)

-- those of them that are CHECKPOINTs
abbrev pub checkpoints_of : Program → List Statement
checkpoints_of program = filter is_a_checkpoint (statements_of program)

abbrev pub items_among : List Advised → ℕ → List ℕ
items_among [] number = []
items_among (one ∷ rest) number = if one.statement == number then one.items else items_among rest number

abbrev pub files_among : List Advised → ℕ → List ℕ
files_among [] number = []
files_among (one ∷ rest) number = if one.statement == number then one.files else files_among rest number

-- an answer as a choice: a statement of which it doesn't speak names nothing, and a file of which it doesn't has depth
-- 1
abbrev pub choice_of : Advice → Choice
choice_of advice = record {
  items = items_among advice.lists;
  files = files_among advice.lists;
  depth = λ file. unwrap_or (slice_get advice.depths file) 1;
}

-- each number is less than those behind it
abbrev pub IsAscending : List ℕ → Type 0
IsAscending [] = Unit {0}
IsAscending (n ∷ ns) = ((m : ℕ) → IsAmong m ns → n < m) × IsAscending ns

-- a CHECKPOINT's list has exactly what is due there on some path, each once and in order
pub record IsLeastList (program : Program) (one : Advised) : Type 0 where
  pub items : (item : ℕ) → IsTrue (is_among item one.items) ↔ IsItemDue program one.statement item
  pub files : (file : ℕ) → IsTrue (is_among file one.files) ↔ IsFileDue program one.statement file
  pub ascending_items : IsAscending one.items
  pub ascending_files : IsAscending one.files

-- the lists and depths of a program that they mend: a list for each CHECKPOINT and a depth for each file, none more
-- than 4
pub record IsAnswer (program : Program) (advice : Advice) : Type 0 where
  pub bounds : IsWithinBounds program
  pub input : (path : List ℕ) → Breaks program path Input → ⊥
  pub numbers : map (λ one. one.statement) advice.lists ≡ map (λ statement. statement.number) (checkpoints_of program)
  pub lines : map (λ one. one.line) advice.lists ≡ map (λ statement. statement.line) (checkpoints_of program)
  pub lists : (one : Advised) → IsAmong one advice.lists → IsLeastList program one
  pub count : length advice.depths ≡ length program.files
  pub depths : (file depth : ℕ) → slice_get advice.depths file ≡ Some depth → IsLeastDepth program file depth
  pub few : (file depth : ℕ) → slice_get advice.depths file ≡ Some depth → depth ≤ MOST_DEPTH

-- a reason that doesn't speak of what a CHECKPOINT names
abbrev pub IsBeyondLists : Reason → Type 0
IsBeyondLists (Data item) = ⊥
IsBeyondLists (SyncBlock file) = ⊥
IsBeyondLists Input = Unit {0}
IsBeyondLists (Depth file) = Unit {0}

-- in a program within bounds a path breaks that no choice mends, even with the greatest depths: the first such reason,
-- input before depths, and a shortest path
pub record IsUnmendable (program : Program) (reason : Reason) (path : List ℕ) : Type 0 where
  pub bounds : IsWithinBounds program
  pub beyond : IsBeyondLists reason
  pub shortest : IsLeast (deepest program) reason path
  pub first : (earlier : Reason) (other : List ℕ) → IsBeyondLists earlier → IsEarlier earlier reason
      → Breaks (deepest program) other earlier → ⊥

-- what comes of asking for advice: the lists and depths, or calls too deep, or else too many statements with the calls
-- written out, as in the verdict, or else what can't be mended. That memory ran out is free
abbrev pub IsAdvised : Program → Result Advice AdviseFault → Type 0
IsAdvised program (Ok advice) = IsAnswer program advice
IsAdvised program (Err TooDeep) = IsVerdict program (Err verdict.TooDeep)
IsAdvised program (Err (TooLarge n)) = IsVerdict program (Err (verdict.TooLarge n))
IsAdvised program (Err (Unmendable reason path)) = IsUnmendable program reason path
IsAdvised program (Err (NoMemory _)) = Unit {0}
