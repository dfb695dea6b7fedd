-- What a process may list for a checkpoint.
use Rattle.std.specs.Prelude.{◌≡◌, ℕ, List, [], length}
use Rattle.process_semantics.specs.tal_tree.specs.Regular.{AreListed}
use Rattle.process_semantics.specs.Process.{ProcessState, Runs, Serves}

-- a program may list its items that have words and its files that are opened to a process, each once; a disc may list
-- nothing
abbrev pub MayList : ProcessState → List ℕ → List ℕ → Type 0
MayList (Runs program s) items files = AreListed program items files
MayList (Serves sectors s) items files = (items ≡ []) × (files ≡ [])

-- how many files a process has
abbrev pub files_of : ProcessState → ℕ
files_of (Runs program s) = length program.files
files_of (Serves sectors s) = 0
