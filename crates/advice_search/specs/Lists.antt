-- The lists of an answer, made of what was gathered; only the clauses of private functions cite it.
use Rattle.std.specs.Prelude.{ℕ, zero, suc, ◌++◌, Bool, if◌then◌else◌, List, [], ◌∷◌, map, filter, length}
use Rattle.tal_tree.specs.Statements.{all_of}
use Rattle.tal_tree.specs.declared.program.Program.{Program}
use Rattle.tal_tree.specs.declared.statement.Statement.{Statement}
use Rattle.advice.specs.reason_dues.specs.declared.number_set.Numbers.{Numbers}
use Rattle.advice.specs.Answer.{is_a_checkpoint}
use Rattle.advice.specs.declared.answer.Advised.{Advised}
use Rattle.advice_search.specs.Gathered.{has_in}
use Rattle.advice_search.specs.declared.checkpoints.Checkpoint.{Checkpoint}

abbrev pub place_of : Statement → Checkpoint
place_of statement = record { statement = statement.number; line = statement.line }

-- the CHECKPOINTs among statements, at any level, in the order of the text
abbrev pub places_of : List Statement → List Checkpoint
places_of statements = map place_of (filter is_a_checkpoint (all_of statements))

-- those of the first numbers for which this is true, ascending
abbrev pub numbers_below : (ℕ → Bool) → ℕ → List ℕ
numbers_below holds zero = []
numbers_below holds (suc n) = numbers_below holds n ++ (if holds n then n ∷ [] else [])

-- the list of a CHECKPOINT, from sets of globals and of files by statement numbers
abbrev pub advised : Program → List Numbers → List Numbers → Checkpoint → Advised
advised program items files checkpoint = record {
  statement = checkpoint.statement;
  line = checkpoint.line;
  items = numbers_below (has_in items checkpoint.statement) (length program.items);
  files = numbers_below (has_in files checkpoint.statement) (length program.files);
}
