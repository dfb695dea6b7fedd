-- What a program has to do, in the order of its text, which is that of the numbers: an entry for each number.
use Rattle.std.specs.Prelude.{ℕ, zero, suc, List, [], ◌∷◌, ◌++◌, flat_map, slice_get, Option, None}
use Rattle.process_semantics.specs.State.{Entry, Run, Test, Last}
use Rattle.tal_tree.specs.Rows.{rows}
use Rattle.tal_tree.specs.declared.program.Program.{Program}
use Rattle.tal_tree.specs.declared.statement.Statement.{Statement}
use Rattle.tal_tree.specs.declared.statement.What.{What, Assign, AssignCall, If', While', For', DoUntil', Call}
use Rattle.tal_tree.specs.declared.statement.What.{Return, ReadUpdate, Reply, WriteRead, Checkpoint, CheckMonitor}
use Rattle.tal_tree.specs.declared.statement.What.{Open, Stop}
use Rattle.tal_tree.specs.declared.statement.What.{Row_of-Statement, end_of-Statement, more_of-Statement}

abbrev mutual
  -- the entries of a list of statements: those before each statement's own, its own, then those within it
  pub entries_row : {n : _} → Row_of-Statement n → List Entry
  entries_row end_of-Statement = []
  entries_row (more_of-Statement number line what rest) =
      entries_before what
      ++ (Run (record { number = number; line = line; what = what })
      ∷ entries_within (record { number = number; line = line; what = what }) what ++ entries_row rest)

  -- the entries before a statement's own: those of a DO's body
  pub entries_before : What → List Entry
  entries_before (DoUntil' _ body test) = entries_row body
  entries_before (Assign to value) = []
  entries_before (AssignCall to procedure arguments) = []
  entries_before (If' test _ first _ second) = []
  entries_before (While' test _ body) = []
  entries_before (For' variable from to down step _ body last) = []
  entries_before (Call procedure arguments) = []
  entries_before (Return value) = []
  entries_before (ReadUpdate buffer most got) = []
  entries_before (Reply buffer count) = []
  entries_before (WriteRead file buffer send room got) = []
  entries_before (Checkpoint items files) = []
  entries_before CheckMonitor = []
  entries_before (Open file) = []
  entries_before Stop = []

  -- the entries within a statement: a FOR's test, and behind its body its last assignment
  pub entries_within : Statement → What → List Entry
  entries_within self (If' test _ first _ second) = entries_row first ++ entries_row second
  entries_within self (While' test _ body) = entries_row body
  entries_within self (For' variable from to down step _ body last) = Test self ∷ entries_row body ++ Last self ∷ []
  entries_within self (DoUntil' _ body test) = []
  entries_within self (Assign to value) = []
  entries_within self (AssignCall to procedure arguments) = []
  entries_within self (Call procedure arguments) = []
  entries_within self (Return value) = []
  entries_within self (ReadUpdate buffer most got) = []
  entries_within self (Reply buffer count) = []
  entries_within self (WriteRead file buffer send room got) = []
  entries_within self (Checkpoint items files) = []
  entries_within self CheckMonitor = []
  entries_within self (Open file) = []
  entries_within self Stop = []

-- the entries of statements and of those that stand in them
abbrev pub entries_in : List Statement → List Entry
entries_in statements = entries_row (rows statements)

-- the entries of a program
abbrev pub entries_of : Program → List Entry
entries_of program = flat_map (λ procedure. entries_in procedure.body) program.procedures

-- the one of a number, from 1 on
abbrev pub entry_among : List Entry → ℕ → Option Entry
entry_among entries zero = None
entry_among entries (suc place) = slice_get entries place

-- what a program has to do that has this number
abbrev pub entry_at : Program → ℕ → Option Entry
entry_at program number = entry_among (entries_of program) number
