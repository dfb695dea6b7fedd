-- The lines of a program's numbered statements.
use Rattle.std.specs.Prelude.{ℕ, zero, suc, List, [], ◌∷◌, ◌++◌, flat_map, slice_get}
use Rattle.std.specs.Option.{unwrap_or}
use Rattle.tal_tree.specs.Rows.{rows}
use Rattle.tal_tree.specs.declared.program.Program.{Program}
use Rattle.tal_tree.specs.declared.statement.Statement.{Statement}
use Rattle.tal_tree.specs.declared.statement.What.{What, Assign, AssignCall, If', While', For', DoUntil', Call}
use Rattle.tal_tree.specs.declared.statement.What.{Return, ReadUpdate, Reply, WriteRead, Checkpoint, CheckMonitor}
use Rattle.tal_tree.specs.declared.statement.What.{Open, Stop}
use Rattle.tal_tree.specs.declared.statement.What.{Row_of-Statement, end_of-Statement, more_of-Statement}

abbrev mutual
  -- a line for each number of a list of statements, in the order of the text: those before each statement's own, its
  -- own, then those within it
  pub lines_row : {n : _} → Row_of-Statement n → List ℕ
  lines_row end_of-Statement = []
  lines_row (more_of-Statement number line what rest) =
      lines_before what ++ (line ∷ lines_within line what ++ lines_row rest)

  -- the lines before a statement's own: those of a DO's body, since its line is that of its UNTIL
  pub lines_before : What → List ℕ
  lines_before (DoUntil' _ body test) = lines_row body
  lines_before (Assign to value) = []
  lines_before (AssignCall to procedure arguments) = []
  lines_before (If' test _ first _ second) = []
  lines_before (While' test _ body) = []
  lines_before (For' variable from to down step _ body last) = []
  lines_before (Call procedure arguments) = []
  lines_before (Return value) = []
  lines_before (ReadUpdate buffer most got) = []
  lines_before (Reply buffer count) = []
  lines_before (WriteRead file buffer send room got) = []
  lines_before (Checkpoint items files) = []
  lines_before CheckMonitor = []
  lines_before (Open file) = []
  lines_before Stop = []

  -- the lines within a statement on this line: a FOR's test and its last assignment, which stands behind its body, are
  -- on the FOR's own
  pub lines_within : ℕ → What → List ℕ
  lines_within line (If' test _ first _ second) = lines_row first ++ lines_row second
  lines_within line (While' test _ body) = lines_row body
  lines_within line (For' variable from to down step _ body last) = line ∷ lines_row body ++ line ∷ []
  lines_within line (DoUntil' _ body test) = []
  lines_within line (Assign to value) = []
  lines_within line (AssignCall to procedure arguments) = []
  lines_within line (Call procedure arguments) = []
  lines_within line (Return value) = []
  lines_within line (ReadUpdate buffer most got) = []
  lines_within line (Reply buffer count) = []
  lines_within line (WriteRead file buffer send room got) = []
  lines_within line (Checkpoint items files) = []
  lines_within line CheckMonitor = []
  lines_within line (Open file) = []
  lines_within line Stop = []

-- a line for each number of statements and of those that stand in them, in the order of the text
abbrev pub lines_in : List Statement → List ℕ
lines_in statements = lines_row (rows statements)

-- a line for each number of a program, in the order of the text
abbrev pub lines_of : Program → List ℕ
lines_of program = flat_map (λ procedure. lines_in procedure.body) program.procedures

-- the line of a number among lines from number 1 on, or 0 where there is none
abbrev pub line_among : List ℕ → ℕ → ℕ
line_among lines zero = 0
line_among lines (suc k) = unwrap_or (slice_get lines k) 0

-- the line of the statement that has a number, or 0 where the program has no such number
abbrev pub line_of : Program → ℕ → ℕ
line_of program number = line_among (lines_of program) number
