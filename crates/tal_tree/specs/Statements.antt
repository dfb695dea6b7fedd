-- The statements of a program, at any level, with their numbers and calls.
use Rattle.std.specs.Prelude.{ℕ, ◌+◌, List, [], ◌∷◌, ◌++◌, flat_map, Option, Some, None}
use Rattle.std.specs.Option.{option_to_list}
use Rattle.tal_tree.specs.Rows.{rows}
use Rattle.tal_tree.specs.declared.statement.Statement.{Statement}
use Rattle.tal_tree.specs.declared.statement.What.{What, What-F, out-What, Assign, AssignCall, If', While', For'}
use Rattle.tal_tree.specs.declared.statement.What.{DoUntil', Call, Return, ReadUpdate, Reply, WriteRead, Checkpoint}
use Rattle.tal_tree.specs.declared.statement.What.{CheckMonitor, Open, Stop, Row_of-Statement, end_of-Statement}
use Rattle.tal_tree.specs.declared.statement.What.{more_of-Statement}

-- the statements that stand in a statement, at any level, in the order of their first words in the text
abbrev mutual
  pub within : What → List Statement
  within (If' test _ first _ second) = within_row first ++ within_row second
  within (While' test _ body) = within_row body
  within (For' variable from to down step _ body last) = within_row body
  within (DoUntil' _ body test) = within_row body
  within (Assign _ _) = []
  within (AssignCall _ _ _) = []
  within (Call _ _) = []
  within (Return _) = []
  within (ReadUpdate _ _ _) = []
  within (Reply _ _) = []
  within (WriteRead _ _ _ _ _) = []
  within (Checkpoint _ _) = []
  within CheckMonitor = []
  within (Open _) = []
  within Stop = []

  pub within_row : {n : _} → Row_of-Statement n → List Statement
  within_row end_of-Statement = []
  within_row (more_of-Statement number line what rest) =
      record { number = number; line = line; what = what } ∷ (within what ++ within_row rest)

-- a statement and those that stand in it
abbrev pub all_in : Statement → List Statement
all_in statement = statement ∷ within statement.what

-- statements and those that stand in them
abbrev pub all_of : List Statement → List Statement
all_of statements = flat_map all_in statements

-- the number of a FOR's last assignment
abbrev pub last_of : What-F What Statement → ℕ
last_of (What-F.For variable from to down step body last) = last
last_of (What-F.Assign _ _) = 0
last_of (What-F.AssignCall _ _ _) = 0
last_of (What-F.If _ _ _) = 0
last_of (What-F.While _ _) = 0
last_of (What-F.DoUntil _ _) = 0
last_of (What-F.Call _ _) = 0
last_of (What-F.Return _) = 0
last_of (What-F.ReadUpdate _ _ _) = 0
last_of (What-F.Reply _ _) = 0
last_of (What-F.WriteRead _ _ _ _ _) = 0
last_of (What-F.Checkpoint _ _) = 0
last_of What-F.CheckMonitor = 0
last_of (What-F.Open _) = 0
last_of What-F.Stop = 0

-- what is done before a statement's own number: the body of a DO
abbrev pub body_before : What-F What Statement → List Statement
body_before (What-F.DoUntil body test) = body
body_before (What-F.Assign _ _) = []
body_before (What-F.AssignCall _ _ _) = []
body_before (What-F.If _ _ _) = []
body_before (What-F.While _ _) = []
body_before (What-F.For _ _ _ _ _ _ _) = []
body_before (What-F.Call _ _) = []
body_before (What-F.Return _) = []
body_before (What-F.ReadUpdate _ _ _) = []
body_before (What-F.Reply _ _) = []
body_before (What-F.WriteRead _ _ _ _ _) = []
body_before (What-F.Checkpoint _ _) = []
body_before What-F.CheckMonitor = []
body_before (What-F.Open _) = []
body_before What-F.Stop = []

abbrev mutual
  -- the numbers of a list of statements in the order of the text: those before each one's own, its own, then those
  -- within it
  pub numbers_row : {n : _} → Row_of-Statement n → List ℕ
  numbers_row end_of-Statement = []
  numbers_row (more_of-Statement number line what rest) =
      numbers_before what ++ (number ∷ numbers_within number what ++ numbers_row rest)

  -- the numbers before a statement's own: those of a DO's body, since its number is that of its test
  pub numbers_before : What → List ℕ
  numbers_before (DoUntil' _ body test) = numbers_row body
  numbers_before (Assign to value) = []
  numbers_before (AssignCall to procedure arguments) = []
  numbers_before (If' test _ first _ second) = []
  numbers_before (While' test _ body) = []
  numbers_before (For' variable from to down step _ body last) = []
  numbers_before (Call procedure arguments) = []
  numbers_before (Return value) = []
  numbers_before (ReadUpdate buffer most got) = []
  numbers_before (Reply buffer count) = []
  numbers_before (WriteRead file buffer send room got) = []
  numbers_before (Checkpoint items files) = []
  numbers_before CheckMonitor = []
  numbers_before (Open file) = []
  numbers_before Stop = []

  -- the numbers within a statement of this number, behind its own: a FOR's test has the next one, and its last
  -- assignment one that stands behind its body
  pub numbers_within : ℕ → What → List ℕ
  numbers_within number (If' test _ first _ second) = numbers_row first ++ numbers_row second
  numbers_within number (While' test _ body) = numbers_row body
  numbers_within number (For' variable from to down step _ body last) = (number + 1) ∷ numbers_row body ++ last ∷ []
  numbers_within number (DoUntil' _ body test) = []
  numbers_within number (Assign to value) = []
  numbers_within number (AssignCall to procedure arguments) = []
  numbers_within number (Call procedure arguments) = []
  numbers_within number (Return value) = []
  numbers_within number (ReadUpdate buffer most got) = []
  numbers_within number (Reply buffer count) = []
  numbers_within number (WriteRead file buffer send room got) = []
  numbers_within number (Checkpoint items files) = []
  numbers_within number CheckMonitor = []
  numbers_within number (Open file) = []
  numbers_within number Stop = []

-- the numbers of statements and of those that stand in them, in the order of the text
abbrev pub numbers_of : List Statement → List ℕ
numbers_of statements = numbers_row (rows statements)

-- the procedure that a statement calls
abbrev pub called_in : What-F What Statement → Option ℕ
called_in (What-F.Call procedure arguments) = Some procedure
called_in (What-F.AssignCall to procedure arguments) = Some procedure
called_in (What-F.Assign to value) = None
called_in (What-F.If test first second) = None
called_in (What-F.While test body) = None
called_in (What-F.For variable from to down step body last) = None
called_in (What-F.DoUntil body test) = None
called_in (What-F.Return value) = None
called_in What-F.CheckMonitor = None
called_in (What-F.Open file) = None
called_in What-F.Stop = None
called_in (What-F.ReadUpdate buffer most got) = None
called_in (What-F.Reply buffer count) = None
called_in (What-F.WriteRead file buffer send room got) = None
called_in (What-F.Checkpoint items files) = None

abbrev pub call_in : What-F What Statement → List ℕ
call_in layer = option_to_list (called_in layer)

abbrev pub own_calls : Statement → List ℕ
own_calls statement = call_in (out-What statement.what)

-- the procedures that are called in statements, one for each call
abbrev pub calls_of : List Statement → List ℕ
calls_of statements = flat_map own_calls (all_of statements)
