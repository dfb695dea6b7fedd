-- What remains to be done in a procedure from each of its entries on, and the numbers that tell it.
use Rattle.std.specs.Prelude.{ℕ, if◌then◌else◌, List, [], ◌∷◌, ◌++◌, Option, Some, None, ◌+◌, ◌==◌}
use Rattle.tal_values.specs.tal_tree.specs.Rows.{rows}
use Rattle.tal_values.specs.tal_tree.specs.Statements.{last_of}
use Rattle.tal_values.specs.tal_tree.specs.declared.statement.Statement.{Statement}
use Rattle.tal_values.specs.tal_tree.specs.declared.statement.What.{What, out-What, Assign, AssignCall, If', While'}
use Rattle.tal_values.specs.tal_tree.specs.declared.statement.What.{For', DoUntil'}
use Rattle.tal_values.specs.tal_tree.specs.declared.statement.What.{Call, Return, ReadUpdate, Reply, WriteRead}
use Rattle.tal_values.specs.tal_tree.specs.declared.statement.What.{Checkpoint, CheckMonitor}
use Rattle.tal_values.specs.tal_tree.specs.declared.statement.What.{Open, Stop, Row_of-Statement, end_of-Statement}
use Rattle.tal_values.specs.tal_tree.specs.declared.statement.What.{more_of-Statement}
use Rattle.process_semantics.specs.State.{Entry, Run, Test, Last, runs_row}

-- the number of an entry: a FOR's test has the one after its first assignment
abbrev pub entry_number : Entry → ℕ
entry_number (Run statement) = statement.number
entry_number (Test statement) = statement.number + 1
entry_number (Last statement) = last_of (out-What statement.what)

-- the number of the entry that comes next, 0 at a procedure's end
abbrev pub next_number : List Entry → ℕ
next_number [] = 0
next_number (entry ∷ rest) = entry_number entry

-- What remains from each entry on

abbrev mutual
  -- of the statements of a list: what remains from each entry in it on, where others come after the list
  pub rests_row : {n : _} → Row_of-Statement n → List Entry → List (List Entry)
  rests_row end_of-Statement after = []
  rests_row (more_of-Statement number line what rest) after =
      rests_before what (Run (record { number = number; line = line; what = what }) ∷ (runs_row rest ++ after))
      ++ ((Run (record { number = number; line = line; what = what }) ∷ (runs_row rest ++ after))
      ∷ rests_in what (record { number = number; line = line; what = what }) (runs_row rest ++ after)
      ++ rests_row rest after)

  -- of the entries that come before a statement's own
  pub rests_before : What → List Entry → List (List Entry)
  rests_before (DoUntil' _ body test) after = rests_row body after
  rests_before (Assign to value) after = []
  rests_before (AssignCall to procedure arguments) after = []
  rests_before (If' test _ first _ second) after = []
  rests_before (While' test _ body) after = []
  rests_before (For' variable from to down step _ body last) after = []
  rests_before (Call procedure arguments) after = []
  rests_before (Return value) after = []
  rests_before (ReadUpdate buffer most got) after = []
  rests_before (Reply buffer count) after = []
  rests_before (WriteRead file buffer send room got) after = []
  rests_before (Checkpoint items files) after = []
  rests_before CheckMonitor after = []
  rests_before (Open file) after = []
  rests_before Stop after = []

  -- of the entries inside a statement that come after its own
  pub rests_in : What → Statement → List Entry → List (List Entry)
  rests_in (If' test _ first _ second) self after = rests_row first after ++ rests_row second after
  rests_in (While' test _ body) self after = rests_row body (Run self ∷ after)
  rests_in (For' variable from to down step _ body last) self after =
      (Test self ∷ after) ∷ rests_row body (Last self ∷ Test self ∷ after) ++ (Last self ∷ Test self ∷ after) ∷ []
  rests_in (DoUntil' _ body test) self after = []
  rests_in (Assign to value) self after = []
  rests_in (AssignCall to procedure arguments) self after = []
  rests_in (Call procedure arguments) self after = []
  rests_in (Return value) self after = []
  rests_in CheckMonitor self after = []
  rests_in (Open file) self after = []
  rests_in Stop self after = []
  rests_in (ReadUpdate buffer most got) self after = []
  rests_in (Reply buffer count) self after = []
  rests_in (WriteRead file buffer send room got) self after = []
  rests_in (Checkpoint items files) self after = []

-- the same of a list of statements
abbrev pub rests : List Statement → List Entry → List (List Entry)
rests statements after = rests_row (rows statements) after

-- what remains from each entry of a procedure's body on: nothing comes after the body
abbrev pub rests_of : List Statement → List (List Entry)
rests_of body = rests body []

-- the first that begins with an entry of this number
abbrev pub rest_among : ℕ → List (List Entry) → Option (List Entry)
rest_among number [] = None
rest_among number (rest ∷ rests) = if next_number rest == number then Some rest else rest_among number rests

-- what remains of a body from a number on; 0 stands for its end
abbrev pub rest_from : List Statement → ℕ → Option (List Entry)
rest_from body number = if number == 0 then Some [] else rest_among number (rests_of body)
