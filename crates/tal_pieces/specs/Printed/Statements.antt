-- The pieces of statements. Each IF has an ELSE, so that each ELSE belongs to the nearest IF; BEGIN .. END stands only
-- round two or more statements in the place of one. BY stands only before a constant above 1.
use Rattle.std.specs.Prelude.{ℕ, ℤ, pos, int_lt, Bool, true, false, if◌then◌else◌, List, [], ◌∷◌, slice_get, Option}
use Rattle.std.specs.Prelude.{Some, None}
use Rattle.tal_tree.specs.declared.program.FileUse.{FileUse}
use Rattle.tal_tree.specs.declared.program.Program.{Program}
use Rattle.tal_tree.specs.declared.expression.Expr.{Expr}
use Rattle.tal_tree.specs.declared.expression.Variable.{Variable}
use Rattle.tal_tree.specs.declared.statement.Statement.{Statement}
use Rattle.tal_tree.specs.declared.statement.What.{What, Assign, AssignCall, If', While', For', DoUntil', Call}
use Rattle.tal_tree.specs.declared.statement.What.{Return, ReadUpdate, Reply, WriteRead, Checkpoint, CheckMonitor, Open}
use Rattle.tal_tree.specs.declared.statement.What.{Stop, Row_of-Statement, end_of-Statement, more_of-Statement}
use Rattle.tal_names.specs.declared.system.System.{System}
use Rattle.tal_names.specs.declared.system.System.TheVariants as system
use Rattle.tal_pieces.specs.declared.piece.Keyword.{Keyword}
use Rattle.tal_pieces.specs.declared.piece.Keyword.TheVariants as word
use Rattle.tal_pieces.specs.declared.piece.Symbol.TheVariants as sign
use Rattle.tal_pieces.specs.declared.piece.Piece.{Piece}
use Rattle.tal_pieces.specs.declared.piece.Piece.TheVariants as piece
use Rattle.tal_pieces.specs.declared.rank.ValueRank.TheVariants as value
use Rattle.tal_pieces.specs.declared.rank.TestRank.TheVariants as test
use Rattle.tal_pieces.specs.Printed.Names.{named, item_name, variable_name, procedure_name, file_name, receive_name}
use Rattle.tal_pieces.specs.Printed.Names.{target_piece}
use Rattle.tal_pieces.specs.Printed.Expressions.{value_pieces, test_pieces, spot_pieces, arguments}

abbrev pub comma : List Piece → List Piece
comma ks = piece.Symbol sign.Comma ∷ ks

-- a call of the system without a list, and with the beginning of one
abbrev pub called : System → List Piece → List Piece
called name ks = piece.Keyword word.Call ∷ piece.System name ∷ ks

abbrev pub calling : System → List Piece → List Piece
calling name ks = piece.Keyword word.Call ∷ piece.System name ∷ piece.Symbol sign.Open ∷ ks

abbrev pub close : List Piece → List Piece
close ks = piece.Symbol sign.Close ∷ ks

-- which way a FOR counts, and by how much
abbrev pub direction_word : Bool → Keyword
direction_word false = word.To
direction_word true = word.DownTo

abbrev pub step_pieces : ℤ → List Piece → List Piece
step_pieces step ks = if int_lt (pos 1) step then piece.Keyword word.By ∷ piece.Number step ∷ ks else ks

module _ (p : Program) where
  -- more names of a CHECKPOINT
  abbrev pub more_files : List ℕ → List Piece → List Piece
  more_files [] ks = ks
  more_files (file ∷ rest) ks = comma (named (file_name p file) (more_files rest ks))

  abbrev pub more_items : List ℕ → List Piece → List Piece
  more_items [] ks = ks
  more_items (item ∷ rest) ks = comma (named (item_name p item) (more_items rest ks))

  -- the list of a CHECKPOINT: the items, then the files
  abbrev pub checkpoint_list : List ℕ → List ℕ → List Piece → List Piece
  checkpoint_list [] [] ks = ks
  checkpoint_list [] (file ∷ files) ks = piece.Symbol sign.Open ∷ named (file_name p file) (more_files files (close ks))
  checkpoint_list (item ∷ items) files ks =
      piece.Symbol sign.Open ∷ named (item_name p item) (more_items items (more_files files (close ks)))

  abbrev pub open_pieces : Option FileUse → List Piece → List Piece
  open_pieces None ks = ks
  open_pieces (Some opened) ks =
      calling system.Open (target_piece opened.target
      ∷ comma (named (item_name p opened.item) (comma (piece.Number (pos opened.depth) ∷ close ks))))

module _ (p : Program) (locals : List (List ℕ)) where
  abbrev pub return_pieces : Option Expr → List Piece → List Piece
  return_pieces None ks = ks
  return_pieces (Some expr) ks = value_pieces p locals value.Sum expr ks

  abbrev pub read_update_pieces : ℕ → Expr → Variable → List Piece → List Piece
  read_update_pieces buffer most got ks =
      calling system.ReadUpdate (named (receive_name p)
      (comma (named (item_name p buffer) (comma
      (value_pieces p locals value.Sum most (comma (named (variable_name p locals got) (close ks))))))))

  abbrev pub reply_pieces : ℕ → Expr → List Piece → List Piece
  reply_pieces buffer count ks =
      calling system.Reply (named (item_name p buffer) (comma (value_pieces p locals value.Sum count (close ks))))

  abbrev pub write_read_pieces : ℕ → ℕ → Expr → Expr → Variable → List Piece → List Piece
  write_read_pieces file buffer send room got ks =
      calling system.WriteRead (named (file_name p file)
      (comma (named (item_name p buffer) (comma
      (value_pieces p locals value.Sum send (comma
      (value_pieces p locals value.Sum room (comma (named (variable_name p locals got) (close ks))))))))))

  abbrev mutual
    pub what_pieces : What → List Piece → List Piece
    what_pieces (Assign to expr) ks =
        spot_pieces p locals to (piece.Symbol sign.Assign ∷ value_pieces p locals value.Sum expr ks)
    what_pieces (AssignCall to number values) ks =
        spot_pieces p locals to (piece.Symbol sign.Assign
        ∷ named (procedure_name p number) (arguments p locals values ks))
    what_pieces (If' cond _ first _ second) ks =
        piece.Keyword word.If ∷ test_pieces p locals test.Or cond
        (piece.Keyword word.Then ∷ inner_row first (piece.Keyword word.Else ∷ inner_row second ks))
    what_pieces (While' cond _ body) ks =
        piece.Keyword word.While ∷ test_pieces p locals test.Or cond (piece.Keyword word.Do ∷ inner_row body ks)
    what_pieces (For' counter from to down step _ body last) ks =
        piece.Keyword word.For ∷ named (variable_name p locals counter)
        (piece.Symbol sign.Assign ∷ value_pieces p locals value.Sum from
        (piece.Keyword (direction_word down) ∷ value_pieces p locals value.Sum to
        (step_pieces step (piece.Keyword word.Do ∷ inner_row body ks))))
    what_pieces (DoUntil' _ body cond) ks =
        piece.Keyword word.Do ∷ inner_row body (piece.Keyword word.Until ∷ test_pieces p locals test.Or cond ks)
    what_pieces (Call number values) ks =
        piece.Keyword word.Call ∷ named (procedure_name p number) (arguments p locals values ks)
    what_pieces (Return given) ks = piece.Keyword word.Return ∷ return_pieces given ks
    what_pieces (ReadUpdate buffer most got) ks = read_update_pieces buffer most got ks
    what_pieces (Reply buffer count) ks = reply_pieces buffer count ks
    what_pieces (WriteRead file buffer send room got) ks = write_read_pieces file buffer send room got ks
    what_pieces (Checkpoint items files) ks = called system.Checkpoint (checkpoint_list p items files ks)
    what_pieces CheckMonitor ks = called system.CheckMonitor ks
    what_pieces (Open file) ks = open_pieces p (slice_get p.files file) ks
    what_pieces Stop ks = called system.Stop ks

    -- statements in the place of one: none is the empty statement
    pub inner_row : {n : _} → Row_of-Statement n → List Piece → List Piece
    inner_row end_of-Statement ks = ks
    inner_row (more_of-Statement _ _ what end_of-Statement) ks = what_pieces what ks
    inner_row (more_of-Statement _ _ what (more_of-Statement _ _ next rest)) ks =
        piece.Keyword word.Begin ∷ what_pieces what
        (piece.Symbol sign.Semicolon ∷ what_pieces next (more_row rest (piece.Keyword word.End ∷ ks)))

    -- the statements after one
    pub more_row : {n : _} → Row_of-Statement n → List Piece → List Piece
    more_row end_of-Statement ks = ks
    more_row (more_of-Statement _ _ what rest) ks = piece.Symbol sign.Semicolon ∷ what_pieces what (more_row rest ks)

  -- the same of a list of statements: those after one, and those in the place of one
  abbrev pub more_statements : List Statement → List Piece → List Piece
  more_statements [] ks = ks
  more_statements (s ∷ rest) ks = piece.Symbol sign.Semicolon ∷ what_pieces s.what (more_statements rest ks)

  abbrev pub inner_pieces : List Statement → List Piece → List Piece
  inner_pieces [] ks = ks
  inner_pieces (s ∷ []) ks = what_pieces s.what ks
  inner_pieces (s ∷ next ∷ rest) ks =
      piece.Keyword word.Begin ∷ what_pieces s.what
      (piece.Symbol sign.Semicolon ∷ what_pieces next.what (more_statements rest (piece.Keyword word.End ∷ ks)))

  -- the statements of a procedure
  abbrev pub body_pieces : List Statement → List Piece → List Piece
  body_pieces [] ks = ks
  body_pieces (s ∷ rest) ks = what_pieces s.what (more_statements rest ks)
