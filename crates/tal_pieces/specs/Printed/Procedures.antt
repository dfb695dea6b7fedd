-- The pieces of declarations, procedures and whole programs: one declaration a line, and LITERALs are gone.
use Rattle.std.specs.Prelude.{ℕ, Bool, true, false, List, [], ◌∷◌, take, drop, if◌then◌else◌}
use Rattle.tal_tree.specs.declared.program.Item.{Item}
use Rattle.tal_tree.specs.declared.program.Procedure.{Procedure}
use Rattle.tal_tree.specs.declared.program.Program.{Program}
use Rattle.tal_tree.specs.declared.program.Shape.{Shape}
use Rattle.tal_tree.specs.declared.program.Shape.TheVariants as shape
use Rattle.tal_pieces.specs.declared.piece.Keyword.{Keyword}
use Rattle.tal_pieces.specs.declared.piece.Keyword.TheVariants as word
use Rattle.tal_pieces.specs.declared.piece.Symbol.TheVariants as sign
use Rattle.tal_pieces.specs.declared.piece.Piece.{Piece}
use Rattle.tal_pieces.specs.declared.piece.Piece.TheVariants as piece
use Rattle.tal_pieces.specs.Printed.Statements.{body_pieces}

-- a keyword, where it is wanted
abbrev pub word_if : Bool → Keyword → List Piece → List Piece
word_if wanted k ks = if wanted then piece.Keyword k ∷ ks else ks

-- the bounds of an array; the variable of a file is declared as a simple one
abbrev pub shape_pieces : Shape → List Piece → List Piece
shape_pieces shape.Simple ks = ks
shape_pieces (shape.Array low high) ks =
    piece.Symbol sign.OpenIndex ∷ piece.Number low ∷ piece.Symbol sign.Colon ∷ piece.Number high
    ∷ piece.Symbol sign.CloseIndex ∷ ks
shape_pieces (shape.File number) ks = ks

abbrev pub items_pieces : List Item → List Piece → List Piece
items_pieces [] ks = ks
items_pieces (i ∷ rest) ks =
    piece.Keyword word.Int ∷ piece.Name i.name
    ∷ shape_pieces i.shape (piece.Symbol sign.Semicolon ∷ items_pieces rest ks)

abbrev pub more_names : List (List ℕ) → List Piece → List Piece
more_names [] ks = ks
more_names (name ∷ rest) ks = piece.Symbol sign.Comma ∷ piece.Name name ∷ more_names rest ks

abbrev pub parameters_pieces : List (List ℕ) → List Piece → List Piece
parameters_pieces [] ks = ks
parameters_pieces (name ∷ rest) ks =
    piece.Symbol sign.Open ∷ piece.Name name ∷ more_names rest (piece.Symbol sign.Close ∷ ks)

abbrev pub locals_pieces : List (List ℕ) → List Piece → List Piece
locals_pieces [] ks = ks
locals_pieces (name ∷ rest) ks =
    piece.Keyword word.Int ∷ piece.Name name ∷ piece.Symbol sign.Semicolon ∷ locals_pieces rest ks

-- what stands before a procedure's BEGIN: its heading and its parameters
abbrev pub heading_pieces : Bool → Procedure → List Piece → List Piece
heading_pieces is_main q ks =
    word_if q.gives word.Int (piece.Keyword word.Proc ∷ piece.Name q.name
    ∷ parameters_pieces (take q.parameters q.locals)
    (word_if is_main word.Main (piece.Symbol sign.Semicolon ∷ locals_pieces (take q.parameters q.locals) ks)))

abbrev pub procedure_pieces : Program → Bool → Procedure → List Piece → List Piece
procedure_pieces p is_main q ks =
    heading_pieces is_main q (piece.Keyword word.Begin ∷ locals_pieces (drop q.parameters q.locals)
    (body_pieces p q.locals q.body (piece.Keyword word.End ∷ piece.Symbol sign.Semicolon ∷ ks)))

abbrev pub procedures_pieces : Program → List Procedure → List Piece → List Piece
procedures_pieces p [] ks = ks
procedures_pieces p (q ∷ rest) ks = procedure_pieces p false q (procedures_pieces p rest ks)

-- procedures whose first one is the main one
abbrev pub main_pieces : Program → List Procedure → List Piece → List Piece
main_pieces p [] ks = ks
main_pieces p (q ∷ rest) ks = procedure_pieces p true q (procedures_pieces p rest ks)

-- the pieces of a program's text
abbrev pub program_pieces : Program → List Piece
program_pieces p = items_pieces p.items (procedures_pieces p (take p.main p.procedures)
    (main_pieces p (drop p.main p.procedures) []))
