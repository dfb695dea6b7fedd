-- How the pieces of declarations and headings read back.
use Rattle.std.specs.Prelude.{◌≡◌, ℕ, Bool, List, [], ◌∷◌, ◌++◌, length, drop, slice_get, Some}
use Rattle.tal_tree.specs.declared.program.Item.{Item}
use Rattle.tal_tree.specs.declared.program.Shape.TheVariants as shape
use Rattle.tal_tree.specs.declared.statement.Statement.{Statement}
use Rattle.tal_tokens.specs.declared.token.At.{At}
use Rattle.tal_tokens.specs.declared.token.Token.{Token}
use Rattle.tal_tokens.specs.declared.token.Token.TheVariants as tok
use Rattle.tal_syntax.specs.Grammar as g
use Rattle.tal_syntax.specs.Expected.{AllAtMost}
use Rattle.tal_syntax.specs.Nesting.{nest_lines, nest_heading, nest_locals}
use Rattle.tal_declarations.specs.declared.table.Declared.{Declared}
use Rattle.tal_declarations.specs.declared.table.Headed.{Headed}
use Rattle.tal_rules.specs.Calls.{file_number}
use Rattle.tal_declarations.specs.Globals.{lines_faults, with_lines, nothing_declared}
use Rattle.tal_declarations.specs.Headings.{heading_faults, with_heading, locals_of}
use Rattle.tal_names.specs.Names.{Declarations, meaning_in}
use Rattle.tal_rules.specs.Texts.{gives_by, has_word_main, heading_locals_faults, locals_by}
use Rattle.tal_meaning.specs.Programs.{items_with, name_by, parameters_by, texts_of, procedure_with}
use Rattle.tal_pieces.specs.declared.piece.Keyword.TheVariants as word
use Rattle.tal_pieces.specs.declared.piece.Piece.{Piece}
use Rattle.tal_pieces.specs.declared.piece.Piece.TheVariants as piece
use Rattle.tal_pieces.specs.Cuts.{AreTokens}
use Rattle.tal_pieces.specs.Printed.Procedures.{items_pieces, heading_pieces, locals_pieces}
use Rattle.tal_pieces.proofs.Scopes.Agreement.{printed_declared, printed_headed}

-- the variables of files are declared as simple items
abbrev pub FilesAreSimple : Declarations → List Item → Type 0
FilesAreSimple files items =
    (k number : ℕ) (i : Item) → slice_get items k ≡ Some i → file_number (meaning_in i.name files) ≡ Some number
    → i.shape ≡ shape.Simple

-- the tokens begin with lines of globals that have no fault and declare all but the LITERALs, and those after them are
-- the later pieces
pub record LinesBack (d : Declared) (ks : List Piece) (tokens : List Token) : Type 0 where
  pub syntax : g.Lines
  pub rest : List Token
  pub front : tokens ≡ g.of_lines syntax rest
  pub later : AreTokens ks rest
  pub same : with_lines nothing_declared syntax ≡ printed_declared d
  pub faultless : lines_faults nothing_declared syntax ≡ []
  pub shallow : (ls : List ℕ) → AllAtMost 33 ls → AllAtMost 33 (nest_lines 0 syntax ls)

abbrev pub LinesReadBack : Type 0
LinesReadBack =
    (lines : g.Lines) (files : Declarations) (ks : List Piece) (tokens : List Token)
    → lines_faults nothing_declared lines ≡ []
    → FilesAreSimple files (with_lines nothing_declared lines).items
    → AreTokens (items_pieces (items_with files (with_lines nothing_declared lines).items) ks) tokens
    → LinesBack (with_lines nothing_declared lines) ks tokens

-- the tokens begin with the heading of a procedure, BEGIN and its locals, which have no fault and declare the same as
-- these
pub record HeadingBack (hd : Headed) (h : g.Heading) (inner : g.Locals) (is_main : Bool) (ks : List Piece)
    (tokens : List Token) : Type 0 where
  pub heading : g.Heading
  pub outer : g.Locals
  pub begin : At
  pub locals : g.Locals
  pub rest : List Token
  pub front : tokens ≡ g.of_heading heading (g.of_locals outer (tok.Begin begin ∷ g.of_locals locals rest))
  pub later : AreTokens ks rest
  pub name : name_by heading ≡ name_by h
  pub gives : gives_by heading ≡ gives_by h
  pub main : has_word_main heading ≡ is_main
  pub count : length (parameters_by heading) ≡ length (parameters_by h)
  pub texts : texts_of (parameters_by heading ++ locals_of locals) ≡ texts_of (parameters_by h ++ locals_of inner)
  pub declared : locals_by heading locals ≡ locals_by h inner
  pub next : with_heading (printed_headed hd) heading ≡ printed_headed (with_heading hd h)
  pub faultless : heading_faults (printed_headed hd) heading ≡ []
  pub fine : heading_locals_faults heading outer locals ≡ []
  pub shallow : (ls : List ℕ) → AllAtMost 33 ls
      → AllAtMost 33 (nest_heading 0 heading (nest_locals 0 outer (0 ∷ nest_locals 0 locals ls)))

abbrev pub HeadingsReadBack : Type 0
HeadingsReadBack =
    (hd : Headed) (h : g.Heading) (outer inner : g.Locals) (body : List Statement) (ks : List Piece)
    (tokens : List Token)
    → heading_faults hd h ≡ [] → heading_locals_faults h outer inner ≡ []
    → AreTokens (heading_pieces (has_word_main h) (procedure_with h inner body)
    (piece.Keyword word.Begin ∷ locals_pieces
    (drop (procedure_with h inner body).parameters (procedure_with h inner body).locals) ks)) tokens
    → HeadingBack hd h inner (has_word_main h) ks tokens
