-- Syntaxes of lines whose places are counted: a part is given the column at which it begins, and says how wide it is.
use Rattle.std.proofs.Common.{ℕ, ◌+◌, ◌-◌, pos, List, [], ◌∷◌, length, codes}
use Rattle.tal_tokens.specs.declared.token.At.{At}
use Rattle.tal_syntax.specs.Grammar as g

-- a line: where so many bytes stand on it from a column on
abbrev pub Line : Type 0
Line = ℕ → ℕ → At

-- a line of this number, before which so many bytes stand
abbrev pub line : ℕ → ℕ → Line
line number before column width =
    record {
      place = record { line = number; column = column };
      start = before + column - 1;
      end = before + column - 1 + width;
    }

abbrev pub alone : g.Factor → g.Expr
alone factor =
    g.expr (g.both (g.relation (g.sum (g.product factor g.no_factors) g.no_terms) g.alone) g.no_ands) g.no_ors

-- a digit
abbrev pub digit : Line → ℕ → ℕ → g.Factor
digit at column n = g.number (at column 1) (pos n)

-- a name
abbrev pub named : Line → ℕ → List ℕ → g.Spot
named at column name = g.spot (at column (length name)) name g.no_index

-- an element whose index is a digit
abbrev pub element : Line → ℕ → List ℕ → ℕ → g.Spot
element at column name n =
    g.spot (at column (length name)) name
    (g.index (at (column + length name) 1) (alone (digit at (column + length name + 1) n))
    (at (column + length name + 2) 1))

-- an item, and an array from 0 up to a digit
abbrev pub item : Line → ℕ → List ℕ → g.Item
item at column name = g.item (at column (length name)) name g.unbounded

abbrev pub array : Line → ℕ → List ℕ → ℕ → g.Item
array at column name high =
    g.item (at column (length name)) name
    (g.bounded (at (column + length name) 1) (g.positive (g.digits (at (column + length name + 1) 1) (pos 0)))
    (at (column + length name + 2) 1)
    (g.positive (g.digits (at (column + length name + 3) 1) (pos high))) (at (column + length name + 4) 1))

-- an argument and its width
pub record Piece : Type 0 where
  pub width : ℕ
  pub stands : Line → ℕ → g.Argument

abbrev pub a_name : List ℕ → Piece
a_name name = record { width = length name; stands = λ at column. g.value (alone (g.read (named at column name))) }

abbrev pub a_digit : ℕ → Piece
a_digit n = record { width = 1; stands = λ at column. g.value (alone (digit at column n)) }

abbrev pub receive : Piece
receive = record { width = 10; stands = λ at column. g.receive (at column 10) }

abbrev pub process : List ℕ → Piece
process name = record { width = length name + 2; stands = λ at column. g.process (at column (length name + 2)) name }

-- arguments behind a comma and a space each, and where they end
abbrev further : Line → ℕ → List Piece → g.Further
further at column [] = g.no_further
further at column (piece ∷ pieces) =
    g.more_further (at column 1) (piece.stands at (column + 2)) (further at (column + 2 + piece.width) pieces)

abbrev ending : ℕ → List Piece → ℕ
ending column [] = column
ending column (piece ∷ pieces) = ending (column + 2 + piece.width) pieces

abbrev arguments : Line → ℕ → List Piece → g.Arguments
arguments at column [] = g.unlisted
arguments at column (piece ∷ pieces) =
    g.listed (at column 1) (piece.stands at (column + 1)) (further at (column + 1 + piece.width) pieces)
    (at (ending (column + 1 + piece.width) pieces) 1)

-- CALL, a name and its arguments
abbrev pub call : Line → ℕ → List ℕ → List Piece → g.Statement
call at column name pieces =
    g.call (at column 4) (at (column + 5) (length name)) name (arguments at (column + 5 + length name) pieces)

-- The lines that the texts share

abbrev pub reads_request : Line → g.Statement
reads_request at =
    call at 1 (codes "READUPDATE") (a_name (codes "RCV") ∷ a_name (codes "BUF") ∷ a_digit 1 ∷ a_name (codes "GOT") ∷ [])

abbrev pub adds : Line → g.Statement
adds at =
    g.assign (named at 1 (codes "TOTAL")) (at 7 2)
    (g.expr
    (g.both
    (g.relation
    (g.sum (g.product (g.read (named at 10 (codes "TOTAL"))) g.no_factors)
    (g.more_terms (g.plus (at 16 1)) (g.product (g.read (element at 18 (codes "BUF") 0)) g.no_factors) g.no_terms))
    g.alone)
    g.no_ands)
    g.no_ors)

-- an element of an array is set
abbrev pub puts : Line → List ℕ → ℕ → (Line → ℕ → g.Factor) → g.Statement
puts at name n value = g.assign (element at 1 name n) (at (length name + 5) 2) (alone (value at (length name + 8)))

abbrev pub total : Line → ℕ → g.Factor
total at column = g.read (named at column (codes "TOTAL"))

abbrev pub replies : Line → g.Statement
replies at = call at 1 (codes "REPLY") (a_name (codes "BUF") ∷ a_digit 1 ∷ [])

abbrev pub opens_receive : Line → g.Statement
opens_receive at = call at 1 (codes "OPEN") (receive ∷ a_name (codes "RCV") ∷ a_digit 1 ∷ [])
