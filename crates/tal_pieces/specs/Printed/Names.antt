-- The names that stand in a printed text in the place of a program's numbers.
use Rattle.std.specs.Prelude.{ℕ, List, ◌∷◌, slice_get, Option, Some, None, option_map}
use Rattle.std.specs.List.{position}
use Rattle.std.specs.Option.{option_and_then}
use Rattle.tal_tree.specs.declared.expression.Variable.{Variable}
use Rattle.tal_tree.specs.declared.expression.Variable.TheVariants as variable
use Rattle.tal_tree.specs.declared.program.Program.{Program}
use Rattle.tal_tree.specs.declared.program.Target.{Target}
use Rattle.tal_tree.specs.declared.program.Target.TheVariants as target
use Rattle.tal_pieces.specs.declared.piece.Piece.{Piece}
use Rattle.tal_pieces.specs.declared.piece.Piece.TheVariants as piece
use Rattle.tal_tree.specs.Targets.{receives}

-- a name, where there is one
abbrev pub named : Option (List ℕ) → List Piece → List Piece
named None ks = ks
named (Some name) ks = piece.Name name ∷ ks

abbrev pub item_name : Program → ℕ → Option (List ℕ)
item_name p item = option_map (λ i. i.name) (slice_get p.items item)

-- the name of a variable in a procedure with these locals
abbrev pub variable_name : Program → List (List ℕ) → Variable → Option (List ℕ)
variable_name p locals (variable.Local place) = slice_get locals place
variable_name p locals (variable.Simple item) = item_name p item

abbrev pub procedure_name : Program → ℕ → Option (List ℕ)
procedure_name p number = option_map (λ q. q.name) (slice_get p.procedures number)

-- the name of a file's variable
abbrev pub file_name : Program → ℕ → Option (List ℕ)
file_name p number = option_and_then (λ opened. item_name p opened.item) (slice_get p.files number)

-- the name of the first variable that is opened to `$RECEIVE`
abbrev pub receive_name : Program → Option (List ℕ)
receive_name p = option_and_then (file_name p) (position receives p.files)

-- the string that an OPEN names
abbrev pub target_piece : Target → Piece
target_piece target.Receive = piece.Receive
target_piece (target.Process name) = piece.Process name
