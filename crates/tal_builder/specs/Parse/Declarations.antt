-- Declarations with which tokens begin.
use Rattle.std.specs.Prelude.{ℕ, List, ◌∷◌, length, Some, None, option_map}
use Rattle.std.specs.Option.{option_and_then}
use Rattle.tal_tokens.specs.declared.token.At.{At}
use Rattle.tal_tokens.specs.declared.token.Token.{Token}
use Rattle.tal_tokens.specs.declared.token.Token.TheVariants as tok
use Rattle.tal_syntax.specs.Grammar as g
use Rattle.tal_builder.specs.declared.plain_token.PlainToken.TheVariants as plain
use Rattle.tal_builder.specs.First.{name_of, is_line, is_local}
use Rattle.tal_builder.specs.PlainTokens.{plain_of}
use Rattle.tal_builder.specs.Parse.Chains.{Found, rest_by, row_by}

abbrev pub atom_at : List Token → Found g.Atom
atom_at (tok.Number at n ∷ ks) = Some (g.digits at n, ks)
atom_at (tok.Name at name ∷ ks) = Some (g.known at name, ks)
atom_at _ = None

abbrev pub constant_after : List Token → Found At → Found g.Constant
constant_after ks None = option_map (λ a. (g.positive a.0, a.1)) (atom_at ks)
constant_after ks (Some (sign, us)) = option_map (λ a. (g.negative sign a.0, a.1)) (atom_at us)

abbrev pub constant_at : List Token → Found g.Constant
constant_at ks = constant_after ks (plain_of plain.Minus ks)

abbrev pub bounds_after : List Token → Found At → Found g.Bounds
bounds_after ks None = Some (g.unbounded, ks)
bounds_after ks (Some (start, us)) =
    option_and_then (λ l. option_and_then (λ c. option_and_then (λ h. option_map (λ e.
    (g.bounded start l.0 c.0 h.0 e.0, e.1)) (plain_of plain.CloseIndex h.1)) (constant_at c.1))
    (plain_of plain.Colon l.1)) (constant_at us)

abbrev pub bounds_at : List Token → Found g.Bounds
bounds_at ks = bounds_after ks (plain_of plain.OpenIndex ks)

abbrev pub item_at : List Token → Found g.Item
item_at ks = option_and_then (λ w. option_map (λ b. (g.item w.0.0 w.0.1 b.0, b.1)) (bounds_at w.1)) (name_of ks)

abbrev pub items_at : List Token → Found g.Items
items_at ks = rest_by g.no_items g.more_items (plain_of plain.Comma) item_at (length ks) ks

abbrev pub literal_at : List Token → Found g.Literal
literal_at ks =
    option_and_then (λ w. option_and_then (λ e.
    option_map (λ c. (g.literal w.0.0 w.0.1 e.0 c.0, c.1)) (constant_at e.1)) (plain_of plain.Equal w.1))
    (name_of ks)

abbrev pub literals_at : List Token → Found g.Literals
literals_at ks = rest_by g.no_literals g.more_literals (plain_of plain.Comma) literal_at (length ks) ks

-- item items ";", after INT
abbrev pub int_line_at : At → List Token → Found g.Globals
int_line_at int ks =
    option_and_then (λ f. option_and_then (λ m.
    option_map (λ e. (g.int_line int f.0 m.0 e.0, e.1)) (plain_of plain.Semicolon m.1)) (items_at f.1)) (item_at ks)

-- literal literals ";", after LITERAL
abbrev pub literal_line_at : At → List Token → Found g.Globals
literal_line_at word ks =
    option_and_then (λ f. option_and_then (λ m.
    option_map (λ e. (g.literal_line word f.0 m.0 e.0, e.1)) (plain_of plain.Semicolon m.1)) (literals_at f.1))
    (literal_at ks)

abbrev pub line_after : List Token → Found At → Found g.Globals
line_after ks None = option_and_then (λ w. literal_line_at w.0 w.1) (plain_of plain.Literal ks)
line_after ks (Some (int, us)) = int_line_at int us

abbrev pub line_at : List Token → Found g.Globals
line_at ks = line_after ks (plain_of plain.Int ks)

abbrev pub lines_at : List Token → Found g.Lines
lines_at ks = row_by g.no_lines g.more_lines is_line line_at (length ks) ks

abbrev pub link_name : At → At × List ℕ → g.Names → g.Names
link_name comma w rest = g.more_names comma w.0 w.1 rest

abbrev pub names_at : List Token → Found g.Names
names_at ks = rest_by g.no_names link_name (plain_of plain.Comma) name_of (length ks) ks

-- name names, after the opening sign and up to the closing one
abbrev pub parameters_after : List Token → Found At → Found g.Parameters
parameters_after ks None = Some (g.no_parameters, ks)
parameters_after ks (Some (start, us)) =
    option_and_then (λ w. option_and_then (λ m.
    option_map (λ c. (g.parameters start w.0.0 w.0.1 m.0 c.0, c.1)) (plain_of plain.Close m.1)) (names_at w.1))
    (name_of us)

abbrev pub parameters_at : List Token → Found g.Parameters
parameters_at ks = parameters_after ks (plain_of plain.Open ks)

abbrev pub local_at : List Token → Found g.Local
local_at ks =
    option_and_then (λ i. option_and_then (λ w. option_and_then (λ m. option_map (λ e.
    (g.local i.0 w.0.0 w.0.1 m.0 e.0, e.1)) (plain_of plain.Semicolon m.1)) (names_at w.1)) (name_of i.1))
    (plain_of plain.Int ks)

abbrev pub locals_at : List Token → Found g.Locals
locals_at ks = row_by g.no_locals g.more_locals is_local local_at (length ks) ks

abbrev pub gives_after : List Token → Found At → Found g.Gives
gives_after ks None = Some (g.gives_nothing, ks)
gives_after ks (Some (at, us)) = Some (g.gives_int at, us)

abbrev pub gives_at : List Token → Found g.Gives
gives_at ks = gives_after ks (plain_of plain.Int ks)

abbrev pub main_after : List Token → Found At → Found g.Main
main_after ks None = Some (g.not_main, ks)
main_after ks (Some (at, us)) = Some (g.is_main at, us)

abbrev pub main_at : List Token → Found g.Main
main_at ks = main_after ks (plain_of plain.Main ks)

abbrev pub heading_at : List Token → Found g.Heading
heading_at ks =
    option_and_then (λ i. option_and_then (λ p.
    option_and_then (λ w. option_and_then (λ a. option_and_then (λ m. option_map (λ e.
    (g.heading i.0 p.0 w.0.0 w.0.1 a.0 m.0 e.0, e.1)) (plain_of plain.Semicolon m.1)) (main_at a.1))
    (parameters_at w.1)) (name_of p.1)) (plain_of plain.Proc i.1)) (gives_at ks)
