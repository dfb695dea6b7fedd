-- The rules of the grammar that declare: constants, global items, literals, parameters and locals.
use Rattle.std.specs.Prelude.{ℕ, ℤ, List, ◌∷◌}
use Rattle.tal_tokens.specs.declared.token.At.{At}
use Rattle.tal_tokens.specs.declared.token.Token.{Token}
use Rattle.tal_tokens.specs.declared.token.Token.TheVariants as tok

-- atom = number | name
pub data Atom : Type 0 where
  digits : At → ℤ → Atom
  known : At → List ℕ → Atom

abbrev pub of_atom : Atom → List Token → List Token
of_atom (digits at n) ks = tok.Number at n ∷ ks
of_atom (known at name) ks = tok.Name at name ∷ ks

-- constant = [ "-" ] atom
pub data Constant : Type 0 where
  positive : Atom → Constant
  negative : At → Atom → Constant

abbrev pub of_constant : Constant → List Token → List Token
of_constant (positive a) ks = of_atom a ks
of_constant (negative sign a) ks = tok.Minus sign ∷ of_atom a ks

-- bounds = [ "[" constant ":" constant "]" ]
pub data Bounds : Type 0 where
  unbounded : Bounds
  bounded : At → Constant → At → Constant → At → Bounds

abbrev pub of_bounds : Bounds → List Token → List Token
of_bounds unbounded ks = ks
of_bounds (bounded start low colon high close) ks =
    tok.OpenIndex start ∷ of_constant low (tok.Colon colon ∷ of_constant high (tok.CloseIndex close ∷ ks))

-- item = name bounds
pub data Item : Type 0 where
  item : At → List ℕ → Bounds → Item

abbrev pub of_item : Item → List Token → List Token
of_item (item at name b) ks = tok.Name at name ∷ of_bounds b ks

-- items = { "," item }
pub data Items : Type 0 where
  no_items : Items
  more_items : At → Item → Items → Items

abbrev pub of_items : Items → List Token → List Token
of_items no_items ks = ks
of_items (more_items comma i rest) ks = tok.Comma comma ∷ of_item i (of_items rest ks)

-- literal = name "=" constant
pub data Literal : Type 0 where
  literal : At → List ℕ → At → Constant → Literal

abbrev pub of_literal : Literal → List Token → List Token
of_literal (literal at name equal c) ks = tok.Name at name ∷ tok.Equal equal ∷ of_constant c ks

-- literals = { "," literal }
pub data Literals : Type 0 where
  no_literals : Literals
  more_literals : At → Literal → Literals → Literals

abbrev pub of_literals : Literals → List Token → List Token
of_literals no_literals ks = ks
of_literals (more_literals comma l rest) ks = tok.Comma comma ∷ of_literal l (of_literals rest ks)

-- globals = INT item items ";" | LITERAL literal literals ";"
pub data Globals : Type 0 where
  int_line : At → Item → Items → At → Globals
  literal_line : At → Literal → Literals → At → Globals

abbrev pub of_globals : Globals → List Token → List Token
of_globals (int_line int first more end) ks = tok.Int int ∷ of_item first (of_items more (tok.Semicolon end ∷ ks))
of_globals (literal_line word first more end) ks =
    tok.Literal word ∷ of_literal first (of_literals more (tok.Semicolon end ∷ ks))

-- lines = { globals }
pub data Lines : Type 0 where
  no_lines : Lines
  more_lines : Globals → Lines → Lines

abbrev pub of_lines : Lines → List Token → List Token
of_lines no_lines ks = ks
of_lines (more_lines l rest) ks = of_globals l (of_lines rest ks)

-- names = { "," name }
pub data Names : Type 0 where
  no_names : Names
  more_names : At → At → List ℕ → Names → Names

abbrev pub of_names : Names → List Token → List Token
of_names no_names ks = ks
of_names (more_names comma at name rest) ks = tok.Comma comma ∷ tok.Name at name ∷ of_names rest ks

-- parameters = [ "(" name names ")" ]
pub data Parameters : Type 0 where
  no_parameters : Parameters
  parameters : At → At → List ℕ → Names → At → Parameters

abbrev pub of_parameters : Parameters → List Token → List Token
of_parameters no_parameters ks = ks
of_parameters (parameters start at name more close) ks =
    tok.Open start ∷ tok.Name at name ∷ of_names more (tok.Close close ∷ ks)

-- local = INT name names ";"
pub data Local : Type 0 where
  local : At → At → List ℕ → Names → At → Local

abbrev pub of_local : Local → List Token → List Token
of_local (local int at name more end) ks = tok.Int int ∷ tok.Name at name ∷ of_names more (tok.Semicolon end ∷ ks)

-- locals = { local }
pub data Locals : Type 0 where
  no_locals : Locals
  more_locals : Local → Locals → Locals

abbrev pub of_locals : Locals → List Token → List Token
of_locals no_locals ks = ks
of_locals (more_locals l rest) ks = of_local l (of_locals rest ks)

-- gives = [ INT ]
pub data Gives : Type 0 where
  gives_nothing : Gives
  gives_int : At → Gives

abbrev pub of_gives : Gives → List Token → List Token
of_gives gives_nothing ks = ks
of_gives (gives_int at) ks = tok.Int at ∷ ks

-- main = [ MAIN ]
pub data Main : Type 0 where
  not_main : Main
  is_main : At → Main

abbrev pub of_main : Main → List Token → List Token
of_main not_main ks = ks
of_main (is_main at) ks = tok.Main at ∷ ks

-- heading = gives PROC name parameters main ";"
pub data Heading : Type 0 where
  heading : Gives → At → At → List ℕ → Parameters → Main → At → Heading

abbrev pub of_heading : Heading → List Token → List Token
of_heading (heading g proc at name p m end) ks =
    of_gives g (tok.Proc proc ∷ tok.Name at name ∷ of_parameters p (of_main m (tok.Semicolon end ∷ ks)))
