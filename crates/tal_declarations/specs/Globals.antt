-- The lines of globals: what they declare, and their faults.
use Rattle.std.specs.Prelude.{ℕ, ◌+◌, ◌||◌, min, nat_lt, nat_le, Bool, false, ℤ, pos, zero, neg_ℤ, int_lt, List, []}
use Rattle.std.specs.Prelude.{◌∷◌, ◌++◌, length, Option, Some, None, option_map, is_some, unwrap_or, if◌then◌else◌}
use Rattle.gd_words.specs.Arithmetic.{wrap}
use Rattle.tal_syntax.specs.tal_tokens.specs.declared.token.At.{At}
use Rattle.tal_syntax.specs.Grammar as g
use Rattle.tal_syntax.specs.tal_tree.specs.Shapes.{width}
use Rattle.tal_syntax.specs.tal_tree.specs.declared.program.Shape.{Shape}
use Rattle.tal_syntax.specs.tal_tree.specs.declared.program.Shape.TheVariants as shape
use Rattle.tal_names.specs.declared.fault.Rule.TheVariants.{Unknown, Twice, WrongKind, Limit}
use Rattle.tal_names.specs.declared.fault.RuleFault.{RuleFault}
use Rattle.tal_names.specs.declared.meaning.Meaning.{Meaning}
use Rattle.tal_names.specs.declared.meaning.Meaning.TheVariants as m
use Rattle.tal_declarations.specs.declared.table.Declared.{Declared}
use Rattle.tal_declarations.specs.declared.table.Extent.{Extent}
use Rattle.tal_names.specs.Faults.{fault_at, if_so}
use Rattle.tal_names.specs.Names.{Declarations, is_declared, meaning_in, with_name}
use Rattle.tal_names.specs.Systems.{system_of}
use Rattle.gd_words.specs.declared.limits.TheConstants.{MOST_ARRAY_WORDS, MOST_GLOBALS, MOST_GLOBAL_WORDS}
use Rattle.tal_tree.specs.declared.limit.ProgramLimit.TheVariants as program_limit

-- a name can't be declared where it is declared before, or is the system's
abbrev pub is_taken : Declarations → List ℕ → Bool
is_taken names name = is_some (system_of name) || is_declared name names

abbrev pub taken_faults : Declarations → At → List ℕ → List RuleFault
taken_faults names at name = if_so (is_taken names name) (fault_at at Twice)

-- what the name of a constant stands for, where it has one
abbrev pub atom_meaning : Declarations → g.Atom → Option Meaning
atom_meaning names (g.digits at value) = None
atom_meaning names (g.known at name) = meaning_in name names

abbrev pub atom_of : g.Constant → g.Atom
atom_of (g.positive a) = a
atom_of (g.negative sign a) = a

abbrev pub constant_meaning : Declarations → g.Constant → Option Meaning
constant_meaning names c = atom_meaning names (atom_of c)

abbrev pub first_of_atom : g.Atom → At
first_of_atom (g.digits at value) = at
first_of_atom (g.known at name) = at

abbrev pub first_of_constant : g.Constant → At
first_of_constant (g.positive a) = first_of_atom a
first_of_constant (g.negative sign a) = sign

-- a constant's name has to be that of a LITERAL
abbrev pub literal_faults : At → Option Meaning → List RuleFault
literal_faults at None = fault_at at Unknown
literal_faults at (Some (m.Literal value)) = []
literal_faults at (Some _) = fault_at at WrongKind

abbrev pub atom_faults : g.Atom → Option Meaning → List RuleFault
atom_faults (g.digits at value) named = []
atom_faults (g.known at name) named = literal_faults at named

abbrev pub constant_faults : g.Constant → Option Meaning → List RuleFault
constant_faults c named = atom_faults (atom_of c) named

-- the word that a constant is, where its name stands for what it does; `-` wraps
abbrev pub literal_value : Option Meaning → Option ℤ
literal_value None = None
literal_value (Some (m.Literal value)) = Some value
literal_value (Some _) = None

abbrev pub atom_value : g.Atom → Option Meaning → Option ℤ
atom_value (g.digits at value) named = Some value
atom_value (g.known at name) named = literal_value named

abbrev pub negated : ℤ → ℤ
negated value = wrap (neg_ℤ value)

abbrev pub constant_value : g.Constant → Option Meaning → Option ℤ
constant_value (g.positive a) named = atom_value a named
constant_value (g.negative sign a) named = option_map negated (atom_value a named)

-- the bounds of an array, where both are words and the low one isn't above the high one
abbrev pub ordered : ℤ → ℤ → Option (ℤ × ℤ)
ordered low high = if int_lt high low then None else Some (low, high)

abbrev pub bounds_by : Option ℤ → Option ℤ → Option (ℤ × ℤ)
bounds_by None high = None
bounds_by (Some low) None = None
bounds_by (Some low) (Some high) = ordered low high

-- whether both bounds are words and the low one is above the high one
abbrev pub is_reversed : Option ℤ → Option ℤ → Bool
is_reversed None high = false
is_reversed (Some low) None = false
is_reversed (Some low) (Some high) = int_lt high low

abbrev pub bounds_faults : Declarations → g.Bounds → List RuleFault
bounds_faults names g.unbounded = []
bounds_faults names (g.bounded start low colon high close) =
    constant_faults low (constant_meaning names low) ++ constant_faults high (constant_meaning names high)
    ++ if_so (is_reversed (constant_value low (constant_meaning names low))
    (constant_value high (constant_meaning names high))) (fault_at (first_of_constant high) WrongKind)

-- the shape of an item and how many words it takes; one whose bounds have a fault takes none, and its shape plays no
-- part
abbrev pub array_by : Option (ℤ × ℤ) → Extent
array_by None = record { shape = shape.Simple; words = 0 }
array_by (Some (low, high)) = record { shape = shape.Array low high; words = width (shape.Array low high) }

abbrev pub extent_of : Declarations → g.Bounds → Extent
extent_of names g.unbounded = record { shape = shape.Simple; words = 1 }
extent_of names (g.bounded start low colon high close) =
    array_by (bounds_by (constant_value low (constant_meaning names low))
    (constant_value high (constant_meaning names high)))

-- at most 64 global names, 1,024 words, and 256 words an array
abbrev pub item_limits : Declared → At → ℕ → List RuleFault
item_limits d at words =
    if_so (nat_le MOST_GLOBALS (length d.items)) (fault_at at (Limit program_limit.Globals))
    ++ if_so (nat_lt MOST_GLOBAL_WORDS (d.words + words)) (fault_at at (Limit program_limit.GlobalWords))
    ++ if_so (nat_lt MOST_ARRAY_WORDS words) (fault_at at (Limit program_limit.ArrayWords))

abbrev pub item_faults : Declared → g.Item → List RuleFault
item_faults d (g.item at name bounds) =
    taken_faults d.names at name ++ bounds_faults d.names bounds ++ item_limits d at (extent_of d.names bounds).words

-- what an item is declared as. Items past the limit all have the number 64, which plays no part
abbrev pub item_meaning : Shape → ℕ → Meaning
item_meaning shape.Simple before = m.Simple (min MOST_GLOBALS before)
item_meaning (shape.Array low high) before = m.Array (min MOST_GLOBALS before)
item_meaning (shape.File number) before = m.Simple (min MOST_GLOBALS before)

-- with one more item. The words past the limit count as 1025
abbrev pub with_extent : Declared → List ℕ → Extent → Declared
with_extent d name x = record {
  names = with_name d.names name (item_meaning x.shape (length d.items));
  items = d.items ++ record { name = name; shape = x.shape } ∷ [];
  words = min 1025 (d.words + x.words);
}

abbrev pub with_item : Declared → g.Item → Declared
with_item d (g.item at name bounds) = with_extent d name (extent_of d.names bounds)

-- LITERAL declares a name after its own constant
abbrev pub literal_line_faults : Declared → g.Literal → List RuleFault
literal_line_faults d (g.literal at name equal c) =
    taken_faults d.names at name ++ constant_faults c (constant_meaning d.names c)

abbrev pub with_literal : Declared → g.Literal → Declared
with_literal d (g.literal at name equal c) =
    record {
      names = with_name d.names name
          (m.Literal (unwrap_or (constant_value c (constant_meaning d.names c)) (pos zero)));
      items =
          d.items;
      words = d.words;
    }

abbrev pub items_faults : Declared → g.Items → List RuleFault
items_faults d g.no_items = []
items_faults d (g.more_items comma i rest) = item_faults d i ++ items_faults (with_item d i) rest

abbrev pub with_items : Declared → g.Items → Declared
with_items d g.no_items = d
with_items d (g.more_items comma i rest) = with_items (with_item d i) rest

abbrev pub literals_faults : Declared → g.Literals → List RuleFault
literals_faults d g.no_literals = []
literals_faults d (g.more_literals comma l rest) = literal_line_faults d l ++ literals_faults (with_literal d l) rest

abbrev pub with_literals : Declared → g.Literals → Declared
with_literals d g.no_literals = d
with_literals d (g.more_literals comma l rest) = with_literals (with_literal d l) rest

abbrev pub line_faults : Declared → g.Globals → List RuleFault
line_faults d (g.int_line int first more end) = item_faults d first ++ items_faults (with_item d first) more
line_faults d (g.literal_line word first more end) =
    literal_line_faults d first ++ literals_faults (with_literal d first) more

abbrev pub with_line : Declared → g.Globals → Declared
with_line d (g.int_line int first more end) = with_items (with_item d first) more
with_line d (g.literal_line word first more end) = with_literals (with_literal d first) more

abbrev pub lines_faults : Declared → g.Lines → List RuleFault
lines_faults d g.no_lines = []
lines_faults d (g.more_lines l rest) = line_faults d l ++ lines_faults (with_line d l) rest

abbrev pub with_lines : Declared → g.Lines → Declared
with_lines d g.no_lines = d
with_lines d (g.more_lines l rest) = with_lines (with_line d l) rest

-- what stands before the first line
abbrev pub nothing_declared : Declared
nothing_declared = record { names = []; items = []; words = 0 }
