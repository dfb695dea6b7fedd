-- What a text declares can be spelled.
use Rattle.std.proofs.Common.{ℕ, zero, List, [], ◌∷◌, length}
use Rattle.std.specs.Prelude.{ℤ, pos, neg_ℤ, int_lt, option_map, unwrap_or, Option, Some, None, FitsSigned}
use Rattle.std.specs.Int.{w16}
use Rattle.std.proofs.lemmas.Int.{SFits-int_wrap}
use Rattle.tal_tree.specs.declared.program.Shape.{Shape}
use Rattle.tal_tree.specs.declared.program.Shape.TheVariants as shape
use Rattle.tal_tokens.specs.declared.token.Token.{Token}
use Rattle.tal_tokens.specs.declared.token.Token.TheVariants as tok
use Rattle.tal_syntax.specs.Grammar as g
use Rattle.tal_names.specs.declared.meaning.Meaning.{Meaning}
use Rattle.tal_names.specs.declared.meaning.Meaning.TheVariants as m
use Rattle.tal_declarations.specs.declared.table.Declared.{Declared}
use Rattle.tal_declarations.specs.declared.table.Extent.{Extent}
use Rattle.tal_names.specs.declared.scope.Named.{Named}
use Rattle.tal_declarations.specs.Globals.{atom_meaning, constant_meaning, literal_value, atom_value, negated}
use Rattle.tal_declarations.specs.Globals.{constant_value, bounds_by, array_by, extent_of, item_meaning, with_item}
use Rattle.tal_declarations.specs.Globals.{with_literal, with_items, with_literals, with_line, with_lines}
use Rattle.tal_declarations.specs.Headings.{names_of, parameters_of, local_names, locals_of}
use Rattle.tal_names.specs.Names.{Declarations}
use Rattle.tal_meaning.specs.Programs.{name_by, parameters_by}
use Rattle.tal_pieces.proofs.Words.LiteralWords.{MeaningFits, FoundFits, AreFitting, found_fits, with_fits}
use Rattle.tal_pieces.proofs.Words.SpelledSyntax.{AllSpelled, zero_fits}
use Rattle.tal_pieces.proofs.Spelling.SpelledTokens.{either}
use Rattle.tal_pieces.proofs.Words.WordPrograms.{IsName, ShapeSpells, ItemSpells}
use Rattle.tal_pieces.proofs.Common.Entries.{each_append, Each}

-- constants are words
abbrev pub ValueFits : Option ℤ → Type 0
ValueFits None = Unit {0}
ValueFits (Some value) = FitsSigned w16 value

pub literal_fits : (found : Option Meaning) → FoundFits found → ValueFits (literal_value found)
literal_fits None h = tt
literal_fits (Some (m.Local place)) h = tt
literal_fits (Some (m.Simple item)) h = tt
literal_fits (Some (m.Literal value)) h = h
literal_fits (Some (m.Array item)) h = tt
literal_fits (Some (m.Procedure number gives parameters)) h = tt
literal_fits (Some (m.ReceiveFile item number)) h = tt
literal_fits (Some (m.ProcessFile item number)) h = tt
literal_fits (Some (m.StrayFile item number)) h = tt

pub negated_fits : (found : Option ℤ) → ValueFits (option_map negated found)
negated_fits None = tt
negated_fits (Some value) = SFits-int_wrap w16 (neg_ℤ value)

module _ (names : Declarations) (fits : AreFitting names) where
  words_atom : (a : g.Atom) (ks : List Token) → AllSpelled (g.of_atom a ks)
      → ValueFits (atom_value a (atom_meaning names a)) × AllSpelled ks
  words_atom (g.digits at value) ks h = h
  words_atom (g.known at name) ks h = (literal_fits _ (found_fits name names fits), h.1)

  words_constant : (c : g.Constant) (ks : List Token) → AllSpelled (g.of_constant c ks)
      → ValueFits (constant_value c (constant_meaning names c)) × AllSpelled ks
  words_constant (g.positive a) ks h = words_atom a ks h
  words_constant (g.negative sign a) ks h = (negated_fits _, (words_atom a ks h.1).1)

  bounds_spell : (low high : Option ℤ) → ValueFits low → ValueFits high
      → ShapeSpells (array_by (bounds_by low high)).shape
  bounds_spell None high l h = tt
  bounds_spell (Some low) None l h = tt
  bounds_spell (Some low) (Some high) l h =
      either (λ o. ShapeSpells (array_by o).shape) (int_lt high low) None (Some (low, high)) tt (l, h)

  words_bounds : (b : g.Bounds) (ks : List Token) → AllSpelled (g.of_bounds b ks)
      → ShapeSpells (extent_of names b).shape × AllSpelled ks
  words_bounds g.unbounded ks h = (tt, h)
  words_bounds (g.bounded start low colon high close) ks h =
      let l = words_constant low (tok.Colon colon ∷ g.of_constant high (tok.CloseIndex close ∷ ks)) h.1 in
      let r = words_constant high (tok.CloseIndex close ∷ ks) l.1.1 in (
        bounds_spell (constant_value low (constant_meaning names low))
            (constant_value high (constant_meaning names high)) l.0 r.0,
        r.1.1,
      )

-- globals
abbrev pub DeclaredSpells : Declared → Type 0
DeclaredSpells d = Each ItemSpells d.items × AreFitting d.names

is_no_literal : (x : Shape) (before : ℕ) → MeaningFits (item_meaning x before)
is_no_literal shape.Simple before = tt
is_no_literal (shape.Array low high) before = tt
is_no_literal (shape.File number) before = tt

unwrapped : (found : Option ℤ) → ValueFits found → FitsSigned w16 (unwrap_or found (pos zero))
unwrapped None h = zero_fits
unwrapped (Some value) h = h

words_item : (i : g.Item) (d : Declared) (ks : List Token) → DeclaredSpells d → AllSpelled (g.of_item i ks)
    → DeclaredSpells (with_item d i) × AllSpelled ks
words_item (g.item at name bounds) d ks h a =
    let r = words_bounds d.names h.1 bounds ks a.1 in
    let x : Extent = extent_of d.names bounds in (
      (
        each_append ItemSpells d.items (record { name = name; shape = x.shape } ∷ []) h.0 ((a.0, r.0), tt),
        with_fits d.names name (item_meaning x.shape (length d.items)) h.1 (is_no_literal x.shape (length d.items)),
      ),
      r.1,
    )

words_literal : (l : g.Literal) (d : Declared) (ks : List Token) → DeclaredSpells d → AllSpelled (g.of_literal l ks)
    → DeclaredSpells (with_literal d l) × AllSpelled ks
words_literal (g.literal at name equal c) d ks h a =
    let r = words_constant d.names h.1 c ks a.1.1 in
    ((h.0, with_fits d.names name _ h.1 (unwrapped (constant_value c (constant_meaning d.names c)) r.0)), r.1)

words_items : (more : g.Items) (d : Declared) (ks : List Token) → DeclaredSpells d → AllSpelled (g.of_items more ks)
    → DeclaredSpells (with_items d more) × AllSpelled ks
words_items g.no_items d ks h a = (h, a)
words_items (g.more_items comma i rest) d ks h a =
    let r = words_item i d (g.of_items rest ks) h a.1 in
    words_items rest (with_item d i) ks r.0 r.1

words_literals : (more : g.Literals) (d : Declared) (ks : List Token) → DeclaredSpells d
    → AllSpelled (g.of_literals more ks)
    → DeclaredSpells (with_literals d more) × AllSpelled ks
words_literals g.no_literals d ks h a = (h, a)
words_literals (g.more_literals comma l rest) d ks h a =
    let r = words_literal l d (g.of_literals rest ks) h a.1 in
    words_literals rest (with_literal d l) ks r.0 r.1

words_line : (l : g.Globals) (d : Declared) (ks : List Token) → DeclaredSpells d → AllSpelled (g.of_globals l ks)
    → DeclaredSpells (with_line d l) × AllSpelled ks
words_line (g.int_line int first more end) d ks h a =
    let r = words_item first d (g.of_items more (tok.Semicolon end ∷ ks)) h a.1 in
    let t = words_items more (with_item d first) (tok.Semicolon end ∷ ks) r.0 r.1 in
    (t.0, t.1.1)
words_line (g.literal_line word first more end) d ks h a =
    let r = words_literal first d (g.of_literals more (tok.Semicolon end ∷ ks)) h a.1 in
    let t = words_literals more (with_literal d first) (tok.Semicolon end ∷ ks) r.0 r.1 in
    (t.0, t.1.1)

pub words_lines : (lines : g.Lines) (d : Declared) (ks : List Token) → DeclaredSpells d
    → AllSpelled (g.of_lines lines ks)
    → DeclaredSpells (with_lines d lines) × AllSpelled ks
words_lines g.no_lines d ks h a = (h, a)
words_lines (g.more_lines l rest) d ks h a =
    let r = words_line l d (g.of_lines rest ks) h a in
    words_lines rest (with_line d l) ks r.0 r.1

-- names of parameters and locals
abbrev pub NamedSpells : Named → Type 0
NamedSpells n = IsName n.name

words_names : (more : g.Names) (ks : List Token) → AllSpelled (g.of_names more ks)
    → Each NamedSpells (names_of more) × AllSpelled ks
words_names g.no_names ks h = (tt, h)
words_names (g.more_names comma at name rest) ks h = let r = words_names rest ks h.1.1 in ((h.1.0, r.0), r.1)

words_parameters : (x : g.Parameters) (ks : List Token) → AllSpelled (g.of_parameters x ks)
    → Each NamedSpells (parameters_of x) × AllSpelled ks
words_parameters g.no_parameters ks h = (tt, h)
words_parameters (g.parameters start at name more close) ks h =
    let r = words_names more (tok.Close close ∷ ks) h.1.1 in ((h.1.0, r.0), r.1.1)

words_local : (x : g.Local) (ks : List Token) → AllSpelled (g.of_local x ks)
    → Each NamedSpells (local_names x) × AllSpelled ks
words_local (g.local int at name more end) ks h =
    let r = words_names more (tok.Semicolon end ∷ ks) h.1.1 in ((h.1.0, r.0), r.1.1)

pub words_locals : (x : g.Locals) (ks : List Token) → AllSpelled (g.of_locals x ks)
    → Each NamedSpells (locals_of x) × AllSpelled ks
words_locals g.no_locals ks h = (tt, h)
words_locals (g.more_locals l rest) ks h =
    let first = words_local l (g.of_locals rest ks) h in
    let more = words_locals rest ks first.1 in
    (each_append NamedSpells (local_names l) (locals_of rest) first.0 more.0, more.1)

-- headings
after_gives : (x : g.Gives) (ks : List Token) → AllSpelled (g.of_gives x ks) → AllSpelled ks
after_gives g.gives_nothing ks h = h
after_gives (g.gives_int at) ks h = h.1

after_main : (x : g.Main) (ks : List Token) → AllSpelled (g.of_main x ks) → AllSpelled ks
after_main g.not_main ks h = h
after_main (g.is_main at) ks h = h.1

-- the names of a heading
pub record HeadingWords (h : g.Heading) (ks : List Token) : Type 0 where
  pub name : IsName (name_by h)
  pub parameters : Each NamedSpells (parameters_by h)
  pub later : AllSpelled ks

pub words_heading : (h : g.Heading) (ks : List Token) → AllSpelled (g.of_heading h ks) → HeadingWords h ks
words_heading (g.heading gives proc at name listed main end) ks h =
    let a = after_gives gives (tok.Proc proc ∷ tok.Name at name
    ∷ g.of_parameters listed (g.of_main main (tok.Semicolon end ∷ ks))) h in
    let r = words_parameters listed (g.of_main main (tok.Semicolon end ∷ ks)) a.1.1 in
    record { name = a.1.0; parameters = r.0; later = (after_main main (tok.Semicolon end ∷ ks) r.1).1 }
