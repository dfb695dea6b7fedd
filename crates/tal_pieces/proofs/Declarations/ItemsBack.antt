-- The printed lines of items read back.
use Rattle.std.proofs.Common.{◌≡◌, ℕ, ◌+◌, ◌≤◌, nat_le, nat_lt, List, [], ◌∷◌, length, refl, sym, ap, ◌∙◌, arith, subst}
use Rattle.std.proofs.Common.{suc, zero, if◌then◌else◌}
use Rattle.std.specs.Prelude.{Option, Some, None}
use Rattle.tal_tokens.specs.declared.token.At.{At}
use Rattle.tal_tokens.specs.declared.token.Token.{Token}
use Rattle.tal_tokens.specs.declared.token.Token.TheVariants as tok
use Rattle.tal_tree.specs.declared.program.Item.{Item}
use Rattle.tal_tree.specs.declared.program.Shape.{Shape}
use Rattle.tal_tree.specs.declared.program.Shape.TheVariants as shape
use Rattle.tal_syntax.specs.Grammar as g
use Rattle.tal_syntax.specs.Expected.{AllAtMost}
use Rattle.tal_syntax.specs.Nesting.{nest_lines, nest_bounds}
use Rattle.tal_names.specs.declared.fault.Rule.TheVariants.{Twice, WrongKind, Limit}
use Rattle.tal_declarations.specs.declared.table.Declared.{Declared}
use Rattle.tal_rules.specs.Calls.{file_number}
use Rattle.tal_declarations.specs.Globals.{is_taken, bounds_faults, extent_of, array_by, item_limits, item_faults}
use Rattle.tal_declarations.specs.Globals.{with_extent, with_item, lines_faults, with_lines, nothing_declared}
use Rattle.tal_names.specs.Names.{Declarations, meaning_in}
use Rattle.tal_meaning.specs.Programs.{items_with, shape_by}
use Rattle.tal_pieces.specs.declared.piece.Keyword.TheVariants as word
use Rattle.tal_pieces.specs.declared.piece.Symbol.TheVariants as sign
use Rattle.tal_pieces.specs.declared.piece.Piece.{Piece}
use Rattle.tal_pieces.specs.declared.piece.Piece.TheVariants as piece
use Rattle.tal_pieces.specs.Cuts.{AreTokens}
use Rattle.tal_pieces.specs.Printed.Procedures.{items_pieces, shape_pieces}
use Rattle.tal_pieces.proofs.Values.Back.{first, ends}
use Rattle.tal_pieces.proofs.Declarations.DeclarationsBack.{FilesAreSimple, LinesReadBack}
use Rattle.tal_faultless.proofs.Declarations.ItemsDeclarable.{extent_by, IsOrdered, IsDeclarable}
use Rattle.tal_pieces.proofs.Declarations.ItemsDeclared.{AreDeclarable, with_declared, declared_by, lines_declare}
use Rattle.tal_faultless.proofs.Common.Faultless.{nils, silent}
use Rattle.tal_tree.specs.declared.limit.ProgramLimit.TheVariants as program_limit

-- a declaration opens no level
pub low_level : 0 ≤ 33
low_level = omega arith

-- the tokens begin with these bounds
record BoundsBack (s : Shape) (ks : List Piece) (tokens : List Token) : Type 0 where
  syntax : g.Bounds
  rest : List Token
  front : tokens ≡ g.of_bounds syntax rest
  later : AreTokens ks rest
  same : (names : Declarations) → extent_of names syntax ≡ extent_by s
  faultless : (names : Declarations) → bounds_faults names syntax ≡ []
  shallow : (ls : List ℕ) → AllAtMost 33 ls → AllAtMost 33 (nest_bounds 0 syntax ls)

bounds_back : (s : Shape) (ks : List Piece) (tokens : List Token) → IsOrdered s → AreTokens (shape_pieces s ks) tokens
    → BoundsBack s ks tokens
bounds_back shape.Simple ks tokens fine a = record {
  syntax = g.unbounded;
  rest = tokens;
  front = refl;
  later = a;
  same = λ names. refl;
  faultless = λ names. refl;
  shallow = λ ls held. held;
}
bounds_back (shape.Array low high) ks tokens fine a =
    let start = first a in
    let below = first start.later in
    let colon = first below.later in
    let above = first colon.later in
    let close = first above.later in
    record {
      syntax = g.bounded start.at (g.positive (g.digits below.at low)) colon.at (g.positive (g.digits above.at high))
          close.at;
      rest = close.rest;
      front =
          start.is ∙ ap (λ ts. tok.OpenIndex start.at ∷ ts) (below.is ∙ ap (λ ts. tok.Number below.at low ∷ ts)
          (colon.is ∙ ap (λ ts. tok.Colon colon.at ∷ ts)
          (above.is ∙ ap (λ ts. tok.Number above.at high ∷ ts) close.is)));
      later = close.later;
      same = λ names. ap (λ t. array_by (if t then None else Some (low, high))) fine;
      faultless = λ names. silent _ above.at WrongKind fine;
      shallow = λ ls held. (low_level, (low_level, (low_level, (low_level, (low_level, held)))));
    }
bounds_back (shape.File number) ks tokens fine a = absurd fine

-- the tokens begin with lines of these items
record ItemsBack (d : Declared) (items : List Item) (ks : List Piece) (tokens : List Token) : Type 0 where
  syntax : g.Lines
  rest : List Token
  front : tokens ≡ g.of_lines syntax rest
  later : AreTokens ks rest
  same : with_lines d syntax ≡ declared_by d items
  faultless : lines_faults d syntax ≡ []
  shallow : (ls : List ℕ) → AllAtMost 33 ls → AllAtMost 33 (nest_lines 0 syntax ls)

-- an item that can be declared has no fault where its bounds are read back
item_fine : (d : Declared) (i : Item) (at : At) (b : g.Bounds) → extent_of d.names b ≡ extent_by i.shape
    → bounds_faults d.names b ≡ [] → IsDeclarable d i
    → item_faults d (g.item at i.name b) ≡ []
item_fine d i at b x bounds fine =
    nils (nils (silent (is_taken d.names i.name) at Twice fine.free) bounds)
    (ap (λ e. item_limits d at e.words) x
    ∙ nils (nils (silent (nat_le 64 (length d.items)) at (Limit program_limit.Globals) fine.few)
    (silent (nat_lt 1024 (d.words + (extent_by i.shape).words)) at (Limit program_limit.GlobalWords) fine.room))
    (silent (nat_lt 256 (extent_by i.shape).words) at (Limit program_limit.ArrayWords) fine.small))

items_back : (d : Declared) (items : List Item) (ks : List Piece) (tokens : List Token) → AreDeclarable d items
    → AreTokens (items_pieces items ks) tokens
    → ItemsBack d items ks tokens
items_back d [] ks tokens fine a = record {
  syntax = g.no_lines;
  rest = tokens;
  front = refl;
  later = a;
  same = refl;
  faultless = refl;
  shallow = λ ls held. held;
}
items_back d (i ∷ items) ks tokens fine a =
    let int = first a in
    let name = first int.later in
    let b = bounds_back i.shape (piece.Symbol sign.Semicolon ∷ items_pieces items ks) name.rest fine.0.is_ordered
    name.later in
    let end = first b.later in
    let more = items_back (with_declared d i) items ks end.rest fine.1 end.later in
    let x : extent_of d.names b.syntax ≡ extent_by i.shape = b.same d.names in
    let is : with_item d (g.item name.at i.name b.syntax) ≡ with_declared d i = ap (with_extent d i.name) x in
    record {
      syntax = g.more_lines (g.int_line int.at (g.item name.at i.name b.syntax) g.no_items end.at) more.syntax;
      rest = more.rest;
      front =
          int.is ∙ ap (λ ts. tok.Int int.at ∷ ts) (name.is ∙ ap (λ ts. tok.Name name.at i.name ∷ ts)
          (b.front ∙ ap (g.of_bounds b.syntax) (end.is ∙ ap (λ ts. tok.Semicolon end.at ∷ ts) more.front)));
      later = more.later;
      same = ap (λ e. with_lines e more.syntax) is ∙ more.same;
      faultless = nils (ends (item_fine d i name.at b.syntax x (b.faultless d.names) fine.0))
          (ap (λ e. lines_faults e more.syntax) is ∙ more.faultless);
      shallow = λ ls held. (
        low_level,
        (
          low_level,
          b.shallow (0 ∷ nest_lines 0 more.syntax ls) (low_level, more.shallow ls held),
        ),
      );
    }

-- the variables of files are printed as simple items
printed_shape : (s : Shape) (number : Option ℕ) (ks : List Piece) → ((n : ℕ) → number ≡ Some n → s ≡ shape.Simple)
    → shape_pieces (shape_by s number) ks ≡ shape_pieces s ks
printed_shape s None ks simple = refl
printed_shape s (Some n) ks simple = ap (λ x. shape_pieces x ks) (sym (simple n refl))

printed_items : (files : Declarations) (items : List Item) (ks : List Piece) → FilesAreSimple files items
    → items_pieces (items_with files items) ks ≡ items_pieces items ks
printed_items files [] ks simple = refl
printed_items files (i ∷ items) ks simple =
    ap (λ rest. piece.Keyword word.Int ∷ piece.Name i.name
    ∷ shape_pieces (shape_by i.shape (file_number (meaning_in i.name files))) (piece.Symbol sign.Semicolon ∷ rest))
    (printed_items files items ks (λ k number j got opened. simple (suc k) number j got opened))
    ∙ ap (λ rest. piece.Keyword word.Int ∷ piece.Name i.name ∷ rest)
    (printed_shape i.shape (file_number (meaning_in i.name files))
    (piece.Symbol sign.Semicolon ∷ items_pieces items ks) (λ number opened. simple zero number i refl opened))

pub lines_read_back : LinesReadBack
lines_read_back lines files ks tokens fine simple a =
    let s = lines_declare nothing_declared lines fine in
    let pieces = printed_items files (with_lines nothing_declared lines).items ks simple
    ∙ ap (λ xs. items_pieces xs ks) s.front in
    let b = items_back nothing_declared s.items ks tokens s.declarable (subst (λ ps. AreTokens ps tokens) pieces a) in
    record {
      syntax = b.syntax;
      rest = b.rest;
      front = b.front;
      later = b.later;
      same = b.same ∙ sym s.printed;
      faultless = b.faultless;
      shallow = b.shallow;
    }
