-- What the lines of globals of a text without faults declare: items alone, as the printed text has them.
use Rattle.std.proofs.Common.{◌≡◌, ℕ, ◌+◌, min, false, List, [], ◌∷◌, ◌++◌, length, append_assoc, append-nil, refl, sym}
use Rattle.std.proofs.Common.{ap, ◌∙◌, subst}
use Rattle.std.specs.Prelude.{ℤ, pos, zero, unwrap_or}
use Rattle.tal_tree.specs.declared.program.Item.{Item}
use Rattle.tal_tree.specs.declared.program.Shape.{Shape}
use Rattle.tal_tree.specs.declared.program.Shape.TheVariants as shape
use Rattle.tal_syntax.specs.Grammar as g
use Rattle.tal_names.specs.declared.fault.Rule.TheVariants.{Twice}
use Rattle.tal_names.specs.declared.meaning.Meaning.TheVariants as m
use Rattle.tal_declarations.specs.declared.table.Declared.{Declared}
use Rattle.tal_declarations.specs.declared.table.Extent.{Extent}
use Rattle.tal_declarations.specs.Globals.{is_taken, taken_faults, extent_of, constant_value, constant_meaning}
use Rattle.tal_declarations.specs.Globals.{constant_faults, item_faults, item_meaning, with_extent, with_item}
use Rattle.tal_declarations.specs.Globals.{literal_line_faults, with_literal, items_faults, with_items, literals_faults}
use Rattle.tal_declarations.specs.Globals.{with_literals, line_faults, with_line, lines_faults, with_lines}
use Rattle.tal_names.specs.Names.{is_declared}
use Rattle.tal_pieces.proofs.Scopes.Agreement.{is_literal, printed_declared}
use Rattle.tal_pieces.proofs.Scopes.DeclaredNames.{still_free, fresh_of_free, with_literal_name, with_other_name}
use Rattle.tal_faultless.proofs.Common.Faultless.{first_nil, second_nil, refuted}
use Rattle.tal_faultless.proofs.Declarations.ItemsDeclarable.{IsDeclarable, DeclaresItem, extent_by, item_declarable}

-- with one more item, and with more
abbrev pub with_declared : Declared → Item → Declared
with_declared d i = with_extent d i.name (extent_by i.shape)

abbrev pub declared_by : Declared → List Item → Declared
declared_by d [] = d
declared_by d (i ∷ rest) = declared_by (with_declared d i) rest

-- items that can be declared one after another
abbrev pub AreDeclarable : Declared → List Item → Type 0
AreDeclarable d [] = Unit {0}
AreDeclarable d (i ∷ rest) = IsDeclarable d i × AreDeclarable (with_declared d i) rest

-- after these lines so many items are declared, in the printed text too
pub record Declares (d e : Declared) : Type 0 where
  pub items : List Item
  pub front : e.items ≡ d.items ++ items
  pub printed : printed_declared e ≡ declared_by (printed_declared d) items
  pub declarable : AreDeclarable (printed_declared d) items

-- items one after another
declared_append : (d : Declared) (xs ys : List Item) → declared_by d (xs ++ ys) ≡ declared_by (declared_by d xs) ys
declared_append d [] ys = refl
declared_append d (x ∷ xs) ys = declared_append (with_declared d x) xs ys

declarable_append : (d : Declared) (xs ys : List Item) → AreDeclarable d xs → AreDeclarable (declared_by d xs) ys
    → AreDeclarable d (xs ++ ys)
declarable_append d [] ys a b = b
declarable_append d (x ∷ xs) ys a b = (a.0, declarable_append (with_declared d x) xs ys a.1 b)

-- lines one after another
declares_nothing : (d : Declared) → Declares d d
declares_nothing d = record { items = []; front = sym (append-nil d.items); printed = refl; declarable = tt }

declares_both : (d e f : Declared) → Declares d e → Declares e f → Declares d f
declares_both d e f a b = record {
  items = a.items ++ b.items;
  front = b.front ∙ ap (λ xs. xs ++ b.items) a.front ∙ append_assoc d.items a.items b.items;
  printed = b.printed ∙ ap (λ x. declared_by x b.items) a.printed
      ∙ sym (declared_append (printed_declared d) a.items b.items);
  declarable =
      declarable_append (printed_declared d) a.items b.items a.declarable
      (subst (λ x. AreDeclarable x b.items) a.printed b.declarable);
}

-- an item is no LITERAL, and its name is declared in the printed text too
no_literal : (s : Shape) (n : ℕ) → is_literal (item_meaning s n) ≡ false
no_literal shape.Simple n = refl
no_literal (shape.Array low high) n = refl
no_literal (shape.File number) n = refl

printed_extent : (d : Declared) (name : List ℕ) (x : Extent) → is_declared name d.names ≡ false
    → printed_declared (with_extent d name x) ≡ with_extent (printed_declared d) name x
printed_extent d name x fresh = λ i. record {
  names = with_other_name d.names name (item_meaning x.shape (length d.items)) (no_literal x.shape (length d.items))
      fresh i;
  items = d.items ++ record { name = name; shape = x.shape } ∷ [];
  words = min 1025 (d.words + x.words);
}

-- what each part of a line declares
item_declares : (d : Declared) (i : g.Item) → item_faults d i ≡ [] → Declares d (with_item d i)
item_declares d (g.item at name b) fine =
    let x : Extent = extent_of d.names b in
    let own : DeclaresItem d name x = item_declarable d at name b fine in
    let item : IsDeclarable d (record { name = name; shape = x.shape }) = own.declarable in
    record {
      items = record { name = name; shape = x.shape } ∷ [];
      front = refl;
      printed = printed_extent d name x (fresh_of_free d.names name item.free)
          ∙ ap (with_extent (printed_declared d) name) own.is;
      declarable = (
        record {
          free = still_free d.names name item.free;
          is_ordered = item.is_ordered;
          few = item.few;
          room = item.room;
          small = item.small;
        },
        tt,
      );
    }

literal_declares : (d : Declared) (l : g.Literal) → literal_line_faults d l ≡ [] → Declares d (with_literal d l)
literal_declares d (g.literal at name equal c) fine =
    let value : ℤ = unwrap_or (constant_value c (constant_meaning d.names c)) (pos zero) in
    let free = refuted (is_taken d.names name) at Twice
    (first_nil (taken_faults d.names at name) (constant_faults c (constant_meaning d.names c)) fine) in
    record {
      items = [];
      front = sym (append-nil d.items);
      printed = λ i. record {
        names = with_literal_name d.names name (m.Literal value) refl
            (fresh_of_free d.names name free) i;
        items = d.items;
        words = d.words;
      };
      declarable = tt;
    }

items_declare : (d : Declared) (is : g.Items) → items_faults d is ≡ [] → Declares d (with_items d is)
items_declare d g.no_items fine = declares_nothing d
items_declare d (g.more_items comma i rest) fine =
    declares_both d (with_item d i) (with_items (with_item d i) rest)
    (item_declares d i (first_nil (item_faults d i) (items_faults (with_item d i) rest) fine))
    (items_declare (with_item d i) rest (second_nil (item_faults d i) (items_faults (with_item d i) rest) fine))

literals_declare : (d : Declared) (ls : g.Literals) → literals_faults d ls ≡ [] → Declares d (with_literals d ls)
literals_declare d g.no_literals fine = declares_nothing d
literals_declare d (g.more_literals comma l rest) fine =
    declares_both d (with_literal d l) (with_literals (with_literal d l) rest)
    (literal_declares d l (first_nil (literal_line_faults d l) (literals_faults (with_literal d l) rest) fine))
    (literals_declare (with_literal d l) rest
    (second_nil (literal_line_faults d l) (literals_faults (with_literal d l) rest) fine))

line_declares : (d : Declared) (l : g.Globals) → line_faults d l ≡ [] → Declares d (with_line d l)
line_declares d (g.int_line int first more end) fine =
    declares_both d (with_item d first) (with_items (with_item d first) more)
    (item_declares d first (first_nil (item_faults d first) (items_faults (with_item d first) more) fine))
    (items_declare (with_item d first) more
    (second_nil (item_faults d first) (items_faults (with_item d first) more) fine))
line_declares d (g.literal_line word first more end) fine =
    declares_both d (with_literal d first) (with_literals (with_literal d first) more)
    (literal_declares d first (first_nil (literal_line_faults d first) (literals_faults (with_literal d first) more)
    fine))
    (literals_declare (with_literal d first) more
    (second_nil (literal_line_faults d first) (literals_faults (with_literal d first) more) fine))

-- lines without faults declare items alone, which can be declared without the LITERALs
pub lines_declare : (d : Declared) (lines : g.Lines) → lines_faults d lines ≡ [] → Declares d (with_lines d lines)
lines_declare d g.no_lines fine = declares_nothing d
lines_declare d (g.more_lines l rest) fine =
    declares_both d (with_line d l) (with_lines (with_line d l) rest)
    (line_declares d l (first_nil (line_faults d l) (lines_faults (with_line d l) rest) fine))
    (lines_declare (with_line d l) rest (second_nil (line_faults d l) (lines_faults (with_line d l) rest) fine))
