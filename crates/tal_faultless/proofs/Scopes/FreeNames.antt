-- No global and no procedure of a text without faults has the name of a system's call.
use Rattle.std.proofs.Common.{◌≡◌, ℕ, List, [], ◌++◌, Some, None, ◌⊎◌, inl, inr, sym, subst}
use Rattle.tal_syntax.specs.Grammar as g
use Rattle.tal_names.specs.declared.meaning.Meaning.{Meaning}
use Rattle.tal_declarations.specs.declared.table.Declared.{Declared}
use Rattle.tal_declarations.specs.declared.table.Headed.{Headed}
use Rattle.tal_declarations.specs.Globals.{taken_faults, bounds_faults, item_limits, extent_of, item_faults}
use Rattle.tal_declarations.specs.Globals.{items_faults, with_item, with_items, literal_line_faults, literals_faults}
use Rattle.tal_declarations.specs.Globals.{with_literal, with_literals, constant_faults, constant_meaning, line_faults}
use Rattle.tal_declarations.specs.Globals.{with_line, lines_faults, with_lines, nothing_declared}
use Rattle.tal_declarations.specs.Headings.{heading_of, heading_faults, headings_faults, with_heading, with_headings}
use Rattle.tal_names.specs.Names.{Declarations, meaning_in, with_name}
use Rattle.tal_names.specs.Systems.{system_of}
use Rattle.tal_meaning.specs.tal_rules.specs.Texts.{headed_after, headed_text}
use Rattle.tal_faultless.proofs.Scopes.Declared.{meaning_with, with_free_procedure}
use Rattle.tal_faultless.proofs.Scopes.GlobalNames.{free_name, not_taken}
use Rattle.tal_faultless.proofs.Common.Faultless.{first_nil, second_nil}

abbrev pub AreFree : Declarations → Type 0
AreFree names = (name : List ℕ) (x : Meaning) → meaning_in name names ≡ Some x → system_of name ≡ None

-- with one more name
free_with : (names : Declarations) (name : List ℕ) (m : Meaning) → system_of name ≡ None → AreFree names
    → AreFree (with_name names name m)
free_with names name m free a other x e = by (meaning_with other names name m x e)
  where
    by : (meaning_in other names ≡ Some x) ⊎ ((other ≡ name) × (m ≡ x)) → system_of other ≡ None
    by (inl old) = a other x old
    by (inr new) = subst (λ n. system_of n ≡ None) (sym new.0) free

item_free : (d : Declared) (i : g.Item) → item_faults d i ≡ [] → AreFree d.names → AreFree (with_item d i).names
item_free d (g.item at name bounds) e a =
    let taken = taken_faults d.names at name in
    let misfits = bounds_faults d.names bounds in
    let limits = item_limits d at (extent_of d.names bounds).words in
    free_with d.names name _ (not_taken d.names at name
    (first_nil taken misfits (first_nil (taken ++ misfits) limits e))).0 a

literal_free : (d : Declared) (l : g.Literal) → literal_line_faults d l ≡ [] → AreFree d.names
    → AreFree (with_literal d l).names
literal_free d (g.literal at name equal c) e a =
    free_with d.names name _ (not_taken d.names at name
    (first_nil (taken_faults d.names at name) (constant_faults c (constant_meaning d.names c)) e)).0 a

items_free : (d : Declared) (more : g.Items) → items_faults d more ≡ [] → AreFree d.names
    → AreFree (with_items d more).names
items_free d g.no_items e a = a
items_free d (g.more_items comma i rest) e a =
    items_free (with_item d i) rest (second_nil (item_faults d i) _ e)
    (item_free d i (first_nil (item_faults d i) _ e) a)

literals_free : (d : Declared) (more : g.Literals) → literals_faults d more ≡ [] → AreFree d.names
    → AreFree (with_literals d more).names
literals_free d g.no_literals e a = a
literals_free d (g.more_literals comma l rest) e a =
    literals_free (with_literal d l) rest (second_nil (literal_line_faults d l) _ e)
    (literal_free d l (first_nil (literal_line_faults d l) _ e) a)

line_free : (d : Declared) (l : g.Globals) → line_faults d l ≡ [] → AreFree d.names → AreFree (with_line d l).names
line_free d (g.int_line int first more end) e a =
    items_free (with_item d first) more (second_nil (item_faults d first) _ e)
    (item_free d first (first_nil (item_faults d first) _ e) a)
line_free d (g.literal_line word first more end) e a =
    literals_free (with_literal d first) more (second_nil (literal_line_faults d first) _ e)
    (literal_free d first (first_nil (literal_line_faults d first) _ e) a)

lines_free : (d : Declared) (lines : g.Lines) → lines_faults d lines ≡ [] → AreFree d.names
    → AreFree (with_lines d lines).names
lines_free d g.no_lines e a = a
lines_free d (g.more_lines l rest) e a =
    lines_free (with_line d l) rest (second_nil (line_faults d l) _ e)
    (line_free d l (first_nil (line_faults d l) _ e) a)

heading_free : (h : Headed) (x : g.Heading) → heading_faults h x ≡ [] → AreFree h.names
    → AreFree (with_heading h x).names
heading_free h (g.heading gives proc at name listed main end) e a =
    let untaken = first_nil (taken_faults h.names at name) _ (first_nil _ _ e) in
    subst AreFree (sym (with_free_procedure h.names name _ (free_name h.names at name untaken)))
    (free_with h.names name _ (not_taken h.names at name untaken).0 a)

headings_free : (h : Headed) (ps : g.Procedures) → headings_faults h ps ≡ [] → AreFree h.names
    → AreFree (with_headings h ps).names
headings_free h g.no_procedures e a = a
headings_free h (g.more_procedures p rest) e a =
    headings_free (with_heading h (heading_of p)) rest (second_nil (heading_faults h (heading_of p)) _ e)
    (heading_free h (heading_of p) (first_nil (heading_faults h (heading_of p)) _ e) a)

pub names_free : (lines : g.Lines) (ps : g.Procedures) → lines_faults nothing_declared lines ≡ []
    → headings_faults (headed_after (with_lines nothing_declared lines)) ps ≡ []
    → AreFree (headed_text lines ps).names
names_free lines ps e d = headings_free (headed_after (with_lines nothing_declared lines)) ps d
    (lines_free nothing_declared lines e (λ name x there. absurd (cc there)))
