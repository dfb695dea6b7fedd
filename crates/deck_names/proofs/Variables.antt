-- The variables of a program's files: each file has one of its own, whose name has no line feed.
use Rattle.std.proofs.Common.{◌≡◌, ℕ, zero, suc, ◌<◌, false, nat_eq, List, [], ◌∷◌, length, slice_get, Option, Some}
use Rattle.std.proofs.Common.{None}
use Rattle.std.proofs.Common.{sym, ap, ◌∙◌, subst, arith}
use Rattle.std.specs.List.{list_any}
use Rattle.std.specs.Option.{option_and_then, option_map, unwrap_or}
use Rattle.gd_words.specs.Spelling.{ident_of}
use Rattle.tal_tokens.specs.Lexer.{tokens_of}
use Rattle.tal_tokens.specs.declared.token.At.{At}
use Rattle.tal_tokens.specs.declared.token.Token.TheVariants as tok
use Rattle.tal_syntax.specs.Grammar as g
use Rattle.tal_tree.specs.declared.program.FileUse.{FileUse}
use Rattle.tal_tree.specs.declared.program.Item.{Item}
use Rattle.tal_tree.specs.declared.program.Program.{Program}
use Rattle.tal_tree.specs.declared.program.Shape.{Shape}
use Rattle.tal_tree.specs.declared.program.Shape.TheVariants as shape
use Rattle.tal_tree.specs.declared.site.Kind.TheVariants as kind
use Rattle.tal_names.specs.declared.meaning.Meaning.{Meaning}
use Rattle.tal_names.specs.declared.meaning.Meaning.TheVariants as m
use Rattle.tal_names.specs.Names.{Declarations}
use Rattle.tal_declarations.specs.Globals.{nothing_declared, with_lines}
use Rattle.tal_declarations.specs.declared.table.Files.{Files}
use Rattle.tal_rules.specs.Texts.{faults, files_by, headed_text}
use Rattle.tal_meaning.specs.Programs.{items_with, tree_of}
use Rattle.tal_reader.specs.Reads.{IsSyntaxOf, Reads}
use Rattle.tal_faultless.proofs.Scopes.TextGlobals.{are_globals, at_end}
use Rattle.deck_reader.specs.tal_laws.proofs.Uses.{at_place}
use Rattle.tal_pieces.proofs.Common.Entries.{Each}
use Rattle.tal_pieces.proofs.Spelling.SpelledTokens.{tokens_spelled}
use Rattle.tal_pieces.proofs.Words.SpelledDeclarations.{words_lines}
use Rattle.tal_pieces.proofs.Words.SpelledSyntax.{AllSpelled}
use Rattle.tal_pieces.proofs.Words.WordPrograms.{ItemSpells}
use Rattle.told_reports.specs.trace_print.specs.ActLine.{variable_in}
use Rattle.deck_names.proofs.Files.{text-single}
use Rattle.deck_names.proofs.Signs.{ident-whole}

items-named : (files : Declarations) (items : List Item) (k : ℕ) (name : List ℕ) (form : Shape)
    → slice_get items k ≡ Some (record { name = name; shape = form })
    → option_map (λ (item : Item). item.name) (slice_get (items_with files items) k) ≡ Some name
items-named files [] k name form there = absurd (cc there)
items-named files (item ∷ rest) zero name form there = ap (option_map (λ (one : Item). one.name)) there
items-named files (item ∷ rest) (suc k) name form there = items-named files rest k name form there

each-at : {X : Type 0} (P : X → Type 0) (xs : List X) (k : ℕ) (x : X) → Each P xs → slice_get xs k ≡ Some x → P x
each-at P [] k x each there = absurd (cc there)
each-at P (y ∷ xs) zero x each there = let same : y ≡ x = cc there in subst P same each.0
each-at P (y ∷ xs) (suc k) x each there = each-at P xs k x each.1 there

-- the name of the variable of a file stands at the file's place among those of the files
record IsVariableOf (names : Declarations) (program : Program) (file : ℕ) : Type 0 where
  declared : List ℕ × Meaning
  there : slice_get names file ≡ Some declared
  is : variable_in (kind.Pair program) file ≡ declared.0
  spelled : ident_of declared.0 ≡ Some declared.0

module _ (text : List ℕ) (lines : g.Lines) (ps : g.Procedures) (finish : At)
    (cut : tokens_of text ≡ record { list = g.of_text (g.text lines ps finish); fault = None })
    (fine : faults (g.text lines ps finish) ≡ []) where
  abbrev files : Files
  files = files_by (headed_text lines ps) ps

  abbrev items : List Item
  items = (with_lines nothing_declared lines).items

  spelled-items : Each ItemSpells items
  spelled-items =
      (words_lines lines nothing_declared (g.of_procedures ps (tok.Finish finish ∷ [])) (tt, tt)
      (subst (λ x. AllSpelled x.list) cut (tokens_spelled text))).0.0

  variable-of : (file : ℕ) → file < length files.uses
      → IsVariableOf files.names (tree_of (g.text lines ps finish)) file
  variable-of file low =
      let opened = (at_end lines ps finish fine).opened in
      let named = at_place files.names file (omega (arith, low, opened.paired)) in
      let is = opened.each file named.0 named.1 in
      let own : slice_get items is.use_of.item ≡ Some (record { name = named.0.0; shape = shape.Simple }) =
      (are_globals lines ps finish fine).means named.0.0 (m.Simple is.use_of.item) is.global in
      record {
        declared = named.0;
        there = named.1;
        is = ap (λ (o : Option FileUse). unwrap_or (option_and_then (λ used. option_map (λ item. item.name)
            (slice_get (items_with files.names items) used.item)) o) []) is.there
            ∙ ap (λ (o : Option (List ℕ)). unwrap_or o [])
            (items-named files.names items is.use_of.item named.0.0 shape.Simple own);
        spelled = (each-at ItemSpells items is.use_of.item (record { name = named.0.0; shape = shape.Simple })
            spelled-items own).0.0;
      }

-- each file of a program has a variable of its own, whose name has no line feed
pub record HasOwnVariables (program : Program) : Type 0 where
  pub own : (one other : ℕ) → one < length program.files → other < length program.files
      → variable_in (kind.Pair program) one ≡ variable_in (kind.Pair program) other → one ≡ other
  pub whole : (file : ℕ) → file < length program.files
      → list_any (λ c. nat_eq c 10) (variable_in (kind.Pair program) file) ≡ false

tree-variables : (text : List ℕ) (t : g.Text) → IsSyntaxOf text t → faults t ≡ [] → HasOwnVariables (tree_of t)
tree-variables text (g.text lines ps finish) is fine = record {
  own = λ one other a b same.
      let first = variable-of text lines ps finish is.1 fine one a in
      let second = variable-of text lines ps finish is.1 fine other b in
      text-single lines ps one other first.declared second.declared first.there second.there
      (sym first.is ∙ same ∙ second.is);
  whole = λ file low.
      let variable = variable-of text lines ps finish is.1 fine file low in
      ap (list_any (λ c. nat_eq c 10)) variable.is ∙ ident-whole variable.declared.0 variable.spelled;
}

pub program-variables : (text : List ℕ) (program : Program) → Reads text program → HasOwnVariables program
program-variables text program reads =
    subst HasOwnVariables (sym reads.3) (tree-variables text reads.0 reads.1 reads.2)
