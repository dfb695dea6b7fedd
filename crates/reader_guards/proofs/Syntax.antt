-- What a text is read as, by the syntax that is found in its tokens.
use Rattle.std.proofs.Common.{◌≡◌, ℕ, List, [], Option, Some, None, refl, sym, ap, ◌∙◌}
use Rattle.std.specs.Prelude.{unwrap_or}
use Rattle.tal_tokens.specs.declared.lexer.TokenList.{TokenList}
use Rattle.tal_tokens.specs.Lexer.{tokens_of}
use Rattle.tal_tree.specs.declared.program.Program.{Program}
use Rattle.tal_syntax.specs.Grammar as g
use Rattle.tal_builder.specs.Parse.Texts.{text_at}
use Rattle.tal_builder.proofs.Told.{told_of}
use Rattle.tal_builder.proofs.SoundTexts.{text_is}
use Rattle.tal_names.specs.declared.fault.RuleFault.{RuleFault}
use Rattle.tal_names.specs.Faults.{answer_of, least}
use Rattle.tal_names.proofs.Order.{least-is}
use Rattle.tal_meaning.specs.tal_rules.specs.Texts.{faults}
use Rattle.tal_meaning.specs.Programs.{tree_of}
use Rattle.tal_reader.specs.Places.{beginning}
use Rattle.tal_reader.specs.Reads.{IsSyntaxOf, Reads, IsRefused, unruly}

-- what is found in a text
abbrev found_in : List ℕ → Option g.Text
found_in text = text_at (tokens_of text).list

abbrev syntax_in : List ℕ → g.Text
syntax_in text = unwrap_or (found_in text) (g.text g.no_lines g.no_procedures beginning)

whole : (tokens : TokenList) → tokens.fault ≡ None → tokens ≡ record { list = tokens.list; fault = None }
whole tokens e = ap (λ f. record tokens { fault = f }) e

is_syntax : (text : List ℕ) (t : g.Text) → (tokens_of text).fault ≡ None → found_in text ≡ Some t → IsSyntaxOf text t
is_syntax text t spelled found =
    let s = told_of (found_in text) t (text_is (tokens_of text).list) found in
    (s.0, whole (tokens_of text) spelled ∙ ap (λ ks. record { list = ks; fault = None }) (sym s.1), s.2)

pub reads : (text : List ℕ) (program : Program) → (tokens_of text).fault ≡ None
    → found_in text ≡ Some (syntax_in text) → faults (syntax_in text) ≡ [] → program ≡ tree_of (syntax_in text)
    → Reads text program
reads text program spelled found fine same = (syntax_in text, is_syntax text (syntax_in text) spelled found, fine, same)

pub refused : (text : List ℕ) (fault : RuleFault) → (tokens_of text).fault ≡ None
    → found_in text ≡ Some (syntax_in text) → least None (faults (syntax_in text)) ≡ Some fault
    → IsRefused text (answer_of fault)
refused text fault spelled found one =
    unruly (syntax_in text) fault (is_syntax text (syntax_in text) spelled found)
    (least-is (faults (syntax_in text)) fault one) refl
