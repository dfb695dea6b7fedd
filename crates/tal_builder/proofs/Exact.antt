-- The syntax that is found is the one syntax of the tokens.
use Rattle.std.proofs.Common.{◌≡◌, List, Some, None, Ok, Err, sym, ap, ◌∙◌}
use Rattle.std.specs.Prelude.{Result}
use Rattle.tal_tokens.specs.declared.token.Token.{Token}
use Rattle.tal_syntax.specs.declared.text.Text.{Text}
use Rattle.tal_syntax.specs.Grammar as g
use Rattle.tal_syntax.specs.Seen.{seen_text}
use Rattle.tal_builder.specs.declared.stop.BuildFault.{BuildFault}
use Rattle.tal_builder.specs.Built.{IsSyntax, Built}
use Rattle.tal_builder.specs.Outcome.{Tells}
use Rattle.tal_builder.specs.Parse.{text_at}
use Rattle.tal_builder.proofs.Told.{told_of}
use Rattle.tal_builder.proofs.SoundTexts.{text_is}
use Rattle.tal_builder.proofs.FoundTexts.{found_text}

pub syntax_found : (ks : List Token) (t : g.Text) → IsSyntax ks t → text_at ks ≡ Some t
syntax_found ks t h = sym (ap text_at h.1) ∙ found_text t h.0 h.2

pub built : (ks : List Token) (r : Result Text BuildFault) → Tells seen_text r (text_at ks) → Built ks r
built ks (Ok t) h = told_of (text_at ks) (seen_text t) (text_is ks) h
built ks (Err e) h =
    λ ne t s. let none : text_at ks ≡ None = h ne in let some : text_at ks ≡ Some t = syntax_found ks t s in cc

pub one_syntax : (ks : List Token) (t u : g.Text) → IsSyntax ks t → IsSyntax ks u → t ≡ u
one_syntax ks t u p q =
    let a : text_at ks ≡ Some t = syntax_found ks t p in let b : text_at ks ≡ Some u = syntax_found ks u q in cc
