use Rattle.std.proofs.Common.{◌≡◌, ◌∙◌, Global, ap, map, refl, string_bytes, subst, true}
use Rattle.clap.proofs.OnLiterals.{clap_on_literals}
use Rattle.clap.specs.Words.{App, FailsBy, fault_of, is_simple_and_free}
use Rattle.explain_words.specs.Line.{the_line}
use Rattle.explain_words.proofs.line.matches_of.Goals as goal

simple : is_simple_and_free the_line ≡ true
unfolding clap_on_literals
simple = refl

pub returns-clause-kinds : goal.returns-clause-kinds
returns-clause-kinds c =
    let words = map (string_bytes {Z = Global}) c.args.words.now in
    subst (λ (app : App). FailsBy (fault_of app words) c.try_get_matches_from.result) c.in_ok-line.ensures
    (c.try_get_matches_from.ensures.kinds (ap is_simple_and_free c.in_ok-line.ensures ∙ simple))
