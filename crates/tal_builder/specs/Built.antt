-- What the builder answers.
use Rattle.std.specs.Prelude.{◌≡◌, List, Result, Ok, Err}
use Rattle.gd_words.specs.Memory.{no_memory}
use Rattle.tal_tokens.specs.declared.token.Token.{Token}
use Rattle.tal_syntax.specs.declared.text.Text.{Text}
use Rattle.tal_syntax.specs.Grammar as g
use Rattle.tal_syntax.specs.Nesting.{nest_text}
use Rattle.tal_syntax.specs.Expected.{AllAtMost}
use Rattle.tal_syntax.specs.Seen.{seen_text}
use Rattle.tal_builder.specs.declared.stop.BuildFault.{BuildFault}
use Rattle.tal_builder.specs.declared.stop.BuildFault.TheVariants as stop
use Rattle.gd_words.specs.declared.limits.TheConstants.{MOST_LEVELS}

-- the tokens are those of the syntax, in which each ELSE belongs to the nearest IF, and none of them stands deeper than
-- allowed: 33 levels, that of a procedure's own statements counted
abbrev pub IsSyntax : List Token → g.Text → Type 0
IsSyntax ks t = g.IsText t × (g.of_text t ≡ ks) × AllAtMost MOST_LEVELS (nest_text t)

-- the syntax of the tokens is built, or where there is memory they have none
abbrev pub Built : List Token → Result Text BuildFault → Type 0
Built ks (Ok t) = IsSyntax ks (seen_text t)
Built ks (Err e) = (e ≡ stop.NoMemory no_memory → ⊥) → (t : g.Text) → IsSyntax ks t → ⊥
