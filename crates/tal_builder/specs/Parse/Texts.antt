-- The text that tokens are.
use Rattle.std.specs.Prelude.{List, [], ◌∷◌, length, Option, Some, None, option_map}
use Rattle.std.specs.Option.{option_and_then}
use Rattle.tal_tokens.specs.declared.token.Token.{Token}
use Rattle.tal_syntax.specs.Grammar as g
use Rattle.tal_builder.specs.declared.plain_token.PlainToken.TheVariants as plain
use Rattle.tal_builder.specs.First.{is_heading}
use Rattle.tal_builder.specs.PlainTokens.{plain_of}
use Rattle.tal_builder.specs.Parse.Chains.{Found, row_by}
use Rattle.tal_builder.specs.Parse.Declarations.{heading_at, locals_at, lines_at}
use Rattle.tal_builder.specs.Parse.Statements.{statement_at, row_at}
use Rattle.gd_words.specs.declared.limits.TheConstants.{MOST_LEVELS}

-- a procedure: its own statements are the first of 33 levels
abbrev pub procedure_at : List Token → Found g.Procedure
procedure_at ks =
    option_and_then (λ h. option_and_then (λ o.
    option_and_then (λ b. option_and_then (λ i.
    option_and_then (λ f. option_and_then (λ m. option_and_then (λ e. option_map (λ l.
    (g.procedure h.0 o.0 b.0 i.0 f.0 m.0 e.0 l.0, l.1)) (plain_of plain.Semicolon e.1)) (plain_of plain.End m.1))
    (row_at MOST_LEVELS f.1)) (statement_at MOST_LEVELS i.1))
    (locals_at b.1)) (plain_of plain.Begin o.1)) (locals_at h.1)) (heading_at ks)

abbrev pub procedures_at : List Token → Found g.Procedures
procedures_at ks = row_by g.no_procedures g.more_procedures is_heading procedure_at (length ks) ks

-- nothing stands behind the end
abbrev pub ended : g.Text → List Token → Option g.Text
ended t [] = Some t
ended t (k ∷ ks) = None

abbrev pub text_at : List Token → Option g.Text
text_at ks = option_and_then (λ l. option_and_then
    (λ p. option_and_then (λ f. ended (g.text l.0 p.0 f.0) f.1) (plain_of plain.Finish p.1)) (procedures_at l.1))
    (lines_at ks)
