-- Calls, returns and assignments with which tokens begin.
use Rattle.std.specs.Prelude.{ℕ, zero, suc, List, length, Option, Some, None, option_map, if◌then◌else◌}
use Rattle.std.specs.Option.{option_and_then}
use Rattle.tal_tokens.specs.declared.token.At.{At}
use Rattle.tal_tokens.specs.declared.token.Token.{Token}
use Rattle.tal_syntax.specs.Grammar as g
use Rattle.tal_builder.specs.declared.plain_token.PlainToken.TheVariants as plain
use Rattle.tal_builder.specs.First.{name_of, called_of, string_of, is_value}
use Rattle.tal_builder.specs.PlainTokens.{plain_of}
use Rattle.tal_builder.specs.Parse.Chains.{Found, rest_by}
use Rattle.tal_builder.specs.Parse.Expressions.{expr_at, spot_at}

abbrev pub argument_after : ℕ → List Token → Found g.Argument → Found g.Argument
argument_after n ks None = option_map (λ e. (g.value e.0, e.1)) (expr_at n ks)
argument_after n ks (Some s) = Some s

abbrev pub argument_at : ℕ → List Token → Found g.Argument
argument_at n ks = argument_after n ks (string_of ks)

abbrev pub further_at : ℕ → List Token → Found g.Further
further_at n ks = rest_by g.no_further g.more_further (plain_of plain.Comma) (argument_at n) (length ks) ks

-- argument further ")", after "("
abbrev pub listed_at : ℕ → At → List Token → Found g.Arguments
listed_at n start ks =
    option_and_then (λ a. option_and_then (λ f.
    option_map (λ c. (g.listed start a.0 f.0 c.0, c.1)) (plain_of plain.Close f.1)) (further_at n a.1))
    (argument_at n ks)

-- the same where "(" opens the first of n levels
abbrev pub listed_in : ℕ → At → List Token → Found g.Arguments
listed_in zero start ks = None
listed_in (suc n) start ks = listed_at n start ks

abbrev pub arguments_after : ℕ → List Token → Found At → Found g.Arguments
arguments_after n ks None = Some (g.unlisted, ks)
arguments_after n ks (Some (start, us)) = listed_in n start us

abbrev pub arguments_at : ℕ → List Token → Found g.Arguments
arguments_at n ks = arguments_after n ks (plain_of plain.Open ks)

-- name arguments, after CALL
abbrev pub call_at : ℕ → At → List Token → Found g.Statement
call_at n head ks =
    option_and_then (λ w. option_map (λ l. (g.call head w.0.0 w.0.1 l.0, l.1)) (arguments_at n w.1)) (name_of ks)

abbrev pub answer_at : ℕ → List Token → Found g.Answer
answer_at n ks = if is_value ks then option_map (λ e. (g.answer e.0, e.1)) (expr_at n ks) else Some (g.no_answer, ks)

-- answer, after RETURN
abbrev pub return_at : ℕ → At → List Token → Found g.Statement
return_at n head ks = option_map (λ a. (g.return head a.0, a.1)) (answer_at n ks)

abbrev pub values_at : ℕ → List Token → Found g.Values
values_at n ks = rest_by g.no_values g.more_values (plain_of plain.Comma) (expr_at n) (length ks) ks

-- expr values ")", after "("
abbrev pub value_list_at : ℕ → List Token → Found (g.Expr × g.Values × At)
value_list_at n ks =
    option_and_then (λ f. option_and_then (λ m. option_map (λ c. ((f.0, m.0, c.0), c.1)) (plain_of plain.Close m.1))
    (values_at n f.1)) (expr_at n ks)

-- the same where "(" opens the first of n levels
abbrev pub value_list_in : ℕ → List Token → Found (g.Expr × g.Values × At)
value_list_in zero ks = None
value_list_in (suc n) ks = value_list_at n ks

-- what stands behind `:=`: a call where a name stands directly before "(", or else an expr
abbrev pub right_after : ℕ → g.Spot → At → List Token → Option (At × List ℕ × At × List Token) → Found g.Statement
right_after n target at ks None = option_map (λ e. (g.assign target at e.0, e.1)) (expr_at n ks)
right_after n target at ks (Some w) =
    option_map (λ v. (g.assign_call target at w.0 w.1 w.2 v.0.0 v.0.1 v.0.2, v.1)) (value_list_in n w.3)

abbrev pub right_at : ℕ → g.Spot → At → List Token → Found g.Statement
right_at n target at ks = right_after n target at ks (called_of ks)

abbrev pub assign_at : ℕ → List Token → Found g.Statement
assign_at n ks =
    option_and_then (λ s. option_and_then (λ a. right_at n s.0 a.0 a.1) (plain_of plain.Assign s.1)) (spot_at n ks)
