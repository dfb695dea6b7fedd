-- Statements with which tokens begin. `inner` finds the statements inside one.
use Rattle.std.specs.Prelude.{ℕ, zero, suc, List, ◌∷◌, length, Some, None, option_map, if◌then◌else◌}
use Rattle.std.specs.Option.{option_and_then}
use Rattle.tal_tokens.specs.declared.token.At.{At}
use Rattle.tal_tokens.specs.declared.token.Token.{Token}
use Rattle.tal_tokens.specs.declared.token.Token.TheVariants as tok
use Rattle.tal_syntax.specs.Grammar as g
use Rattle.tal_builder.specs.declared.plain_token.PlainToken.TheVariants as plain
use Rattle.tal_builder.specs.First.{name_of, direction_of, is_begun}
use Rattle.tal_builder.specs.PlainTokens.{plain_of}
use Rattle.tal_builder.specs.Parse.Chains.{Found, rest_by, no_level}
use Rattle.tal_builder.specs.Parse.Declarations.{constant_at}
use Rattle.tal_builder.specs.Parse.Expressions.{expr_at}
use Rattle.tal_builder.specs.Parse.Simple.{call_at, return_at, assign_at}

abbrev pub rows_by : (List Token → Found g.Statement) → List Token → Found g.Row
rows_by inner ks = rest_by g.no_row g.more_row (plain_of plain.Semicolon) inner (length ks) ks

-- statement row END, after BEGIN
abbrev pub block_by : (List Token → Found g.Statement) → At → List Token → Found g.Statement
block_by inner begin ks =
    option_and_then (λ f. option_and_then (λ r.
    option_map (λ e. (g.block begin f.0 r.0 e.0, e.1)) (plain_of plain.End r.1)) (rows_by inner f.1)) (inner ks)

abbrev pub otherwise_after : (List Token → Found g.Statement) → List Token → Found At → Found g.Otherwise
otherwise_after inner ks None = Some (g.no_else, ks)
otherwise_after inner ks (Some (at, us)) = option_map (λ s. (g.otherwise at s.0, s.1)) (inner us)

abbrev pub otherwise_by : (List Token → Found g.Statement) → List Token → Found g.Otherwise
otherwise_by inner ks = otherwise_after inner ks (plain_of plain.Else ks)

-- expr THEN statement otherwise, after IF
abbrev pub if_by : (List Token → Found g.Statement) → ℕ → At → List Token → Found g.Statement
if_by inner n head ks =
    option_and_then (λ t. option_and_then (λ h. option_and_then (λ s. option_map (λ o.
    (g.if_then head t.0 h.0 s.0 o.0, o.1)) (otherwise_by inner s.1)) (inner h.1)) (plain_of plain.Then t.1))
    (expr_at n ks)

-- expr DO statement, after WHILE
abbrev pub while_by : (List Token → Found g.Statement) → ℕ → At → List Token → Found g.Statement
while_by inner n head ks =
    option_and_then (λ t. option_and_then (λ d. option_map (λ s. (g.while_do head t.0 d.0 s.0, s.1)) (inner d.1))
    (plain_of plain.Do t.1)) (expr_at n ks)

abbrev pub step_after : List Token → Found At → Found g.Step
step_after ks None = Some (g.step_one, ks)
step_after ks (Some (at, us)) = option_map (λ c. (g.step_by at c.0, c.1)) (constant_at us)

abbrev pub step_at : List Token → Found g.Step
step_at ks = step_after ks (plain_of plain.By ks)

-- name ":=" expr direction expr step DO statement, after FOR
abbrev pub for_by : (List Token → Found g.Statement) → ℕ → At → List Token → Found g.Statement
for_by inner n head ks =
    option_and_then (λ w. option_and_then (λ a.
    option_and_then (λ f. option_and_then (λ t. option_and_then (λ e. option_and_then (λ b. option_and_then (λ d.
    option_map (λ s. (g.for_do head w.0.0 w.0.1 a.0 f.0 t.0 e.0 b.0 d.0 s.0, s.1)) (inner d.1))
    (plain_of plain.Do b.1)) (step_at e.1)) (expr_at n t.1)) (direction_of f.1)) (expr_at n a.1))
    (plain_of plain.Assign w.1)) (name_of ks)

-- statement UNTIL expr, after DO
abbrev pub do_by : (List Token → Found g.Statement) → ℕ → At → List Token → Found g.Statement
do_by inner n head ks =
    option_and_then (λ s. option_and_then (λ u. option_map (λ e. (g.do_until head s.0 u.0 e.0, e.1)) (expr_at n u.1))
    (plain_of plain.Until s.1)) (inner ks)

-- a statement that isn't empty, in which n levels may be opened
abbrev pub begun_by : (List Token → Found g.Statement) → ℕ → List Token → Found g.Statement
begun_by inner n (tok.Begin at ∷ ks) = block_by inner at ks
begun_by inner n (tok.If at ∷ ks) = if_by inner n at ks
begun_by inner n (tok.While at ∷ ks) = while_by inner n at ks
begun_by inner n (tok.For at ∷ ks) = for_by inner n at ks
begun_by inner n (tok.Do at ∷ ks) = do_by inner n at ks
begun_by inner n (tok.Call at ∷ ks) = call_at n at ks
begun_by inner n (tok.Return at ∷ ks) = return_at n at ks
begun_by inner n ks = assign_at n ks

-- a statement: the empty one, or one that `begun` finds
abbrev pub statement_by : (List Token → Found g.Statement) → List Token → Found g.Statement
statement_by begun ks = if is_begun ks then begun ks else Some (g.nothing, ks)

-- a statement in which n levels may be opened, its own among them
abbrev pub statement_at : ℕ → List Token → Found g.Statement
statement_at zero ks = statement_by no_level ks
statement_at (suc n) ks = statement_by (begun_by (statement_at n) n) ks

abbrev pub row_at : ℕ → List Token → Found g.Row
row_at n ks = rows_by (statement_at n) ks
