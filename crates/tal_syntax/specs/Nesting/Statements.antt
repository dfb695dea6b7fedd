-- How deep the tokens of statements stand.
use Rattle.std.specs.Prelude.{ℕ, suc, List, ◌∷◌}
use Rattle.tal_syntax.specs.Grammar as g
use Rattle.tal_syntax.specs.Nesting.Declarations.{nest_constant}
use Rattle.tal_syntax.specs.Nesting.Expressions.{nest_expr, nest_spot}

abbrev pub nest_argument : ℕ → g.Argument → List ℕ → List ℕ
nest_argument n (g.value e) ls = nest_expr n e ls
nest_argument n (g.receive at) ls = n ∷ ls
nest_argument n (g.process at name) ls = n ∷ ls
nest_argument n (g.quoted at) ls = n ∷ ls

abbrev pub nest_further : ℕ → g.Further → List ℕ → List ℕ
nest_further n g.no_further ls = ls
nest_further n (g.more_further comma a rest) ls = n ∷ nest_argument n a (nest_further n rest ls)

abbrev pub nest_arguments : ℕ → g.Arguments → List ℕ → List ℕ
nest_arguments n g.unlisted ls = ls
nest_arguments n (g.listed start first more close) ls =
    suc n ∷ nest_argument (suc n) first (nest_further (suc n) more (suc n ∷ ls))

abbrev pub nest_values : ℕ → g.Values → List ℕ → List ℕ
nest_values n g.no_values ls = ls
nest_values n (g.more_values comma e rest) ls = n ∷ nest_expr n e (nest_values n rest ls)

abbrev pub nest_answer : ℕ → g.Answer → List ℕ → List ℕ
nest_answer n g.no_answer ls = ls
nest_answer n (g.answer e) ls = nest_expr n e ls

abbrev pub nest_step : ℕ → g.Step → List ℕ → List ℕ
nest_step n g.step_one ls = ls
nest_step n (g.step_by at c) ls = n ∷ nest_constant n c ls

abbrev mutual
  -- a statement is a level of its own; the empty one has no token
  pub nest_statement : ℕ → g.Statement → List ℕ → List ℕ
  nest_statement n g.nothing ls = ls
  nest_statement n (g.block begin first more end) ls =
      suc n ∷ nest_statement (suc n) first (nest_row (suc n) more (suc n ∷ ls))
  nest_statement n (g.if_then head test then_at s o) ls =
      suc n ∷ nest_expr (suc n) test (suc n ∷ nest_statement (suc n) s (nest_otherwise (suc n) o ls))
  nest_statement n (g.while_do head test do_at s) ls =
      suc n ∷ nest_expr (suc n) test (suc n ∷ nest_statement (suc n) s ls)
  nest_statement n (g.for_do head at name set_at from direction to step do_at s) ls =
      suc n ∷ suc n ∷ suc n ∷ nest_expr (suc n) from
      (suc n ∷ nest_expr (suc n) to (nest_step (suc n) step (suc n ∷ nest_statement (suc n) s ls)))
  nest_statement n (g.do_until head s at test) ls =
      suc n ∷ nest_statement (suc n) s (suc n ∷ nest_expr (suc n) test ls)
  nest_statement n (g.call head at name a) ls = suc n ∷ suc n ∷ nest_arguments (suc n) a ls
  nest_statement n (g.return head a) ls = suc n ∷ nest_answer (suc n) a ls
  nest_statement n (g.assign target at e) ls = nest_spot (suc n) target (suc n ∷ nest_expr (suc n) e ls)
  nest_statement n (g.assign_call target at name_at name start first more close) ls =
      nest_spot (suc n) target (suc n ∷ suc n ∷ suc (suc n)
      ∷ nest_expr (suc (suc n)) first (nest_values (suc (suc n)) more (suc (suc n) ∷ ls)))

  pub nest_otherwise : ℕ → g.Otherwise → List ℕ → List ℕ
  nest_otherwise n g.no_else ls = ls
  nest_otherwise n (g.otherwise at s) ls = n ∷ nest_statement n s ls

  pub nest_row : ℕ → g.Row → List ℕ → List ℕ
  nest_row n g.no_row ls = ls
  nest_row n (g.more_row semicolon s rest) ls = n ∷ nest_statement n s (nest_row n rest ls)
