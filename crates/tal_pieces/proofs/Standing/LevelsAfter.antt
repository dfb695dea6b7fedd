-- Where the levels of a part's tokens are allowed before others, these are.
use Rattle.std.proofs.Common.{ℕ, suc, List, ◌∷◌}
use Rattle.tal_syntax.specs.Grammar as g
use Rattle.tal_syntax.specs.Expected.{AllAtMost}
use Rattle.tal_syntax.specs.Nesting.{nest_expr, nest_spot, nest_argument, nest_further, nest_arguments, nest_values}
use Rattle.tal_syntax.specs.Nesting.{nest_answer, nest_step, nest_statement, nest_otherwise, nest_row}
use Rattle.tal_names.specs.declared.scope.Scope.{Scope}
use Rattle.tal_pieces.proofs.Values.Deepest.{low_expr, low_index}

module _ (s : Scope) (most : ℕ) where
  pub after_expr : (e : g.Expr) (n : ℕ) (ls : List ℕ) → AllAtMost most (nest_expr n e ls) → AllAtMost most ls
  after_expr e n ls h = (low_expr s most e n ls h).1

  pub after_spot : (x : g.Spot) (n : ℕ) (ls : List ℕ) → AllAtMost most (nest_spot n x ls) → AllAtMost most ls
  after_spot (g.spot at name i) n ls h = (low_index s most i n ls h.0 h.1).1

  pub after_argument : (a : g.Argument) (n : ℕ) (ls : List ℕ) → AllAtMost most (nest_argument n a ls)
      → AllAtMost most ls
  after_argument (g.value e) n ls h = after_expr e n ls h
  after_argument (g.receive at) n ls h = h.1
  after_argument (g.process at name) n ls h = h.1
  after_argument (g.quoted at) n ls h = h.1

  after_further : (a : g.Further) (n : ℕ) (ls : List ℕ) → AllAtMost most (nest_further n a ls) → AllAtMost most ls
  after_further g.no_further n ls h = h
  after_further (g.more_further comma a rest) n ls h =
      after_further rest n ls (after_argument a n (nest_further n rest ls) h.1)

  after_arguments : (a : g.Arguments) (n : ℕ) (ls : List ℕ) → AllAtMost most (nest_arguments n a ls) → AllAtMost most ls
  after_arguments g.unlisted n ls h = h
  after_arguments (g.listed start first more close) n ls h =
      (after_further more (suc n) (suc n ∷ ls)
      (after_argument first (suc n) (nest_further (suc n) more (suc n ∷ ls)) h.1)).1

  pub after_values : (vs : g.Values) (n : ℕ) (ls : List ℕ) → AllAtMost most (nest_values n vs ls) → AllAtMost most ls
  after_values g.no_values n ls h = h
  after_values (g.more_values comma e rest) n ls h = after_values rest n ls (after_expr e n (nest_values n rest ls) h.1)

  after_answer : (a : g.Answer) (n : ℕ) (ls : List ℕ) → AllAtMost most (nest_answer n a ls) → AllAtMost most ls
  after_answer g.no_answer n ls h = h
  after_answer (g.answer e) n ls h = after_expr e n ls h

  pub after_step : (x : g.Step) (n : ℕ) (ls : List ℕ) → AllAtMost most (nest_step n x ls) → AllAtMost most ls
  after_step g.step_one n ls h = h
  after_step (g.step_by by (g.positive (g.digits at value))) n ls h = h.1.1
  after_step (g.step_by by (g.positive (g.known at name))) n ls h = h.1.1
  after_step (g.step_by by (g.negative sign (g.digits at value))) n ls h = h.1.1.1
  after_step (g.step_by by (g.negative sign (g.known at name))) n ls h = h.1.1.1

  mutual
    pub after_statement : (x : g.Statement) (n : ℕ) (ls : List ℕ) → AllAtMost most (nest_statement n x ls)
        → AllAtMost most ls
    after_statement g.nothing n ls h = h
    after_statement (g.block begin first more end) n ls h =
        (after_row more (suc n) (suc n ∷ ls) (after_statement first (suc n) (nest_row (suc n) more (suc n ∷ ls)) h.1)).1
    after_statement (g.if_then head test then_at t o) n ls h =
        after_otherwise o (suc n) ls (after_statement t (suc n) (nest_otherwise (suc n) o ls)
        (after_expr test (suc n) (suc n ∷ nest_statement (suc n) t (nest_otherwise (suc n) o ls)) h.1).1)
    after_statement (g.while_do head test do_at t) n ls h =
        after_statement t (suc n) ls (after_expr test (suc n) (suc n ∷ nest_statement (suc n) t ls) h.1).1
    after_statement (g.for_do head at name set_at from direction to step do_at t) n ls h =
        let body : List ℕ = suc n ∷ nest_statement (suc n) t ls in
        after_statement t (suc n) ls (after_step step (suc n) body
        (after_expr to (suc n) (nest_step (suc n) step body)
        (after_expr from (suc n) (suc n ∷ nest_expr (suc n) to (nest_step (suc n) step body)) h.1.1.1).1)).1
    after_statement (g.do_until head t at test) n ls h =
        after_expr test (suc n) ls (after_statement t (suc n) (suc n ∷ nest_expr (suc n) test ls) h.1).1
    after_statement (g.call head at name a) n ls h = after_arguments a (suc n) ls h.1.1
    after_statement (g.return head a) n ls h = after_answer a (suc n) ls h.1
    after_statement (g.assign target at e) n ls h =
        after_expr e (suc n) ls (after_spot target (suc n) (suc n ∷ nest_expr (suc n) e ls) h).1
    after_statement (g.assign_call target at name_at name start first more close) n ls h =
        (after_values more (suc (suc n)) (suc (suc n) ∷ ls)
        (after_expr first (suc (suc n)) (nest_values (suc (suc n)) more (suc (suc n) ∷ ls))
        (after_spot target (suc n) (suc n ∷ suc n ∷ suc (suc n)
        ∷ nest_expr (suc (suc n)) first (nest_values (suc (suc n)) more (suc (suc n) ∷ ls))) h).1.1.1)).1

    pub after_otherwise : (o : g.Otherwise) (n : ℕ) (ls : List ℕ) → AllAtMost most (nest_otherwise n o ls)
        → AllAtMost most ls
    after_otherwise g.no_else n ls h = h
    after_otherwise (g.otherwise at t) n ls h = after_statement t n ls h.1

    pub after_row : (r : g.Row) (n : ℕ) (ls : List ℕ) → AllAtMost most (nest_row n r ls) → AllAtMost most ls
    after_row g.no_row n ls h = h
    after_row (g.more_row semicolon t rest) n ls h = after_row rest n ls (after_statement t n (nest_row n rest ls) h.1)
