-- Where the levels of a part's tokens are allowed before others, these are.
use Rattle.std.proofs.Common.{ℕ, suc, List, ◌∷◌}
use Rattle.tal_syntax.specs.Grammar as g
use Rattle.tal_syntax.specs.Expected.{AllAtMost}
use Rattle.tal_syntax.specs.Nesting.{nest_expr, nest_ors, nest_both, nest_ands, nest_neg, nest_compared, nest_sum}
use Rattle.tal_syntax.specs.Nesting.{nest_terms, nest_product, nest_factors, nest_factor, nest_spot, nest_index}
use Rattle.tal_syntax.specs.Nesting.{nest_argument, nest_further, nest_arguments, nest_values, nest_answer}
use Rattle.tal_syntax.specs.Nesting.{nest_step, nest_statement, nest_otherwise, nest_row}
use Rattle.tal_builder.proofs.Flat.{after_step}

mutual
  pub after_expr : (x : g.Expr) (n m : ℕ) (ls : List ℕ) → AllAtMost m (nest_expr n x ls) → AllAtMost m ls
  after_expr (g.expr b os) n m ls a = after_ors os n m ls (after_both b n m (nest_ors n os ls) a)

  after_ors : (x : g.Ors) (n m : ℕ) (ls : List ℕ) → AllAtMost m (nest_ors n x ls) → AllAtMost m ls
  after_ors g.no_ors n m ls a = a
  after_ors (g.more_ors at b os) n m ls a = after_ors os n m ls (after_both b n m (nest_ors n os ls) a.1)

  pub after_both : (x : g.Both) (n m : ℕ) (ls : List ℕ) → AllAtMost m (nest_both n x ls) → AllAtMost m ls
  after_both (g.both neg ns) n m ls a = after_ands ns n m ls (after_neg neg n m (nest_ands n ns ls) a)

  after_ands : (x : g.Ands) (n m : ℕ) (ls : List ℕ) → AllAtMost m (nest_ands n x ls) → AllAtMost m ls
  after_ands g.no_ands n m ls a = a
  after_ands (g.more_ands at neg ns) n m ls a = after_ands ns n m ls (after_neg neg n m (nest_ands n ns ls) a.1)

  pub after_neg : (x : g.Neg) (n m : ℕ) (ls : List ℕ) → AllAtMost m (nest_neg n x ls) → AllAtMost m ls
  after_neg (g.negated at neg) n m ls a = after_neg neg (suc n) m ls a.1
  after_neg (g.relation s c) n m ls a = after_compared c n m ls (after_sum s n m (nest_compared n c ls) a)

  after_compared : (x : g.Compared) (n m : ℕ) (ls : List ℕ) → AllAtMost m (nest_compared n x ls) → AllAtMost m ls
  after_compared g.alone n m ls a = a
  after_compared (g.compared r s) n m ls a = after_sum s n m ls a.1

  pub after_sum : (x : g.Sum) (n m : ℕ) (ls : List ℕ) → AllAtMost m (nest_sum n x ls) → AllAtMost m ls
  after_sum (g.sum p ts) n m ls a = after_terms ts n m ls (after_product p n m (nest_terms n ts ls) a)

  after_terms : (x : g.Terms) (n m : ℕ) (ls : List ℕ) → AllAtMost m (nest_terms n x ls) → AllAtMost m ls
  after_terms g.no_terms n m ls a = a
  after_terms (g.more_terms s p ts) n m ls a = after_terms ts n m ls (after_product p n m (nest_terms n ts ls) a.1)

  pub after_product : (x : g.Product) (n m : ℕ) (ls : List ℕ) → AllAtMost m (nest_product n x ls) → AllAtMost m ls
  after_product (g.product f fs) n m ls a = after_factors fs n m ls (after_factor f n m (nest_factors n fs ls) a)

  after_factors : (x : g.Factors) (n m : ℕ) (ls : List ℕ) → AllAtMost m (nest_factors n x ls) → AllAtMost m ls
  after_factors g.no_factors n m ls a = a
  after_factors (g.more_factors s f fs) n m ls a =
      after_factors fs n m ls (after_factor f n m (nest_factors n fs ls) a.1)

  pub after_factor : (x : g.Factor) (n m : ℕ) (ls : List ℕ) → AllAtMost m (nest_factor n x ls) → AllAtMost m ls
  after_factor (g.minus at f) n m ls a = after_factor f (suc n) m ls a.1
  after_factor (g.number at v) n m ls a = a.1
  after_factor (g.read s) n m ls a = after_spot s n m ls a
  after_factor (g.parens start e close) n m ls a = (after_expr e (suc n) m (suc n ∷ ls) a.1).1

  pub after_spot : (x : g.Spot) (n m : ℕ) (ls : List ℕ) → AllAtMost m (nest_spot n x ls) → AllAtMost m ls
  after_spot (g.spot at name i) n m ls a = after_index i n m ls a.1

  after_index : (x : g.Index) (n m : ℕ) (ls : List ℕ) → AllAtMost m (nest_index n x ls) → AllAtMost m ls
  after_index g.no_index n m ls a = a
  after_index (g.index start e close) n m ls a = (after_expr e (suc n) m (suc n ∷ ls) a.1).1

pub after_argument : (x : g.Argument) (n m : ℕ) (ls : List ℕ) → AllAtMost m (nest_argument n x ls) → AllAtMost m ls
after_argument (g.value e) n m ls a = after_expr e n m ls a
after_argument (g.receive at) n m ls a = a.1
after_argument (g.process at name) n m ls a = a.1
after_argument (g.quoted at) n m ls a = a.1

after_further : (x : g.Further) (n m : ℕ) (ls : List ℕ) → AllAtMost m (nest_further n x ls) → AllAtMost m ls
after_further g.no_further n m ls a = a
after_further (g.more_further comma x r) n m ls a =
    after_further r n m ls (after_argument x n m (nest_further n r ls) a.1)

after_arguments : (x : g.Arguments) (n m : ℕ) (ls : List ℕ) → AllAtMost m (nest_arguments n x ls) → AllAtMost m ls
after_arguments g.unlisted n m ls a = a
after_arguments (g.listed start first more close) n m ls a =
    (after_further more (suc n) m (suc n ∷ ls)
    (after_argument first (suc n) m (nest_further (suc n) more (suc n ∷ ls)) a.1)).1

after_values : (x : g.Values) (n m : ℕ) (ls : List ℕ) → AllAtMost m (nest_values n x ls) → AllAtMost m ls
after_values g.no_values n m ls a = a
after_values (g.more_values comma e r) n m ls a = after_values r n m ls (after_expr e n m (nest_values n r ls) a.1)

after_answer : (x : g.Answer) (n m : ℕ) (ls : List ℕ) → AllAtMost m (nest_answer n x ls) → AllAtMost m ls
after_answer g.no_answer n m ls a = a
after_answer (g.answer e) n m ls a = after_expr e n m ls a

mutual
  pub after_statement : (x : g.Statement) (n m : ℕ) (ls : List ℕ) → AllAtMost m (nest_statement n x ls) → AllAtMost m ls
  after_statement g.nothing n m ls a = a
  after_statement (g.block begin first more end) n m ls a =
      (after_row more (suc n) m (suc n ∷ ls) (after_statement first (suc n) m (nest_row (suc n) more (suc n ∷ ls))
      a.1)).1
  after_statement (g.if_then head test then_at s o) n m ls a =
      after_otherwise o (suc n) m ls (after_statement s (suc n) m (nest_otherwise (suc n) o ls)
      (after_expr test (suc n) m (suc n ∷ nest_statement (suc n) s (nest_otherwise (suc n) o ls)) a.1).1)
  after_statement (g.while_do head test do_at s) n m ls a =
      after_statement s (suc n) m ls (after_expr test (suc n) m (suc n ∷ nest_statement (suc n) s ls) a.1).1
  after_statement (g.for_do head at name set_at from direction to step do_at s) n m ls a =
      let inner : List ℕ = suc n ∷ nest_statement (suc n) s ls in
      after_statement s (suc n) m ls (after_step step (suc n) m inner
      (after_expr to (suc n) m (nest_step (suc n) step inner)
      (after_expr from (suc n) m (suc n ∷ nest_expr (suc n) to (nest_step (suc n) step inner)) a.1.1.1).1)).1
  after_statement (g.do_until head s at test) n m ls a =
      after_expr test (suc n) m ls (after_statement s (suc n) m (suc n ∷ nest_expr (suc n) test ls) a.1).1
  after_statement (g.call head at name x) n m ls a = after_arguments x (suc n) m ls a.1.1
  after_statement (g.return head x) n m ls a = after_answer x (suc n) m ls a.1
  after_statement (g.assign target at e) n m ls a =
      after_expr e (suc n) m ls (after_spot target (suc n) m (suc n ∷ nest_expr (suc n) e ls) a).1
  after_statement (g.assign_call target at name_at name start first more close) n m ls a =
      (after_values more (suc (suc n)) m (suc (suc n) ∷ ls)
      (after_expr first (suc (suc n)) m (nest_values (suc (suc n)) more (suc (suc n) ∷ ls))
      (after_spot target (suc n) m (suc n ∷ suc n ∷ suc (suc n)
      ∷ nest_expr (suc (suc n)) first (nest_values (suc (suc n)) more (suc (suc n) ∷ ls))) a).1.1.1)).1

  pub after_otherwise : (x : g.Otherwise) (n m : ℕ) (ls : List ℕ) → AllAtMost m (nest_otherwise n x ls) → AllAtMost m ls
  after_otherwise g.no_else n m ls a = a
  after_otherwise (g.otherwise at s) n m ls a = after_statement s n m ls a.1

  pub after_row : (x : g.Row) (n m : ℕ) (ls : List ℕ) → AllAtMost m (nest_row n x ls) → AllAtMost m ls
  after_row g.no_row n m ls a = a
  after_row (g.more_row semicolon s r) n m ls a = after_row r n m ls (after_statement s n m (nest_row n r ls) a.1)
