-- The tokens of a part before others are as many as these, at least.
use Rattle.std.proofs.Common.{◌≤◌, suc, List, ◌∷◌, length, arith}
use Rattle.tal_tokens.specs.declared.token.Token.{Token}
use Rattle.tal_tokens.specs.declared.token.Token.TheVariants as tok
use Rattle.tal_syntax.specs.Grammar as g

abbrev Grows : {X : Type 0} → (X → List Token → List Token) → Type 0
Grows {X = X} of_x = (x : X) (ks : List Token) → length ks ≤ length (of_x x ks)

grows_atom : Grows g.of_atom
grows_atom (g.digits at v) ks = omega arith
grows_atom (g.known at name) ks = omega arith

grows_constant : Grows g.of_constant
grows_constant (g.positive x) ks = grows_atom x ks
grows_constant (g.negative sign x) ks = omega (arith, grows_atom x ks)

grows_bounds : Grows g.of_bounds
grows_bounds g.unbounded ks = omega arith
grows_bounds (g.bounded start low colon high close) ks =
    omega (
      arith,
      grows_constant low (tok.Colon colon ∷ g.of_constant high (tok.CloseIndex close ∷ ks)),
      grows_constant high (tok.CloseIndex close ∷ ks),
    )

pub grows_item : Grows g.of_item
grows_item (g.item at name b) ks = omega (arith, grows_bounds b ks)

grows_items : Grows g.of_items
grows_items g.no_items ks = omega arith
grows_items (g.more_items comma i r) ks = omega (arith, grows_item i (g.of_items r ks), grows_items r ks)

pub grows_literal : Grows g.of_literal
grows_literal (g.literal at name equal c) ks = omega (arith, grows_constant c ks)

grows_literals : Grows g.of_literals
grows_literals g.no_literals ks = omega arith
grows_literals (g.more_literals comma i r) ks = omega (arith, grows_literal i (g.of_literals r ks), grows_literals r ks)

pub grows_globals : (l : g.Globals) (ks : List Token) → suc (length ks) ≤ length (g.of_globals l ks)
grows_globals (g.int_line int first more end) ks =
    omega (
      arith,
      grows_item first (g.of_items more (tok.Semicolon end ∷ ks)),
      grows_items more (tok.Semicolon end ∷ ks),
    )
grows_globals (g.literal_line word first more end) ks =
    omega (
      arith,
      grows_literal first (g.of_literals more (tok.Semicolon end ∷ ks)),
      grows_literals more (tok.Semicolon end ∷ ks),
    )

grows_names : Grows g.of_names
grows_names g.no_names ks = omega arith
grows_names (g.more_names comma at name r) ks = omega (arith, grows_names r ks)

grows_parameters : Grows g.of_parameters
grows_parameters g.no_parameters ks = omega arith
grows_parameters (g.parameters start at name more close) ks = omega (arith, grows_names more (tok.Close close ∷ ks))

pub grows_local : (l : g.Local) (ks : List Token) → suc (length ks) ≤ length (g.of_local l ks)
grows_local (g.local int at name more end) ks = omega (arith, grows_names more (tok.Semicolon end ∷ ks))

grows_locals : Grows g.of_locals
grows_locals g.no_locals ks = omega arith
grows_locals (g.more_locals l r) ks = omega (arith, grows_local l (g.of_locals r ks), grows_locals r ks)

grows_main : Grows g.of_main
grows_main g.not_main ks = omega arith
grows_main (g.is_main at) ks = omega arith

grows_heading : (h : g.Heading) (ks : List Token) → suc (length ks) ≤ length (g.of_heading h ks)
grows_heading (g.heading g.gives_nothing proc at name p m end) ks =
    omega (arith, grows_parameters p (g.of_main m (tok.Semicolon end ∷ ks)), grows_main m (tok.Semicolon end ∷ ks))
grows_heading (g.heading (g.gives_int int) proc at name p m end) ks =
    omega (arith, grows_parameters p (g.of_main m (tok.Semicolon end ∷ ks)), grows_main m (tok.Semicolon end ∷ ks))

mutual
  pub grows_expr : (e : g.Expr) (ks : List Token) → length ks ≤ length (g.of_expr e ks)
  grows_expr (g.expr b os) ks = omega (arith, grows_both b (g.of_ors os ks), grows_ors os ks)

  grows_ors : (x : g.Ors) (ks : List Token) → length ks ≤ length (g.of_ors x ks)
  grows_ors g.no_ors ks = omega arith
  grows_ors (g.more_ors at b os) ks = omega (arith, grows_both b (g.of_ors os ks), grows_ors os ks)

  pub grows_both : (b : g.Both) (ks : List Token) → length ks ≤ length (g.of_both b ks)
  grows_both (g.both n ns) ks = omega (arith, grows_neg n (g.of_ands ns ks), grows_ands ns ks)

  grows_ands : (x : g.Ands) (ks : List Token) → length ks ≤ length (g.of_ands x ks)
  grows_ands g.no_ands ks = omega arith
  grows_ands (g.more_ands at n ns) ks = omega (arith, grows_neg n (g.of_ands ns ks), grows_ands ns ks)

  pub grows_neg : (n : g.Neg) (ks : List Token) → length ks ≤ length (g.of_neg n ks)
  grows_neg (g.negated at n) ks = omega (arith, grows_neg n ks)
  grows_neg (g.relation s c) ks = omega (arith, grows_sum s (g.of_compared c ks), grows_compared c ks)

  grows_compared : (c : g.Compared) (ks : List Token) → length ks ≤ length (g.of_compared c ks)
  grows_compared g.alone ks = omega arith
  grows_compared (g.compared r s) ks = omega (arith, grows_sum s ks)

  grows_sum : (s : g.Sum) (ks : List Token) → length ks ≤ length (g.of_sum s ks)
  grows_sum (g.sum p ts) ks = omega (arith, grows_product p (g.of_terms ts ks), grows_terms ts ks)

  grows_terms : (x : g.Terms) (ks : List Token) → length ks ≤ length (g.of_terms x ks)
  grows_terms g.no_terms ks = omega arith
  grows_terms (g.more_terms s p ts) ks = omega (arith, grows_product p (g.of_terms ts ks), grows_terms ts ks)

  pub grows_product : (p : g.Product) (ks : List Token) → length ks ≤ length (g.of_product p ks)
  grows_product (g.product f fs) ks = omega (arith, grows_factor f (g.of_factors fs ks), grows_factors fs ks)

  grows_factors : (x : g.Factors) (ks : List Token) → length ks ≤ length (g.of_factors x ks)
  grows_factors g.no_factors ks = omega arith
  grows_factors (g.more_factors s f fs) ks = omega (arith, grows_factor f (g.of_factors fs ks), grows_factors fs ks)

  pub grows_factor : (f : g.Factor) (ks : List Token) → length ks ≤ length (g.of_factor f ks)
  grows_factor (g.minus at f) ks = omega (arith, grows_factor f ks)
  grows_factor (g.number at v) ks = omega arith
  grows_factor (g.read s) ks = grows_spot s ks
  grows_factor (g.parens start e close) ks = omega (arith, grows_expr e (tok.Close close ∷ ks))

  grows_spot : (s : g.Spot) (ks : List Token) → length ks ≤ length (g.of_spot s ks)
  grows_spot (g.spot at name i) ks = omega (arith, grows_index i ks)

  grows_index : (i : g.Index) (ks : List Token) → length ks ≤ length (g.of_index i ks)
  grows_index g.no_index ks = omega arith
  grows_index (g.index start e close) ks = omega (arith, grows_expr e (tok.CloseIndex close ∷ ks))

pub grows_argument : Grows g.of_argument
grows_argument (g.value e) ks = grows_expr e ks
grows_argument (g.receive at) ks = omega arith
grows_argument (g.process at name) ks = omega arith
grows_argument (g.quoted at) ks = omega arith

grows_further : Grows g.of_further
grows_further g.no_further ks = omega arith
grows_further (g.more_further comma x r) ks = omega (arith, grows_argument x (g.of_further r ks), grows_further r ks)

grows_arguments : Grows g.of_arguments
grows_arguments g.unlisted ks = omega arith
grows_arguments (g.listed start first more close) ks =
    omega (
      arith,
      grows_argument first (g.of_further more (tok.Close close ∷ ks)),
      grows_further more (tok.Close close ∷ ks),
    )

grows_values : Grows g.of_values
grows_values g.no_values ks = omega arith
grows_values (g.more_values comma e r) ks = omega (arith, grows_expr e (g.of_values r ks), grows_values r ks)

grows_answer : Grows g.of_answer
grows_answer g.no_answer ks = omega arith
grows_answer (g.answer e) ks = grows_expr e ks

grows_step : Grows g.of_step
grows_step g.step_one ks = omega arith
grows_step (g.step_by at c) ks = omega (arith, grows_constant c ks)

mutual
  pub grows_statement : (s : g.Statement) (ks : List Token) → length ks ≤ length (g.of_statement s ks)
  grows_statement g.nothing ks = omega arith
  grows_statement (g.block begin first more end) ks =
      omega (arith, grows_statement first (g.of_row more (tok.End end ∷ ks)), grows_row more (tok.End end ∷ ks))
  grows_statement (g.if_then head test then_at s o) ks =
      omega (
        arith,
        grows_expr test (tok.Then then_at ∷ g.of_statement s (g.of_otherwise o ks)),
        grows_statement s (g.of_otherwise o ks),
        grows_otherwise o ks,
      )
  grows_statement (g.while_do head test do_at s) ks =
      omega (arith, grows_expr test (tok.Do do_at ∷ g.of_statement s ks), grows_statement s ks)
  grows_statement (g.for_do head at name set_at from direction to step do_at s) ks =
      let body : List Token = tok.Do do_at ∷ g.of_statement s ks in
      omega (
        arith,
        grows_expr from (g.of_direction direction ∷ g.of_expr to (g.of_step step body)),
        grows_expr to (g.of_step step body),
        grows_step step body,
        grows_statement s ks,
      )
  grows_statement (g.do_until head s at test) ks =
      omega (arith, grows_statement s (tok.Until at ∷ g.of_expr test ks), grows_expr test ks)
  grows_statement (g.call head at name a) ks = omega (arith, grows_arguments a ks)
  grows_statement (g.return head a) ks = omega (arith, grows_answer a ks)
  grows_statement (g.assign target at e) ks =
      omega (arith, grows_spot target (tok.Assign at ∷ g.of_expr e ks), grows_expr e ks)
  grows_statement (g.assign_call target at name_at name start first more close) ks =
      omega (
        arith,
        grows_spot target (tok.Assign at ∷ tok.Name name_at name ∷ tok.Open start
            ∷ g.of_expr first (g.of_values more (tok.Close close ∷ ks))),
        grows_expr first (g.of_values more (tok.Close close ∷ ks)),
        grows_values more (tok.Close close ∷ ks),
      )

  grows_otherwise : (o : g.Otherwise) (ks : List Token) → length ks ≤ length (g.of_otherwise o ks)
  grows_otherwise g.no_else ks = omega arith
  grows_otherwise (g.otherwise at s) ks = omega (arith, grows_statement s ks)

  grows_row : (r : g.Row) (ks : List Token) → length ks ≤ length (g.of_row r ks)
  grows_row g.no_row ks = omega arith
  grows_row (g.more_row semicolon s r) ks = omega (arith, grows_statement s (g.of_row r ks), grows_row r ks)

pub grows_procedure : (p : g.Procedure) (ks : List Token) → suc (length ks) ≤ length (g.of_procedure p ks)
grows_procedure (g.procedure h outer begin inner first more end last) ks =
    let us : List Token = tok.End end ∷ tok.Semicolon last ∷ ks in
    let vs : List Token = g.of_statement first (g.of_row more us) in
    omega (
      arith,
      grows_heading h (g.of_locals outer (tok.Begin begin ∷ g.of_locals inner vs)),
      grows_locals outer (tok.Begin begin ∷ g.of_locals inner vs),
      grows_locals inner vs,
      grows_statement first (g.of_row more us),
      grows_row more us,
    )
