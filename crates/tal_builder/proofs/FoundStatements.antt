-- A statement is found in its tokens, where they stand within the levels that are left, each ELSE belongs to the
-- nearest IF, and no token after them goes on to be of it.
use Rattle.std.proofs.Common.{◌≡◌, ℕ, ◌+◌, ◌≤◌, Bool, true, false, cond, zero, suc, List, ◌∷◌, length, Some, None, refl}
use Rattle.std.proofs.Common.{ap, ◌∙◌, arith}
use Rattle.std.specs.Prelude.{option_map}
use Rattle.tal_tokens.specs.declared.token.At.{At}
use Rattle.tal_tokens.specs.declared.token.Token.{Token}
use Rattle.tal_tokens.specs.declared.token.Token.TheVariants as tok
use Rattle.tal_syntax.specs.Grammar as g
use Rattle.tal_syntax.specs.Expected.{AllAtMost}
use Rattle.tal_syntax.specs.Nesting.{nest_expr, nest_argument, nest_further, nest_arguments, nest_values, nest_answer}
use Rattle.tal_syntax.specs.Nesting.{nest_step, nest_statement, nest_otherwise, nest_row}
use Rattle.tal_builder.specs.declared.plain_token.PlainToken.TheVariants as plain
use Rattle.tal_builder.specs.First.{direction_of, is_value, is_begun}
use Rattle.tal_builder.specs.PlainTokens.{plain_of}
use Rattle.tal_builder.specs.Parse.{rest_by, rest_after, expr_at, argument_after, argument_at, arguments_after}
use Rattle.tal_builder.specs.Parse.{arguments_at, answer_at, right_after, right_at, otherwise_after, otherwise_by}
use Rattle.tal_builder.specs.Parse.{begun_by, statement_at}
use Rattle.tal_builder.proofs.AfterLevels.{after_expr, after_spot, after_argument, after_statement}
use Rattle.tal_builder.proofs.Constants.{found_step}
use Rattle.tal_builder.proofs.Flat.{after_step}
use Rattle.tal_builder.proofs.Sizes.{grows_expr, grows_argument, grows_statement}
use Rattle.tal_builder.proofs.Steps.{listed-found, values-found, assign-found, block-found, if-found, while-found}
use Rattle.tal_builder.proofs.Steps.{for-found, do-found, linked}
use Rattle.tal_builder.proofs.FoundExpressions.{QuitsExpr, begins_value, no_string, no_call, found_expr, found_spot}

-- calls
found_argument : (x : g.Argument) (r n m : ℕ) (ks : List Token) (ls : List ℕ) → m ≤ n + r
    → AllAtMost m (nest_argument n x ls) → QuitsExpr ks → argument_at r (g.of_argument x ks) ≡ Some (x, ks)
found_argument (g.value e) r n m ks ls l a q =
    ap (argument_after r (g.of_expr e ks)) (no_string e ks)
    ∙ ap (option_map (λ e. (g.value e.0, e.1))) (found_expr e r n m ks ls l a q)
found_argument (g.receive at) r n m ks ls l a q = refl
found_argument (g.process at name) r n m ks ls l a q = refl
found_argument (g.quoted at) r n m ks ls l a q = refl

quits_further : (x : g.Further) (ks : List Token) → QuitsExpr ks → QuitsExpr (g.of_further x ks)
quits_further g.no_further ks q = q
quits_further (g.more_further comma x r) ks q = ((((((refl, refl), refl), refl), refl), refl), refl)

found_further : (x : g.Further) (r n m : ℕ) (ks : List Token) (ls : List ℕ) (k : ℕ) → length (g.of_further x ks) ≤ k
    → m ≤ n + r → AllAtMost m (nest_further n x ls) → plain_of plain.Comma ks ≡ None → QuitsExpr ks
    → rest_by g.no_further g.more_further (plain_of plain.Comma) (argument_at r) k (g.of_further x ks) ≡ Some (x, ks)
found_further g.no_further r n m ks ls zero i l a c q = refl
found_further g.no_further r n m ks ls (suc k) i l a c q =
    ap (rest_after g.no_further g.more_further (argument_at r)
    (rest_by g.no_further g.more_further (plain_of plain.Comma) (argument_at r) k) ks) c
found_further (g.more_further at x xs) r n m ks ls zero i l a c q = absurd (omega arith)
found_further (g.more_further at x xs) r n m ks ls (suc k) i l a c q =
    linked g.no_further g.more_further (argument_at r)
    (rest_by g.no_further g.more_further (plain_of plain.Comma) (argument_at r) k)
    (g.of_further (g.more_further at x xs) ks) (g.of_argument x (g.of_further xs ks)) (g.of_further xs ks) ks at x
    xs
    (found_argument x r n m (g.of_further xs ks) (nest_further n xs ls) l a.1 (quits_further xs ks q))
    (found_further xs r n m ks ls k (omega (arith, grows_argument x (g.of_further xs ks))) l
    (after_argument x n m (nest_further n xs ls) a.1) c q)

found_arguments : (x : g.Arguments) (r n m : ℕ) (ks : List Token) (ls : List ℕ) → m ≤ n + r
    → AllAtMost m (nest_arguments n x ls) → plain_of plain.Open ks ≡ None
    → arguments_at r (g.of_arguments x ks) ≡ Some (x, ks)
found_arguments g.unlisted r n m ks ls l a q = ap (arguments_after r ks) q
found_arguments (g.listed start first more close) zero n m ks ls l a q = absurd (omega (arith, l, a.0))
found_arguments (g.listed start first more close) (suc r) n m ks ls l a q =
    listed-found r start close (g.of_argument first (g.of_further more (tok.Close close ∷ ks)))
    (g.of_further more (tok.Close close ∷ ks)) (tok.Close close ∷ ks) ks first more
    (found_argument first r (suc n) m (g.of_further more (tok.Close close ∷ ks))
    (nest_further (suc n) more (suc n ∷ ls)) (omega (arith, l)) a.1
    (quits_further more (tok.Close close ∷ ks) ((((((refl, refl), refl), refl), refl), refl), refl)))
    (found_further more r (suc n) m (tok.Close close ∷ ks) (suc n ∷ ls)
    (length (g.of_further more (tok.Close close ∷ ks))) (omega arith) (omega (arith, l))
    (after_argument first (suc n) m (nest_further (suc n) more (suc n ∷ ls)) a.1) refl
    ((((((refl, refl), refl), refl), refl), refl), refl)) refl

quits_values : (x : g.Values) (ks : List Token) → QuitsExpr ks → QuitsExpr (g.of_values x ks)
quits_values g.no_values ks q = q
quits_values (g.more_values comma x r) ks q = ((((((refl, refl), refl), refl), refl), refl), refl)

found_values : (x : g.Values) (r n m : ℕ) (ks : List Token) (ls : List ℕ) (k : ℕ) → length (g.of_values x ks) ≤ k
    → m ≤ n + r → AllAtMost m (nest_values n x ls) → plain_of plain.Comma ks ≡ None → QuitsExpr ks
    → rest_by g.no_values g.more_values (plain_of plain.Comma) (expr_at r) k (g.of_values x ks) ≡ Some (x, ks)
found_values g.no_values r n m ks ls zero i l a c q = refl
found_values g.no_values r n m ks ls (suc k) i l a c q =
    ap (rest_after g.no_values g.more_values (expr_at r)
    (rest_by g.no_values g.more_values (plain_of plain.Comma) (expr_at r) k) ks) c
found_values (g.more_values at x xs) r n m ks ls zero i l a c q = absurd (omega arith)
found_values (g.more_values at x xs) r n m ks ls (suc k) i l a c q =
    linked g.no_values g.more_values (expr_at r)
    (rest_by g.no_values g.more_values (plain_of plain.Comma) (expr_at r) k)
    (g.of_values (g.more_values at x xs) ks) (g.of_expr x (g.of_values xs ks)) (g.of_values xs ks) ks at x xs
    (found_expr x r n m (g.of_values xs ks) (nest_values n xs ls) l a.1 (quits_values xs ks q))
    (found_values xs r n m ks ls k (omega (arith, grows_expr x (g.of_values xs ks))) l
    (after_expr x n m (nest_values n xs ls) a.1) c q)

found_answer : (x : g.Answer) (r n m : ℕ) (ks : List Token) (ls : List ℕ) → m ≤ n + r
    → AllAtMost m (nest_answer n x ls) → is_value ks ≡ false → QuitsExpr ks
    → answer_at r (g.of_answer x ks) ≡ Some (x, ks)
found_answer g.no_answer r n m ks ls l a v q =
    ap (λ b. cond b (option_map (λ e. (g.answer e.0, e.1)) (expr_at r ks)) (Some (g.no_answer, ks))) v
found_answer (g.answer e) r n m ks ls l a v q =
    ap (λ b. cond b (option_map (λ e. (g.answer e.0, e.1)) (expr_at r (g.of_expr e ks)))
    (Some (g.no_answer, g.of_expr e ks))) (begins_value e ks)
    ∙ ap (option_map (λ e. (g.answer e.0, e.1))) (found_expr e r n m ks ls l a q)

found_right : (target : g.Spot) (at : At) (e : g.Expr) (r n m : ℕ) (ks : List Token) (ls : List ℕ) → m ≤ n + r
    → AllAtMost m (nest_expr n e ls) → QuitsExpr ks
    → right_at r target at (g.of_expr e ks) ≡ Some (g.assign target at e, ks)
found_right target at e r n m ks ls l a q =
    ap (right_after r target at (g.of_expr e ks)) (no_call e ks q)
    ∙ ap (option_map (λ e. (g.assign target at e.0, e.1))) (found_expr e r n m ks ls l a q)

found_call : (target : g.Spot) (at name_at : At) (name : List ℕ) (start : At) (first : g.Expr) (more : g.Values)
    (close : At) (r n m : ℕ) (ks : List Token) (ls : List ℕ) → m ≤ n + r
    → AllAtMost m (suc n ∷ nest_expr (suc n) first (nest_values (suc n) more (suc n ∷ ls)))
    → right_at r target at (tok.Name name_at name ∷ tok.Open start
    ∷ g.of_expr first (g.of_values more (tok.Close close ∷ ks)))
    ≡ Some (g.assign_call target at name_at name start first more close, ks)
found_call target at name_at name start first more close zero n m ks ls l a = absurd (omega (arith, l, a.0))
found_call target at name_at name start first more close (suc r) n m ks ls l a =
    ap (option_map (λ v. (g.assign_call target at name_at name start v.0.0 v.0.1 v.0.2, v.1)))
    (values-found r close (g.of_expr first (g.of_values more (tok.Close close ∷ ks)))
    (g.of_values more (tok.Close close ∷ ks)) (tok.Close close ∷ ks) ks first more
    (found_expr first r (suc n) m (g.of_values more (tok.Close close ∷ ks)) (nest_values (suc n) more (suc n ∷ ls))
    (omega (arith, l)) a.1
    (quits_values more (tok.Close close ∷ ks) ((((((refl, refl), refl), refl), refl), refl), refl)))
    (found_values more r (suc n) m (tok.Close close ∷ ks) (suc n ∷ ls)
    (length (g.of_values more (tok.Close close ∷ ks))) (omega arith) (omega (arith, l))
    (after_expr first (suc n) m (nest_values (suc n) more (suc n ∷ ls)) a.1) refl
    ((((((refl, refl), refl), refl), refl), refl), refl)) refl)

-- what follows a statement doesn't go on to be of it
abbrev pub Quits : List Token → Type 0
Quits ks = QuitsExpr ks × (is_begun ks ≡ false) × (is_value ks ≡ false)

quits_otherwise : (o : g.Otherwise) (ks : List Token) → Quits ks → Quits (g.of_otherwise o ks)
quits_otherwise g.no_else ks q = q
quits_otherwise (g.otherwise at s) ks q = (((((((refl, refl), refl), refl), refl), refl), refl), refl, refl)

pub quits_row : (r : g.Row) (ks : List Token) → Quits ks → Quits (g.of_row r ks)
quits_row g.no_row ks q = q
quits_row (g.more_row semicolon s r) ks q = (((((((refl, refl), refl), refl), refl), refl), refl), refl, refl)

pub else_row : (r : g.Row) (ks : List Token) → plain_of plain.Else ks ≡ None → plain_of plain.Else (g.of_row r ks) ≡
    None
else_row g.no_row ks q = q
else_row (g.more_row semicolon s r) ks q = refl

found_direction : (d : g.Direction) (ks : List Token) → direction_of (g.of_direction d ∷ ks) ≡ Some (d, ks)
found_direction (g.up at) ks = refl
found_direction (g.down at) ks = refl

quits_direction : (d : g.Direction) (ks : List Token) → QuitsExpr (g.of_direction d ∷ ks)
quits_direction (g.up at) ks = ((((((refl, refl), refl), refl), refl), refl), refl)
quits_direction (g.down at) ks = ((((((refl, refl), refl), refl), refl), refl), refl)

quits_step : (s : g.Step) (at : At) (ks : List Token) → QuitsExpr (g.of_step s (tok.Do at ∷ ks))
quits_step g.step_one at ks = ((((((refl, refl), refl), refl), refl), refl), refl)
quits_step (g.step_by by c) at ks = ((((((refl, refl), refl), refl), refl), refl), refl)

-- a statement is open only where no ELSE follows
abbrev Shut : Bool → List Token → Type 0
Shut b ks = b ≡ true → plain_of plain.Else ks ≡ None

shut_otherwise : (s : g.Statement) (o : g.Otherwise) (ks : List Token) → g.IsNearestElse s o
    → Shut (g.is_open_else o) ks → Shut (g.is_open s) (g.of_otherwise o ks)
shut_otherwise s g.no_else ks near h = λ _. h refl
shut_otherwise s (g.otherwise at t) ks near h = λ e. let f : g.is_open s ≡ false = near.0 in absurd (cc)

mutual
  pub found_statement : (s : g.Statement) (r n m : ℕ) (ks : List Token) (ls : List ℕ) → m ≤ n + r
      → AllAtMost m (nest_statement n s ls) → g.IsNearest s → Shut (g.is_open s) ks → Quits ks
      → statement_at r (g.of_statement s ks) ≡ Some (s, ks)
  found_statement g.nothing zero n m ks ls l a near h q = ap (λ b. cond b None (Some (g.nothing, ks))) q.1
  found_statement g.nothing (suc r) n m ks ls l a near h q =
      ap (λ b. cond b (begun_by (statement_at r) r ks) (Some (g.nothing, ks))) q.1
  found_statement (g.block begin first more end) zero n m ks ls l a near h q = absurd (omega (arith, l, a.0))
  found_statement (g.block begin first more end) (suc r) n m ks ls l a near h q =
      block-found (statement_at r) begin end (g.of_statement first (g.of_row more (tok.End end ∷ ks)))
      (g.of_row more (tok.End end ∷ ks)) (tok.End end ∷ ks) ks first more
      (found_statement first r (suc n) m (g.of_row more (tok.End end ∷ ks)) (nest_row (suc n) more (suc n ∷ ls))
      (omega (arith, l)) a.1 near.0
      (λ _. else_row more (tok.End end ∷ ks) refl)
      (quits_row more (tok.End end ∷ ks) (((((((refl, refl), refl), refl), refl), refl), refl), refl, refl)))
      (found_row more r (suc n) m (tok.End end ∷ ks) (suc n ∷ ls) (length (g.of_row more (tok.End end ∷ ks)))
      (omega arith) (omega (arith, l))
      (after_statement first (suc n) m (nest_row (suc n) more (suc n ∷ ls)) a.1) near.1 refl refl
      (((((((refl, refl), refl), refl), refl), refl), refl), refl, refl)) refl
  found_statement (g.if_then head test then_at s o) zero n m ks ls l a near h q = absurd (omega (arith, l, a.0))
  found_statement (g.if_then head test then_at s o) (suc r) n m ks ls l a near h q =
      let b : AllAtMost m (suc n ∷ nest_statement (suc n) s (nest_otherwise (suc n) o ls)) =
      after_expr test (suc n) m (suc n ∷ nest_statement (suc n) s (nest_otherwise (suc n) o ls)) a.1 in
      if-found (statement_at r) r head then_at
      (g.of_expr test (tok.Then then_at ∷ g.of_statement s (g.of_otherwise o ks)))
      (tok.Then then_at ∷ g.of_statement s (g.of_otherwise o ks))
      (g.of_statement s (g.of_otherwise o ks)) (g.of_otherwise o ks) ks test s o
      (found_expr test r (suc n) m (tok.Then then_at ∷ g.of_statement s (g.of_otherwise o ks))
      (suc n ∷ nest_statement (suc n) s (nest_otherwise (suc n) o ls)) (omega (arith, l)) a.1
      ((((((refl, refl), refl), refl), refl), refl), refl)) refl
      (found_statement s r (suc n) m (g.of_otherwise o ks) (nest_otherwise (suc n) o ls) (omega (arith, l)) b.1 near.0
      (shut_otherwise s o ks near.1 h) (quits_otherwise o ks q))
      (found_otherwise o s r (suc n) m ks ls (omega (arith, l))
      (after_statement s (suc n) m (nest_otherwise (suc n) o ls) b.1) near.1 h q)
  found_statement (g.while_do head test do_at s) zero n m ks ls l a near h q = absurd (omega (arith, l, a.0))
  found_statement (g.while_do head test do_at s) (suc r) n m ks ls l a near h q =
      while-found (statement_at r) r head do_at (g.of_expr test (tok.Do do_at ∷ g.of_statement s ks))
      (tok.Do do_at ∷ g.of_statement s ks) (g.of_statement s ks) ks test s
      (found_expr test r (suc n) m (tok.Do do_at ∷ g.of_statement s ks) (suc n ∷ nest_statement (suc n) s ls)
      (omega (arith, l)) a.1 ((((((refl, refl), refl), refl), refl), refl), refl)) refl
      (found_statement s r (suc n) m ks ls (omega (arith, l))
      (after_expr test (suc n) m (suc n ∷ nest_statement (suc n) s ls) a.1).1 near h q)
  found_statement (g.for_do head at name set_at from direction to step do_at s) zero n m ks ls l a near h q =
      absurd (omega (arith, l, a.0))
  found_statement (g.for_do head at name set_at from direction to step do_at s) (suc r) n m ks ls l a near h q =
      let inner : List Token = g.of_statement s ks in
      let body : List Token = tok.Do do_at ∷ inner in
      let end : List Token = g.of_expr to (g.of_step step body) in
      let low : List ℕ = suc n ∷ nest_statement (suc n) s ls in
      let b : AllAtMost m (suc n ∷ nest_expr (suc n) to (nest_step (suc n) step low)) =
      after_expr from (suc n) m (suc n ∷ nest_expr (suc n) to (nest_step (suc n) step low)) a.1.1.1 in
      let c : AllAtMost m low =
      after_step step (suc n) m low (after_expr to (suc n) m (nest_step (suc n) step low) b.1) in
      for-found (statement_at r) r head at name set_at do_at
      (tok.Name at name ∷ tok.Assign set_at ∷ g.of_expr from (g.of_direction direction ∷ end))
      (tok.Assign set_at ∷ g.of_expr from (g.of_direction direction ∷ end))
      (g.of_expr from (g.of_direction direction ∷ end))
      (g.of_direction direction ∷ end) end (g.of_step step body) body inner ks from direction to step s refl refl
      (found_expr from r (suc n) m (g.of_direction direction ∷ end)
      (suc n ∷ nest_expr (suc n) to (nest_step (suc n) step low)) (omega (arith, l)) a.1.1.1
      (quits_direction direction end)) (found_direction direction end)
      (found_expr to r (suc n) m (g.of_step step body) (nest_step (suc n) step low) (omega (arith, l)) b.1
      (quits_step step do_at inner)) (found_step step body refl) refl
      (found_statement s r (suc n) m ks ls (omega (arith, l)) c.1 near h q)
  found_statement (g.do_until head s at test) zero n m ks ls l a near h q = absurd (omega (arith, l, a.0))
  found_statement (g.do_until head s at test) (suc r) n m ks ls l a near h q =
      let end : List Token = tok.Until at ∷ g.of_expr test ks in
      let low : List ℕ = suc n ∷ nest_expr (suc n) test ls in
      do-found (statement_at r) r head at (g.of_statement s end) end (g.of_expr test ks) ks s test
      (found_statement s r (suc n) m end low (omega (arith, l)) a.1 near (λ _. refl)
      (((((((refl, refl), refl), refl), refl), refl), refl), refl, refl)) refl
      (found_expr test r (suc n) m ks ls (omega (arith, l)) (after_statement s (suc n) m low a.1).1 q.0)
  found_statement (g.call head at name x) zero n m ks ls l a near h q = absurd (omega (arith, l, a.0))
  found_statement (g.call head at name x) (suc r) n m ks ls l a near h q =
      ap (option_map (λ l. (g.call head at name l.0, l.1)))
      (found_arguments x r (suc n) m ks ls (omega (arith, l)) a.1.1 q.0.0.0.0.0.0.1)
  found_statement (g.return head x) zero n m ks ls l a near h q = absurd (omega (arith, l, a.0))
  found_statement (g.return head x) (suc r) n m ks ls l a near h q =
      ap (option_map (λ a. (g.return head a.0, a.1))) (found_answer x r (suc n) m ks ls (omega (arith, l)) a.1 q.2 q.0)
  found_statement (g.assign (g.spot place name i) at e) zero n m ks ls l a near h q = absurd (omega (arith, l, a.0))
  found_statement (g.assign (g.spot place name i) at e) (suc r) n m ks ls l a near h q =
      let target : g.Spot = g.spot place name i in
      assign-found r at (g.of_spot target (tok.Assign at ∷ g.of_expr e ks)) (tok.Assign at ∷ g.of_expr e ks)
      (g.of_expr e ks) ks target (g.assign target at e)
      (found_spot target r (suc n) m (tok.Assign at ∷ g.of_expr e ks) (suc n ∷ nest_expr (suc n) e ls)
      (omega (arith, l)) a refl) refl
      (found_right target at e r (suc n) m ks ls (omega (arith, l))
      (after_spot target (suc n) m (suc n ∷ nest_expr (suc n) e ls) a).1 q.0)
  found_statement (g.assign_call (g.spot place name i) at name_at callee start first more close) zero n m ks ls l a
      near h q = absurd (omega (arith, l, a.0))
  found_statement (g.assign_call (g.spot place name i) at name_at callee start first more close) (suc r) n m ks ls l a
      near h q =
      let target : g.Spot = g.spot place name i in
      let us : List Token =
      tok.Name name_at callee ∷ tok.Open start ∷ g.of_expr first (g.of_values more (tok.Close close ∷ ks)) in
      let vs : List ℕ =
      suc (suc n) ∷ nest_expr (suc (suc n)) first (nest_values (suc (suc n)) more (suc (suc n) ∷ ls)) in
      assign-found r at (g.of_spot target (tok.Assign at ∷ us)) (tok.Assign at ∷ us) us ks target
      (g.assign_call target at name_at callee start first more close)
      (found_spot target r (suc n) m (tok.Assign at ∷ us) (suc n ∷ suc n ∷ vs) (omega (arith, l)) a refl) refl
      (found_call target at name_at callee start first more close r (suc n) m ks ls (omega (arith, l))
      (after_spot target (suc n) m (suc n ∷ suc n ∷ vs) a).1.1)

  found_otherwise : (o : g.Otherwise) (s : g.Statement) (r n m : ℕ) (ks : List Token) (ls : List ℕ) → m ≤ n + r
      → AllAtMost m (nest_otherwise n o ls) → g.IsNearestElse s o → Shut (g.is_open_else o) ks → Quits ks
      → otherwise_by (statement_at r) (g.of_otherwise o ks) ≡ Some (o, ks)
  found_otherwise g.no_else s r n m ks ls l a near h q = ap (otherwise_after (statement_at r) ks) (h refl)
  found_otherwise (g.otherwise at t) s r n m ks ls l a near h q =
      ap (option_map (λ s. (g.otherwise at s.0, s.1))) (found_statement t r n m ks ls l a.1 near.1 h q)

  pub found_row : (x : g.Row) (r n m : ℕ) (ks : List Token) (ls : List ℕ) (k : ℕ) → length (g.of_row x ks) ≤ k
      → m ≤ n + r → AllAtMost m (nest_row n x ls) → g.IsNearestRow x
      → plain_of plain.Semicolon ks ≡ None → plain_of plain.Else ks ≡ None → Quits ks
      → rest_by g.no_row g.more_row (plain_of plain.Semicolon) (statement_at r) k (g.of_row x ks) ≡ Some (x, ks)
  found_row g.no_row r n m ks ls zero i l a near c e q = refl
  found_row g.no_row r n m ks ls (suc k) i l a near c e q =
      ap (rest_after g.no_row g.more_row (statement_at r)
      (rest_by g.no_row g.more_row (plain_of plain.Semicolon) (statement_at r) k) ks) c
  found_row (g.more_row at s x) r n m ks ls zero i l a near c e q = absurd (omega arith)
  found_row (g.more_row at s x) r n m ks ls (suc k) i l a near c e q =
      linked g.no_row g.more_row (statement_at r)
      (rest_by g.no_row g.more_row (plain_of plain.Semicolon) (statement_at r) k) (g.of_row (g.more_row at s x) ks)
      (g.of_statement s (g.of_row x ks)) (g.of_row x ks) ks at s x
      (found_statement s r n m (g.of_row x ks) (nest_row n x ls) l a.1 near.0 (λ _. else_row x ks e) (quits_row x ks q))
      (found_row x r n m ks ls k (omega (arith, grows_statement s (g.of_row x ks))) l
      (after_statement s n m (nest_row n x ls) a.1) near.1 c e q)
