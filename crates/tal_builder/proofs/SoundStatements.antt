-- A statement has the tokens in which it is found, within its levels, and each ELSE in it belongs to the nearest IF.
use Rattle.std.proofs.Common.{◌≡◌, ℕ, Bool, true, false, cond, zero, suc, List, ◌∷◌, length, Some, None, refl, ap, ◌∙◌}
use Rattle.std.proofs.Common.{arith}
use Rattle.std.specs.Prelude.{Option, option_map}
use Rattle.tal_tokens.specs.declared.token.At.{At}
use Rattle.tal_tokens.specs.declared.token.Token.{Token}
use Rattle.tal_tokens.specs.declared.token.Token.TheVariants as tok
use Rattle.tal_syntax.specs.Grammar as g
use Rattle.tal_syntax.specs.Nesting.{nest_expr, nest_spot, nest_argument, nest_further, nest_arguments, nest_values}
use Rattle.tal_syntax.specs.Nesting.{nest_answer, nest_step, nest_statement, nest_otherwise, nest_row}
use Rattle.tal_builder.specs.declared.plain_token.PlainToken.TheVariants as plain
use Rattle.tal_builder.specs.First.{name_of, called_of, string_of, direction_of, is_value, is_begun}
use Rattle.tal_builder.specs.PlainTokens.{plain_of}
use Rattle.tal_builder.specs.Parse.{Found, no_level, expr_at, spot_at, argument_after, argument_at, further_at}
use Rattle.tal_builder.specs.Parse.{listed_in, arguments_after, arguments_at, call_at, answer_at, return_at, values_at}
use Rattle.tal_builder.specs.Parse.{value_list_at, value_list_in, right_after, assign_at, rows_by, block_by}
use Rattle.tal_builder.specs.Parse.{otherwise_after, otherwise_by, if_by, while_by, step_at, for_by, do_by, begun_by}
use Rattle.tal_builder.specs.Parse.{statement_at, row_at}
use Rattle.tal_builder.proofs.Told.{Told, Reads, Within, Below, and_then, mapped, weaker, below, stands, chain}
use Rattle.tal_builder.proofs.Constants.{step_is}
use Rattle.tal_builder.proofs.Flat.{flat_step}
use Rattle.tal_builder.proofs.SoundTokens.{plain_is, name_is, called_is, direction_is}
use Rattle.tal_builder.proofs.SoundExpressions.{expr_is, spot_is}

-- calls
string_is : (r : ℕ) (ks : List Token) → Told (string_of ks)
    (λ p. (g.of_argument p.0 p.1 ≡ ks) × Within nest_argument r p.0)
string_is r (tok.Receive at ∷ ks) = record { told = (refl, λ n m ls l a. (stands n r m l, a)) }
string_is r (tok.Process at name ∷ ks) = record { told = (refl, λ n m ls l a. (stands n r m l, a)) }
string_is r (tok.Text at ∷ ks) = record { told = (refl, λ n m ls l a. (stands n r m l, a)) }
string_is r _ = record { told = tt }

argument_after_is : (r : ℕ) (ks : List Token) (o : Found g.Argument)
    → Told o (λ p. (g.of_argument p.0 p.1 ≡ ks) × Within nest_argument r p.0)
    → Told (argument_after r ks o) (λ p. (g.of_argument p.0 p.1 ≡ ks) × Within nest_argument r p.0)
argument_after_is r ks None h = mapped (expr_at r ks) (λ e. (g.value e.0, e.1)) (expr_is r ks) (λ e p. p)
argument_after_is r ks (Some s) h = h

argument_is : (r : ℕ) → Reads g.of_argument (Within nest_argument r) (argument_at r)
argument_is r ks = argument_after_is r ks (string_of ks) (string_is r ks)

further_is : (r : ℕ) → Reads g.of_further (Within nest_further r) (further_at r)
further_is r ks =
    chain g.no_further g.more_further (plain_of plain.Comma) (argument_at r) (λ s us. tok.Comma s ∷ us) g.of_argument
    g.of_further (Within nest_argument r) (Within nest_further r)
    (record {
      starts = λ us. refl;
      fits = λ n m ls l a. a;
      goes_on = λ s x r us. refl;
      fits_on = λ s x f p q n m ls l a. (stands n r m l, p n m (nest_further n f ls) l (q n m ls l a));
      signs =
          plain_is plain.Comma;
      parts = argument_is r;
    }) (length ks) ks

listed_in_is : (r : ℕ) (start : At) (us ks : List Token) → tok.Open start ∷ us ≡ ks
    → Told (listed_in r start us) (λ p. (g.of_arguments p.0 p.1 ≡ ks) × Within nest_arguments r p.0)
listed_in_is zero start us ks h = record { told = tt }
listed_in_is (suc r) start us ks h =
    and_then (argument_at r us) _ (argument_is r us) (λ a p. and_then (further_at r a.1) _ (further_is r a.1) (λ f q.
    mapped (plain_of plain.Close f.1) _ (plain_is plain.Close f.1) (λ c e. (
      rw (e, q.0, p.0) h,
      λ n m ls l w. (
        omega (arith, l),
        p.1 (suc n) m (nest_further (suc n) f.0 (suc n ∷ ls)) (omega (arith, l))
            (q.1 (suc n) m (suc n ∷ ls) (omega (arith, l)) (omega (arith, l), w)),
      ),
    ))))

arguments_after_is : (r : ℕ) (ks : List Token) (o : Found At) → Told o (λ p. tok.Open p.0 ∷ p.1 ≡ ks)
    → Told (arguments_after r ks o) (λ p. (g.of_arguments p.0 p.1 ≡ ks) × Within nest_arguments r p.0)
arguments_after_is r ks None h = record { told = (refl, λ n m ls l a. a) }
arguments_after_is r ks (Some (start, us)) h = listed_in_is r start us ks h.told

arguments_is : (r : ℕ) → Reads g.of_arguments (Within nest_arguments r) (arguments_at r)
arguments_is r ks = arguments_after_is r ks (plain_of plain.Open ks) (plain_is plain.Open ks)

values_is : (r : ℕ) → Reads g.of_values (Within nest_values r) (values_at r)
values_is r ks =
    chain g.no_values g.more_values (plain_of plain.Comma) (expr_at r) (λ s us. tok.Comma s ∷ us) g.of_expr g.of_values
    (Within nest_expr r) (Within nest_values r)
    (record {
      starts = λ us. refl;
      fits = λ n m ls l a. a;
      goes_on = λ s x r us. refl;
      fits_on = λ s x f p q n m ls l a. (stands n r m l, p n m (nest_values n f ls) l (q n m ls l a));
      signs =
          plain_is plain.Comma;
      parts = expr_is r;
    }) (length ks) ks

-- the tokens of a list of values after "(", and how deep they stand
abbrev of_list : g.Expr × g.Values × At → List Token → List Token
of_list v ks = g.of_expr v.0 (g.of_values v.1 (tok.Close v.2 ∷ ks))

abbrev nest_list : ℕ → g.Expr × g.Values × At → List ℕ → List ℕ
nest_list n v ls = nest_expr n v.0 (nest_values n v.1 (n ∷ ls))

value_list_is : (r : ℕ) → Reads of_list (Within nest_list r) (value_list_at r)
value_list_is r ks =
    and_then (expr_at r ks) _ (expr_is r ks) (λ f p. and_then (values_at r f.1) _ (values_is r f.1) (λ v q.
    mapped (plain_of plain.Close v.1) _ (plain_is plain.Close v.1) (λ c e. (
      rw (e, q.0) p.0,
      λ n m ls l w. p.1 n m (nest_values n v.0 (n ∷ ls)) l (q.1 n m (n ∷ ls) l (stands n r m l, w)),
    ))))

value_list_in_is : (r : ℕ) → Reads of_list (Below nest_list r) (value_list_in r)
value_list_in_is zero ks = record { told = tt }
value_list_in_is (suc r) ks = weaker (value_list_at r ks) (value_list_is r ks) (λ p q. (q.0, below nest_list r p.0 q.1))

-- what is known of a statement: its tokens, its levels, the nearest IF, and that it is open only where no ELSE follows
abbrev Said : ℕ → List Token → g.Statement × List Token → Type 0
Said r ks p = (g.of_statement p.0 p.1 ≡ ks) × Within nest_statement r p.0 × g.IsNearest p.0
    × (g.is_open p.0 ≡ true → plain_of plain.Else p.1 ≡ None)

shut : {X : Type 0} → false ≡ true → X
shut e = absurd (cc)

call_is : (r : ℕ) (head : At) (ks : List Token) → Told (call_at r head ks) (Said (suc r) (tok.Call head ∷ ks))
call_is r head ks =
    and_then (name_of ks) _ (name_is ks) (λ w p. mapped (arguments_at r w.1) _ (arguments_is r w.1) (λ l q. (
      rw (q.0, p) refl,
      λ n m ls b a. (omega (arith, b), (omega (arith, b), q.1 (suc n) m ls (omega (arith, b)) a)),
      tt,
      λ e. shut e,
    )))

answer_is : (r : ℕ) (ks : List Token) (b : Bool)
    → Told {X = g.Answer × List Token} (cond b (option_map (λ e. (g.answer e.0, e.1)) (expr_at r ks))
    (Some (g.no_answer, ks))) (λ p. (g.of_answer p.0 p.1 ≡ ks) × Within nest_answer r p.0)
answer_is r ks true = mapped (expr_at r ks) (λ e. (g.answer e.0, e.1)) (expr_is r ks) (λ e p. p)
answer_is r ks false = record { told = (refl, λ n m ls l a. a) }

return_is : (r : ℕ) (head : At) (ks : List Token) → Told (return_at r head ks) (Said (suc r) (tok.Return head ∷ ks))
return_is r head ks =
    mapped (answer_at r ks) _ (answer_is r ks (is_value ks)) (λ a p. (
      ap (λ ts. tok.Return head ∷ ts) p.0,
      λ n m ls b w. (omega (arith, b), p.1 (suc n) m ls (omega (arith, b)) w),
      tt,
      λ e. shut e,
    ))

right_is : (r : ℕ) (target : g.Spot) (at : At) (us ks : List Token) (o : Option (At × List ℕ × At × List Token))
    → g.of_spot target (tok.Assign at ∷ us) ≡ ks → Within nest_spot r target
    → Told o (λ p. tok.Name p.0 p.1 ∷ tok.Open p.2 ∷ p.3 ≡ us) → Told (right_after r target at us o) (Said (suc r) ks)
right_is r target at us ks None e w h =
    mapped (expr_at r us) _ (expr_is r us) (λ x p. (
      rw p.0 e,
      λ n m ls b a. w (suc n) m (suc n ∷ nest_expr (suc n) x.0 ls) (omega (arith, b))
          (omega (arith, b), p.1 (suc n) m ls (omega (arith, b)) a),
      tt,
      λ e. shut e,
    ))
right_is r target at us ks (Some c) e w h =
    mapped (value_list_in r c.3) _ (value_list_in_is r c.3) (λ v p. (
      rw (p.0, h.told) e,
      λ n m ls b a. w (suc n) m (suc n ∷ suc n ∷ suc (suc n) ∷ nest_list (suc (suc n)) v.0 ls) (omega (arith, b)) (
        omega (arith, b),
        (
          omega (arith, b),
          (
            (p.1 (suc n) m (omega (arith, b))).0,
            (p.1 (suc n) m (omega (arith, b))).1 ls a,
          ),
        ),
      ),
      tt,
      λ e. shut e,
    ))

assign_is : (r : ℕ) (ks : List Token) → Told (assign_at r ks) (Said (suc r) ks)
assign_is r ks =
    and_then (spot_at r ks) _ (spot_is r ks)
    (λ s p. and_then (plain_of plain.Assign s.1) _ (plain_is plain.Assign s.1) (λ a q.
    right_is r s.0 a.0 a.1 ks (called_of a.1) (rw q p.0) p.1 (called_is a.1)))

-- statements
closed : (b : Bool) (o : Found At) (x : At × List Token) → (b ≡ true → o ≡ None) → o ≡ Some x → b ≡ false
closed false o x h e = refl
closed true o x h e = let none : o ≡ None = h refl in absurd (cc)

module _ (r : ℕ) (inner : List Token → Found g.Statement)
    (known : (ks : List Token) → Told (inner ks) (Said r ks)) where
  rows_is : Reads g.of_row (λ x. Within nest_row r x × g.IsNearestRow x) (rows_by inner)
  rows_is ks =
      chain g.no_row g.more_row (plain_of plain.Semicolon) inner (λ s us. tok.Semicolon s ∷ us) g.of_statement g.of_row
      (λ s. Within nest_statement r s × g.IsNearest s) (λ x. Within nest_row r x × g.IsNearestRow x)
      (record {
        starts = λ us. refl;
        fits = ((λ n m ls l a. a), tt);
        goes_on = λ s x r us. refl;
        fits_on = λ s x f p q. (
          (λ n m ls l a. (stands n r m l, p.0 n m (nest_row n f ls) l (q.0 n m ls l a))),
          (p.1, q.1),
        );
        signs = plain_is plain.Semicolon;
        parts = λ us. weaker (inner us) (known us) (λ p q. (q.0, (q.1, q.2)));
      }) (length ks) ks

  block_is : (begin : At) (ks : List Token) → Told (block_by inner begin ks) (Said (suc r) (tok.Begin begin ∷ ks))
  block_is begin ks =
      and_then (inner ks) _ (known ks) (λ f p. and_then (rows_by inner f.1) _ (rows_is f.1) (λ x q.
      mapped (plain_of plain.End x.1) _ (plain_is plain.End x.1) (λ c e. (
        rw (e, q.0, p.0) refl,
        λ n m ls b a. (
          omega (arith, b),
          p.1 (suc n) m (nest_row (suc n) x.0 (suc n ∷ ls)) (omega (arith, b))
              (q.1.0 (suc n) m (suc n ∷ ls) (omega (arith, b)) (omega (arith, b), a)),
        ),
        (p.2, q.1.1),
        λ e. shut e,
      ))))

  otherwise_is : (s : g.Statement) (ks : List Token) (o : Found At) → plain_of plain.Else ks ≡ o
      → (g.is_open s ≡ true → plain_of plain.Else ks ≡ None) → Told o (λ p. tok.Else p.0 ∷ p.1 ≡ ks)
      → Told (otherwise_after inner ks o) (λ p. (g.of_otherwise p.0 p.1 ≡ ks) × Within nest_otherwise r p.0
      × g.IsNearestElse s p.0 × (g.is_open_else p.0 ≡ true → plain_of plain.Else p.1 ≡ None))
  otherwise_is s ks None e open_only h = record { told = (refl, (λ n m ls l a. a), tt, λ _. e) }
  otherwise_is s ks (Some (at, us)) e open_only h =
      mapped (inner us) _ (known us) (λ t p. (
        ap (λ ts. tok.Else at ∷ ts) p.0 ∙ h.told,
        (λ n m ls l a. (stands n r m l, p.1 n m ls l a)),
        (closed (g.is_open s) (plain_of plain.Else ks) (at, us) open_only e, p.2),
        p.3,
      ))

  if_is : (head : At) (ks : List Token) → Told (if_by inner r head ks) (Said (suc r) (tok.If head ∷ ks))
  if_is head ks =
      and_then (expr_at r ks) _ (expr_is r ks)
      (λ t p. and_then (plain_of plain.Then t.1) _ (plain_is plain.Then t.1)
      (λ h q. and_then (inner h.1) _ (known h.1) (λ s u.
      mapped (otherwise_by inner s.1) _ (otherwise_is s.0 s.1 (plain_of plain.Else s.1) refl u.3
      (plain_is plain.Else s.1)) (λ o v. (
        rw (v.0, u.0, q, p.0) refl,
        λ n m ls b a. (
          omega (arith, b),
          p.1 (suc n) m (suc n ∷ nest_statement (suc n) s.0 (nest_otherwise (suc n) o.0 ls)) (omega (arith, b)) (
            omega (arith, b),
            u.1 (suc n) m (nest_otherwise (suc n) o.0 ls) (omega (arith, b))
                (v.1 (suc n) m ls (omega (arith, b)) a),
          ),
        ),
        (u.2, v.2),
        v.3,
      )))))

  while_is : (head : At) (ks : List Token) → Told (while_by inner r head ks) (Said (suc r) (tok.While head ∷ ks))
  while_is head ks =
      and_then (expr_at r ks) _ (expr_is r ks) (λ t p. and_then (plain_of plain.Do t.1) _ (plain_is plain.Do t.1)
      (λ h q.
      mapped (inner h.1) _ (known h.1) (λ s u. (
        rw (u.0, q, p.0) refl,
        λ n m ls b a. (
          omega (arith, b),
          p.1 (suc n) m (suc n ∷ nest_statement (suc n) s.0 ls) (omega (arith, b))
              (omega (arith, b), u.1 (suc n) m ls (omega (arith, b)) a),
        ),
        u.2,
        u.3,
      ))))

  for_is : (head : At) (ks : List Token) → Told (for_by inner r head ks) (Said (suc r) (tok.For head ∷ ks))
  for_is head ks =
      and_then (name_of ks) _ (name_is ks) (λ w p.
      and_then (plain_of plain.Assign w.1) _ (plain_is plain.Assign w.1)
      (λ c d. and_then (expr_at r c.1) _ (expr_is r c.1) (λ f x.
      and_then (direction_of f.1) _ (direction_is f.1)
      (λ t y. and_then (expr_at r t.1) _ (expr_is r t.1)
      (λ i z. and_then (step_at i.1) _ (step_is i.1) (λ j v.
      and_then (plain_of plain.Do j.1) _ (plain_is plain.Do j.1) (λ h q.
      mapped (inner h.1) _ (known h.1) (λ s u. (
        rw (u.0, q, v, z.0, y, x.0, d, p) refl,
        λ n m ls b a. (
          omega (arith, b),
          (
            omega (arith, b),
            (
              omega (arith, b),
              x.1 (suc n) m (suc n
                  ∷ nest_expr (suc n) i.0 (nest_step (suc n) j.0 (suc n ∷ nest_statement (suc n) s.0 ls)))
                  (omega (arith, b)) (
                    omega (arith, b),
                    z.1 (suc n) m (nest_step (suc n) j.0 (suc n ∷ nest_statement (suc n) s.0 ls)) (omega (arith, b))
                        (flat_step j.0 (suc n) m (suc n ∷ nest_statement (suc n) s.0 ls) (omega (arith, b))
                        (omega (arith, b), u.1 (suc n) m ls (omega (arith, b)) a)),
                  ),
            ),
          ),
        ),
        u.2,
        u.3,
      )))))))))

  do_is : (head : At) (ks : List Token) → Told (do_by inner r head ks) (Said (suc r) (tok.Do head ∷ ks))
  do_is head ks =
      and_then (inner ks) _ (known ks) (λ s u. and_then (plain_of plain.Until s.1) _ (plain_is plain.Until s.1) (λ h q.
      mapped (expr_at r h.1) _ (expr_is r h.1) (λ t p. (
        rw (p.0, q, u.0) refl,
        λ n m ls b a. (
          omega (arith, b),
          u.1 (suc n) m (suc n ∷ nest_expr (suc n) t.0 ls) (omega (arith, b))
              (omega (arith, b), p.1 (suc n) m ls (omega (arith, b)) a),
        ),
        u.2,
        λ e. shut e,
      ))))

  begun_is : (ks : List Token) → Told (begun_by inner r ks) (Said (suc r) ks)
  begun_is (tok.Begin at ∷ ks) = block_is at ks
  begun_is (tok.If at ∷ ks) = if_is at ks
  begun_is (tok.While at ∷ ks) = while_is at ks
  begun_is (tok.For at ∷ ks) = for_is at ks
  begun_is (tok.Do at ∷ ks) = do_is at ks
  begun_is (tok.Call at ∷ ks) = call_is r at ks
  begun_is (tok.Return at ∷ ks) = return_is r at ks
  begun_is ks = assign_is r ks

statement_by_is : (r : ℕ) (begun : List Token → Found g.Statement) → ((ks : List Token) → Told (begun ks) (Said r ks))
    → (ks : List Token) (b : Bool)
    → Told (cond b (begun ks) (Some (g.nothing, ks))) (Said r ks)
statement_by_is r begun known ks true = known ks
statement_by_is r begun known ks false = record { told = (refl, (λ n m ls l a. a), tt, λ e. shut e) }

pub statement_is : (r : ℕ) (ks : List Token) → Told (statement_at r ks) (Said r ks)
statement_is zero ks = statement_by_is zero no_level (λ us. record { told = tt }) ks (is_begun ks)
statement_is (suc r) ks = statement_by_is (suc r) (begun_by (statement_at r) r)
    (begun_is r (statement_at r) (statement_is r)) ks (is_begun ks)

pub row_is : (r : ℕ) → Reads g.of_row (λ x. Within nest_row r x × g.IsNearestRow x) (row_at r)
row_is r = rows_is r (statement_at r) (statement_is r)
