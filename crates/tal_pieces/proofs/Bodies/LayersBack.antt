-- Printed IF, WHILE, FOR and DO read back, where the statements in them do.
use Rattle.std.proofs.Common.{◌≡◌, ◌≤◌, ℕ, suc, ℤ, pos, int_lt, Bool, true, false, List, [], ◌∷◌, refl}
use Rattle.std.proofs.lemmas.Int.{ints}
use Rattle.std.specs.Prelude.{if◌then◌else◌}
use Rattle.std.proofs.Common.{sym, ap, ◌∙◌, arith, subst}
use Rattle.tal_tree.specs.declared.expression.Cond.{Cond}
use Rattle.tal_tree.specs.declared.expression.Expr.{Expr}
use Rattle.tal_tree.specs.declared.expression.Variable.{Variable}
use Rattle.tal_tree.specs.declared.program.Program.{Program}
use Rattle.tal_tree.specs.declared.statement.Statement.{Statement}
use Rattle.tal_tree.specs.declared.statement.What.TheVariants as what
use Rattle.tal_tokens.specs.declared.token.Token.{Token}
use Rattle.tal_tokens.specs.declared.token.Token.TheVariants as tok
use Rattle.tal_syntax.specs.Grammar as g
use Rattle.tal_syntax.specs.Expected.{AllAtMost}
use Rattle.tal_syntax.specs.Nesting.{nest_expr, nest_step, nest_statement}
use Rattle.tal_tokens.specs.declared.token.At.{At}
use Rattle.tal_names.specs.Faults.{fault_at, if_so}
use Rattle.tal_names.specs.declared.fault.Rule.TheVariants.{WrongKind}
use Rattle.tal_declarations.specs.declared.table.Files.{Files}
use Rattle.tal_names.specs.declared.scope.Scope.{Scope}
use Rattle.tal_rules.specs.declared.walk.Walk.{Walk}
use Rattle.tal_declarations.specs.Files.{statement_files}
use Rattle.tal_rules.specs.Statements.{next_walk, inside_do, after, step_faults, test_faults, statement_faults}
use Rattle.tal_rules.specs.Statements.{number_faults}
use Rattle.tal_meaning.specs.Statements.{is_down, step_of, statements_of}
use Rattle.tal_pieces.specs.declared.piece.Keyword.TheVariants as word
use Rattle.tal_pieces.specs.declared.piece.Symbol.TheVariants as sign
use Rattle.tal_pieces.specs.declared.piece.Piece.{Piece}
use Rattle.tal_pieces.specs.declared.piece.Piece.TheVariants as piece
use Rattle.tal_pieces.specs.declared.rank.TestRank.TheVariants as test
use Rattle.tal_pieces.specs.declared.rank.ValueRank.TheVariants as value
use Rattle.tal_pieces.specs.Cuts.{keyword_token, AreTokens}
use Rattle.tal_pieces.specs.Printed.Expressions.{value_pieces, test_pieces}
use Rattle.tal_pieces.specs.Printed.Statements.{direction_word, step_pieces, what_pieces, inner_pieces}
use Rattle.tal_pieces.specs.Unlined.{unlined_statements}
use Rattle.tal_pieces.proofs.Values.Back.{first}
use Rattle.tal_pieces.proofs.Bodies.Counted.{counted}
use Rattle.tal_pieces.proofs.Values.Layers.{pieces_if, pieces_while, pieces_for, pieces_do}
use Rattle.tal_pieces.proofs.Bodies.PartsBack.{value_back, variable_back}
use Rattle.tal_pieces.proofs.Standing.Stands.{IsCounted, IsNamedVariable, FitsTest, FitsValue}
use Rattle.tal_faultless.proofs.Scopes.SourceScopes.{without_files}
use Rattle.tal_pieces.proofs.Bodies.StatementsBack.{StatementBack}
use Rattle.tal_pieces.proofs.Values.TestBack.{tests_read_back}
use Rattle.tal_pieces.proofs.Bodies.UnlinedLayers.{unlined_if, unlined_while, unlined_for, unlined_do}
use Rattle.tal_faultless.proofs.Common.Faultless.{nils}

-- which way a FOR counts
abbrev direction_at : Bool → At → g.Direction
direction_at false at = g.up at
direction_at true at = g.down at

direction_is : (down : Bool) (at : At) → keyword_token at (direction_word down) ≡ g.of_direction (direction_at down at)
direction_is false at = refl
direction_is true at = refl

down_is : (down : Bool) (at : At) → is_down (direction_at down at) ≡ down
down_is false at = refl
down_is true at = refl

-- the tokens begin with what a FOR counts by
record StepBack (s : Scope) (step : ℤ) (ks : List Piece) (tokens : List Token) : Type 0 where
  syntax : g.Step
  rest : List Token
  front : tokens ≡ g.of_step syntax rest
  later : AreTokens ks rest
  same : step_of s syntax ≡ step
  fine : step_faults s syntax ≡ []
  shallow : (n : ℕ) (ls : List ℕ) → n ≤ 33 → AllAtMost 33 ls → AllAtMost 33 (nest_step n syntax ls)

by_back : (s : Scope) (step : ℤ) (ks : List Piece) (tokens : List Token) → int_lt step (pos 1) ≡ false
    → AreTokens (piece.Keyword word.By ∷ piece.Number step ∷ ks) tokens
    → StepBack s step ks tokens
by_back s step ks tokens fine a =
    let b = first a in
    let d = first b.later in
    record {
      syntax = g.step_by b.at (g.positive (g.digits d.at step));
      rest = d.rest;
      front = b.is ∙ ap (λ ts. tok.By b.at ∷ ts) d.is;
      later = d.later;
      same = refl;
      fine = ap (λ below. if_so below (fault_at d.at WrongKind)) fine;
      shallow = λ n ls room held. (room, (room, held));
    }

one_is : (step : ℤ) → int_lt (pos 1) step ≡ false → int_lt step (pos 1) ≡ false → pos 1 ≡ step
one_is step high low = omega (arith, ints)

step_if : (s : Scope) (step : ℤ) (ks : List Piece) (tokens : List Token) (b : Bool) → int_lt (pos 1) step ≡ b
    → int_lt step (pos 1) ≡ false
    → AreTokens (if b then piece.Keyword word.By ∷ piece.Number step ∷ ks else ks) tokens
    → StepBack s step ks tokens
step_if s step ks tokens true high fine a = by_back s step ks tokens fine a
step_if s step ks tokens false high fine a = record {
  syntax = g.step_one;
  rest = tokens;
  front = refl;
  later = a;
  same = one_is step high fine;
  fine = refl;
  shallow = λ n ls room held. held;
}

step_back : (s : Scope) (step : ℤ) (ks : List Piece) (tokens : List Token) → int_lt step (pos 1) ≡ false
    → AreTokens (step_pieces step ks) tokens
    → StepBack s step ks tokens
step_back s step ks tokens fine a = step_if s step ks tokens (int_lt (pos 1) step) refl fine a

module _ (p : Program) (locals : List (List ℕ)) (s : Scope) (f : Files) where
  -- statements in the place of one read back before all pieces
  abbrev pub Recurs : ℕ → Walk → List Statement → Walk → Type 0
  Recurs n w xs v = (ks : List Piece) (tokens : List Token) → AreTokens (inner_pieces p locals xs ks) tokens
      → StatementBack s f n w xs v ks tokens

  pub if_back : (n : ℕ) (w v u : Walk) (line : ℕ) (c : Cond) (xs ys : List Statement) (ks : List Piece)
      (tokens : List Token)
      → IsCounted w → FitsTest p locals s (suc n) c → Recurs (suc n) (next_walk w) xs v → Recurs (suc n) v ys u
      → AreTokens (what_pieces p locals (what.If c xs ys) ks) tokens
      → StatementBack s f n w (record { number = w.number; line = line; what = what.If c xs ys } ∷ []) u ks tokens
  if_back n w v u line c xs ys ks tokens count fits recur_x recur_y a =
      let h = first (subst (λ pieces. AreTokens pieces tokens) (pieces_if p locals c xs ys ks) a) in
      let t = tests_read_back p locals s c (piece.Keyword word.Then
      ∷ inner_pieces p locals xs (piece.Keyword word.Else ∷ inner_pieces p locals ys ks)) h.rest fits.named
      h.later in
      let d = first t.later in
      let y = recur_x (piece.Keyword word.Else ∷ inner_pieces p locals ys ks) d.rest d.later in
      let e = first y.later in
      let z = recur_y ks e.rest e.later in
      let room : suc n ≤ 33 = omega (arith, fits.low) in
      record {
        syntax = g.if_then h.at t.syntax d.at y.syntax (g.otherwise e.at z.syntax);
        rest = z.rest;
        front = h.is ∙ ap (λ ts. tok.If h.at ∷ ts)
            (t.front ∙ ap (g.of_expr t.syntax) (d.is ∙ ap (λ ts. tok.Then d.at ∷ ts)
            (y.front ∙ ap (g.of_statement y.syntax) (e.is ∙ ap (λ ts. tok.Else e.at ∷ ts) z.front))));
        later = z.later;
        same = ap (λ x. record { number = w.number; line = 0; what = x } ∷ [])
            (unlined_if _ _ _ ∙ (λ i. what.If (t.same i) (y.same i)
            ((ap (λ u. unlined_statements (statements_of s u z.syntax)) y.next ∙ z.same) i))
            ∙ sym (unlined_if c xs ys));
        next = ap (λ u. after s u z.syntax) y.next ∙ z.next;
        faultless = nils (nils (nils (counted w h.at count) t.faultless) y.faultless)
            (ap (λ u. statement_faults s u z.syntax) y.next ∙ z.faultless);
        nearest = (y.nearest, (y.closed, z.nearest));
        closed = z.closed;
        shallow = λ ls held. (
          room,
          t.shallow (suc n) 33 (suc n ∷ nest_statement (suc n) y.syntax (suc n ∷ nest_statement (suc n) z.syntax ls))
              fits.low
              (room, y.shallow (suc n ∷ nest_statement (suc n) z.syntax ls) (room, z.shallow ls held)),
        );
        opened = ap (λ fs. statement_files (without_files s) fs z.syntax) y.opened ∙ z.opened;
      }

  pub while_back : (n : ℕ) (w v : Walk) (line : ℕ) (c : Cond) (body : List Statement) (ks : List Piece)
      (tokens : List Token)
      → IsCounted w → FitsTest p locals s (suc n) c → Recurs (suc n) (next_walk w) body v
      → AreTokens (what_pieces p locals (what.While c body) ks) tokens
      → StatementBack s f n w (record { number = w.number; line = line; what = what.While c body } ∷ []) v ks tokens
  while_back n w v line c body ks tokens count fits recur a =
      let h = first (subst (λ pieces. AreTokens pieces tokens) (pieces_while p locals c body ks) a) in
      let t = tests_read_back p locals s c (piece.Keyword word.Do ∷ inner_pieces p locals body ks) h.rest fits.named
      h.later in
      let d = first t.later in
      let y = recur ks d.rest d.later in
      let room : suc n ≤ 33 = omega (arith, fits.low) in
      record {
        syntax = g.while_do h.at t.syntax d.at y.syntax;
        rest = y.rest;
        front = h.is ∙ ap (λ ts. tok.While h.at ∷ ts)
            (t.front ∙ ap (g.of_expr t.syntax) (d.is ∙ ap (λ ts. tok.Do d.at ∷ ts) y.front));
        later = y.later;
        same = ap (λ x. record { number = w.number; line = 0; what = x } ∷ [])
            (unlined_while _ _ ∙ (λ i. what.While (t.same i) (y.same i)) ∙ sym (unlined_while c body));
        next = y.next;
        faultless = nils (nils (counted w h.at count) t.faultless) y.faultless;
        nearest = y.nearest;
        closed = y.closed;
        shallow = λ ls held. (
          room,
          t.shallow (suc n) 33 (suc n ∷ nest_statement (suc n) y.syntax ls) fits.low
              (room, y.shallow ls held),
        );
        opened = y.opened;
      }

  pub for_back : (n : ℕ) (w v : Walk) (line : ℕ) (x : Variable) (from to : Expr) (down : Bool) (step : ℤ)
      (body : List Statement) (ks : List Piece) (tokens : List Token)
      → IsNamedVariable p locals s x → FitsValue p locals s (suc n) from → FitsValue p locals s (suc n) to
      → int_lt step (pos 1) ≡ false
      → Recurs (suc n) (next_walk (next_walk w)) body v → IsCounted v
      → AreTokens (what_pieces p locals (what.For x from to down step body v.number) ks) tokens
      → StatementBack s f n w
      (record { number = w.number; line = line; what = what.For x from to down step body v.number } ∷ [])
      (next_walk v) ks tokens
  for_back n w v line x from to down step body ks tokens counter fits_from fits_to fine recur count a =
      let ends = piece.Keyword word.Do ∷ inner_pieces p locals body ks in
      let last = piece.Keyword (direction_word down) ∷ value_pieces p locals value.Sum to (step_pieces step ends) in
      let assigned = piece.Symbol sign.Assign ∷ value_pieces p locals value.Sum from last in
      let h = first (subst (λ pieces. AreTokens pieces tokens)
      (pieces_for p locals x from to down step body v.number ks) a) in
      let i = variable_back p locals s x assigned h.rest counter h.later in
      let b = first i.later in
      let q = value_back p locals s (suc n) from last b.rest fits_from b.later in
      let t = first q.later in
      let r = value_back p locals s (suc n) to (step_pieces step ends) t.rest fits_to t.later in
      let e = step_back s step ends r.rest fine r.later in
      let d = first e.later in
      let y = recur ks d.rest d.later in
      let way : g.Direction = direction_at down t.at in
      let room : suc n ≤ 33 = omega (arith, fits_from.low) in
      record {
        syntax = g.for_do h.at i.at i.text b.at q.syntax way r.syntax e.syntax d.at y.syntax;
        rest = y.rest;
        front = h.is ∙ ap (λ ts. tok.For h.at ∷ ts)
            (i.front ∙ ap (λ ts. tok.Name i.at i.text ∷ ts) (b.is ∙ ap (λ ts. tok.Assign b.at ∷ ts)
            (q.front ∙ ap (g.of_expr q.syntax) (t.is ∙ ap (λ k. k ∷ t.rest) (direction_is down t.at)
            ∙ ap (λ ts. g.of_direction way ∷ ts) (r.front ∙ ap (g.of_expr r.syntax)
            (e.front ∙ ap (g.of_step e.syntax) (d.is ∙ ap (λ ts. tok.Do d.at ∷ ts) y.front)))))));
        later = y.later;
        same = ap (λ x. record { number = w.number; line = 0; what = x } ∷ [])
            (unlined_for _ _ _ _ _ _ _ ∙ (λ j. what.For (i.same j) (q.same j) (r.same j) (down_is down t.at j)
            (e.same j) (y.same j) (y.next j).number)
            ∙ sym (unlined_for x from to down step body v.number));
        next = ap next_walk y.next;
        faultless = nils (nils (nils (nils (nils i.fine q.faultless) r.faultless) e.fine) y.faultless)
            (ap (λ u. number_faults u.number h.at) y.next ∙ counted v h.at count);
        nearest = y.nearest;
        closed = y.closed;
        shallow = λ ls held. (
          room,
          (
            room,
            (
              room,
              q.shallow (suc n
                  ∷ nest_expr (suc n) r.syntax (nest_step (suc n) e.syntax (suc n ∷ nest_statement (suc n) y.syntax
                  ls))) (
                    room,
                    r.shallow (nest_step (suc n) e.syntax (suc n ∷ nest_statement (suc n) y.syntax ls))
                        (e.shallow (suc n) (suc n ∷ nest_statement (suc n) y.syntax ls) room (room, y.shallow ls held)),
                  ),
            ),
          ),
        );
        opened = y.opened;
      }

  pub do_back : (n : ℕ) (w v : Walk) (line : ℕ) (body : List Statement) (c : Cond) (ks : List Piece)
      (tokens : List Token)
      → FitsTest p locals s (suc n) c → Recurs (suc n) (inside_do w) body v → IsCounted v
      → AreTokens (what_pieces p locals (what.DoUntil body c) ks) tokens
      → StatementBack s f n w (record { number = v.number; line = line; what = what.DoUntil body c } ∷ []) (next_walk v)
      ks tokens
  do_back n w v line body c ks tokens fits recur count a =
      let h = first (subst (λ pieces. AreTokens pieces tokens) (pieces_do p locals body c ks) a) in
      let y = recur (piece.Keyword word.Until ∷ test_pieces p locals test.Or c ks) h.rest h.later in
      let u = first y.later in
      let t = tests_read_back p locals s c ks u.rest fits.named u.later in
      let room : suc n ≤ 33 = omega (arith, fits.low) in
      record {
        syntax = g.do_until h.at y.syntax u.at t.syntax;
        rest = t.rest;
        front = h.is ∙ ap (λ ts. tok.Do h.at ∷ ts)
            (y.front ∙ ap (g.of_statement y.syntax) (u.is ∙ ap (λ ts. tok.Until u.at ∷ ts) t.front));
        later = t.later;
        same = (λ j. record {
          number = (y.next j).number;
          line = 0;
          what = (unlined_do _ _ ∙ (λ i. what.DoUntil (y.same i) (t.same i)) ∙ sym (unlined_do body c)) j;
        } ∷ []);
        next = ap next_walk y.next;
        faultless = nils y.faultless (ap (λ x. test_faults s x h.at t.syntax) y.next
            ∙ nils (counted v h.at count) t.faultless);
        nearest = y.nearest;
        closed = refl;
        shallow = λ ls held. (
          room,
          y.shallow (suc n ∷ nest_expr (suc n) t.syntax ls) (room, t.shallow (suc n) 33 ls fits.low held),
        );
        opened = y.opened;
      }
