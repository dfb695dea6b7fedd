-- A printed condition reads back as itself.
use Rattle.std.proofs.Common.{◌≡◌, ℕ, ◌+◌, ◌<◌, ◌≤◌, zero, suc, List, [], ◌∷◌, refl, sym, ap, ◌∙◌, arith, subst}
use Rattle.tal_tree.specs.Rows.{not-is, and-is, or-is}
use Rattle.tal_tree.specs.declared.expression.Cond.{Cond, Truth, Compare, Not, And, Or}
use Rattle.tal_tree.specs.declared.expression.Expr.{Expr}
use Rattle.tal_tree.specs.declared.expression.Rel.{Rel}
use Rattle.tal_tree.specs.declared.expression.Rel.TheVariants as rel
use Rattle.tal_tree.specs.declared.program.Program.{Program}
use Rattle.tal_tokens.specs.declared.token.At.{At}
use Rattle.tal_tokens.specs.declared.token.Token.{Token}
use Rattle.tal_tokens.specs.declared.token.Token.TheVariants as tok
use Rattle.tal_syntax.specs.Grammar as g
use Rattle.tal_syntax.specs.Expected.{AllAtMost}
use Rattle.tal_syntax.specs.Nesting.{nest_expr, nest_both, nest_neg, nest_sum}
use Rattle.tal_names.specs.declared.meaning.Wanted.TheVariants.{Condition, Value}
use Rattle.tal_names.specs.declared.scope.Scope.{Scope}
use Rattle.tal_rules.specs.Expressions.{both_faults, neg_faults, ands_faults, ors_faults}
use Rattle.tal_names.specs.Places.{first_of_sum}
use Rattle.tal_meaning.specs.Expressions.{rel_of, cond_of_both, cond_of_neg, cond_of_ands, cond_of_ors}
use Rattle.tal_pieces.specs.declared.piece.Keyword.TheVariants as word
use Rattle.tal_pieces.specs.declared.piece.Symbol.TheVariants as sign
use Rattle.tal_pieces.specs.declared.piece.Piece.{Piece}
use Rattle.tal_pieces.specs.declared.piece.Piece.TheVariants as piece
use Rattle.tal_pieces.specs.declared.rank.TestRank.{TestRank}
use Rattle.tal_pieces.specs.declared.rank.TestRank.TheVariants as test
use Rattle.tal_pieces.specs.declared.rank.ValueRank.TheVariants as value
use Rattle.tal_pieces.specs.Cuts.{token_of, AreTokens}
use Rattle.tal_pieces.specs.Printed.Expressions.{value_pieces, test_pieces, rel_symbol}
use Rattle.tal_pieces.proofs.Values.ReadsBack.{IsNamed}
use Rattle.tal_pieces.proofs.Values.TestsReadBack.{IsNamedTest, TestsReadBack}
use Rattle.tal_pieces.proofs.Values.TestDepths.{test_depth}
use Rattle.tal_pieces.specs.Weights.{test_weight}
use Rattle.tal_pieces.proofs.Values.Back.{First, first, ends, values_read_back}
use Rattle.tal_pieces.proofs.Values.TestDeepest.{depth_not, depth_and, depth_or}
use Rattle.tal_pieces.proofs.Values.TestChains.{nest_one_and, nest_one_or, one_and, of_one_and, test_one_and}
use Rattle.tal_pieces.proofs.Values.TestChains.{faults_one_and, both_fine, one_or, of_one_or, test_one_or}
use Rattle.tal_pieces.proofs.Values.TestChains.{faults_one_or, expr_fine}
use Rattle.tal_pieces.proofs.Values.Layers.{pieces_not, pieces_and, pieces_or, weight_not, weight_and, weight_or}
use Rattle.tal_pieces.proofs.Values.Views.{TestView, is_truth, is_compare, is_not, is_and, is_or, test_view}
use Rattle.tal_faultless.proofs.Common.Faultless.{nils}

-- the relation of a symbol
record RelBack (o : Rel) (at : At) : Type 0 where
  syntax : g.Rel
  is : g.of_rel syntax ≡ token_of at (piece.Symbol (rel_symbol o))
  same : rel_of syntax ≡ o

rel_back : (o : Rel) (at : At) → RelBack o at
rel_back rel.Equal at = record { syntax = g.equal at; is = refl; same = refl }
rel_back rel.Differs at = record { syntax = g.differs at; is = refl; same = refl }
rel_back rel.Less at = record { syntax = g.less at; is = refl; same = refl }
rel_back rel.AtMost at = record { syntax = g.at_most at; is = refl; same = refl }
rel_back rel.Greater at = record { syntax = g.greater at; is = refl; same = refl }
rel_back rel.AtLeast at = record { syntax = g.at_least at; is = refl; same = refl }

module _ (s : Scope) where
  record NegBack (c : Cond) (ks : List Piece) (tokens : List Token) : Type 0 where
    syntax : g.Neg
    rest : List Token
    front : tokens ≡ g.of_neg syntax rest
    later : AreTokens ks rest
    same : cond_of_neg s syntax ≡ c
    fine : neg_faults s Condition syntax ≡ []
    deep : (n most : ℕ) (ls : List ℕ) → n + test_depth test.Not c ≤ most → AllAtMost most ls
        → AllAtMost most (nest_neg n syntax ls)

  record AndBack (c : Cond) (ks : List Piece) (tokens : List Token) : Type 0 where
    head : g.Neg
    more : g.Ands
    rest : List Token
    front : tokens ≡ g.of_both (g.both head more) rest
    later : AreTokens ks rest
    same : cond_of_ands s (cond_of_neg s head) more ≡ c
    fine : neg_faults s Condition head ≡ []
    more_fine : ands_faults s more ≡ []
    deep : (n most : ℕ) (ls : List ℕ) → n + test_depth test.And c ≤ most → AllAtMost most ls
        → AllAtMost most (nest_both n (g.both head more) ls)

  record OrBack (c : Cond) (ks : List Piece) (tokens : List Token) : Type 0 where
    head : g.Both
    more : g.Ors
    rest : List Token
    front : tokens ≡ g.of_expr (g.expr head more) rest
    later : AreTokens ks rest
    same : cond_of_ors s (cond_of_both s head) more ≡ c
    fine : both_faults s Condition head ≡ []
    more_fine : ors_faults s more ≡ []
    deep : (n most : ℕ) (ls : List ℕ) → n + test_depth test.Or c ≤ most → AllAtMost most ls
        → AllAtMost most (nest_expr n (g.expr head more) ls)

  abbrev Back : TestRank → Cond → List Piece → List Token → Type 0
  Back test.Or c ks tokens = OrBack c ks tokens
  Back test.And c ks tokens = AndBack c ks tokens
  Back test.Not c ks tokens = NegBack c ks tokens

  and_of_neg : {c : Cond} {ks : List Piece} {tokens : List Token} → test_depth test.Not c ≤ test_depth test.And c
      → NegBack c ks tokens → AndBack c ks tokens
  and_of_neg level b = record {
    head = b.syntax;
    more = g.no_ands;
    rest = b.rest;
    front = b.front;
    later = b.later;
    same = b.same;
    fine = b.fine;
    more_fine = refl;
    deep = λ n most ls low h. b.deep n most ls (omega (arith, low, level)) h;
  }

  or_of_and : {c : Cond} {ks : List Piece} {tokens : List Token} → test_depth test.And c ≤ test_depth test.Or c
      → AndBack c ks tokens → OrBack c ks tokens
  or_of_and level b = record {
    head = g.both b.head b.more;
    more = g.no_ors;
    rest = b.rest;
    front = b.front;
    later = b.later;
    same = b.same;
    fine = both_fine s b.head b.more b.fine b.more_fine;
    more_fine = refl;
    deep = λ n most ls low h. b.deep n most ls (omega (arith, low, level)) h;
  }

  lift : (r : TestRank) {c : Cond} {ks : List Piece} {tokens : List Token}
      → test_depth test.Not c ≤ test_depth test.And c → test_depth test.And c ≤ test_depth test.Or c
      → NegBack c ks tokens → Back r c ks tokens
  lift test.Or one two b = or_of_and two (and_of_neg one b)
  lift test.And one two b = and_of_neg one b
  lift test.Not one two b = b

  -- a condition in parentheses
  parens_back : {c : Cond} {ks inner : List Piece} {tokens : List Token}
      (o : First (piece.Symbol sign.Open) inner tokens)
      → test_depth test.Or c + 1 ≤ test_depth test.Not c → OrBack c (piece.Symbol sign.Close ∷ ks) o.rest
      → NegBack c ks tokens
  parens_back o level b =
      let e = first b.later in
      record {
        syntax = g.relation (g.sum (g.product (g.parens o.at (g.expr b.head b.more) e.at) g.no_factors) g.no_terms)
            g.alone;
        rest = e.rest;
        front = o.is ∙ ap (λ ts. tok.Open o.at ∷ ts) (b.front ∙ ap (g.of_expr (g.expr b.head b.more)) e.is);
        later = e.later;
        same = b.same;
        fine = ends (ends (ends (expr_fine s b.head b.more b.fine b.more_fine)));
        deep = λ n most ls low h.
            let room : suc n ≤ most = omega (arith, low, level) in
            (room, b.deep (suc n) most (suc n ∷ ls) (omega (arith, low, level)) (room, h));
      }

  and_back : (left right : Cond) {ks between : List Piece} {tokens : List Token}
      (b : AndBack left (piece.Keyword word.And ∷ between) tokens) (f : First (piece.Keyword word.And) between b.rest)
      → NegBack right ks f.rest → AndBack (And left right) ks tokens
  and_back left right b f c = record {
    head = b.head;
    more = one_and b.more f.at c.syntax;
    rest = c.rest;
    front =
        b.front ∙ ap (g.of_both (g.both b.head b.more)) (f.is ∙ ap (λ ts. tok.And f.at ∷ ts) c.front)
        ∙ ap (g.of_neg b.head) (sym (of_one_and b.more f.at c.syntax c.rest));
    later = c.later;
    same = test_one_and s (cond_of_neg s b.head) b.more f.at c.syntax ∙ (λ i. And (b.same i) (c.same i));
    fine = b.fine;
    more_fine = faults_one_and s b.more f.at c.syntax b.more_fine c.fine;
    deep = λ n most ls low h.
        subst (λ xs. AllAtMost most (nest_neg n b.head xs)) (sym (nest_one_and b.more f.at c.syntax n ls))
        (b.deep n most (n ∷ nest_neg n c.syntax ls) (omega (arith, low, depth_and test.And left right))
        (omega (arith, low), c.deep n most ls (omega (arith, low, depth_and test.And left right)) h));
  }

  or_back : (left right : Cond) {ks between : List Piece} {tokens : List Token}
      (b : OrBack left (piece.Keyword word.Or ∷ between) tokens) (f : First (piece.Keyword word.Or) between b.rest)
      → AndBack right ks f.rest → OrBack (Or left right) ks tokens
  or_back left right b f c = record {
    head = b.head;
    more = one_or b.more f.at (g.both c.head c.more);
    rest = c.rest;
    front =
        b.front ∙ ap (g.of_expr (g.expr b.head b.more)) (f.is ∙ ap (λ ts. tok.Or f.at ∷ ts) c.front)
        ∙ ap (g.of_both b.head) (sym (of_one_or b.more f.at (g.both c.head c.more) c.rest));
    later = c.later;
    same = test_one_or s (cond_of_both s b.head) b.more f.at (g.both c.head c.more) ∙ (λ i. Or (b.same i) (c.same i));
    fine = b.fine;
    more_fine = faults_one_or s b.more f.at (g.both c.head c.more) b.more_fine
        (both_fine s c.head c.more c.fine c.more_fine);
    deep = λ n most ls low h.
        subst (λ xs. AllAtMost most (nest_both n b.head xs)) (sym (nest_one_or b.more f.at (g.both c.head c.more) n ls))
        (b.deep n most (n ∷ nest_both n (g.both c.head c.more) ls) (omega (arith, low, depth_or test.Or left right))
        (omega (arith, low), c.deep n most ls (omega (arith, low, depth_or test.Or left right)) h));
  }

module _ (p : Program) (locals : List (List ℕ)) (s : Scope) where
  abbrev Recur : ℕ → Type 0
  Recur n =
      (r : TestRank) (c : Cond) → test_weight c < n → IsNamedTest p locals s c → (ks : List Piece) (tokens : List Token)
      → AreTokens (test_pieces p locals r c ks) tokens → Back s r c ks tokens

  truth_back : (e : Expr) → IsNamed p locals s e → (ks : List Piece) (tokens : List Token)
      → AreTokens (value_pieces p locals value.Sum e ks) tokens
      → NegBack s (Truth e) ks tokens
  truth_back e h ks tokens a =
      let b = values_read_back p locals s e ks tokens h a in
      record {
        syntax = g.relation b.syntax g.alone;
        rest = b.rest;
        front = b.front;
        later = b.later;
        same = b.truth;
        fine = ends (b.faultless Condition);
        deep = b.shallow;
      }

  compare_back : (o : Rel) (left right : Expr) → IsNamed p locals s left → IsNamed p locals s right
      → (ks : List Piece) (tokens : List Token)
      → AreTokens (value_pieces p locals value.Sum left
      (piece.Symbol (rel_symbol o) ∷ value_pieces p locals value.Sum right ks)) tokens
      → NegBack s (Compare o left right) ks tokens
  compare_back o left right hl hr ks tokens a =
      let b = values_read_back p locals s left (piece.Symbol (rel_symbol o) ∷ value_pieces p locals value.Sum right ks)
      tokens hl a in
      let f = first b.later in
      let c = values_read_back p locals s right ks f.rest hr f.later in
      let r = rel_back o f.at in
      record {
        syntax = g.relation b.syntax (g.compared r.syntax c.syntax);
        rest = c.rest;
        front = b.front ∙ ap (g.of_sum b.syntax) (f.is ∙ (λ i. (sym r.is) i ∷ c.front i));
        later = c.later;
        same = λ i. Compare (r.same i) (b.same i) (c.same i);
        fine = nils (b.faultless (Value (first_of_sum b.syntax))) (c.faultless (Value (first_of_sum c.syntax)));
        deep = λ n most ls low h.
            b.shallow n most (n ∷ nest_sum n c.syntax ls) (omega (arith, low))
            (omega (arith, low), c.shallow n most ls (omega (arith, low)) h);
      }

  and_whole : (n : ℕ) → Recur n → (left right : Cond) → test_weight left < n → test_weight right < n
      → IsNamedTest p locals s left → IsNamedTest p locals s right
      → (ks : List Piece) (tokens : List Token)
      → AreTokens (test_pieces p locals test.And left
      (piece.Keyword word.And ∷ test_pieces p locals test.Not right ks)) tokens
      → AndBack s (And left right) ks tokens
  and_whole n recur left right low high hl hr ks tokens a =
      let b = recur test.And left low hl (piece.Keyword word.And ∷ test_pieces p locals test.Not right ks) tokens a in
      let f = first b.later in
      and_back s left right b f (recur test.Not right high hr ks f.rest f.later)

  or_whole : (n : ℕ) → Recur n → (left right : Cond) → test_weight left < n → test_weight right < n
      → IsNamedTest p locals s left → IsNamedTest p locals s right
      → (ks : List Piece) (tokens : List Token)
      → AreTokens (test_pieces p locals test.Or left (piece.Keyword word.Or ∷ test_pieces p locals test.And right ks))
      tokens
      → OrBack s (Or left right) ks tokens
  or_whole n recur left right low high hl hr ks tokens a =
      let b = recur test.Or left low hl (piece.Keyword word.Or ∷ test_pieces p locals test.And right ks) tokens a in
      let f = first b.later in
      or_back s left right b f (recur test.And right high hr ks f.rest f.later)

  and_at : (n : ℕ) → Recur n → (r : TestRank) (left right : Cond) → test_weight left < n → test_weight right < n
      → IsNamedTest p locals s left → IsNamedTest p locals s right
      → (ks : List Piece) (tokens : List Token) → AreTokens (test_pieces p locals r (And left right) ks) tokens
      → Back s r (And left right) ks tokens
  and_at n recur test.Or left right low high hl hr ks tokens a =
      or_of_and s (omega (arith, depth_and test.Or left right, depth_and test.And left right))
      (and_whole n recur left right low high hl hr ks tokens
      (subst (λ pieces. AreTokens pieces tokens) (pieces_and p locals test.Or left right ks) a))
  and_at n recur test.And left right low high hl hr ks tokens a =
      and_whole n recur left right low high hl hr ks tokens
      (subst (λ pieces. AreTokens pieces tokens) (pieces_and p locals test.And left right ks) a)
  and_at n recur test.Not left right low high hl hr ks tokens a =
      let f = first (subst (λ pieces. AreTokens pieces tokens) (pieces_and p locals test.Not left right ks) a) in
      parens_back s f (omega (arith, depth_and test.Or left right, depth_and test.Not left right))
      (or_of_and s (omega (arith, depth_and test.Or left right, depth_and test.And left right))
      (and_whole n recur left right low high hl hr (piece.Symbol sign.Close ∷ ks) f.rest f.later))

  or_at : (n : ℕ) → Recur n → (r : TestRank) (left right : Cond) → test_weight left < n → test_weight right < n
      → IsNamedTest p locals s left → IsNamedTest p locals s right
      → (ks : List Piece) (tokens : List Token) → AreTokens (test_pieces p locals r (Or left right) ks) tokens
      → Back s r (Or left right) ks tokens
  or_at n recur test.Or left right low high hl hr ks tokens a =
      or_whole n recur left right low high hl hr ks tokens
      (subst (λ pieces. AreTokens pieces tokens) (pieces_or p locals test.Or left right ks) a)
  or_at n recur test.And left right low high hl hr ks tokens a =
      let f = first (subst (λ pieces. AreTokens pieces tokens) (pieces_or p locals test.And left right ks) a) in
      and_of_neg s (omega (arith, depth_or test.And left right, depth_or test.Not left right))
      (parens_back s f (omega (arith, depth_or test.Or left right, depth_or test.Not left right))
      (or_whole n recur left right low high hl hr (piece.Symbol sign.Close ∷ ks) f.rest f.later))
  or_at n recur test.Not left right low high hl hr ks tokens a =
      let f = first (subst (λ pieces. AreTokens pieces tokens) (pieces_or p locals test.Not left right ks) a) in
      parens_back s f (omega (arith, depth_or test.Or left right, depth_or test.Not left right))
      (or_whole n recur left right low high hl hr (piece.Symbol sign.Close ∷ ks) f.rest f.later)

  by_view : (n : ℕ) → Recur n → (r : TestRank) (c : Cond) → TestView c → test_weight c < n + 1
      → IsNamedTest p locals s c → (ks : List Piece) (tokens : List Token)
      → AreTokens (test_pieces p locals r c ks) tokens → Back s r c ks tokens
  by_view n recur r _ (is_truth e) small h ks tokens a =
      lift s r (omega arith) (omega arith) (truth_back e h ks tokens a)
  by_view n recur r _ (is_compare o left right) small h ks tokens a =
      lift s r (omega arith) (omega arith) (compare_back o left right h.0 h.1 ks tokens a)
  by_view n recur r _ (is_not inner) small h ks tokens a =
      let f = first (subst (λ pieces. AreTokens pieces tokens) (pieces_not p locals r inner ks) a) in
      let b = recur test.Not inner (omega (arith, small, weight_not inner))
      (subst (λ X. X) (ap (IsNamedTest p locals s) (not-is inner)) h) ks f.rest f.later in
      lift s r (omega (arith, depth_not test.And inner, depth_not test.Not inner))
      (omega (arith, depth_not test.Or inner, depth_not test.And inner)) (record {
        syntax = g.negated f.at b.syntax;
        rest = b.rest;
        front = f.is ∙ ap (λ ts. tok.Not f.at ∷ ts) b.front;
        later = b.later;
        same = ap Not b.same;
        fine = b.fine;
        deep = λ n most ls low held.
            let room : suc n + test_depth test.Not inner ≤ most = omega (arith, low, depth_not test.Not inner) in
            (omega (arith, room), b.deep (suc n) most ls room held);
      })
  by_view n recur r _ (is_and left right) small h ks tokens a =
      let both = subst (λ X. X) (ap (IsNamedTest p locals s) (and-is left right)) h in
      and_at n recur r left right (omega (arith, small, weight_and left right))
      (omega (arith, small, weight_and left right)) both.0 both.1 ks tokens a
  by_view n recur r _ (is_or left right) small h ks tokens a =
      let both = subst (λ X. X) (ap (IsNamedTest p locals s) (or-is left right)) h in
      or_at n recur r left right (omega (arith, small, weight_or left right))
      (omega (arith, small, weight_or left right)) both.0 both.1 ks tokens a

  back : (n : ℕ) → Recur n
  back zero r c small h ks tokens a = absurd (omega (arith, small))
  back (suc n) r c small h ks tokens a = by_view n (back n) r c (test_view c) (omega (arith, small)) h ks tokens a

  pub tests_read_back : TestsReadBack p locals s
  tests_read_back c ks tokens h a =
      let b = back (test_weight c + 1) test.Or c (omega arith) h ks tokens a in
      record {
        syntax = g.expr b.head b.more;
        rest = b.rest;
        front = b.front;
        later = b.later;
        same = b.same;
        faultless = expr_fine s b.head b.more b.fine b.more_fine;
        shallow = b.deep;
      }
