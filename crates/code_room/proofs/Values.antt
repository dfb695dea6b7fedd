-- While a part of the grammar is computed no more wait than the levels that are left to it allow.
use Rattle.std.proofs.Common.{◌≤◌, ℕ, ◌+◌, suc, List, ◌∷◌, arith}
use Rattle.std.specs.Prelude.{Option, Some, None}
use Rattle.tal_tree.specs.declared.expression.Cond.{Cond, And, Or}
use Rattle.tal_tree.specs.declared.expression.Expr.{Expr, Two}
use Rattle.tal_tree.specs.declared.expression.Spot.{Local, Simple, Element}
use Rattle.tal_syntax.specs.Grammar as g
use Rattle.tal_syntax.specs.Expected.{AllAtMost}
use Rattle.tal_syntax.specs.Nesting.{nest_expr, nest_ors, nest_both, nest_ands, nest_neg, nest_compared, nest_sum}
use Rattle.tal_syntax.specs.Nesting.{nest_terms, nest_product, nest_factors, nest_factor, nest_spot, nest_index}
use Rattle.tal_names.specs.declared.meaning.Meaning.{Meaning}
use Rattle.tal_names.specs.declared.meaning.Meaning.TheVariants as m
use Rattle.tal_names.specs.declared.scope.Scope.{Scope}
use Rattle.tal_names.specs.Scopes.{meaning_of}
use Rattle.tal_pieces.specs.tal_meaning.specs.Expressions.{op_of_sign, op_of_scale, read_by, target_by, target_of_spot}
use Rattle.tal_pieces.specs.tal_meaning.specs.Expressions.{value_of_expr}
use Rattle.tal_pieces.specs.tal_meaning.specs.Expressions.{value_of_both, value_of_neg, value_of_sum, value_of_terms}
use Rattle.tal_pieces.specs.tal_meaning.specs.Expressions.{value_of_product}
use Rattle.tal_pieces.specs.tal_meaning.specs.Expressions.{value_of_factors, value_of_factor, value_of_spot}
use Rattle.tal_pieces.specs.tal_meaning.specs.Expressions.{value_of_index}
use Rattle.tal_pieces.specs.tal_meaning.specs.Expressions.{cond_of_expr, cond_of_ors, cond_of_both, cond_of_ands}
use Rattle.tal_pieces.specs.tal_meaning.specs.Expressions.{cond_of_neg}
use Rattle.tal_pieces.specs.tal_meaning.specs.Expressions.{cond_of_sum, cond_of_product, cond_of_factor}
use Rattle.tal_code.specs.Waiting.{waiting_of, waiting_of_spot, waiting_for, waiting_of_test}
use Rattle.tal_code.proofs.Waits.{for-read, for-minus, waiting-two, waiting-not, waiting-and, waiting-or}
use Rattle.code_room.proofs.Layers.{for-more}

module _ (s : Scope) (most : ℕ) where
  -- from a level on, two may wait for each level that is left, and some more; and what follows keeps to the levels too
  abbrev pub Leaves : ℕ → ℕ → ℕ → List ℕ → Type 0
  Leaves n waiting more ls = (n + n + waiting ≤ most + most + more) × AllAtMost most ls

  -- while an index is computed, the array's read being a right side
  abbrev pub waiting_index : Option Expr → ℕ
  waiting_index None = 0
  waiting_index (Some e) = waiting_of e + 1

  few_read : (found : Option Meaning) (index : Option Expr) (n : ℕ) → n + n + waiting_index index ≤ most + most
      → n ≤ most
      → n + n + waiting_for (read_by found index) ≤ most + most + 0
  few_read None index n h low = omega (arith, low)
  few_read (Some (m.Local place)) index n h low = omega (arith, low, for-read (Local place))
  few_read (Some (m.Simple item)) index n h low = omega (arith, low, for-read (Simple item))
  few_read (Some (m.Literal value)) index n h low = omega (arith, low)
  few_read (Some (m.Array item)) None n h low = omega (arith, low)
  few_read (Some (m.Array item)) (Some index) n h low = omega (arith, h, for-read (Element item index))
  few_read (Some (m.Procedure number gives parameters)) index n h low = omega (arith, low)
  few_read (Some (m.ReceiveFile item number)) index n h low = omega (arith, low)
  few_read (Some (m.ProcessFile item number)) index n h low = omega (arith, low)
  few_read (Some (m.StrayFile item number)) index n h low = omega (arith, low)

  mutual
    pub few_expr : (e : g.Expr) (n : ℕ) (ls : List ℕ) → AllAtMost most (nest_expr n e ls)
        → Leaves n (waiting_of (value_of_expr s e)) 1 ls
    few_expr (g.expr b os) n ls h = let r = few_both b n (nest_ors n os ls) h in (r.0, after_ors os n ls r.1)

    after_ors : (os : g.Ors) (n : ℕ) (ls : List ℕ) → AllAtMost most (nest_ors n os ls) → AllAtMost most ls
    after_ors g.no_ors n ls h = h
    after_ors (g.more_ors at b os) n ls h = after_ors os n ls (few_both b n (nest_ors n os ls) h.1).1

    few_both : (b : g.Both) (n : ℕ) (ls : List ℕ) → AllAtMost most (nest_both n b ls)
        → Leaves n (waiting_of (value_of_both s b)) 1 ls
    few_both (g.both x ns) n ls h = let r = few_neg x n (nest_ands n ns ls) h in (r.0, after_ands ns n ls r.1)

    after_ands : (ns : g.Ands) (n : ℕ) (ls : List ℕ) → AllAtMost most (nest_ands n ns ls) → AllAtMost most ls
    after_ands g.no_ands n ls h = h
    after_ands (g.more_ands at x ns) n ls h = after_ands ns n ls (few_neg x n (nest_ands n ns ls) h.1).1

    few_neg : (x : g.Neg) (n : ℕ) (ls : List ℕ) → AllAtMost most (nest_neg n x ls)
        → Leaves n (waiting_of (value_of_neg s x)) 1 ls
    few_neg (g.negated at x) n ls h = (omega (arith, h.0), (few_neg x (suc n) ls h.1).1)
    few_neg (g.relation a c) n ls h = let r = few_sum a n (nest_compared n c ls) h in (r.0, after_compared c n ls r.1)

    after_compared : (c : g.Compared) (n : ℕ) (ls : List ℕ) → AllAtMost most (nest_compared n c ls) → AllAtMost most ls
    after_compared g.alone n ls h = h
    after_compared (g.compared r a) n ls h = (few_sum a n ls h.1).1

    pub few_sum : (x : g.Sum) (n : ℕ) (ls : List ℕ) → AllAtMost most (nest_sum n x ls)
        → Leaves n (waiting_of (value_of_sum s x)) 1 ls
    few_sum (g.sum q ts) n ls h =
        let r = few_product q n (nest_terms n ts ls) h in
        few_terms (value_of_product s q) ts n ls (omega (arith, r.0)) r.1

    few_terms : (left : Expr) (ts : g.Terms) (n : ℕ) (ls : List ℕ) → n + n + waiting_of left ≤ most + most + 1
        → AllAtMost most (nest_terms n ts ls)
        → Leaves n (waiting_of (value_of_terms s left ts)) 1 ls
    few_terms left g.no_terms n ls low h = (low, h)
    few_terms left (g.more_terms sign q ts) n ls low h =
        let right : Expr = value_of_product s q in
        let r = few_product q n (nest_terms n ts ls) h.1 in
        few_terms (Two (op_of_sign sign) left right) ts n ls
        (omega (arith, low, r.0, (for-more right).1, waiting-two (op_of_sign sign) left right)) r.1

    pub few_product : (q : g.Product) (n : ℕ) (ls : List ℕ) → AllAtMost most (nest_product n q ls)
        → Leaves n (waiting_of (value_of_product s q)) 0 ls
    few_product (g.product f fs) n ls h =
        let r = few_factor f n (nest_factors n fs ls) h in
        few_factors (value_of_factor s f) fs n ls (omega (arith, r.0, (for-more (value_of_factor s f)).0)) r.1

    few_factors : (left : Expr) (fs : g.Factors) (n : ℕ) (ls : List ℕ) → n + n + waiting_of left ≤ most + most + 0
        → AllAtMost most (nest_factors n fs ls)
        → Leaves n (waiting_of (value_of_factors s left fs)) 0 ls
    few_factors left g.no_factors n ls low h = (low, h)
    few_factors left (g.more_factors scale f fs) n ls low h =
        let right : Expr = value_of_factor s f in
        let r = few_factor f n (nest_factors n fs ls) h.1 in
        few_factors (Two (op_of_scale scale) left right) fs n ls
        (omega (arith, low, r.0, waiting-two (op_of_scale scale) left right)) r.1

    -- for a factor no more wait where it is a right side
    pub few_factor : (f : g.Factor) (n : ℕ) (ls : List ℕ) → AllAtMost most (nest_factor n f ls)
        → Leaves n (waiting_for (value_of_factor s f)) 0 ls
    few_factor (g.minus at f) n ls h =
        let inner : Expr = value_of_factor s f in
        let r = few_factor f (suc n) ls h.1 in
        (omega (arith, r.0, for-minus inner, (for-more inner).0), r.1)
    few_factor (g.number at v) n ls h = (omega (arith, h.0), h.1)
    few_factor (g.read x) n ls h = few_spot x n ls h
    few_factor (g.parens start e close) n ls h =
        let r = few_expr e (suc n) (suc n ∷ ls) h.1 in
        (omega (arith, r.0, (for-more (value_of_expr s e)).1), r.1.1)

    few_spot : (x : g.Spot) (n : ℕ) (ls : List ℕ) → AllAtMost most (nest_spot n x ls)
        → Leaves n (waiting_for (value_of_spot s x)) 0 ls
    few_spot (g.spot at name i) n ls h =
        let r = few_index i n ls h.0 h.1 in
        (few_read (meaning_of s name) (value_of_index s i) n r.0 h.0, r.1)

    few_index : (i : g.Index) (n : ℕ) (ls : List ℕ) → n ≤ most → AllAtMost most (nest_index n i ls)
        → (n + n + waiting_index (value_of_index s i) ≤ most + most) × AllAtMost most ls
    few_index g.no_index n ls low h = (omega (arith, low), h)
    few_index (g.index start e close) n ls low h =
        let r = few_expr e (suc n) (suc n ∷ ls) h.1 in
        (omega (arith, r.0), r.1.1)

  few_target : (found : Option Meaning) (index : Option Expr) (n : ℕ) → n + n + waiting_index index ≤ most + most
      → n ≤ most
      → n + n + waiting_of_spot (target_by found index) ≤ most + most + 0
  few_target None index n h low = omega (arith, low)
  few_target (Some (m.Local place)) index n h low = omega (arith, low)
  few_target (Some (m.Simple item)) index n h low = omega (arith, low)
  few_target (Some (m.Literal value)) index n h low = omega (arith, low)
  few_target (Some (m.Array item)) None n h low = omega (arith, low)
  few_target (Some (m.Array item)) (Some index) n h low = omega (arith, h)
  few_target (Some (m.Procedure number gives parameters)) index n h low = omega (arith, low)
  few_target (Some (m.ReceiveFile item number)) index n h low = omega (arith, low)
  few_target (Some (m.ProcessFile item number)) index n h low = omega (arith, low)
  few_target (Some (m.StrayFile item number)) index n h low = omega (arith, low)

  -- what an assignment sets
  pub few_aim : (x : g.Spot) (n : ℕ) (ls : List ℕ) → AllAtMost most (nest_spot n x ls)
      → Leaves n (waiting_of_spot (target_of_spot s x)) 0 ls
  few_aim (g.spot at name i) n ls h =
      let r = few_index i n ls h.0 h.1 in
      (few_target (meaning_of s name) (value_of_index s i) n r.0 h.0, r.1)

  mutual
    pub few_test : (e : g.Expr) (n : ℕ) (ls : List ℕ) → AllAtMost most (nest_expr n e ls)
        → Leaves n (waiting_of_test (cond_of_expr s e)) 4 ls
    few_test (g.expr b os) n ls h =
        let r = few_test_both b n (nest_ors n os ls) h in
        few_test_ors (cond_of_both s b) os n ls (omega (arith, r.0)) r.1

    few_test_ors : (left : Cond) (os : g.Ors) (n : ℕ) (ls : List ℕ) → n + n + waiting_of_test left ≤ most + most + 4
        → AllAtMost most (nest_ors n os ls)
        → Leaves n (waiting_of_test (cond_of_ors s left os)) 4 ls
    few_test_ors left g.no_ors n ls low h = (low, h)
    few_test_ors left (g.more_ors at b os) n ls low h =
        let r = few_test_both b n (nest_ors n os ls) h.1 in
        few_test_ors (Or left (cond_of_both s b)) os n ls (omega (arith, low, r.0, waiting-or left (cond_of_both s b)))
        r.1

    few_test_both : (b : g.Both) (n : ℕ) (ls : List ℕ) → AllAtMost most (nest_both n b ls)
        → Leaves n (waiting_of_test (cond_of_both s b)) 3 ls
    few_test_both (g.both x ns) n ls h =
        let r = few_test_neg x n (nest_ands n ns ls) h in
        few_test_ands (cond_of_neg s x) ns n ls (omega (arith, r.0)) r.1

    few_test_ands : (left : Cond) (ns : g.Ands) (n : ℕ) (ls : List ℕ) → n + n + waiting_of_test left ≤ most + most + 3
        → AllAtMost most (nest_ands n ns ls)
        → Leaves n (waiting_of_test (cond_of_ands s left ns)) 3 ls
    few_test_ands left g.no_ands n ls low h = (low, h)
    few_test_ands left (g.more_ands at x ns) n ls low h =
        let r = few_test_neg x n (nest_ands n ns ls) h.1 in
        few_test_ands (And left (cond_of_neg s x)) ns n ls
        (omega (arith, low, r.0, waiting-and left (cond_of_neg s x))) r.1

    few_test_neg : (x : g.Neg) (n : ℕ) (ls : List ℕ) → AllAtMost most (nest_neg n x ls)
        → Leaves n (waiting_of_test (cond_of_neg s x)) 2 ls
    few_test_neg (g.negated at x) n ls h =
        let r = few_test_neg x (suc n) ls h.1 in
        (omega (arith, r.0, waiting-not (cond_of_neg s x)), r.1)
    few_test_neg (g.relation a g.alone) n ls h = few_test_sum a n ls h
    few_test_neg (g.relation a (g.compared r b)) n ls h =
        let first = few_sum a n (n ∷ nest_sum n b ls) h in
        let second = few_sum b n ls first.1.1 in
        (omega (arith, first.0, second.0, (for-more (value_of_sum s b)).1), second.1)

    few_test_sum : (x : g.Sum) (n : ℕ) (ls : List ℕ) → AllAtMost most (nest_sum n x ls)
        → Leaves n (waiting_of_test (cond_of_sum s x)) 2 ls
    few_test_sum (g.sum q g.no_terms) n ls h = few_test_product q n ls h
    few_test_sum (g.sum q (g.more_terms sign x ts)) n ls h =
        let r = few_sum (g.sum q (g.more_terms sign x ts)) n ls h in
        (omega (arith, r.0), r.1)

    few_test_product : (q : g.Product) (n : ℕ) (ls : List ℕ) → AllAtMost most (nest_product n q ls)
        → Leaves n (waiting_of_test (cond_of_product s q)) 2 ls
    few_test_product (g.product f g.no_factors) n ls h = few_test_factor f n ls h
    few_test_product (g.product f (g.more_factors scale x fs)) n ls h =
        let r = few_product (g.product f (g.more_factors scale x fs)) n ls h in
        (omega (arith, r.0), r.1)

    few_test_factor : (f : g.Factor) (n : ℕ) (ls : List ℕ) → AllAtMost most (nest_factor n f ls)
        → Leaves n (waiting_of_test (cond_of_factor s f)) 2 ls
    few_test_factor (g.minus at f) n ls h =
        let r = few_factor (g.minus at f) n ls h in
        (omega (arith, r.0, (for-more (value_of_factor s (g.minus at f))).0), r.1)
    few_test_factor (g.number at v) n ls h =
        let r = few_factor (g.number at v) n ls h in
        (omega (arith, r.0, (for-more (value_of_factor s (g.number at v))).0), r.1)
    few_test_factor (g.read x) n ls h =
        let r = few_factor (g.read x) n ls h in
        (omega (arith, r.0, (for-more (value_of_factor s (g.read x))).0), r.1)
    few_test_factor (g.parens start e close) n ls h =
        let r = few_test e (suc n) (suc n ∷ ls) h.1 in
        (omega (arith, r.0), r.1.1)
