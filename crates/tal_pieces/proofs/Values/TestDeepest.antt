-- No text of a condition opens fewer levels than its printed one.
use Rattle.std.proofs.Common.{◌≡◌, ◌≤◌, ℕ, ◌+◌, max, suc, List, ◌∷◌, ap, arith}
use Rattle.tal_tree.specs.Rows.{not-is, and-is, or-is}
use Rattle.tal_tree.specs.declared.expression.Cond.{Cond, Not, And, Or}
use Rattle.tal_syntax.specs.Grammar as g
use Rattle.tal_syntax.specs.Expected.{AllAtMost}
use Rattle.tal_syntax.specs.Nesting.{nest_expr, nest_ors, nest_both, nest_ands, nest_neg, nest_sum, nest_product}
use Rattle.tal_syntax.specs.Nesting.{nest_factor}
use Rattle.tal_names.specs.declared.scope.Scope.{Scope}
use Rattle.tal_meaning.specs.Expressions.{value_of_product, value_of_factor, cond_of_expr, cond_of_ors, cond_of_both}
use Rattle.tal_meaning.specs.Expressions.{cond_of_ands, cond_of_neg, cond_of_sum, cond_of_product, cond_of_factor}
use Rattle.tal_pieces.specs.declared.rank.TestRank.{TestRank}
use Rattle.tal_pieces.specs.declared.rank.TestRank.TheVariants as test
use Rattle.tal_pieces.proofs.Values.Depths.{enclosed}
use Rattle.tal_pieces.specs.Printed.Expressions.{and_needs, or_needs}
use Rattle.tal_pieces.proofs.Values.TestDepths.{test_depth, PrintedTestIsNoDeeper}
use Rattle.tal_pieces.proofs.Values.Deepest.{Within, ranks, low_sum, low_product, low_factor}
use Rattle.tal_pieces.proofs.Values.Views.{TestView, is_truth, is_compare, is_not, is_and, is_or, test_view}

pub depth_not : (r : TestRank) (inner : Cond) → test_depth r (Not inner) ≡ test_depth test.Not inner + 1
depth_not r inner = ap (test_depth r) (not-is inner)

pub depth_and : (r : TestRank) (left right : Cond)
    → test_depth r (And left right) ≡ enclosed (and_needs r)
    (max (test_depth test.And left) (test_depth test.Not right))
depth_and r left right = ap (test_depth r) (and-is left right)

pub depth_or : (r : TestRank) (left right : Cond)
    → test_depth r (Or left right) ≡ enclosed (or_needs r) (max (test_depth test.Or left) (test_depth test.And right))
depth_or r left right = ap (test_depth r) (or-is left right)

-- a place of a higher rank asks for no less, and for one level more at most
pub record TestRanks (c : Cond) : Type 0 where
  pub both : test_depth test.Or c ≤ test_depth test.And c
  pub neg : test_depth test.And c ≤ test_depth test.Not c
  pub parens : test_depth test.Not c ≤ test_depth test.Or c + 1

ranks_by : (c : Cond) → TestView c → TestRanks c
ranks_by _ (is_truth e) = record { both = omega arith; neg = omega arith; parens = omega arith }
ranks_by _ (is_compare o left right) = record { both = omega arith; neg = omega arith; parens = omega arith }
ranks_by _ (is_not inner) = record {
  both = omega (arith, depth_not test.Or inner, depth_not test.And inner);
  neg = omega (arith, depth_not test.And inner, depth_not test.Not inner);
  parens = omega (arith, depth_not test.Or inner, depth_not test.Not inner);
}
ranks_by _ (is_and left right) = record {
  both = omega (arith, depth_and test.Or left right, depth_and test.And left right);
  neg = omega (arith, depth_and test.And left right, depth_and test.Not left right);
  parens = omega (arith, depth_and test.Or left right, depth_and test.Not left right);
}
ranks_by _ (is_or left right) = record {
  both = omega (arith, depth_or test.Or left right, depth_or test.And left right);
  neg = omega (arith, depth_or test.And left right, depth_or test.Not left right);
  parens = omega (arith, depth_or test.Or left right, depth_or test.Not left right);
}

pub test_ranks : (c : Cond) → TestRanks c
test_ranks c = ranks_by c (test_view c)

module _ (s : Scope) (most : ℕ) where
  mutual
    pub deep_expr : (e : g.Expr) (n : ℕ) (ls : List ℕ) → AllAtMost most (nest_expr n e ls)
        → Within s most (n + test_depth test.Or (cond_of_expr s e)) ls
    deep_expr (g.expr b os) n ls h =
        let r = deep_both b n (nest_ors n os ls) h in
        deep_ors (cond_of_both s b) os n ls (omega (arith, r.0, (test_ranks (cond_of_both s b)).both)) r.1

    deep_ors : (left : Cond) (os : g.Ors) (n : ℕ) (ls : List ℕ) → n + test_depth test.Or left ≤ most
        → AllAtMost most (nest_ors n os ls)
        → Within s most (n + test_depth test.Or (cond_of_ors s left os)) ls
    deep_ors left g.no_ors n ls low h = (low, h)
    deep_ors left (g.more_ors at b os) n ls low h =
        let r = deep_both b n (nest_ors n os ls) h.1 in
        deep_ors (Or left (cond_of_both s b)) os n ls
        (omega (arith, low, r.0, depth_or test.Or left (cond_of_both s b))) r.1

    deep_both : (b : g.Both) (n : ℕ) (ls : List ℕ) → AllAtMost most (nest_both n b ls)
        → Within s most (n + test_depth test.And (cond_of_both s b)) ls
    deep_both (g.both x ns) n ls h =
        let r = deep_neg x n (nest_ands n ns ls) h in
        deep_ands (cond_of_neg s x) ns n ls (omega (arith, r.0, (test_ranks (cond_of_neg s x)).neg)) r.1

    deep_ands : (left : Cond) (ns : g.Ands) (n : ℕ) (ls : List ℕ) → n + test_depth test.And left ≤ most
        → AllAtMost most (nest_ands n ns ls)
        → Within s most (n + test_depth test.And (cond_of_ands s left ns)) ls
    deep_ands left g.no_ands n ls low h = (low, h)
    deep_ands left (g.more_ands at x ns) n ls low h =
        let r = deep_neg x n (nest_ands n ns ls) h.1 in
        deep_ands (And left (cond_of_neg s x)) ns n ls
        (omega (arith, low, r.0, depth_and test.And left (cond_of_neg s x))) r.1

    deep_neg : (x : g.Neg) (n : ℕ) (ls : List ℕ) → AllAtMost most (nest_neg n x ls)
        → Within s most (n + test_depth test.Not (cond_of_neg s x)) ls
    deep_neg (g.negated at x) n ls h =
        let r = deep_neg x (suc n) ls h.1 in
        (omega (arith, r.0, depth_not test.Not (cond_of_neg s x)), r.1)
    deep_neg (g.relation a g.alone) n ls h = deep_sum a n ls h
    deep_neg (g.relation a (g.compared r b)) n ls h =
        let first = low_sum s most a n (n ∷ nest_sum n b ls) h in
        let second = low_sum s most b n ls first.1.1 in
        (omega (arith, first.0, second.0), second.1)

    deep_sum : (x : g.Sum) (n : ℕ) (ls : List ℕ) → AllAtMost most (nest_sum n x ls)
        → Within s most (n + test_depth test.Not (cond_of_sum s x)) ls
    deep_sum (g.sum q g.no_terms) n ls h = deep_product q n ls h
    deep_sum (g.sum q (g.more_terms sign x ts)) n ls h = low_sum s most (g.sum q (g.more_terms sign x ts)) n ls h

    deep_product : (q : g.Product) (n : ℕ) (ls : List ℕ) → AllAtMost most (nest_product n q ls)
        → Within s most (n + test_depth test.Not (cond_of_product s q)) ls
    deep_product (g.product f g.no_factors) n ls h = deep_factor f n ls h
    deep_product (g.product f (g.more_factors scale x fs)) n ls h =
        let r = low_product s most (g.product f (g.more_factors scale x fs)) n ls h in
        (omega (arith, r.0, (ranks (value_of_product s (g.product f (g.more_factors scale x fs)))).product), r.1)

    deep_factor : (f : g.Factor) (n : ℕ) (ls : List ℕ) → AllAtMost most (nest_factor n f ls)
        → Within s most (n + test_depth test.Not (cond_of_factor s f)) ls
    deep_factor (g.minus at f) n ls h =
        let r = low_factor s most (g.minus at f) n ls h in
        let k = ranks (value_of_factor s (g.minus at f)) in
        (omega (arith, r.0, k.product, k.factor), r.1)
    deep_factor (g.number at v) n ls h =
        let r = low_factor s most (g.number at v) n ls h in
        let k = ranks (value_of_factor s (g.number at v)) in
        (omega (arith, r.0, k.product, k.factor), r.1)
    deep_factor (g.read x) n ls h =
        let r = low_factor s most (g.read x) n ls h in
        let k = ranks (value_of_factor s (g.read x)) in
        (omega (arith, r.0, k.product, k.factor), r.1)
    deep_factor (g.parens start e close) n ls h =
        let r = deep_expr e (suc n) (suc n ∷ ls) h.1 in
        (omega (arith, r.0, (test_ranks (cond_of_expr s e)).parens), r.1.1)

pub printed_test_is_no_deeper : (s : Scope) → PrintedTestIsNoDeeper s
printed_test_is_no_deeper s e n most levels h = (deep_expr s most e n levels h).0
