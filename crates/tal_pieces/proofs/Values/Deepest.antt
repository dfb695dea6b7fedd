-- No text of a value opens fewer levels than its printed one.
use Rattle.std.proofs.Common.{◌≡◌, ◌≤◌, ℕ, ◌+◌, suc, List, ◌∷◌, ap, arith}
use Rattle.std.specs.Prelude.{max, Option, Some, None}
use Rattle.tal_tree.specs.Rows.{read-is, minus-is, two-is}
use Rattle.tal_tree.specs.declared.expression.Op.{Op}
use Rattle.tal_tree.specs.declared.expression.Op.TheVariants as op
use Rattle.tal_tree.specs.declared.expression.Spot.{Spot, Local, Simple, Element}
use Rattle.tal_tree.specs.declared.expression.Expr.{Expr, Read, Minus, Two}
use Rattle.tal_syntax.specs.Grammar as g
use Rattle.tal_syntax.specs.Expected.{AllAtMost}
use Rattle.tal_syntax.specs.Nesting.{nest_expr, nest_ors, nest_both, nest_ands, nest_neg, nest_compared, nest_sum}
use Rattle.tal_syntax.specs.Nesting.{nest_terms, nest_product, nest_factors, nest_factor, nest_spot, nest_index}
use Rattle.tal_names.specs.declared.meaning.Meaning.{Meaning}
use Rattle.tal_names.specs.declared.meaning.Meaning.TheVariants as m
use Rattle.tal_names.specs.declared.scope.Scope.{Scope}
use Rattle.tal_names.specs.Scopes.{meaning_of}
use Rattle.tal_meaning.specs.Expressions.{op_of_sign, op_of_scale, read_by, value_of_expr, value_of_both, value_of_neg}
use Rattle.tal_meaning.specs.Expressions.{value_of_sum, value_of_terms, value_of_product, value_of_factors}
use Rattle.tal_meaning.specs.Expressions.{value_of_factor, value_of_spot, value_of_index}
use Rattle.tal_pieces.specs.declared.rank.ValueRank.{ValueRank}
use Rattle.tal_pieces.specs.declared.rank.ValueRank.TheVariants as value
use Rattle.tal_pieces.proofs.Values.Depths.{enclosed, value_depth, spot_depth, PrintedIsNoDeeper}
use Rattle.tal_pieces.specs.Printed.Expressions.{value_needs, left_rank, right_rank}
use Rattle.tal_pieces.proofs.Values.Views.{View, is_number, is_read, is_minus, is_two, view}

pub depth_read : (r : ValueRank) (spot : Spot) → value_depth r (Read spot) ≡ spot_depth spot
depth_read r spot = ap (value_depth r) (read-is spot)

pub depth_minus : (r : ValueRank) (inner : Expr) → value_depth r (Minus inner) ≡ value_depth value.Factor inner + 1
depth_minus r inner = ap (value_depth r) (minus-is inner)

pub depth_two : (r : ValueRank) (o : Op) (left right : Expr)
    → value_depth r (Two o left right) ≡ enclosed (value_needs r o)
    (max (value_depth (left_rank o) left) (value_depth (right_rank o) right))
depth_two r o left right = ap (value_depth r) (two-is o left right)

-- a place of a higher rank asks for no less, and for one level more at most
pub record Ranks (e : Expr) : Type 0 where
  pub product : value_depth value.Sum e ≤ value_depth value.Product e
  pub factor : value_depth value.Product e ≤ value_depth value.Factor e
  pub parens : value_depth value.Factor e ≤ value_depth value.Sum e + 1

two_ranks : (o : Op) (left right : Expr) → Ranks (Two o left right)
two_ranks op.Add left right = record {
  product = omega (arith, depth_two value.Sum op.Add left right, depth_two value.Product op.Add left right);
  factor = omega (arith, depth_two value.Product op.Add left right, depth_two value.Factor op.Add left right);
  parens = omega (arith, depth_two value.Sum op.Add left right, depth_two value.Factor op.Add left right);
}
two_ranks op.Sub left right = record {
  product = omega (arith, depth_two value.Sum op.Sub left right, depth_two value.Product op.Sub left right);
  factor = omega (arith, depth_two value.Product op.Sub left right, depth_two value.Factor op.Sub left right);
  parens = omega (arith, depth_two value.Sum op.Sub left right, depth_two value.Factor op.Sub left right);
}
two_ranks op.Mul left right = record {
  product = omega (arith, depth_two value.Sum op.Mul left right, depth_two value.Product op.Mul left right);
  factor = omega (arith, depth_two value.Product op.Mul left right, depth_two value.Factor op.Mul left right);
  parens = omega (arith, depth_two value.Sum op.Mul left right, depth_two value.Factor op.Mul left right);
}
two_ranks op.Div left right = record {
  product = omega (arith, depth_two value.Sum op.Div left right, depth_two value.Product op.Div left right);
  factor = omega (arith, depth_two value.Product op.Div left right, depth_two value.Factor op.Div left right);
  parens = omega (arith, depth_two value.Sum op.Div left right, depth_two value.Factor op.Div left right);
}

ranks_by : (e : Expr) → View e → Ranks e
ranks_by _ (is_number n) = record { product = omega arith; factor = omega arith; parens = omega arith }
ranks_by _ (is_read spot) = record {
  product = omega (arith, depth_read value.Sum spot, depth_read value.Product spot);
  factor = omega (arith, depth_read value.Product spot, depth_read value.Factor spot);
  parens = omega (arith, depth_read value.Sum spot, depth_read value.Factor spot);
}
ranks_by _ (is_minus inner) = record {
  product = omega (arith, depth_minus value.Sum inner, depth_minus value.Product inner);
  factor = omega (arith, depth_minus value.Product inner, depth_minus value.Factor inner);
  parens = omega (arith, depth_minus value.Sum inner, depth_minus value.Factor inner);
}
ranks_by _ (is_two o left right) = two_ranks o left right

pub ranks : (e : Expr) → Ranks e
ranks e = ranks_by e (view e)

-- at a sign, the sum so far and the product after it
sign_depth : (sign : g.Sign) (left right : Expr)
    → value_depth value.Sum (Two (op_of_sign sign) left right)
    ≡ max (value_depth value.Sum left) (value_depth value.Product right)
sign_depth (g.plus at) left right = depth_two value.Sum op.Add left right
sign_depth (g.dash at) left right = depth_two value.Sum op.Sub left right

scale_depth : (scale : g.Scale) (left right : Expr)
    → value_depth value.Product (Two (op_of_scale scale) left right)
    ≡ max (value_depth value.Product left) (value_depth value.Factor right)
scale_depth (g.times at) left right = depth_two value.Product op.Mul left right
scale_depth (g.over at) left right = depth_two value.Product op.Div left right

module _ (s : Scope) (most : ℕ) where
  -- a value stands within the levels, and what follows does too
  abbrev pub Within : ℕ → List ℕ → Type 0
  Within depth ls = (depth ≤ most) × AllAtMost most ls

  abbrev pub index_depth : Option Expr → ℕ
  index_depth None = 0
  index_depth (Some e) = value_depth value.Sum e + 1

  read_depth : (found : Option Meaning) (index : Option Expr) (n : ℕ) → n + index_depth index ≤ most → n ≤ most
      → n + value_depth value.Factor (read_by found index) ≤ most
  read_depth None index n h low = omega (arith, low)
  read_depth (Some (m.Local place)) index n h low = omega (arith, low, depth_read value.Factor (Local place))
  read_depth (Some (m.Simple item)) index n h low = omega (arith, low, depth_read value.Factor (Simple item))
  read_depth (Some (m.Literal value)) index n h low = omega (arith, low)
  read_depth (Some (m.Array item)) None n h low = omega (arith, low)
  read_depth (Some (m.Array item)) (Some index) n h low = omega (arith, h, depth_read value.Factor (Element item index))
  read_depth (Some (m.Procedure number gives parameters)) index n h low = omega (arith, low)
  read_depth (Some (m.ReceiveFile item number)) index n h low = omega (arith, low)
  read_depth (Some (m.ProcessFile item number)) index n h low = omega (arith, low)
  read_depth (Some (m.StrayFile item number)) index n h low = omega (arith, low)

  mutual
    pub low_expr : (e : g.Expr) (n : ℕ) (ls : List ℕ) → AllAtMost most (nest_expr n e ls)
        → Within (n + value_depth value.Sum (value_of_expr s e)) ls
    low_expr (g.expr b os) n ls h = let r = low_both b n (nest_ors n os ls) h in (r.0, after_ors os n ls r.1)

    after_ors : (os : g.Ors) (n : ℕ) (ls : List ℕ) → AllAtMost most (nest_ors n os ls) → AllAtMost most ls
    after_ors g.no_ors n ls h = h
    after_ors (g.more_ors at b os) n ls h = after_ors os n ls (low_both b n (nest_ors n os ls) h.1).1

    low_both : (b : g.Both) (n : ℕ) (ls : List ℕ) → AllAtMost most (nest_both n b ls)
        → Within (n + value_depth value.Sum (value_of_both s b)) ls
    low_both (g.both x ns) n ls h = let r = low_neg x n (nest_ands n ns ls) h in (r.0, after_ands ns n ls r.1)

    after_ands : (ns : g.Ands) (n : ℕ) (ls : List ℕ) → AllAtMost most (nest_ands n ns ls) → AllAtMost most ls
    after_ands g.no_ands n ls h = h
    after_ands (g.more_ands at x ns) n ls h = after_ands ns n ls (low_neg x n (nest_ands n ns ls) h.1).1

    low_neg : (x : g.Neg) (n : ℕ) (ls : List ℕ) → AllAtMost most (nest_neg n x ls)
        → Within (n + value_depth value.Sum (value_of_neg s x)) ls
    low_neg (g.negated at x) n ls h = (omega (arith, h.0), (low_neg x (suc n) ls h.1).1)
    low_neg (g.relation a c) n ls h = let r = low_sum a n (nest_compared n c ls) h in (r.0, after_compared c n ls r.1)

    after_compared : (c : g.Compared) (n : ℕ) (ls : List ℕ) → AllAtMost most (nest_compared n c ls) → AllAtMost most ls
    after_compared g.alone n ls h = h
    after_compared (g.compared r a) n ls h = (low_sum a n ls h.1).1

    pub low_sum : (x : g.Sum) (n : ℕ) (ls : List ℕ) → AllAtMost most (nest_sum n x ls)
        → Within (n + value_depth value.Sum (value_of_sum s x)) ls
    low_sum (g.sum q ts) n ls h =
        let r = low_product q n (nest_terms n ts ls) h in
        low_terms (value_of_product s q) ts n ls (omega (arith, r.0, (ranks (value_of_product s q)).product)) r.1

    low_terms : (left : Expr) (ts : g.Terms) (n : ℕ) (ls : List ℕ) → n + value_depth value.Sum left ≤ most
        → AllAtMost most (nest_terms n ts ls)
        → Within (n + value_depth value.Sum (value_of_terms s left ts)) ls
    low_terms left g.no_terms n ls low h = (low, h)
    low_terms left (g.more_terms sign q ts) n ls low h =
        let r = low_product q n (nest_terms n ts ls) h.1 in
        low_terms (Two (op_of_sign sign) left (value_of_product s q)) ts n ls
        (omega (arith, low, r.0, sign_depth sign left (value_of_product s q))) r.1

    pub low_product : (q : g.Product) (n : ℕ) (ls : List ℕ) → AllAtMost most (nest_product n q ls)
        → Within (n + value_depth value.Product (value_of_product s q)) ls
    low_product (g.product f fs) n ls h =
        let r = low_factor f n (nest_factors n fs ls) h in
        low_factors (value_of_factor s f) fs n ls (omega (arith, r.0, (ranks (value_of_factor s f)).factor)) r.1

    low_factors : (left : Expr) (fs : g.Factors) (n : ℕ) (ls : List ℕ) → n + value_depth value.Product left ≤ most
        → AllAtMost most (nest_factors n fs ls)
        → Within (n + value_depth value.Product (value_of_factors s left fs)) ls
    low_factors left g.no_factors n ls low h = (low, h)
    low_factors left (g.more_factors scale f fs) n ls low h =
        let r = low_factor f n (nest_factors n fs ls) h.1 in
        low_factors (Two (op_of_scale scale) left (value_of_factor s f)) fs n ls
        (omega (arith, low, r.0, scale_depth scale left (value_of_factor s f))) r.1

    pub low_factor : (f : g.Factor) (n : ℕ) (ls : List ℕ) → AllAtMost most (nest_factor n f ls)
        → Within (n + value_depth value.Factor (value_of_factor s f)) ls
    low_factor (g.minus at f) n ls h =
        let r = low_factor f (suc n) ls h.1 in
        (omega (arith, r.0, depth_minus value.Factor (value_of_factor s f)), r.1)
    low_factor (g.number at v) n ls h = (omega (arith, h.0), h.1)
    low_factor (g.read x) n ls h = low_spot x n ls h
    low_factor (g.parens start e close) n ls h =
        let r = low_expr e (suc n) (suc n ∷ ls) h.1 in
        (omega (arith, r.0, (ranks (value_of_expr s e)).parens), r.1.1)

    low_spot : (x : g.Spot) (n : ℕ) (ls : List ℕ) → AllAtMost most (nest_spot n x ls)
        → Within (n + value_depth value.Factor (value_of_spot s x)) ls
    low_spot (g.spot at name i) n ls h =
        let r = low_index i n ls h.0 h.1 in
        (read_depth (meaning_of s name) (value_of_index s i) n r.0 h.0, r.1)

    pub low_index : (i : g.Index) (n : ℕ) (ls : List ℕ) → n ≤ most → AllAtMost most (nest_index n i ls)
        → Within (n + index_depth (value_of_index s i)) ls
    low_index g.no_index n ls low h = (omega (arith, low), h)
    low_index (g.index start e close) n ls low h =
        let r = low_expr e (suc n) (suc n ∷ ls) h.1 in
        (omega (arith, r.0), r.1.1)

pub printed_is_no_deeper : (s : Scope) → PrintedIsNoDeeper s
printed_is_no_deeper s x n most levels h = (low_sum s most x n levels h).0
