-- What the view says of the built parts that hold lists and boxes.
use Rattle.std.proofs.Common.{◌≡◌, List, [], ◌∷◌, refl, sym, ap, ◌∙◌}
use denote.Hole.Carrier.{hidden, roll, out}
use Rattle.tal_tokens.specs.declared.token.At.{At}
use Rattle.tal_syntax.specs.Grammar as g
use Rattle.tal_syntax.specs.Seen.{seen_expr, seen_next_boths, seen_ors, link_ors, seen_both, seen_next_negs, seen_ands}
use Rattle.tal_syntax.specs.Seen.{seen_neg, seen_sum, seen_next_terms, seen_terms, link_terms, seen_sign, seen_product}
use Rattle.tal_syntax.specs.Seen.{seen_next_factors, seen_factors, seen_scale, seen_factor, seen_index, seen_statement}
use Rattle.tal_syntax.specs.Seen.{seen_direction, seen_step, seen_otherwise, seen_nexts, seen_row}
use Rattle.tal_syntax.specs.declared.expression.Expr.{Expr, roll-Expr, out-Expr, roll-out-Expr}
use Rattle.tal_syntax.specs.declared.expression.NextBoth.{NextBoth, NextBoth', roll-NextBoth, out-NextBoth}
use Rattle.tal_syntax.specs.declared.expression.Both.{Both, roll-Both, out-Both, roll-out-Both}
use Rattle.tal_syntax.specs.declared.expression.NextNeg.{NextNeg}
use Rattle.tal_syntax.specs.declared.expression.Neg.{Neg, Not}
use Rattle.tal_syntax.specs.declared.expression.Sum.{Sum, roll-Sum, out-Sum, roll-out-Sum}
use Rattle.tal_syntax.specs.declared.expression.Term.{Term, Term', roll-Term, out-Term}
use Rattle.tal_syntax.specs.declared.expression.Product.{Product, roll-Product, out-Product, roll-out-Product}
use Rattle.tal_syntax.specs.declared.expression.NextFactor.{NextFactor}
use Rattle.tal_syntax.specs.declared.expression.Factor.{Factor, Minus, Parens}
use Rattle.tal_syntax.specs.declared.expression.Index.{Element}
use Rattle.tal_syntax.specs.declared.expression.Sign.{Sign}
use Rattle.tal_syntax.specs.declared.statement.Test.{Test}
use Rattle.tal_syntax.specs.declared.statement.ForHead.{ForHead}
use Rattle.tal_syntax.specs.declared.statement.Until.{Until}
use Rattle.tal_syntax.specs.declared.statement.Next.{Next}
use Rattle.tal_syntax.specs.declared.statement.Statement.{Statement, Block, If, While, For, DoUntil}
use Rattle.tal_syntax.specs.declared.statement.Otherwise.{Otherwise, Else}
use Rattle.tal_syntax.specs.declared.statement.Otherwise.TheBlock.{shape-the_row-Statement-0}
use Rattle.tal_syntax.specs.declared.statement.Otherwise.TheBlock.{hidden-the_row-Statement-0, shape-the_row-Next-1}
use Rattle.tal_syntax.specs.declared.statement.Otherwise.TheBlock.{hidden-the_row-Next-1}
use Rattle.tal_syntax.specs.declared.expression.Compared.TheBlock.{shape-the_row-Factor-0, hidden-the_row-Factor-0}
use Rattle.tal_syntax.specs.declared.expression.Compared.TheBlock.{shape-the_row-Expr-1, hidden-the_row-Expr-1}
use Rattle.tal_syntax.specs.declared.expression.Compared.TheBlock.{shape-the_row-Neg-2, hidden-the_row-Neg-2}
use Rattle.tal_syntax.specs.declared.expression.Compared.TheBlock.{shape-the_row-NextNeg-3, hidden-the_row-NextNeg-3}
use Rattle.tal_syntax.specs.declared.expression.Compared.TheBlock.{shape-the_row-NextBoth-4, hidden-the_row-NextBoth-4}
use Rattle.tal_syntax.specs.declared.expression.Compared.TheBlock.{shape-the_row-NextFactor-5}
use Rattle.tal_syntax.specs.declared.expression.Compared.TheBlock.{hidden-the_row-NextFactor-5, shape-the_row-Term-6}
use Rattle.tal_syntax.specs.declared.expression.Compared.TheBlock.{hidden-the_row-Term-6}

ors-are : (ns : List NextBoth) → seen_next_boths (hidden-the_row-NextBoth-4 ns) ≡ seen_ors ns
unfolding shape-the_row-NextBoth-4 hidden-the_row-NextBoth-4 hidden out-NextBoth out
ors-are [] = refl
ors-are (NextBoth' at b ∷ ns) = ap (g.more_ors at (seen_both b)) (ors-are ns)

ands-are : (ns : List NextNeg) → seen_next_negs (hidden-the_row-NextNeg-3 ns) ≡ seen_ands ns
unfolding shape-the_row-NextNeg-3 hidden-the_row-NextNeg-3 hidden
ands-are [] = refl
ands-are (n ∷ ns) = ap (g.more_ands n.and (seen_neg n.neg)) (ands-are ns)

terms-are : (ns : List Term) → seen_next_terms (hidden-the_row-Term-6 ns) ≡ seen_terms ns
unfolding shape-the_row-Term-6 hidden-the_row-Term-6 hidden out-Term out
terms-are [] = refl
terms-are (Term' s p ∷ ns) = ap (g.more_terms (seen_sign s) (seen_product p)) (terms-are ns)

factors-are : (ns : List NextFactor) → seen_next_factors (hidden-the_row-NextFactor-5 ns) ≡ seen_factors ns
unfolding shape-the_row-NextFactor-5 hidden-the_row-NextFactor-5 hidden
factors-are [] = refl
factors-are (n ∷ ns) = ap (g.more_factors (seen_scale n.scale) (seen_factor n.factor)) (factors-are ns)

pub seen-expr : (first : Both) (more : List NextBoth)
    → seen_expr (roll-Expr (record { first = first; more = more })) ≡ g.expr (seen_both first) (seen_ors more)
unfolding roll-Expr roll
seen-expr first more = ap (g.expr (seen_both first)) (ors-are more)

pub seen-both : (first : Neg) (more : List NextNeg)
    → seen_both (roll-Both (record { first = first; more = more })) ≡ g.both (seen_neg first) (seen_ands more)
unfolding roll-Both roll
seen-both first more = ap (g.both (seen_neg first)) (ands-are more)

pub seen-sum : (first : Product) (more : List Term)
    → seen_sum (roll-Sum (record { first = first; more = more })) ≡ g.sum (seen_product first) (seen_terms more)
unfolding roll-Sum roll
seen-sum first more = ap (g.sum (seen_product first)) (terms-are more)

pub seen-product : (first : Factor) (more : List NextFactor)
    → seen_product (roll-Product (record { first = first; more = more }))
    ≡ g.product (seen_factor first) (seen_factors more)
unfolding roll-Product roll
seen-product first more = ap (g.product (seen_factor first)) (factors-are more)

pub expr-open : (e : Expr) → seen_expr e ≡ g.expr (seen_both (out-Expr e).first) (seen_ors (out-Expr e).more)
expr-open e = sym (ap seen_expr (roll-out-Expr e)) ∙ seen-expr (out-Expr e).first (out-Expr e).more

pub both-open : (b : Both) → seen_both b ≡ g.both (seen_neg (out-Both b).first) (seen_ands (out-Both b).more)
both-open b = sym (ap seen_both (roll-out-Both b)) ∙ seen-both (out-Both b).first (out-Both b).more

pub sum-open : (s : Sum) → seen_sum s ≡ g.sum (seen_product (out-Sum s).first) (seen_terms (out-Sum s).more)
sum-open s = sym (ap seen_sum (roll-out-Sum s)) ∙ seen-sum (out-Sum s).first (out-Sum s).more

pub product-open : (p : Product) → seen_product p
    ≡ g.product (seen_factor (out-Product p).first) (seen_factors (out-Product p).more)
product-open p = sym (ap seen_product (roll-out-Product p)) ∙ seen-product (out-Product p).first (out-Product p).more

pub seen-not : (at : At) (n : Neg) → seen_neg (Not at n) ≡ g.negated at (seen_neg n)
unfolding shape-the_row-Neg-2 hidden-the_row-Neg-2 hidden
seen-not at n = refl

pub seen-minus : (at : At) (f : Factor) → seen_factor (Minus at f) ≡ g.minus at (seen_factor f)
unfolding shape-the_row-Factor-0 hidden-the_row-Factor-0 hidden
seen-minus at f = refl

pub seen-parens : (start : At) (e : Expr) (close : At)
    → seen_factor (Parens start e close) ≡ g.parens start (seen_expr e) close
unfolding shape-the_row-Expr-1 hidden-the_row-Expr-1 hidden
seen-parens start e close = refl

pub seen-element : (start : At) (e : Expr) (close : At)
    → seen_index (Element start e close) ≡ g.index start (seen_expr e) close
unfolding shape-the_row-Expr-1 hidden-the_row-Expr-1 hidden
seen-element start e close = refl

pub seen-next-both : (at : At) (b : Both) (rest : g.Ors)
    → link_ors (roll-NextBoth (record { or = at; both = b })) rest ≡ g.more_ors at (seen_both b) rest
unfolding roll-NextBoth roll out-NextBoth out
seen-next-both at b rest = refl

pub seen-term : (s : Sign) (p : Product) (rest : g.Terms)
    → link_terms (roll-Term (record { sign = s; product = p })) rest ≡ g.more_terms (seen_sign s) (seen_product p) rest
unfolding roll-Term roll out-Term out
seen-term s p rest = refl

-- what is built of expressions
pub ruleset seen_expressions = (
  seen-expr,
  seen-both,
  seen-sum,
  seen-product,
  seen-not,
  seen-minus,
  seen-parens,
  seen-element,
  seen-next-both,
  seen-term,
)

row-is : (ns : List Next) → seen_nexts (hidden-the_row-Next-1 ns) ≡ seen_row ns
unfolding shape-the_row-Next-1 hidden-the_row-Next-1 hidden
row-is [] = refl
row-is (n ∷ ns) = ap (g.more_row n.semicolon (seen_statement n.statement)) (row-is ns)

pub seen-block : (begin : At) (first : Statement) (more : List Next) (end : At)
    → seen_statement (Block begin first more end) ≡ g.block begin (seen_statement first) (seen_row more) end
unfolding shape-the_row-Statement-0 hidden-the_row-Statement-0 hidden
seen-block begin first more end = ap (λ row. g.block begin (seen_statement first) row end) (row-is more)

pub seen-if : (t : Test) (s : Statement) (o : Otherwise)
    → seen_statement (If t s o) ≡ g.if_then t.head (seen_expr t.test) t.end (seen_statement s) (seen_otherwise o)
unfolding shape-the_row-Statement-0 hidden-the_row-Statement-0 hidden
seen-if t s o = refl

pub seen-while : (t : Test) (s : Statement)
    → seen_statement (While t s) ≡ g.while_do t.head (seen_expr t.test) t.end (seen_statement s)
unfolding shape-the_row-Statement-0 hidden-the_row-Statement-0 hidden
seen-while t s = refl

pub seen-for : (f : ForHead) (s : Statement)
    → seen_statement (For f s) ≡ g.for_do f.head f.at f.name f.set_at (seen_expr f.from) (seen_direction f.direction)
    (seen_expr f.to) (seen_step f.step) f.do_at (seen_statement s)
unfolding shape-the_row-Statement-0 hidden-the_row-Statement-0 hidden
seen-for f s = refl

pub seen-do : (s : Statement) (u : Until)
    → seen_statement (DoUntil s u) ≡ g.do_until u.head (seen_statement s) u.at (seen_expr u.test)
unfolding shape-the_row-Statement-0 hidden-the_row-Statement-0 hidden
seen-do s u = refl

pub seen-else : (at : At) (s : Statement) → seen_otherwise (Else at s) ≡ g.otherwise at (seen_statement s)
unfolding shape-the_row-Statement-0 hidden-the_row-Statement-0 hidden
seen-else at s = refl

-- what is built of statements
pub ruleset seen_statements = (seen-block, seen-if, seen-while, seen-for, seen-do, seen-else)
