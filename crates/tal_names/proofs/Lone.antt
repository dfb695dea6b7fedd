-- The expression that is one name alone.
use Rattle.std.proofs.Common.{◌≡◌, ℕ, List, Option, Some, None, ap}
use Rattle.std.proofs.lemmas.Option.{none-some}
use Rattle.tal_syntax.specs.tal_tokens.specs.declared.token.At.{At}
use Rattle.tal_syntax.specs.Grammar as g
use Rattle.tal_names.specs.declared.scope.Named.{Named}
use Rattle.tal_names.specs.Places.{name_of_expr}

abbrev pub lone : At → List ℕ → g.Expr
lone at name = g.expr (g.both (g.relation
    (g.sum (g.product (g.read (g.spot at name g.no_index)) g.no_factors) g.no_terms) g.alone) g.no_ands) g.no_ors

-- the same of a name that may be missing, where this expression stands for none
abbrev lone_or : g.Expr → Option Named → g.Expr
lone_or e None = e
lone_or e (Some x) = lone x.at x.name

pub lone-is : (e : g.Expr) (x : Named) → name_of_expr e ≡ Some x → e ≡ lone x.at x.name
lone-is (g.expr (g.both (g.relation (g.sum (g.product (g.read (g.spot at name g.no_index)) g.no_factors) g.no_terms)
    g.alone) g.no_ands) g.no_ors) x h =
    ap (lone_or (lone at name)) h
lone-is (g.expr (g.both (g.relation (g.sum (g.product (g.read (g.spot at name (g.index start e close))) g.no_factors)
    g.no_terms) g.alone) g.no_ands) g.no_ors) x h =
    absurd (none-some x h)
lone-is (g.expr (g.both (g.relation (g.sum (g.product (g.minus at f) g.no_factors) g.no_terms) g.alone) g.no_ands)
    g.no_ors) x h = absurd (none-some x h)
lone-is (g.expr (g.both (g.relation (g.sum (g.product (g.number at n) g.no_factors) g.no_terms) g.alone) g.no_ands)
    g.no_ors) x h = absurd (none-some x h)
lone-is (g.expr (g.both (g.relation (g.sum (g.product (g.parens start e close) g.no_factors) g.no_terms) g.alone)
    g.no_ands) g.no_ors) x h =
    absurd (none-some x h)
lone-is (g.expr (g.both (g.relation (g.sum (g.product f (g.more_factors sign k fs)) g.no_terms) g.alone) g.no_ands)
    g.no_ors) x h = absurd (none-some x h)
lone-is (g.expr (g.both (g.relation (g.sum p (g.more_terms sign q ts)) g.alone) g.no_ands) g.no_ors) x h =
    absurd (none-some x h)
lone-is (g.expr (g.both (g.relation a (g.compared r b)) g.no_ands) g.no_ors) x h = absurd (none-some x h)
lone-is (g.expr (g.both (g.negated at n) g.no_ands) g.no_ors) x h = absurd (none-some x h)
lone-is (g.expr (g.both n (g.more_ands at k ns)) g.no_ors) x h = absurd (none-some x h)
lone-is (g.expr b (g.more_ors at c os)) x h = absurd (none-some x h)
