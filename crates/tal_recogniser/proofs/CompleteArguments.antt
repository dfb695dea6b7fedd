-- The machine takes the tokens of each argument, list of values and right side, and its open levels are theirs.
use Rattle.std.proofs.Common.{◌≡◌, ℕ, suc, List, ◌∷◌, refl, sym, ap, ◌∙◌}
use Rattle.tal_tokens.specs.declared.token.Token.{Token}
use Rattle.tal_tokens.specs.declared.token.Token.TheVariants as tok
use Rattle.tal_syntax.specs.Grammar as g
use Rattle.tal_syntax.specs.Nesting.{nest_expr, nest_argument, nest_further, nest_arguments, nest_values, nest_answer}
use Rattle.tal_recogniser.specs.declared.symbol.Symbol.TheVariants as sym
use Rattle.tal_recogniser.specs.ExpressionTable.{Stack, expr_on}
use Rattle.tal_recogniser.specs.StatementTable.{further_step, arguments_step, values_step, answer_step}
use Rattle.tal_recogniser.specs.Machine.{open_levels, over, trace}
use Rattle.tal_recogniser.proofs.Steps.{Leaves, QuitsExpr, QuitsRight, gives_way, level-ends}
use Rattle.tal_recogniser.proofs.CompleteExpressions.{complete-expr}

argument-begins : (e : g.Expr) (ss : Stack) (ks : List Token)
    → trace (sym.Argument ∷ ss) (g.of_expr e ks) ≡ trace (expr_on ss) (g.of_expr e ks)
argument-begins (g.expr (g.both (g.negated at n) ns) os) ss ks = refl
argument-begins (g.expr (g.both (g.relation (g.sum (g.product (g.minus at f) fs) ts) c) ns) os) ss ks = refl
argument-begins (g.expr (g.both (g.relation (g.sum (g.product (g.number at n) fs) ts) c) ns) os) ss ks = refl
argument-begins (g.expr (g.both (g.relation (g.sum (g.product (g.read (g.spot at name i)) fs) ts) c) ns) os) ss ks =
    refl
argument-begins (g.expr (g.both (g.relation (g.sum (g.product (g.parens start e close) fs) ts) c) ns) os) ss ks = refl

answer-begins : (e : g.Expr) (ss : Stack) (ks : List Token)
    → trace (sym.Answer ∷ ss) (g.of_expr e ks) ≡ trace (expr_on ss) (g.of_expr e ks)
answer-begins (g.expr (g.both (g.negated at n) ns) os) ss ks = refl
answer-begins (g.expr (g.both (g.relation (g.sum (g.product (g.minus at f) fs) ts) c) ns) os) ss ks = refl
answer-begins (g.expr (g.both (g.relation (g.sum (g.product (g.number at n) fs) ts) c) ns) os) ss ks = refl
answer-begins (g.expr (g.both (g.relation (g.sum (g.product (g.read (g.spot at name i)) fs) ts) c) ns) os) ss ks = refl
answer-begins (g.expr (g.both (g.relation (g.sum (g.product (g.parens start e close) fs) ts) c) ns) os) ss ks = refl

-- what goes on after a name that begins a right side goes on as in an expression
goes_on : (i : g.Index) (fs : g.Factors) (ts : g.Terms) (c : g.Compared) (ns : g.Ands) (os : g.Ors) (ss : Stack)
    (ks : List Token) → QuitsRight ks
    → trace (sym.RightTail ∷ ss) (g.of_index i
    (g.of_factors fs (g.of_terms ts (g.of_compared c (g.of_ands ns (g.of_ors os ks))))))
    ≡ trace (sym.IndexTail ∷ sym.TimesTail ∷ sym.TermTail ∷ sym.RelTail ∷ sym.AndTail ∷ sym.OrTail ∷ ss)
    (g.of_index i (g.of_factors fs (g.of_terms ts (g.of_compared c (g.of_ands ns (g.of_ors os ks))))))
goes_on (g.index start e close) fs ts c ns os ss ks q = refl
goes_on g.no_index (g.more_factors (g.times at) f fs) ts c ns os ss ks q = refl
goes_on g.no_index (g.more_factors (g.over at) f fs) ts c ns os ss ks q = refl
goes_on g.no_index g.no_factors (g.more_terms (g.plus at) p ts) c ns os ss ks q = refl
goes_on g.no_index g.no_factors (g.more_terms (g.dash at) p ts) c ns os ss ks q = refl
goes_on g.no_index g.no_factors g.no_terms (g.compared (g.equal at) s) ns os ss ks q = refl
goes_on g.no_index g.no_factors g.no_terms (g.compared (g.differs at) s) ns os ss ks q = refl
goes_on g.no_index g.no_factors g.no_terms (g.compared (g.less at) s) ns os ss ks q = refl
goes_on g.no_index g.no_factors g.no_terms (g.compared (g.at_most at) s) ns os ss ks q = refl
goes_on g.no_index g.no_factors g.no_terms (g.compared (g.greater at) s) ns os ss ks q = refl
goes_on g.no_index g.no_factors g.no_terms (g.compared (g.at_least at) s) ns os ss ks q = refl
goes_on g.no_index g.no_factors g.no_terms g.alone (g.more_ands at n ns) os ss ks q = refl
goes_on g.no_index g.no_factors g.no_terms g.alone g.no_ands (g.more_ors at b os) ss ks q = refl
goes_on g.no_index g.no_factors g.no_terms g.alone g.no_ands g.no_ors ss ks q =
    gives_way sym.RightTail ss ks q.1 refl
    ∙ sym (gives_way sym.IndexTail (sym.TimesTail ∷ sym.TermTail ∷ sym.RelTail ∷ sym.AndTail ∷ sym.OrTail ∷ ss) ks
    q.0.0.0.0.0.0 refl
    ∙ gives_way sym.TimesTail (sym.TermTail ∷ sym.RelTail ∷ sym.AndTail ∷ sym.OrTail ∷ ss) ks q.0.0.0.0.0.1 refl
    ∙ gives_way sym.TermTail (sym.RelTail ∷ sym.AndTail ∷ sym.OrTail ∷ ss) ks q.0.0.0.0.1 refl
    ∙ gives_way sym.RelTail (sym.AndTail ∷ sym.OrTail ∷ ss) ks q.0.0.0.1 refl
    ∙ gives_way sym.AndTail (sym.OrTail ∷ ss) ks q.0.0.1 refl
    ∙ gives_way sym.OrTail ss ks q.0.1 refl)

right-begins : (e : g.Expr) (ss : Stack) (ks : List Token) → QuitsRight ks
    → trace (sym.Right ∷ ss) (g.of_expr e ks) ≡ trace (expr_on ss) (g.of_expr e ks)
right-begins (g.expr (g.both (g.negated at n) ns) os) ss ks q = refl
right-begins (g.expr (g.both (g.relation (g.sum (g.product (g.minus at f) fs) ts) c) ns) os) ss ks q = refl
right-begins (g.expr (g.both (g.relation (g.sum (g.product (g.number at n) fs) ts) c) ns) os) ss ks q = refl
right-begins (g.expr (g.both (g.relation (g.sum (g.product (g.read (g.spot at name i)) fs) ts) c) ns) os) ss ks q =
    ap (over (λ ls. open_levels ss ∷ ls)) (goes_on i fs ts c ns os ss ks q)
right-begins (g.expr (g.both (g.relation (g.sum (g.product (g.parens start e close) fs) ts) c) ns) os) ss ks q = refl

pub complete-right : (e : g.Expr) (ss : Stack) (ks : List Token) → QuitsRight ks
    → trace (sym.Right ∷ ss) (g.of_expr e ks) ≡ over (nest_expr (open_levels ss) e) (trace ss ks)
complete-right e ss ks q = right-begins e ss ks q ∙ complete-expr e ss ks q.0

pub complete-answer : (a : g.Answer) (ss : Stack) (ks : List Token) → QuitsExpr ks → Leaves answer_step ks
    → trace (sym.Answer ∷ ss) (g.of_answer a ks) ≡ over (nest_answer (open_levels ss) a) (trace ss ks)
complete-answer g.no_answer ss ks q r = gives_way sym.Answer ss ks r refl
complete-answer (g.answer e) ss ks q r = answer-begins e ss ks ∙ complete-expr e ss ks q

complete-argument : (a : g.Argument) (ss : Stack) (ks : List Token) → QuitsExpr ks
    → trace (sym.Argument ∷ ss) (g.of_argument a ks) ≡ over (nest_argument (open_levels ss) a) (trace ss ks)
complete-argument (g.value e) ss ks q = argument-begins e ss ks ∙ complete-expr e ss ks q
complete-argument (g.receive at) ss ks q = refl
complete-argument (g.process at name) ss ks q = refl
complete-argument (g.quoted at) ss ks q = refl

quits-further : (f : g.Further) (ks : List Token) → QuitsExpr ks → QuitsExpr (g.of_further f ks)
quits-further g.no_further ks q = q
quits-further (g.more_further comma a rest) ks q = (((((refl, refl), refl), refl), refl), refl)

complete-further : (f : g.Further) (ss : Stack) (ks : List Token) → QuitsExpr ks → Leaves further_step ks
    → trace (sym.FurtherTail ∷ ss) (g.of_further f ks) ≡ over (nest_further (open_levels ss) f) (trace ss ks)
complete-further g.no_further ss ks q r = gives_way sym.FurtherTail ss ks r refl
complete-further (g.more_further comma a rest) ss ks q r =
    ap (over (λ ls. open_levels ss ∷ ls))
    (complete-argument a (sym.FurtherTail ∷ ss) (g.of_further rest ks) (quits-further rest ks q)
    ∙ ap (over (nest_argument (open_levels ss) a)) (complete-further rest ss ks q r))

pub complete-arguments : (a : g.Arguments) (ss : Stack) (ks : List Token) → Leaves arguments_step ks
    → trace (sym.ArgumentsTail ∷ ss) (g.of_arguments a ks) ≡ over (nest_arguments (open_levels ss) a) (trace ss ks)
complete-arguments g.unlisted ss ks q = gives_way sym.ArgumentsTail ss ks q refl
complete-arguments (g.listed start first more close) ss ks q =
    let m : ℕ = suc (open_levels ss) in
    let shut : QuitsExpr (tok.Close close ∷ ks) = (((((refl, refl), refl), refl), refl), refl) in
    ap (over (λ ls. m ∷ ls))
    (complete-argument first (sym.FurtherTail ∷ sym.WantClose ∷ sym.LevelEnd ∷ ss)
    (g.of_further more (tok.Close close ∷ ks)) (quits-further more (tok.Close close ∷ ks) shut)
    ∙ ap (over (nest_argument m first)) (complete-further more (sym.WantClose ∷ sym.LevelEnd ∷ ss)
    (tok.Close close ∷ ks) shut refl))
    ∙ ap (over (λ ls. m ∷ nest_argument m first (nest_further m more (m ∷ ls)))) (level-ends arguments_step ss ks q)

pub quits-values : (vs : g.Values) (ks : List Token) → QuitsExpr ks → QuitsExpr (g.of_values vs ks)
quits-values g.no_values ks q = q
quits-values (g.more_values comma e rest) ks q = (((((refl, refl), refl), refl), refl), refl)

pub complete-values : (vs : g.Values) (ss : Stack) (ks : List Token) → QuitsExpr ks → Leaves values_step ks
    → trace (sym.ValuesTail ∷ ss) (g.of_values vs ks) ≡ over (nest_values (open_levels ss) vs) (trace ss ks)
complete-values g.no_values ss ks q r = gives_way sym.ValuesTail ss ks r refl
complete-values (g.more_values comma e rest) ss ks q r =
    ap (over (λ ls. open_levels ss ∷ ls))
    (complete-expr e (sym.ValuesTail ∷ ss) (g.of_values rest ks) (quits-values rest ks q)
    ∙ ap (over (nest_expr (open_levels ss) e)) (complete-values rest ss ks q r))
