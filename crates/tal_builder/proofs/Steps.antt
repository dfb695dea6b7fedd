-- What is found of a part from what is found of its parts.
use Rattle.std.proofs.Common.{◌≡◌, ℕ, Bool, true, cond, suc, List, [], ◌∷◌, Some, None, refl, ap, ◌∙◌}
use Rattle.std.specs.Prelude.{option_map}
use Rattle.std.specs.Option.{option_and_then}
use Rattle.tal_tokens.specs.declared.token.At.{At}
use Rattle.tal_tokens.specs.declared.token.Token.{Token}
use Rattle.tal_tokens.specs.declared.token.Token.TheVariants as tok
use Rattle.tal_syntax.specs.Grammar as g
use Rattle.tal_builder.specs.First.{name_of, rel_of, direction_of}
use Rattle.tal_builder.specs.PlainTokens.{plain_of}
use Rattle.tal_builder.specs.declared.plain_token.PlainToken.TheVariants as plain
use Rattle.tal_builder.specs.Parse.{Found, constant_at, bounds_at, names_at, local_at, rest_after, row_by, compared_by}
use Rattle.tal_builder.specs.Parse.{relation_by, argument_at, further_at, listed_at, values_at, value_list_at, spot_at}
use Rattle.tal_builder.specs.Parse.{right_at, assign_at, item_at, items_at, int_line_at, literal_at, literals_at}
use Rattle.tal_builder.specs.Parse.{literal_line_at, gives_at, parameters_at, main_at, heading_at, locals_at}
use Rattle.tal_builder.specs.Parse.{statement_at, row_at, procedure_at, lines_at, procedures_at, text_at, ors_by}
use Rattle.tal_builder.specs.Parse.{expr_by, ands_by, both_by, compared_to, terms_by, sum_by, factors_by, product_by}
use Rattle.tal_builder.specs.Parse.{index_by, parens_by, minus_by, negated_by, expr_at, rows_by, block_by, otherwise_by}
use Rattle.tal_builder.specs.Parse.{if_by, while_by, step_at, for_by, do_by}

pub expr-found : (both : List Token → Found g.Both) (ks us vs : List Token) (first : g.Both) (more : g.Ors)
    → both ks ≡ Some (first, us) → ors_by both us ≡ Some (more, vs) → expr_by both ks ≡ Some (g.expr first more, vs)
expr-found both ks us vs first more a b = rw (a, b) refl

pub both-found : (neg : List Token → Found g.Neg) (ks us vs : List Token) (first : g.Neg) (more : g.Ands)
    → neg ks ≡ Some (first, us) → ands_by neg us ≡ Some (more, vs) → both_by neg ks ≡ Some (g.both first more, vs)
both-found neg ks us vs first more a b = rw (a, b) refl

pub sum-found : (product : List Token → Found g.Product) (ks us vs : List Token) (first : g.Product) (more : g.Terms)
    → product ks ≡ Some (first, us) → terms_by product us ≡ Some (more, vs)
    → sum_by product ks ≡ Some (g.sum first more, vs)
sum-found product ks us vs first more a b = rw (a, b) refl

pub product-found : (factor : List Token → Found g.Factor) (ks us vs : List Token) (first : g.Factor) (more : g.Factors)
    → factor ks ≡ Some (first, us) → factors_by factor us ≡ Some (more, vs)
    → product_by factor ks ≡ Some (g.product first more, vs)
product-found factor ks us vs first more a b = rw (a, b) refl

pub negated-found : (inner : List Token → Found g.Neg) (at : At) (ks us : List Token) (n : g.Neg)
    → inner ks ≡ Some (n, us) → negated_by inner at ks ≡ Some (g.negated at n, us)
negated-found inner at ks us n a = rw a refl

pub minus-found : (inner : List Token → Found g.Factor) (at : At) (ks us : List Token) (f : g.Factor)
    → inner ks ≡ Some (f, us) → minus_by inner at ks ≡ Some (g.minus at f, us)
minus-found inner at ks us f a = rw a refl

pub parens-found : (expr : List Token → Found g.Expr) (start close : At) (ks us vs : List Token) (e : g.Expr)
    → expr ks ≡ Some (e, us) → plain_of plain.Close us ≡ Some (close, vs)
    → parens_by expr start ks ≡ Some (g.parens start e close, vs)
parens-found expr start close ks us vs e a b = rw (a, b) refl

pub index-found : (expr : List Token → Found g.Expr) (start close : At) (ks us vs ws : List Token) (e : g.Expr)
    → plain_of plain.OpenIndex ks ≡ Some (start, us) → expr us ≡ Some (e, vs)
    → plain_of plain.CloseIndex vs ≡ Some (close, ws)
    → index_by expr ks ≡ Some (g.index start e close, ws)
index-found expr start close ks us vs ws e a b c = rw (a, b, c) refl

pub block-found : (inner : List Token → Found g.Statement) (begin end : At) (ks us vs ws : List Token)
    (first : g.Statement) (row : g.Row)
    → inner ks ≡ Some (first, us) → rows_by inner us ≡ Some (row, vs) → plain_of plain.End vs ≡ Some (end, ws)
    → block_by inner begin ks ≡ Some (g.block begin first row end, ws)
block-found inner begin end ks us vs ws first row a b c = rw (a, b, c) refl

pub otherwise-found : (inner : List Token → Found g.Statement) (at : At) (ks us vs : List Token) (s : g.Statement)
    → plain_of plain.Else ks ≡ Some (at, us) → inner us ≡ Some (s, vs)
    → otherwise_by inner ks ≡ Some (g.otherwise at s, vs)
otherwise-found inner at ks us vs s a b = rw (a, b) refl

pub if-found : (inner : List Token → Found g.Statement) (n : ℕ) (head then_at : At) (ks us vs ws xs : List Token)
    (test : g.Expr) (s : g.Statement) (o : g.Otherwise)
    → expr_at n ks ≡ Some (test, us) → plain_of plain.Then us ≡ Some (then_at, vs) → inner vs ≡ Some (s, ws)
    → otherwise_by inner ws ≡ Some (o, xs)
    → if_by inner n head ks ≡ Some (g.if_then head test then_at s o, xs)
if-found inner n head then_at ks us vs ws xs test s o a b c d = rw (a, b, c, d) refl

pub while-found : (inner : List Token → Found g.Statement) (n : ℕ) (head do_at : At) (ks us vs ws : List Token)
    (test : g.Expr) (s : g.Statement)
    → expr_at n ks ≡ Some (test, us) → plain_of plain.Do us ≡ Some (do_at, vs) → inner vs ≡ Some (s, ws)
    → while_by inner n head ks ≡ Some (g.while_do head test do_at s, ws)
while-found inner n head do_at ks us vs ws test s a b c = rw (a, b, c) refl

pub for-found : (inner : List Token → Found g.Statement) (n : ℕ) (head at : At) (name : List ℕ)
    (set_at do_at : At) (ks us vs ws xs ys rs zs ts : List Token)
    (from : g.Expr) (direction : g.Direction) (to : g.Expr) (step : g.Step) (s : g.Statement)
    → name_of ks ≡ Some ((at, name), us) → plain_of plain.Assign us ≡ Some (set_at, vs) → expr_at n vs ≡ Some (from, ws)
    → direction_of ws ≡ Some (direction, xs)
    → expr_at n xs ≡ Some (to, ys) → step_at ys ≡ Some (step, rs) → plain_of plain.Do rs ≡ Some (do_at, zs)
    → inner zs ≡ Some (s, ts)
    → for_by inner n head ks ≡ Some (g.for_do head at name set_at from direction to step do_at s, ts)
for-found inner n head at name set_at do_at ks us vs ws xs ys rs zs ts from direction to step s a b c d e f h i =
    rw (a, b, c, d, e, f, h, i) refl

pub do-found : (inner : List Token → Found g.Statement) (n : ℕ) (head at : At) (ks us vs ws : List Token)
    (s : g.Statement) (test : g.Expr)
    → inner ks ≡ Some (s, us) → plain_of plain.Until us ≡ Some (at, vs) → expr_at n vs ≡ Some (test, ws)
    → do_by inner n head ks ≡ Some (g.do_until head s at test, ws)
do-found inner n head at ks us vs ws s test a b c = rw (a, b, c) refl

pub relation-found : (sum : List Token → Found g.Sum) (ks us vs : List Token) (s : g.Sum) (c : g.Compared)
    → sum ks ≡ Some (s, us) → compared_by sum us ≡ Some (c, vs) → relation_by sum ks ≡ Some (g.relation s c, vs)
relation-found sum ks us vs s c a b = rw (a, b) refl

-- what is found of a relation goes on after its left sum
pub relation-goes : (sum : List Token → Found g.Sum) (ks us : List Token) (s : g.Sum)
    → sum ks ≡ Some (s, us) → relation_by sum ks ≡ compared_to sum s us
relation-goes sum ks us s a = rw a refl

pub alone-found : (sum : List Token → Found g.Sum) (ks : List Token) (s : g.Sum)
    → rel_of ks ≡ None → compared_to sum s ks ≡ Some (g.relation s g.alone, ks)
alone-found sum ks s a = rw a refl

pub compared-found : (sum : List Token → Found g.Sum) (ks us vs : List Token) (s : g.Sum) (rel : g.Rel) (right : g.Sum)
    → rel_of ks ≡ Some (rel, us) → sum us ≡ Some (right, vs)
    → compared_to sum s ks ≡ Some (g.relation s (g.compared rel right), vs)
compared-found sum ks us vs s rel right a b = rw (a, b) refl

pub listed-found : (n : ℕ) (start close : At) (ks us vs ws : List Token) (first : g.Argument) (more : g.Further)
    → argument_at n ks ≡ Some (first, us) → further_at n us ≡ Some (more, vs)
    → plain_of plain.Close vs ≡ Some (close, ws)
    → listed_at n start ks ≡ Some (g.listed start first more close, ws)
listed-found n start close ks us vs ws first more a b c = rw (a, b, c) refl

pub values-found : (n : ℕ) (close : At) (ks us vs ws : List Token) (first : g.Expr) (more : g.Values)
    → expr_at n ks ≡ Some (first, us) → values_at n us ≡ Some (more, vs) → plain_of plain.Close vs ≡ Some (close, ws)
    → value_list_at n ks ≡ Some ((first, more, close), ws)
values-found n close ks us vs ws first more a b c = rw (a, b, c) refl

pub assign-found : (n : ℕ) (at : At) (ks us vs ws : List Token) (target : g.Spot) (s : g.Statement)
    → spot_at n ks ≡ Some (target, us) → plain_of plain.Assign us ≡ Some (at, vs)
    → right_at n target at vs ≡ Some (s, ws) → assign_at n ks ≡ Some (s, ws)
assign-found n at ks us vs ws target s a b c = rw (a, b) c

pub bounded-found : (start : At) (low : g.Constant) (colon : At) (high : g.Constant) (close : At)
    (ks us ws : List Token)
    → constant_at ks ≡ Some (low, tok.Colon colon ∷ us) → constant_at us ≡ Some (high, tok.CloseIndex close ∷ ws)
    → bounds_at (tok.OpenIndex start ∷ ks) ≡ Some (g.bounded start low colon high close, ws)
bounded-found start low colon high close ks us ws a b = rw (a, b) refl

pub parameters-found : (start at : At) (name : List ℕ) (more : g.Names) (close : At) (ks us : List Token)
    → names_at ks ≡ Some (more, tok.Close close ∷ us)
    → parameters_at (tok.Open start ∷ tok.Name at name ∷ ks) ≡ Some (g.parameters start at name more close, us)
parameters-found start at name more close ks us a = rw a refl

pub local-found : (int at : At) (name : List ℕ) (more : g.Names) (end : At) (ks us : List Token)
    → names_at ks ≡ Some (more, tok.Semicolon end ∷ us)
    → local_at (tok.Int int ∷ tok.Name at name ∷ ks) ≡ Some (g.local int at name more end, us)
local-found int at name more end ks us a = rw a refl

pub int_line-found : (int end : At) (ks us vs ws : List Token) (first : g.Item) (more : g.Items)
    → item_at ks ≡ Some (first, us) → items_at us ≡ Some (more, vs) → plain_of plain.Semicolon vs ≡ Some (end, ws)
    → int_line_at int ks ≡ Some (g.int_line int first more end, ws)
int_line-found int end ks us vs ws first more a b c = rw (a, b, c) refl

pub literal_line-found : (word end : At) (ks us vs ws : List Token) (first : g.Literal) (more : g.Literals)
    → literal_at ks ≡ Some (first, us) → literals_at us ≡ Some (more, vs) → plain_of plain.Semicolon vs ≡ Some (end, ws)
    → literal_line_at word ks ≡ Some (g.literal_line word first more end, ws)
literal_line-found word end ks us vs ws first more a b c = rw (a, b, c) refl

pub heading-found : (i : g.Gives) (proc at : At) (name : List ℕ) (p : g.Parameters) (m : g.Main) (end : At)
    (ks us vs ws xs ys zs : List Token)
    → gives_at ks ≡ Some (i, us) → plain_of plain.Proc us ≡ Some (proc, vs) → name_of vs ≡ Some ((at, name), ws)
    → parameters_at ws ≡ Some (p, xs)
    → main_at xs ≡ Some (m, ys) → plain_of plain.Semicolon ys ≡ Some (end, zs)
    → heading_at ks ≡ Some (g.heading i proc at name p m end, zs)
heading-found i proc at name p m end ks us vs ws xs ys zs a b c d e f = rw (a, b, c, d, e, f) refl

pub procedure-found : (h : g.Heading) (outer : g.Locals) (begin : At) (inner : g.Locals) (first : g.Statement)
    (more : g.Row) (end last : At) (ks us vs ws xs ys zs ts rs : List Token)
    → heading_at ks ≡ Some (h, us) → locals_at us ≡ Some (outer, vs) → plain_of plain.Begin vs ≡ Some (begin, ws)
    → locals_at ws ≡ Some (inner, xs)
    → statement_at 33 xs ≡ Some (first, ys) → row_at 33 ys ≡ Some (more, zs) → plain_of plain.End zs ≡ Some (end, ts)
    → plain_of plain.Semicolon ts ≡ Some (last, rs)
    → procedure_at ks ≡ Some (g.procedure h outer begin inner first more end last, rs)
procedure-found h outer begin inner first more end last ks us vs ws xs ys zs ts rs a b c d e f i j =
    rw (a, b, c, d, e, f, i, j) refl

pub text-found : (ks us vs : List Token) (lines : g.Lines) (ps : g.Procedures) (finish : At)
    → lines_at ks ≡ Some (lines, us) → procedures_at us ≡ Some (ps, vs) → plain_of plain.Finish vs ≡ Some (finish, [])
    → text_at ks ≡ Some (g.text lines ps finish)
text-found ks us vs lines ps finish a b c = rw (a, b, c) refl

-- one link of a chain
pub linked : {S X R : Type 0} (none : R) (more : S → X → R → R) (part : List Token → Found X)
    (go : List Token → Found R) (ks us vs ws : List Token) (s : S) (x : X) (r : R)
    → part us ≡ Some (x, vs) → go vs ≡ Some (r, ws)
    → rest_after none more part go ks (Some (s, us)) ≡ Some (more s x r, ws)
linked none more part go ks us vs ws s x r a b = rw (a, b) refl

-- one more in a row
pub rowed : {X R : Type 0} (none : R) (more : X → R → R) (begins : List Token → Bool) (part : List Token → Found X)
    (k : ℕ) (ks vs ws : List Token) (x : X) (r : R)
    → begins ks ≡ true → part ks ≡ Some (x, vs) → row_by none more begins part k vs ≡ Some (r, ws)
    → row_by none more begins part (suc k) ks ≡ Some (more x r, ws)
rowed none more begins part k ks vs ws x r a b c =
    ap (λ o. cond o (option_and_then (λ p. option_map (λ r. (more p.0 r.0, r.1)) (row_by none more begins part k p.1))
    (part ks)) (Some (none, ks))) a
    ∙ ap (option_and_then (λ p. option_map (λ r. (more p.0 r.0, r.1)) (row_by none more begins part k p.1))) b
    ∙ ap (option_map (λ r. (more x r.0, r.1))) c
