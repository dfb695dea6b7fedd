-- An ELSE that follows a statement belongs to the nearest IF in it that has none.
use Rattle.std.proofs.Common.{◌≡◌, Bool, true, false, List, ◌∷◌, refl, sym, ap, true≢false}
use Rattle.tal_tokens.specs.declared.token.At.{At}
use Rattle.tal_tokens.specs.declared.token.Token.{Token}
use Rattle.tal_tokens.specs.declared.token.Token.TheVariants as tok
use Rattle.tal_syntax.specs.Grammar as g
use Rattle.tal_recogniser.proofs.Things.{NearStatement, IsNearestAfter}

-- the IF itself takes the ELSE where no IF in its statement is open
abbrev chosen : Bool → At → g.Expr → At → g.Statement → g.Statement → At → g.Statement → g.Statement
chosen true head test then_at s within at t = g.if_then head test then_at within g.no_else
chosen false head test then_at s within at t = g.if_then head test then_at s (g.otherwise at t)

-- a statement with an ELSE put at its open end
abbrev put : g.Statement → At → g.Statement → g.Statement
put g.nothing at t = g.nothing
put (g.block begin first more end) at t = g.block begin first more end
put (g.if_then head test then_at s g.no_else) at t = chosen (g.is_open s) head test then_at s (put s at t) at t
put (g.if_then head test then_at s (g.otherwise else_at u)) at t =
    g.if_then head test then_at s (g.otherwise else_at (put u at t))
put (g.while_do head test do_at s) at t = g.while_do head test do_at (put s at t)
put (g.for_do head name_at name set_at from direction to step do_at s) at t =
    g.for_do head name_at name set_at from direction to step do_at (put s at t)
put (g.do_until head s until_at test) at t = g.do_until head s until_at test
put (g.call head name_at name a) at t = g.call head name_at name a
put (g.return head a) at t = g.return head a
put (g.assign target set_at e) at t = g.assign target set_at e
put (g.assign_call target set_at name_at name start first more close) at t =
    g.assign_call target set_at name_at name start first more close

-- whether an IF is open is known where it is read
chosen-tokens : (b : Bool) (head : At) (test : g.Expr) (then_at : At) (s within : g.Statement) (at : At)
    (t : g.Statement) (ks : List Token)
    → (b ≡ true → g.of_statement within ks ≡ g.of_statement s (tok.Else at ∷ g.of_statement t ks))
    → g.of_statement (chosen b head test then_at s within at t) ks
    ≡ tok.If head ∷ g.of_expr test (tok.Then then_at ∷ g.of_statement s (tok.Else at ∷ g.of_statement t ks))
chosen-tokens true head test then_at s within at t ks h =
    ap (λ ls. tok.If head ∷ g.of_expr test (tok.Then then_at ∷ ls)) (h refl)
chosen-tokens false head test then_at s within at t ks h = refl

put-tokens : (s : g.Statement) (at : At) (t : g.Statement) (ks : List Token) → g.is_open s ≡ true
    → g.of_statement (put s at t) ks ≡ g.of_statement s (tok.Else at ∷ g.of_statement t ks)
put-tokens g.nothing at t ks h = absurd (true≢false (sym h))
put-tokens (g.block begin first more end) at t ks h = absurd (true≢false (sym h))
put-tokens (g.if_then head test then_at s g.no_else) at t ks h =
    chosen-tokens (g.is_open s) head test then_at s (put s at t) at t ks (put-tokens s at t ks)
put-tokens (g.if_then head test then_at s (g.otherwise else_at u)) at t ks h =
    ap (λ ls. tok.If head ∷ g.of_expr test (tok.Then then_at ∷ g.of_statement s (tok.Else else_at ∷ ls)))
    (put-tokens u at t ks h)
put-tokens (g.while_do head test do_at s) at t ks h =
    ap (λ ls. tok.While head ∷ g.of_expr test (tok.Do do_at ∷ ls)) (put-tokens s at t ks h)
put-tokens (g.for_do head name_at name set_at from direction to step do_at s) at t ks h =
    ap (λ ls. tok.For head ∷ tok.Name name_at name ∷ tok.Assign set_at
    ∷ g.of_expr from (g.of_direction direction ∷ g.of_expr to (g.of_step step (tok.Do do_at ∷ ls))))
    (put-tokens s at t ks h)
put-tokens (g.do_until head s until_at test) at t ks h = absurd (true≢false (sym h))
put-tokens (g.call head name_at name a) at t ks h = absurd (true≢false (sym h))
put-tokens (g.return head a) at t ks h = absurd (true≢false (sym h))
put-tokens (g.assign target set_at e) at t ks h = absurd (true≢false (sym h))
put-tokens (g.assign_call target set_at name_at name start first more close) at t ks h = absurd (true≢false (sym h))

chosen-nearest : (b : Bool) (head : At) (test : g.Expr) (then_at : At) (s within : g.Statement) (at : At)
    (t : g.Statement)
    → g.is_open s ≡ b → g.IsNearest s → g.IsNearest within → g.IsNearest t
    → g.IsNearest (chosen b head test then_at s within at t)
chosen-nearest true head test then_at s within at t e n w m = (w, tt)
chosen-nearest false head test then_at s within at t e n w m = (n, (e, m))

put-nearest : (s : g.Statement) (at : At) (t : g.Statement) → g.IsNearest s → g.IsNearest t → g.IsNearest (put s at t)
put-nearest g.nothing at t n m = tt
put-nearest (g.block begin first more end) at t n m = n
put-nearest (g.if_then head test then_at s g.no_else) at t n m =
    chosen-nearest (g.is_open s) head test then_at s (put s at t) at t refl n.0 (put-nearest s at t n.0 m) m
put-nearest (g.if_then head test then_at s (g.otherwise else_at u)) at t n m =
    (n.0, (n.1.0, put-nearest u at t n.1.1 m))
put-nearest (g.while_do head test do_at s) at t n m = put-nearest s at t n m
put-nearest (g.for_do head name_at name set_at from direction to step do_at s) at t n m = put-nearest s at t n m
put-nearest (g.do_until head s until_at test) at t n m = n
put-nearest (g.call head name_at name a) at t n m = tt
put-nearest (g.return head a) at t n m = tt
put-nearest (g.assign target set_at e) at t n m = tt
put-nearest (g.assign_call target set_at name_at name start first more close) at t n m = tt

-- an IF with a statement and what may follow as its ELSE is a statement in which each ELSE belongs to the nearest IF
pub attached : (head : At) (test : g.Expr) (then_at : At) (s : NearStatement) (o : (o : g.Otherwise) × IsNearestAfter o)
    → (r : NearStatement) × ((ks : List Token)
    → g.of_statement r.0 ks ≡ tok.If head ∷ g.of_expr test
    (tok.Then then_at ∷ g.of_statement s.0 (g.of_otherwise o.0 ks)))
attached head test then_at s (g.no_else, n) = ((g.if_then head test then_at s.0 g.no_else, (s.1, tt)), λ ks. refl)
attached head test then_at s (g.otherwise at t, n) =
    let whole : g.Statement = g.if_then head test then_at s.0 g.no_else in
    ((put whole at t, put-nearest whole at t (s.1, tt) n), λ ks. put-tokens whole at t ks refl)
