-- Tokens are read piece by piece.
use Rattle.std.proofs.Common.{◌≡◌, ℕ, suc, List, [], ◌∷◌, ◌++◌, length, Option, Some, None, refl, ap, ◌∙◌}
use Rattle.std.proofs.lemmas.Option.{none-some}
use Rattle.tal_tokens.specs.declared.token.Token.{Token}
use Rattle.tal_recogniser.specs.ExpressionTable.{Stack}
use Rattle.tal_recogniser.specs.Machine.{feed, open_levels, Trace, over, noted, trace}

-- what was read, and what is read from there on
abbrev pub joined : Trace → (Stack → Trace) → Trace
joined (None, ls) go = (None, ls)
joined (Some ts, ls) go = over (λ l. ls ++ l) (go ts)

joined-over : (m : ℕ) (t : Trace) (go : Stack → Trace)
    → over (λ l. m ∷ l) (joined t go) ≡ joined (over (λ l. m ∷ l) t) go
joined-over m (None, ls) go = refl
joined-over m (Some ts, ls) go = refl

split-on : (o : Option Stack) (ks more : List Token)
    → ((ts : Stack) → trace ts (ks ++ more) ≡ joined (trace ts ks) (λ us. trace us more))
    → noted o (λ ts. trace ts (ks ++ more)) ≡ joined (noted o (λ ts. trace ts ks)) (λ us. trace us more)
split-on None ks more h = refl
split-on (Some ts) ks more h =
    ap (over (λ l. open_levels ts ∷ l)) (h ts) ∙ joined-over (open_levels ts) (trace ts ks) (λ us. trace us more)

split : (ks more : List Token) (ss : Stack) → trace ss (ks ++ more) ≡ joined (trace ss ks) (λ ts. trace ts more)
split [] more ss = refl
split (k ∷ ks) more ss = split-on (feed k ss) ks more (split ks more)

joined-some : (t : Trace) (ts : Stack) (go : Stack → Trace) → t.0 ≡ Some ts → joined t go ≡ over (λ l. t.1 ++ l) (go ts)
joined-some (o, ls) ts go e = ap (λ p. joined (p, ls) go) e

-- from a stack that was reached it goes on
pub on_from : (ss ts : Stack) (ks more : List Token) → (trace ss ks).0 ≡ Some ts
    → trace ss (ks ++ more) ≡ over (λ l. (trace ss ks).1 ++ l) (trace ts more)
on_from ss ts ks more e = split ks more ss ∙ joined-some (trace ss ks) ts (λ us. trace us more) e

joined-none : (t : Trace) (go : Stack → Trace) → t.0 ≡ None → (joined t go).0 ≡ None
joined-none (o, ls) go e = ap (λ p. (joined (p, ls) go).0) e

-- where no stack was reached none is
pub none_from : (ss : Stack) (ks more : List Token) → (trace ss ks).0 ≡ None → (trace ss (ks ++ more)).0 ≡ None
none_from ss ks more e = ap (λ t. t.0) (split ks more ss) ∙ joined-none (trace ss ks) (λ us. trace us more) e

noted-length : (o : Option Stack) (ks : List Token) (ts : Stack) → (noted o (λ us. trace us ks)).0 ≡ Some ts
    → ((us : Stack) → (trace us ks).0 ≡ Some ts → length (trace us ks).1 ≡ length ks)
    → length (noted o (λ us. trace us ks)).1 ≡ suc (length ks)
noted-length None ks ts e h = absurd (none-some ts e)
noted-length (Some us) ks ts e h = ap suc (h us e)

-- a level is noted for each token
pub levels-length : (ks : List Token) (ss ts : Stack) → (trace ss ks).0 ≡ Some ts → length (trace ss ks).1 ≡ length ks
levels-length [] ss ts e = refl
levels-length (k ∷ ks) ss ts e = noted-length (feed k ss) ks ts e (λ us. levels-length ks us ts)

-- one token more
pub one_more : (k : Token) (ss ts : Stack) → feed k ss ≡ Some ts → trace ss (k ∷ []) ≡ (Some ts, open_levels ts ∷ [])
one_more k ss ts e = ap (λ o. noted o (λ us. trace us [])) e

pub one_less : (k : Token) (ss : Stack) → feed k ss ≡ None → trace ss (k ∷ []) ≡ (None, [])
one_less k ss e = ap (λ o. noted o (λ us. trace us [])) e

pub one_and_more : (k : Token) (ss ts : Stack) (more : List Token) → feed k ss ≡ Some ts
    → (trace ss (k ∷ more)).1 ≡ open_levels ts ∷ (trace ts more).1
one_and_more k ss ts more e = ap (λ o. (noted o (λ us. trace us more)).1) e
