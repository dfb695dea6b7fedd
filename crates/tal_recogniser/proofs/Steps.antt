-- Single steps of the machine, and what it means that a token doesn't go on with a part.
use Rattle.std.proofs.Common.{◌≡◌, Bool, true, false, List, [], ◌∷◌, ◌++◌, Option, Some, None, refl, ap, ◌∙◌}
use Rattle.tal_tokens.specs.declared.token.Token.{Token}
use Rattle.tal_recogniser.specs.declared.symbol.Symbol.{Symbol}
use Rattle.tal_recogniser.specs.declared.symbol.Symbol.TheVariants as sym
use Rattle.tal_recogniser.specs.ExpressionTable.{Stack, index_step, times_step, term_step, rel_step, and_step, or_step}
use Rattle.tal_recogniser.specs.StatementTable.{arguments_step, answer_step, right_tail_step, statement_step, else_step}
use Rattle.tal_recogniser.specs.StatementTable.{row_step}
use Rattle.tal_recogniser.specs.Machine.{step, vanishes, fed_by, feed, open_levels, over, noted, trace}

-- the first token isn't one with which a symbol goes on
abbrev pub Leaves : (Token → Option Stack) → List Token → Type 0
Leaves row [] = ⊥
Leaves row (k ∷ ks) = row k ≡ None

abbrev pub QuitsFactor : List Token → Type 0
QuitsFactor ks = Leaves index_step ks

abbrev pub QuitsProduct : List Token → Type 0
QuitsProduct ks = QuitsFactor ks × Leaves times_step ks

abbrev pub QuitsSum : List Token → Type 0
QuitsSum ks = QuitsProduct ks × Leaves term_step ks

abbrev pub QuitsNeg : List Token → Type 0
QuitsNeg ks = QuitsSum ks × Leaves rel_step ks

abbrev pub QuitsBoth : List Token → Type 0
QuitsBoth ks = QuitsNeg ks × Leaves and_step ks

abbrev pub QuitsExpr : List Token → Type 0
QuitsExpr ks = QuitsBoth ks × Leaves or_step ks

-- what needs no token gives way
pub gives_way : (s : Symbol) (ss : Stack) (ks : List Token) → Leaves (step s) ks → vanishes s ≡ true
    → trace (s ∷ ss) ks ≡ trace ss ks
gives_way s ss [] q v = absurd q
gives_way s ss (k ∷ ks) q v =
    ap (λ o. noted (fed_by o (vanishes s) ss (feed k ss)) (λ ts. trace ts ks)) q
    ∙ ap (λ b. noted (fed_by None b ss (feed k ss)) (λ ts. trace ts ks)) v

-- the end of a level
pub level-ends : (row : Token → Option Stack) (ss : Stack) (ks : List Token) → Leaves row ks
    → trace (sym.LevelEnd ∷ ss) ks ≡ trace ss ks
level-ends row ss [] q = absurd q
level-ends row ss (k ∷ ks) q = refl

-- a token that is taken
pub taken : (s : Symbol) (k : Token) (ts ss : Stack) (ks : List Token) → step s k ≡ Some ts
    → trace (s ∷ ss) (k ∷ ks) ≡ over (λ ls. open_levels (ts ++ ss) ∷ ls) (trace (ts ++ ss) ks)
taken s k ts ss ks e = ap (λ o. noted (fed_by o (vanishes s) ss (feed k ss)) (λ us. trace us ks)) e

abbrev pub QuitsRight : List Token → Type 0
QuitsRight ks = QuitsExpr ks × Leaves right_tail_step ks

abbrev pub QuitsStatement : List Token → Type 0
QuitsStatement ks = (QuitsRight ks × Leaves statement_step ks) × (Leaves arguments_step ks × Leaves answer_step ks)

abbrev pub QuitsRow : List Token → Type 0
QuitsRow ks = QuitsStatement ks × (Leaves row_step ks × Leaves else_step ks)

-- behind an IF without ELSE no ELSE stands
abbrev pub LeavesOpen : Bool → List Token → Type 0
LeavesOpen true ks = Leaves else_step ks
LeavesOpen false ks = Unit {0}
