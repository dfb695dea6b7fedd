-- What the guards of loops are told with.
use Rattle.std.specs.Prelude.{ℕ, ℤ, pos, false, List, [], ◌∷◌, codes}
use Rattle.tal_tokens.specs.declared.token.At.{At}
use Rattle.tal_syntax.specs.Grammar as g
use Rattle.tal_names.specs.declared.meaning.Meaning.TheVariants.{Simple}
use Rattle.tal_names.specs.declared.scope.Scope.{Scope}
use Rattle.tal_rules.specs.declared.walk.Stage.TheVariants.{Over}
use Rattle.tal_rules.specs.declared.walk.Walk.{Walk}
use Rattle.token_guards.specs.Texts.{on_first_line}

-- an expression that is one factor
abbrev pub factor_alone : g.Factor → g.Expr
factor_alone f = g.expr
    (g.both (g.relation (g.sum (g.product f g.no_factors) g.no_terms) g.alone) g.no_ands) g.no_ors

abbrev pub number_alone : At → ℤ → g.Expr
number_alone at value = factor_alone (g.number at value)

abbrev pub name_alone : At → List ℕ → g.Expr
name_alone at name = factor_alone (g.read (g.spot at name g.no_index))

-- IF I THEN
abbrev pub open_if : g.Statement
open_if = g.if_then (on_first_line 3 5) (name_alone (on_first_line 6 7) (codes "I")) (on_first_line 8 12) g.nothing
    g.no_else

-- the first procedure of a text, where I alone is declared
abbrev pub one_global : Scope
one_global = record { globals = (codes "I", Simple 0) ∷ []; files = []; locals = []; number = 0; gives = false }

-- FOR I:=1 TO 5 DO
abbrev pub counted_loop : g.Statement
counted_loop = g.for_do (on_first_line 0 3) (on_first_line 4 5) (codes "I") (on_first_line 5 7)
    (number_alone (on_first_line 7 8) (pos 1)) (g.up (on_first_line 9 11)) (number_alone (on_first_line 12 13) (pos 5))
    g.step_one (on_first_line 14 16) g.nothing

-- DO RETURN UNTIL I
abbrev pub tested_loop : g.Statement
tested_loop = g.do_until (on_first_line 0 2) (g.return (on_first_line 3 9) g.no_answer) (on_first_line 10 15)
    (name_alone (on_first_line 16 17) (codes "I"))

-- what stands before a statement that gets this number
abbrev pub numbered_from : ℕ → Walk
numbered_from number = record { number = number; stage = Over; files = 0; receive = false }
