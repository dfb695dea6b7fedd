-- The numbered statements that the statements of a text without faults stand for.
use Rattle.std.specs.Prelude.{ℤ, pos, Bool, true, false, List, [], ◌∷◌, ◌++◌, Option, Some, None, unwrap_or}
use Rattle.tal_syntax.specs.tal_tokens.specs.declared.token.At.{At}
use Rattle.tal_syntax.specs.Grammar as g
use Rattle.tal_tree.specs.declared.expression.Expr.{Expr}
use Rattle.tal_tree.specs.declared.statement.Statement.{Statement}
use Rattle.tal_tree.specs.declared.statement.What.{What}
use Rattle.tal_tree.specs.declared.statement.What.TheVariants as what
use Rattle.tal_names.specs.declared.meaning.Meaning.{Meaning}
use Rattle.tal_names.specs.declared.meaning.Meaning.TheVariants as m
use Rattle.tal_names.specs.declared.scope.Scope.{Scope}
use Rattle.tal_rules.specs.declared.walk.Walk.{Walk}
use Rattle.tal_names.specs.Systems.{system_of}
use Rattle.tal_names.specs.Places.{first_of_spot, name_of_expr, arguments_of}
use Rattle.tal_names.specs.Scopes.{meaning_of}
use Rattle.tal_rules.specs.tal_declarations.specs.Files.{named_in}
use Rattle.tal_rules.specs.tal_declarations.specs.Globals.{atom_of, constant_value}
use Rattle.tal_rules.specs.Statements.{next_walk, inside_do, after}
use Rattle.tal_meaning.specs.Calls.{values_of, procedure_by, variable_by, call_what, meaning_by}
use Rattle.tal_meaning.specs.Expressions.{value_of_expr, cond_of_expr, target_of_spot}

-- one statement, on the line of the token that tells its place
abbrev pub one : Walk → At → What → List Statement
one w at what = record { number = w.number; line = at.place.line; what = what } ∷ []

-- what RETURN gives
abbrev pub answer_of : Scope → g.Answer → Option Expr
answer_of s g.no_answer = None
answer_of s (g.answer e) = Some (value_of_expr s e)

-- an assignment; a right side that is a procedure's name alone is a call of it
abbrev pub assign_by : Scope → g.Spot → g.Expr → Option Meaning → What
assign_by s target e (Some (m.Procedure number gives parameters)) = what.AssignCall (target_of_spot s target) number []
assign_by s target e _ = what.Assign (target_of_spot s target) (value_of_expr s e)

-- whether a FOR counts down
abbrev pub is_down : g.Direction → Bool
is_down (g.up at) = false
is_down (g.down at) = true

-- what a FOR adds or takes away; a constant that isn't a word plays no part
abbrev pub step_of : Scope → g.Step → ℤ
step_of s g.step_one = pos 1
step_of s (g.step_by at c) = unwrap_or (constant_value c (named_in s (atom_of c))) (pos 1)

-- a DO stands on the line of its UNTIL, with the number after those of its body
module _ (s : Scope) where
  abbrev mutual
    pub statements_of : Walk → g.Statement → List Statement
    statements_of w g.nothing = []
    statements_of w (g.block begin first more end) = statements_of w first ++ row_statements (after s w first) more
    statements_of w (g.if_then head test then_at t o) =
        one w head (what.If (cond_of_expr s test) (statements_of (next_walk w) t)
        (else_statements (after s (next_walk w) t) o))
    statements_of w (g.while_do head test do_at t) =
        one w head (what.While (cond_of_expr s test) (statements_of (next_walk w) t))
    statements_of w (g.for_do head at name set_at from direction to step do_at t) =
        one w head (what.For (variable_by (meaning_of s name)) (value_of_expr s from) (value_of_expr s to)
        (is_down direction) (step_of s step) (statements_of (next_walk (next_walk w)) t)
        (after s (next_walk (next_walk w)) t).number)
    statements_of w (g.do_until head t at test) =
        one (after s (inside_do w) t) at (what.DoUntil (statements_of (inside_do w) t) (cond_of_expr s test))
    statements_of w (g.call head at name a) = one w head (call_what s name (arguments_of a) (system_of name))
    statements_of w (g.return head a) = one w head (what.Return (answer_of s a))
    statements_of w (g.assign target at e) =
        one w (first_of_spot target) (assign_by s target e (meaning_by s (name_of_expr e)))
    statements_of w (g.assign_call target at name_at name start first more close) =
        one w (first_of_spot target)
        (what.AssignCall (target_of_spot s target) (procedure_by (meaning_of s name))
        (value_of_expr s first ∷ values_of s more))

    pub else_statements : Walk → g.Otherwise → List Statement
    else_statements w g.no_else = []
    else_statements w (g.otherwise at t) = statements_of w t

    pub row_statements : Walk → g.Row → List Statement
    row_statements w g.no_row = []
    row_statements w (g.more_row semicolon t rest) = statements_of w t ++ row_statements (after s w t) rest
