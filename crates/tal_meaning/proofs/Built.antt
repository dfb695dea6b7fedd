-- What statements, procedures and names stand for, from what their parts do.
use Rattle.std.proofs.Common.{◌≡◌, ℕ, List, [], ◌∷◌, ◌++◌, Option, refl, ap, ◌∙◌, append_assoc}
use Rattle.tal_syntax.specs.tal_tokens.specs.declared.token.At.{At}
use Rattle.tal_syntax.specs.Grammar as g
use Rattle.tal_tree.specs.declared.program.FileUse.{FileUse}
use Rattle.tal_tree.specs.declared.program.Item.{Item}
use Rattle.tal_tree.specs.declared.program.Program.{Program}
use Rattle.tal_tree.specs.declared.statement.Statement.{Statement}
use Rattle.tal_tree.specs.declared.statement.What.TheVariants as what
use Rattle.tal_names.specs.declared.scope.Named.{Named}
use Rattle.tal_names.specs.declared.scope.Scope.{Scope}
use Rattle.tal_rules.specs.declared.walk.Walk.{Walk}
use Rattle.tal_rules.specs.tal_declarations.specs.Globals.{with_lines, nothing_declared}
use Rattle.tal_names.specs.Names.{Declarations}
use Rattle.tal_names.specs.Scopes.{meaning_of}
use Rattle.tal_rules.specs.Statements.{next_walk, inside_do, after}
use Rattle.tal_rules.specs.Texts.{headed_text, files_by}
use Rattle.tal_meaning.specs.Calls.{variable_by}
use Rattle.tal_meaning.specs.Expressions.{value_of_expr, cond_of_expr}
use Rattle.tal_meaning.specs.Programs.{texts_of, program_by, tree_of}
use Rattle.tal_meaning.specs.Statements.{one, is_down, step_of, statements_of, else_statements, row_statements}

module _ (s : Scope) (w inner : Walk) where
  pub block-statements : (begin end : At) (t : g.Statement) (more : g.Row) (all mid new : List Statement)
      → inner ≡ after s w t → mid ≡ all ++ statements_of s w t
      → new ≡ mid ++ row_statements s inner more → new ≡ all ++ statements_of s w (g.block begin t more end)
  block-statements begin end t more all mid new e f h =
      h
      ∙ ap (λ (x : Walk). mid ++ row_statements s x more) e
      ∙ ap (λ (l : List Statement). l ++ row_statements s (after s w t) more) f
      ∙ append_assoc all (statements_of s w t) (row_statements s (after s w t) more)

  pub if-statements : (head then_at : At) (test : g.Expr) (t : g.Statement) (o : g.Otherwise)
      (all first second new : List Statement) → inner ≡ after s (next_walk w) t
      → first ≡ statements_of s (next_walk w) t → second ≡ else_statements s inner o
      → new ≡ all ++ one w head (what.If (cond_of_expr s test) first second)
      → new ≡ all ++ statements_of s w (g.if_then head test then_at t o)
  if-statements head then_at test t o all first second new e f h k =
      k
      ∙ ap (λ (l : List Statement). all ++ one w head (what.If (cond_of_expr s test) l second)) f
      ∙ ap (λ (l : List Statement). all ++ one w head
      (what.If (cond_of_expr s test) (statements_of s (next_walk w) t) l))
      (h ∙ ap (λ (x : Walk). else_statements s x o) e)

  pub for-statements : (head at set_at do_at : At) (name : List ℕ) (from : g.Expr) (direction : g.Direction)
      (to : g.Expr) (step : g.Step) (t : g.Statement)
      (all body new : List Statement) → inner ≡ after s (next_walk (next_walk w)) t
      → body ≡ statements_of s (next_walk (next_walk w)) t
      → new ≡ all ++ one w head (what.For (variable_by (meaning_of s name)) (value_of_expr s from) (value_of_expr s to)
      (is_down direction) (step_of s step) body inner.number)
      → new ≡ all ++ statements_of s w (g.for_do head at name set_at from direction to step do_at t)
  for-statements head at set_at do_at name from direction to step t all body new e f h =
      h
      ∙ ap (λ (l : List Statement). all ++ one w head
      (what.For (variable_by (meaning_of s name)) (value_of_expr s from) (value_of_expr s to) (is_down direction)
      (step_of s step) l inner.number)) f
      ∙ ap (λ (x : Walk). all ++ one w head (what.For (variable_by (meaning_of s name)) (value_of_expr s from)
      (value_of_expr s to) (is_down direction) (step_of s step)
      (statements_of s (next_walk (next_walk w)) t) x.number)) e

  pub do-statements : (head at : At) (t : g.Statement) (test : g.Expr) (all body new : List Statement)
      → inner ≡ after s (inside_do w) t → body ≡ statements_of s (inside_do w) t
      → new ≡ all ++ one inner at (what.DoUntil body (cond_of_expr s test))
      → new ≡ all ++ statements_of s w (g.do_until head t at test)
  do-statements head at t test all body new e f h =
      h
      ∙ ap (λ (l : List Statement). all ++ one inner at (what.DoUntil l (cond_of_expr s test))) f
      ∙ ap (λ (x : Walk). all ++ one x at (what.DoUntil (statements_of s (inside_do w) t) (cond_of_expr s test))) e

pub texts_append : (first second : List Named) → texts_of (first ++ second) ≡ texts_of first ++ texts_of second
texts_append [] second = refl
texts_append (n ∷ ns) second = ap (λ (l : List (List ℕ)). n.name ∷ l) (texts_append ns second)

-- the program of a text by its tables
pub program-is : (lines : g.Lines) (ps rest : g.Procedures) (finish : At) (items : List Item) (main : Option ℕ)
    (globals files : Declarations) (uses : List FileUse) (p : Program)
    → items ≡ (with_lines nothing_declared lines).items → main ≡ (headed_text lines ps).main
    → globals ≡ (headed_text lines ps).names
    → files ≡ (files_by (headed_text lines ps) ps).names → uses ≡ (files_by (headed_text lines ps) ps).uses → rest ≡ ps
    → p ≡ program_by items main globals (record { names = files; uses = uses }) rest
    → p ≡ tree_of (g.text lines ps finish)
program-is lines ps rest finish items main globals files uses p a b d e f h k = rw (k, a, b, d, e, f, h) refl
