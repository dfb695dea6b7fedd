-- What stands after a statement, and its least fault, from those of its parts.
use Rattle.std.proofs.Common.{◌≡◌, List, Option, ℕ, refl, ap, ◌∙◌}
use Rattle.tal_syntax.specs.tal_tokens.specs.declared.token.At.{At}
use Rattle.tal_syntax.specs.Grammar as g
use Rattle.tal_names.specs.declared.fault.RuleFault.{RuleFault}
use Rattle.tal_names.specs.declared.scope.Scope.{Scope}
use Rattle.tal_rules.specs.declared.walk.Walk.{Walk}
use Rattle.tal_names.specs.Faults.{least}
use Rattle.tal_rules.specs.Statements.{next_walk, inside_do, number_faults, test_faults, for_head_faults, after}
use Rattle.tal_rules.specs.Statements.{after_else}
use Rattle.tal_rules.specs.Statements.{after_row, statement_faults, else_faults, row_faults}
use Rattle.tal_names.proofs.Parts.{least-append, two_parts, three_parts}

module _ (s : Scope) (w inner : Walk) where
  pub block-walk : (begin end : At) (t : g.Statement) (more : g.Row) → inner ≡ after s w t
      → after_row s inner more ≡ after s w (g.block begin t more end)
  block-walk begin end t more e = ap (λ (x : Walk). after_row s x more) e

  pub block-least : (begin end : At) (t : g.Statement) (more : g.Row) (so_far judged : Option RuleFault)
      → inner ≡ after s w t → judged ≡ least so_far (statement_faults s w t)
      → least judged (row_faults s inner more) ≡ least so_far (statement_faults s w (g.block begin t more end))
  block-least begin end t more so_far judged e f =
      rw (e, f, least-append so_far (statement_faults s w t) (row_faults s (after s w t) more)) refl

  pub if-walk : (head then_at : At) (test : g.Expr) (t : g.Statement) (o : g.Otherwise)
      → inner ≡ after s (next_walk w) t
      → after_else s inner o ≡ after s w (g.if_then head test then_at t o)
  if-walk head then_at test t o e = ap (λ (x : Walk). after_else s x o) e

  pub if-least : (head then_at : At) (test : g.Expr) (t : g.Statement) (o : g.Otherwise)
      (so_far tested judged : Option RuleFault) → inner ≡ after s (next_walk w) t
      → tested ≡ least so_far (test_faults s w head test) → judged ≡ least tested (statement_faults s (next_walk w) t)
      → least judged (else_faults s inner o) ≡ least so_far (statement_faults s w (g.if_then head test then_at t o))
  if-least head then_at test t o so_far tested judged e f h =
      ap (λ (x : Walk). least judged (else_faults s x o)) e
      ∙ ap (λ (l : Option RuleFault). least l (else_faults s (after s (next_walk w) t) o))
      (h ∙ ap (λ (l : Option RuleFault). least l (statement_faults s (next_walk w) t)) f)
      ∙ three_parts so_far (test_faults s w head test) (statement_faults s (next_walk w) t)
      (else_faults s (after s (next_walk w) t) o)

  pub while-least : (head do_at : At) (test : g.Expr) (t : g.Statement) (so_far tested : Option RuleFault)
      → tested ≡ least so_far (test_faults s w head test)
      → least tested (statement_faults s (next_walk w) t)
      ≡ least so_far (statement_faults s w (g.while_do head test do_at t))
  while-least head do_at test t so_far tested f =
      ap (λ (l : Option RuleFault). least l (statement_faults s (next_walk w) t)) f
      ∙ two_parts so_far (test_faults s w head test) (statement_faults s (next_walk w) t)

  pub for-least : (head at set_at do_at : At) (name : List ℕ) (from : g.Expr) (direction : g.Direction) (to : g.Expr)
      (step : g.Step) (t : g.Statement) (so_far headed judged : Option RuleFault)
      → inner ≡ after s (next_walk (next_walk w)) t → headed ≡ least so_far (for_head_faults s at name from to step)
      → judged ≡ least headed (statement_faults s (next_walk (next_walk w)) t)
      → least judged (number_faults inner.number head)
      ≡ least so_far (statement_faults s w (g.for_do head at name set_at from direction to step do_at t))
  for-least head at set_at do_at name from direction to step t so_far headed judged e f h =
      ap (λ (x : Walk). least judged (number_faults x.number head)) e
      ∙ ap (λ (l : Option RuleFault). least l (number_faults (after s (next_walk (next_walk w)) t).number head))
      (h ∙ ap (λ (l : Option RuleFault). least l (statement_faults s (next_walk (next_walk w)) t)) f)
      ∙ three_parts so_far (for_head_faults s at name from to step) (statement_faults s (next_walk (next_walk w)) t)
      (number_faults (after s (next_walk (next_walk w)) t).number head)

  pub do-least : (head at : At) (t : g.Statement) (test : g.Expr) (so_far judged : Option RuleFault)
      → inner ≡ after s (inside_do w) t → judged ≡ least so_far (statement_faults s (inside_do w) t)
      → least judged (test_faults s inner head test) ≡ least so_far (statement_faults s w (g.do_until head t at test))
  do-least head at t test so_far judged e f =
      ap (λ (x : Walk). least judged (test_faults s x head test)) e
      ∙ ap (λ (l : Option RuleFault). least l (test_faults s (after s (inside_do w) t) head test)) f
      ∙ two_parts so_far (statement_faults s (inside_do w) t) (test_faults s (after s (inside_do w) t) head test)
