-- The machine takes the tokens of each statement in which an ELSE belongs to the nearest IF, and its open levels are
-- their levels.
use Rattle.std.proofs.Common.{◌≡◌, ℕ, suc, Bool, true, false, List, ◌∷◌, refl, ap, ◌∙◌}
use Rattle.tal_tokens.specs.declared.token.At.{At}
use Rattle.tal_tokens.specs.declared.token.Token.{Token}
use Rattle.tal_tokens.specs.declared.token.Token.TheVariants as tok
use Rattle.tal_syntax.specs.Grammar as g
use Rattle.tal_syntax.specs.Nesting.{nest_expr, nest_index, nest_arguments, nest_values, nest_answer, nest_step}
use Rattle.tal_syntax.specs.Nesting.{nest_statement, nest_otherwise, nest_row}
use Rattle.tal_recogniser.specs.declared.symbol.Symbol.TheVariants as sym
use Rattle.tal_recogniser.specs.ExpressionTable.{Stack}
use Rattle.tal_recogniser.specs.StatementTable.{statement_step, else_step, step_step}
use Rattle.tal_recogniser.specs.Machine.{open_levels, over, trace}
use Rattle.tal_recogniser.proofs.Steps.{Leaves, LeavesOpen, QuitsExpr, QuitsStatement, QuitsRow, gives_way, level-ends}
use Rattle.tal_recogniser.proofs.CompleteDeclarations.{complete-constant}
use Rattle.tal_recogniser.proofs.CompleteExpressions.{complete-expr, complete-index}
use Rattle.tal_recogniser.proofs.CompleteArguments.{complete-right, complete-answer, complete-arguments}
use Rattle.tal_recogniser.proofs.CompleteArguments.{complete-values, quits-values}

pub quits-end : (at : At) (ks : List Token) → QuitsRow (tok.End at ∷ ks)
quits-end at ks = (((((((((refl, refl), refl), refl), refl), refl), refl), refl), (refl, refl)), (refl, refl))

quits-until : (at : At) (ks : List Token) → QuitsStatement (tok.Until at ∷ ks)
quits-until at ks = ((((((((refl, refl), refl), refl), refl), refl), refl), refl), (refl, refl))

quits-step : (s : g.Step) (at : At) (ks : List Token) → QuitsExpr (g.of_step s (tok.Do at ∷ ks))
quits-step g.step_one at ks = (((((refl, refl), refl), refl), refl), refl)
quits-step (g.step_by by c) at ks = (((((refl, refl), refl), refl), refl), refl)

complete-step : (s : g.Step) (ss : Stack) (ks : List Token) → Leaves step_step ks
    → trace (sym.StepTail ∷ ss) (g.of_step s ks) ≡ over (nest_step (open_levels ss) s) (trace ss ks)
complete-step g.step_one ss ks q = gives_way sym.StepTail ss ks q refl
complete-step (g.step_by at c) ss ks q = ap (over (λ ls. open_levels ss ∷ ls)) (complete-constant c ss ks)

complete-direction : (d : g.Direction) (ss : Stack) (ks : List Token)
    → trace (sym.Direction ∷ ss) (g.of_direction d ∷ ks) ≡ over (λ ls. open_levels ss ∷ ls) (trace ss ks)
complete-direction (g.up at) ss ks = refl
complete-direction (g.down at) ss ks = refl

quits-direction : (d : g.Direction) (ks : List Token) → QuitsExpr (g.of_direction d ∷ ks)
quits-direction (g.up at) ks = (((((refl, refl), refl), refl), refl), refl)
quits-direction (g.down at) ks = (((((refl, refl), refl), refl), refl), refl)

quits-otherwise : (o : g.Otherwise) (ks : List Token) → QuitsStatement ks → QuitsStatement (g.of_otherwise o ks)
quits-otherwise g.no_else ks q = q
quits-otherwise (g.otherwise at s) ks q = ((((((((refl, refl), refl), refl), refl), refl), refl), refl), (refl, refl))

pub quits-row : (r : g.Row) (ks : List Token) → QuitsRow ks → QuitsStatement (g.of_row r ks)
quits-row g.no_row ks q = q.0
quits-row (g.more_row semicolon s rest) ks q =
    ((((((((refl, refl), refl), refl), refl), refl), refl), refl), (refl, refl))

opened : (b : Bool) (ks : List Token) → Leaves else_step ks → LeavesOpen b ks
opened true ks q = q
opened false ks q = tt

pub opened-row : (b : Bool) (r : g.Row) (ks : List Token) → QuitsRow ks → LeavesOpen b (g.of_row r ks)
opened-row b g.no_row ks q = opened b ks q.1.1
opened-row b (g.more_row semicolon s rest) ks q = opened b (g.of_row (g.more_row semicolon s rest) ks) refl

-- no IF is open before an ELSE
opened-else : (s : g.Statement) (o : g.Otherwise) (ks : List Token) → g.IsNearestElse s o
    → LeavesOpen (g.is_open_else o) ks → LeavesOpen (g.is_open s) (g.of_otherwise o ks)
opened-else s g.no_else ks n q = opened (g.is_open s) ks q
opened-else s (g.otherwise at t) ks n q = rw n.0 tt

twice : (ss : Stack) (ks : List Token) → Leaves statement_step ks
    → trace (sym.LevelEnd ∷ sym.LevelEnd ∷ ss) ks ≡ trace ss ks
twice ss ks q = level-ends statement_step (sym.LevelEnd ∷ ss) ks q ∙ level-ends statement_step ss ks q

mutual
  pub complete-statement : (s : g.Statement) (ss : Stack) (ks : List Token) → g.IsNearest s → QuitsStatement ks
      → LeavesOpen (g.is_open s) ks
      → trace (sym.Statement ∷ ss) (g.of_statement s ks) ≡ over (nest_statement (open_levels ss) s) (trace ss ks)
  complete-statement g.nothing ss ks n q o = gives_way sym.Statement ss ks q.0.1 refl
  complete-statement (g.block begin first more end) ss ks n q o =
      let m : ℕ = suc (open_levels ss) in
      ap (over (λ ls. m ∷ ls))
      (complete-statement first (sym.RowTail ∷ sym.WantEnd ∷ sym.LevelEnd ∷ ss) (g.of_row more (tok.End end ∷ ks)) n.0
      (quits-row more (tok.End end ∷ ks) (quits-end end ks))
      (opened-row (g.is_open first) more (tok.End end ∷ ks) (quits-end end ks))
      ∙ ap (over (nest_statement m first)) (complete-row more (sym.WantEnd ∷ sym.LevelEnd ∷ ss) (tok.End end ∷ ks) n.1
      (quits-end end ks)))
      ∙ ap (over (λ ls. m ∷ nest_statement m first (nest_row m more (m ∷ ls)))) (level-ends statement_step ss ks q.0.1)
  complete-statement (g.if_then head test then_at s e) ss ks n q o =
      let m : ℕ = suc (open_levels ss) in
      ap (over (λ ls. m ∷ ls))
      (complete-expr test (sym.WantThen ∷ sym.Statement ∷ sym.ElseTail ∷ sym.LevelEnd ∷ ss)
      (tok.Then then_at ∷ g.of_statement s (g.of_otherwise e ks)) (((((refl, refl), refl), refl), refl), refl)
      ∙ ap (over (λ ls. nest_expr m test (m ∷ ls)))
      (complete-statement s (sym.ElseTail ∷ sym.LevelEnd ∷ ss) (g.of_otherwise e ks) n.0 (quits-otherwise e ks q)
      (opened-else s e ks n.1 o)
      ∙ ap (over (nest_statement m s)) (complete-otherwise s e (sym.LevelEnd ∷ ss) ks n.1 q o)))
      ∙ ap (over (λ ls. m ∷ nest_expr m test (m ∷ nest_statement m s (nest_otherwise m e ls))))
      (level-ends statement_step ss ks q.0.1)
  complete-statement (g.while_do head test do_at s) ss ks n q o =
      let m : ℕ = suc (open_levels ss) in
      ap (over (λ ls. m ∷ ls))
      (complete-expr test (sym.WantDo ∷ sym.Statement ∷ sym.LevelEnd ∷ ss) (tok.Do do_at ∷ g.of_statement s ks)
      (((((refl, refl), refl), refl), refl), refl)
      ∙ ap (over (λ ls. nest_expr m test (m ∷ ls))) (complete-statement s (sym.LevelEnd ∷ ss) ks n q o))
      ∙ ap (over (λ ls. m ∷ nest_expr m test (m ∷ nest_statement m s ls))) (level-ends statement_step ss ks q.0.1)
  complete-statement (g.for_do head at name set_at from direction to step do_at s) ss ks n q o =
      let m : ℕ = suc (open_levels ss) in
      let body : List Token = tok.Do do_at ∷ g.of_statement s ks in
      let last : Stack = sym.WantDo ∷ sym.Statement ∷ sym.LevelEnd ∷ ss in
      let limit : Stack = sym.Neg ∷ sym.AndTail ∷ sym.OrTail ∷ sym.StepTail ∷ last in
      ap (over (λ ls. m ∷ m ∷ m ∷ ls))
      (complete-expr from (sym.Direction ∷ limit) (g.of_direction direction ∷ g.of_expr to (g.of_step step body))
      (quits-direction direction (g.of_expr to (g.of_step step body)))
      ∙ ap (over (nest_expr m from)) (complete-direction direction limit (g.of_expr to (g.of_step step body))
      ∙ ap (over (λ ls. m ∷ ls))
      (complete-expr to (sym.StepTail ∷ last) (g.of_step step body) (quits-step step do_at (g.of_statement s ks))
      ∙ ap (over (nest_expr m to)) (complete-step step last body refl
      ∙ ap (over (λ ls. nest_step m step (m ∷ ls))) (complete-statement s (sym.LevelEnd ∷ ss) ks n q o)))))
      ∙ ap (over (λ ls. m ∷ m ∷ m ∷ nest_expr m from
      (m ∷ nest_expr m to (nest_step m step (m ∷ nest_statement m s ls))))) (level-ends statement_step ss ks q.0.1)
  complete-statement (g.do_until head s at test) ss ks n q o =
      let m : ℕ = suc (open_levels ss) in
      ap (over (λ ls. m ∷ ls))
      (complete-statement s (sym.WantUntil ∷ sym.Neg ∷ sym.AndTail ∷ sym.OrTail ∷ sym.LevelEnd ∷ ss)
      (tok.Until at ∷ g.of_expr test ks) n (quits-until at (g.of_expr test ks))
      (opened (g.is_open s) (tok.Until at ∷ g.of_expr test ks) refl)
      ∙ ap (over (λ ls. nest_statement m s (m ∷ ls))) (complete-expr test (sym.LevelEnd ∷ ss) ks q.0.0.0))
      ∙ ap (over (λ ls. m ∷ nest_statement m s (m ∷ nest_expr m test ls))) (level-ends statement_step ss ks q.0.1)
  complete-statement (g.call head at name a) ss ks n q o =
      let m : ℕ = suc (open_levels ss) in
      ap (over (λ ls. m ∷ m ∷ ls)) (complete-arguments a (sym.LevelEnd ∷ ss) ks q.1.0)
      ∙ ap (over (λ ls. m ∷ m ∷ nest_arguments m a ls)) (level-ends statement_step ss ks q.0.1)
  complete-statement (g.return head a) ss ks n q o =
      let m : ℕ = suc (open_levels ss) in
      ap (over (λ ls. m ∷ ls)) (complete-answer a (sym.LevelEnd ∷ ss) ks q.0.0.0 q.1.1)
      ∙ ap (over (λ ls. m ∷ nest_answer m a ls)) (level-ends statement_step ss ks q.0.1)
  complete-statement (g.assign (g.spot at name i) set_at e) ss ks n q o =
      let m : ℕ = suc (open_levels ss) in
      ap (over (λ ls. m ∷ ls))
      (complete-index i (sym.WantAssign ∷ sym.Right ∷ sym.LevelEnd ∷ ss) (tok.Assign set_at ∷ g.of_expr e ks) refl
      ∙ ap (over (λ ls. nest_index m i (m ∷ ls))) (complete-right e (sym.LevelEnd ∷ ss) ks q.0.0))
      ∙ ap (over (λ ls. m ∷ nest_index m i (m ∷ nest_expr m e ls))) (level-ends statement_step ss ks q.0.1)
  complete-statement (g.assign_call (g.spot at name i) set_at name_at callee start first more close) ss ks n q o =
      let m : ℕ = suc (open_levels ss) in
      let shut : QuitsExpr (tok.Close close ∷ ks) = (((((refl, refl), refl), refl), refl), refl) in
      ap (over (λ ls. m ∷ ls))
      (complete-index i (sym.WantAssign ∷ sym.Right ∷ sym.LevelEnd ∷ ss)
      (tok.Assign set_at ∷ tok.Name name_at callee ∷ tok.Open start
      ∷ g.of_expr first (g.of_values more (tok.Close close ∷ ks))) refl
      ∙ ap (over (λ ls. nest_index m i (m ∷ m ∷ suc m ∷ ls)))
      (complete-expr first (sym.ValuesTail ∷ sym.WantClose ∷ sym.LevelEnd ∷ sym.LevelEnd ∷ ss)
      (g.of_values more (tok.Close close ∷ ks)) (quits-values more (tok.Close close ∷ ks) shut)
      ∙ ap (over (nest_expr (suc m) first)) (complete-values more (sym.WantClose ∷ sym.LevelEnd ∷ sym.LevelEnd ∷ ss)
      (tok.Close close ∷ ks) shut refl)))
      ∙ ap (over (λ ls. m ∷ nest_index m i (m ∷ m ∷ suc m
      ∷ nest_expr (suc m) first (nest_values (suc m) more (suc m ∷ ls)))))
      (twice ss ks q.0.1)

  complete-otherwise : (s : g.Statement) (o : g.Otherwise) (ss : Stack) (ks : List Token) → g.IsNearestElse s o
      → QuitsStatement ks → LeavesOpen (g.is_open_else o) ks
      → trace (sym.ElseTail ∷ ss) (g.of_otherwise o ks) ≡ over (nest_otherwise (open_levels ss) o) (trace ss ks)
  complete-otherwise s g.no_else ss ks n q o = gives_way sym.ElseTail ss ks o refl
  complete-otherwise s (g.otherwise at t) ss ks n q o =
      ap (over (λ ls. open_levels ss ∷ ls)) (complete-statement t ss ks n.1 q o)

  pub complete-row : (r : g.Row) (ss : Stack) (ks : List Token) → g.IsNearestRow r → QuitsRow ks
      → trace (sym.RowTail ∷ ss) (g.of_row r ks) ≡ over (nest_row (open_levels ss) r) (trace ss ks)
  complete-row g.no_row ss ks n q = gives_way sym.RowTail ss ks q.1.0 refl
  complete-row (g.more_row semicolon s rest) ss ks n q =
      ap (over (λ ls. open_levels ss ∷ ls))
      (complete-statement s (sym.RowTail ∷ ss) (g.of_row rest ks) n.0 (quits-row rest ks q)
      (opened-row (g.is_open s) rest ks q)
      ∙ ap (over (nest_statement (open_levels ss) s)) (complete-row rest ss ks n.1 q))
