-- While the statements of a text compute what they do no more wait than the levels allow.
use Rattle.std.proofs.Common.{◌≤◌, ℕ, zero, ◌+◌, suc, List, [], ◌∷◌, arith, slice_get, Option, Some, None}
use Rattle.tal_syntax.specs.Grammar as g
use Rattle.tal_syntax.specs.Expected.{AllAtMost}
use Rattle.tal_syntax.specs.Nesting.{nest_expr, nest_argument, nest_further, nest_arguments, nest_values, nest_answer}
use Rattle.tal_syntax.specs.Nesting.{nest_step, nest_statement, nest_otherwise, nest_row}
use Rattle.tal_tree.specs.declared.expression.Spot.{Spot}
use Rattle.tal_tree.specs.declared.statement.Statement.{Statement}
use Rattle.tal_tree.specs.declared.statement.What.{What, What-F}
use Rattle.tal_tree.specs.declared.statement.What.TheVariants as what
use Rattle.tal_tree.specs.declared.statement.What.TheViews.{rolls-Assign, rolls-AssignCall, rolls-If, rolls-While}
use Rattle.tal_tree.specs.declared.statement.What.TheViews.{rolls-For, rolls-DoUntil, rolls-Call, rolls-Return}
use Rattle.tal_tree.specs.declared.statement.What.TheViews.{rolls-ReadUpdate, rolls-Reply, rolls-WriteRead}
use Rattle.tal_tree.specs.declared.statement.What.TheViews.{rolls-Checkpoint, rolls-CheckMonitor, rolls-Open}
use Rattle.tal_tree.specs.declared.statement.What.TheViews.{rolls-Stop}
use Rattle.tal_names.specs.declared.meaning.Meaning.{Meaning}
use Rattle.tal_names.specs.declared.meaning.Meaning.TheVariants as m
use Rattle.tal_names.specs.declared.scope.Scope.{Scope}
use Rattle.tal_names.specs.declared.system.System.{System}
use Rattle.tal_names.specs.declared.system.System.TheVariants as system
use Rattle.tal_names.specs.Places.{first_of_spot, name_of_expr, arguments_of, further_arguments}
use Rattle.tal_names.specs.Scopes.{meaning_of}
use Rattle.tal_names.specs.Systems.{system_of}
use Rattle.tal_pieces.specs.tal_rules.specs.declared.walk.Walk.{Walk}
use Rattle.tal_pieces.specs.tal_rules.specs.Statements.{next_walk, inside_do, after}
use Rattle.tal_pieces.specs.tal_meaning.specs.Calls.{value_of_argument, procedure_by, meaning_by, call_what, item_by}
use Rattle.tal_pieces.specs.tal_meaning.specs.Calls.{file_by, value_at}
use Rattle.tal_pieces.specs.tal_meaning.specs.Calls.{meaning_at, variable_by, items_named, files_named, values_of}
use Rattle.tal_pieces.specs.tal_meaning.specs.Calls.{values_of_arguments}
use Rattle.tal_pieces.specs.tal_meaning.specs.Calls.{system_what}
use Rattle.tal_pieces.specs.tal_meaning.specs.Expressions.{value_of_expr, cond_of_expr, target_of_spot}
use Rattle.tal_pieces.specs.tal_meaning.specs.Programs.{body_statements}
use Rattle.tal_pieces.specs.tal_meaning.specs.Statements.{answer_of, assign_by, is_down, step_of, statements_of}
use Rattle.tal_pieces.specs.tal_meaning.specs.Statements.{else_statements}
use Rattle.tal_pieces.specs.tal_meaning.specs.Statements.{row_statements}
use Rattle.tal_pieces.proofs.Standing.LevelsAfter.{after_step}
use Rattle.tal_laws.proofs.Everywhere.{Everywhere, everywhere_append, among_append, everywhere_one}
use Rattle.tal_code.specs.Waiting.{waiting_of, waiting_of_spot, waiting_of_all, waiting_of_answer, waiting_at}
use Rattle.code_room.proofs.Layers.{for-more}
use Rattle.code_room.proofs.Values.{few_expr, few_aim, few_test}

module _ (most : ℕ) where
  -- two for each level and four more: the two sides of a relation within AND within OR
  abbrev pub IsFew : ℕ → Type 0
  IsFew waiting = waiting ≤ most + most + 4

  abbrev pub WaitsFew : What-F What Statement → Type 0
  WaitsFew layer = IsFew (waiting_at layer)

  -- at these statements, and at those that stand in them
  abbrev pub WaitFew : List Statement → Type 0
  WaitFew xs = Everywhere WaitsFew xs

module _ (s : Scope) (most : ℕ) where
  -- while any of these arguments is computed
  abbrev FewAtAll : List g.Argument → Type 0
  FewAtAll [] = Unit {0}
  FewAtAll (a ∷ rest) = IsFew most (waiting_of (value_of_argument s a)) × FewAtAll rest

  argument_few : (a : g.Argument) (n : ℕ) (ls : List ℕ) → AllAtMost most (nest_argument n a ls)
      → IsFew most (waiting_of (value_of_argument s a)) × AllAtMost most ls
  argument_few (g.value e) n ls h = let r = few_expr s most e n ls h in (omega (arith, r.0), r.1)
  argument_few (g.receive at) n ls h = (omega arith, h.1)
  argument_few (g.process at name) n ls h = (omega arith, h.1)
  argument_few (g.quoted at) n ls h = (omega arith, h.1)

  further_few : (x : g.Further) (n : ℕ) (ls : List ℕ) → AllAtMost most (nest_further n x ls)
      → FewAtAll (further_arguments x) × AllAtMost most ls
  further_few g.no_further n ls h = (tt, h)
  further_few (g.more_further comma a rest) n ls h =
      let first = argument_few a n (nest_further n rest ls) h.1 in
      let more = further_few rest n ls first.1 in
      ((first.0, more.0), more.1)

  arguments_few : (x : g.Arguments) (n : ℕ) (ls : List ℕ) → AllAtMost most (nest_arguments n x ls)
      → FewAtAll (arguments_of x) × AllAtMost most ls
  arguments_few g.unlisted n ls h = (tt, h)
  arguments_few (g.listed start first more close) n ls h =
      let front = argument_few first (suc n) (nest_further (suc n) more (suc n ∷ ls)) h.1 in
      let rest = further_few more (suc n) (suc n ∷ ls) front.1 in
      ((front.0, rest.0), rest.1.1)

  at_few : (arguments : List g.Argument) → FewAtAll arguments → (k : ℕ)
      → IsFew most (waiting_of (value_at s (slice_get arguments k)))
  at_few [] all k = omega arith
  at_few (a ∷ rest) all zero = all.0
  at_few (a ∷ rest) all (suc k) = at_few rest all.1 k

  all_few : (arguments : List g.Argument) → FewAtAll arguments
      → IsFew most (waiting_of_all (values_of_arguments s arguments))
  all_few [] all = omega arith
  all_few (a ∷ rest) all = omega (arith, all.0, all_few rest all.1)

  values_few : (x : g.Values) (n : ℕ) (ls : List ℕ) → AllAtMost most (nest_values n x ls)
      → IsFew most (waiting_of_all (values_of s x)) × AllAtMost most ls
  values_few g.no_values n ls h = (omega arith, h)
  values_few (g.more_values comma e rest) n ls h =
      let first = few_expr s most e n (nest_values n rest ls) h.1 in
      let more = values_few rest n ls first.1 in
      (omega (arith, first.0, more.0), more.1)

  answer_few : (a : g.Answer) (n : ℕ) (ls : List ℕ) → AllAtMost most (nest_answer n a ls)
      → IsFew most (waiting_of_answer (answer_of s a)) × AllAtMost most ls
  answer_few g.no_answer n ls h = (omega arith, h)
  answer_few (g.answer e) n ls h = let r = few_expr s most e n ls h in (omega (arith, r.0), r.1)

  module _ (number line : ℕ) where
    abbrev Lone : What → Type 0
    Lone it = WaitFew most (record { number = number; line = line; what = it } ∷ [])

    assigned : (target : g.Spot) (e : g.Expr) (found : Option Meaning)
        → IsFew most (waiting_of_spot (target_of_spot s target)) → IsFew most (waiting_of (value_of_expr s e))
        → Lone (assign_by s target e found)
    assigned target e (Some (m.Procedure k gives parameters)) aim few =
        everywhere_one (WaitsFew most) number line (what.AssignCall (target_of_spot s target) k [])
        (What-F.AssignCall (target_of_spot s target) k [])
        (rolls-AssignCall (target_of_spot s target) k []) (omega (arith, aim)) (λ x none. absurd none)
    assigned target e None aim few =
        everywhere_one (WaitsFew most) number line (what.Assign (target_of_spot s target) (value_of_expr s e))
        (What-F.Assign (target_of_spot s target) (value_of_expr s e))
        (rolls-Assign (target_of_spot s target) (value_of_expr s e)) (omega (arith, aim, few)) (λ x none. absurd none)
    assigned target e (Some other) aim few =
        everywhere_one (WaitsFew most) number line (what.Assign (target_of_spot s target) (value_of_expr s e))
        (What-F.Assign (target_of_spot s target) (value_of_expr s e))
        (rolls-Assign (target_of_spot s target) (value_of_expr s e)) (omega (arith, aim, few)) (λ x none. absurd none)

    system_few : (arguments : List g.Argument) (x : System) → FewAtAll arguments → Lone (system_what s arguments x)
    system_few arguments system.CheckMonitor all =
        everywhere_one (WaitsFew most) number line what.CheckMonitor What-F.CheckMonitor rolls-CheckMonitor
        (omega arith) (λ x none. absurd none)
    system_few arguments system.Checkpoint all =
        let items = items_named s arguments in
        let files = files_named s arguments in
        everywhere_one (WaitsFew most) number line (what.Checkpoint items files) (What-F.Checkpoint items files)
        (rolls-Checkpoint items files) (omega arith) (λ x none. absurd none)
    system_few arguments system.Open all =
        let file = file_by (meaning_at s (slice_get arguments 1)) in
        everywhere_one (WaitsFew most) number line (what.Open file) (What-F.Open file) (rolls-Open file) (omega arith)
        (λ x none. absurd none)
    system_few arguments system.ReadUpdate all =
        let buffer = item_by (meaning_at s (slice_get arguments 1)) in
        let top = value_at s (slice_get arguments 2) in
        let got = variable_by (meaning_at s (slice_get arguments 3)) in
        everywhere_one (WaitsFew most) number line (what.ReadUpdate buffer top got) (What-F.ReadUpdate buffer top got)
        (rolls-ReadUpdate buffer top got)
        (at_few arguments all 2) (λ x none. absurd none)
    system_few arguments system.Reply all =
        let buffer = item_by (meaning_at s (slice_get arguments 0)) in
        let count = value_at s (slice_get arguments 1) in
        everywhere_one (WaitsFew most) number line (what.Reply buffer count) (What-F.Reply buffer count)
        (rolls-Reply buffer count) (at_few arguments all 1) (λ x none. absurd none)
    system_few arguments system.Stop all = everywhere_one (WaitsFew most) number line what.Stop What-F.Stop rolls-Stop
        (omega arith) (λ x none. absurd none)
    system_few arguments system.WriteRead all =
        let file = file_by (meaning_at s (slice_get arguments 0)) in
        let buffer = item_by (meaning_at s (slice_get arguments 1)) in
        let send = value_at s (slice_get arguments 2) in
        let room = value_at s (slice_get arguments 3) in
        let got = variable_by (meaning_at s (slice_get arguments 4)) in
        everywhere_one (WaitsFew most) number line (what.WriteRead file buffer send room got)
        (What-F.WriteRead file buffer send room got) (rolls-WriteRead file buffer send room got)
        (omega (arith, at_few arguments all 2, at_few arguments all 3)) (λ x none. absurd none)

    called_few : (name : List ℕ) (arguments : List g.Argument) (found : Option System) → FewAtAll arguments
        → Lone (call_what s name arguments found)
    called_few name arguments (Some x) all = system_few arguments x all
    called_few name arguments None all =
        let values = values_of_arguments s arguments in
        everywhere_one (WaitsFew most) number line (what.Call (procedure_by (meaning_of s name)) values)
        (What-F.Call (procedure_by (meaning_of s name)) values)
        (rolls-Call (procedure_by (meaning_of s name)) values) (all_few arguments all) (λ x none. absurd none)

  mutual
    statement_few : (w : Walk) (x : g.Statement) (n : ℕ) (ls : List ℕ) → AllAtMost most (nest_statement n x ls)
        → WaitFew most (statements_of s w x) × AllAtMost most ls
    statement_few w g.nothing n ls h = ((λ x none. absurd none), h)
    statement_few w (g.block begin first more end) n ls h =
        let front = statement_few w first (suc n) (nest_row (suc n) more (suc n ∷ ls)) h.1 in
        let rest = row_few (after s w first) more (suc n) (suc n ∷ ls) front.1 in (
          everywhere_append (WaitsFew most) (statements_of s w first) (row_statements s (after s w first) more) front.0
              rest.0,
          rest.1.1,
        )
    statement_few w (g.if_then head test then_at t o) n ls h =
        let xs = statements_of s (next_walk w) t in
        let ys = else_statements s (after s (next_walk w) t) o in
        let c = cond_of_expr s test in
        let own = few_test s most test (suc n) (suc n ∷ nest_statement (suc n) t (nest_otherwise (suc n) o ls)) h.1 in
        let front = statement_few (next_walk w) t (suc n) (nest_otherwise (suc n) o ls) own.1.1 in
        let rest = else_few (after s (next_walk w) t) o (suc n) ls front.1 in (
          everywhere_one (WaitsFew most) w.number head.place.line (what.If c xs ys) (What-F.If c xs ys)
              (rolls-If c xs ys) (omega (arith, own.0))
              (among_append (WaitsFew most) _ _ front.0 rest.0),
          rest.1,
        )
    statement_few w (g.while_do head test do_at t) n ls h =
        let xs = statements_of s (next_walk w) t in
        let c = cond_of_expr s test in
        let own = few_test s most test (suc n) (suc n ∷ nest_statement (suc n) t ls) h.1 in
        let rest = statement_few (next_walk w) t (suc n) ls own.1.1 in (
          everywhere_one (WaitsFew most) w.number head.place.line (what.While c xs) (What-F.While c xs)
              (rolls-While c xs) (omega (arith, own.0)) rest.0,
          rest.1,
        )
    statement_few w (g.for_do head at name set_at from direction to step do_at t) n ls h =
        let xs = statements_of s (next_walk (next_walk w)) t in
        let last = (after s (next_walk (next_walk w)) t).number in
        let variable = variable_by (meaning_of s name) in
        let low = value_of_expr s from in
        let high = value_of_expr s to in
        let down = is_down direction in
        let by = step_of s step in
        let body = suc n ∷ nest_statement (suc n) t ls in
        let first = few_expr s most from (suc n) (suc n ∷ nest_expr (suc n) to (nest_step (suc n) step body)) h.1.1.1 in
        let second = few_expr s most to (suc n) (nest_step (suc n) step body) first.1.1 in
        let rest = statement_few (next_walk (next_walk w)) t (suc n) ls
        (after_step s most step (suc n) body second.1).1 in (
          everywhere_one (WaitsFew most) w.number head.place.line (what.For variable low high down by xs last)
              (What-F.For variable low high down by xs last) (rolls-For variable low high down by xs last)
              (omega (arith, first.0, second.0, (for-more high).1)) rest.0,
          rest.1,
        )
    statement_few w (g.do_until head t at test) n ls h =
        let xs = statements_of s (inside_do w) t in
        let c = cond_of_expr s test in
        let body = statement_few (inside_do w) t (suc n) (suc n ∷ nest_expr (suc n) test ls) h.1 in
        let own = few_test s most test (suc n) ls body.1.1 in (
          everywhere_one (WaitsFew most) (after s (inside_do w) t).number at.place.line (what.DoUntil xs c)
              (What-F.DoUntil xs c) (rolls-DoUntil xs c) (omega (arith, own.0)) body.0,
          own.1,
        )
    statement_few w (g.call head at name a) n ls h =
        let r = arguments_few a (suc n) ls h.1.1 in
        (called_few w.number head.place.line name (arguments_of a) (system_of name) r.0, r.1)
    statement_few w (g.return head a) n ls h =
        let r = answer_few a (suc n) ls h.1 in (
          everywhere_one (WaitsFew most) w.number head.place.line (what.Return (answer_of s a))
              (What-F.Return (answer_of s a)) (rolls-Return (answer_of s a)) r.0
              (λ x none. absurd none),
          r.1,
        )
    statement_few w (g.assign target at e) n ls h =
        let aim = few_aim s most target (suc n) (suc n ∷ nest_expr (suc n) e ls) h in
        let own = few_expr s most e (suc n) ls aim.1.1 in (
          assigned w.number (first_of_spot target).place.line target e (meaning_by s (name_of_expr e))
              (omega (arith, aim.0)) (omega (arith, own.0)),
          own.1,
        )
    statement_few w (g.assign_call target at name_at name start first more close) n ls h =
        let to : Spot = target_of_spot s target in
        let k = procedure_by (meaning_of s name) in
        let values = value_of_expr s first ∷ values_of s more in
        let aim = few_aim s most target (suc n)
        (suc n ∷ suc n ∷ suc (suc n) ∷ nest_expr (suc (suc n)) first
        (nest_values (suc (suc n)) more (suc (suc n) ∷ ls))) h in
        let front = few_expr s most first (suc (suc n)) (nest_values (suc (suc n)) more (suc (suc n) ∷ ls))
        aim.1.1.1.1 in
        let rest = values_few more (suc (suc n)) (suc (suc n) ∷ ls) front.1 in (
          everywhere_one (WaitsFew most) w.number (first_of_spot target).place.line (what.AssignCall to k values)
              (What-F.AssignCall to k values) (rolls-AssignCall to k values)
              (omega (arith, aim.0, front.0, rest.0)) (λ x none. absurd none),
          rest.1.1,
        )

    else_few : (w : Walk) (x : g.Otherwise) (n : ℕ) (ls : List ℕ) → AllAtMost most (nest_otherwise n x ls)
        → WaitFew most (else_statements s w x) × AllAtMost most ls
    else_few w g.no_else n ls h = ((λ x none. absurd none), h)
    else_few w (g.otherwise at t) n ls h = statement_few w t n ls h.1

    row_few : (w : Walk) (x : g.Row) (n : ℕ) (ls : List ℕ) → AllAtMost most (nest_row n x ls)
        → WaitFew most (row_statements s w x) × AllAtMost most ls
    row_few w g.no_row n ls h = ((λ x none. absurd none), h)
    row_few w (g.more_row semicolon t rest) n ls h =
        let front = statement_few w t n (nest_row n rest ls) h.1 in
        let more = row_few (after s w t) rest n ls front.1 in (
          everywhere_append (WaitsFew most) (statements_of s w t) (row_statements s (after s w t) rest) front.0 more.0,
          more.1,
        )

  -- the statements of a procedure
  pub body_few : (w : Walk) (first : g.Statement) (more : g.Row) (n : ℕ) (ls : List ℕ)
      → AllAtMost most (nest_statement n first (nest_row n more ls))
      → WaitFew most (body_statements s w first more) × AllAtMost most ls
  body_few w first more n ls h =
      let front = statement_few w first n (nest_row n more ls) h in
      let rest = row_few (after s w first) more n ls front.1 in (
        everywhere_append (WaitsFew most) (statements_of s w first) (row_statements s (after s w first) more) front.0
            rest.0,
        rest.1,
      )
