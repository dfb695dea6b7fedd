-- The statements of a text without faults are regular.
use Rattle.std.proofs.Common.{◌≡◌, ℕ, ◌+◌, arith, ℤ, pos, ◌≤ℤ◌, not, ◌==◌, ◌&&◌, ◌||◌, Bool, true, false, List, [], ◌∷◌}
use Rattle.std.proofs.Common.{length}
use Rattle.std.proofs.Common.{slice_get, Option, Some, None, unwrap_or, refl, sym, ◌∙◌, eqb-true, is_some}
use Rattle.std.proofs.lemmas.Int.{ints}
use Rattle.std.proofs.lemmas.Bool.{not-false, or_parts}
use Rattle.tal_tokens.specs.declared.token.At.{At}
use Rattle.tal_syntax.specs.Grammar as g
use Rattle.tal_tree.specs.declared.expression.Expr.{Expr}
use Rattle.tal_tree.specs.declared.expression.Spot.{Spot}
use Rattle.tal_tree.specs.declared.program.Program.{Program}
use Rattle.tal_tree.specs.declared.statement.Statement.{Statement}
use Rattle.tal_tree.specs.declared.statement.What.{What, What-F}
use Rattle.tal_tree.specs.declared.statement.What.TheVariants as what
use Rattle.tal_tree.specs.declared.statement.What.TheViews.{rolls-Assign, rolls-AssignCall, rolls-If, rolls-While}
use Rattle.tal_tree.specs.declared.statement.What.TheViews.{rolls-For, rolls-DoUntil, rolls-Call, rolls-Return}
use Rattle.tal_tree.specs.declared.statement.What.TheViews.{rolls-ReadUpdate, rolls-Reply, rolls-WriteRead}
use Rattle.tal_tree.specs.declared.statement.What.TheViews.{rolls-Checkpoint, rolls-CheckMonitor, rolls-Open}
use Rattle.tal_tree.specs.declared.statement.What.TheViews.{rolls-Stop}
use Rattle.tal_names.specs.declared.fault.Rule.TheVariants.{WrongKind}
use Rattle.tal_names.specs.declared.meaning.Meaning.{Meaning}
use Rattle.tal_names.specs.declared.meaning.Meaning.TheVariants as m
use Rattle.tal_names.specs.declared.meaning.Need.TheVariants as need
use Rattle.tal_names.specs.declared.scope.Named.{Named}
use Rattle.tal_names.specs.declared.scope.Scope.{Scope}
use Rattle.tal_faultless.specs.tal_rules.specs.declared.walk.Walk.{Walk}
use Rattle.tal_names.specs.declared.system.System.{System}
use Rattle.tal_names.specs.declared.system.System.TheVariants as system
use Rattle.tal_faultless.specs.tal_rules.specs.Calls.{called_faults, arguments_faults, call_faults, count_faults}
use Rattle.tal_faultless.specs.tal_rules.specs.Calls.{values_count}
use Rattle.tal_faultless.specs.tal_rules.specs.Expressions.{spot_faults}
use Rattle.tal_names.specs.Places.{first_of_spot, name_of_expr, arguments_of}
use Rattle.tal_names.specs.Scopes.{meaning_of}
use Rattle.tal_names.specs.Systems.{system_of}
use Rattle.tal_faultless.specs.tal_rules.specs.Statements.{next_walk, inside_do, after, statement_faults, else_faults}
use Rattle.tal_faultless.specs.tal_rules.specs.Statements.{row_faults}
use Rattle.tal_faultless.specs.tal_rules.specs.Statements.{return_faults, right_by, right_named, is_below_one}
use Rattle.tal_faultless.specs.tal_rules.specs.Statements.{step_faults}
use Rattle.tal_faultless.specs.tal_rules.specs.Texts.{body_faults}
use Rattle.tal_declarations.specs.Files.{named_in}
use Rattle.tal_declarations.specs.Globals.{atom_of, constant_value, first_of_constant}
use Rattle.tal_faultless.specs.tal_meaning.specs.Calls.{procedure_by, meaning_by, call_what, item_by, file_by, value_at}
use Rattle.tal_faultless.specs.tal_meaning.specs.Calls.{meaning_at}
use Rattle.tal_faultless.specs.tal_meaning.specs.Calls.{variable_by, items_named, files_named, values_of}
use Rattle.tal_faultless.specs.tal_meaning.specs.Calls.{values_of_arguments, system_what}
use Rattle.tal_faultless.specs.tal_meaning.specs.Expressions.{value_of_expr, cond_of_expr, target_of_spot}
use Rattle.tal_faultless.specs.tal_meaning.specs.Programs.{body_statements}
use Rattle.tal_faultless.specs.tal_meaning.specs.Statements.{answer_of, assign_by, is_down, step_of, statements_of}
use Rattle.tal_faultless.specs.tal_meaning.specs.Statements.{else_statements}
use Rattle.tal_faultless.specs.tal_meaning.specs.Statements.{row_statements}
use Rattle.tal_tree.specs.Named.{IsSpotThere, AllThere}
use Rattle.tal_tree.specs.Regular.{IsCalled, IsRegularStatement}
use Rattle.tal_faultless.proofs.Common.Faultless.{no_fault, split, first_nil, refuted}
use Rattle.tal_faultless.proofs.Common.ArgumentCounts.{arguments_count, values_length}
use Rattle.tal_laws.proofs.Everywhere.{Everywhere, everywhere_append, among_append, everywhere_one}
use Rattle.tal_laws.proofs.Items.{bounds_ordered}
use Rattle.tal_laws.proofs.Known.{HasRoom}
use Rattle.tal_laws.proofs.Meant.{AreThere}
use Rattle.tal_laws.proofs.Mentioned.{mentioned}
use Rattle.tal_laws.proofs.There.{named_expr, test_expr, value_at_there, arguments_there, values_there, answer_there}
use Rattle.tal_laws.proofs.There.{variable_named, variable_at, array_at, process_at, file_at, target_there}

wanted_gives : (wants gives : Bool) → wants ≡ true → (wants && not gives) ≡ false → gives ≡ true
wanted_gives true true wanted free = refl
wanted_gives true false wanted free = absurd (cc free)
wanted_gives false gives wanted free = absurd (cc wanted)

module _ (program : Program) (locals : ℕ) (s : Scope) (meant : AreThere program locals s) where
  abbrev IsRight : What-F What Statement → Type 0
  IsRight = IsRegularStatement program locals s.gives

  -- these statements, and those that stand in them, are regular
  abbrev pub AreRight : List Statement → Type 0
  AreRight xs = Everywhere IsRight xs

  -- a procedure is called with as many values as it has parameters
  is_called : (wants : Bool) (at : At) (count : ℕ) (name : List ℕ) (found : Option Meaning) → meaning_of s name ≡ found
      → called_faults s wants at count found ≡ []
      → (values : List Expr) → length values ≡ count → AllThere program locals values
      → IsCalled program locals wants (procedure_by found) values
  is_called wants at count name None is fine values long named = no_fault fine
  is_called wants at count name (Some (m.Procedure number gives parameters)) is fine values long named =
      let free : (not (count == parameters) || (wants && not gives)) ≡ false =
      refuted (not (count == parameters) || (wants && not gives)) at WrongKind (split fine).0 in
      let parts = or_parts (not (count == parameters)) (wants && not gives) free in
      let same : count ≡ parameters = eqb-true count parameters (not-false (count == parameters) parts.0) in
      let own : HasRoom program.procedures number parameters gives = meant.procedure name number gives parameters is in
      record {
        procedure = own.procedure;
        there = own.there;
        exact = omega (arith, long, same, own.exact);
        few = omega (arith, long, same, own.room);
        gives = λ wanted. own.given ∙ wanted_gives wants gives wanted parts.1;
        values_there = named;
      }
  is_called wants at count name (Some other) is fine values long named = no_fault fine

  module _ (n line : ℕ) where
    abbrev Lone : What → Type 0
    Lone it = Everywhere IsRight (record { number = n; line = line; what = it } ∷ [])

    -- assignments
    assigned : (target : g.Spot) (e : g.Expr) (at : At) (name : List ℕ) (found : Option Meaning)
        → spot_faults s need.Variable target ≡ [] → meaning_of s name ≡ found → right_by s e at found ≡ []
        → Lone (assign_by s target e found)
    assigned target e at name (Some (m.Procedure number gives parameters)) spot_fine is fine =
        everywhere_one IsRight n line (what.AssignCall (target_of_spot s target) number [])
        (What-F.AssignCall (target_of_spot s target) number [])
        (rolls-AssignCall (target_of_spot s target) number []) (
          target_there program locals s meant target spot_fine,
          is_called true at 0 name (Some (m.Procedure number gives parameters)) is fine [] refl tt,
        )
        (λ x none. absurd none)
    assigned target e at name None spot_fine is fine =
        everywhere_one IsRight n line (what.Assign (target_of_spot s target) (value_of_expr s e))
        (What-F.Assign (target_of_spot s target) (value_of_expr s e))
        (rolls-Assign (target_of_spot s target) (value_of_expr s e))
        (target_there program locals s meant target spot_fine, named_expr program locals s meant e)
        (λ x none. absurd none)
    assigned target e at name (Some other) spot_fine is fine =
        everywhere_one IsRight n line (what.Assign (target_of_spot s target) (value_of_expr s e))
        (What-F.Assign (target_of_spot s target) (value_of_expr s e))
        (rolls-Assign (target_of_spot s target) (value_of_expr s e))
        (target_there program locals s meant target spot_fine, named_expr program locals s meant e)
        (λ x none. absurd none)

    assigned_named : (target : g.Spot) (e : g.Expr) (found : Option Named) → spot_faults s need.Variable target ≡ []
        → right_named s e found ≡ [] → Lone (assign_by s target e (meaning_by s found))
    assigned_named target e None spot_fine fine =
        everywhere_one IsRight n line (what.Assign (target_of_spot s target) (value_of_expr s e))
        (What-F.Assign (target_of_spot s target) (value_of_expr s e))
        (rolls-Assign (target_of_spot s target) (value_of_expr s e))
        (target_there program locals s meant target spot_fine, named_expr program locals s meant e)
        (λ x none. absurd none)
    assigned_named target e (Some x) spot_fine fine =
        assigned target e x.at x.name (meaning_of s x.name) spot_fine refl fine

    -- how many arguments there are
    counted : (at : At) (count : ℕ) (arguments : List g.Argument) → count_faults at count arguments ≡ []
        → length arguments ≡ count
    counted at count arguments fine = eqb-true (length arguments) count
        (not-false (length arguments == count) (refuted (not (length arguments == count)) at WrongKind fine))

    -- calls
    system_right : (w : Walk) (at : At) (name : List ℕ) (arguments : List g.Argument) (x : System)
        → call_faults s w at name arguments (Some x) ≡ [] → Lone (system_what s arguments x)
    system_right w at name arguments system.CheckMonitor fine =
        everywhere_one IsRight n line what.CheckMonitor What-F.CheckMonitor rolls-CheckMonitor tt
        (λ x none. absurd none)
    system_right w at name arguments system.Checkpoint fine =
        let items = items_named s arguments in
        let files = files_named s arguments in
        everywhere_one IsRight n line (what.Checkpoint items files) (What-F.Checkpoint items files)
        (rolls-Checkpoint items files)
        (mentioned program locals s meant arguments fine) (λ x none. absurd none)
    system_right w at name arguments system.Open fine =
        let file = file_by (meaning_at s (slice_get arguments 1)) in
        let seven = split fine in
        let six = split seven.0 in
        let five = split six.0 in
        let four = split five.0 in
        let three = split four.0 in
        let two = split three.0 in
        let many : length arguments ≡ 3 = counted at 3 arguments two.1 in
        everywhere_one IsRight n line (what.Open file) (What-F.Open file) (rolls-Open file)
        (file_at program locals s meant arguments 1 (omega (arith, many)) five.1) (λ x none. absurd none)
    system_right w at name arguments system.ReadUpdate fine =
        let buffer = item_by (meaning_at s (slice_get arguments 1)) in
        let most = value_at s (slice_get arguments 2) in
        let got = variable_by (meaning_at s (slice_get arguments 3)) in
        let five = split fine in
        let four = split five.0 in
        let three = split four.0 in
        let two = split three.0 in
        let many : length arguments ≡ 4 = counted at 4 arguments two.0 in
        everywhere_one IsRight n line (what.ReadUpdate buffer most got) (What-F.ReadUpdate buffer most got)
        (rolls-ReadUpdate buffer most got) (
          array_at program locals s meant arguments 1 (omega (arith, many)) three.1,
          (
            value_at_there program locals s meant (slice_get arguments 2),
            variable_at program locals s meant arguments 3 (omega (arith, many)) five.1,
          ),
        ) (λ x none. absurd none)
    system_right w at name arguments system.Reply fine =
        let buffer = item_by (meaning_at s (slice_get arguments 0)) in
        let count = value_at s (slice_get arguments 1) in
        let three = split fine in
        let two = split three.0 in
        let many : length arguments ≡ 2 = counted at 2 arguments two.0 in
        everywhere_one IsRight n line (what.Reply buffer count) (What-F.Reply buffer count) (rolls-Reply buffer count) (
          array_at program locals s meant arguments 0 (omega (arith, many)) two.1,
          value_at_there program locals s meant (slice_get arguments 1),
        ) (λ x none. absurd none)
    system_right w at name arguments system.Stop fine =
        everywhere_one IsRight n line what.Stop What-F.Stop rolls-Stop tt (λ x none. absurd none)
    system_right w at name arguments system.WriteRead fine =
        let file = file_by (meaning_at s (slice_get arguments 0)) in
        let buffer = item_by (meaning_at s (slice_get arguments 1)) in
        let send = value_at s (slice_get arguments 2) in
        let room = value_at s (slice_get arguments 3) in
        let got = variable_by (meaning_at s (slice_get arguments 4)) in
        let six = split fine in
        let five = split six.0 in
        let four = split five.0 in
        let three = split four.0 in
        let two = split three.0 in
        let many : length arguments ≡ 5 = counted at 5 arguments two.0 in
        everywhere_one IsRight n line (what.WriteRead file buffer send room got)
        (What-F.WriteRead file buffer send room got) (rolls-WriteRead file buffer send room got) (
          process_at program locals s meant arguments 0 (omega (arith, many)) two.1,
          (
            array_at program locals s meant arguments 1 (omega (arith, many)) three.1,
            (
              value_at_there program locals s meant (slice_get arguments 2),
              (
                value_at_there program locals s meant (slice_get arguments 3),
                variable_at program locals s meant arguments 4 (omega (arith, many)) six.1,
              ),
            ),
          ),
        ) (λ x none. absurd none)

    called_right : (w : Walk) (at : At) (name : List ℕ) (arguments : List g.Argument) (found : Option System)
        → call_faults s w at name arguments found ≡ []
        → Lone (call_what s name arguments found)
    called_right w at name arguments (Some x) fine = system_right w at name arguments x fine
    called_right w at name arguments None fine =
        everywhere_one IsRight n line (what.Call (procedure_by (meaning_of s name)) (values_of_arguments s arguments))
        (What-F.Call (procedure_by (meaning_of s name)) (values_of_arguments s arguments))
        (rolls-Call (procedure_by (meaning_of s name)) (values_of_arguments s arguments))
        (is_called false at (length arguments) name (meaning_of s name) refl
        (first_nil (called_faults s false at (length arguments) (meaning_of s name)) (arguments_faults s arguments)
        fine)
        (values_of_arguments s arguments) (arguments_count s arguments)
        (arguments_there program locals s meant arguments))
        (λ x none. absurd none)

    assigned_call_right : (to : Spot) → IsSpotThere program locals to
        → (first : g.Expr) (more : g.Values) (at : At) (name : List ℕ)
        → called_faults s true at (values_count more + 1) (meaning_of s name) ≡ []
        → Lone (what.AssignCall to (procedure_by (meaning_of s name)) (value_of_expr s first ∷ values_of s more))
    assigned_call_right to there first more at name fine =
        let values = value_of_expr s first ∷ values_of s more in
        let long : length values ≡ values_count more + 1 = omega (arith, values_length s more) in
        everywhere_one IsRight n line (what.AssignCall to (procedure_by (meaning_of s name)) values)
        (What-F.AssignCall to (procedure_by (meaning_of s name)) values)
        (rolls-AssignCall to (procedure_by (meaning_of s name)) values) (
          there,
          is_called true at (values_count more + 1) name (meaning_of s name) refl fine values long
              (named_expr program locals s meant first, values_there program locals s meant more),
        ) (λ x none. absurd none)

  -- RETURN has a value just where the procedure gives one
  answered : (head : At) (a : g.Answer) → return_faults s head a ≡ [] → is_some (answer_of s a) ≡ s.gives
  answered head g.no_answer fine = sym (refuted s.gives head WrongKind fine)
  answered head (g.answer e) fine = sym (not-false s.gives (refuted (not s.gives) head WrongKind (split fine).0))

  -- a FOR without faults counts by 1 or more
  at_least_one : (value : Option ℤ) → is_below_one value ≡ false → pos 1 ≤ℤ unwrap_or value (pos 1)
  at_least_one None fine = omega (arith, ints)
  at_least_one (Some value) fine = bounds_ordered (pos 1) value fine

  stepping : (step : g.Step) → step_faults s step ≡ [] → pos 1 ≤ℤ step_of s step
  stepping g.step_one fine = omega (arith, ints)
  stepping (g.step_by at c) fine =
      let value = constant_value c (named_in s (atom_of c)) in
      at_least_one value (refuted (is_below_one value) (first_of_constant c) WrongKind (split fine).1)

  mutual
    statement_right : (w : Walk) (x : g.Statement) → statement_faults s w x ≡ [] → AreRight (statements_of s w x)
    statement_right w g.nothing fine = λ x none. absurd none
    statement_right w (g.block begin first more end) fine =
        let parts = split fine in
        everywhere_append IsRight (statements_of s w first) (row_statements s (after s w first) more)
        (statement_right w first parts.0) (row_right (after s w first) more parts.1)
    statement_right w (g.if_then head test then_at t o) fine =
        let parts = split fine in
        let heads = split parts.0 in
        let xs = statements_of s (next_walk w) t in
        let ys = else_statements s (after s (next_walk w) t) o in
        everywhere_one IsRight w.number head.place.line (what.If (cond_of_expr s test) xs ys)
        (What-F.If (cond_of_expr s test) xs ys) (rolls-If (cond_of_expr s test) xs ys)
        (test_expr program locals s meant test)
        (among_append IsRight _ _ (statement_right (next_walk w) t heads.1)
        (else_right (after s (next_walk w) t) o parts.1))
    statement_right w (g.while_do head test do_at t) fine =
        let parts = split fine in
        let xs = statements_of s (next_walk w) t in
        everywhere_one IsRight w.number head.place.line (what.While (cond_of_expr s test) xs)
        (What-F.While (cond_of_expr s test) xs) (rolls-While (cond_of_expr s test) xs)
        (test_expr program locals s meant test)
        (statement_right (next_walk w) t parts.1)
    statement_right w (g.for_do head at name set_at from direction to step do_at t) fine =
        let parts = split fine in
        let heads = split parts.0 in
        let xs = statements_of s (next_walk (next_walk w)) t in
        let last = (after s (next_walk (next_walk w)) t).number in
        let variable = variable_by (meaning_of s name) in
        let back = split heads.0 in
        let front = split back.0 in
        let named_fine = split front.0 in
        everywhere_one IsRight w.number head.place.line
        (what.For variable (value_of_expr s from) (value_of_expr s to) (is_down direction) (step_of s step) xs last)
        (What-F.For variable (value_of_expr s from) (value_of_expr s to) (is_down direction) (step_of s step) xs last)
        (rolls-For variable (value_of_expr s from) (value_of_expr s to) (is_down direction) (step_of s step) xs last) (
          variable_named program locals s meant at name (meaning_of s name) refl named_fine.0,
          (named_expr program locals s meant from, named_expr program locals s meant to),
          stepping step back.1,
        )
        (statement_right (next_walk (next_walk w)) t heads.1)
    statement_right w (g.do_until head t at test) fine =
        let parts = split fine in
        let xs = statements_of s (inside_do w) t in
        everywhere_one IsRight (after s (inside_do w) t).number at.place.line (what.DoUntil xs (cond_of_expr s test))
        (What-F.DoUntil xs (cond_of_expr s test)) (rolls-DoUntil xs (cond_of_expr s test))
        (test_expr program locals s meant test) (statement_right (inside_do w) t parts.0)
    statement_right w (g.call head at name a) fine =
        let parts = split fine in
        called_right w.number head.place.line w at name (arguments_of a) (system_of name) parts.1
    statement_right w (g.return head a) fine =
        let parts = split fine in
        everywhere_one IsRight w.number head.place.line (what.Return (answer_of s a)) (What-F.Return (answer_of s a))
        (rolls-Return (answer_of s a))
        (answered head a parts.1, answer_there program locals s meant a) (λ x none. absurd none)
    statement_right w (g.assign target at e) fine =
        let parts = split fine in
        let front = split parts.0 in
        assigned_named w.number (first_of_spot target).place.line target e (name_of_expr e) front.1 parts.1
    statement_right w (g.assign_call target at name_at name start first more close) fine =
        let parts = split fine in
        let front = split parts.0 in
        let called = split front.0 in
        let own = split called.0 in
        assigned_call_right w.number (first_of_spot target).place.line (target_of_spot s target)
        (target_there program locals s meant target own.1) first more name_at name called.1

    else_right : (w : Walk) (x : g.Otherwise) → else_faults s w x ≡ [] → AreRight (else_statements s w x)
    else_right w g.no_else fine = λ x none. absurd none
    else_right w (g.otherwise at t) fine = statement_right w t fine

    row_right : (w : Walk) (x : g.Row) → row_faults s w x ≡ [] → AreRight (row_statements s w x)
    row_right w g.no_row fine = λ x none. absurd none
    row_right w (g.more_row semicolon t rest) fine =
        let parts = split fine in
        everywhere_append IsRight (statements_of s w t) (row_statements s (after s w t) rest)
        (statement_right w t parts.0) (row_right (after s w t) rest parts.1)

  -- the statements of a procedure
  pub body_right : (w : Walk) (first : g.Statement) (more : g.Row) → body_faults s w first more ≡ []
      → AreRight (body_statements s w first more)
  body_right w first more fine =
      let parts = split fine in
      everywhere_append IsRight (statements_of s w first) (row_statements s (after s w first) more)
      (statement_right w first parts.0) (row_right (after s w first) more parts.1)
