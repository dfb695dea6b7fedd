-- The statements of a text without faults keep the rules where they stand, in the printed text's scope.
use Rattle.std.proofs.Common.{◌≡◌, ℕ, suc, ℤ, pos, int_lt, false, List, [], ◌∷◌, nat_lt, Option, Some, None, refl}
use Rattle.std.proofs.Common.{arith}
use Rattle.std.specs.Prelude.{unwrap_or}
use Rattle.tal_tree.specs.declared.program.Program.{Program}
use Rattle.tal_tree.specs.declared.statement.Statement.{Statement}
use Rattle.tal_syntax.specs.Grammar as g
use Rattle.tal_syntax.specs.Expected.{AllAtMost}
use Rattle.tal_syntax.specs.Nesting.{nest_expr, nest_step, nest_statement, nest_otherwise, nest_row}
use Rattle.tal_names.specs.declared.fault.Rule.TheVariants.{Limit, WrongKind}
use Rattle.tal_declarations.specs.declared.table.Files.{Files}
use Rattle.tal_names.specs.declared.scope.Scope.{Scope}
use Rattle.tal_rules.specs.declared.walk.Walk.{Walk}
use Rattle.tal_declarations.specs.Files.{named_in, statement_files, else_files, row_files}
use Rattle.tal_declarations.specs.Globals.{atom_of, constant_value, first_of_constant}
use Rattle.tal_names.specs.Systems.{system_of}
use Rattle.tal_names.specs.Places.{arguments_of, first_of_spot, name_of_expr}
use Rattle.tal_rules.specs.Statements.{next_walk, inside_do, after, after_else, after_row, is_below_one, step_faults}
use Rattle.tal_rules.specs.Statements.{statement_faults, else_faults, row_faults}
use Rattle.tal_names.specs.Scopes.{meaning_of}
use Rattle.tal_meaning.specs.Statements.{step_of, statements_of, else_statements, row_statements}
use Rattle.tal_pieces.proofs.Scopes.Agreement.{Agreement, Extends, OpenedSoFar, printed_scope}
use Rattle.tal_pieces.proofs.Standing.ArgumentsFit.{low_arguments}
use Rattle.tal_pieces.proofs.Standing.CallsStand.{call_stand}
use Rattle.tal_pieces.proofs.Standing.FilesGrow.{extends_on, else_grows, row_grows}
use Rattle.tal_pieces.proofs.Standing.Fitting.{fits_value, fits_test, named_variable}
use Rattle.tal_pieces.proofs.Standing.LevelsAfter as levels
use Rattle.tal_pieces.proofs.Standing.LoneStands.{return_stands, assign_stands, assign_call_stands}
use Rattle.tal_pieces.proofs.Standing.Lower.{low_row, row_append, of_block}
use Rattle.tal_faultless.proofs.Scopes.SourceNames.{SourceNames}
use Rattle.tal_pieces.proofs.Standing.SourceStands.{BodiesStand}
use Rattle.tal_pieces.proofs.Standing.Stands.{Stands, lone, tests, loops, counts, repeats, StandsIn, empty, one, Row}
use Rattle.tal_pieces.proofs.Standing.Stands.{ended, goes_on}
use Rattle.tal_faultless.proofs.Scopes.SourceScopes.{without_files}
use Rattle.tal_faultless.proofs.Common.Faultless.{split, refuted}
use Rattle.tal_tree.specs.declared.limit.ProgramLimit.TheVariants as program_limit

module _ (p : Program) (locals : List (List ℕ)) (s : Scope) (all : Files) (agreed : Agreement p locals s)
    (names : SourceNames s)
    (files_are : p.files ≡ all.uses) (names_are : s.files ≡ all.names) where
  -- statements of a text, in a row and in the place of one, and the files after them
  record BodyStands (n : ℕ) (w : Walk) (xs : List Statement) (v : Walk) (f : Files) : Type 0 where
    row : Row p locals (printed_scope s) all n w xs v
    inner : StandsIn p locals (printed_scope s) all n w xs v
    opened : OpenedSoFar v.files f

  record RowStanding (n : ℕ) (w : Walk) (xs : List Statement) (v : Walk) (f : Files) : Type 0 where
    row : Row p locals (printed_scope s) all n w xs v
    opened : OpenedSoFar v.files f

  single : {n : ℕ} {w : Walk} {x : Statement} {v : Walk} {f : Files} → Stands p locals (printed_scope s) all n w x v
      → OpenedSoFar v.files f → BodyStands n w (x ∷ []) v f
  single x opened = record { row = goes_on x ended; inner = one x; opened = opened }

  -- a FOR without faults counts by 1 or more
  by_value : (value : Option ℤ) → is_below_one value ≡ false → int_lt (unwrap_or value (pos 1)) (pos 1) ≡ false
  by_value None fine = refl
  by_value (Some value) fine = fine

  step_fine : (step : g.Step) → step_faults s step ≡ [] → int_lt (step_of s step) (pos 1) ≡ false
  step_fine g.step_one fine = refl
  step_fine (g.step_by at c) fine =
      let value : Option ℤ = constant_value c (named_in s (atom_of c)) in
      by_value value (refuted (is_below_one value) (first_of_constant c) WrongKind (split fine).1)

  mutual
    stand : (x : g.Statement) (n : ℕ) (w : Walk) (f : Files) (ls : List ℕ) → OpenedSoFar w.files f
        → Extends all (statement_files (without_files s) f x)
        → statement_faults s w x ≡ [] → AllAtMost 33 (nest_statement n x ls)
        → BodyStands n w (statements_of s w x) (after s w x) (statement_files (without_files s) f x)
    stand g.nothing n w f ls so_far more none low = record { row = ended; inner = empty; opened = so_far }
    stand (g.block begin first rest end) n w f ls so_far more none low =
        let parts = split none in
        let x = stand first (suc n) w f (nest_row (suc n) rest (suc n ∷ ls)) so_far
        (extends_on more (row_grows (without_files s) rest (statement_files (without_files s) f first))) parts.0
        low.1 in
        let y = row_stands rest (suc n) (after s w first) (statement_files (without_files s) f first) (suc n ∷ ls)
        x.opened more parts.1
        (levels.after_statement s 33 first (suc n) (nest_row (suc n) rest (suc n ∷ ls)) low.1) in
        let both = row_append p locals (printed_scope s) all x.row y.row in
        record {
          row = low_row p locals (printed_scope s) all both n (omega arith);
          inner = of_block p locals (printed_scope s) all low.0 both;
          opened = y.opened;
        }
    stand (g.if_then head test then_at t o) n w f ls so_far more none low =
        let parts = split none in
        let heads = split parts.0 in
        let counted = split heads.0 in
        let yes_levels = nest_statement (suc n) t (nest_otherwise (suc n) o ls) in
        let x = stand t (suc n) (next_walk w) f (nest_otherwise (suc n) o ls) so_far
        (extends_on more (else_grows (without_files s) o (statement_files (without_files s) f t)))
        heads.1 (levels.after_expr s 33 test (suc n) (suc n ∷ yes_levels) low.1).1 in
        let y = else_stands o (suc n) (after s (next_walk w) t) (statement_files (without_files s) f t) ls x.opened more
        parts.1
        (levels.after_statement s 33 t (suc n) (nest_otherwise (suc n) o ls)
        (levels.after_expr s 33 test (suc n) (suc n ∷ yes_levels) low.1).1) in
        single (tests (refuted (nat_lt 2000 w.number) head (Limit program_limit.Statements) counted.0)
        (fits_test p locals s agreed test (suc n) (suc n ∷ yes_levels) low.1) x.inner y.inner) y.opened
    stand (g.while_do head test do_at t) n w f ls so_far more none low =
        let parts = split none in
        let counted = split parts.0 in
        let x = stand t (suc n) (next_walk w) f ls so_far more parts.1
        (levels.after_expr s 33 test (suc n) (suc n ∷ nest_statement (suc n) t ls) low.1).1 in
        single (loops (refuted (nat_lt 2000 w.number) head (Limit program_limit.Statements) counted.0)
        (fits_test p locals s agreed test (suc n) (suc n ∷ nest_statement (suc n) t ls) low.1) x.inner) x.opened
    stand (g.for_do head at name set_at from direction to step do_at t) n w f ls so_far more none low =
        let parts = split none in
        let body = split parts.0 in
        let steps = split body.0 in
        let values = split steps.0 in
        let named = split values.0 in
        let body_levels = suc n ∷ nest_statement (suc n) t ls in
        let to_levels = nest_step (suc n) step body_levels in
        let low_to = (levels.after_expr s 33 from (suc n) (suc n ∷ nest_expr (suc n) to to_levels) low.1.1.1).1 in
        let x = stand t (suc n) (next_walk (next_walk w)) f ls so_far more body.1
        (levels.after_step s 33 step (suc n) body_levels (levels.after_expr s 33 to (suc n) to_levels low_to)).1 in
        single (counts (named_variable p locals s agreed at name (meaning_of s name) refl named.0)
        (fits_value p locals s agreed from (suc n) (suc n ∷ nest_expr (suc n) to to_levels) low.1.1.1)
        (fits_value p locals s agreed to (suc n) to_levels low_to) (step_fine step steps.1) x.inner
        (refuted (nat_lt 2000 (after s (next_walk (next_walk w)) t).number) head (Limit program_limit.Statements)
        parts.1)) x.opened
    stand (g.do_until head t at test) n w f ls so_far more none low =
        let parts = split none in
        let counted = split parts.1 in
        let test_levels = suc n ∷ nest_expr (suc n) test ls in
        let x = stand t (suc n) (inside_do w) f test_levels so_far more parts.0 low.1 in
        single (repeats
        (fits_test p locals s agreed test (suc n) ls (levels.after_statement s 33 t (suc n) test_levels low.1).1)
        x.inner
        (refuted (nat_lt 2000 (after s (inside_do w) t).number) head (Limit program_limit.Statements) counted.0))
        x.opened
    stand (g.call head at name a) n w f ls so_far more none low =
        let parts = split none in
        let x = call_stand p locals s all agreed names files_are names_are n w f head at name (arguments_of a)
        (system_of name)
        (refuted (nat_lt 2000 w.number) head (Limit program_limit.Statements) parts.0) low.0
        (low_arguments s a (suc n) ls low.1.1) so_far
        more parts.1 in
        single x.stands x.opened
    stand (g.return head a) n w f ls so_far more none low =
        let parts = split none in
        single (lone (refuted (nat_lt 2000 w.number) head (Limit program_limit.Statements) parts.0)
        (return_stands p locals s agreed names n head a ls parts.1 low.0 low.1)) so_far
    stand (g.assign target at e) n w f ls so_far more none low =
        let parts = split none in
        let target_parts = split parts.0 in
        single (lone (refuted (nat_lt 2000 w.number) (first_of_spot target) (Limit program_limit.Statements)
        target_parts.0)
        (assign_stands p locals s agreed names n target e ls (name_of_expr e) target_parts.1 low parts.1)) so_far
    stand (g.assign_call target at name_at name start first rest close) n w f ls so_far more none low =
        let parts = split (split none).0 in
        let called = split parts.0 in
        let target_parts = split called.0 in
        single (lone (refuted (nat_lt 2000 w.number) (first_of_spot target) (Limit program_limit.Statements)
        target_parts.0)
        (assign_call_stands p locals s agreed names n target name_at name first rest ls target_parts.1 called.1 low))
        so_far

    else_stands : (o : g.Otherwise) (n : ℕ) (w : Walk) (f : Files) (ls : List ℕ) → OpenedSoFar w.files f
        → Extends all (else_files (without_files s) f o)
        → else_faults s w o ≡ [] → AllAtMost 33 (nest_otherwise n o ls)
        → BodyStands n w (else_statements s w o) (after_else s w o) (else_files (without_files s) f o)
    else_stands g.no_else n w f ls so_far more none low = record { row = ended; inner = empty; opened = so_far }
    else_stands (g.otherwise at t) n w f ls so_far more none low = stand t n w f ls so_far more none low.1

    row_stands : (r : g.Row) (n : ℕ) (w : Walk) (f : Files) (ls : List ℕ) → OpenedSoFar w.files f
        → Extends all (row_files (without_files s) f r)
        → row_faults s w r ≡ [] → AllAtMost 33 (nest_row n r ls)
        → RowStanding n w (row_statements s w r) (after_row s w r) (row_files (without_files s) f r)
    row_stands g.no_row n w f ls so_far more none low = record { row = ended; opened = so_far }
    row_stands (g.more_row semicolon t rest) n w f ls so_far more none low =
        let parts = split none in
        let x = stand t n w f (nest_row n rest ls) so_far
        (extends_on more (row_grows (without_files s) rest (statement_files (without_files s) f t))) parts.0 low.1 in
        let y = row_stands rest n (after s w t) (statement_files (without_files s) f t) ls x.opened more parts.1
        (levels.after_statement s 33 t n (nest_row n rest ls) low.1) in
        record { row = row_append p locals (printed_scope s) all x.row y.row; opened = y.opened }

-- where names stand as they do in texts
pub bodies_stand : (p : Program) (locals : List (List ℕ)) (s : Scope) (all : Files) → SourceNames s
    → BodiesStand p locals s all
bodies_stand p locals s all names agreed files_are names_are n w f first rest ls so_far more none low =
    let parts = split none in
    let x = stand p locals s all agreed names files_are names_are first n w f (nest_row n rest ls) so_far
    (extends_on more (row_grows (without_files s) rest (statement_files (without_files s) f first))) parts.0 low in
    let y = row_stands p locals s all agreed names files_are names_are rest n (after s w first)
    (statement_files (without_files s) f first) ls x.opened more parts.1
    (levels.after_statement s 33 first n (nest_row n rest ls) low) in
    record { row = row_append p locals (printed_scope s) all x.row y.row; opened = y.opened }
