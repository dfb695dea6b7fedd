-- The statements of a text without faults keep the rules where they stand, in the printed text's scope.
use Rattle.std.specs.Prelude.{◌≡◌, ℕ, List, []}
use Rattle.tal_tree.specs.declared.program.Program.{Program}
use Rattle.tal_syntax.specs.Grammar as g
use Rattle.tal_syntax.specs.Expected.{AllAtMost}
use Rattle.tal_syntax.specs.Nesting.{nest_statement, nest_row}
use Rattle.tal_declarations.specs.declared.table.Files.{Files}
use Rattle.tal_names.specs.declared.scope.Scope.{Scope}
use Rattle.tal_rules.specs.declared.walk.Walk.{Walk}
use Rattle.tal_declarations.specs.Files.{statement_files, row_files}
use Rattle.tal_rules.specs.Texts.{body_after, body_faults}
use Rattle.tal_meaning.specs.Programs.{body_statements}
use Rattle.tal_pieces.proofs.Scopes.Agreement.{Agreement, Extends, OpenedSoFar, printed_scope}
use Rattle.tal_pieces.proofs.Standing.Stands.{Row}
use Rattle.tal_faultless.proofs.Scopes.SourceScopes.{without_files}

-- the files that the statements of a procedure open after others
abbrev pub body_files : Scope → Files → g.Statement → g.Row → Files
body_files s f first more = row_files (without_files s) (statement_files (without_files s) f first) more

pub record BodyStands (p : Program) (locals : List (List ℕ)) (s : Scope) (all : Files) (n : ℕ) (w : Walk) (f : Files)
    (first : g.Statement) (more : g.Row) : Type 0 where
  pub row : Row p locals (printed_scope s) all n w (body_statements s w first more) (body_after s w first more)
  pub opened : OpenedSoFar (body_after s w first more).files (body_files s f first more)

abbrev pub BodiesStand : Program → List (List ℕ) → Scope → Files → Type 0
BodiesStand p locals s all =
    Agreement p locals s → p.files ≡ all.uses → s.files ≡ all.names
    → (n : ℕ) (w : Walk) (f : Files) (first : g.Statement) (more : g.Row) (levels : List ℕ)
    → OpenedSoFar w.files f → Extends all (body_files s f first more) → body_faults s w first more ≡ []
    → AllAtMost 33 (nest_statement n first (nest_row n more levels)) → BodyStands p locals s all n w f first more
