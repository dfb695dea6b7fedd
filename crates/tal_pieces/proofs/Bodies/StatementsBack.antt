-- How the pieces of statements read back.
use Rattle.std.specs.Prelude.{◌≡◌, ◌≤◌, ℕ, false, List, []}
use Rattle.tal_tree.specs.declared.program.Program.{Program}
use Rattle.tal_tree.specs.declared.statement.Statement.{Statement}
use Rattle.tal_tokens.specs.declared.token.Token.{Token}
use Rattle.tal_syntax.specs.Grammar as g
use Rattle.tal_syntax.specs.Expected.{AllAtMost}
use Rattle.tal_syntax.specs.Nesting.{nest_statement, nest_row}
use Rattle.tal_declarations.specs.declared.table.Files.{Files}
use Rattle.tal_names.specs.declared.scope.Scope.{Scope}
use Rattle.tal_rules.specs.declared.walk.Walk.{Walk}
use Rattle.tal_declarations.specs.Files.{statement_files, row_files}
use Rattle.tal_rules.specs.Statements.{after, after_row, statement_faults, row_faults}
use Rattle.tal_rules.specs.Texts.{body_after, body_faults}
use Rattle.tal_meaning.specs.Programs.{body_statements}
use Rattle.tal_meaning.specs.Statements.{statements_of, row_statements}
use Rattle.tal_pieces.specs.declared.piece.Piece.{Piece}
use Rattle.tal_pieces.specs.Cuts.{AreTokens}
use Rattle.tal_pieces.specs.Printed.Statements.{inner_pieces, more_statements, body_pieces}
use Rattle.tal_pieces.specs.Unlined.{unlined_statements}
use Rattle.tal_pieces.proofs.Standing.Stands.{StandsIn, Row, first_files}
use Rattle.tal_faultless.proofs.Scopes.SourceScopes.{without_files}

module _ (s : Scope) (f : Files) (n : ℕ) (w : Walk) (xs : List Statement) (v : Walk) (ks : List Piece)
    (tokens : List Token) where
  -- the tokens begin with one statement that has no fault and stands for these, and those after it are the later pieces
  pub record StatementBack : Type 0 where
    pub syntax : g.Statement
    pub rest : List Token
    pub front : tokens ≡ g.of_statement syntax rest
    pub later : AreTokens ks rest
    pub same : unlined_statements (statements_of s w syntax) ≡ unlined_statements xs
    pub next : after s w syntax ≡ v
    pub faultless : statement_faults s w syntax ≡ []
    pub nearest : g.IsNearest syntax
    pub closed : g.is_open syntax ≡ false
    pub shallow : (ls : List ℕ) → AllAtMost 33 ls → AllAtMost 33 (nest_statement n syntax ls)
    pub opened : statement_files (without_files s) (first_files f w.files) syntax ≡ first_files f v.files

  -- the same of statements after one
  pub record RowBack : Type 0 where
    pub syntax : g.Row
    pub rest : List Token
    pub front : tokens ≡ g.of_row syntax rest
    pub later : AreTokens ks rest
    pub same : unlined_statements (row_statements s w syntax) ≡ unlined_statements xs
    pub next : after_row s w syntax ≡ v
    pub faultless : row_faults s w syntax ≡ []
    pub nearest : g.IsNearestRow syntax
    pub shallow : (ls : List ℕ) → AllAtMost 33 ls → AllAtMost 33 (nest_row n syntax ls)
    pub opened : row_files (without_files s) (first_files f w.files) syntax ≡ first_files f v.files

  -- the same of the statements of a procedure
  pub record BodyBack : Type 0 where
    pub first : g.Statement
    pub more : g.Row
    pub rest : List Token
    pub front : tokens ≡ g.of_statement first (g.of_row more rest)
    pub later : AreTokens ks rest
    pub same : unlined_statements (body_statements s w first more) ≡ unlined_statements xs
    pub next : body_after s w first more ≡ v
    pub faultless : body_faults s w first more ≡ []
    pub nearest : g.IsNearest first × g.IsNearestRow more
    pub shallow : (ls : List ℕ) → AllAtMost 33 ls → AllAtMost 33 (nest_statement n first (nest_row n more ls))
    pub opened : row_files (without_files s) (statement_files (without_files s) (first_files f w.files) first) more
        ≡ first_files f v.files

-- printed statements that keep the rules read back as themselves: in the place of one, after one, and as those of a
-- procedure
abbrev pub InnerReadBack : Program → List (List ℕ) → Scope → Files → Type 0
InnerReadBack p locals s f =
    (n : ℕ) (w : Walk) (xs : List Statement) (v : Walk) (ks : List Piece) (tokens : List Token)
    → StandsIn p locals s f n w xs v → AreTokens (inner_pieces p locals xs ks) tokens
    → StatementBack s f n w xs v ks tokens

abbrev pub RowsReadBack : Program → List (List ℕ) → Scope → Files → Type 0
RowsReadBack p locals s f =
    (n : ℕ) (w : Walk) (xs : List Statement) (v : Walk) (ks : List Piece) (tokens : List Token)
    → n ≤ 33 → Row p locals s f n w xs v → AreTokens (more_statements p locals xs ks) tokens
    → RowBack s f n w xs v ks tokens

abbrev pub BodiesReadBack : Program → List (List ℕ) → Scope → Files → Type 0
BodiesReadBack p locals s f =
    (n : ℕ) (w : Walk) (xs : List Statement) (v : Walk) (ks : List Piece) (tokens : List Token)
    → n ≤ 33 → Row p locals s f n w xs v → AreTokens (body_pieces p locals xs ks) tokens
    → BodyBack s f n w xs v ks tokens
