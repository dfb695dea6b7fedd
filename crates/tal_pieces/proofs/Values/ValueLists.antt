-- How the pieces of lists of values read back.
use Rattle.std.specs.Prelude.{◌≡◌, ◌≤◌, ℕ, ◌+◌, max, List, [], ◌∷◌, length}
use Rattle.tal_tree.specs.declared.expression.Expr.{Expr}
use Rattle.tal_tree.specs.declared.program.Program.{Program}
use Rattle.tal_tokens.specs.declared.token.Token.{Token}
use Rattle.tal_syntax.specs.Grammar as g
use Rattle.tal_syntax.specs.Expected.{AllAtMost}
use Rattle.tal_syntax.specs.Nesting.{nest_values}
use Rattle.tal_names.specs.declared.scope.Scope.{Scope}
use Rattle.tal_rules.specs.Calls.{values_faults, values_count}
use Rattle.tal_meaning.specs.Calls.{values_of}
use Rattle.tal_pieces.specs.declared.piece.Piece.{Piece}
use Rattle.tal_pieces.specs.declared.rank.ValueRank.TheVariants as value
use Rattle.tal_pieces.specs.Cuts.{AreTokens}
use Rattle.tal_pieces.proofs.Values.Depths.{value_depth}
use Rattle.tal_pieces.specs.Printed.Expressions.{more_values}
use Rattle.tal_pieces.proofs.Values.ReadsBack.{IsNamed}

abbrev pub AllNamed : Program → List (List ℕ) → Scope → List Expr → Type 0
AllNamed p locals s [] = Unit {0}
AllNamed p locals s (e ∷ rest) = IsNamed p locals s e × AllNamed p locals s rest

abbrev pub values_depth : List Expr → ℕ
values_depth [] = 0
values_depth (e ∷ rest) = max (value_depth value.Sum e) (values_depth rest)

-- the tokens begin with further values of a list that have no fault, stand for these ones and open no more levels than
-- these need; and those after them are the later pieces
pub record ValuesRead (s : Scope) (es : List Expr) (ks : List Piece) (tokens : List Token) : Type 0 where
  pub syntax : g.Values
  pub rest : List Token
  pub front : tokens ≡ g.of_values syntax rest
  pub later : AreTokens ks rest
  pub same : values_of s syntax ≡ es
  pub count : values_count syntax ≡ length es
  pub faultless : values_faults s syntax ≡ []
  pub shallow : (n most : ℕ) (levels : List ℕ) → n ≤ most → n + values_depth es ≤ most → AllAtMost most levels
      → AllAtMost most (nest_values n syntax levels)

-- printed values of a list read back as themselves
abbrev pub ListsReadBack : Program → List (List ℕ) → Scope → Type 0
ListsReadBack p locals s =
    (es : List Expr) (ks : List Piece) (tokens : List Token) → AllNamed p locals s es
    → AreTokens (more_values p locals es ks) tokens → ValuesRead s es ks tokens
