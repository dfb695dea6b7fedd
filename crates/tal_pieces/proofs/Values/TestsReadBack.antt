-- How the pieces of a condition read back.
use Rattle.std.specs.Prelude.{◌≡◌, ◌≤◌, ℕ, ◌+◌, List, []}
use Rattle.tal_tree.specs.declared.expression.Cond.{Cond, Truth, Compare, Not', And', Or', Row_of-Cond, end_of-Cond}
use Rattle.tal_tree.specs.declared.expression.Cond.{more_of-Cond}
use Rattle.tal_tree.specs.declared.program.Program.{Program}
use Rattle.tal_tokens.specs.declared.token.Token.{Token}
use Rattle.tal_syntax.specs.Grammar as g
use Rattle.tal_syntax.specs.Expected.{AllAtMost}
use Rattle.tal_syntax.specs.Nesting.{nest_expr}
use Rattle.tal_names.specs.declared.meaning.Wanted.TheVariants.{Condition}
use Rattle.tal_names.specs.declared.scope.Scope.{Scope}
use Rattle.tal_rules.specs.Expressions.{expr_faults}
use Rattle.tal_meaning.specs.Expressions.{cond_of_expr}
use Rattle.tal_pieces.specs.declared.piece.Piece.{Piece}
use Rattle.tal_pieces.specs.declared.rank.TestRank.TheVariants as test
use Rattle.tal_pieces.specs.Cuts.{AreTokens}
use Rattle.tal_pieces.specs.Printed.Expressions.{test_pieces}
use Rattle.tal_pieces.proofs.Values.TestDepths.{test_depth}
use Rattle.tal_pieces.proofs.Values.ReadsBack.{IsNamed}

-- each name that a condition needs stands in the scope for what it names in the tree
module _ (p : Program) (locals : List (List ℕ)) (s : Scope) where
  abbrev mutual
    pub IsNamedTest : Cond → Type 0
    IsNamedTest (Truth e) = IsNamed p locals s e
    IsNamedTest (Compare o left right) = IsNamed p locals s left × IsNamed p locals s right
    IsNamedTest (Not' _ row) = IsNamedTestIn row
    IsNamedTest (And' _ left _ right) = IsNamedTestIn left × IsNamedTestIn right
    IsNamedTest (Or' _ left _ right) = IsNamedTestIn left × IsNamedTestIn right

    pub IsNamedTestIn : {n : _} → Row_of-Cond n → Type 0
    IsNamedTestIn end_of-Cond = Unit {0}
    IsNamedTestIn (more_of-Cond cond _) = IsNamedTest cond

-- the tokens begin with an expression of the grammar that has no fault in the place of a condition and stands there for
-- this one, and opens no more levels than it needs; those after it are the later pieces
pub record TestReadsBack (s : Scope) (c : Cond) (ks : List Piece) (tokens : List Token) : Type 0 where
  pub syntax : g.Expr
  pub rest : List Token
  pub front : tokens ≡ g.of_expr syntax rest
  pub later : AreTokens ks rest
  pub same : cond_of_expr s syntax ≡ c
  pub faultless : expr_faults s Condition syntax ≡ []
  pub shallow : (n most : ℕ) (levels : List ℕ) → n + test_depth test.Or c ≤ most → AllAtMost most levels
      → AllAtMost most (nest_expr n syntax levels)

-- a printed condition reads back as itself
abbrev pub TestsReadBack : Program → List (List ℕ) → Scope → Type 0
TestsReadBack p locals s =
    (c : Cond) (ks : List Piece) (tokens : List Token) → IsNamedTest p locals s c
    → AreTokens (test_pieces p locals test.Or c ks) tokens → TestReadsBack s c ks tokens
