-- How the pieces of a value read back.
use Rattle.std.specs.Prelude.{◌≡◌, ◌≤◌, ℕ, ◌+◌, List, [], slice_get, Option, Some}
use Rattle.tal_tree.specs.declared.expression.Cond.{Truth}
use Rattle.tal_tree.specs.declared.expression.Spot.{Spot, Local, Simple, Element}
use Rattle.tal_tree.specs.declared.expression.Expr.{Expr, Number, Read', Minus', Two', Row_of-Spot, end_of-Spot}
use Rattle.tal_tree.specs.declared.expression.Expr.{more_of-Spot, Row_of-Expr, end_of-Expr, more_of-Expr}
use Rattle.tal_tree.specs.declared.program.Program.{Program}
use Rattle.tal_tokens.specs.declared.token.Token.{Token}
use Rattle.tal_syntax.specs.Grammar as g
use Rattle.tal_syntax.specs.Expected.{AllAtMost}
use Rattle.tal_syntax.specs.Nesting.{nest_sum}
use Rattle.tal_names.specs.declared.meaning.Meaning.{Meaning}
use Rattle.tal_names.specs.declared.meaning.Meaning.TheVariants as m
use Rattle.tal_names.specs.declared.meaning.Wanted.{Wanted}
use Rattle.tal_names.specs.declared.scope.Scope.{Scope}
use Rattle.tal_rules.specs.Expressions.{sum_faults}
use Rattle.tal_names.specs.Scopes.{meaning_of}
use Rattle.tal_meaning.specs.Expressions.{value_of_sum, cond_of_sum}
use Rattle.tal_pieces.specs.declared.piece.Piece.{Piece}
use Rattle.tal_pieces.specs.declared.rank.ValueRank.TheVariants as value
use Rattle.tal_pieces.specs.Cuts.{AreTokens}
use Rattle.tal_pieces.proofs.Values.Depths.{value_depth}
use Rattle.tal_pieces.specs.Printed.Expressions.{value_pieces}
use Rattle.tal_pieces.specs.Printed.Names.{item_name}

-- a name is there, and stands in the scope for this
abbrev pub StandsFor : Scope → Option (List ℕ) → Meaning → Type 0
StandsFor s name x = (text : List ℕ) × (name ≡ Some text) × (meaning_of s text ≡ Some x)

-- each name that a value needs stands in the scope for what it names in the tree
module _ (p : Program) (locals : List (List ℕ)) (s : Scope) where
  abbrev mutual
    pub IsNamed : Expr → Type 0
    IsNamed (Number n) = Unit {0}
    IsNamed (Read' _ row) = IsNamedSpotIn row
    IsNamed (Minus' _ row) = IsNamedIn row
    IsNamed (Two' o _ left _ right) = IsNamedIn left × IsNamedIn right

    pub IsNamedSpot : Spot → Type 0
    IsNamedSpot (Local place) = StandsFor s (slice_get locals place) (m.Local place)
    IsNamedSpot (Simple item) = StandsFor s (item_name p item) (m.Simple item)
    IsNamedSpot (Element item index) = StandsFor s (item_name p item) (m.Array item) × IsNamed index

    pub IsNamedSpotIn : {n : _} → Row_of-Spot n → Type 0
    IsNamedSpotIn end_of-Spot = Unit {0}
    IsNamedSpotIn (more_of-Spot spot _) = IsNamedSpot spot

    pub IsNamedIn : {n : _} → Row_of-Expr n → Type 0
    IsNamedIn end_of-Expr = Unit {0}
    IsNamedIn (more_of-Expr expr _) = IsNamed expr

-- the tokens begin with a sum of the grammar that has no fault in any place and stands for this value, in the place of
-- a condition for its truth, and opens no more levels than the value needs; and those after it are the later pieces
pub record ReadsBack (s : Scope) (e : Expr) (ks : List Piece) (tokens : List Token) : Type 0 where
  pub syntax : g.Sum
  pub rest : List Token
  pub front : tokens ≡ g.of_sum syntax rest
  pub later : AreTokens ks rest
  pub same : value_of_sum s syntax ≡ e
  pub truth : cond_of_sum s syntax ≡ Truth e
  pub faultless : (w : Wanted) → sum_faults s w syntax ≡ []
  pub shallow : (n most : ℕ) (levels : List ℕ) → n + value_depth value.Sum e ≤ most → AllAtMost most levels
      → AllAtMost most (nest_sum n syntax levels)

-- a printed value reads back as itself
abbrev pub ValuesReadBack : Program → List (List ℕ) → Scope → Type 0
ValuesReadBack p locals s =
    (e : Expr) (ks : List Piece) (tokens : List Token) → IsNamed p locals s e
    → AreTokens (value_pieces p locals value.Sum e ks) tokens → ReadsBack s e ks tokens
