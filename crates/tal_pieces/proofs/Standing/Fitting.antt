-- Values, conditions, targets and variables of a text without faults stand in the printed text's scope within the
-- levels.
use Rattle.std.proofs.Common.{◌≡◌, ◌≤◌, ℕ, ◌+◌, suc, List, ◌∷◌, [], refl, arith}
use Rattle.std.specs.Prelude.{Option, Some, None}
use Rattle.tal_tree.specs.declared.expression.Expr.{Expr}
use Rattle.tal_tree.specs.declared.program.Program.{Program}
use Rattle.tal_tokens.specs.declared.token.At.{At}
use Rattle.tal_syntax.specs.Grammar as g
use Rattle.tal_syntax.specs.Expected.{AllAtMost}
use Rattle.tal_syntax.specs.Nesting.{nest_expr, nest_spot}
use Rattle.tal_names.specs.declared.meaning.Meaning.{Meaning}
use Rattle.tal_names.specs.declared.meaning.Meaning.TheVariants as m
use Rattle.tal_names.specs.declared.meaning.Need.TheVariants as need
use Rattle.tal_names.specs.declared.scope.Scope.{Scope}
use Rattle.tal_rules.specs.Expressions.{spot_faults}
use Rattle.tal_names.specs.Scopes.{meaning_of, kind_faults}
use Rattle.tal_meaning.specs.Calls.{item_by, variable_by}
use Rattle.tal_meaning.specs.Expressions.{target_by, value_of_expr, cond_of_expr, target_of_spot}
use Rattle.tal_pieces.specs.declared.rank.ValueRank.TheVariants as value
use Rattle.tal_pieces.proofs.Values.Depths.{value_depth}
use Rattle.tal_pieces.proofs.Values.ReadsBack.{IsNamed}
use Rattle.tal_pieces.proofs.Scopes.Agreement.{Agreement, printed_scope}
use Rattle.tal_pieces.proofs.Values.Deepest.{low_expr}
use Rattle.tal_pieces.proofs.Values.NamedIn.{named_expr, test_expr}
use Rattle.tal_pieces.proofs.Standing.Stands.{FitsValue, FitsTest, FitsSpot, IsNamedVariable, IsNamedArray}
use Rattle.tal_pieces.proofs.Values.TestDeepest.{deep_expr}
use Rattle.tal_faultless.proofs.Common.Faultless.{no_fault, split}

module _ (p : Program) (locals : List (List ℕ)) (s : Scope) (agreed : Agreement p locals s) where
  pub named_value : (e : g.Expr) → IsNamed p locals (printed_scope s) (value_of_expr s e)
  named_value = named_expr p locals s agreed

  pub fits_value : (e : g.Expr) (n : ℕ) (ls : List ℕ) → AllAtMost 33 (nest_expr n e ls)
      → FitsValue p locals (printed_scope s) n (value_of_expr s e)
  fits_value e n ls low = record { named = named_value e; low = (low_expr s 33 e n ls low).0 }

  pub fits_test : (e : g.Expr) (n : ℕ) (ls : List ℕ) → AllAtMost 33 (nest_expr n e ls)
      → FitsTest p locals (printed_scope s) n (cond_of_expr s e)
  fits_test e n ls low = record { named = test_expr p locals s agreed e; low = (deep_expr s 33 e n ls low).0 }

  -- what a name that suits its place is
  pub named_variable : (at : At) (name : List ℕ) (found : Option Meaning) → meaning_of s name ≡ found
      → kind_faults need.Variable at found ≡ []
      → IsNamedVariable p locals (printed_scope s) (variable_by found)
  named_variable at name None e none = no_fault none
  named_variable at name (Some (m.Local place)) e none =
      (name, agreed.local place name e, agreed.lasting name (m.Local place) refl e)
  named_variable at name (Some (m.Simple item)) e none =
      (name, agreed.simple item name e, agreed.lasting name (m.Simple item) refl e)
  named_variable at name (Some other) e none = no_fault none

  pub named_array : (at : At) (name : List ℕ) (found : Option Meaning) → meaning_of s name ≡ found
      → kind_faults need.Array at found ≡ []
      → IsNamedArray p locals (printed_scope s) (item_by found)
  named_array at name None e none = no_fault none
  named_array at name (Some (m.Array item)) e none =
      (name, agreed.array item name e, agreed.lasting name (m.Array item) refl e)
  named_array at name (Some other) e none = no_fault none

  -- a target without an index and with one
  plain_target : (at : At) (name : List ℕ) (found : Option Meaning) (n : ℕ) → meaning_of s name ≡ found
      → kind_faults need.Variable at found ≡ [] → n ≤ 33
      → FitsSpot p locals (printed_scope s) n (target_by found None)
  plain_target at name None n e none low = no_fault none
  plain_target at name (Some (m.Local place)) n e none low =
      record {
        named = (name, agreed.local place name e, agreed.lasting name (m.Local place) refl e);
        low = omega (arith, low);
      }
  plain_target at name (Some (m.Simple item)) n e none low =
      record {
        named = (name, agreed.simple item name e, agreed.lasting name (m.Simple item) refl e);
        low = omega (arith, low);
      }
  plain_target at name (Some other) n e none low = no_fault none

  element_target : (at : At) (name : List ℕ) (found : Option Meaning) (index : Expr) (n : ℕ)
      → meaning_of s name ≡ found → kind_faults need.Array at found ≡ []
      → IsNamed p locals (printed_scope s) index → suc n + value_depth value.Sum index ≤ 33
      → FitsSpot p locals (printed_scope s) n (target_by found (Some index))
  element_target at name None index n e none h low = no_fault none
  element_target at name (Some (m.Array item)) index n e none h low =
      record {
        named = ((name, agreed.array item name e, agreed.lasting name (m.Array item) refl e), h);
        low = omega (arith, low);
      }
  element_target at name (Some other) index n e none h low = no_fault none

  pub fits_target : (x : g.Spot) (n : ℕ) (ls : List ℕ) → spot_faults s need.Variable x ≡ []
      → AllAtMost 33 (nest_spot n x ls)
      → FitsSpot p locals (printed_scope s) n (target_of_spot s x)
  fits_target (g.spot at name g.no_index) n ls none low =
      plain_target at name (meaning_of s name) n refl (split none).0 low.0
  fits_target (g.spot at name (g.index start e close)) n ls none low =
      element_target at name (meaning_of s name) (value_of_expr s e) n refl (split none).0 (named_value e)
      (low_expr s 33 e (suc n) (suc n ∷ ls) low.1.1).0
