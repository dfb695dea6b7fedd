-- The arguments and values of a call are as many in the tree as in the text.
use Rattle.std.proofs.Common.{◌≡◌, List, [], ◌∷◌, length, refl, arith}
use Rattle.tal_syntax.specs.Grammar as g
use Rattle.tal_names.specs.declared.scope.Scope.{Scope}
use Rattle.tal_meaning.specs.tal_rules.specs.Calls.{values_count}
use Rattle.tal_meaning.specs.Calls.{values_of_arguments, values_of}

module _ (s : Scope) where
  pub arguments_count : (arguments : List g.Argument) → length (values_of_arguments s arguments) ≡ length arguments
  arguments_count [] = refl
  arguments_count (a ∷ rest) = omega (arith, arguments_count rest)

  pub values_length : (vs : g.Values) → length (values_of s vs) ≡ values_count vs
  values_length g.no_values = refl
  values_length (g.more_values comma e rest) = omega (arith, values_length rest)
