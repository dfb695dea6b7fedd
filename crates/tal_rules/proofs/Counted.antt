-- How many values the built ones stand for.
use Rattle.std.proofs.Common.{◌≡◌, ◌∙◌, ◌+◌, ℕ, List, [], ◌∷◌, length, arith, refl, ap}
use Rattle.tal_syntax.specs.declared.statement.NextValue.{NextValue}
use Rattle.tal_syntax.specs.Seen.{seen_values}
use Rattle.tal_rules.specs.Calls.{values_count}

pub length-values : (ns : List NextValue) → values_count (seen_values ns) ≡ length ns
length-values [] = refl
length-values (n ∷ ns) = ap (λ (k : ℕ). k + 1) (length-values ns) ∙ omega arith
