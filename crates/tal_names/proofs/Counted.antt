-- How many arguments the built ones stand for, and which one stands where.
use Rattle.std.proofs.Common.{◌≡◌, ℕ, List, [], ◌∷◌, length, slice_get, option_map, refl, ap, zero, suc}
use Rattle.tal_syntax.specs.declared.statement.NextArgument.{NextArgument}
use Rattle.tal_syntax.specs.Seen.{seen_argument, seen_further}
use Rattle.tal_names.specs.Places.{further_arguments}

pub length-arguments : (ns : List NextArgument) → length (further_arguments (seen_further ns)) ≡ length ns
length-arguments [] = refl
length-arguments (n ∷ ns) = ap suc (length-arguments ns)

pub argument-at : (ns : List NextArgument) (k : ℕ)
    → slice_get (further_arguments (seen_further ns)) k
    ≡ option_map (λ (n : NextArgument). seen_argument n.argument) (slice_get ns k)
argument-at [] k = refl
argument-at (n ∷ ns) zero = refl
argument-at (n ∷ ns) (suc k) = argument-at ns k
