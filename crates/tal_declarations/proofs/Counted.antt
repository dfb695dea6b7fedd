-- How many names the built ones stand for; a list of three by its items.
use Rattle.std.proofs.Common.{◌≡◌, List, [], ◌∷◌, length, slice_get, Some, arith, refl, ap, suc}
use Rattle.tal_syntax.specs.declared.declaration.NextName.{NextName}
use Rattle.tal_syntax.specs.Seen.{seen_names}
use Rattle.tal_declarations.specs.Headings.{names_of}

pub length-names : (ns : List NextName) → length (names_of (seen_names ns)) ≡ length ns
length-names [] = refl
length-names (n ∷ ns) = ap suc (length-names ns)

pub three_of : {X : Type 0} (xs : List X) (a b d : X) → length xs ≡ 3 → slice_get xs 0 ≡ Some a
    → slice_get xs 1 ≡ Some b → slice_get xs 2 ≡ Some d → xs ≡ a ∷ b ∷ d ∷ []
three_of [] a b d n p q r = absurd (omega (arith, n))
three_of (x ∷ []) a b d n p q r = absurd (omega (arith, n))
three_of (x ∷ y ∷ []) a b d n p q r = absurd (omega (arith, n))
three_of (x ∷ y ∷ z ∷ []) a b d n p q r = cc
three_of (x ∷ y ∷ z ∷ w ∷ xs) a b d n p q r = absurd (omega (arith, n))
