-- Lines one after the other.
use Rattle.std.proofs.Common.{◌≡◌, ℕ, zero, suc, ◌+◌, ◌<◌, List, [], ◌∷◌, ◌++◌, length, take, drop, get_or, flat_map}
use Rattle.std.proofs.Common.{sym, ap, ◌∙◌, append-nil, take-append-drop, refl, arith}
use Rattle.std.proofs.lemmas.Grind.{flat_map-append}
use Rattle.std.proofs.lemmas.List.{take_more}

pub lines-one : {X : Type 0} (f : X → List ℕ) (xs : List X) (x : X) → flat_map f (xs ++ x ∷ []) ≡ flat_map f xs ++ f x
lines-one f xs x = flat_map-append f xs (x ∷ []) ∙ ap (λ ys. flat_map f xs ++ ys) (append-nil (f x))

-- one line more
pub lines-more : {X : Type 0} (f : X → List ℕ) (xs : List X) (i : ℕ) (x : X) → i < length xs → x ≡ get_or xs i x
    → flat_map f (take (i + 1) xs) ≡ flat_map f (take i xs) ++ f x
lines-more f xs i x h e =
    ap (flat_map f) (take_more xs i x h ∙ ap (λ y. take i xs ++ y ∷ []) (sym e)) ∙ lines-one f (take i xs) x

-- the lines before one, that one, and those after it
pub lines-split : {X : Type 0} (f : X → List ℕ) (xs : List X) (i : ℕ) (x : X) → i < length xs → x ≡ get_or xs i x
    → flat_map f xs ≡ (flat_map f (take i xs) ++ f x) ++ flat_map f (drop (i + 1) xs)
lines-split f xs i x h e =
    ap (flat_map f) (sym (take-append-drop (i + 1) xs))
    ∙ flat_map-append f (take (i + 1) xs) (drop (i + 1) xs)
    ∙ ap (λ ys. ys ++ flat_map f (drop (i + 1) xs)) (lines-more f xs i x h e)

-- an element is the same whatever stands for one past the end
pub got : {X : Type 0} (xs : List X) (i : ℕ) (d : X) → i < length xs → get_or xs i d ≡ get_or xs i (get_or xs i d)
got [] i d h = absurd (omega (arith, h))
got (x ∷ xs) zero d h = refl
got (x ∷ xs) (suc i) d h = got xs i d (omega (arith, h))
