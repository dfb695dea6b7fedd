-- A list whose items become those of another list under a function, one after the other.
use Rattle.std.proofs.Common.{◌≡◌, ℕ, suc, ◌+◌, ◌<◌, List, [], ◌∷◌, ◌++◌, length, get_or, set, take, drop, map, arith}
use Rattle.std.proofs.Common.{◌≤◌, refl, ap, sym, ◌∙◌, append_assoc, append-nil}
use Rattle.std.proofs.Math.Seq.{set-append_seam, drop-cons, get_or-append_seam}
use Rattle.std.proofs.lemmas.List.{take_more, take_all, drop_all, length-take-le, length-map, map-append}

pub mapped-more : {A B : Type 0} (f : A → B) (xs : List A) (first : List B) (k : ℕ) (d : A) → k < length xs
    → k < length first
    → set (map f (take k xs) ++ drop k first) k (f (get_or xs k d)) ≡ map f (take (k + 1) xs) ++ drop (k + 1) first
mapped-more f xs first k d within room =
    let x = get_or xs k d in
    let done = map f (take k xs) in
    let len : length done ≡ k = length-map (take k xs) f ∙ length-take-le k xs (omega (arith, within)) in
    let next : suc k ≡ k + 1 = omega arith in
    ap (λ rest. set (done ++ rest) k (f x)) (drop-cons first k (f d) room)
    ∙ ap (λ j. set (done ++ get_or first k (f d) ∷ drop (suc k) first) j (f x)) (sym len)
    ∙ set-append_seam done (get_or first k (f d)) (drop (suc k) first) (f x)
    ∙ ap (λ j. done ++ f x ∷ drop j first) next
    ∙ sym (ap (λ items. map f items ++ drop (k + 1) first) (take_more xs k d within)
    ∙ ap (λ items. items ++ drop (k + 1) first) (map-append f (take k xs) (x ∷ []))
    ∙ append_assoc done (f x ∷ []) (drop (k + 1) first))

-- the item at the seam is still the one that was first there
pub first-at-seam : {A B : Type 0} (f : A → B) (xs : List A) (first : List B) (k : ℕ) (d : B) → k < length xs
    → k < length first → get_or (map f (take k xs) ++ drop k first) k d ≡ get_or first k d
first-at-seam f xs first k d within room =
    let done = map f (take k xs) in
    let len : length done ≡ k = length-map (take k xs) f ∙ length-take-le k xs (omega (arith, within)) in
    ap (λ rest. get_or (done ++ rest) k d) (drop-cons first k d room)
    ∙ ap (λ j. get_or (done ++ get_or first k d ∷ drop (suc k) first) j d) (sym len)
    ∙ get_or-append_seam done (get_or first k d) (drop (suc k) first) d

pub at-seam : {A : Type 0} (f : A → A) (xs : List A) (k : ℕ) (d : A) → k < length xs
    → get_or (map f (take k xs) ++ drop k xs) k d ≡ get_or xs k d
at-seam f xs k d within = first-at-seam f xs xs k d within within

-- one after the other in their place
pub mapped-in-place : {A : Type 0} (f : A → A) (xs : List A) (k : ℕ) (d : A) → k < length xs
    → set (map f (take k xs) ++ drop k xs) k (f (get_or (map f (take k xs) ++ drop k xs) k d))
    ≡ map f (take (k + 1) xs) ++ drop (k + 1) xs
mapped-in-place f xs k d within =
    ap (λ x. set (map f (take k xs) ++ drop k xs) k (f x)) (at-seam f xs k d within)
    ∙ mapped-more f xs xs k d within within

-- one function after the other
pub mapped-twice : {A B C : Type 0} (f : A → B) (g : B → C) (xs : List A) → map (λ x. g (f x)) xs ≡ map g (map f xs)
mapped-twice f g [] = refl
mapped-twice f g (x ∷ xs) = ap (λ rest. g (f x) ∷ rest) (mapped-twice f g xs)

-- all are done
pub mapped-all : {A B : Type 0} (f : A → B) (xs : List A) (first : List B) (k : ℕ) → length xs ≤ k → length first ≤ k
    → map f (take k xs) ++ drop k first ≡ map f xs
mapped-all f xs first k items places =
    ap (λ rest. map f (take k xs) ++ rest) (drop_all k first places)
    ∙ append-nil (map f (take k xs))
    ∙ ap (map f) (take_all k xs items)
