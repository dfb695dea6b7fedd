-- A loop that reads parts: those that it has, and those of the words that are left.
use Rattle.std.proofs.Common.{◌≡◌, ℕ, suc, ℤ, List, [], ◌∷◌, ◌++◌, Some, None, refl, ap, sym, ◌∙◌, append_assoc}
use Rattle.std.proofs.Common.{option_and_then}
use Rattle.std.specs.Option.{option_map}
use Rattle.process_images.specs.process_semantics.specs.Words.{Front}
use Rattle.checkpoint_image.specs.Reading.{many_in}

-- what is read, with these before it
abbrev pub after : {A : Type 0} → List A → Front (List A) → Front (List A)
after items more = option_map (λ (others, left). (items ++ others, left)) more

onto : {A : Type 0} (items : List A) (item : A) (more : Front (List A))
    → after items (option_map (λ (others, left). (item ∷ others, left)) more) ≡ after (items ++ item ∷ []) more
onto items item None = refl
onto items item (Some (others, left)) = ap (λ xs. Some (xs, left)) (sym (append_assoc items (item ∷ []) others))

pub turns : {A : Type 0} (part : List ℤ → Front A) (items : List A) (m n : ℕ) (words left : List ℤ) (item : A)
    → m ≡ suc n → part words ≡ Some (item, left)
    → after items (many_in part m words) ≡ after (items ++ item ∷ []) (many_in part n left)
turns {A} part items m n words left item count found =
    ap (λ (k : ℕ). after items (many_in part k words)) count
    ∙ ap (λ (f : Front A). after items (option_and_then
    (λ (x, rest). option_map (λ (xs, last). (x ∷ xs, last)) (many_in part n rest)) f)) found
    ∙ onto items item (many_in part n left)
