-- A padded text grows in place.
use Rattle.std.proofs.Common.{◌≡◌, ℕ, ◌+◌, ◌-◌, ◌<◌, ◌≤◌, suc, List, [], ◌∷◌, ◌++◌, length, take, get_or, set, sym, ap}
use Rattle.std.proofs.Common.{◌∙◌, arith, replicate, append_assoc}
use Rattle.std.proofs.Math.Seq.{set-append_seam}
use Rattle.std.proofs.lemmas.List.{length-take-le, length-map, map-append, take_more, length-append}
use Rattle.std.specs.Char.{to_ascii_uppercase}
use Rattle.gd_words.specs.Spelling.{text_with_zeros, upper}

seam : (n k : ℕ) (front : List ℕ) (c : ℕ) → length front ≡ k → k < n
    → set (text_with_zeros n front) k c ≡ text_with_zeros n (front ++ c ∷ [])
seam n k front c len room =
    let gap : n - length front ≡ suc (n - length (front ++ c ∷ [])) = omega (arith, length-append front (c ∷ [])) in
    let opened : text_with_zeros n front ≡ front ++ 0 ∷ replicate (n - length (front ++ c ∷ [])) 0 =
    ap (λ m. front ++ replicate m 0) gap in
    ap (λ xs. set xs k c) opened
    ∙ ap (λ j. set (front ++ 0 ∷ replicate (n - length (front ++ c ∷ [])) 0) j c) (sym len)
    ∙ set-append_seam front 0 (replicate (n - length (front ++ c ∷ [])) 0) c
    ∙ sym (append_assoc front (c ∷ []) (replicate (n - length (front ++ c ∷ [])) 0))

-- one more sign of a text in its place
pub padded_more : (n k : ℕ) (text : List ℕ) (d : ℕ) → k < length text → length text ≤ n
    → set (text_with_zeros n (upper (take k text))) k (to_ascii_uppercase (get_or text k d))
    ≡ text_with_zeros n (upper (take (k + 1) text))
padded_more n k text d within room =
    let len : length (upper (take k text)) ≡ k =
    length-map (take k text) to_ascii_uppercase ∙ length-take-le k text (omega arith) in
    seam n k (upper (take k text)) (to_ascii_uppercase (get_or text k d)) len (omega arith)
    ∙ ap (text_with_zeros n) (sym (ap upper (take_more text k d within)
    ∙ map-append to_ascii_uppercase (take k text) (get_or text k d ∷ [])))
