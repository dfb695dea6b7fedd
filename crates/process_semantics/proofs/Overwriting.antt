-- Words that are put over others, one after the other.
use Rattle.std.proofs.Common.{◌≡◌, ℕ, suc, ◌+◌, ◌<◌, ◌≤◌, List, [], ◌∷◌, ◌++◌, length, get_or, set, take, drop, arith}
use Rattle.std.proofs.Common.{ap, sym, ◌∙◌, append_assoc}
use Rattle.std.proofs.Math.Seq.{set-append_seam, drop-cons}
use Rattle.std.proofs.lemmas.List.{take_more, length-take-le}

pub overwrite-more : {A : Type 0} (words cells : List A) (k : ℕ) (d : A) → k < length words
    → length words ≤ length cells
    → set (take k words ++ drop k cells) k (get_or words k d) ≡ take (k + 1) words ++ drop (k + 1) cells
overwrite-more words cells k d within fits =
    let len : length (take k words) ≡ k = length-take-le k words (omega arith) in
    let there : k < length cells = omega arith in
    let next : k + 1 ≡ suc k = omega arith in
    ap (λ rest. set (take k words ++ rest) k (get_or words k d)) (drop-cons cells k d there)
    ∙ ap (λ j. set (take k words ++ get_or cells k d ∷ drop (suc k) cells) j (get_or words k d)) (sym len)
    ∙ set-append_seam (take k words) (get_or cells k d) (drop (suc k) cells) (get_or words k d)
    ∙ sym (append_assoc (take k words) (get_or words k d ∷ []) (drop (suc k) cells))
    ∙ ap (λ front. front ++ drop (suc k) cells) (sym (take_more words k d within))
    ∙ ap (λ n. take (k + 1) words ++ drop n cells) (sym next)
