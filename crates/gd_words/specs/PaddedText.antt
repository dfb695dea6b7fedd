-- Texts in a fixed number of places, zeros after them.
use Rattle.std.proofs.Common.{◌≡◌, ℕ, ◌+◌, ◌-◌, ◌≤◌, List, length, take, ap, ◌∙◌, arith, replicate}
use Rattle.std.proofs.lemmas.List.{length-take, length-replicate, length-append}
use Rattle.gd_words.specs.Spelling.{text_with_zeros}

-- a text that is padded fills its places
pub length-padded : (n : ℕ) (text : List ℕ) → length text ≤ n → length (text_with_zeros n text) ≡ n
length-padded n text h =
    length-append text (replicate (n - length text) 0)
    ∙ ap (λ k. length text + k) (length-replicate (n - length text) 0) ∙ omega arith

-- the part that is not padding has the length that is kept beside it
pub length-kept : (n len : ℕ) (bytes : List ℕ) → len ≤ n → bytes ≡ text_with_zeros n (take len bytes)
    → length (take len bytes) ≡ len
length-kept n len bytes h e =
    let short : length (take len bytes) ≤ len = omega (arith, length-take len bytes) in
    let whole : length bytes ≡ n = ap length e ∙ length-padded n (take len bytes) (omega arith) in
    omega (arith, length-take len bytes)
