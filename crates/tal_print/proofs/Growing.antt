-- Texts that grow at their end.
use Rattle.std.proofs.Common.{◌≡◌, ℕ, ◌+◌, List, [], ◌∷◌, ◌++◌, replicate, ◌∙◌, append_assoc}
use Rattle.std.proofs.lemmas.List.{replicate-append-replicate}

pub blanks_more : (n c : ℕ) → replicate n c ++ c ∷ [] ≡ replicate (n + 1) c
blanks_more n c = replicate-append-replicate n 1 c

pub one_more : (text : List ℕ) (c : ℕ) (rest : List ℕ) → (text ++ c ∷ []) ++ rest ≡ text ++ c ∷ rest
one_more text c rest = append_assoc text (c ∷ []) rest

pub quoted_text : (text : List ℕ) (c : ℕ) (name : List ℕ)
    → ((text ++ c ∷ []) ++ name) ++ c ∷ [] ≡ text ++ (c ∷ (name ++ c ∷ []))
quoted_text text c name = append_assoc (text ++ c ∷ []) name (c ∷ []) ∙ append_assoc text (c ∷ []) (name ++ c ∷ [])
