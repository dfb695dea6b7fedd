-- The bits of a number, one after the other.
use Rattle.std.proofs.Common.{◌≡◌, ◌<◌, ◌+◌, ◌-◌, ◌/◌, ◌%◌, ◌==◌, ℕ, suc, Bool, List, [], ◌∷◌, ◌++◌, length, set, take}
use Rattle.std.proofs.Common.{ap, sym, ◌∙◌, append_assoc}
use Rattle.std.proofs.lemmas.List.{take_more_set}
use Rattle.message_layout.specs.Reading.{bits_of}

pub bit-more : (members : List Bool) (place left size : ℕ) → place < length members → size ≡ suc (size - 1)
    → take (place + 1) (set members place (left % 2 == 1)) ++ bits_of (size - 1) (left / 2)
    ≡ take place members ++ bits_of size left
bit-more members place left size within more =
    ap (λ (xs : List Bool). xs ++ bits_of (size - 1) (left / 2)) (take_more_set members place (left % 2 == 1) within)
    ∙ append_assoc (take place members) ((left % 2 == 1) ∷ []) (bits_of (size - 1) (left / 2))
    ∙ sym (ap (λ (n : ℕ). take place members ++ bits_of n left) more)
