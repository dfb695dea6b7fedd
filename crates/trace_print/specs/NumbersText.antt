-- Numbers one after the other.
use Rattle.std.specs.Prelude.{ℕ, ℤ, List, ◌∷◌, flat_map}
use Rattle.std.specs.Fmt.{decimal, signed_decimal}

-- each number in decimal digits, after a space
abbrev pub numbers_text : List ℕ → List ℕ
numbers_text numbers = flat_map (λ n. 32 ∷ decimal n) numbers

-- each word in decimal digits, after a space
abbrev pub words_text : List ℤ → List ℕ
words_text words = flat_map (λ w. 32 ∷ signed_decimal w) words
