-- Numbers and counted words as words, and reading them from the front of words. Each reader leaves the words behind
-- what it takes.
use Rattle.std.specs.Option.{option_and_then}
use Rattle.std.specs.Prelude.{ℕ, ◌-◌, ℤ, pos, negsuc, if◌then◌else◌, nat_le, List, [], ◌∷◌, length, take, drop, Option}
use Rattle.std.specs.Prelude.{Some, None, ◌+◌, ◌*◌, ◌/◌, ◌%◌}
use Rattle.tal_values.specs.gd_words.specs.Arithmetic.{wrap}
use Rattle.tal_values.specs.gd_words.specs.declared.limits.TheConstants.{MOST_MESSAGE_WORDS}

-- a number of 32 bits: two words, the high half first, each as a pattern of 16 bits
abbrev pub long : ℕ → List ℤ
long n = wrap (pos (n / 65536)) ∷ wrap (pos (n % 65536)) ∷ []

-- how many, and the words
abbrev pub with_count : List ℤ → List ℤ
with_count words = pos (length words) ∷ words

-- words that may be lacking, which count as none
abbrev pub counted_if : Option (List ℤ) → List ℤ
counted_if None = pos 0 ∷ []
counted_if (Some words) = with_count words

-- Reading

-- what words begin with, and the words after it
abbrev pub Front : Type 0 → Type 0
Front A = Option (A × List ℤ)

-- a count or a number that isn't below 0
abbrev pub count_in : List ℤ → Front ℕ
count_in (pos n ∷ words) = Some (n, words)
count_in _ = None

-- so many words
abbrev pub words_in : ℕ → List ℤ → Front (List ℤ)
words_in n words = if nat_le n (length words) then Some (take n words, drop n words) else None

-- nothing is left
abbrev pub whole : {A : Type 0} → Front A → Option A
whole (Some (found, [])) = Some found
whole _ = None

-- a number of 16 bits from its pattern
abbrev pub half_of : ℤ → ℕ
half_of (pos n) = n
half_of (negsuc n) = 65535 - n

-- a number of 32 bits
abbrev pub long_in : List ℤ → Front ℕ
long_in (high ∷ low ∷ words) = Some (half_of high * 65536 + half_of low, words)
long_in _ = None

-- how many, at most 16, and the words
abbrev pub with_count_in : List ℤ → Front (List ℤ)
with_count_in words =
    option_and_then (λ (n, left). if nat_le n MOST_MESSAGE_WORDS then words_in n left else None) (count_in words)
