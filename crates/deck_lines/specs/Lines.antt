-- A deck's lines, and the words of a line.
use Rattle.std.specs.Prelude.{ℕ, Bool, true, false, Option, Some, None, option_map, ◌==◌, ◌&&◌, nat_le, List, [], ◌∷◌}
use Rattle.std.specs.Prelude.{if◌then◌else◌}
use Rattle.std.specs.List.{list_all}

-- a sign before the first of some pieces of text
abbrev pub before_first : ℕ → List (List ℕ) → List (List ℕ)
before_first c [] = (c ∷ []) ∷ []
before_first c (piece ∷ pieces) = (c ∷ piece) ∷ pieces

-- the lines of a text, each without the line feed that ends it; the last one may lack it
abbrev pub lines_of : List ℕ → List (List ℕ)
lines_of [] = []
lines_of (c ∷ cs) = if c == 10 then [] ∷ lines_of cs else before_first c (lines_of cs)

-- a sign that belongs to the word that goes on, or begins one where a space or nothing follows
abbrev pub onto : ℕ → List ℕ → List (List ℕ) → List (List ℕ)
onto c [] words = (c ∷ []) ∷ words
onto c (d ∷ ds) words = if d == 32 then (c ∷ []) ∷ words else before_first c words

-- the words of a line, between its spaces
abbrev pub words_of : List ℕ → List (List ℕ)
words_of [] = []
words_of (c ∷ cs) = if c == 32 then words_of cs else onto c cs (words_of cs)

-- a line outside a program is printable ASCII
abbrev pub is_printable : List ℕ → Bool
is_printable line = list_all (λ c. nat_le 32 c && nat_le c 126) line

-- whether there are no words
abbrev pub is_blank : List (List ℕ) → Bool
is_blank [] = true
is_blank (word ∷ words) = false

-- the words, if there are just one to four
abbrev pub one_word : List (List ℕ) → Option (List ℕ)
one_word [] = None
one_word (word ∷ rest) = if is_blank rest then Some word else None

abbrev pub two_words : List (List ℕ) → Option (List ℕ × List ℕ)
two_words [] = None
two_words (word ∷ rest) = option_map (λ second. (word, second)) (one_word rest)

abbrev pub three_words : List (List ℕ) → Option (List ℕ × List ℕ × List ℕ)
three_words [] = None
three_words (word ∷ rest) = option_map (λ later. (word, later.0, later.1)) (two_words rest)

abbrev pub four_words : List (List ℕ) → Option (List ℕ × List ℕ × List ℕ × List ℕ)
four_words [] = None
four_words (word ∷ rest) = option_map (λ later. (word, later.0, later.1, later.2)) (three_words rest)
