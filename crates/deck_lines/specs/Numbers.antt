-- The numbers of a deck.
use Rattle.std.specs.Prelude.{ℕ, Bool, ◌==◌, ◌&&◌, nat_le, List, [], ◌∷◌, length, Option, Some, None}
use Rattle.std.specs.Prelude.{if◌then◌else◌, ℤ, pos, neg_ℤ}
use Rattle.std.specs.Char.{is_ascii_digit}
use Rattle.std.specs.List.{list_all}
use Rattle.gd_words.specs.Digits.{value_from}

-- what decimal digits stand for
abbrev pub digits_value : List ℕ → ℕ
digits_value digits = value_from 10 0 digits

-- one to `most` decimal digits
abbrev pub are_digits : ℕ → List ℕ → Bool
are_digits most word = nat_le 1 (length word) && nat_le (length word) most && list_all is_ascii_digit word

-- a number: one to nine digits, zeros before it allowed
abbrev pub written_number : List ℕ → Option ℕ
written_number word = if are_digits 9 word then Some (digits_value word) else None

-- a number of five digits at most, where it isn't above a bound
abbrev pub small_of : ℕ → List ℕ → Option ℕ
small_of most word = if are_digits 5 word && nat_le (digits_value word) most then Some (digits_value word) else None

abbrev pub as_positive : Option ℕ → Option ℤ
as_positive None = None
as_positive (Some n) = Some (pos n)

abbrev pub as_negative : Option ℕ → Option ℤ
as_negative None = None
as_negative (Some n) = Some (neg_ℤ (pos n))

-- a word of a request: one to five digits, `-` before them where it is negative, from -32,768 to 32,767
abbrev pub word_of : List ℕ → Option ℤ
word_of [] = None
word_of (c ∷ cs) = if c == 45 then as_negative (small_of 32768 cs) else as_positive (small_of 32767 (c ∷ cs))
