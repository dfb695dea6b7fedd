-- Numbers and words as a report writes them: in decimal digits, without zeros before them. Our own rule.
use Rattle.std.specs.Prelude.{ℕ, ◌+◌, Bool, true, false, not, ◌==◌, ◌&&◌, ◌||◌, nat_le, List, [], ◌∷◌, length, Option}
use Rattle.std.specs.Prelude.{Some, None, is_some, if◌then◌else◌}
use Rattle.std.specs.Char.{is_ascii_digit}
use Rattle.std.specs.List.{list_all}
use Rattle.deck_lines.specs.Numbers.{digits_value, word_of}
use Rattle.report_reader.specs.Parts.{Parts, parts_of}

abbrev pub begins_with_zero : List ℕ → Bool
begins_with_zero [] = false
begins_with_zero (c ∷ cs) = c == 48

-- no zero stands before other digits
abbrev pub is_plain : List ℕ → Bool
is_plain digits = not (begins_with_zero digits) || (length digits == 1)

-- whether it is one to ten decimal digits, no zero before others
abbrev pub is_numeral : List ℕ → Bool
is_numeral text = nat_le 1 (length text) && nat_le (length text) 10 && list_all is_ascii_digit text && is_plain text

-- a number of 32 bits
abbrev pub number_told : List ℕ → Option ℕ
number_told text =
    if is_numeral text then (if nat_le (digits_value text) 4294967295 then Some (digits_value text) else None) else None

-- no zero stands before other digits, and none after `-`
abbrev pub is_plain_word : List ℕ → Bool
is_plain_word [] = true
is_plain_word (c ∷ cs) = if c == 45 then not (begins_with_zero cs) else is_plain (c ∷ cs)

-- whether it is a word, from -32,768 to 32,767
abbrev pub is_word : List ℕ → Bool
is_word text = is_plain_word text && is_some (word_of text)

-- how many words these parts are; none where one is no word
abbrev pub are_words : Parts → Option ℕ
are_words parts = if is_word parts.first && list_all is_word parts.others then Some (1 + length parts.others) else None

-- how many words parts have that stand each after a space; none where one is no word
abbrev pub words_in : Parts → Option ℕ
words_in parts = if (length parts.first == 0) && list_all is_word parts.others then Some (length parts.others) else None

-- how many words a text has, each after a space
abbrev pub word_count : List ℕ → Option ℕ
word_count text = words_in (parts_of 32 text)
