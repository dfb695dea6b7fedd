-- How names are spelled and kept.
use Rattle.std.specs.Prelude.{ℕ, ◌-◌, Bool, false, not, ◌||◌, ◌&&◌, ◌==◌, nat_le, List, [], ◌∷◌, ◌++◌, length, map}
use Rattle.std.specs.Prelude.{replicate, Option, Some, None, if◌then◌else◌}
use Rattle.std.specs.List.{list_all}
use Rattle.std.specs.Char.{is_ascii_alphabetic, is_ascii_alphanumeric, is_ascii_digit, to_ascii_uppercase}

-- a text as it is kept: its letters in upper case
abbrev pub upper : List ℕ → List ℕ
upper text = map to_ascii_uppercase text

-- what stands after the `$` of a name: one to five letters or digits, a letter first
abbrev pub is_name_tail : List ℕ → Bool
is_name_tail [] = false
is_name_tail (first ∷ rest) = is_ascii_alphabetic first && nat_le (length rest) 4 && list_all is_ascii_alphanumeric rest

abbrev pub is_name : List ℕ → Bool
is_name [] = false
is_name (sign ∷ tail) = (sign == 36) && is_name_tail tail

-- the name that a text spells: of a process or a terminal
abbrev pub name_of : List ℕ → Option (List ℕ)
name_of text = if is_name text then Some (upper text) else None

-- a sign of an identifier: a letter, a digit, `_` or `^`
abbrev pub is_ident_sign : ℕ → Bool
is_ident_sign c = is_ascii_alphanumeric c || (c == 95) || (c == 94)

abbrev pub is_ident : List ℕ → Bool
is_ident [] = false
is_ident (first ∷ rest) = not (is_ascii_digit first) && nat_le (length rest) 30 && list_all is_ident_sign (first ∷ rest)

-- the identifier that a text spells: of TAL
abbrev pub ident_of : List ℕ → Option (List ℕ)
ident_of text = if is_ident text then Some (upper text) else None

-- a text in n places, zeros after it
abbrev pub text_with_zeros : ℕ → List ℕ → List ℕ
text_with_zeros n text = text ++ replicate (n - length text) 0
