-- Texts cut at a sign.
use Rattle.std.specs.Prelude.{ℕ, ◌==◌, List, [], ◌∷◌, Option, Some, None, if◌then◌else◌}
use Rattle.deck_lines.specs.Cuts.{front_of, back_of}

-- what stands before a sign, and what follows it
abbrev pub around_sign : List ℕ → List ℕ → Option (List ℕ × List ℕ)
around_sign front [] = None
around_sign front (c ∷ rest) = Some (front, rest)

-- what stands before the first such sign of a text, and what follows it; none where the text hasn't the sign
abbrev pub cut_at : ℕ → List ℕ → Option (List ℕ × List ℕ)
cut_at sign text = around_sign (front_of (λ c. c == sign) text) (back_of (λ c. c == sign) text)

-- the parts of a text, of which there is always a first
pub record Parts : Type 0 where
  pub first : List ℕ
  pub others : List (List ℕ)

abbrev pub one_part : List ℕ → Parts
one_part text = record { first = text; others = [] }

-- a part before others
abbrev pub parts_with : List ℕ → Parts → Parts
parts_with first parts = record { first = first; others = parts.first ∷ parts.others }

-- parts with a sign more in the first of them
abbrev pub parts_onto : ℕ → Parts → Parts
parts_onto c parts = record parts { first = c ∷ parts.first }

-- the parts of a text between all such signs
abbrev pub parts_of : ℕ → List ℕ → Parts
parts_of sign [] = one_part []
parts_of sign (c ∷ cs) = if c == sign then parts_with [] (parts_of sign cs) else parts_onto c (parts_of sign cs)

-- what follows the beginning of a text; none where the text doesn't begin so
abbrev pub rest_after : List ℕ → List ℕ → Option (List ℕ)
rest_after [] text = Some text
rest_after (p ∷ beginning) [] = None
rest_after (p ∷ beginning) (c ∷ text) = if p == c then rest_after beginning text else None
