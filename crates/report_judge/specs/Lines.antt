-- The lines of a text, and the first in which two texts differ.
use Rattle.std.specs.Prelude.{◌≡◌, ◌≢◌, ◌<◌, ℕ, zero, suc, ◌+◌, ◌==◌, List, [], ◌∷◌, ◌++◌, length, Option, Some, None}
use Rattle.std.specs.Prelude.{if◌then◌else◌}
use Rattle.deck_lines.specs.Lines.{before_first}

-- the lines of a text, each with the line feed that ends it, which the last one may lack
abbrev pub lines_of : List ℕ → List (List ℕ)
lines_of [] = []
lines_of (c ∷ cs) = if c == 10 then (c ∷ []) ∷ lines_of cs else before_first c (lines_of cs)

-- how long the first line is
abbrev pub line_length : List ℕ → ℕ
line_length [] = zero
line_length (c ∷ cs) = if c == 10 then suc zero else suc (line_length cs)

-- the first line of a text, and what follows it
pub record IsFirstLine (text line rest : List ℕ) : Type 0 where
  pub whole : text ≡ line ++ rest
  pub lines : lines_of text ≡ line ∷ lines_of rest
  pub shorter : length rest < length text

abbrev pub first_in : List (List ℕ) → Option (List ℕ)
first_in [] = None
first_in (line ∷ lines) = Some line

-- the lines before the one of this number, from 1, are the same, and those of this number aren't; one of the two may be
-- missing
pub record IsFirstDifference (one other : List (List ℕ)) (number : ℕ) : Type 0 where
  pub same : List (List ℕ)
  pub one_rest : List (List ℕ)
  pub other_rest : List (List ℕ)
  pub one_is : one ≡ same ++ one_rest
  pub other_is : other ≡ same ++ other_rest
  pub differ : first_in one_rest ≢ first_in other_rest
  pub counted : number ≡ length same + 1
