-- The words that globals have.
use Rattle.std.specs.Prelude.{ℕ, ◌+◌, ◌-ℤ◌, unsigned_abs, Bool, true, false}
use Rattle.tal_tree.specs.declared.program.Shape.{Shape}
use Rattle.tal_tree.specs.declared.program.Shape.TheVariants as shape

-- how many words a global has: a simple one, an array one for each of its places, a file none
abbrev pub width : Shape → ℕ
width shape.Simple = 1
width (shape.Array low high) = unsigned_abs (high -ℤ low) + 1
width (shape.File file) = 0

-- whether a global may be listed: a file has no words
abbrev pub has_words : Shape → Bool
has_words shape.Simple = true
has_words (shape.Array low high) = true
has_words (shape.File file) = false
