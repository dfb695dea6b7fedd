-- How much of what was shown are writes, and how much are replies.
use Rattle.std.specs.Prelude.{ℕ, ◌+◌, Bool, true, false, if◌then◌else◌, List, [], ◌∷◌}
use Rattle.tal_tree.specs.declared.act.Shown.{Shown}
use Rattle.tal_tree.specs.declared.act.Shown.TheVariants as shown

abbrev pub is_write : Shown → Bool
is_write (shown.Write process sector words) = true
is_write (shown.Reply terminal number words) = false

abbrev pub writes_in : List Shown → ℕ
writes_in [] = 0
writes_in (one ∷ rest) = (if is_write one then 1 else 0) + writes_in rest

abbrev pub replies_in : List Shown → ℕ
replies_in [] = 0
replies_in (one ∷ rest) = (if is_write one then 0 else 1) + replies_in rest
