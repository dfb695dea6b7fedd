-- How many ends of a node hold something. Only this crate's own code sees this.
use Rattle.std.specs.Prelude.{ℕ, ◌+◌, Bool, true, false, not, List, [], ◌∷◌}
use Rattle.link_control.specs.Ends.{End, is_empty}

abbrev pub one_if : Bool → ℕ
one_if true = 1
one_if false = 0

-- how many of these ends have something outstanding or queued
abbrev pub holding_in : List End → ℕ
holding_in [] = 0
holding_in (e ∷ ends) = one_if (not (is_empty e)) + holding_in ends
