-- How the signs of a line are shown. Our own.
use Rattle.std.specs.Prelude.{ℕ, not, ◌==◌, ◌||◌, ◌&&◌, nat_le, List, [], ◌∷◌, if◌then◌else◌}

-- a sign as it is shown: a tab stays, and any other control sign is `?`, so that no line moves a terminal's cursor
abbrev pub shown_sign : ℕ → ℕ
shown_sign c = if (nat_le c 31 && not (c == 9)) || (c == 127) then 63 else c

-- what stands under a sign before a caret: a tab under a tab, a space under another, and nothing under the later bytes
-- of a sign of UTF-8
abbrev pub lead_sign : ℕ → List ℕ
lead_sign c = if c == 9 then 9 ∷ [] else if nat_le 128 c && nat_le c 191 then [] else 32 ∷ []
