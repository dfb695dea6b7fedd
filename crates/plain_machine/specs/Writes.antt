-- The numbers of the writes of discs, which have 32 bits, and how many acts lines make at most, each of which raises
-- one by 1 at most.
use Rattle.std.specs.Prelude.{ℕ, ◌+◌, ◌*◌, ◌<◌, max, List, [], ◌∷◌, length}
use Rattle.checkpoint_image.specs.Behaving.{last_write_of}
use Rattle.schedule.specs.declared.line.Line.{Line}
use Rattle.schedule.specs.declared.line.Line.TheVariants.{One, Many, Drain, Mix, Mute, Until}
use Rattle.tal_tree.specs.declared.site.Site.{Site}
use Rattle.plain_semantics.specs.Machine.{Plain, PlainProcess}

-- the greatest number of a write of these processes, 0 where there was none
abbrev pub most_write : List PlainProcess → ℕ
most_write [] = 0
most_write (one ∷ rest) = max (last_write_of one.state) (most_write rest)

-- so many acts more have numbers for their writes
abbrev pub HasRoomFor : ℕ → Plain → Type 0
HasRoomFor acts plain = most_write plain.processes + acts < 4294967296

-- how many acts a round makes at most
abbrev pub round_acts : Site → ℕ
round_acts site = length site.terminals + length site.processes + length site.terminals

-- how many acts a line makes at most; what it asks for that this machine has not makes none
abbrev pub line_acts : Site → Line → ℕ
line_acts site (One event) = 1
line_acts site (Many event times) = times
line_acts site (Drain rounds) = rounds * round_acts site
line_acts site (Mix start rounds) = 0
line_acts site (Mute node rounds) = 0
line_acts site (Until writes count rounds) = 0

-- how many acts lines make at most
abbrev pub lines_acts : Site → List Line → ℕ
lines_acts site [] = 0
lines_acts site (line ∷ lines) = line_acts site line + lines_acts site lines
