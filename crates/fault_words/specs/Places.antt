-- Where a fault stands in a deck.
use Rattle.std.specs.Prelude.{ℕ, ◌+◌, ◌-◌, ◌==◌, List, Option, None, slice_get, if◌then◌else◌}
use Rattle.deck_lines.specs.Lines.{lines_of}
use Rattle.fault_words.specs.declared.place.FaultPlace.{FaultPlace}
use Rattle.fault_words.specs.declared.place.FaultPlace.TheVariants.{Nowhere, Line, Byte}
use Rattle.tal_tree.specs.declared.fault.DeckFault.{DeckFault}
use Rattle.tal_tree.specs.declared.fault.DeckFault.TheVariants as deck
use Rattle.tal_tree.specs.declared.fault.TalFault.{TalFault}
use Rattle.tal_tree.specs.declared.fault.TalFault.TheVariants as tal
use Rattle.tal_tree.specs.declared.place.Place.{Place}

-- line 1 of a program is the line of the deck that follows the line of its pair
abbrev pub in_program : ℕ → Place → FaultPlace
in_program pair place = Byte (pair + place.line) place.column

abbrev pub place_in_program : ℕ → TalFault → FaultPlace
place_in_program pair (tal.BadCharacter place) = in_program pair place
place_in_program pair (tal.NumberTooLarge place) = in_program pair place
place_in_program pair (tal.OpenString place) = in_program pair place
place_in_program pair (tal.NameTooLong place) = in_program pair place
place_in_program pair (tal.Expected place) = in_program pair place
place_in_program pair (tal.Unknown place) = in_program pair place
place_in_program pair (tal.Twice place) = in_program pair place
place_in_program pair (tal.WrongKind place) = in_program pair place
place_in_program pair (tal.NotBefore place) = in_program pair place
place_in_program pair (tal.Prologue place) = in_program pair place
place_in_program pair (tal.Limit which place) = in_program pair place
place_in_program pair (tal.NoMain place) = in_program pair place
place_in_program pair (tal.NoMemory _) = Nowhere

-- a deck of no lines that lacks its END has no line to show
abbrev pub last_line : ℕ → FaultPlace
last_line count = if count == 0 then Nowhere else Line count

abbrev pub place_of : DeckFault → FaultPlace
place_of (deck.Line line) = Line line
place_of (deck.Program pair fault) = place_in_program pair fault
place_of (deck.NameTwice line) = Line line
place_of (deck.UnknownName line) = Line line
place_of (deck.SameProcessor line) = Line line
place_of (deck.NoProcessor line) = Line line
place_of (deck.Limit line which) = Line line
place_of (deck.NoEnd count) = last_line count
place_of (deck.OpensItself line) = Line line
place_of deck.TooLong = Nowhere
place_of (deck.NoMemory _) = Nowhere

-- the line of this number, from 1
abbrev pub line_at : List ℕ → ℕ → Option (List ℕ)
line_at bytes number = slice_get (lines_of bytes) (number - 1)

-- the line on which a fault stands
abbrev pub line_under : List ℕ → FaultPlace → Option (List ℕ)
line_under bytes Nowhere = None
line_under bytes (Line number) = line_at bytes number
line_under bytes (Byte number column) = line_at bytes number
