-- The numbers that tell of a program text's fault.
use Rattle.std.specs.Prelude.{ℕ, List, [], ◌∷◌}
use Rattle.tal_tree.specs.LimitNumbers.{program_limit_number}
use Rattle.tal_tree.specs.declared.place.Place.{Place}
use Rattle.tal_tree.specs.declared.fault.TalFault.{TalFault}
use Rattle.tal_tree.specs.declared.fault.TalFault.TheVariants.{BadCharacter, NumberTooLarge, OpenString, NameTooLong}
use Rattle.tal_tree.specs.declared.fault.TalFault.TheVariants.{Expected, Unknown, Twice, WrongKind, NotBefore, Prologue}
use Rattle.tal_tree.specs.declared.fault.TalFault.TheVariants.{Limit, NoMain, NoMemory}

-- a fault of the text itself, and not that memory ran out
abbrev pub IsOfText : TalFault → Type 0
IsOfText (NoMemory _) = ⊥
IsOfText _ = Unit {0}

-- its number, its line and its column
abbrev pub placed : ℕ → Place → List ℕ
placed number place = number ∷ place.line ∷ place.column ∷ []

-- and for a limit, which
abbrev pub tal_numbers : TalFault → List ℕ
tal_numbers (BadCharacter place) = placed 1 place
tal_numbers (NumberTooLarge place) = placed 2 place
tal_numbers (OpenString place) = placed 3 place
tal_numbers (NameTooLong place) = placed 4 place
tal_numbers (Expected place) = placed 5 place
tal_numbers (Unknown place) = placed 6 place
tal_numbers (Twice place) = placed 7 place
tal_numbers (WrongKind place) = placed 8 place
tal_numbers (NotBefore place) = placed 9 place
tal_numbers (Prologue place) = placed 10 place
tal_numbers (Limit limit place) = 11 ∷ place.line ∷ place.column ∷ program_limit_number limit ∷ []
tal_numbers (NoMain place) = placed 12 place
tal_numbers (NoMemory _) = []
