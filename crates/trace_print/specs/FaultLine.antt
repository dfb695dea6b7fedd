-- The line of a deck's fault.
use Rattle.std.specs.Prelude.{ℕ, List, [], ◌∷◌, ◌++◌, codes}
use Rattle.tal_tree.specs.LimitNumbers.{deck_limit_number}
use Rattle.tal_tree.specs.declared.fault.DeckFault.{DeckFault}
use Rattle.tal_tree.specs.declared.fault.DeckFault.TheVariants.{Line, Program, NameTwice, UnknownName, SameProcessor}
use Rattle.tal_tree.specs.declared.fault.DeckFault.TheVariants.{NoProcessor, Limit, NoEnd, OpensItself, TooLong}
use Rattle.tal_tree.specs.declared.fault.DeckFault.TheVariants.{NoMemory}
use Rattle.trace_print.specs.NumbersText.{numbers_text}
use Rattle.trace_print.specs.TalNumbers.{IsOfText, tal_numbers}

-- a fault of the deck itself, and not that memory ran out
abbrev pub IsOfDeck : DeckFault → Type 0
IsOfDeck (Program line fault) = IsOfText fault
IsOfDeck (NoMemory _) = ⊥
IsOfDeck _ = Unit {0}

-- the deck's line, 0 where the fault stands on none; the fault's number; and what else is told of it
abbrev pub fault_numbers : DeckFault → List ℕ
fault_numbers (Line line) = line ∷ 1 ∷ []
fault_numbers (Program line fault) = line ∷ 2 ∷ tal_numbers fault
fault_numbers (NameTwice line) = line ∷ 3 ∷ []
fault_numbers (UnknownName line) = line ∷ 4 ∷ []
fault_numbers (SameProcessor line) = line ∷ 5 ∷ []
fault_numbers (NoProcessor line) = line ∷ 6 ∷ []
fault_numbers (Limit line limit) = line ∷ 7 ∷ deck_limit_number limit ∷ []
fault_numbers (NoEnd line) = line ∷ 8 ∷ []
fault_numbers (OpensItself line) = line ∷ 9 ∷ []
fault_numbers TooLong = 0 ∷ 10 ∷ []
fault_numbers (NoMemory _) = []

-- `DECK` and the fault's numbers
abbrev pub fault_line : DeckFault → List ℕ
fault_line fault = codes "DECK" ++ numbers_text (fault_numbers fault) ++ 10 ∷ []
