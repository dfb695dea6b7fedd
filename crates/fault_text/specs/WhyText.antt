-- What is told of a deck that can't be read. Our own wording.
use Rattle.std.specs.Prelude.{ℕ, ◌-◌, List, [], ◌∷◌, ◌++◌, codes, map, flat_map, take}
use Rattle.std.specs.Prelude.{Option, Some, None}
use Rattle.std.specs.Fmt.{decimal}
use Rattle.fault_words.specs.Hints.{hint_of, hint_text}
use Rattle.fault_words.specs.Places.{line_under, place_of}
use Rattle.fault_words.specs.Sentences.{sentence_of}
use Rattle.fault_words.specs.declared.hint.Hint.{Hint}
use Rattle.fault_words.specs.declared.place.FaultPlace.{FaultPlace}
use Rattle.fault_words.specs.declared.place.FaultPlace.TheVariants.{Nowhere, Line, Byte}
use Rattle.tal_tree.specs.declared.fault.DeckFault.{DeckFault}
use Rattle.text_pieces.specs.Signs.{lead_sign, shown_sign}
use Rattle.trace_print.specs.FaultLine.{fault_line}

-- a line of the deck, four columns further in
abbrev pub shown_line : List ℕ → List ℕ
shown_line line = codes "    " ++ map shown_sign line ++ 10 ∷ []

-- a caret under the byte in this column, from 1
abbrev pub caret_line : List ℕ → ℕ → List ℕ
caret_line line column = codes "    " ++ flat_map lead_sign (take (column - 1) line) ++ codes "^" ++ 10 ∷ []

abbrev pub caret_under : FaultPlace → List ℕ → List ℕ
caret_under (Byte number column) line = caret_line line column
caret_under _ line = []

-- the line on which a fault stands, where there is one
abbrev pub pointed_line : FaultPlace → Option (List ℕ) → List ℕ
pointed_line place None = []
pointed_line place (Some line) = shown_line line ++ caret_under place line

-- the number of the line, as an editor counts it
abbrev pub place_line : FaultPlace → List ℕ
place_line Nowhere = []
place_line (Line number) = codes "line " ++ decimal number ++ codes ":" ++ 10 ∷ []
place_line (Byte number column) =
    codes "line " ++ decimal number ++ codes ", column " ++ decimal column ++ codes ":" ++ 10 ∷ []

-- what often lies behind it
abbrev pub hint_line : Option Hint → List ℕ
hint_line None = []
hint_line (Some hint) = codes "hint: " ++ hint_text hint ++ 10 ∷ []

abbrev pub hint_under : DeckFault → Option (List ℕ) → Option Hint
hint_under fault None = None
hint_under fault (Some line) = hint_of fault line

-- the fault, told by the line on which it stands
abbrev pub told_under : DeckFault → Option (List ℕ) → List ℕ
told_under fault line =
    codes "error: " ++ sentence_of fault ++ 10 ∷ place_line (place_of fault) ++ pointed_line (place_of fault) line
    ++ hint_line (hint_under fault line) ++ codes "guardian: "

abbrev pub told_text : List ℕ → DeckFault → List ℕ
told_text bytes fault = told_under fault (line_under bytes (place_of fault))

-- and behind it the line that `guardian` writes
abbrev pub why_text : List ℕ → DeckFault → List ℕ
why_text bytes fault = told_text bytes fault ++ fault_line fault
