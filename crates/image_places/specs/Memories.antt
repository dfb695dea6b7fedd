-- What a program has in its memory, by the words of its images.
use Rattle.std.specs.Option.{option_and_then, unwrap_or}
use Rattle.std.specs.Prelude.{ℤ, if◌then◌else◌, List, [], ◌∷◌, ◌++◌, drop, Option, Some, None}
use Rattle.process_semantics.specs.Words.{Front, count_in, words_in}
use Rattle.process_semantics.specs.tal_values.specs.Value.{Memory}
use Rattle.tal_tree.specs.Shapes.{has_words, width}
use Rattle.tal_tree.specs.declared.program.Item.{Item}
use Rattle.tal_tree.specs.declared.program.Program.{Program}
use Rattle.tal_tree.specs.declared.program.Shape.{Shape}
use Rattle.image_places.specs.Running.{Running, running_in}

abbrev pub locals_of : Front Running → List ℤ
locals_of None = []
locals_of (Some (frame, left)) = frame.locals

-- the locals of the procedure that runs
abbrev pub locals_in : Program → List ℤ → List ℤ
locals_in program words = locals_of (running_in program words)

-- the words of an item that words begin with, behind its number; a file has neither
abbrev pub global_in : Shape → List ℤ → Front (List ℤ)
global_in shape words =
    if has_words shape then option_and_then (λ (number, left). words_in (width shape) left) (count_in words)
    else Some ([], words)

-- the words of these items, where those of others stand before them
abbrev pub globals_from : List Item → List ℤ → List (List ℤ) → Option (List (List ℤ))
globals_from [] words before = Some before
globals_from (item ∷ items) words before =
    option_and_then (λ (own, left). globals_from items left (before ++ own ∷ [])) (global_in item.shape words)

-- the words of all items, by an image with everything of a program that has ended: that no procedure runs in it, how
-- many items there are, and the items
abbrev pub globals_in : Program → List ℤ → List (List ℤ)
globals_in program words = unwrap_or (globals_from program.items (drop 2 words) []) []

-- what a procedure with these locals reads where the items have these words
abbrev pub memory_with : Program → List (List ℤ) → List ℤ → Memory
memory_with program globals locals = record { items = program.items; globals = globals; locals = locals }

-- what the statement read that came next by the first image; the other one, with everything, is of the end that came
-- of it. For a trap changes no word
abbrev pub memory_in : Program → List ℤ → List ℤ → Memory
memory_in program words everything =
    memory_with program (globals_in program everything) (locals_in program words)
