-- The words of globals that differ between two images of a program with all of its globals: behind the frames and the
-- count of the globals that have words, each of these stands with its number and its words.
use Rattle.std.specs.Ordering.{int_eq}
use Rattle.std.specs.Prelude.{ℕ, ◌+◌, ℤ, if◌then◌else◌, List, [], ◌∷◌, ◌++◌, take, drop, Some, None}
use Rattle.image_places.specs.Running.{Running, running_in}
use Rattle.process_semantics.specs.Words.{Front}
use Rattle.tal_tree.specs.Shapes.{has_words, width}
use Rattle.tal_tree.specs.declared.program.Item.{Item}
use Rattle.tal_tree.specs.declared.program.Program.{Program}
use Rattle.global_changes.specs.declared.changes.WordSet.{WordSet}

-- a word that stands at a place of a global, if it is another one than before
abbrev pub word_set : ℕ → ℕ → ℤ → ℤ → List WordSet
word_set item place before after =
    if int_eq before after then [] else record { item = item; place = place; value = after } ∷ []

-- the words of a global from a place on
abbrev pub item_set : ℕ → ℕ → List ℤ → List ℤ → List WordSet
item_set item place [] after = []
item_set item place (word ∷ before) [] = []
item_set item place (word ∷ before) (now ∷ after) =
    word_set item place word now ++ item_set item (place + 1) before after

-- the words of a global behind its number
abbrev pub own_words : ℕ → List ℤ → List ℤ
own_words width words = take width (drop 1 words)

abbrev pub later_words : ℕ → List ℤ → List ℤ
later_words width words = drop width (drop 1 words)

-- the words of globals, of which the first has this number
abbrev pub items_set : ℕ → List Item → List ℤ → List ℤ → List WordSet
items_set number [] before after = []
items_set number (item ∷ items) before after =
    if has_words item.shape
    then item_set number 0 (own_words (width item.shape) before) (own_words (width item.shape) after)
    ++ items_set (number + 1) items (later_words (width item.shape) before) (later_words (width item.shape) after)
    else items_set (number + 1) items before after

abbrev pub behind_count : Front Running → List ℤ
behind_count None = []
behind_count (Some (frame, left)) = drop 1 left

-- the words of the globals in an image; none where no procedure runs
abbrev pub globals_in : Program → List ℤ → List ℤ
globals_in program words = behind_count (running_in program words)

-- the words of globals that aren't the same in the second image as in the first
abbrev pub words_set : Program → List ℤ → List ℤ → List WordSet
words_set program before after =
    items_set 0 program.items (globals_in program before) (globals_in program after)
