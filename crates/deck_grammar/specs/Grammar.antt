-- The grammar of decks: which lines a deck's text has, and in which order. The forms are our own.
--
--     processors N
--     { disc NAME P B SECTORS | pair NAME P B, the lines of a program, a point | terminal NAME TARGET { send w1 .. wk }
-- }
--     schedule
--     { an event line }
--     END
use Rattle.std.specs.Prelude.{◌≡◌, ◌⊎◌, ℕ, ℤ, Bool, List, [], ◌∷◌, ◌++◌, map, flat_map, codes}
use Rattle.deck_lines.specs.SayingOf.{saying_of}
use Rattle.deck_lines.specs.declared.event_saying.EventSaying.{EventSaying}
use Rattle.deck_lines.specs.declared.saying.Placing.{Placing}
use Rattle.deck_lines.specs.declared.saying.Saying.{Saying}
use Rattle.deck_lines.specs.declared.saying.Saying.TheVariants as said

-- a block: a disc with its sectors, mirrored or not, a pair with the lines of its program, or a terminal with the name
-- of the process that it asks and its requests
pub data Block : Type 0 where
  Disc : Placing → ℕ → Bool → Block
  Pair : Placing → List (List ℕ) → Block
  Terminal : List ℕ → List ℕ → List (List ℤ) → Block

-- what a line is: one of a program, or one that says something
pub data Item : Type 0 where
  Program : List ℕ → Item
  Says : Saying → Item

-- a program ends before the first line that is a point alone
abbrev pub point : List ℕ
point = codes "."

-- the text of lines, each with its line feed
abbrev pub text_of : List (List ℕ) → List ℕ
text_of lines = flat_map (λ line. line ++ 10 ∷ []) lines

-- the lines of a block
abbrev pub block_items : Block → List Item
block_items (Disc placing sectors mirrored) = Says (said.Disc placing sectors mirrored) ∷ []
block_items (Pair placing program) = Says (said.Pair placing) ∷ map Program (program ++ point ∷ [])
block_items (Terminal name target requests) =
    Says (said.Terminal name target) ∷ map (λ words. Says (said.Send words)) requests

-- the lines of the schedule, and END
abbrev pub schedule_items : List EventSaying → List Item
schedule_items events = Says said.Schedule ∷ map (λ event. Says (said.Event event)) events ++ Says said.End ∷ []

-- all lines
abbrev pub deck_items : ℕ → List Block → List EventSaying → List Item
deck_items processors blocks events =
    Says (said.Processors processors) ∷ flat_map block_items blocks ++ schedule_items events

-- lines are these, one after another. Before a line that says something, and at the end, there may be lines that say
-- nothing: empty ones and remarks
abbrev pub AreItems : List (List ℕ) → List Item → Type 0
AreItems [] [] = Unit {0}
AreItems [] (item ∷ items) = ⊥
AreItems (line ∷ lines) [] = (saying_of line ≡ said.Nothing) × AreItems lines []
AreItems (line ∷ lines) (Program text ∷ items) = (line ≡ text) × AreItems lines items
AreItems (line ∷ lines) (Says saying ∷ items) =
    ((saying_of line ≡ saying) × AreItems lines items)
    ⊎ ((saying_of line ≡ said.Nothing) × AreItems lines (Says saying ∷ items))
