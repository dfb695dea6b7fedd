-- The lines of blocks and of the schedule, one after another.
use Rattle.std.proofs.Common.{◌≡◌, ◌⊎◌, ℕ, ℤ, List, [], ◌∷◌, ◌++◌, map, flat_map, refl, ap, ◌∙◌, inr, append_assoc}
use Rattle.deck_lines.specs.SayingOf.{saying_of}
use Rattle.deck_lines.specs.declared.event_saying.EventSaying.{EventSaying}
use Rattle.deck_lines.specs.declared.saying.Saying.{Saying}
use Rattle.deck_lines.specs.declared.saying.Saying.TheVariants as said
use Rattle.deck_grammar.specs.Grammar.{AreItems, Block, Disc, Item, Pair, Program, Says, Terminal, block_items, point}
use Rattle.deck_grammar.specs.Grammar.{schedule_items}

-- the lines of blocks, and what follows them
abbrev pub body_items : List Block → List EventSaying → List Item
body_items [] events = schedule_items events
body_items (block ∷ blocks) events = block_items block ++ body_items blocks events

pub body-is : (blocks : List Block) (events : List EventSaying)
    → flat_map block_items blocks ++ schedule_items events ≡ body_items blocks events
body-is [] events = refl
body-is (block ∷ blocks) events =
    append_assoc (block_items block) (flat_map block_items blocks) (schedule_items events)
    ∙ ap (λ rest. block_items block ++ rest) (body-is blocks events)

-- event lines, and END
abbrev pub event_items : List EventSaying → List Item
event_items events = map (λ event. Says (said.Event event)) events ++ Says said.End ∷ []

-- requests, and what follows them
abbrev pub request_items : List (List ℤ) → List Item → List Item
request_items requests rest = map (λ words. Says (said.Send words)) requests ++ rest

-- the lines of a program with its point, and what follows them
abbrev pub program_items : List (List ℕ) → List Item → List Item
program_items lines rest = map Program (lines ++ point ∷ []) ++ rest

-- what the first line of blocks says, and the lines after it
abbrev pub first_saying : List Block → Saying
first_saying [] = said.Schedule
first_saying (Disc placing sectors mirrored ∷ blocks) = said.Disc placing sectors mirrored
first_saying (Pair placing lines ∷ blocks) = said.Pair placing
first_saying (Terminal name target requests ∷ blocks) = said.Terminal name target

abbrev pub after_first : List Block → List EventSaying → List Item
after_first [] events = event_items events
after_first (Disc placing sectors mirrored ∷ blocks) events = body_items blocks events
after_first (Pair placing lines ∷ blocks) events = program_items lines (body_items blocks events)
after_first (Terminal name target requests ∷ blocks) events = request_items requests (body_items blocks events)

-- a line that says this and then these, or a line that says nothing before all of them
abbrev pub StartsWith : List ℕ → List (List ℕ) → Saying → List Item → List Item → Type 0
StartsWith line lines saying rest all =
    ((saying_of line ≡ saying) × AreItems lines rest) ⊎ ((saying_of line ≡ said.Nothing) × AreItems lines all)

pub body_starts : (line : List ℕ) (lines : List (List ℕ)) (blocks : List Block) (events : List EventSaying)
    → AreItems (line ∷ lines) (body_items blocks events)
    → StartsWith line lines (first_saying blocks) (after_first blocks events) (body_items blocks events)
body_starts line lines [] events are = are
body_starts line lines (Disc placing sectors mirrored ∷ blocks) events are = are
body_starts line lines (Pair placing program ∷ blocks) events are = are
body_starts line lines (Terminal name target requests ∷ blocks) events are = are

-- a line that says nothing may stand before them
pub before_body : (line : List ℕ) (lines : List (List ℕ)) (blocks : List Block) (events : List EventSaying)
    → saying_of line ≡ said.Nothing → AreItems lines (body_items blocks events)
    → AreItems (line ∷ lines) (body_items blocks events)
before_body line lines [] events silent are = inr (silent, are)
before_body line lines (Disc placing sectors mirrored ∷ blocks) events silent are = inr (silent, are)
before_body line lines (Pair placing program ∷ blocks) events silent are = inr (silent, are)
before_body line lines (Terminal name target requests ∷ blocks) events silent are = inr (silent, are)

pub before_requests : (line : List ℕ) (lines : List (List ℕ)) (requests : List (List ℤ)) (blocks : List Block)
    (events : List EventSaying)
    → saying_of line ≡ said.Nothing → AreItems lines (request_items requests (body_items blocks events))
    → AreItems (line ∷ lines) (request_items requests (body_items blocks events))
before_requests line lines [] blocks events silent are = before_body line lines blocks events silent are
before_requests line lines (words ∷ requests) blocks events silent are = inr (silent, are)

pub before_events : (line : List ℕ) (lines : List (List ℕ)) (events : List EventSaying)
    → saying_of line ≡ said.Nothing → AreItems lines (event_items events) → AreItems (line ∷ lines) (event_items events)
before_events line lines [] silent are = inr (silent, are)
before_events line lines (event ∷ events) silent are = inr (silent, are)

-- one more line of a text
pub more_text : (text line rest : List ℕ) → (text ++ line ++ 10 ∷ []) ++ rest ≡ text ++ ((line ++ 10 ∷ []) ++ rest)
more_text text line rest =
    ap (λ (t : List ℕ). t ++ rest) (append_assoc text line (10 ∷ [])) ∙ append_assoc text (line ++ 10 ∷ []) rest

-- lines have to be there
pub no_body : (blocks : List Block) (events : List EventSaying) → AreItems [] (body_items blocks events) → ⊥
no_body [] events are = are
no_body (Disc placing sectors mirrored ∷ blocks) events are = are
no_body (Pair placing program ∷ blocks) events are = are
no_body (Terminal name target requests ∷ blocks) events are = are

pub no_requests : (requests : List (List ℤ)) (blocks : List Block) (events : List EventSaying)
    → AreItems [] (request_items requests (body_items blocks events)) → ⊥
no_requests [] blocks events are = no_body blocks events are
no_requests (words ∷ requests) blocks events are = are

pub no_program : (lines : List (List ℕ)) (rest : List Item) → AreItems [] (program_items lines rest) → ⊥
no_program [] rest are = are
no_program (line ∷ lines) rest are = are

pub no_events : (events : List EventSaying) → AreItems [] (event_items events) → ⊥
no_events [] are = are
no_events (event ∷ events) are = are
