-- What a process remembers of its openers, so that it does no request twice: its receive table, how many replies it
-- keeps of each opener, and which tables it may take over from its other copy.
use Rattle.std.specs.Prelude.{◌≡◌, ℕ, ◌<◌, ◌≤◌, ◌&&◌, Bool, true, false, List, [], ◌∷◌, All, length, map, nat_le}
use Rattle.std.specs.Prelude.{nat_lt, slice_get, Option, Some, None}
use Rattle.checkpoint_image.specs.declared.receive.OpenerBlock.{OpenerBlock}
use Rattle.checkpoint_image.specs.declared.receive.ReceiveBlock.{ReceiveBlock}
use Rattle.checkpoint_image.specs.gd_words.specs.declared.limits.TheConstants.{MOST_DEPTH}

-- how many replies are kept at most of an opener
abbrev pub IsDepth : ℕ → Type 0
IsDepth depth = (1 ≤ depth) × (depth ≤ MOST_DEPTH)

-- a receive table, and for each opener its depth
pub record Remembered : Type 0 where
  pub table : ReceiveBlock
  pub depths : List ℕ

-- The beginning

-- an opener from which nothing was taken
abbrev pub untaken : OpenerBlock
untaken = record { taken = 0; kept = [] }

-- what is remembered at first of openers of these depths: nothing is taken, kept or in hand
abbrev pub nothing_taken : List ℕ → Remembered
nothing_taken depths =
    record { table = record { openers = map (λ _. untaken) depths; in_hand = None }; depths = depths }

-- Of one opener

-- the number last taken from an opener, or 0 where there is none
abbrev pub taken_in : Option OpenerBlock → ℕ
taken_in None = 0
taken_in (Some block) = block.taken

-- the number last taken from the opener at a place
abbrev pub last_taken : ReceiveBlock → ℕ → ℕ
last_taken table opener = taken_in (slice_get table.openers opener)

-- Which tables fit

-- whether no more replies are kept than the depth, nor than requests were taken
abbrev pub is_of_depth : OpenerBlock → ℕ → Bool
is_of_depth block depth = nat_le (length block.kept) depth && nat_le (length block.kept) block.taken

-- whether there is a block for each depth, and each is of its depth
abbrev pub are_of_depths : List OpenerBlock → List ℕ → Bool
are_of_depths [] [] = true
are_of_depths (block ∷ blocks) (depth ∷ depths) = is_of_depth block depth && are_of_depths blocks depths
are_of_depths _ _ = false

-- whether there is an opener that has a request without a reply: fewer replies are kept than requests were taken
abbrev pub is_unanswered : Option OpenerBlock → Bool
is_unanswered None = false
is_unanswered (Some block) = nat_lt (length block.kept) block.taken

-- whether nothing is in hand, or it is the unanswered request of an opener
abbrev pub can_hold : List OpenerBlock → Option ℕ → Bool
can_hold openers None = true
can_hold openers (Some place) = is_unanswered (slice_get openers place)

-- whether a receive table can be that of a process that remembers of the same openers
abbrev pub fits : Remembered → ReceiveBlock → Bool
fits remembered block = are_of_depths block.openers remembered.depths && can_hold block.openers block.in_hand

-- what holds of all that is remembered: there are fewer than 4096 openers, each has a depth of 1 to 4, and the table
-- fits
pub record IsSound (remembered : Remembered) : Type 0 where
  pub few : length remembered.depths < 4096
  pub depths : All IsDepth remembered.depths
  pub table : fits remembered remembered.table ≡ true
