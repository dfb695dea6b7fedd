-- The words of an image, by which a process that watches gets the state of one that acts, and the state that such words
-- restore.
use Rattle.std.specs.List.{flat_map}
use Rattle.std.specs.Option.{option_map, option_and_then}
use Rattle.std.specs.Prelude.{ℕ, ℤ, pos, Bool, true, false, ◌&&◌, if◌then◌else◌, List, [], ◌∷◌, ◌++◌, length, slice_get}
use Rattle.std.specs.Prelude.{slice_set, Option, Some, None, zero, suc, ◌==◌, not, reverse}
use Rattle.tal_values.specs.gd_words.specs.Members.{is_among}
use Rattle.tal_values.specs.tal_tree.specs.Shapes.{width, has_words}
use Rattle.tal_values.specs.tal_tree.specs.declared.program.Item.{Item}
use Rattle.tal_values.specs.tal_tree.specs.declared.program.Procedure.{Procedure}
use Rattle.tal_values.specs.tal_tree.specs.declared.program.Program.{Program}
use Rattle.tal_values.specs.tal_tree.specs.declared.statement.Statement.{Statement}
use Rattle.tal_values.specs.tal_tree.specs.declared.statement.What.{What, What-F}
use Rattle.process_semantics.specs.declared.disc.DiscState.{DiscState}
use Rattle.process_semantics.specs.declared.point.Point.{Point}
use Rattle.process_semantics.specs.declared.point.Point.TheVariants.{Take, Answer, AtCheckpoint, Device}
use Rattle.process_semantics.specs.Process.{ProcessState, Runs, Serves, point, after_checkpoint}
use Rattle.process_semantics.specs.Rests.{next_number, rest_from}
use Rattle.process_semantics.specs.State.{Entry, Frame, ProgramState, words_of, in_next, called_by}
use Rattle.process_semantics.specs.Words.{with_count_in, long, counted_if, Front, count_in, words_in, whole, long_in}

-- The words of a program's state

-- a frame: its procedure, the number that comes next, or that of the call in progress, and its locals
abbrev pub frame_words : Frame → List ℤ
frame_words frame = pos frame.procedure ∷ pos (next_number frame.rest) ∷ frame.locals

-- an item: its number and its words
abbrev pub item_words : ProgramState → ℕ → List ℤ
item_words s item = pos item ∷ words_of s.globals item

-- the frames from MAIN up, then the items of a list with their words
abbrev pub program_words : List ℕ → ProgramState → List ℤ
program_words items s =
    pos (length s.frames) ∷ flat_map frame_words (reverse s.frames)
    ++ pos (length items) ∷ flat_map (item_words s) items

-- The words of a disc's state

-- the request in hand, the last write's number, and the reply
abbrev pub disc_words : DiscState → List ℤ
disc_words s = counted_if s.request ++ long s.last_write ++ counted_if s.reply

-- Images

-- the state that an image is of, at this point
abbrev pub imaged_at : ProcessState → Point → ProcessState
imaged_at s AtCheckpoint = after_checkpoint s
imaged_at s _ = s

-- the state that an image is of: at a checkpoint the one after it
abbrev pub state_in_image : ProcessState → ProcessState
state_in_image s = imaged_at s (point s)

-- the words of a state, with the items of a list
abbrev pub state_words : List ℕ → ProcessState → List ℤ
state_words items (Runs code s) = program_words items s
state_words items (Serves sectors s) = disc_words s

-- the words of an image with the items of a list; a disc has none
abbrev pub image_of : List ℕ → ProcessState → List ℤ
image_of items s = state_words items (state_in_image s)

-- the items that a CHECKPOINT names
abbrev pub listed_items_in : What-F What Statement → List ℕ
listed_items_in (What-F.Checkpoint items files) = items
listed_items_in _ = []

-- the files that a CHECKPOINT names
abbrev pub listed_files_in : What-F What Statement → List ℕ
listed_files_in (What-F.Checkpoint items files) = files
listed_files_in _ = []

-- the items and the files that a process at AtCheckpoint names
abbrev pub listed_items : ProcessState → List ℕ
listed_items (Runs code s) = in_next [] listed_items_in s.frames
listed_items (Serves sectors s) = []

-- the files that a process at AtCheckpoint names
abbrev pub listed_files : ProcessState → List ℕ
listed_files (Runs code s) = in_next [] listed_files_in s.frames
listed_files (Serves sectors s) = []

-- Restoring. Each part takes its words from the front and leaves the others

-- a frame, where what remains and the locals are there
abbrev pub frame_with : ℕ → Option (List Entry) → Front (List ℤ) → Front Frame
frame_with procedure (Some rest) (Some (locals, left)) =
    Some (record { procedure = procedure; locals = locals; rest = rest }, left)
frame_with procedure _ _ = None

-- a frame of this procedure
abbrev pub frame_of_words : ℕ → Option Procedure → Front ℕ → Front Frame
frame_of_words number (Some procedure) (Some (next, left)) =
    frame_with number (rest_from procedure.body next) (words_in (length procedure.locals) left)
frame_of_words number _ _ = None

-- a frame: its procedure is one of the program's, and the number stands in the procedure
abbrev pub frame_in : Program → List ℤ → Front Frame
frame_in program words = option_and_then
    (λ (number, left). frame_of_words number (slice_get program.procedures number) (count_in left)) (count_in words)

-- frames from MAIN up
abbrev pub frames_in : Program → ℕ → List ℤ → Front (List Frame)
frames_in program zero words = Some ([], words)
frames_in program (suc n) words =
    option_and_then (λ (frame, left). option_map (λ (frames, rest). (frame ∷ frames, rest)) (frames_in program n left))
    (frame_in program words)

-- whether this procedure is the one that was called
abbrev pub is_called : Option ℕ → ℕ → Bool
is_called None procedure = false
is_called (Some called) procedure = called == procedure

-- each frame is that of the procedure that the one before it has called
abbrev pub are_called : Option ℕ → List Frame → Bool
are_called called [] = true
are_called called (frame ∷ frames) = is_called called frame.procedure && are_called (called_by frame.rest) frames

-- a global that may be listed and wasn't named before: its words
abbrev pub item_in : List ℕ → ℕ → Option Item → List ℤ → Front (List ℤ)
item_in named number None words = None
item_in named number (Some item) words =
    if has_words item.shape && not (is_among number named) then words_in (width item.shape) words else None

-- so many globals, put over those that a state has
abbrev pub items_in : Program → ℕ → List ℕ → List (List ℤ) → List ℤ → Front (List (List ℤ))
items_in program zero named globals words = Some (globals, words)
items_in program (suc n) named globals words =
    option_and_then
    (λ (item, left). option_and_then (λ (found, rest). items_in program n (item ∷ named) (slice_set globals item found)
    rest)
    (item_in named item (slice_get program.items item) left))
    (count_in words)

-- whether a list has no items
abbrev pub is_empty : {A : Type 0} → List A → Bool
is_empty [] = true
is_empty (item ∷ items) = false

-- the state of these frames, from MAIN up, and globals
abbrev pub with_globals : Bool → List Frame → List (List ℤ) → ProgramState
with_globals in_hand frames globals = record {
  globals = globals;
  frames = reverse frames;
  in_hand = in_hand;
  awaits = false;
  ended = is_empty frames;
}

-- the items after the frames, from MAIN up; none where a frame isn't that of the procedure that the one before it has
-- called
abbrev pub restored_items : Program → ProgramState → Bool → List Frame → List ℤ → Option ProgramState
restored_items program s in_hand frames words =
    if are_called (Some program.main) frames
    then option_map (with_globals in_hand frames)
    (whole (option_and_then (λ (n, left). items_in program n [] s.globals left) (count_in words)))
    else None

-- the state that an image restores in a program: the image's frames, and its globals in the place of the program's. No
-- frames are those of a program that has ended
abbrev pub restored_program : Program → ProgramState → Bool → List ℤ → Option ProgramState
restored_program program s in_hand words =
    option_and_then (λ (frames, left). restored_items program s in_hand frames left)
    (option_and_then (λ (n, left). frames_in program n left) (count_in words))

-- the disc with this request, number and reply: with nothing in hand it is at Take, without a reply at Device, and else
-- at Answer
abbrev pub disc_with : Bool → List ℤ → ℕ → List ℤ → Option DiscState
disc_with false [] number [] = Some (record { label = Take; request = None; reply = None; last_write = number })
disc_with true request number [] =
    Some (record { label = Device; request = Some request; reply = None; last_write = number })
disc_with true request number (word ∷ words) =
    Some (record { label = Answer; request = Some request; reply = Some (word ∷ words); last_write = number })
disc_with _ _ number _ = None

-- the state that an image restores in a disc
abbrev pub restored_disc : Bool → List ℤ → Option DiscState
restored_disc in_hand words =
    option_and_then
    (λ (request, left). option_and_then
    (λ (number, rest). option_and_then (disc_with in_hand request number) (whole (with_count_in rest)))
    (long_in left))
    (with_count_in words)

-- the state that an image's words restore, for an image that has a request in hand or none; none where they are no
-- image of the process
abbrev pub state_from_words : ProcessState → Bool → List ℤ → Option ProcessState
state_from_words (Runs code s) in_hand words = option_map (Runs code) (restored_program code s in_hand words)
state_from_words (Serves sectors s) in_hand words = option_map (Serves sectors) (restored_disc in_hand words)
