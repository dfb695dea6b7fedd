-- What stands in an image of a program, and how its parts are read one after the other.
use Rattle.std.specs.Option.{option_map, option_and_then}
use Rattle.std.specs.Prelude.{◌≡◌, ℕ, zero, suc, ℤ, if◌then◌else◌, List, [], ◌∷◌, drop, slice_get, Option, Some, None}
use Rattle.tal_tree.specs.declared.program.Item.{Item}
use Rattle.tal_tree.specs.declared.program.Program.{Program}
use Rattle.process_semantics.specs.Image.{frame_in, is_called, item_in, items_in}
use Rattle.process_semantics.specs.State.{Entry, Frame, called_by}
use Rattle.process_semantics.specs.Words.{Front, count_in}
use Rattle.tal_table.specs.program_deeds.specs.Deed.{Deed, Checkpoints, deed_of}

-- Writing

-- what remains in an image where this deed comes next: a checkpoint is behind it
abbrev pub imaged_rest : Deed → List Entry → List Entry
imaged_rest (Checkpoints items files) rest = drop 1 rest
imaged_rest _ rest = rest

-- the frames in an image: a checkpoint that comes next is behind it
abbrev pub imaged_frames : List Frame → List Frame
imaged_frames [] = []
imaged_frames (frame ∷ callers) = record frame { rest = imaged_rest (deed_of frame.rest) frame.rest } ∷ callers

-- Reading

-- a frame of the procedure that was called
abbrev pub called_frame : Program → Option ℕ → List ℤ → Front Frame
called_frame program called words =
    option_and_then (λ (frame, left). if is_called called frame.procedure then Some (frame, left) else None)
    (frame_in program words)

-- so many frames from MAIN up: the first is of this procedure, and each other of the one that the frame before it has
-- called
abbrev pub called_frames : Program → Option ℕ → ℕ → List ℤ → Front (List Frame)
called_frames program called zero words = Some ([], words)
called_frames program called (suc n) words =
    option_and_then
    (λ (frame, left). option_map (λ (frames, rest). (frame ∷ frames, rest))
    (called_frames program (called_by frame.rest) n left))
    (called_frame program called words)

-- the frames of an image, which stand behind their count
abbrev pub frames_of : Program → List ℤ → Front (List Frame)
frames_of program words =
    option_and_then (λ (n, left). called_frames program (Some program.main) n left) (count_in words)

-- the number and the words of an item that may be listed
abbrev pub listed_item : List Item → List ℤ → Front (ℕ × List ℤ)
listed_item items words =
    option_and_then (λ (number, left). option_map (λ (found, rest). ((number, found), rest))
    (item_in [] number (slice_get items number) left)) (count_in words)

-- words are items of a program to their end, and put over globals they give others
pub record Overwrites (program : Program) (globals : List (List ℤ)) (words : List ℤ) (others : List (List ℤ)) :
    Type 0 where
  pub count : ℕ
  pub named : List ℕ
  pub are : items_in program count named globals words ≡ Some (others, [])
