-- The core of a copy: what its checkpoints carry and restore, as in Bartlett's "A NonStop Kernel". Each act of a
-- process is a step of the core.
use Rattle.std.specs.Prelude.{◌≡◌, ℕ, ◌+◌, ℤ, List, [], ◌∷◌, length, map, replicate, slice_get, slice_set}
use Rattle.std.specs.Prelude.{Bool, false, true, Option, Some, None, is_some}
use Rattle.std.specs.Option.{option_map, unwrap_or}
use Rattle.checkpoint_image.specs.gd_words.specs.declared.device.DeviceCall.{DeviceCall}
use Rattle.checkpoint_image.specs.tal_tree.specs.declared.site.Site.{Site}
use Rattle.checkpoint_image.specs.tal_tree.specs.declared.site.ProcessSpec.{ProcessSpec}
use Rattle.checkpoint_image.specs.tal_tree.specs.declared.site.OpenerSpec.{OpenerSpec}
use Rattle.plain_semantics.specs.process_semantics.specs.declared.point.Point.TheVariants as point
use Rattle.plain_semantics.specs.process_semantics.specs.Process as process
use Rattle.plain_semantics.specs.process_semantics.specs.Image.{image_of, listed_items, listed_files, state_from_words}
use Rattle.plain_semantics.specs.process_semantics.specs.Image.{state_in_image}
use Rattle.plain_semantics.specs.Openers.{files_of, openers_of}
use Rattle.checkpoint_image.specs.declared.receive.OpenerBlock.{OpenerBlock}
use Rattle.checkpoint_image.specs.declared.receive.ReceiveBlock.{ReceiveBlock}
use Rattle.checkpoint_image.specs.declared.message.FileNumber.{FileNumber}
use Rattle.checkpoint_image.specs.declared.message.Image.{Image}
use Rattle.checkpoint_image.specs.Receive.{after_taking, after_answering}
use Rattle.checkpoint_image.specs.process_images.specs.Images.{all_files_of, everything_of}

-- what a process is with its files and openers: its state, the number of the next request on each of its files, and its
-- receive table
pub record Core : Type 0 where
  pub state : process.ProcessState
  pub next : List ℕ
  pub receive : ReceiveBlock

-- the core of a process at its beginning, in this state and with so many files and these openers: all next numbers are
-- 1, nothing was taken, and nothing is kept or in hand
abbrev pub core_at_start : process.ProcessState → ℕ → List OpenerSpec → Core
core_at_start state files openers = record {
  state = state;
  next = replicate files 1;
  receive = record {
    openers = map (λ opener. record { taken = 0; kept = [] }) openers;
    in_hand = None;
  };
}

-- the core of a process of a site at its beginning
abbrev pub core_at_boot : Site → ℕ → ProcessSpec → Core
core_at_boot site number spec =
    core_at_start (process.start_of spec.what) (length (files_of spec.what)) (openers_of site number)

-- the number of the next request on a file
abbrev pub next_on : Core → ℕ → ℕ
next_on core file = unwrap_or (slice_get core.next file) 1

-- Acts of a process

-- what a process does by one act of its own, with the words that it takes in or gives out
pub data Deed : Type 0 where
  -- a step inside
  Went : Deed
  -- the step at a checkpoint
  Checkpointed : Deed
  -- it took a request of the opener at a place
  Took : (place : ℕ) → (words : List ℤ) → Deed
  -- it asked on a file
  Asked : (file : ℕ) → (words : List ℤ) → Deed
  -- it got the reply on a file
  Got : (file : ℕ) → (words : List ℤ) → Deed
  -- it answered the opener at a place
  Answered : (place : ℕ) → (words : List ℤ) → Deed
  -- it acted on its device, where these words stood on the sector that it reads
  Acted : (call : DeviceCall) → (found : List ℤ) → Deed

-- the core goes on after a step inside
abbrev pub core_going : Core → Core
core_going core = record core { state = process.after_inner core.state }

-- after its checkpoint
abbrev pub after_passing : Core → Core
after_passing core = record core { state = process.after_checkpoint core.state }

-- after a request of these words was taken, of the opener at a place where this block stands: that is noted in the
-- receive table
abbrev pub core_taken : ℕ → List ℤ → OpenerBlock → Core → Core
core_taken place words block core =
    record core { state = process.after_took core.state words; receive = after_taking place block core.receive }

-- after a request was asked on a file: that raises the next number of the file
abbrev pub core_asked : ℕ → Core → Core
core_asked file core =
    record core { state = process.after_asked core.state; next = slice_set core.next file (next_on core file + 1) }

-- after the reply to it was got
abbrev pub core_getting : List ℤ → Core → Core
core_getting words core = record core { state = process.after_got core.state words }

-- after the opener at a place was answered, of which so many replies are kept, and where this block stands: that is
-- noted in the receive table
abbrev pub core_replied : ℕ → ℕ → OpenerBlock → List ℤ → Core → Core
core_replied depth place block words core =
    record core {
      state = process.after_answered core.state;
      receive = after_answering depth place block words core.receive;
    }

-- after an act on the device, with the words that stood on the sector
abbrev pub core_acting : List ℤ → Core → Core
core_acting found core = record core { state = process.after_device core.state found }

-- a deed is possible where the process stands at its point, and leads to the step of its core
pub data Advances (openers : List OpenerSpec) (core : Core) : Deed → Core → Type 0 where
  goes : process.point core.state ≡ point.Inner → Advances openers core Went (core_going core)
  checkpoints : process.point core.state ≡ point.AtCheckpoint → Advances openers core Checkpointed (after_passing core)
  takes : {place : ℕ} {words : List ℤ} (block : OpenerBlock) → process.point core.state ≡ point.Take
      → slice_get core.receive.openers place ≡ Some block
      → Advances openers core (Took place words) (core_taken place words block core)
  asks : {file : ℕ} {words : List ℤ} → process.point core.state ≡ point.Ask → file ≡ process.asked_file core.state
      → words ≡ process.asked_words core.state
      → Advances openers core (Asked file words) (core_asked file core)
  gets : {file : ℕ} {words : List ℤ} → process.point core.state ≡ point.Await → file ≡ process.asked_file core.state
      → Advances openers core (Got file words) (core_getting words core)
  answers : {place : ℕ} {words : List ℤ} (opener : OpenerSpec) (block : OpenerBlock)
      → process.point core.state ≡ point.Answer
      → core.receive.in_hand ≡ Some place → slice_get openers place ≡ Some opener
      → slice_get core.receive.openers place ≡ Some block
      → words ≡ process.answer_of core.state
      → Advances openers core (Answered place words) (core_replied opener.depth place block words core)
  acts : {call : DeviceCall} {found : List ℤ} → process.point core.state ≡ point.Device
      → call ≡ process.call_of core.state
      → Advances openers core (Acted call found) (core_acting found core)

-- Checkpoints

-- what a checkpoint of a core carries that names these items and files: the words of its image with the items, the next
-- numbers of the files, and the receive table
abbrev pub carried_with : List ℕ → List ℕ → Core → Image
carried_with items files core = record {
  body = image_of items core.state;
  files = map (λ file. record { file = file; next = next_on core file }) files;
  receive = core.receive;
}

-- what a core's checkpoint carries: what the CHECKPOINT names
abbrev pub carried_image : Core → Image
carried_image core = carried_with (listed_items core.state) (listed_files core.state) core

-- what a checkpoint of everything carries: all items that have words, and all files that are opened to a process
abbrev pub carried_whole : Core → Image
carried_whole core = carried_with (everything_of core.state) (all_files_of core.state) core

abbrev pub items_for : Bool → process.ProcessState → List ℕ
items_for true state = everything_of state
items_for false state = listed_items state

abbrev pub files_for : Bool → process.ProcessState → List ℕ
files_for true state = all_files_of state
files_for false state = listed_files state

-- what a checkpoint carries where everything is to be sent, and where it isn't
abbrev pub carried_by : Bool → Core → Image
carried_by everything core = carried_with (items_for everything core.state) (files_for everything core.state) core

-- the core that is restored from a checkpoint of a core: at a checkpoint that after it
abbrev pub imaged_core : Core → Core
imaged_core core = record core { state = state_in_image core.state }

abbrev pub with_files : List FileNumber → List ℕ → List ℕ
with_files [] next = next
with_files (named ∷ files) next = with_files files (slice_set next named.file named.next)

-- the core after what a checkpoint carries was put into it: the state that the image restores, the next numbers of the
-- named files, and the table; none where the words are no image of the process
abbrev pub put_in : Core → Image → Option Core
put_in core image =
    option_map (λ state. record { state = state; next = with_files image.files core.next; receive = image.receive })
    (state_from_words core.state (is_some image.receive.in_hand) image.body)
