-- A process of either kind, a program or a disc: its point and its steps. A step is a function of the state and of the
-- words that come.
use Rattle.std.specs.Prelude.{ℕ, ℤ, Bool, List, [], is_some}
use Rattle.tal_values.specs.gd_words.specs.declared.device.DeviceCall.{DeviceCall}
use Rattle.tal_values.specs.gd_words.specs.declared.device.DeviceCall.TheVariants.{Nothing}
use Rattle.tal_values.specs.tal_tree.specs.declared.program.Program.{Program}
use Rattle.tal_values.specs.tal_tree.specs.declared.site.Kind.{Kind}
use Rattle.tal_values.specs.tal_tree.specs.declared.site.Kind.TheVariants as kind
use Rattle.process_semantics.specs.declared.disc.DiscState.{DiscState}
use Rattle.process_semantics.specs.declared.point.Point.{Point}
use Rattle.process_semantics.specs.State.{ProgramState, start}
use Rattle.process_semantics.specs.Points.{point_of}
use Rattle.process_semantics.specs.Steps.{inner}
use Rattle.process_semantics.specs.Calls as calls
use Rattle.process_semantics.specs.Disc as disc

-- the state of a process: of a program that runs, or of a disc with so many sectors
pub data ProcessState : Type 0 where
  Runs : Program → ProgramState → ProcessState
  Serves : ℕ → DiscState → ProcessState

-- a process at its beginning
abbrev pub start_of : Kind → ProcessState
start_of (kind.Disc sectors mirrored) = Serves sectors disc.disc_start
start_of (kind.Pair code) = Runs code (start code)

-- where a process stands: what its next step is
abbrev pub point : ProcessState → Point
point (Runs code s) = point_of code s
point (Serves sectors s) = s.label

-- whether a request is in hand
abbrev pub in_hand : ProcessState → Bool
in_hand (Runs code s) = s.in_hand
in_hand (Serves sectors s) = is_some s.request

-- the step at Inner
abbrev pub after_inner : ProcessState → ProcessState
after_inner (Runs code s) = Runs code (inner code s)
after_inner (Serves sectors s) = Serves sectors s

-- the step at Take, with the words of the request
abbrev pub after_took : ProcessState → List ℤ → ProcessState
after_took (Runs code s) words = Runs code (calls.after_took code s words)
after_took (Serves sectors s) words = Serves sectors (disc.disc_took s words)

-- what is asked at Ask: the file's number, and the words
abbrev pub asked_file : ProcessState → ℕ
asked_file (Runs code s) = calls.asked_file s
asked_file (Serves sectors s) = 0

-- the words that are asked at Ask
abbrev pub asked_words : ProcessState → List ℤ
asked_words (Runs code s) = calls.asked_words code s
asked_words (Serves sectors s) = []

-- the step at Ask
abbrev pub after_asked : ProcessState → ProcessState
after_asked (Runs code s) = Runs code (calls.after_asked s)
after_asked (Serves sectors s) = Serves sectors s

-- the step at Await, with the words of the reply
abbrev pub after_got : ProcessState → List ℤ → ProcessState
after_got (Runs code s) words = Runs code (calls.after_got code s words)
after_got (Serves sectors s) words = Serves sectors s

-- what is answered at Answer
abbrev pub answer_of : ProcessState → List ℤ
answer_of (Runs code s) = calls.answer_of code s
answer_of (Serves sectors s) = disc.disc_answer s

-- the step at Answer
abbrev pub after_answered : ProcessState → ProcessState
after_answered (Runs code s) = Runs code (calls.after_answered s)
after_answered (Serves sectors s) = Serves sectors (disc.disc_answered s)

-- the step at a checkpoint
abbrev pub after_checkpoint : ProcessState → ProcessState
after_checkpoint (Runs code s) = Runs code (calls.after_checkpoint s)
after_checkpoint (Serves sectors s) = Serves sectors (disc.disc_checkpointed s)

-- what is done to the device at Device
abbrev pub call_of : ProcessState → DeviceCall
call_of (Runs code s) = Nothing
call_of (Serves sectors s) = disc.disc_call sectors s

-- the step at Device, with the words that stood on the sector
abbrev pub after_device : ProcessState → List ℤ → ProcessState
after_device (Runs code s) found = Runs code s
after_device (Serves sectors s) found = Serves sectors (disc.disc_done sectors s found)
