-- The steps of processes of either kind: but for that at Ask they come to whole states that await nothing.
use Rattle.std.proofs.Common.{◌≡◌, ◌≢◌, ◌≤◌, ◌<◌, ℕ, ℤ, List, true, length, refl, subst}
use Rattle.process_semantics.specs.gd_words.specs.Ranges.{HasNext}
use Rattle.process_semantics.specs.gd_words.specs.Members.{IsAmong}
use Rattle.process_semantics.specs.tal_tree.specs.Regular.{IsRegular}
use Rattle.process_semantics.specs.tal_tree.specs.declared.site.Kind.{Kind}
use Rattle.process_semantics.specs.tal_tree.specs.declared.site.Kind.TheVariants as kind
use Rattle.process_semantics.specs.Changes.{with_waiting}
use Rattle.process_semantics.specs.Image.{listed_items, listed_files}
use Rattle.process_semantics.specs.Process as process
use Rattle.process_semantics.specs.Process.{ProcessState, Runs, Serves}
use Rattle.process_semantics.specs.declared.disc.DiscState.{DiscState}
use Rattle.process_semantics.specs.declared.point.Point.TheVariants as point
use Rattle.whole_states.specs.Listing.{MayList, files_of}
use Rattle.whole_states.specs.Processes.{IsRegularKind, IsWholeDisc, IsWholeProcess}
use Rattle.whole_states.proofs.Awake.{IsAwake, awake-whole, awake-away, waits-at}
use Rattle.whole_states.proofs.Calls.{start-awake, took-awake, asked-whole, got-awake, answered-awake}
use Rattle.whole_states.proofs.Calls.{checkpointed-awake}
use Rattle.whole_states.proofs.Discs.{disc-at, start-disc, took-disc, checkpointed-disc, device-disc, answered-disc}
use Rattle.whole_states.proofs.Inner.{inner-awake}
use Rattle.whole_states.proofs.Named.{frames-listed, file-there, asked-there}

-- a whole state that awaits nothing
abbrev pub IsAwakeProcess : ProcessState → Type 0
IsAwakeProcess (Runs program s) = IsRegular program × IsAwake program s
IsAwakeProcess (Serves sectors s) = IsWholeDisc s

pub stays-whole : (s : ProcessState) → IsAwakeProcess s → IsWholeProcess s
stays-whole (Runs program s) is = (is.0, awake-whole is.1)
stays-whole (Serves sectors s) is = is

pub stays-away : (s : ProcessState) → IsAwakeProcess s → process.point s ≢ point.Await
stays-away (Runs program s) is = awake-away program s is.1
stays-away (Serves sectors s) is = λ at. disc-at point.Await at is

pub start-process : (what : Kind) → IsRegularKind what → IsAwakeProcess (process.start_of what)
start-process (kind.Disc sectors mirrored) regular = start-disc
start-process (kind.Pair program) regular = (regular, start-awake program regular)

pub inner-process : (s : ProcessState) → IsWholeProcess s → IsAwakeProcess (process.after_inner s)
inner-process (Runs program s) is = (is.0, inner-awake program s is.0 is.1)
inner-process (Serves sectors s) is = is

pub took-process : (s : ProcessState) (words : List ℤ) → process.point s ≡ point.Take → length words ≤ 16
    → IsWholeProcess s
    → IsAwakeProcess (process.after_took s words)
took-process (Runs program s) words at few is = (is.0, took-awake program s words at is.1)
took-process (Serves sectors s) words at few is = took-disc words at few is

-- however many words come
pub took-away : (s : ProcessState) (words : List ℤ) → IsWholeProcess s → process.point s ≡ point.Take
    → process.point (process.after_took s words) ≢ point.Await
took-away (Runs program s) words is at = awake-away program _ (took-awake program s words at is.1)
took-away (Serves sectors s) words is at = λ same. cc

pub asked-process : (s : ProcessState) → process.point s ≡ point.Ask → IsWholeProcess s
    → IsWholeProcess (process.after_asked s)
asked-process (Runs program s) at is = (is.0, asked-whole program s at is.1)
asked-process (Serves sectors s) at is = is

pub asked-awaits : (s : ProcessState) → IsWholeProcess s → process.point s ≡ point.Ask
    → process.point (process.after_asked s) ≡ point.Await
asked-awaits (Runs program s) is at = (waits-at program (with_waiting true s) (asked-whole program s at is.1) refl).at
asked-awaits (Serves sectors s) is at = absurd (disc-at point.Ask at is)

pub got-process : (s : ProcessState) (words : List ℤ) → process.point s ≡ point.Await → IsWholeProcess s
    → IsAwakeProcess (process.after_got s words)
got-process (Runs program s) words at is = (is.0, got-awake program s words at is.1)
got-process (Serves sectors s) words at is = is

pub answered-process : (s : ProcessState) → process.point s ≡ point.Answer → IsWholeProcess s
    → IsAwakeProcess (process.after_answered s)
answered-process (Runs program s) at is = (is.0, answered-awake program s at is.1)
answered-process (Serves sectors s) at is = answered-disc is

pub checkpointed-process : (s : ProcessState) → process.point s ≡ point.AtCheckpoint → IsWholeProcess s
    → IsAwakeProcess (process.after_checkpoint s)
checkpointed-process (Runs program s) at is = (is.0, checkpointed-awake program s at is.1)
checkpointed-process (Serves sectors s) at is = checkpointed-disc at is

pub device-process : (s : ProcessState) (found : List ℤ) → process.point s ≡ point.Device → length found ≤ 8
    → ((sectors : ℕ) (disc : DiscState) → s ≡ Serves sectors disc → HasNext disc.last_write) → IsWholeProcess s
    → IsWholeProcess (process.after_device s found)
device-process (Runs program s) found at few low is = is
device-process (Serves sectors s) found at few low is = device-disc sectors found at few (low sectors s refl) is

pub device-away : (s : ProcessState) (found : List ℤ) → process.point s ≡ point.Device
    → process.point (process.after_device s found) ≢ point.Await
device-away (Runs program s) found at = λ same. cc
device-away (Serves sectors s) found at = λ same. cc

-- What is named

pub listed-there : (s : ProcessState) → IsWholeProcess s → MayList s (listed_items s) (listed_files s)
listed-there (Runs program s) is = frames-listed program is.0 s.frames is.1.frames
listed-there (Serves sectors s) is = (refl, refl)

pub files-there : (s : ProcessState) (items files : List ℕ) (file : ℕ) → MayList s items files → IsAmong file files
    → file < files_of s
files-there (Runs program s) items files file may among = file-there file (may.files_there file among)
files-there (Serves sectors s) items files file may among = absurd (subst (IsAmong file) may.1 among)

pub asked-file-there : (s : ProcessState) → IsWholeProcess s → process.point s ≡ point.Ask
    → process.asked_file s < files_of s
asked-file-there (Runs program s) is at = asked-there program s is.0 at is.1
asked-file-there (Serves sectors s) is at = absurd (disc-at point.Ask at is)
