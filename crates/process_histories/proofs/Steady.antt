-- A process of a regular program awaits a reply only after it asked.
use Rattle.std.proofs.Common.{◌≡◌, ◌≢◌, ℕ, ℤ, true, List, refl}
use Rattle.tal_tree.specs.Regular.{IsRegular}
use Rattle.tal_tree.specs.declared.site.Kind.{Kind}
use Rattle.tal_tree.specs.declared.site.Kind.TheVariants as kind
use Rattle.tal_tree.specs.declared.site.ProcessSpec.{ProcessSpec}
use Rattle.tal_tree.specs.declared.site.Site.{Site}
use Rattle.world_semantics.specs.process_semantics.specs.declared.point.Point.{Point}
use Rattle.world_semantics.specs.process_semantics.specs.declared.point.Point.TheVariants as point
use Rattle.world_semantics.specs.process_semantics.specs.Changes.{with_waiting}
use Rattle.world_semantics.specs.process_semantics.specs.Process as process
use Rattle.world_semantics.specs.process_semantics.specs.Process.{ProcessState, Runs, Serves}
use Rattle.world_semantics.specs.whole_states.specs.Processes.{IsRegularKind}
use Rattle.world_semantics.specs.whole_states.specs.Whole.{IsWhole}
use Rattle.world_semantics.specs.whole_states.proofs.Awake.{IsAwake, awake-at, awake-whole, awake-away, waits-at}
use Rattle.world_semantics.specs.whole_states.proofs.Calls.{start-awake, took-awake, asked-whole, got-awake}
use Rattle.world_semantics.specs.whole_states.proofs.Calls.{answered-awake, checkpointed-awake}
use Rattle.world_semantics.specs.whole_states.proofs.Inner.{inner-awake}
use Rattle.world_semantics.specs.Core.{Core, Deed, goes, checkpoints, takes, asks, gets, answers, acts}
use Rattle.process_histories.specs.Histories.{HasDone, nothing_done, one_more}

-- a disc never asks and never awaits
abbrev IsNeither : Point → Type 0
IsNeither at = (at ≢ point.Await) × (at ≢ point.Ask)

-- a whole state of a regular program, or one of a disc
abbrev pub IsSteady : ProcessState → Type 0
IsSteady (Runs program s) = IsRegular program × IsWhole program s
IsSteady (Serves sectors s) = IsNeither s.label

-- one that awaits nothing
abbrev pub IsCalm : ProcessState → Type 0
IsCalm (Runs program s) = IsRegular program × IsAwake program s
IsCalm (Serves sectors s) = IsNeither s.label

pub calm-steady : (s : ProcessState) → IsCalm s → IsSteady s
calm-steady (Runs program s) is = (is.0, awake-whole is.1)
calm-steady (Serves sectors s) is = is

pub calm-away : (s : ProcessState) → IsCalm s → process.point s ≢ point.Await
calm-away (Runs program s) is = awake-away program s is.1
calm-away (Serves sectors s) is = is.0

pub start-calm : (what : Kind) → IsRegularKind what → IsCalm (process.start_of what)
start-calm (kind.Disc sectors mirrored) regular = (λ same. cc, λ same. cc)
start-calm (kind.Pair program) regular = (regular, start-awake program regular)

pub inner-calm : (s : ProcessState) → IsSteady s → IsCalm (process.after_inner s)
inner-calm (Runs program s) is = (is.0, inner-awake program s is.0 is.1)
inner-calm (Serves sectors s) is = is

pub took-calm : (s : ProcessState) (words : List ℤ) → IsSteady s → process.point s ≡ point.Take
    → IsCalm (process.after_took s words)
took-calm (Runs program s) words is at = (is.0, took-awake program s words at is.1)
took-calm (Serves sectors s) words is at = (λ same. cc, λ same. cc)

pub asked-steady : (s : ProcessState) → IsSteady s → process.point s ≡ point.Ask → IsSteady (process.after_asked s)
asked-steady (Runs program s) is at = (is.0, asked-whole program s at is.1)
asked-steady (Serves sectors s) is at = is

pub asked-awaits : (s : ProcessState) → IsSteady s → process.point s ≡ point.Ask
    → process.point (process.after_asked s) ≡ point.Await
asked-awaits (Runs program s) is at = (waits-at program (with_waiting true s) (asked-whole program s at is.1) refl).at
asked-awaits (Serves sectors s) is at = absurd (is.1 at)

-- the reply is awaited on the file that was asked
pub asked-same : (s : ProcessState) → process.asked_file (process.after_asked s) ≡ process.asked_file s
asked-same (Runs program s) = refl
asked-same (Serves sectors s) = refl

pub got-calm : (s : ProcessState) (words : List ℤ) → IsSteady s → process.point s ≡ point.Await
    → IsCalm (process.after_got s words)
got-calm (Runs program s) words is at = (is.0, got-awake program s words at is.1)
got-calm (Serves sectors s) words is at = is

pub answered-calm : (s : ProcessState) → IsSteady s → process.point s ≡ point.Answer → IsCalm (process.after_answered s)
answered-calm (Runs program s) is at = (is.0, answered-awake program s at is.1)
answered-calm (Serves sectors s) is at = (λ same. cc, λ same. cc)

pub checkpointed-calm : (s : ProcessState) → IsSteady s → process.point s ≡ point.AtCheckpoint
    → IsCalm (process.after_checkpoint s)
checkpointed-calm (Runs program s) is at = (is.0, checkpointed-awake program s at is.1)
checkpointed-calm (Serves sectors s) is at = (λ same. cc, λ same. cc)

pub device-calm : (s : ProcessState) (found : List ℤ) → IsSteady s → process.point s ≡ point.Device
    → IsCalm (process.after_device s found)
device-calm (Runs program s) found is at = (is.0, awake-at program s point.Device at (λ same. cc) is.1)
device-calm (Serves sectors s) found is at = (λ same. cc, λ same. cc)

pub done-steady : {site : Site} {number : ℕ} {spec : ProcessSpec} {deeds : List Deed} {core : Core}
    → IsRegularKind spec.what → HasDone site number spec deeds core
    → IsSteady core.state
done-steady {spec = spec} regular nothing_done = calm-steady _ (start-calm spec.what regular)
done-steady regular (one_more {before = core} done (goes at)) =
    calm-steady _ (inner-calm core.state (done-steady regular done))
done-steady regular (one_more {before = core} done (checkpoints at)) =
    calm-steady _ (checkpointed-calm core.state (done-steady regular done) at)
done-steady regular (one_more {before = core} done (takes {words = words} block at there)) =
    calm-steady _ (took-calm core.state words (done-steady regular done) at)
done-steady regular (one_more {before = core} done (asks at file words)) =
    asked-steady core.state (done-steady regular done) at
done-steady regular (one_more {before = core} done (gets {words = words} at file)) =
    calm-steady _ (got-calm core.state words (done-steady regular done) at)
done-steady regular (one_more {before = core} done (answers opener block at hand known there words)) =
    calm-steady _ (answered-calm core.state (done-steady regular done) at)
done-steady regular (one_more {before = core} done (acts {found = found} at call)) =
    calm-steady _ (device-calm core.state found (done-steady regular done) at)
