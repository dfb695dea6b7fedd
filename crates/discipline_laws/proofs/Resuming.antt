-- What a process carries at a checkpoint restores it in any of its cores since the checkpoint before, where that lacks
-- nothing that isn't named.
use Rattle.std.proofs.Common.{◌≡◌, ℕ, ◌==◌, ◌&&◌, not, ℤ, Bool, true, false, List, [], ◌∷◌, ◌++◌, length, count_by}
use Rattle.std.proofs.Common.{Option, Some, None, slice_get, refl, ap, subst, sym, ◌∙◌, arith, if◌then◌else◌, inl, inr}
use Rattle.std.proofs.Common.{suc, zero, ◌+◌, ◌≢◌}
use Rattle.std.specs.Prelude.{cond}
use Rattle.std.proofs.lemmas.Bool.{or_parts}
use Rattle.std.proofs.lemmas.List.{length-append}
use Rattle.std.proofs.lemmas.List.Elements.{filter_map-append}
use Rattle.std.proofs.lemmas.List.Sums.{sum_by-cons}
use Rattle.std.proofs.lemmas.Option.{slice_get_within, slice_get-get_or}
use Rattle.gd_words.specs.Members.{IsAmong, is_among}
use Rattle.gd_words.proofs.AmongTest.{not_among}
use Rattle.tal_tree.specs.Regular.{IsRegular}
use Rattle.tal_tree.specs.declared.program.Program.{Program}
use Rattle.tal_tree.specs.declared.site.Kind.TheVariants as kind
use Rattle.tal_tree.specs.declared.site.ProcessSpec.{ProcessSpec}
use Rattle.tal_tree.specs.declared.site.Site.{Site}
use Rattle.tal_tree.specs.declared.statement.What.{out-What, What, What-F}
use Rattle.tal_tree.specs.Named.{IsProcess}
use Rattle.tal_tree.specs.declared.program.FileUse.{FileUse}
use Rattle.tal_tree.specs.declared.program.Target.TheVariants as target
use Rattle.tal_tree.specs.declared.site.Kind.{Kind}
use Rattle.tal_tree.specs.declared.statement.Statement.{Statement}
use Rattle.process_semantics.specs.declared.point.Point.TheVariants as point
use Rattle.process_semantics.specs.Image.{listed_items, listed_files, listed_items_in, listed_files_in}
use Rattle.process_semantics.specs.Process as process
use Rattle.process_semantics.specs.Process.{ProcessState, Runs, Serves}
use Rattle.process_semantics.specs.State.{ProgramState}
use Rattle.process_semantics.proofs.Points.{in-next, AtCall, at_ask, stands-at}
use Rattle.process_semantics.specs.Calls.{asked_file, file_in}
use Rattle.process_semantics.specs.Points.{point_of}
use Rattle.checkpoint_laws.specs.process_images.specs.Images.{AgreeBut, Agrees, AreOfOne, all_files_of, asking_from}
use Rattle.checkpoint_laws.specs.process_images.specs.Images.{asks_a_process}
use Rattle.checkpoint_laws.specs.whole_states.specs.Processes.{IsRegularKind}
use Rattle.checkpoint_laws.specs.whole_states.proofs.Frames.{IsRegularSomewhere, next-regular}
use Rattle.checkpoint_laws.specs.whole_states.specs.Whole.{AreFrames, IsWhole}
use Rattle.checkpoint_laws.proofs.Putting.{put-whole, put-everything}
use Rattle.checkpoint_laws.specs.world_semantics.specs.Core.{Core, Deed, after_passing, carried_image, put_in, acts}
use Rattle.checkpoint_laws.specs.world_semantics.specs.Core.{answers}
use Rattle.checkpoint_laws.specs.world_semantics.specs.Core.{asks, carried_whole}
use Rattle.checkpoint_laws.specs.world_semantics.specs.Core.{gets, goes, imaged_core, checkpoints, takes}
use Rattle.checkpoint_laws.specs.world_semantics.proofs.Lists.{some-same}
use Rattle.path_steps.specs.path_semantics.specs.Accepted.{IsAccepted}
use Rattle.path_steps.specs.path_semantics.specs.Break.{breaks_by}
use Rattle.path_steps.specs.path_semantics.specs.declared.reason.Reason.TheVariants.{Data, SyncBlock}
use Rattle.process_histories.specs.Bounds.{AreBounded}
use Rattle.process_histories.specs.Histories.{HasDone, kind_of, nothing_done, one_more, kind_without_mirror}
use Rattle.process_histories.specs.Words.{ask_on, requests_on}
use Rattle.process_histories.proofs.Counts.{done-stands, next-number, if-other}
use Rattle.process_histories.proofs.OneKind.{files-same, done-kind}
use Rattle.process_histories.proofs.Whole.{bounded-before, done-whole}
use Rattle.process_histories.proofs.Steady.{IsSteady, done-steady}
use Rattle.discipline_laws.specs.Disciplined.{AreUncheckpointed}
use Rattle.discipline_laws.proofs.Covering.{none-more}
use Rattle.discipline_laws.proofs.Standing.{IsCheckpointOf, checkpoint-of, IsSafe, runs, safe}
use Rattle.checkpoint_laws.specs.plain_semantics.specs.Openers.{files_of}

pub bounded-since : (since before : List Deed) → AreBounded (since ++ before) → AreBounded before
bounded-since [] before is = is
bounded-since (deed ∷ since) before is = bounded-since since before (bounded-before is)

abbrev counted : Bool → ℕ
counted b = cond b 1 0

none-counted : (n : ℕ) (ns : List ℕ) → is_among n ns ≡ false → count_by (λ (m : ℕ). m == n) ns ≡ 0
none-counted n [] e = refl
none-counted n (m ∷ ns) e =
    let parts = or_parts (m == n) (is_among n ns) e in
    let first : counted (m == n) ≡ 0 = ap counted parts.0 in
    let rest = none-counted n ns parts.1 in
    let both = sum_by-cons (λ (k : ℕ). cond (k == n) 1 0) m ns in omega (arith, both, first, rest)

unlisted : (due named : Bool) → (not named && due) ≡ false → named ≡ false → due ≡ false
unlisted due true e f = absurd (cc)
unlisted due false e f = e

-- the files that a process of a kind may ask on
abbrev files_asked_by : Kind → List ℕ
files_asked_by what = asking_from 0 (files_of what)

all-files : (s : ProcessState) → all_files_of s ≡ files_asked_by (kind_of s)
all-files (Runs program s) = refl
all-files (Serves sectors s) = refl

-- a file that is opened to a process is one of those
process-listed : (from : ℕ) (files : List FileUse) (k : ℕ) (file : FileUse) (name : List ℕ)
    → slice_get files k ≡ Some file → file.target ≡ target.Process name
    → IsAmong (from + k) (asking_from from files)
process-listed from [] k file name at is = absurd (cc)
process-listed from (one ∷ files) zero file name at is =
    let asks : asks_a_process one.target ≡ true =
    ap (λ (f : FileUse). asks_a_process f.target) (some-same at) ∙ ap asks_a_process is in
    rw asks (inl (omega arith))
process-listed from (one ∷ files) (suc k) file name at is =
    let rest : IsAmong (from + suc k) (asking_from (from + 1) files) =
    (let more : (from + 1) + k ≡ from + suc k = omega arith in
    subst (λ n. IsAmong n (asking_from (from + 1) files)) more
    (process-listed (from + 1) files k file name at is)) in
    later (asks_a_process one.target) rest
  where
    later : (b : Bool) → IsAmong (from + suc k) (asking_from (from + 1) files)
        → IsAmong (from + suc k) (if b then from ∷ asking_from (from + 1) files else asking_from (from + 1) files)
    later true rest = inr rest
    later false rest = rest

asked-process : (program : Program) (s : ProgramState) → IsRegular program → point_of program s ≡ point.Ask
    → IsWhole program s → IsProcess program (asked_file s)
asked-process program s regular at is =
    let stands = stands-at program s point.Ask (λ same. cc) (λ same. cc) at in
    let are = subst (AreFrames program) stands.frames is.frames in
    subst (IsProcess program) (sym (in-next 0 file_in s.frames stands.statement stands.next))
    (by (out-What stands.statement.what) stands.call
    (next-regular stands.statement stands.rest regular are.0 stands.first))
  where
    by : (layer : What-F What Statement) → AtCall program s layer point.Ask → IsRegularSomewhere program layer
        → IsProcess program (file_in layer)
    by _ (at_ask file buffer send room got free good) there = there.regular.0

asked-listed : (s : ProcessState) → IsSteady s → process.point s ≡ point.Ask
    → IsAmong (process.asked_file s) (files_asked_by (kind_of s))
asked-listed (Runs program s) steady at =
    let is = asked-process program s steady.0 at steady.1 in
    let zeros : 0 + asked_file s ≡ asked_file s = omega arith in
    subst (λ n. IsAmong n (asking_from 0 program.files)) zeros
    (process-listed 0 program.files (asked_file s) is.opened is.process is.there is.is)
asked-listed (Serves sectors s) steady at = absurd (steady.1 at)

of-one : (s t : ProcessState) → kind_of s ≡ kind_of t → AreOfOne s t
of-one (Runs program s) (Runs other t) same = cc
of-one (Runs program s) (Serves n t) same = absurd (cc)
of-one (Serves n s) (Runs other t) same = absurd (cc)
of-one (Serves n s) (Serves m t) same = cc

module _ {site : Site} {number : ℕ} {spec : ProcessSpec} where
  -- the next number on a file on which nothing was asked since
  pub same-next : (since before : List Deed) {core stale : Core} → HasDone site number spec (since ++ before) core
      → HasDone site number spec before stale → (file : ℕ)
      → length (requests_on file since) ≡ 0 → slice_get stale.next file ≡ slice_get core.next file
  same-next since before {core = core} {stale = stale} done old file none =
      by (slice_get stale.next file) (slice_get core.next file) refl refl
    where
      as-long : length stale.next ≡ length core.next
      as-long = files-same old ∙ sym (files-same done)

      by : (o c : Option ℕ) → slice_get stale.next file ≡ o → slice_get core.next file ≡ c
          → slice_get stale.next file ≡ slice_get core.next file
      by None None was is = was ∙ sym is
      by None (Some n) was is = absurd (let there = slice_get_within core.next file n is in
          let some = slice_get-get_or stale.next file 0 (omega (arith, there, as-long)) in let f = sym was ∙ some in cc)
      by (Some m) None was is = absurd (let there = slice_get_within stale.next file m was in
          let some = slice_get-get_or core.next file 0 (omega (arith, there, as-long)) in let f = sym is ∙ some in cc)
      by (Some m) (Some n) was is =
          let first = next-number old file m was in
          let now = next-number done file n is in
          let all = ap (length {A = List ℤ}) (filter_map-append (ask_on file) since before)
          ∙ length-append (requests_on file since) (requests_on file before) in
          let same : m ≡ n = omega (arith, first, now, all, none) in was ∙ ap Some same ∙ sym is

  -- the next number on a file on which nothing was ever asked
  unasked-next : {deeds before : List Deed} {core stale : Core} → HasDone site number spec deeds core
      → HasDone site number spec before stale → (file : ℕ)
      → length (requests_on file deeds) ≡ 0 → length (requests_on file before) ≡ 0
      → slice_get stale.next file ≡ slice_get core.next file
  unasked-next {core = core} {stale = stale} done old file none never =
      by (slice_get stale.next file) (slice_get core.next file) refl refl
    where
      as-long : length stale.next ≡ length core.next
      as-long = files-same old ∙ sym (files-same done)

      by : (o c : Option ℕ) → slice_get stale.next file ≡ o → slice_get core.next file ≡ c
          → slice_get stale.next file ≡ slice_get core.next file
      by None None was is = was ∙ sym is
      by None (Some n) was is = absurd (let there = slice_get_within core.next file n is in
          let some = slice_get-get_or stale.next file 0 (omega (arith, there, as-long)) in let f = sym was ∙ some in cc)
      by (Some m) None was is = absurd (let there = slice_get_within stale.next file m was in
          let some = slice_get-get_or core.next file 0 (omega (arith, there, as-long)) in let f = sym is ∙ some in cc)
      by (Some m) (Some n) was is =
          let first = next-number old file m was in
          let now = next-number done file n is in
          let same : m ≡ n = omega (arith, first, now, none, never) in was ∙ ap Some same ∙ sym is

  -- a process asks on files that are opened to a process alone
  none-asked : {deeds : List Deed} {core : Core} → IsRegularKind spec.what → HasDone site number spec deeds core
      → (file : ℕ) → (IsAmong file (files_asked_by (kind_without_mirror spec.what)) → ⊥)
      → length (requests_on file deeds) ≡ 0
  none-asked regular nothing_done file apart = refl
  none-asked regular (one_more done (goes at)) file apart = none-asked regular done file apart
  none-asked regular (one_more done (checkpoints at)) file apart = none-asked regular done file apart
  none-asked regular (one_more done (takes block at there)) file apart = none-asked regular done file apart
  none-asked regular (one_more done (gets at named)) file apart = none-asked regular done file apart
  none-asked regular (one_more done (answers opener block at hand known there said)) file apart =
      none-asked regular done file apart
  none-asked regular (one_more done (acts at is)) file apart = none-asked regular done file apart
  none-asked regular (one_more {before = core} done (asks {file = one} {words = words} at named said)) file apart =
      let other : one ≢ file = λ e. apart (subst (λ w. IsAmong file (files_asked_by w)) (done-kind done)
      (subst (λ n. IsAmong n (files_asked_by (kind_of core.state))) (sym named ∙ e)
      (asked-listed core.state (done-steady regular done) at))) in
      rw (if-other one file words other) (none-asked regular done file apart)

  -- a checkpoint of everything restores a process anywhere but at Await, whatever the other copy has, and needs no
  -- discipline
  pub renew-from : (deeds before : List Deed) {core stale : Core} → IsRegularKind spec.what
      → HasDone site number spec deeds core → AreBounded deeds → AreBounded before
      → (process.point core.state ≡ point.Await → ⊥) → HasDone site number spec before stale
      → put_in stale (carried_whole core) ≡ Some (imaged_core core)
  renew-from deeds before {core = core} {stale = stale} regular done bounded short away old =
      put-everything core stale (done-whole regular done bounded) (done-whole regular old short) away
      (done-stands done).hand
      (record {
        state = of-one stale.state core.state (done-kind old ∙ sym (done-kind done));
        files = files-same old ∙ sym (files-same done);
        next = λ file apart. (let unlisted : IsAmong file (files_asked_by (kind_without_mirror spec.what))
            → ⊥ = λ among.
            apart (subst (IsAmong file) (ap files_asked_by (sym (done-kind done)) ∙ sym (all-files core.state))
            among) in
            unasked-next done old file (none-asked regular done file unlisted) (none-asked regular old file unlisted));
      })

  -- what isn't named differs nowhere
  pub resume-from : (since before : List Deed) {core stale : Core} → IsRegularKind spec.what
      → HasDone site number spec (since ++ before) core → AreBounded (since ++ before)
      → process.point core.state ≡ point.AtCheckpoint → HasDone site number spec before stale
      → Agrees (listed_items core.state) stale.state core.state
      → ((file : ℕ) → (IsAmong file (listed_files core.state) → ⊥) → length (requests_on file since) ≡ 0)
      → put_in stale (carried_image core) ≡ Some (after_passing core)
  resume-from since before {core = core} {stale = stale} regular done bounded at old agrees none =
      put-whole core stale (done-whole regular done bounded)
      (done-whole regular old (bounded-since since before bounded)) at (done-stands done).hand
      (record {
        state = agrees;
        files = files-same old ∙ sym (files-same done);
        next = λ file apart. same-next since before done old file (none file apart);
      })

module _ (site : Site) (number : ℕ) (spec : ProcessSpec) (program : Program) (is : spec.what ≡ kind.Pair program)
    (regular : IsRegular program) where
  resume-at : (since before : List Deed) {core stale : Core} (done : HasDone site number spec (since ++ before) core)
      → AreUncheckpointed since → AreBounded (since ++ before)
      → process.point core.state ≡ point.AtCheckpoint → HasDone site number spec before stale
      → (here : IsSafe site number spec program is point.AtCheckpoint done)
      → IsCheckpointOf (out-What here.stands.statement.what) → (old : ProgramState) → stale.state ≡ Runs program old
      → put_in stale (carried_image core) ≡ Some (after_passing core)
  resume-at since before {core = core} {stale = stale} done uncheckpointed bounded at again here listed old was =
      resume-from since before (rw is regular) done bounded at again agrees none-asked
    where
      items : listed_items (Runs program here.s) ≡ listed.items
      items = in-next [] listed_items_in here.s.frames here.stands.statement here.stands.next
          ∙ ap listed_items_in listed.names

      files : listed_files core.state ≡ listed.files
      files = ap listed_files here.same ∙ in-next [] listed_files_in here.s.frames here.stands.statement
          here.stands.next ∙ ap listed_files_in listed.names

      due-item : (item : ℕ) → is_among item listed.items ≡ false → is_among item here.covered.dues.globals ≡ false
      due-item item e =
          unlisted (is_among item here.covered.dues.globals) (is_among item listed.items)
          (ap (breaks_by program (Data item) here.covered.dues) (sym listed.names) ∙ here.unbroken (Data item)) e

      due-file : (file : ℕ) → is_among file listed.files ≡ false → is_among file here.covered.dues.asked ≡ false
      due-file file e =
          unlisted (is_among file here.covered.dues.asked) (is_among file listed.files)
          (ap (breaks_by program (SyncBlock file) here.covered.dues) (sym listed.names)
          ∙ here.unbroken (SyncBlock file)) e

      same-words : AgreeBut program (listed_items (Runs program here.s)) old.globals here.s.globals
      same-words item may apart =
          sym (here.covered.globals since before stale old refl uncheckpointed again was item
          (due-item item (not_among item listed.items (λ among. apart (subst (IsAmong item) (sym items) among)))))

      agrees : Agrees (listed_items core.state) stale.state core.state
      agrees = rw (here.same, was) (refl, same-words)

      none-asked : (file : ℕ) → (IsAmong file (listed_files core.state) → ⊥) → length (requests_on file since) ≡ 0
      none-asked file apart =
          let free = due-file file (not_among file listed.files
          (λ among. apart (subst (IsAmong file) (sym files) among))) in
          let few = here.covered.asked since before file refl uncheckpointed in
          let none = none-more program here.covered.dues here.s file
          (λ e. let f : point.AtCheckpoint ≡ point.Await = sym at ∙ ap process.point here.same ∙ e in cc) in
          let count = none-counted file here.covered.dues.asked free in
          omega (arith, few, none, count)

  pub resume : IsAccepted program → (since before : List Deed) {core stale : Core}
      → HasDone site number spec (since ++ before) core → AreUncheckpointed since
      → AreBounded (since ++ before) → process.point core.state ≡ point.AtCheckpoint
      → HasDone site number spec before stale → put_in stale (carried_image core) ≡ Some (after_passing core)
  resume accepted since before done uncheckpointed bounded at again =
      let here = safe site number spec program is regular accepted point.AtCheckpoint done (λ e. cc) (λ e. cc) at in
      let old = runs site number spec program is again in
      resume-at since before done uncheckpointed bounded at again here (checkpoint-of here.stands.call) old.s old.same
