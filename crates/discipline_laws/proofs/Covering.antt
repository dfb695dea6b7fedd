-- What a program did since its last checkpoint is covered by what is due on a path to where it stands.
use Rattle.std.proofs.Common.{◌≡◌, ◌≢◌, inl, inr, ◌≤◌, ◌<◌, ℕ, ◌+◌, ◌==◌, ℤ, Bool, true, false, List, [], ◌∷◌, ◌++◌}
use Rattle.std.proofs.Common.{length, drop, Option, Some, None, slice_get, refl, ap, subst, sym, ◌∙◌, arith}
use Rattle.std.proofs.lemmas.Bool.Decides.{eqb_tells}
use Rattle.gd_words.specs.Members.{IsAmong, is_among}
use Rattle.tal_tree.specs.Regular.{IsRegular}
use Rattle.tal_tree.specs.declared.program.Procedure.{Procedure}
use Rattle.tal_tree.specs.declared.program.Program.{Program}
use Rattle.tal_tree.specs.declared.site.Kind.TheVariants as kind
use Rattle.tal_tree.specs.declared.site.ProcessSpec.{ProcessSpec}
use Rattle.tal_tree.specs.declared.site.Site.{Site}
use Rattle.tal_tree.specs.declared.statement.Statement.{Statement}
use Rattle.tal_tree.specs.declared.statement.What.{What, What-F}
use Rattle.process_semantics.specs.declared.point.Point.{Point}
use Rattle.process_semantics.specs.declared.point.Point.TheVariants as point
use Rattle.process_semantics.specs.Calls.{asked_file, after_took, after_asked, after_got, after_answered}
use Rattle.process_semantics.specs.Calls.{after_checkpoint}
use Rattle.process_semantics.specs.Process as process
use Rattle.process_semantics.specs.Process.{ProcessState, Runs, Serves}
use Rattle.process_semantics.specs.Rests.{entry_number}
use Rattle.process_semantics.specs.State.{ProgramState, first_frames, start, words_of}
use Rattle.process_semantics.specs.Steps.{inner}
use Rattle.process_semantics.proofs.Points.{AtCall, inside, at_read, at_ask, at_await, at_reply, at_checkpoint}
use Rattle.process_semantics.proofs.Points.{stands-at}
use Rattle.checkpoint_laws.specs.plain_semantics.specs.Openers.{openers_of}
use Rattle.checkpoint_laws.specs.whole_states.specs.Processes.{IsRegularKind}
use Rattle.checkpoint_laws.specs.world_semantics.specs.Core.{Core, Deed, Went, Checkpointed, Took, Asked, Got, Answered}
use Rattle.checkpoint_laws.specs.world_semantics.specs.Core.{Advances, goes}
use Rattle.checkpoint_laws.specs.world_semantics.specs.Core.{checkpoints, takes, asks, gets, answers, acts}
use Rattle.path_steps.specs.path_semantics.specs.Break.{asked_count}
use Rattle.path_steps.specs.path_semantics.specs.Dues.{no_dues}
use Rattle.path_steps.specs.path_semantics.specs.Path.{Steps, Leads}
use Rattle.path_steps.specs.path_semantics.specs.Place.{Place, Stand, body_in, place_of, settled, stand_at}
use Rattle.path_steps.specs.path_semantics.specs.Place.{stands_after, first_stand}
use Rattle.path_steps.specs.path_semantics.specs.declared.dues.Dues.{Dues}
use Rattle.path_steps.specs.path_semantics.proofs.Walks.{leads-more}
use Rattle.path_steps.specs.Step.{stand_of, StaysOrGoesOn, FollowsPath, HasRoom}
use Rattle.path_steps.proofs.Stepping.{inner-steps, took-steps, asked-steps, got-steps, answered-steps}
use Rattle.path_steps.proofs.Stepping.{checkpointed-steps}
use Rattle.path_steps.proofs.Stepping.{asked-room}
use Rattle.process_histories.specs.Histories.{HasDone, nothing_done, one_more, kind_without_mirror}
use Rattle.process_histories.specs.Words.{ask_on, requests_on, awaits_on, one_if}
use Rattle.process_histories.proofs.Counts.{count-more, none-awaited, one-awaited}
use Rattle.process_histories.proofs.Deeds.{point_of, stands-there, done-one}
use Rattle.process_histories.proofs.OneKind.{done-kind}
use Rattle.process_histories.proofs.Steady.{IsCalm, start-calm, inner-calm, took-calm, got-calm, answered-calm}
use Rattle.process_histories.proofs.Steady.{checkpointed-calm, device-calm, asked-awaits, done-steady}
use Rattle.discipline_laws.specs.Covered.{IsCovered}
use Rattle.discipline_laws.specs.Disciplined.{IsCheckpoint, AreUncheckpointed}
use Rattle.discipline_laws.proofs.Programs.{runs-same, program-same, running, deed-alive}

-- at most so many requests are asked on a file
abbrev pub most_asked : Program → Dues → ProgramState → ℕ → ℕ
most_asked program dues s file = asked_count file dues + one_if (awaits_on (Runs program s) file)

pub none-more : (program : Program) (dues : Dues) (s : ProgramState) (file : ℕ)
    → process.point (Runs program s) ≢ point.Await → most_asked program dues s file ≡ asked_count file dues
none-more program dues s file away = let none = none-awaited (Runs program s) file away in omega (arith, none)

-- a path that goes on

one-step : (program : Program) (dues : Dues) (place : Place) (there : Stand)
    → IsAmong there (stands_after program dues place)
    → (number : ℕ) × Steps program (record { place = place; dues = dues }) number there
one-step program dues [] there among = absurd among
one-step program dues ([] ∷ callers) there among = absurd among
one-step program dues ((entry ∷ rest) ∷ callers) there among =
    (entry_number entry, record { next = refl; leads = among })

path-on : (program : Program) (path : List ℕ) (here there : Stand) → Leads program path here
    → StaysOrGoesOn program here there
    → (longer : List ℕ) × Leads program longer there
path-on program path here there leads (inl same) =
    (path, subst (λ (stand : Stand). Leads program path stand) same leads)
path-on program path here there leads (inr among) =
    let step = one-step program here.dues here.place there among in
    (path ++ step.0 ∷ [], leads-more program path here there step.0 leads step.1)

pub never-device : (program : Program) (s : ProgramState) → process.point (Runs program s) ≢ point.Device
never-device program s at = by (stands-at program s point.Device (λ e. cc) (λ e. cc) at).call refl
  where
    by : {what : What-F What Statement} {p : Point} → AtCall program s what p → p ≢ point.Device
    by inside e = cc
    by (at_read buffer most got free good) e = cc
    by (at_ask file buffer send room got free good) e = cc
    by (at_await file buffer send room got awaits) e = cc
    by (at_reply buffer count held) e = cc
    by (at_checkpoint items files) e = cc

pub alive-at : (program : Program) (s : ProgramState) (p : Point) → p ≢ point.Ended
    → process.point (Runs program s) ≡ p → s.ended ≡ false
alive-at program s p alive at = by s.ended refl at
  where
    by : (ended : Bool) → s.ended ≡ ended → process.point (Runs program s) ≡ p → s.ended ≡ false
    by false is at = is
    by true is at = absurd (alive (sym at ∙ rw is refl))

calm-room : {program : Program} (state : ProcessState) (s : ProgramState) → IsCalm state → state ≡ Runs program s
    → HasRoom program s
calm-room (Runs other t) s is same awaits =
    let states : t ≡ s = runs-same same in
    let free : s.awaits ≡ false = ap (λ (u : ProgramState). u.awaits) (sym states) ∙ is.1.free in absurd (cc)
calm-room (Serves sectors t) s is same awaits = absurd (cc)

module _ {site : Site} {number : ℕ} {spec : ProcessSpec} {program : Program} where
  -- one deed more that is no checkpoint
  more-covered : {deeds : List Deed} {core : Core} (deed : Deed) (s t : ProgramState) (later : Dues)
      → HasDone site number spec (deed ∷ deeds) core
      → core.state ≡ Runs program t → (covered : IsCovered site number spec program deeds s)
      → FollowsPath program covered.dues later s t
      → ((file : ℕ) (others : List Deed) → length (requests_on file others) ≤ most_asked program covered.dues s file
      → length (requests_on file (deed ∷ others)) ≤ most_asked program later t file)
      → ((place : ℕ) (words : List ℤ) → deed ≡ Took place words → later.read ≡ true)
      → IsCovered site number spec program (deed ∷ deeds) t
  more-covered {deeds = deeds} {core = core} deed s t later done at covered step asked read = record {
    dues = later;
    path = found.0;
    leads = found.1;
    globals = now-globals;
    asked = now-asked;
    read = now-read;
  }
    where
      found : (path : List ℕ) × Leads program path (stand_of later t)
      found = path-on program covered.path (stand_of covered.dues s) (stand_of later t) covered.leads step.leads

      now-globals : (since before : List Deed) (stale : Core) (old : ProgramState) → deed ∷ deeds ≡ since ++ before
          → AreUncheckpointed since → HasDone site number spec before stale
          → stale.state ≡ Runs program old → (item : ℕ) → is_among item later.globals ≡ false
          → words_of t.globals item ≡ words_of old.globals item
      now-globals [] before stale old split uncheckpointed again is item e =
          let same : stale ≡ core = done-one (subst (λ d. HasDone site number spec d stale) (sym split) again) done in
          let states : t ≡ old = runs-same (sym at ∙ ap (λ (c : Core). c.state) (sym same) ∙ is) in
          ap (λ (u : ProgramState). words_of u.globals item) states
      now-globals (one ∷ since) before stale old split uncheckpointed again is item e =
          step.words item e ∙ covered.globals since before stale old (ap (λ (d : List Deed). drop 1 d) split)
          uncheckpointed.1 again is item (step.due item e)

      now-asked : (since before : List Deed) (file : ℕ) → deed ∷ deeds ≡ since ++ before → AreUncheckpointed since
          → length (requests_on file since) ≤ most_asked program later t file
      now-asked [] before file split uncheckpointed = omega arith
      now-asked (one ∷ since) before file split uncheckpointed =
          let same : deed ≡ one = cc in
          subst (λ (d : Deed). length (requests_on file (d ∷ since)) ≤ most_asked program later t file) same
          (asked file since (covered.asked since before file (ap (λ (d : List Deed). drop 1 d) split) uncheckpointed.1))

      now-read : (since before : List Deed) (place : ℕ) (words : List ℤ)
          → deed ∷ deeds ≡ since ++ Took place words ∷ before → AreUncheckpointed since → later.read ≡ true
      now-read [] before place words split uncheckpointed = let same : deed ≡ Took place words = cc in read place
          words same
      now-read (one ∷ since) before place words split uncheckpointed =
          step.read (covered.read since before place words (ap (λ (d : List Deed). drop 1 d) split) uncheckpointed.1)

  -- a checkpoint leaves nothing due
  checkpoint-covered : {deeds : List Deed} {core : Core} (t : ProgramState) (path : List ℕ)
      → HasDone site number spec (Checkpointed ∷ deeds) core → core.state ≡ Runs program t
      → Leads program path (stand_of no_dues t) → IsCovered site number spec program (Checkpointed ∷ deeds) t
  checkpoint-covered {deeds = deeds} {core = core} t path done at leads = record {
    dues = no_dues;
    path = path;
    leads = leads;
    globals = now-globals;
    asked = now-asked;
    read = now-read;
  }
    where
      now-globals : (since before : List Deed) (stale : Core) (old : ProgramState)
          → Checkpointed ∷ deeds ≡ since ++ before → AreUncheckpointed since → HasDone site number spec before stale
          → stale.state ≡ Runs program old → (item : ℕ) → is_among item [] ≡ false
          → words_of t.globals item ≡ words_of old.globals item
      now-globals [] before stale old split uncheckpointed again is item e =
          let same : stale ≡ core = done-one (subst (λ d. HasDone site number spec d stale) (sym split) again) done in
          let states : t ≡ old = runs-same (sym at ∙ ap (λ (c : Core). c.state) (sym same) ∙ is) in
          ap (λ (u : ProgramState). words_of u.globals item) states
      now-globals (one ∷ since) before stale old split uncheckpointed again is item e =
          let same : Checkpointed ≡ one = cc in absurd (uncheckpointed.0 (subst IsCheckpoint same tt))

      now-asked : (since before : List Deed) (file : ℕ) → Checkpointed ∷ deeds ≡ since ++ before
          → AreUncheckpointed since → length (requests_on file since) ≤ most_asked program no_dues t file
      now-asked [] before file split uncheckpointed = omega arith
      now-asked (one ∷ since) before file split uncheckpointed =
          let same : Checkpointed ≡ one = cc in absurd (uncheckpointed.0 (subst IsCheckpoint same tt))

      now-read : (since before : List Deed) (place : ℕ) (words : List ℤ)
          → Checkpointed ∷ deeds ≡ since ++ Took place words ∷ before → AreUncheckpointed since → false ≡ true
      now-read [] before place words split uncheckpointed = absurd (cc)
      now-read (one ∷ since) before place words split uncheckpointed =
          let same : Checkpointed ≡ one = cc in absurd (uncheckpointed.0 (subst IsCheckpoint same tt))

  -- where a reply is awaited there is room for it
  done-room : {deeds : List Deed} {core : Core} (s : ProgramState) → IsRegularKind spec.what
      → HasDone site number spec deeds core → core.state ≡ Runs program s → HasRoom program s
  done-room s regular nothing_done is = calm-room _ s (start-calm spec.what regular) is
  done-room s regular (one_more {before = core} done (goes at)) is =
      calm-room _ s (inner-calm core.state (done-steady regular done)) is
  done-room s regular (one_more {before = core} done (checkpoints at)) is =
      calm-room _ s (checkpointed-calm core.state (done-steady regular done) at) is
  done-room s regular (one_more {before = core} done (takes {words = words} block at there)) is =
      calm-room _ s (took-calm core.state words (done-steady regular done) at) is
  done-room s regular (one_more {before = core} done (asks at file words)) is = by core.state at is
    where
      by : (state : ProcessState) → process.point state ≡ point.Ask → process.after_asked state ≡ Runs program s
          → HasRoom program s
      by (Runs other u) at is = subst (λ (t : ProgramState). HasRoom program t) (runs-same is)
          (subst (λ (c : Program). HasRoom c (after_asked u)) (program-same is) (asked-room other u at))
      by (Serves sectors u) at is = absurd (cc)
  done-room s regular (one_more {before = core} done (gets {words = words} at file)) is =
      calm-room _ s (got-calm core.state words (done-steady regular done) at) is
  done-room s regular (one_more {before = core} done (answers opener block at hand known there words)) is =
      calm-room _ s (answered-calm core.state (done-steady regular done) at) is
  done-room s regular (one_more {before = core} done (acts {found = found} at call)) is =
      calm-room _ s (device-calm core.state found (done-steady regular done) at) is

  -- one deed more
  one-covered : {deeds : List Deed} {core next : Core} {deed : Deed} (u s : ProgramState) → IsRegularKind spec.what
      → HasDone site number spec deeds core
      → core.state ≡ Runs program u → IsCovered site number spec program deeds u
      → Advances (openers_of site number) core deed next → next.state ≡ Runs program s
      → s.ended ≡ false → IsCovered site number spec program (deed ∷ deeds) s
  one-covered {deeds = deeds} {core = core} u s regular done is covered advances at alive = by advances at
    where
      placed : {p : Point} → process.point core.state ≡ p → process.point (Runs program u) ≡ p
      placed stands = ap process.point (sym is) ∙ stands

      -- elsewhere than at Await what is due on a file only grows
      grown : {later : Dues} {t : ProgramState} (p : Point) → p ≢ point.Await → process.point core.state ≡ p
          → FollowsPath program covered.dues later u t
          → (file n : ℕ) → n ≤ most_asked program covered.dues u file → n ≤ most_asked program later t file
      grown {later = later} {t = t} p away stands step file n few =
          let same = none-more program covered.dues u file (λ e. away (sym (placed stands) ∙ e)) in
          let more = step.asked file in omega (arith, few, same, more)

      by : {next : Core} {deed : Deed} → Advances (openers_of site number) core deed next → next.state ≡ Runs program s
          → IsCovered site number spec program (deed ∷ deeds) s
      by (goes stands) at =
          let state : process.after_inner core.state ≡ Runs program (inner program u) = ap process.after_inner is in
          let same : inner program u ≡ s = runs-same (sym state ∙ at) in
          let step = inner-steps program covered.dues u
          (subst (λ (t : ProgramState). t.ended ≡ false) (sym same) alive) in
          subst (λ (t : ProgramState). IsCovered site number spec program (Went ∷ deeds) t) same
          (more-covered Went u (inner program u) step.0 (one_more done (goes stands)) state covered step.1
          (λ file others few. grown point.Inner (λ e. cc) stands step.1 file (length (requests_on file others)) few)
          (λ place words e. absurd (cc)))
      by (checkpoints stands) at =
          let state : process.after_checkpoint core.state ≡ Runs program (after_checkpoint u) =
          ap process.after_checkpoint is in
          let found = path-on program covered.path (stand_of covered.dues u) (stand_of no_dues (after_checkpoint u))
          covered.leads (checkpointed-steps program covered.dues u (placed stands)) in
          subst (λ (t : ProgramState). IsCovered site number spec program (Checkpointed ∷ deeds) t)
          (runs-same (sym state ∙ at))
          (checkpoint-covered (after_checkpoint u) found.0 (one_more done (checkpoints stands)) state found.1)
      by (takes {place = place} {words = words} block stands known) at =
          let state : process.after_took core.state words ≡ Runs program (after_took program u words) =
          ap (λ (c : ProcessState). process.after_took c words) is in
          let step = took-steps program covered.dues u words (placed stands) in
          subst (λ (t : ProgramState). IsCovered site number spec program (Took place words ∷ deeds) t)
          (runs-same (sym state ∙ at))
          (more-covered (Took place words) u (after_took program u words) step.0
          (one_more done (takes block stands known)) state covered step.1
          (λ file others few. grown point.Take (λ e. cc) stands step.1 file (length (requests_on file others)) few)
          (λ one given e. step.2))
      by (asks {file = asked} {words = words} stands named said) at =
          let state : process.after_asked core.state ≡ Runs program (after_asked u) = ap process.after_asked is in
          let awaits : process.point (Runs program (after_asked u)) ≡ point.Await =
          ap process.point (sym state) ∙ asked-awaits core.state (done-steady regular done) stands in
          subst (λ (t : ProgramState). IsCovered site number spec program (Asked asked words ∷ deeds) t)
          (runs-same (sym state ∙ at))
          (more-covered (Asked asked words) u (after_asked u) covered.dues (one_more done (asks stands named said))
          state covered (asked-steps program covered.dues u)
          (λ file others few.
          let none = none-more program covered.dues u file
          (λ e. let f : point.Ask ≡ point.Await = sym (placed stands) ∙ e in cc) in
          let more = count-more (ask_on file) (Asked asked words) others (asked == file) words refl in
          let its : one_if (awaits_on (Runs program (after_asked u)) file) ≡ one_if (asked == file) =
          ap one_if (one-awaited (Runs program (after_asked u)) file awaits
          ∙ ap (λ (n : ℕ). n == file) (sym (named ∙ ap process.asked_file is))) in
          omega (arith, few, none, more, its))
          (λ place given e. absurd (cc)))
      by (gets {file = file} {words = words} stands named) at =
          let state : process.after_got core.state words ≡ Runs program (after_got program u words) =
          ap (λ (c : ProcessState). process.after_got c words) is in
          let step = got-steps program covered.dues u words (placed stands) (done-room u regular done is) in
          subst (λ (t : ProgramState). IsCovered site number spec program (Got file words ∷ deeds) t)
          (runs-same (sym state ∙ at))
          (more-covered (Got file words) u (after_got program u words) step.0 (one_more done (gets stands named)) state
          covered step.1
          (λ other others few. elim (eqb_tells (asked_file u) other) [
            | inl t ↦
                (let one : one_if (awaits_on (Runs program u) other)
                ≡ 1 = ap one_if (one-awaited (Runs program u) other (placed stands) ∙ t.0) in
                let more : asked_count other covered.dues < asked_count other step.0 =
                subst (λ (k : ℕ). asked_count k covered.dues < asked_count k step.0) t.1 step.2 in
                omega (arith, few, one, more))
            | inr t ↦
                (let none : one_if (awaits_on (Runs program u) other)
                ≡ 0 = ap one_if (one-awaited (Runs program u) other (placed stands) ∙ t.0) in
                let more = step.1.asked other in omega (arith, few, none, more))
          ]) (λ place given e. absurd (cc)))
      by (answers {place = place} {words = words} opener block stands hand known there said) at =
          let state : process.after_answered core.state ≡ Runs program (after_answered u) =
          ap process.after_answered is in
          let step = answered-steps program covered.dues u (placed stands) in
          subst (λ (t : ProgramState). IsCovered site number spec program (Answered place words ∷ deeds) t)
          (runs-same (sym state ∙ at))
          (more-covered (Answered place words) u (after_answered u) step.0
          (one_more done (answers opener block stands hand known there said)) state covered step.1
          (λ file others few. grown point.Answer (λ e. cc) stands step.1 file (length (requests_on file others)) few)
          (λ one given e. absurd (cc)))
      by (acts stands call) at = absurd (never-device program u (placed stands))

  start-covered : {core : Core} (s : ProgramState) → HasDone site number spec [] core → core.state ≡ Runs program s
      → start program ≡ s → IsCovered site number spec program [] s
  start-covered {core = core} s done at is = record {
    dues = no_dues;
    path = [];
    leads = subst (λ (t : ProgramState). Leads program [] (settled no_dues (place_of t.frames))) is
        (by (slice_get program.procedures program.main) refl);
    globals = λ since before stale old split uncheckpointed again there item e.
        first-same since before stale old split again there item;
    asked = λ since before file split uncheckpointed. none-asked since before file split;
    read = λ since before place words split uncheckpointed. absurd (none-taken since before place words split);
  }
    where
      by : (main : Option Procedure) → slice_get program.procedures program.main ≡ main
          → first_stand program ≡ settled no_dues (place_of (first_frames program.main main))
      by None there = ap (λ (q : Option Procedure). stand_at (body_in q) [] no_dues) there
      by (Some procedure) there = ap (λ (q : Option Procedure). stand_at (body_in q) [] no_dues) there

      first-same : (since before : List Deed) (stale : Core) (old : ProgramState) → [] ≡ since ++ before
          → HasDone site number spec before stale → stale.state ≡ Runs program old
          → (item : ℕ) → words_of s.globals item ≡ words_of old.globals item
      first-same [] before stale old split again there item =
          let same : stale ≡ core = done-one (subst (λ d. HasDone site number spec d stale) (sym split) again) done in
          let states : s ≡ old = runs-same (sym at ∙ ap (λ (c : Core). c.state) (sym same) ∙ there) in
          ap (λ (u : ProgramState). words_of u.globals item) states
      first-same (one ∷ since) before stale old split again there item = absurd (cc)

      none-asked : (since before : List Deed) (file : ℕ) → [] ≡ since ++ before
          → length (requests_on file since) ≤ most_asked program no_dues s file
      none-asked [] before file split = omega arith
      none-asked (one ∷ since) before file split = absurd (cc)

      none-taken : (since before : List Deed) (place : ℕ) (words : List ℤ) → [] ≡ since ++ Took place words ∷ before → ⊥
      none-taken [] before place words split = cc
      none-taken (one ∷ since) before place words split = cc

  pub cover : {deeds : List Deed} {core : Core} (s : ProgramState) → spec.what ≡ kind.Pair program → IsRegular program
      → HasDone site number spec deeds core
      → core.state ≡ Runs program s → s.ended ≡ false → IsCovered site number spec program deeds s
  cover s is regular nothing_done at alive =
      start-covered s nothing_done at (runs-same (sym (ap process.start_of is) ∙ at))
  cover s is regular (one_more {deed = deed} {before = core} done advances) at alive =
      let found = running core.state program (done-kind done ∙ ap kind_without_mirror is) in
      let stands : process.point (Runs program found.s) ≡ point_of deed =
      ap process.point (sym found.same) ∙ stands-there advances in
      let all : IsRegularKind spec.what = rw is regular in
      one-covered found.s s all done found.same
      (cover found.s is regular done found.same
      (alive-at program found.s (point_of deed) (deed-alive deed) stands)) advances at alive
