-- Each step of a program stays at its stand or goes on along a path, and what it changes is due then.
use Rattle.std.proofs.Common.{◌≡◌, inl, inr, ◌<◌, ℕ, ℤ, pos, true, false, List, [], ◌∷◌, drop, Option, refl, ap, subst}
use Rattle.std.proofs.Common.{sym, ◌∙◌, arith}
use Rattle.tal_tree.specs.declared.program.Program.{Program}
use Rattle.tal_tree.specs.declared.statement.Statement.{Statement}
use Rattle.tal_tree.specs.declared.statement.What.{What, What-F, out-What}
use Rattle.process_semantics.specs.declared.point.Point.TheVariants as point
use Rattle.process_semantics.specs.Calls as calls
use Rattle.process_semantics.specs.Changes as changes
use Rattle.process_semantics.specs.Steps as steps
use Rattle.process_semantics.specs.State.{Entry, Run, Frame, ProgramState, first_of, next_of}
use Rattle.process_semantics.specs.Points.{point_of}
use Rattle.process_semantics.specs.Steps.{inner, inner_entry, or_ends}
use Rattle.process_semantics.proofs.Points.{AtCall, at_ask, stands-at, awaits-at, in-next}
use Rattle.process_semantics.specs.Calls.{after_took, after_asked, after_got, file_in, asked_file, after_answered}
use Rattle.process_semantics.specs.Calls.{after_checkpoint}
use Rattle.path_semantics.specs.declared.dues.Dues.{Dues}
use Rattle.path_semantics.specs.Dues.{no_dues, after_entry}
use Rattle.path_semantics.specs.Place.{Place, Stand, place_of, settled, successors, stands_after}
use Rattle.gd_words.specs.Members.{IsAmong}
use Rattle.path_semantics.specs.Break.{asked_count}
use Rattle.path_steps.specs.Step.{stand_of, StaysOrGoesOn, FollowsPath, has_room_in, HasRoom}
use Rattle.path_steps.proofs.Growing.{not-both}
use Rattle.path_steps.proofs.Moving.{GoesBy, GoesTo, end-goes}
use Rattle.path_steps.proofs.Going.{entry-goes}
use Rattle.path_steps.proofs.Points.{place-at, took-in, got-in, answered-in, checkpointed-in}

-- a stand to which the next entry leads
led-on : (program : Program) (dues : Dues) (there : Stand) (s : ProgramState) (entry : Entry) (rest : List Entry)
    (callers : Place) → place_of s.frames ≡ (entry ∷ rest) ∷ callers
    → IsAmong there (stands_after program dues ((entry ∷ rest) ∷ callers))
    → StaysOrGoesOn program (stand_of dues s) there
led-on program dues there s entry rest callers place led =
    inr (subst (λ (p : Place). IsAmong there (successors program (settled dues p))) (sym place) led)

-- a step to such a stand
led-step : (program : Program) (dues later : Dues) (s after : ProgramState) (entry : Entry) (rest : List Entry)
    (callers : Place) → place_of s.frames ≡ (entry ∷ rest) ∷ callers
    → GoesBy (λ stand. IsAmong stand (stands_after program dues ((entry ∷ rest) ∷ callers))) dues later s after
    → FollowsPath program dues later s after
led-step program dues later s after entry rest callers place goes = record {
  leads = led-on program dues (stand_of later after) s entry rest callers place goes.stands;
  due = goes.due;
  words = goes.words;
  asked = goes.asked;
  read = goes.read;
}

-- the step of a procedure's end: the path stands there already
end-step : (program : Program) (dues later : Dues) (s after : ProgramState) (callers : Place)
    → place_of s.frames ≡ [] ∷ callers
    → GoesBy (λ stand. stand ≡ settled dues ([] ∷ callers)) dues later s after → FollowsPath program dues later s after
end-step program dues later s after callers place goes = record {
  leads = inl (ap (settled dues) place ∙ sym goes.stands);
  due = goes.due;
  words = goes.words;
  asked = goes.asked;
  read = goes.read;
}

-- a program without frames ends
no-frames : (code : Program) (s : ProgramState) → s.frames ≡ [] → (inner code s).ended ≡ true
no-frames code s is =
    ap (λ (f : List Frame). (or_ends s (inner_entry code s (next_of f))).ended) is
    ∙ ap (λ (f : List Frame). (or_ends s (steps.given_to code (pos 0) (changes.left s) (drop 1 f))).ended) is

-- at Inner
pub inner-steps : (code : Program) (dues : Dues) (s : ProgramState) → (inner code s).ended ≡ false
    → (later : Dues) × FollowsPath code dues later s (inner code s)
inner-steps code dues s alive = by_frames s.frames refl
  where
    by_rest : (rest : List Entry) (callers : Place) → place_of s.frames ≡ rest ∷ callers
        → next_of s.frames ≡ first_of rest → (later : Dues) × FollowsPath code dues later s (inner code s)
    by_rest [] callers place next =
        let found = subst (λ (e : Option Entry). GoesTo (λ stand. stand ≡ settled dues ([] ∷ callers)) dues s
        (or_ends s (inner_entry code s e))) (sym next)
        (end-goes code dues s callers place) alive in
        (found.0, end-step code dues found.0 s (inner code s) callers place found.1)
    by_rest (entry ∷ rest) callers place next =
        let found = subst (λ (e : Option Entry). GoesTo
        (λ stand. IsAmong stand (stands_after code dues ((entry ∷ rest) ∷ callers))) dues s
        (or_ends s (inner_entry code s e)))
        (sym next) (entry-goes code dues s entry rest callers place) alive in
        (found.0, led-step code dues found.0 s (inner code s) entry rest callers place found.1)

    by_frames : (frames : List Frame) → s.frames ≡ frames
        → (later : Dues) × FollowsPath code dues later s (inner code s)
    by_frames [] is = absurd (not-both (inner code s).ended (no-frames code s is) alive)
    by_frames (frame ∷ frames) is = by_rest frame.rest (place_of frames) (ap place_of is) (ap next_of is)

-- at Take
pub took-steps : (code : Program) (dues : Dues) (s : ProgramState) (words : List ℤ) → point_of code s ≡ point.Take
    → (later : Dues) × FollowsPath code dues later s (after_took code s words) × (later.read ≡ true)
took-steps code dues s words at =
    let stands = stands-at code s point.Take (λ e. cc) (λ e. cc) at in
    let entry : Entry = Run stands.statement in
    let later : Dues = after_entry dues entry in
    let next : after_took code s words ≡ calls.took_in code s words (out-What stands.statement.what) =
    in-next s (calls.took_in code s words) s.frames stands.statement stands.next in
    let took = took-in code dues s stands.statement stands.rest (place_of stands.callers) words (place-at stands)
    (out-What stands.statement.what) refl stands.call in (
      later,
      led-step code dues later s (after_took code s words) entry stands.rest (place_of stands.callers) (place-at stands)
          (subst (λ (t : ProgramState). GoesBy (λ stand.
          IsAmong stand (stands_after code dues ((entry ∷ stands.rest) ∷ place_of stands.callers))) dues later s t)
          (sym next) took.0),
      took.1,
    )

-- at Ask the program stays
pub asked-steps : (code : Program) (dues : Dues) (s : ProgramState) → FollowsPath code dues dues s (after_asked s)
asked-steps code dues s =
    record { leads = inl refl; due = λ item e. e; words = λ item e. refl; asked = λ file. omega arith; read = λ e. e }

-- at Await
pub got-steps : (code : Program) (dues : Dues) (s : ProgramState) (words : List ℤ) → point_of code s ≡ point.Await
    → HasRoom code s
    → (later : Dues) × FollowsPath code dues later s (after_got code s words)
    × (asked_count (asked_file s) dues < asked_count (asked_file s) later)
got-steps code dues s words at ready =
    let stands = stands-at code s point.Await (λ e. cc) (λ e. cc) at in
    let entry : Entry = Run stands.statement in
    let later : Dues = after_entry dues entry in
    let next : after_got code s words ≡ calls.got_in code s words (out-What stands.statement.what) =
    in-next s (calls.got_in code s words) s.frames stands.statement stands.next in
    let asks : asked_file s ≡ file_in (out-What stands.statement.what) =
    in-next 0 file_in s.frames stands.statement stands.next in
    let room : has_room_in code s (out-What stands.statement.what) ≡ true =
    sym (in-next true (has_room_in code s) s.frames stands.statement stands.next) ∙ ready (awaits-at stands.call) in
    let got = got-in code dues s stands.statement stands.rest (place_of stands.callers) words (place-at stands)
    (out-What stands.statement.what) refl stands.call room in (
      later,
      led-step code dues later s (after_got code s words) entry stands.rest (place_of stands.callers) (place-at stands)
          (subst (λ (t : ProgramState). GoesBy (λ stand.
          IsAmong stand (stands_after code dues ((entry ∷ stands.rest) ∷ place_of stands.callers))) dues later s t)
          (sym next) got.0),
      subst (λ (file : ℕ). asked_count file dues < asked_count file later) (sym asks) got.1,
    )

-- at Answer
pub answered-steps : (code : Program) (dues : Dues) (s : ProgramState) → point_of code s ≡ point.Answer
    → (later : Dues) × FollowsPath code dues later s (after_answered s)
answered-steps code dues s at =
    let stands = stands-at code s point.Answer (λ e. cc) (λ e. cc) at in
    let entry : Entry = Run stands.statement in (
      after_entry dues entry,
      led-step code dues (after_entry dues entry) s (after_answered s) entry stands.rest (place_of stands.callers)
          (place-at stands)
          (answered-in code dues s stands.statement stands.rest (place_of stands.callers) (place-at stands)
          (out-What stands.statement.what) refl stands.call),
    )

-- at a checkpoint nothing is due afterwards
pub checkpointed-steps : (code : Program) (dues : Dues) (s : ProgramState) → point_of code s ≡ point.AtCheckpoint
    → StaysOrGoesOn code (stand_of dues s) (stand_of no_dues (after_checkpoint s))
checkpointed-steps code dues s at =
    let stands = stands-at code s point.AtCheckpoint (λ e. cc) (λ e. cc) at in
    let led = checkpointed-in code dues s stands.statement stands.rest (place_of stands.callers) (place-at stands)
    (out-What stands.statement.what) refl stands.call in
    led-on code dues (stand_of no_dues (after_checkpoint s)) s (Run stands.statement) stands.rest
    (place_of stands.callers) (place-at stands) led

-- after Ask there is room for the reply
pub asked-room : (code : Program) (s : ProgramState) → point_of code s ≡ point.Ask → HasRoom code (after_asked s)
asked-room code s at awaits =
    let stands = stands-at code s point.Ask (λ e. cc) (λ e. cc) at in
    in-next true (has_room_in code (after_asked s)) s.frames stands.statement stands.next
    ∙ by (out-What stands.statement.what) stands.call
  where
    by : (what : What-F What Statement) → AtCall code s what point.Ask → has_room_in code (after_asked s) what ≡ true
    by what (at_ask file buffer send room got calm good) = good
