-- An act of a machine that agrees with a ledger is a deed that is allowed there, or what a terminal may do.
use Rattle.std.proofs.Common.{◌≡◌, ◌<◌, ℕ, ◌+◌, ℤ, true, List, [], ◌∷◌, length, Option, Some, None, is_some, slice_get}
use Rattle.std.proofs.Common.{refl, ap, sym, ◌∙◌, subst, arith}
use Rattle.std.proofs.lemmas.List.{length-set}
use Rattle.std.proofs.lemmas.Option.{slice_get_within, slice_get-get_or}
use Rattle.tal_tree.specs.declared.act.Act.TheVariants.{Step, Take}
use Rattle.tal_tree.specs.declared.site.ProcessSpec.{ProcessSpec}
use Rattle.tal_tree.specs.declared.site.Site.{Site}
use Rattle.tal_tree.specs.declared.site.Who.{Who}
use Rattle.tal_tree.specs.declared.site.Who.TheVariants as who
use Rattle.tal_tree.specs.declared.statement.Statement.{Statement}
use Rattle.tal_tree.specs.declared.statement.What.{What, What-F}
use Rattle.plain_semantics.specs.process_semantics.specs.declared.point.Point.{Point}
use Rattle.plain_semantics.specs.process_semantics.specs.declared.point.Point.TheVariants as point
use Rattle.plain_semantics.specs.process_semantics.specs.Process as process
use Rattle.plain_semantics.specs.process_semantics.proofs.Points.{AtCall, at_reply, stands-at}
use Rattle.process_histories.specs.whole_states.specs.Processes.{IsDiscAt, IsWholeProcess}
use Rattle.process_histories.specs.whole_states.proofs.Discs.{disc-at}
use Rattle.plain_semantics.specs.Machine.{Plain, PlainProcess, Made, made, slot_at, slot_of, step_made, step_at}
use Rattle.plain_semantics.specs.Machine.{got_made, take_made, take_at, take_slot}
use Rattle.plain_semantics.specs.Openers.{openers_of, opener_of}
use Rattle.plain_semantics.specs.declared.slot.Opener.{Opener}
use Rattle.plain_semantics.specs.declared.slot.Slot.{Slot}
use Rattle.plain_semantics.specs.declared.slot.Slot.TheVariants.{Empty, Waiting, Taken, Answered}
use Rattle.process_histories.specs.world_semantics.specs.Core.{Core, Deed, Went, Checkpointed, Took, Asked, Got}
use Rattle.process_histories.specs.world_semantics.specs.Core.{Answered as Replied, Acted}
use Rattle.process_histories.specs.world_semantics.specs.Core.{goes, checkpoints, takes, asks, gets, answers, acts}
use Rattle.process_histories.specs.world_semantics.specs.Own.{found_on}
use Rattle.process_histories.specs.world_semantics.proofs.Lists.{some-same}
use Rattle.process_histories.specs.Bounds.{AreBounded}
use Rattle.process_histories.specs.Devices.{sectors_after}
use Rattle.process_histories.specs.Histories.{HasDone, nothing_done, one_more}
use Rattle.process_histories.proofs.Counts.{done-stands}
use Rattle.process_histories.proofs.OneKind.{openers-same}
use Rattle.process_histories.proofs.Whole.{done-whole}
use Rattle.plain_histories.specs.Agreeing.{AreRegular, Agrees, HasSlotOf}
use Rattle.plain_histories.specs.Booking.{act_of, CanDo}
use Rattle.plain_histories.specs.Ledgers.{Ledger}
use Rattle.plain_histories.proofs.Openers.{opener-is}
use Rattle.plain_histories.specs.Slots.{IsSlot, is_empty, is_waiting, is_answered}

waiting-slot : {a t n r : List (List ℤ)} {words : List ℤ} → IsSlot a t n r (Waiting words) → a ≡ words ∷ t
waiting-slot (is_waiting asked even last) = asked

answered-slot : {a t n r : List (List ℤ)} {words : List ℤ} → IsSlot a t n r (Answered words) → n ≡ words ∷ r
answered-slot (is_answered asked even last) = last

empty-slot : {a t n r : List (List ℤ)} → IsSlot a t n r Empty → length a ≡ length r
empty-slot (is_empty asked even last) =
    let x = ap (length {A = List ℤ}) asked in let y = ap (length {A = List ℤ}) last in omega (arith, x, y, even)

-- the slot of an opener, as it is found in the machine
found-slot : {site : Site} {plain : Plain} {ledger : Ledger} (one : Who) (opener : Opener) (slot : Slot)
    → Agrees site plain ledger → opener_of site one ≡ Some opener
    → slot_at plain opener ≡ Some slot → HasSlotOf ledger one opener slot
found-slot {ledger = ledger} one opener slot agrees is found =
    let old = agrees.slots one opener is in
    subst (λ s. HasSlotOf ledger one opener s) (some-same (sym old.1 ∙ found)) old.2

-- at Answer a request is in hand
answer-hand : (s : process.ProcessState) → IsWholeProcess s → process.point s ≡ point.Answer → process.in_hand s ≡ true
answer-hand (process.Runs program s) is at = by (stands-at program s point.Answer (λ e. cc) (λ e. cc) at).call
  where
    by : {what : What-F What Statement} → AtCall program s what point.Answer → s.in_hand ≡ true
    by (at_reply buffer count held) = held
answer-hand (process.Serves sectors s) is at = by s.request s.reply (disc-at point.Answer at is)
  where
    by : (request reply : Option (List ℤ)) → IsDiscAt point.Answer request reply → is_some request ≡ true
    by None reply fits = absurd fits
    by (Some request) None fits = absurd fits
    by (Some request) (Some reply) fits = refl

-- the opener of the request in hand is there
hand-there : {site : Site} {number : ℕ} {spec : ProcessSpec} {deeds : List Deed} {core : Core} (place : ℕ)
    → HasDone site number spec deeds core
    → core.receive.in_hand ≡ Some place → place < length core.receive.openers
hand-there place nothing_done held = absurd (cc)
hand-there place (one_more done (goes at)) held = hand-there place done held
hand-there place (one_more done (checkpoints at)) held = hand-there place done held
hand-there place (one_more {before = core} done (takes {place = one} block at there)) held =
    let same : one ≡ place = some-same held in
    let within = slice_get_within core.receive.openers one block there in
    let long = length-set core.receive.openers one (record block { taken = block.taken + 1 }) in
    omega (arith, same, within, long)
hand-there place (one_more done (asks at named said)) held = hand-there place done held
hand-there place (one_more done (gets at named)) held = hand-there place done held
hand-there place (one_more done (answers opener block at hand known there said)) held = absurd (cc)
hand-there place (one_more done (acts at call)) held = hand-there place done held

-- a step of a process is a deed other than a take
pub record IsStep (site : Site) (ledger : Ledger) (number : ℕ) (spec : ProcessSpec) : Type 0 where
  pub deed : Deed
  pub step : act_of number deed ≡ Step number
  pub can : CanDo site ledger number spec deed

module _ (site : Site) (plain : Plain) (ledger : Ledger) (number : ℕ) (spec : ProcessSpec) (m : Made)
    (regular : AreRegular site) (agrees : Agrees site plain ledger)
    (there : slice_get site.processes number ≡ Some spec) where
  step-is : (one : PlainProcess) (core : Core) → AreBounded (ledger.deeds number)
      → HasDone site number spec (ledger.deeds number) core → one.state ≡ core.state
      → step_at site number one plain (process.point one.state) ≡ Some m → IsStep site ledger number spec
  step-is one core bounded done same makes =
      by (process.point core.state) refl (ap (step_at site number one plain) (ap process.point (sym same)) ∙ makes)
    where
      got : process.point core.state ≡ point.Await → (opener : Option Opener)
          → opener_of site (who.File number (process.asked_file one.state)) ≡ opener → (slot : Option Slot)
          → slot_of plain opener ≡ slot → got_made number one opener plain slot ≡ Some m
          → IsStep site ledger number spec
      got at opener is None found makes = absurd (cc)
      got at opener is (Some Empty) found makes = absurd (cc)
      got at opener is (Some (Waiting words)) found makes = absurd (cc)
      got at opener is (Some Taken) found makes = absurd (cc)
      got at None is (Some (Answered words)) found makes = absurd (cc)
      got at (Some opener) is (Some (Answered words)) found makes =
          let here : opener_of site (who.File number (process.asked_file core.state)) ≡ Some opener =
          ap (λ s. opener_of site (who.File number (process.asked_file s))) (sym same) ∙ is in
          record {
            deed = Got (process.asked_file core.state) words;
            step = refl;
            can = record {
              before = core;
              after = _;
              done = done;
              advances = gets at refl;
              allowed = (
                opener,
                here,
                answered-slot (found-slot (who.File number (process.asked_file core.state))
                    opener (Answered words) agrees here found),
              );
            };
          }

      answered : process.point core.state ≡ point.Answer → (hand : Option ℕ) → core.receive.in_hand ≡ hand
          → IsStep site ledger number spec
      answered at None held =
          let whole = done-whole (regular number spec there) done bounded in
          let some = answer-hand core.state whole at in
          let hand = (done-stands done).hand in
          absurd (let none : is_some core.receive.in_hand ≡ is_some {T = ℕ} None = ap is_some held in cc)
      answered at (Some place) held =
          let within = hand-there place done held in
          let long = openers-same done in
          let block = slice_get-get_or core.receive.openers place (record { taken = 0; kept = [] }) within in
          let opener = slice_get-get_or (openers_of site number) place (record { who = who.Terminal 0; depth = 0 })
          (omega (arith, within, long)) in
          record {
            deed = Replied place (process.answer_of core.state);
            step = refl;
            can = record {
              before = core;
              after = _;
              done = done;
              advances = answers _ _ at held opener block refl;
              allowed = tt;
            };
          }

      by : (p : Point) → process.point core.state ≡ p → step_at site number one plain p ≡ Some m
          → IsStep site ledger number spec
      by point.Inner at makes = record {
        deed = Went;
        step = refl;
        can = record { before = core; after = _; done = done; advances = goes at; allowed = tt };
      }
      by point.AtCheckpoint at makes = record {
        deed = Checkpointed;
        step = refl;
        can =
            record { before = core; after = _; done = done; advances = checkpoints at; allowed = tt };
      }
      by point.Ask at makes = record {
        deed = Asked (process.asked_file core.state) (process.asked_words core.state);
        step = refl;
        can = record { before = core; after = _; done = done; advances = asks at refl refl; allowed = tt };
      }
      by point.Device at makes = record {
        deed = Acted (process.call_of core.state)
            (found_on (sectors_after spec.what (ledger.deeds number)) (process.call_of core.state));
        step = refl;
        can = record { before = core; after = _; done = done; advances = acts at refl; allowed = refl };
      }
      by point.Await at makes = got at (opener_of site (who.File number (process.asked_file one.state))) refl
          (slot_of plain (opener_of site (who.File number (process.asked_file one.state)))) refl makes
      by point.Answer at makes = answered at core.receive.in_hand refl
      by point.Take at makes = absurd (cc)
      by point.Ended at makes = absurd (cc)

  pub step-deed : AreBounded (ledger.deeds number) → made site plain (Step number) ≡ Some m
      → IsStep site ledger number spec
  step-deed bounded makes =
      let its = agrees.processes number spec there in
      step-is its.0 its.2.core bounded its.2.done its.2.state (ap (step_made site number plain) (sym its.1) ∙ makes)

module _ (site : Site) (plain : Plain) (ledger : Ledger) (number : ℕ) (spec : ProcessSpec) (m : Made)
    (agrees : Agrees site plain ledger)
    (there : slice_get site.processes number ≡ Some spec) where
  take-is : (one : PlainProcess) (core : Core) (asker : Who) (place : ℕ) → slice_get plain.processes number ≡ Some one
      → HasDone site number spec (ledger.deeds number) core
      → one.state ≡ core.state → opener_of site asker ≡ Some (record { server = number; place = place })
      → take_at number place one plain (process.point one.state) ≡ Some m
      → (words : List ℤ) × CanDo site ledger number spec (Took place words)
  take-is one core asker place at done same is makes =
      by (process.point core.state) refl (ap (take_at number place one plain) (ap process.point (sym same)) ∙ makes)
    where
      slot : process.point core.state ≡ point.Take → (slot : Option Slot) → slice_get one.slots place ≡ slot
          → take_slot number place one plain slot ≡ Some m
          → (words : List ℤ) × CanDo site ledger number spec (Took place words)
      slot stands None found makes = absurd (cc)
      slot stands (Some Empty) found makes = absurd (cc)
      slot stands (Some Taken) found makes = absurd (cc)
      slot stands (Some (Answered words)) found makes = absurd (cc)
      slot stands (Some (Waiting words)) found makes =
          let spec-there = opener-is site asker (record { server = number; place = place }) is in
          let within = slice_get_within (openers_of site number) place spec-there.spec spec-there.placed in
          let long = openers-same done in
          let block = slice_get-get_or core.receive.openers place (record { taken = 0; kept = [] })
          (omega (arith, within, long)) in
          let in_slot : slot_at plain (record { server = number; place = place }) ≡ Some (Waiting words) =
          rw at found in (
            words,
            record {
              before = core;
              after = _;
              done = done;
              advances = takes _ stands block;
              allowed = (
                asker,
                is,
                waiting-slot (found-slot asker (record { server = number; place = place })
                    (Waiting words) agrees is in_slot),
              );
            },
          )

      by : (p : Point) → process.point core.state ≡ p → take_at number place one plain p ≡ Some m
          → (words : List ℤ) × CanDo site ledger number spec (Took place words)
      by point.Take stands makes = slot stands (slice_get one.slots place) refl makes
      by point.Inner stands makes = absurd (cc)
      by point.Ask stands makes = absurd (cc)
      by point.Await stands makes = absurd (cc)
      by point.Answer stands makes = absurd (cc)
      by point.AtCheckpoint stands makes = absurd (cc)
      by point.Device stands makes = absurd (cc)
      by point.Ended stands makes = absurd (cc)

  pub take-deed : (asker : Who) (place : ℕ) → opener_of site asker ≡ Some (record { server = number; place = place })
      → made site plain (Take number place) ≡ Some m
      → (words : List ℤ) × CanDo site ledger number spec (Took place words)
  take-deed asker place is makes =
      let its = agrees.processes number spec there in
      take-is its.0 its.2.core asker place its.1 its.2.done its.2.state is
      (ap (take_made number place plain) (sym its.1) ∙ makes)
