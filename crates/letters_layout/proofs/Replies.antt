-- Each reply is within the layout.
use Rattle.std.proofs.Common.{◌≡◌, ◌≤◌, ◌<◌, inl, inr, ℕ, zero, suc, ◌==◌, ℤ, pos, negsuc, Bool, true, false, ◌&&◌}
use Rattle.std.proofs.Common.{nat_le, if◌then◌else◌, List, [], ◌∷◌, length, Option, Some, None, slice_get}
use Rattle.std.proofs.Common.{option_and_then, refl, subst, arith}
use Rattle.std.specs.List.{cons_option}
use Rattle.std.proofs.lemmas.Bool.{leb-true, le-leb}
use Rattle.std.proofs.lemmas.Bool.Decides.{eqb_tells}
use Rattle.std.proofs.lemmas.List.{length-take}
use Rattle.std.proofs.lemmas.Option.{slice_get_within}
use Rattle.gd_words.specs.Members.{IsAmong}
use Rattle.gd_words.specs.declared.message.Reply.{Reply}
use Rattle.tal_tree.specs.declared.program.Program.{Program}
use Rattle.tal_tree.specs.declared.act.Act.{Act}
use Rattle.tal_tree.specs.declared.act.Shown.{Shown}
use Rattle.tal_tree.specs.declared.site.ProcessSpec.{ProcessSpec}
use Rattle.tal_tree.specs.declared.site.Site.{Site}
use Rattle.tal_tree.specs.declared.statement.Statement.{Statement}
use Rattle.tal_tree.specs.declared.statement.What.{What, What-F, out-What}
use Rattle.tal_values.specs.Value.{value_of}
use Rattle.schedule.specs.declared.event.Event.{Event}
use Rattle.plain_semantics.specs.Openers.{openers_of}
use Rattle.process_semantics.specs.Calls as calls
use Rattle.process_semantics.specs.Process as process
use Rattle.process_semantics.specs.Process.{ProcessState, Runs, Serves}
use Rattle.process_semantics.specs.State.{ProgramState, Entry, Run, Test, Last, memory_of, words_of, good_count}
use Rattle.process_semantics.specs.State.{count_of, in_entry, next_of}
use Rattle.process_images.proofs.Discs.{reply-few}
use Rattle.whole_states.specs.Processes.{IsWholeProcess}
use Rattle.letter_laws.specs.awaited_requests.specs.Seats.{IsLaidOut}
use Rattle.letter_laws.specs.awaited_requests.proofs.Seats.{run-seats}
use Rattle.world_semantics.specs.Core.{Core, Deed, goes, checkpoints, takes, asks, gets, answers, acts}
use Rattle.world_semantics.specs.Follows.{IsRun}
use Rattle.world_semantics.specs.Messages.{Replying}
use Rattle.world_semantics.specs.World.{World}
use Rattle.letter_laws.specs.process_histories.specs.Bounds.{AreBounded}
use Rattle.letter_laws.specs.process_histories.specs.Histories.{HasDone, nothing_done, one_more}
use Rattle.letter_laws.specs.process_histories.specs.Words.{answered_to, answer_to}
use Rattle.letter_laws.specs.process_histories.proofs.Whole.{done-whole, bounded-before}
use Rattle.whole_states.specs.Processes.{IsRegularKind}
use Rattle.letter_laws.specs.plain_histories.specs.Booking.{AreBooked, none_booked, deed_booked, entry_booked}
use Rattle.letter_laws.specs.plain_histories.specs.Booking.{reply_booked}
use Rattle.letter_laws.specs.plain_histories.specs.Ledgers.{Ledger}
use Rattle.letter_laws.specs.plain_histories.proofs.Counted.{booked-short}
use Rattle.letter_laws.specs.takeover_laws.specs.Fit.{IsFit}
use Rattle.letter_laws.specs.takeover_laws.specs.Invariant.{Invariant}
use Rattle.letter_laws.specs.takeover_laws.proofs.Kept.{run-keeps}
use Rattle.message_layout.specs.Messages.{Carrying}
use Rattle.letters_layout.specs.Fitting.{IsSmall}
use Rattle.message_layout.specs.Layout.{Fits}
use Rattle.letters_layout.proofs.Requests.{few-of, names, entry-number}

good-few : (words : List ℤ) (value : Option ℤ) (n : ℕ) → option_and_then (good_count words) value ≡ Some n → n ≤ 16
good-few words None n is = absurd (cc)
good-few words (Some (negsuc m)) n is = absurd (cc)
good-few words (Some (pos m)) n is = by (nat_le m (length words)) (nat_le m 16) refl is
  where
    by : (fits few : Bool) → nat_le m 16 ≡ few → (if fits && few then Some m else None) ≡ Some n → n ≤ 16
    by true true few is = let same : m ≡ n = cc in rw (← same) (leb-true m 16 few)
    by true false few is = absurd (cc)
    by false b few is = absurd (cc)

cut-few : (words : List ℤ) (count : Option ℕ) → ((n : ℕ) → count ≡ Some n → n ≤ 16)
    → length (calls.first_words words count) ≤ 16
cut-few words None few = omega arith
cut-few words (Some n) few = let most = few n refl in let cut = length-take n words in omega (arith, most, cut)

layer-short : (program : Program) (s : ProgramState) (what : What-F What Statement)
    → length (calls.answer_in program s what) ≤ 16
layer-short program s (What-F.Reply buffer count) =
    cut-few (words_of s.globals buffer) (count_of program s buffer count)
    (λ n is. good-few (words_of s.globals buffer) (value_of (memory_of program s) count) n is)
layer-short program s _ = omega arith

entry-short : (program : Program) (s : ProgramState) (entry : Option Entry)
    → length (in_entry [] (calls.answer_in program s) entry) ≤ 16
entry-short program s None = omega arith
entry-short program s (Some (Run statement)) = layer-short program s (out-What statement.what)
entry-short program s (Some (Test statement)) = omega arith
entry-short program s (Some (Last statement)) = omega arith

answer-short : (s : ProcessState) → IsWholeProcess s → length (process.answer_of s) ≤ 16
answer-short (Runs program s) is = entry-short program s (next_of s.frames)
answer-short (Serves sectors s) is = reply-few s.label s.request s.reply is.fits

-- an answer has at most 16 words, and goes to an opener that the process has
pub done-answers : {site : Site} {number : ℕ} {spec : ProcessSpec} {deeds : List Deed} {core : Core}
    → IsRegularKind spec.what → HasDone site number spec deeds core → AreBounded deeds
    → (place : ℕ) (words : List ℤ) → IsAmong words (answered_to place deeds)
    → (place < length (openers_of site number)) × (length words ≤ 16)
done-answers regular nothing_done is place words among = absurd among
done-answers regular (one_more done (goes at)) is place words among =
    done-answers regular done (bounded-before is) place words among
done-answers regular (one_more done (checkpoints at)) is place words among =
    done-answers regular done (bounded-before is) place words among
done-answers regular (one_more done (takes block at there)) is place words among =
    done-answers regular done (bounded-before is) place words among
done-answers regular (one_more done (asks at named said)) is place words among =
    done-answers regular done (bounded-before is) place words among
done-answers regular (one_more done (gets at named)) is place words among =
    done-answers regular done (bounded-before is) place words among
done-answers regular (one_more done (acts at call)) is place words among =
    done-answers regular done (bounded-before is) place words among
done-answers {site = site} {number = number} regular
    (one_more {deeds = deeds} {before = core} done
    (answers {place = one} {words = said} opener block at hand known there is_said)) is place words among =
    by (done-answers regular done (bounded-before is) place words) (one == place) refl among
  where
    by : (IsAmong words (answered_to place deeds) → (place < length (openers_of site number)) × (length words ≤ 16))
        → (same : Bool) → (one == place) ≡ same
        → IsAmong words (cons_option (if same then Some said else None) (answered_to place deeds))
        → (place < length (openers_of site number)) × (length words ≤ 16)
    by rest false e among = rest among
    by rest true e (inr among) = rest among
    by rest true e (inl same) =
        let low = slice_get_within (openers_of site number) one opener known in
        let few = answer-short core.state (done-whole regular done (bounded-before is)) in
        let short : length words ≤ 16 = rw (same, is_said) few in
        elim (eqb_tells one place) [
          | inl t ↦ (let here = t.1 in omega (arith, low, here), short)
          | inr t ↦ absurd
              (let f = t.0 in cc)
        ]

-- the deeds in a ledger are those that its process has done
abbrev IsDoneBy : Site → ℕ → List Deed → Type 0
IsDoneBy site number deeds = (spec : ProcessSpec) × (slice_get site.processes number ≡ Some spec) × (core : Core)
    × HasDone site number spec deeds core

booked-done : {site : Site} {acts : List Act} {shown : List Shown} {ledger : Ledger} → AreBooked site acts shown ledger
    → (number : ℕ) → (deed : Deed) → IsAmong deed (ledger.deeds number)
    → IsDoneBy site number (ledger.deeds number)
booked-done none_booked number deed among = absurd among
booked-done {site = site} (deed_booked {ledger = ledger} one spec new before after booked there done advances allowed)
    number deed among =
    by (booked-done booked number deed) (one == number) refl among
  where
    by : (IsAmong deed (ledger.deeds number) → IsDoneBy site number (ledger.deeds number)) → (same : Bool)
        → (one == number) ≡ same
        → IsAmong deed (if same then new ∷ ledger.deeds one else ledger.deeds number)
        → IsDoneBy site number (if same then new ∷ ledger.deeds one else ledger.deeds number)
    by rest true e among = elim (eqb_tells one number) [
      | inl t ↦ subst (λ (k : ℕ). IsDoneBy site k (new ∷ ledger.deeds one)) t.1
          (spec, there, after, one_more done advances)
      | inr t ↦ absurd (let f = t.0 in cc)
    ]
    by rest false e among = rest among
booked-done (entry_booked terminal opener words booked is even next) number deed among =
    booked-done booked number deed among
booked-done (reply_booked terminal opener words booked is ready) number deed among =
    booked-done booked number deed among

-- whatever was answered stands among the deeds
some-deed : (place : ℕ) (words : List ℤ) (deeds : List Deed) → IsAmong words (answered_to place deeds)
    → (deed : Deed) × IsAmong deed deeds
some-deed place words [] among = absurd among
some-deed place words (deed ∷ deeds) among = (deed, inl refl)

there-at : {A : Type 0} (xs : List A) (k : ℕ) → k < length xs → (x : A) × (slice_get xs k ≡ Some x)
there-at [] k low = absurd (omega (arith, low))
there-at (x ∷ xs) zero low = (x, refl)
there-at (x ∷ xs) (suc k) low = there-at xs k (omega (arith, low))

pub reply-fits : (site : Site) (events : List Event) (w : World) (reply : Reply) → IsFit site → IsSmall site
    → IsLaidOut site → length events < 4294967296
    → IsRun site events w → IsAmong reply w.replies → Fits site (Carrying (Replying reply))
reply-fits site events w reply fit small out few run among =
    let invariant : Invariant site (length events) w = run-keeps site fit events w few run in
    let deeds : List Deed = invariant.ledger.deeds reply.process in
    let entry = entry-number reply.number reply.words (answered_to reply.opener deeds)
    (invariant.replies reply among) in
    let one = some-deed reply.opener reply.words deeds entry.1 in
    let done = booked-done invariant.booked reply.process one.0 one.1 in
    let pair = (run-seats site events w out run).processes reply.process done.0 done.1 in
    let count = (invariant.processes reply.process pair.0 pair.1).2.count in
    let short = booked-short fit.requests invariant.booked in
    let bounded : AreBounded deeds = record { count = omega (arith, count, few); short = short.deeds reply.process } in
    let ans = done-answers (fit.regular reply.process done.0 done.1) done.3 bounded reply.opener reply.words entry.1 in
    let process = slice_get_within site.processes reply.process done.0 done.1 in
    let less = few-of (answer_to reply.opener) deeds in
    let low = ans.0 in
    record {
      within = record {
        process = let most = small.processes in omega (arith, process, most);
        opener = let most = small.openers reply.process in omega (arith, low, most);
        number = let first = entry.0 in omega (arith, first, less, count, few);
        words = ans.1;
      };
      known = names (le-leb (suc reply.process) (length site.processes) process)
          (le-leb (suc reply.opener) (length (openers_of site reply.process)) low);
    }
