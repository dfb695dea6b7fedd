-- How far checkpoint numbers go in a run, and whose image each checkpoint carries.
use Rattle.std.proofs.Common.{◌≡◌, ◌≤◌, ◌<◌, inl, inr, ℕ, ◌+◌, ◌==◌, Bool, true, false, List, [], ◌∷◌}
use Rattle.std.proofs.Common.{◌++◌, length, Option, Some, None, slice_get, refl, sym, subst, ap, ◌∙◌, arith}
use Rattle.std.proofs.lemmas.List.{length-append}
use Rattle.gd_words.specs.Members.{IsAmong}
use Rattle.tal_tree.specs.declared.act.Act.{Act}
use Rattle.tal_tree.specs.declared.site.ProcessSpec.{ProcessSpec}
use Rattle.tal_tree.specs.declared.site.Site.{Site}
use Rattle.schedule.specs.declared.event.Event.{Event}
use Rattle.disc_device.specs.Sectors.{Stored}
use Rattle.checkpoint_image.specs.declared.message.ImageMessage.{ImageMessage}
use Rattle.checkpoint_image.specs.declared.message.TakenMessage.{TakenMessage}
use Rattle.world_semantics.specs.declared.role.Role.TheVariants.{Acting}
use Rattle.world_semantics.specs.declared.which.Which.{Which}
use Rattle.world_semantics.specs.declared.which.Which.TheVariants.{First, Second}
use Rattle.world_semantics.specs.Core.{Core, Deed, carried_by}
use Rattle.world_semantics.specs.World.{Copy, Pair, Down, World, copy_of, with_copy, boot}
use Rattle.world_semantics.specs.Kept.{Enters, holds_on, repeats, begins, keeps}
use Rattle.world_semantics.specs.Messages.{Sending, Cause}
use Rattle.world_semantics.specs.Passes.{Passes, by_acknowledge, by_apply, by_apply_behind, by_end, by_pass}
use Rattle.world_semantics.specs.Passes.{by_pass_again, by_send, checkpoint_of, taken_of}
use Rattle.world_semantics.specs.Rules.{Change, by_own, by_checkpoint, by_request, by_early_request, by_enter, by_print}
use Rattle.world_semantics.specs.Rules.{new_core, by_mark, by_reload, by_stop, pair_after_down, pair_at_down}
use Rattle.world_semantics.specs.Rules.{reloaded_by, renewals_ended, stopped_pair, taker}
use Rattle.world_semantics.specs.Follows.{Follows, runs, cannot_run, enters, cannot_enter, delivers_none, delivers}
use Rattle.world_semantics.specs.Follows.{delivers_mark, loses, doubles, ticks_none, ticks, ticks_stop, fails}
use Rattle.world_semantics.specs.Follows.{cannot_reload, reloads, turns_drive}
use Rattle.world_semantics.specs.Follows.{cannot_fail, MarksDowns, marks_none, marks_one, Leads, stays, goes_on, IsRun}
use Rattle.world_semantics.proofs.Beginning.{all-begin}
use Rattle.world_semantics.proofs.Lists.{set-all, map-all}
use Rattle.world_semantics.proofs.Roles.{reload-all, roles-begin}
use Rattle.world_semantics.proofs.Steady.{seats-begin, steady-begins}
use Rattle.letter_laws.specs.process_histories.specs.Bounds.{AreShort}
use Rattle.letter_laws.specs.process_histories.specs.Histories.{HasDone}
use Rattle.letter_laws.specs.plain_histories.specs.Ledgers.{Ledger}
use Rattle.letter_laws.specs.plain_histories.proofs.Counted.{IsShortLedger, booked-short}
use Rattle.letter_laws.specs.takeover_laws.specs.Fit.{IsFit}
use Rattle.letter_laws.specs.takeover_laws.specs.Invariant.{Invariant, Stage, IsLead, is_level, is_applied, is_behind}
use Rattle.letter_laws.specs.takeover_laws.specs.Invariant.{IsOther, is_blank, is_lost, has_renewed}
use Rattle.letter_laws.specs.takeover_laws.specs.Invariant.{is_due, is_even, has_applied, FirstLeads, with_other}
use Rattle.letter_laws.specs.takeover_laws.specs.Invariant.{IsLed, by_first}
use Rattle.letter_laws.specs.takeover_laws.specs.Invariant.{by_second}
use Rattle.letter_laws.specs.takeover_laws.proofs.Beginning.{beginning-keeps}
use Rattle.letter_laws.specs.takeover_laws.proofs.Changing.{acts_by, passes-one}
use Rattle.letter_laws.specs.takeover_laws.proofs.Kept.{IsGood, change-good}
use Rattle.letter_laws.specs.takeover_laws.proofs.Repeating.{short-join, held-short, held-length}

-- What a run tells of a process

-- a core that its process came to by few and short deeds
pub record WasMade (site : Site) (n number : ℕ) (core : Core) : Type 0 where
  pub spec : ProcessSpec
  pub there : slice_get site.processes number ≡ Some spec
  pub deeds : List Deed
  pub done : HasDone site number spec deeds core
  pub few : length deeds ≤ n
  pub short : AreShort deeds

-- a checkpoint carries what such a core's does, or everything that it has
pub record IsKnownCheckpoint (site : Site) (n number : ℕ) (message : ImageMessage) : Type 0 where
  pub count : message.number ≤ n
  pub core : Core
  pub before : ℕ
  pub made : WasMade site before number core
  pub less : before < n
  pub everything : Bool
  pub same : message.image ≡ carried_by everything core

-- its copies' checkpoint numbers are at most the count of events
pub record IsKnownPair (site : Site) (n number : ℕ) (pair : Pair) : Type 0 where
  pub copies : (k : Which) → (copy_of k pair).number ≤ n
  pub checkpoints : (message : ImageMessage) → IsAmong message pair.checkpoints
      → IsKnownCheckpoint site n number message
  pub takens : (taken : TakenMessage) → IsAmong taken pair.takens → taken.number ≤ n

abbrev pub AllKnown : Site → ℕ → World → Type 0
AllKnown site n w =
    (number : ℕ) (pair : Pair) → slice_get w.processes number ≡ Some pair → IsKnownPair site n number pair

more-known : {site : Site} {n number : ℕ} (m : ℕ) (pair : Pair) → n ≤ m → IsKnownPair site n number pair
    → IsKnownPair site m number pair
more-known m pair few is = record {
  copies = λ k. (let l = is.copies k in omega (arith, l, few));
  checkpoints = λ message among. (let one = is.checkpoints message among in
      record {
        count = let l = one.count in omega (arith, l, few);
        core = one.core;
        before = one.before;
        made = one.made;
        less = let l = one.less in omega (arith, l, few);
        everything = one.everything;
        same = one.same;
      });
  takens = λ taken among. (let l = is.takens taken among in omega (arith, l, few));
}

-- a process with other copies, and else the same
copies-change : {site : Site} {n number : ℕ} (pair next : Pair) → next.checkpoints ≡ pair.checkpoints
    → next.takens ≡ pair.takens → ((k : Which) → (copy_of k next).number ≤ n)
    → IsKnownPair site n number pair → IsKnownPair site n number next
copies-change pair next same taken copies is = record {
  copies = copies;
  checkpoints = λ message among. is.checkpoints message (subst (IsAmong message) same among);
  takens = λ one among. is.takens one (subst (IsAmong one) taken among);
}

two : {m : ℕ} (pair : Pair) → pair.first.number ≤ m → pair.second.number ≤ m → (k : Which)
    → (copy_of k pair).number ≤ m
two pair a b First = a
two pair a b Second = b

-- Of an acting copy

module _ {site : Site} {number : ℕ} {spec : ProcessSpec} (there : slice_get site.processes number ≡ Some spec)
    (ledger : Ledger) (short : IsShortLedger ledger) (n : ℕ) where
  lead-made : (copy : Copy) {stage : Stage} → length copy.held + length (ledger.deeds number) ≤ n
      → IsLead site ledger number spec (ledger.deeds number) copy stage
      → WasMade site n number copy.core
  lead-made copy few lead = by (ledger.deeds number) refl (short.deeds number) few lead
    where
      by : (deeds : List Deed) → ledger.deeds number ≡ deeds → AreShort deeds → length copy.held + length deeds ≤ n
          → {stage : Stage} → IsLead site ledger number spec deeds copy stage
          → WasMade site n number copy.core
      by deeds same are few (is_level {held = held} {more = more} is holds pos done sent) =
          let held_as = held-length holds in
          let of_copy = ap (length {A = Act}) is in
          let both = length-append more deeds in
          record {
            spec = spec;
            there = there;
            deeds = more ++ deeds;
            done = done;
            few = omega (arith, few, held_as, of_copy, both);
            short = short-join more deeds (held-short short holds) are;
          }
      by deeds same are few (is_applied before none is pos done) =
          let all = ap (length {A = Deed}) is in
          let s = subst AreShort is are in
          record { spec = spec; there = there; deeds = before; done = done; few = omega (arith, few, all); short = s.1 }
      by deeds same are few (is_behind since next before none is repeatable all pos done sent) =
          let count = ap (length {A = Deed}) is in
          let both = length-append since (next ∷ before) in
          let s = later since (next ∷ before) (subst AreShort is are) in
          record {
            spec = spec;
            there = there;
            deeds = before;
            done = done;
            few = omega (arith, few, count, both);
            short = s.1;
          }
        where
          later : (since before : List Deed) → AreShort (since ++ before) → AreShort before
          later [] before s = s
          later (d ∷ since) before s = later since before s.1

  first-made : (pair : Pair) (k : Which)
      → length pair.first.held + length pair.second.held + length (ledger.deeds number) ≤ n
      → FirstLeads site ledger number spec (ledger.deeds number) pair → (copy_of k pair).role ≡ Acting
      → WasMade site n number (copy_of k pair).core
  first-made pair First few (with_other leads lead other dated) acts = lead-made pair.first (omega (arith, few)) lead
  first-made pair Second few (with_other leads lead other dated) acts = by other
    where
      by : {stage : Stage} → IsOther site number spec (ledger.deeds number) pair stage
          → WasMade site n number pair.second.core
      by (is_lost gone) = absurd (let e = sym acts ∙ gone in cc)
      by (is_blank b) = absurd (let e = sym acts ∙ b.role in cc)
      by (is_due w sent told ahead at body) = absurd (let e = sym acts ∙ w.role in cc)
      by (is_even away w even unsent told renewal) = absurd (let e = sym acts ∙ w.role in cc)
      by (has_applied w even sent told) = absurd (let e = sym acts ∙ w.role in cc)
      by (has_renewed away at w even sent told) = absurd (let e = sym acts ∙ w.role in cc)

  led-made : (pair : Pair) (k : Which)
      → length pair.first.held + length pair.second.held + length (ledger.deeds number) ≤ n
      → IsLed site ledger number spec (ledger.deeds number) pair → (copy_of k pair).role ≡ Acting
      → WasMade site n number (copy_of k pair).core
  led-made pair k few (by_first leads) acts = first-made pair k few leads acts
  led-made pair First few (by_second leads) acts =
      first-made (record pair { first = pair.second; second = pair.first }) Second (omega (arith, few)) leads acts
  led-made pair Second few (by_second leads) acts =
      first-made (record pair { first = pair.second; second = pair.first }) First (omega (arith, few)) leads acts

pub acting-made : (site : Site) (fit : IsFit site) (n : ℕ) (w : World) → Invariant site n w
    → (number : ℕ) (pair : Pair) (k : Which) → slice_get w.processes number ≡ Some pair
    → (copy_of k pair).role ≡ Acting → WasMade site n number (copy_of k pair).core
acting-made site fit n w invariant number pair k there role =
    let sound = invariant.processes number pair there in
    led-made sound.1 invariant.ledger (booked-short fit.requests invariant.booked) n pair k sound.2.count sound.2.led
    role

-- Checkpoints that are sent and applied

sent-known : {site : Site} {n number : ℕ} (copy : Copy) (old : List ImageMessage) → copy.number ≤ n
    → WasMade site n number copy.core
    → ((message : ImageMessage) → IsAmong message old → IsKnownCheckpoint site (n + 1) number message)
    → (message : ImageMessage) → IsAmong message (checkpoint_of number copy ∷ old)
    → IsKnownCheckpoint site (n + 1) number message
sent-known {site = site} {n = n} {number = number} copy old low made all message (inl same) =
    subst (IsKnownCheckpoint site (n + 1) number) (sym same) (record {
      count = omega (arith, low);
      core = copy.core;
      before = n;
      made = made;
      less = omega arith;
      everything = copy.renewal;
      same = refl;
    })
sent-known copy old low made all message (inr among) = all message among

taken-known : {n : ℕ} (message : ImageMessage) (old : List TakenMessage) (new : TakenMessage)
    → new.number ≡ message.number → message.number ≤ n
    → ((taken : TakenMessage) → IsAmong taken old → taken.number ≤ n) → (taken : TakenMessage)
    → IsAmong taken (new ∷ old) → taken.number ≤ n
taken-known message old new c count all taken (inl same) =
    let g = ap (λ (t : TakenMessage). t.number) same in omega (arith, c, g, count)
taken-known message old new c count all taken (inr among) = all taken among

module _ (site : Site) (n number : ℕ) where
  -- the same messages, with these numbers of the copies
  numbers-known : (pair next : Pair) → next.checkpoints ≡ pair.checkpoints → next.takens ≡ pair.takens
      → next.first.number ≤ n → next.second.number ≤ n → IsKnownPair site n number pair
      → IsKnownPair site n number next
  numbers-known pair next same taken first second is = copies-change pair next same taken (two next first second) is

  -- nothing is sent or taken
  still : (pair next : Pair) → next.checkpoints ≡ pair.checkpoints → next.takens ≡ pair.takens
      → next.first.number ≡ pair.first.number → next.second.number ≡ pair.second.number
      → IsKnownPair site n number pair → IsKnownPair site (n + 1) number next
  still pair next same taken first second is =
      let one = is.copies First in
      let other = is.copies Second in
      copies-change pair next same taken (two next (omega (arith, first, one)) (omega (arith, second, other)))
      (more-known (n + 1) pair (omega arith) is)

  -- a copy applied a checkpoint
  applied-first : (pair next : Pair) (message : ImageMessage) → IsAmong message pair.checkpoints
      → next.checkpoints ≡ pair.checkpoints → next.takens ≡ taken_of message ∷ pair.takens
      → next.first.number ≡ message.number → next.second.number ≡ pair.second.number
      → IsKnownPair site n number pair → IsKnownPair site (n + 1) number next
  applied-first pair next message among same taken first second is =
      let more = more-known (n + 1) pair (omega arith) is in
      let count = (more.checkpoints message among).count in
      let other = more.copies Second in
      record {
        copies = two next (omega (arith, first, count)) (omega (arith, second, other));
        checkpoints = λ one there. more.checkpoints one (subst (IsAmong one) same there);
        takens = λ one there.
            taken-known message pair.takens (taken_of message) refl count more.takens one
            (subst (IsAmong one) taken there);
      }

  applied-second : (pair next : Pair) (message : ImageMessage) → IsAmong message pair.checkpoints
      → next.checkpoints ≡ pair.checkpoints → next.takens ≡ taken_of message ∷ pair.takens
      → next.first.number ≡ pair.first.number → next.second.number ≡ message.number
      → IsKnownPair site n number pair → IsKnownPair site (n + 1) number next
  applied-second pair next message among same taken first second is =
      let more = more-known (n + 1) pair (omega arith) is in
      let count = (more.checkpoints message among).count in
      let other = more.copies First in
      record {
        copies = two next (omega (arith, first, other)) (omega (arith, second, count));
        checkpoints = λ one there. more.checkpoints one (subst (IsAmong one) same there);
        takens = λ one there.
            taken-known message pair.takens (taken_of message) refl count more.takens one
            (subst (IsAmong one) taken there);
      }

  passes-known : {downs : List Down} {kept after : List Act} {pair next : Pair} {cause : Cause}
      {sendings : List Sending}
      → ((k : Which) → (copy_of k pair).role ≡ Acting → WasMade site n number (copy_of k pair).core)
      → Passes number downs kept pair cause sendings next after
      → IsKnownPair site n number pair → IsKnownPair site (n + 1) number next
  passes-known {pair = pair} made (by_send First role may unsent unmarked) is =
      let more = more-known (n + 1) pair (omega arith) is in
      record {
        copies = two _ (let l = is.copies First in omega (arith, l)) (more.copies Second);
        checkpoints = sent-known pair.first pair.checkpoints (is.copies First) (made First role) more.checkpoints;
        takens = more.takens;
      }
  passes-known {pair = pair} made (by_send Second role may unsent unmarked) is =
      let more = more-known (n + 1) pair (omega arith) is in
      record {
        copies = two _ (more.copies First) (let l = is.copies Second in omega (arith, l));
        checkpoints = sent-known pair.second pair.checkpoints (is.copies Second) (made Second role) more.checkpoints;
        takens = more.takens;
      }
  passes-known {pair = pair} made (by_pass_again First role at may less) is = still pair _ refl refl refl refl is
  passes-known {pair = pair} made (by_pass_again Second role at may less) is = still pair _ refl refl refl refl is
  passes-known {pair = pair} made (by_pass First role at may most) is = still pair _ refl refl refl refl is
  passes-known {pair = pair} made (by_pass Second role at may most) is = still pair _ refl refl refl refl is
  passes-known {pair = pair} made (by_end First role sent away may) is = still pair _ refl refl refl refl is
  passes-known {pair = pair} made (by_end Second role sent away may) is = still pair _ refl refl refl refl is
  passes-known {pair = pair} made (by_apply_behind First message applied role among era next put at) is =
      applied-first pair _ message among refl refl refl refl is
  passes-known {pair = pair} made (by_apply_behind Second message applied role among era next put at) is =
      applied-second pair _ message among refl refl refl refl is
  passes-known {pair = pair} made (by_apply First message applied role among era next put at) is =
      applied-first pair _ message among refl refl refl refl is
  passes-known {pair = pair} made (by_apply Second message applied role among era next put at) is =
      applied-second pair _ message among refl refl refl refl is
  passes-known {pair = pair} made (by_acknowledge First taken role sent among era same) is =
      still pair _ refl refl refl refl is
  passes-known {pair = pair} made (by_acknowledge Second taken role sent among era same) is =
      still pair _ refl refl refl refl is

  with-known : (k : Which) (copy : Copy) (pair : Pair) (sectors : List Stored) → copy.number ≤ n
      → IsKnownPair site n number pair
      → IsKnownPair site n number (with_copy k copy (record pair { sectors = sectors }))
  with-known First copy pair sectors new is =
      record { copies = two _ new (is.copies Second); checkpoints = is.checkpoints; takens = is.takens }
  with-known Second copy pair sectors new is =
      record { copies = two _ (is.copies First) new; checkpoints = is.checkpoints; takens = is.takens }

  stop-known : (processor : ℕ) (pair : Pair) → IsKnownPair site n number pair
      → IsKnownPair site n number (stopped_pair processor pair)
  stop-known processor pair is =
      numbers-known pair _ refl refl (is.copies First) (is.copies Second) is

  marking-known : (node processor : ℕ) (pair : Pair) (k : Option Which) → IsKnownPair site n number pair
      → IsKnownPair site n number (renewals_ended node processor (pair_after_down k pair))
  marking-known node processor pair None is = numbers-known pair _ refl refl (is.copies First) (is.copies Second) is
  marking-known node processor pair (Some First) is =
      numbers-known pair _ refl refl (omega arith) (is.copies Second) is
  marking-known node processor pair (Some Second) is =
      numbers-known pair _ refl refl (is.copies First) (omega arith) is

  reload-known : (core : Core) (pair : Pair) (one other : Bool) → IsKnownPair site n number pair
      → IsKnownPair site n number (reloaded_by core pair one other)
  reload-known core pair false false is = is
  reload-known core pair true false is = numbers-known pair _ refl refl (omega arith) (omega arith) is
  reload-known core pair false true is = numbers-known pair _ refl refl (omega arith) (omega arith) is
  reload-known core pair true true is = numbers-known pair _ refl refl (omega arith) (omega arith) is

entered-copy : {n number : ℕ} {act : Act} {kept after : List Act} (copy entered : Copy)
    → Enters number act kept copy entered after → copy.number ≤ n → entered.number ≤ n
entered-copy copy _ (holds_on e) low = low
entered-copy copy _ (repeats e l) low = low
entered-copy copy _ (begins e l t) low = low
entered-copy copy _ (keeps e l t) low = low

-- By induction over the run

more-events : {site : Site} {n : ℕ} (m : ℕ) {w : World} → n ≤ m → Invariant site n w → Invariant site m w
more-events m few inv = record {
  ledger = inv.ledger;
  booked = inv.booked;
  processes = λ number pair at. (let was = inv.processes number pair at in
      let count = was.2.count in (
        was.0,
        was.1,
        record {
          led = was.2.led;
          sectors = was.2.sectors;
          waiting = was.2.waiting;
          count = omega (arith, few, count);
        },
      ));
  requests = inv.requests;
  replies = inv.replies;
  terminals = inv.terminals;
}

more-good : {site : Site} {n : ℕ} (m : ℕ) {w : World} → n ≤ m → IsGood site n w → IsGood site m w
more-good m few good = record {
  roles = good.roles;
  stopped = good.stopped;
  steady = good.steady;
  seated = good.seated;
  invariant = more-events m few good.invariant;
}

module _ (site : Site) (fit : IsFit site) where
  -- what a further event leaves true
  record IsFine (n : ℕ) (w : World) : Type 0 where
    pub good : IsGood site n w
    pub known : AllKnown site n w

  more-all : {n : ℕ} (m : ℕ) (w : World) → n ≤ m → AllKnown site n w → AllKnown site m w
  more-all m w few all number pair there = more-known m pair few (all number pair there)

  more-fine : {n : ℕ} (m : ℕ) {w : World} → n ≤ m → IsFine n w → IsFine m w
  more-fine m {w = w} few is = record { good = more-good m few is.good; known = more-all m w few is.known }

  change-all : (n : ℕ) (w next : World) (cause : Cause) (sendings : List Sending) → Invariant site n w
      → AllKnown site n w → Change site w cause sendings next
      → AllKnown site (n + acts_by cause) next
  change-all n w next cause sendings inv all (by_own {entered = entered} number k pair there r c a e f) =
      more-all (n + acts_by cause) next (omega arith)
      (set-all (IsKnownPair site n) w.processes number _ all
      (with-known site n number k _ pair _ (entered-copy (copy_of k pair) entered e
      ((all number pair there).copies k)) (all number pair there)))
  change-all n w next cause sendings inv all (by_checkpoint number pair there p) =
      let one = passes-one p in
      subst (λ m. AllKnown site (n + m) next) (sym one)
      (set-all (IsKnownPair site (n + 1)) w.processes number _ (more-all (n + 1) w (omega arith) all)
      (passes-known site n number (λ k role. acting-made site fit n w inv number pair k there role) p
      (all number pair there)))
  change-all n w next cause sendings inv all (by_request request k pair i there r) =
      more-all (n + acts_by cause) next (omega arith)
      (set-all (IsKnownPair site n) w.processes request.process _ all
      (with-known site n request.process k _ pair _ ((all request.process pair there).copies k)
      (all request.process pair there)))
  change-all n w next cause sendings inv all (by_early_request request k pair i there r) =
      more-all (n + acts_by cause) next (omega arith)
      (set-all (IsKnownPair site n) w.processes request.process _ all
      (with-known site n request.process k _ pair _ ((all request.process pair there).copies k)
      (all request.process pair there)))
  change-all n w next cause sendings inv all (by_enter number terminal opener t f q o) =
      more-all (n + acts_by cause) next (omega arith) all
  change-all n w next cause sendings inv all (by_print number terminal reply t f i o m) =
      more-all (n + acts_by cause) next (omega arith) all
  change-all n w next cause sendings inv all (by_stop x s h) =
      more-all (n + acts_by cause) next (omega arith)
      (map-all (IsKnownPair site n) (stopped_pair x) w.processes
      (λ number pair there. stop-known site n number x pair (all number pair there)))
  change-all n w next cause sendings inv all (by_mark node x s q m) =
      more-all (n + acts_by cause) next (omega arith)
      (map-all (IsKnownPair site n) (pair_at_down node x) w.processes
      (λ number pair there. marking-known site n number node x pair (taker node x pair) (all number pair there)))
  change-all n w next cause sendings inv all (by_reload x s m t l) =
      more-all (n + acts_by cause) next (omega arith)
      (reload-all (IsKnownPair site n) site x w.processes
      (λ number pair there. reload-known site n number
      (new_core site number (slice_get site.processes number) pair.first.core) pair (pair.first.processor == x)
      (pair.second.processor == x) (all number pair there)))

  change-fine : (n : ℕ) (w next : World) (cause : Cause) (sendings : List Sending) → n < 4294967295 → IsFine n w
      → Change site w cause sendings next → IsFine (n + acts_by cause) next
  change-fine n w next cause sendings few is change = record {
    good = change-good site fit n w next cause sendings few is.good change;
    known = change-all n w next cause sendings is.good.invariant is.known change;
  }

  downs-fine : (n : ℕ) {node : ℕ} {w end : World} {sendings : List Sending} → n < 4294967295 → IsFine n w
      → MarksDowns site node w sendings end → IsFine n end
  downs-fine n few is marks_none = is
  downs-fine n few is (marks_one {w = w} {next = next} processor change more) =
      downs-fine n few (more-fine n (omega arith) (change-fine n w next _ _ few is change)) more

  follows-fine : (n : ℕ) {event : Event} (w next : World) (sendings : List Sending) → n < 4294967295 → IsFine n w
      → Follows site w event sendings next → IsFine (n + 1) next
  follows-fine n w next sendings few is (runs change) = change-fine n w next _ _ few is change
  follows-fine n w next sendings few is (cannot_run idle) = more-fine (n + 1) (omega arith) is
  follows-fine n w next sendings few is (enters change) = change-fine n w next _ _ few is change
  follows-fine n w next sendings few is (cannot_enter idle) = more-fine (n + 1) (omega arith) is
  follows-fine n w next sendings few is delivers_none = more-fine (n + 1) (omega arith) is
  follows-fine n w next sendings few is (delivers node message change) = change-fine n w next _ _ few is change
  follows-fine n w next sendings few is (delivers_mark node processor change) =
      more-fine (n + 1) (omega arith) (change-fine n w next _ _ few is change)
  follows-fine n w next sendings few is loses = more-fine (n + 1) (omega arith) is
  follows-fine n w next sendings few is doubles = more-fine (n + 1) (omega arith) is
  follows-fine n w next sendings few is turns_drive = more-fine (n + 1) (omega arith) is
  follows-fine n w next sendings few is ticks_none = more-fine (n + 1) (omega arith) is
  follows-fine n w next sendings few is (ticks running marked) =
      more-fine (n + 1) (omega arith) (downs-fine n few is marked)
  follows-fine n w next sendings few is (ticks_stop {between = between} processor running other change marked) =
      more-fine (n + 1) (omega arith) (downs-fine n few
      (more-fine n (omega arith) (change-fine n w between _ _ few is change)) marked)
  follows-fine n w next sendings few is (fails change) =
      more-fine (n + 1) (omega arith) (change-fine n w next _ _ few is change)
  follows-fine n w next sendings few is (cannot_fail idle) = more-fine (n + 1) (omega arith) is
  follows-fine n w next sendings few is (reloads change) =
      more-fine (n + 1) (omega arith) (change-fine n w next _ _ few is change)
  follows-fine n w next sendings few is (cannot_reload idle) = more-fine (n + 1) (omega arith) is

  leads-fine : (before : ℕ) {w end : World} (events : List Event) → before + length events < 4294967296
      → IsFine before w → Leads site w events end
      → IsFine (before + length events) end
  leads-fine before [] few is stays = more-fine (before + 0) (omega arith) is
  leads-fine before (event ∷ events) few is
      (goes_on {w = w} {next = next} {end = end} {sendings = sendings} follows leads) =
      let after = follows-fine before w next sendings (omega (arith, few)) is follows in
      subst (λ m. IsFine m end) (omega arith) (leads-fine (before + 1) events (omega (arith, few)) after leads)

  begin-known : AllKnown site 0 (boot site)
  begin-known = all-begin (IsKnownPair site 0) site (λ number from spec. record {
    copies = two _ (omega arith) (omega arith);
    checkpoints = λ message none. absurd none;
    takens = λ taken none. absurd none;
  })

  pub run-known : (events : List Event) (w : World) → length events < 4294967296 → IsRun site events w
      → AllKnown site (length events) w
  run-known events w few run =
      let first : IsFine 0 (boot site) = record {
        good = record {
          roles = roles-begin site;
          stopped = λ mark among. absurd among;
          steady = steady-begins site;
          seated = seats-begin site;
          invariant = beginning-keeps site;
        };
        known = begin-known;
      } in
      (subst (λ m. IsFine m w) (omega arith) (leads-fine 0 events (omega (arith, few)) first run)).known
