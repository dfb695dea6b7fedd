-- A process after a checkpoint was sent, passed or acknowledged, and after each change by which one goes on.
use Rattle.std.proofs.Common.{◌≡◌, ◌<◌, ◌≤◌, ◌⊎◌, inl, inr, ℕ, ◌+◌, Bool, true, false, List, [], ◌∷◌, ◌++◌, length}
use Rattle.std.proofs.Common.{Some, slice_get, refl, ap, sym, ◌∙◌, subst, arith, ◌≢◌}
use Rattle.gd_words.specs.Members.{IsAmong}
use Rattle.tal_tree.specs.declared.act.Act.{Act}
use Rattle.tal_tree.specs.declared.act.Shown.{Shown}
use Rattle.tal_tree.specs.declared.site.Site.{Site}
use Rattle.tal_tree.specs.declared.site.ProcessSpec.{ProcessSpec}
use Rattle.process_semantics.specs.declared.point.Point.TheVariants as point
use Rattle.process_semantics.specs.Process as process
use Rattle.world_semantics.specs.checkpoint_image.specs.declared.message.TakenMessage.{TakenMessage}
use Rattle.world_semantics.specs.declared.role.Role.TheVariants.{Acting, Watching, Gone}
use Rattle.world_semantics.specs.Core.{Deed, Checkpointed, checkpoints, after_passing, carried_by}
use Rattle.world_semantics.specs.declared.which.Which.TheVariants.{First, Second}
use Rattle.world_semantics.specs.World.{Copy, Pair, Down, has_marked, may_pass, receives}
use Rattle.world_semantics.specs.Kept.{own_acts}
use Rattle.world_semantics.specs.Messages.{Sending, Cause}
use Rattle.world_semantics.specs.Passes.{Passes, by_send, by_pass_again, by_pass, by_apply, by_acknowledge}
use Rattle.world_semantics.specs.Passes.{checkpoint_of, after_sending, copy_at_checkpoint}
use Rattle.world_semantics.specs.Passes.{kept_at_checkpoint, MaySend, by_apply_behind, by_end}
use Rattle.world_semantics.proofs.Roles.{RolesOf}
use Rattle.plain_histories.specs.process_histories.specs.Histories.{HasDone, one_more}
use Rattle.discipline_laws.specs.Disciplined.{AreIdle, IsDisciplined}
use Rattle.plain_histories.specs.Agreeing.{AreRegular}
use Rattle.plain_histories.specs.Booking.{AreBooked, none_held}
use Rattle.plain_histories.specs.Ledgers.{Ledger, with_deeds}
use Rattle.plain_histories.proofs.Counted.{booked-count, IsShortLedger}
use Rattle.takeover_laws.specs.Invariant.{Stage, Level, Applied, IsLead, is_level, is_applied, is_behind, Watches}
use Rattle.takeover_laws.specs.Invariant.{IsOther, is_lost, is_due, is_even, has_applied, FirstLeads, with_other}
use Rattle.takeover_laws.specs.Invariant.{exchanged, IsLed, by_first, by_second, IsBlank}
use Rattle.takeover_laws.specs.Invariant.{IsDated, has_renewed, is_blank}
use Rattle.takeover_laws.proofs.Repeating.{held-idle}
use Rattle.takeover_laws.proofs.Settled.{IsSettled}
use Rattle.takeover_laws.proofs.Checkpoints.{marked-down, either, other-rests, sent-most, sent-image}
use Rattle.takeover_laws.proofs.Checkpoints.{passes-exchanged, sent-dated}
use Rattle.takeover_laws.proofs.Stops.{lead-same}
use Rattle.takeover_laws.proofs.Passed.{HasPassed, same-ledger, kept-at, kept-count, applied-at, behind-at}
use Rattle.takeover_laws.proofs.Applying.{applies, applies-behind}

module _ (site : Site) (regular : AreRegular site) (stopped : List Bool) (marked : List Down) (kept : List Act)
    (shown : List Shown) (ledger : Ledger) (number : ℕ)
    (spec : ProcessSpec) (disciplined : IsDisciplined site number spec)
    (there : slice_get site.processes number ≡ Some spec)
    (booked : AreBooked site kept shown ledger) (short : IsShortLedger ledger)
    (down : (mark : Down) → IsAmong mark marked → slice_get stopped mark.down ≡ Some true) where
  abbrev Passed : List Act → Pair → Type 0
  Passed after next = HasPassed site after shown ledger number spec next

  unchanged : (next : Pair) → FirstLeads site ledger number spec (ledger.deeds number) next → Passed kept next
  unchanged = same-ledger site regular kept shown ledger number spec there booked

  count : own_acts number kept ≡ length (ledger.deeds number)
  count = booked-count booked number

  passed-lead : (copy : Copy) (more : List Deed) → HasDone site number spec (more ++ ledger.deeds number) copy.core
      → process.point copy.core.state ≡ point.AtCheckpoint
      → IsSettled site (kept_at_checkpoint number copy kept) shown ledger number (Checkpointed ∷ more)
      → IsLead site (with_deeds number (Checkpointed ∷ more) ledger) number spec
      (Checkpointed ∷ more ++ ledger.deeds number)
      (record (copy_at_checkpoint copy) {
        position = own_acts number (kept_at_checkpoint number copy kept);
        held = [];
      }) Level
  passed-lead copy more done at settled =
      is_level {more = []} refl none_held
      (kept-count site regular kept shown ledger number spec there booked copy more settled)
      (one_more done (checkpoints at)) (λ sent. absurd (cc))

  -- where the other copy watches, its processor isn't marked, so only an acknowledgement lets the first pass
  no-pass : (pair : Pair) → (slice_get stopped pair.second.processor ≡ Some true → pair.second.role ≡ Gone)
      → pair.second.role ≡ Watching → pair.first.acknowledged ≡ false
      → may_pass marked First pair ≡ true → ⊥
  no-pass pair gone watching told may =
      by (either pair.first.acknowledged (has_marked marked pair.first.processor pair.second.processor) may)
    where
      by : (pair.first.acknowledged ≡ true) ⊎ (has_marked marked pair.first.processor pair.second.processor ≡ true) → ⊥
      by (inl acknowledged) = cc
      by (inr made) =
          let lost = gone (marked-down stopped marked pair.first.processor pair.second.processor down made) in cc

  -- where the other copy is blank nothing lets the first pass
  no-pass-blank : (pair : Pair) → (slice_get stopped pair.second.processor ≡ Some true → pair.second.role ≡ Gone)
      → IsBlank site number spec pair → may_pass marked First pair ≡ true → ⊥
  no-pass-blank pair gone b may =
      by (either pair.first.acknowledged (has_marked marked pair.first.processor pair.second.processor) may)
    where
      by : (pair.first.acknowledged ≡ true) ⊎ (has_marked marked pair.first.processor pair.second.processor ≡ true) → ⊥
      by (inl acknowledged) = let told = b.told in cc
      by (inr made) = let lost = gone (marked-down stopped marked pair.first.processor pair.second.processor down
          made) in let blank = b.role in cc

  -- where the other copy watches, the first one passes only where it was acknowledged
  was-told : (pair : Pair) → (slice_get stopped pair.second.processor ≡ Some true → pair.second.role ≡ Gone)
      → pair.second.role ≡ Watching → may_pass marked First pair ≡ true
      → pair.first.acknowledged ≡ true
  was-told pair gone watching may = by pair.first.acknowledged refl
    where
      by : (b : Bool) → pair.first.acknowledged ≡ b → b ≡ true
      by true e = refl
      by false e = absurd (no-pass pair gone watching e may)

  -- to the other copy the era and the number of the first one matter
  watches-first : (pair : Pair) (copy : Copy) → copy.number ≡ pair.first.number → copy.era ≡ pair.first.era
      → {deeds : List Deed} → Watches site number spec deeds pair
      → Watches site number spec deeds (record pair { first = copy })
  watches-first pair copy same era w = record {
    since = w.since;
    before = w.before;
    split = w.split;
    repeatable = w.repeatable;
    base = w.base;
    done = w.done;
    role = w.role;
    unsent = w.unsent;
    era = w.era ∙ sym era;
    checkpoints = λ m among e. rw same (w.checkpoints m among (e ∙ era));
    takens = λ t among e. w.takens t among (e ∙ era);
  }

  watches-sent : (pair : Pair) {deeds : List Deed} → Watches site number spec deeds pair
      → Watches site number spec deeds (record pair
      { first = after_sending pair.first; checkpoints = checkpoint_of number pair.first ∷ pair.checkpoints })
  watches-sent pair w = record {
    since = w.since;
    before = w.before;
    split = w.split;
    repeatable = w.repeatable;
    base = w.base;
    done = w.done;
    role = w.role;
    unsent = w.unsent;
    era = w.era;
    checkpoints = sent-most pair.checkpoints refl w.checkpoints;
    takens = w.takens;
  }

  dated-first : (pair : Pair) (copy : Copy) → copy.era ≡ pair.first.era → IsDated pair
      → IsDated (record pair { first = copy })
  dated-first pair copy era dated = record {
    other = rw era dated.other;
    checkpoints = λ m among. rw era (dated.checkpoints m among);
    takens = λ t among. rw era (dated.takens t among);
  }

  dated-sent : (pair : Pair) → IsDated pair
      → IsDated (record pair {
        first = after_sending pair.first;
        checkpoints = checkpoint_of number pair.first ∷ pair.checkpoints;
      })
  dated-sent pair dated = record {
    other = dated.other;
    checkpoints = sent-dated pair.checkpoints (omega arith) dated.checkpoints;
    takens = dated.takens;
  }

  away-await : (pair : Pair) → MaySend pair.first → process.point pair.first.core.state ≢ point.Await
  away-await pair (inl at) = λ e. (let both : point.AtCheckpoint ≡ point.Await = sym at ∙ e in cc)
  away-await pair (inr both) = both.1

  sent-lead : {copy : Copy} {stage : Stage} → process.point copy.core.state ≢ point.Await
      → IsLead site ledger number spec (ledger.deeds number) copy stage
      → IsLead site ledger number spec (ledger.deeds number) (after_sending copy) stage
  sent-lead away (is_level is held pos done sent) = is_level is held pos done (λ _. away)
  sent-lead away (is_applied before is split pos done) = is_applied before is split pos done
  sent-lead away (is_behind since next before is split one all pos done sent) =
      is_behind since next before is split one all pos done (λ _. away)

  sends : (pair : Pair) → MaySend pair.first → pair.first.sent ≡ false
      → FirstLeads site ledger number spec (ledger.deeds number) pair
      → Passed kept (record pair {
        first = after_sending pair.first;
        checkpoints = checkpoint_of number pair.first ∷ pair.checkpoints;
      })
  sends pair may unsent (with_other role lead other dated) =
      unchanged _ (by lead other)
    where
      away : process.point pair.first.core.state ≢ point.Await
      away = away-await pair may

      next : Pair
      next = record pair {
        first = after_sending pair.first;
        checkpoints = checkpoint_of number pair.first ∷ pair.checkpoints;
      }

      on : {stage : Stage} → IsLead site ledger number spec (ledger.deeds number) pair.first stage
          → IsOther site number spec (ledger.deeds number) next stage
          → FirstLeads site ledger number spec (ledger.deeds number) next
      on lead other = with_other role (sent-lead away lead) other (dated-sent pair dated)

      at-checkpoint : pair.first.renewal ≡ false → process.point pair.first.core.state ≡ point.AtCheckpoint
      at-checkpoint renewal = which may
        where
          which : MaySend pair.first → process.point pair.first.core.state ≡ point.AtCheckpoint
          which (inl at) = at
          which (inr both) = absurd (let t = both.0 in cc)

      by : {stage : Stage} → IsLead site ledger number spec (ledger.deeds number) pair.first stage
          → IsOther site number spec (ledger.deeds number) pair stage
          → FirstLeads site ledger number spec (ledger.deeds number) next
      by lead (is_lost gone) = on lead (is_lost gone)
      by lead (is_blank b) = on lead (is_blank (record {
        role = b.role;
        acting = b.acting;
        renewal = b.renewal;
        told = refl;
        begun = b.begun;
        unsent = b.unsent;
        era = b.era;
        even = λ s. absurd (cc);
        ahead = λ s. ap (λ n. n + 1) (b.even unsent);
        checkpoints = sent-most pair.checkpoints refl b.checkpoints;
        image = λ s m among era is. sent-image pair.checkpoints refl b.checkpoints m among era is
            ∙ ap (λ r. carried_by r pair.first.core) b.renewal;
        takens = b.takens;
      }))
      by lead (is_due w sent told ahead at body) = absurd (cc)
      by (is_level is held pos done sent) (is_even stage w even before told renewal) =
          on (is_level is held pos done sent) (is_due (watches-sent pair w) refl refl (omega (arith, even))
          (at-checkpoint renewal)
          (λ m among era is. sent-image pair.checkpoints refl w.checkpoints m among era is
          ∙ ap (λ r. carried_by r pair.first.core) renewal))
      by (is_applied before is split pos done) (is_even stage w even un told renewal) = absurd (stage refl)
      by (is_behind since next before is split one all pos done sent) (is_even stage w even un told renewal) =
          absurd (behind-at site regular kept shown ledger number spec there booked since next before split one done
          (at-checkpoint renewal))
      by lead (has_applied w even sent told) = absurd (cc)
      by lead (has_renewed stage away w even sent told) = absurd (cc)

  passes-again : (pair : Pair) → (slice_get stopped pair.second.processor ≡ Some true → pair.second.role ≡ Gone)
      → process.point pair.first.core.state ≡ point.AtCheckpoint
      → may_pass marked First pair ≡ true → pair.first.position < own_acts number kept
      → FirstLeads site ledger number spec (ledger.deeds number) pair
      → Passed kept (record pair {
        first = record (copy_at_checkpoint pair.first)
            { position = pair.first.position + 1 };
      })
  passes-again pair lost at may less (with_other role (is_level is held pos done sent) other dated) =
      absurd (omega (arith, count, pos, less))
  passes-again pair lost at may less (with_other role (is_behind since next before is split one all pos done un) other
      dated) =
      absurd (behind-at site regular kept shown ledger number spec there booked since next before split one done at)
  passes-again pair lost at may less (with_other role (is_applied before is split pos done) other dated) =
      unchanged _ (with_other role
      (is_level {more = []} is none_held (let more = ap (length {A = Deed}) split in omega (arith, pos, more))
      (subst (λ g. HasDone site number spec g (after_passing pair.first.core)) (sym split)
      (one_more done (checkpoints at)))
      (λ s. absurd (cc)))
      (by other) (dated-first pair _ refl dated))
    where
      by : IsOther site number spec (ledger.deeds number) pair Applied
          → IsOther site number spec (ledger.deeds number)
          (record pair { first = record (copy_at_checkpoint pair.first) { position = pair.first.position + 1 } }) Level
      by (is_lost gone) = is_lost gone
      by (is_blank b) = absurd (no-pass-blank pair lost b may)
      by (is_even stage w even un told renewal) = absurd (stage refl)
      by (has_applied w even sent told) = is_even (λ e. absurd (cc)) (watches-first pair _ refl refl w) even refl refl
          (told (was-told pair lost w.role may))
      by (has_renewed stage away w even sent told) = absurd (stage refl)

  other-lost : (pair : Pair) → (slice_get stopped pair.second.processor ≡ Some true → pair.second.role ≡ Gone)
      → process.point pair.first.core.state ≡ point.AtCheckpoint
      → {deeds : List Deed} → IsOther site number spec deeds pair Level → may_pass marked First pair ≡ true
      → pair.second.role ≡ Gone
  other-lost pair gone at (is_lost lost) may = lost
  other-lost pair gone at (is_blank b) may = absurd (no-pass-blank pair gone b may)
  other-lost pair gone at (is_due w sent told next here body) may = absurd (no-pass pair gone w.role told may)
  other-lost pair gone at (is_even stage w next unsent told renewal) may = absurd (no-pass pair gone w.role told may)
  other-lost pair gone at (has_renewed stage away w next sent told) may = absurd (away at)

  passes-on : (pair : Pair) → (slice_get stopped pair.second.processor ≡ Some true → pair.second.role ≡ Gone)
      → process.point pair.first.core.state ≡ point.AtCheckpoint
      → may_pass marked First pair ≡ true → own_acts number kept ≤ pair.first.position
      → FirstLeads site ledger number spec (ledger.deeds number) pair
      → Passed (kept_at_checkpoint number pair.first kept)
      (record pair {
        first = record (copy_at_checkpoint pair.first)
            { position = own_acts number (kept_at_checkpoint number pair.first kept); held = [] };
      })
  passes-on pair lost at may most (with_other role (is_level {held = held} {more = more} is holds pos done sent) other
      dated) =
      let settled =
      kept-at site regular kept shown ledger number spec there booked pair.first held more is holds done at in
      record {
        deeds = Checkpointed ∷ more;
        settled = settled;
        idle = (λ call. call, held-idle holds);
        leads = with_other role (passed-lead pair.first more done at settled)
            (is_lost (other-lost pair lost at other may)) (dated-first pair _ refl dated);
      }
  passes-on pair lost at may most (with_other role (is_behind since next before is split one all pos done un) other
      dated) =
      absurd (behind-at site regular kept shown ledger number spec there booked since next before split one done at)
  passes-on pair lost at may most (with_other role (is_applied before is split pos done) other dated) =
      let more = ap (length {A = Deed}) split in absurd (omega (arith, count, pos, most, more))

  -- the sending of everything ends
  ends : (pair : Pair) → (slice_get stopped pair.second.processor ≡ Some true → pair.second.role ≡ Gone)
      → pair.first.sent ≡ true
      → process.point pair.first.core.state ≢ point.AtCheckpoint → may_pass marked First pair ≡ true
      → FirstLeads site ledger number spec (ledger.deeds number) pair
      → Passed kept (record pair { first = record pair.first { sent = false; acknowledged = false } })
  ends pair lost was_sent away may (with_other role lead other dated) =
      unchanged _ (with_other role (lead-same site ledger number spec (ledger.deeds number)
      (record { core = refl; position = refl; held = refl; sent = λ s. absurd (cc) }) lead)
      (by lead other) (dated-first pair _ refl dated))
    where
      by : {stage : Stage} → IsLead site ledger number spec (ledger.deeds number) pair.first stage
          → IsOther site number spec (ledger.deeds number) pair stage
          → IsOther site number spec (ledger.deeds number)
          (record pair { first = record pair.first { sent = false; acknowledged = false } }) stage
      by lead (is_lost gone) = is_lost gone
      by lead (is_blank b) = absurd (no-pass-blank pair lost b may)
      by lead (is_due w sent told next at body) = absurd (away at)
      by lead (is_even stage w even un told renewal) = absurd (cc)
      by (is_applied before is split pos done) (has_applied w even sent told) =
          absurd (away (applied-at site regular kept shown ledger number spec there booked split done))
      by lead (has_renewed stage off w even sent told) =
          is_even stage (watches-first pair _ refl refl w) even refl refl (told (was-told pair lost w.role may))

  acknowledges : (pair : Pair) (taken : TakenMessage) → pair.first.sent ≡ true → IsAmong taken pair.takens
      → taken.era ≡ pair.first.era → taken.number ≡ pair.first.number
      → FirstLeads site ledger number spec (ledger.deeds number) pair
      → Passed kept (record pair { first = record pair.first { acknowledged = true; renewal = false } })
  acknowledges pair taken was_sent among era is (with_other role lead other dated) =
      unchanged _ (with_other role (lead-same site ledger number spec (ledger.deeds number)
      (record { core = refl; position = refl; held = refl; sent = λ s. s }) lead)
      (by other) (dated-first pair _ refl dated))
    where
      -- an acknowledgement of the first copy's last checkpoint was sent only after it was applied
      by : {stage : Stage} → IsOther site number spec (ledger.deeds number) pair stage
          → IsOther site number spec (ledger.deeds number)
          (record pair { first = record pair.first { acknowledged = true; renewal = false } }) stage
      by (is_lost gone) = is_lost gone
      by (is_blank b) =
          let last = b.takens taken among era in let ahead = b.ahead was_sent in absurd (omega (arith, last, is, ahead))
      by (is_due w sent told next at body) =
          let last = w.takens taken among era in absurd (omega (arith, last, is, next))
      by (is_even stage w even unsent told renewal) = absurd (cc)
      by (has_applied w even sent told) = has_applied (watches-first pair _ refl refl w) even sent (λ _. refl)
      by (has_renewed stage away w even sent told) =
          has_renewed stage away (watches-first pair _ refl refl w) even sent (λ _. refl)

  leads-idle : {pair : Pair} → FirstLeads site ledger number spec (ledger.deeds number) pair
      → pair.second.role ≡ Acting → ⊥
  leads-idle (with_other role lead other dated) acting = other-rests other acting

  leads-not : {pair : Pair} → FirstLeads site ledger number spec (ledger.deeds number) pair
      → receives pair.first.role ≡ true → ⊥
  leads-not (with_other role lead other dated) receiving = cc

  pub leads-pass : (pair next : Pair) (after : List Act) (cause : Cause) (sendings : List Sending)
      → (slice_get stopped pair.second.processor ≡ Some true → pair.second.role ≡ Gone)
      → length pair.first.held + length (ledger.deeds number) < 4294967296
      → FirstLeads site ledger number spec (ledger.deeds number) pair
      → Passes number marked kept pair cause sendings next after → Passed after next
  leads-pass pair next after cause sendings lost few leads (by_send First role may sent unmarked) =
      sends pair may sent leads
  leads-pass pair next after cause sendings lost few leads (by_send Second role may sent unmarked) =
      absurd (leads-idle leads role)
  leads-pass pair next after cause sendings lost few leads (by_pass_again First role at may less) =
      passes-again pair lost at may less leads
  leads-pass pair next after cause sendings lost few leads (by_pass_again Second role at may less) =
      absurd (leads-idle leads role)
  leads-pass pair next after cause sendings lost few leads (by_pass First role at may most) =
      passes-on pair lost at may most leads
  leads-pass pair next after cause sendings lost few leads (by_pass Second role at may most) =
      absurd (leads-idle leads role)
  leads-pass pair next after cause sendings lost few leads (by_end First role sent away may) =
      ends pair lost sent away may leads
  leads-pass pair next after cause sendings lost few leads (by_end Second role sent away may) =
      absurd (leads-idle leads role)
  leads-pass pair next after cause sendings lost few leads (by_apply First message applied role sent era is put most) =
      absurd (leads-not leads role)
  leads-pass pair next after cause sendings lost few leads
      (by_apply Second message applied role sent era is put most) =
      applies site regular kept shown ledger number spec disciplined there booked short pair message applied few role
      sent era is put most leads
  leads-pass pair next after cause sendings lost few leads
      (by_apply_behind First message applied role sent era is put less) = absurd (leads-not leads role)
  leads-pass pair next after cause sendings lost few leads
      (by_apply_behind Second message applied role sent era is put less) =
      applies-behind site regular kept shown ledger number spec disciplined there booked short pair message applied few
      role sent era is put less leads
  leads-pass pair next after cause sendings lost few leads (by_acknowledge First taken role sent among era is) =
      acknowledges pair taken sent among era is leads
  leads-pass pair next after cause sendings lost few leads (by_acknowledge Second taken role sent among era is) =
      absurd (leads-idle leads role)

-- what becomes of a process, whichever of its copies leads
pub record GoesOn (site : Site) (kept : List Act) (shown : List Shown) (ledger : Ledger) (number : ℕ)
    (spec : ProcessSpec) (pair : Pair) : Type 0 where
  pub deeds : List Deed
  pub settled : IsSettled site kept shown ledger number deeds
  pub idle : AreIdle deeds
  pub led : IsLed site (with_deeds number deeds ledger) number spec (deeds ++ ledger.deeds number) pair

pub led-pass : (site : Site) (regular : AreRegular site) (stopped : List Bool) (marked : List Down) (kept : List Act)
    (shown : List Shown) (ledger : Ledger) (number : ℕ)
    (spec : ProcessSpec) → IsDisciplined site number spec → slice_get site.processes number ≡ Some spec
    → AreBooked site kept shown ledger → IsShortLedger ledger
    → ((mark : Down) → IsAmong mark marked → slice_get stopped mark.down ≡ Some true)
    → (pair next : Pair) (after : List Act) (cause : Cause) (sendings : List Sending)
    → RolesOf stopped pair → length pair.first.held + length pair.second.held + length (ledger.deeds number)
    < 4294967296
    → IsLed site ledger number spec (ledger.deeds number) pair
    → Passes number marked kept pair cause sendings next after
    → GoesOn site after shown ledger number spec next
led-pass site regular stopped marked kept shown ledger number spec disciplined there booked short down pair next after
    cause sendings roles few (by_first leads) passes =
    let on = leads-pass site regular stopped marked kept shown ledger number spec disciplined there booked short down
    pair next after cause sendings roles.second_gone (omega (arith, few)) leads passes in
    record { deeds = on.deeds; settled = on.settled; idle = on.idle; led = by_first on.leads }
led-pass site regular stopped marked kept shown ledger number spec disciplined there booked short down pair next after
    cause sendings roles few (by_second leads) passes =
    let on = leads-pass site regular stopped marked kept shown ledger number spec disciplined there booked short down
    (exchanged pair) (exchanged next) after cause sendings roles.first_gone
    (omega (arith, few)) leads (passes-exchanged passes) in
    record { deeds = on.deeds; settled = on.settled; idle = on.idle; led = by_second on.leads }
