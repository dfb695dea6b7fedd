-- A process after an act of one of its copies.
use Rattle.std.proofs.Common.{◌≡◌, ◌≢◌, ℕ, true, List, [], ◌∷◌, ◌++◌, Some, slice_get, refl, ap, sym, ◌∙◌}
use Rattle.std.proofs.Common.{append_assoc, false}
use Rattle.gd_words.specs.declared.message.Request.{Request}
use Rattle.tal_tree.specs.declared.act.Act.{Act}
use Rattle.tal_tree.specs.declared.act.Shown.{Shown}
use Rattle.tal_tree.specs.declared.site.ProcessSpec.{ProcessSpec}
use Rattle.tal_tree.specs.declared.site.Site.{Site}
use Rattle.world_semantics.specs.plain_semantics.specs.Openers.{openers_of}
use Rattle.world_semantics.specs.disc_device.specs.Sectors.{Stored}
use Rattle.world_semantics.specs.declared.role.Role.TheVariants.{Acting}
use Rattle.world_semantics.specs.Core.{Core, Deed, Checkpointed, Advances}
use Rattle.world_semantics.specs.declared.which.Which.{Which}
use Rattle.world_semantics.specs.declared.which.Which.TheVariants.{First, Second}
use Rattle.world_semantics.specs.World.{Copy, Pair, copy_of, with_copy, receives}
use Rattle.world_semantics.specs.Kept.{Enters, holds_on, repeats, begins, keeps}
use Rattle.plain_histories.specs.process_histories.specs.Histories.{HasDone}
use Rattle.discipline_laws.specs.Disciplined.{IsDisciplined}
use Rattle.plain_histories.specs.Agreeing.{AreRegular}
use Rattle.plain_histories.specs.Booking.{act_of, IsAllowed, AreBooked}
use Rattle.plain_histories.specs.Ledgers.{Ledger, with_deed}
use Rattle.takeover_laws.specs.Invariant.{AreRepeatable, Stage, Level, Applied, Behind, IsLead, is_level, is_applied}
use Rattle.takeover_laws.specs.Invariant.{is_behind, Watches, IsOther, is_lost, is_due, is_even, has_applied}
use Rattle.takeover_laws.specs.Invariant.{FirstLeads, with_other, exchanged, IsLed, by_first, by_second, IsDated}
use Rattle.takeover_laws.specs.Invariant.{has_renewed, is_blank}
use Rattle.takeover_laws.proofs.Backed.{IsBacked, IsSentBy, IsOld, IsNew}
use Rattle.takeover_laws.proofs.Own.{Becomes, lead_stays, lead_kept, lead-own}
use Rattle.takeover_laws.proofs.Checkpoints.{other-rests}
use Rattle.takeover_laws.proofs.Repeating.{repeatable-join}
use Rattle.process_semantics.specs.Process as process
use Rattle.process_semantics.specs.declared.point.Point.TheVariants as point

-- an act leaves all of a copy that the other one's standing looks at
record AreAlike (one other : Copy) : Type 0 where
  pub processor : other.processor ≡ one.processor
  pub role : other.role ≡ one.role
  pub number : other.number ≡ one.number
  pub sent : other.sent ≡ one.sent
  pub acknowledged : other.acknowledged ≡ one.acknowledged
  pub era : other.era ≡ one.era
  pub renewal : other.renewal ≡ one.renewal

entered-alike : {number : ℕ} {act : Act} {kept after : List Act} {copy entered : Copy} (core : Core)
    → Enters number act kept copy entered after
    → AreAlike copy (record entered { core = core })
entered-alike core (holds_on held) = record
    { processor = refl; role = refl; number = refl; sent = refl; acknowledged = refl; era = refl; renewal = refl }
entered-alike core (repeats held less) =
    record {
      processor = refl;
      role = refl;
      number = refl;
      sent = refl;
      acknowledged = refl;
      era = refl;
      renewal = refl;
    }
entered-alike core (begins held most take) =
    record {
      processor = refl;
      role = refl;
      number = refl;
      sent = refl;
      acknowledged = refl;
      era = refl;
      renewal = refl;
    }
entered-alike core (keeps held most take) =
    record {
      processor = refl;
      role = refl;
      number = refl;
      sent = refl;
      acknowledged = refl;
      era = refl;
      renewal = refl;
    }

only-level : (stage : Stage) → stage ≢ Applied → stage ≢ Behind → stage ≡ Level
only-level Level applied behind = refl
only-level Applied applied behind = absurd (applied refl)
only-level Behind applied behind = absurd (behind refl)

-- what becomes of a process: the ledger stays, or has the deed
pub data Outcome (site : Site) (kept : List Act) (ledger : Ledger) (number : ℕ) (spec : ProcessSpec) (deed : Deed)
    (core : Core)
    (Leads : Ledger → List Deed → Type 0) (after : List Act) : Type 0 where
  it_stays : after ≡ kept → IsSentBy site ledger number core deed → IsOld ledger number spec deed
      → Leads ledger (ledger.deeds number)
      → Outcome site kept ledger number spec deed core Leads after
  it_is_kept : after ≡ act_of number deed ∷ kept → IsSentBy site (with_deed number deed ledger) number core deed
      → IsNew ledger number spec deed
      → HasDone site number spec (ledger.deeds number) core → IsAllowed site ledger number spec deed
      → Leads (with_deed number deed ledger) (deed ∷ ledger.deeds number)
      → Outcome site kept ledger number spec deed core Leads after

pub outcome-as : {site : Site} {kept after : List Act} {ledger : Ledger} {number : ℕ} {spec : ProcessSpec}
    {deed : Deed} {core : Core}
    (Leads Led : Ledger → List Deed → Type 0) → ((l : Ledger) (deeds : List Deed) → Leads l deeds → Led l deeds)
    → Outcome site kept ledger number spec deed core Leads after
    → Outcome site kept ledger number spec deed core Led after
outcome-as Leads Led up (it_stays is sent old leads) = it_stays is sent old (up _ _ leads)
outcome-as Leads Led up (it_is_kept is sent new done allowed leads) = it_is_kept is sent new done allowed (up _ _ leads)

module _ (site : Site) (number : ℕ) (spec : ProcessSpec) where
  watches-own : (deeds : List Deed) (pair : Pair) (copy : Copy) (more : List Deed) → AreRepeatable more
      → AreAlike pair.first copy → Watches site number spec deeds pair
      → Watches site number spec (more ++ deeds) (record pair { first = copy })
  watches-own deeds pair copy more all alike w = record {
    since = more ++ w.since;
    before = w.before;
    split = ap (λ g. more ++ g) w.split ∙ sym (append_assoc more w.since w.before);
    repeatable = repeatable-join more w.since all w.repeatable;
    base = w.base;
    done = w.done;
    role = w.role;
    unsent = w.unsent;
    era = w.era ∙ sym alike.era;
    checkpoints = λ m among era. rw alike.number (w.checkpoints m among (era ∙ alike.era));
    takens = λ t among era. w.takens t among (era ∙ alike.era);
  }

  other-own : (deeds : List Deed) (pair : Pair) (copy : Copy) (more : List Deed) → AreRepeatable more
      → AreAlike pair.first copy → (pair.first.sent ≡ true → ⊥)
      → {stage new : Stage} → stage ≢ Applied → new ≢ Applied
      → IsOther site number spec deeds pair stage
      → IsOther site number spec (more ++ deeds) (record pair { first = copy }) new
  other-own deeds pair copy more all alike unsent was now (is_lost gone) = is_lost gone
  other-own deeds pair copy more all alike unsent was now (is_blank b) = is_blank (record {
    role = b.role;
    acting = alike.role ∙ b.acting;
    renewal = alike.renewal ∙ b.renewal;
    told = alike.acknowledged ∙ b.told;
    begun = b.begun;
    unsent = b.unsent;
    era = b.era ∙ sym alike.era;
    even = λ s. alike.number ∙ b.even (sym alike.sent ∙ s);
    ahead = λ s. absurd (unsent (sym alike.sent ∙ s));
    checkpoints = λ m among era. rw alike.number (b.checkpoints m among (era ∙ alike.era));
    image = λ s. absurd (unsent (sym alike.sent ∙ s));
    takens = λ t among era. b.takens t among (era ∙ alike.era);
  })
  other-own deeds pair copy more all alike unsent was now (is_due w sent told next at body) = absurd (unsent sent)
  other-own deeds pair copy more all alike unsent was now (is_even stage w next un told renewal) =
      is_even now (watches-own deeds pair copy more all alike w) (rw alike.number next) (rw alike.sent un)
      (rw alike.acknowledged told) (rw alike.renewal renewal)
  other-own deeds pair copy more all alike unsent was now (has_applied w next sent told) = absurd (unsent sent)
  other-own deeds pair copy more all alike unsent was now (has_renewed stage away w next sent told) =
      absurd (unsent sent)

  lead-unsent : {ledger : Ledger} {deeds : List Deed} {copy : Copy} {stage : Stage}
      → IsLead site ledger number spec deeds copy stage → stage ≢ Applied
      → (copy.sent ≡ true → process.point copy.core.state ≡ point.Await) → copy.sent ≡ true → ⊥
  lead-unsent (is_level is held pos done sent) stage free s = sent s (free s)
  lead-unsent (is_applied before is split pos done) stage free s = stage refl
  lead-unsent (is_behind since next before is split one all pos done sent) stage free s = sent s (free s)

  dated-own : {pair : Pair} {copy : Copy} → AreAlike pair.first copy → IsDated pair
      → IsDated (record pair { first = copy })
  dated-own alike dated = record {
    other = rw alike.era dated.other;
    checkpoints = λ m among. rw alike.era (dated.checkpoints m among);
    takens = λ t among. rw alike.era (dated.takens t among);
  }

  module _ (regular : AreRegular site) (disciplined : IsDisciplined site number spec)
      (there : slice_get site.processes number ≡ Some spec)
      {kept : List Act} {shown : List Shown} (ledger : Ledger) (booked : AreBooked site kept shown ledger) where
    leads-own : (after : List Act) (deed : Deed) (pair : Pair) (entered : Copy) (core : Core)
        → FirstLeads site ledger number spec (ledger.deeds number) pair
        → (pair.first.sent ≡ true → process.point pair.first.core.state ≡ point.Await)
        → Advances (openers_of site number) pair.first.core deed core → deed ≢ Checkpointed
        → IsBacked site ledger number spec pair.first.core deed
        → Enters number (act_of number deed) kept pair.first entered after
        → Outcome site kept ledger number spec deed pair.first.core
        (λ l deeds. FirstLeads site l number spec deeds (record pair { first = record entered { core = core } })) after
    leads-own after deed pair entered core (with_other {stage = stage} role lead other dated) free advances
        not_checkpoint
        back enters =
        by (lead-own site regular number spec disciplined there ledger booked after deed pair.first entered core lead
        free advances not_checkpoint back enters)
      where
        copy : Copy
        copy = record entered { core = core }

        alike : AreAlike pair.first copy
        alike = entered-alike core enters

        receiving : receives copy.role ≡ false
        receiving = rw alike.role role

        by : Becomes site kept ledger number spec deed stage pair.first.core copy after
            → Outcome site kept ledger number spec deed pair.first.core
            (λ l deeds. FirstLeads site l number spec deeds (record pair { first = copy })) after
        by (lead_stays {new = new} is now applied level new_applied sent old) =
            it_stays is sent old (with_other receiving now
            (other-own (ledger.deeds number) pair copy [] tt alike (lead-unsent lead applied free) applied new_applied
            other) (dated-own alike dated))
        by (lead_kept is at sent new done allowed one now) =
            let applied : stage ≢ Applied = λ e. absurd (cc) in
            it_is_kept is sent new done allowed (with_other receiving now
            (other-own (ledger.deeds number) pair copy (deed ∷ []) (one, tt) alike (lead-unsent lead applied free)
            applied (λ e. absurd (cc)) other) (dated-own alike dated))

    leads-idle : {pair : Pair} → FirstLeads site ledger number spec (ledger.deeds number) pair
        → pair.second.role ≡ Acting → ⊥
    leads-idle (with_other role lead other dated) acting = other-rests other acting

    pub led-own : (after : List Act) (deed : Deed) (k : Which) (pair : Pair) (entered : Copy) (core : Core)
        → IsLed site ledger number spec (ledger.deeds number) pair
        → (copy_of k pair).role ≡ Acting → ((copy_of k pair).sent ≡ true
        → process.point (copy_of k pair).core.state ≡ point.Await)
        → Advances (openers_of site number) (copy_of k pair).core deed core → deed ≢ Checkpointed
        → IsBacked site ledger number spec (copy_of k pair).core deed
        → Enters number (act_of number deed) kept (copy_of k pair) entered after
        → Outcome site kept ledger number spec deed (copy_of k pair).core
        (λ l deeds. IsLed site l number spec deeds (with_copy k (record entered { core = core }) pair)) after
    led-own after deed First pair entered core (by_first leads) acting free advances other back enters =
        outcome-as _ _ (λ l deeds now. by_first now)
        (leads-own after deed pair entered core leads free advances other back enters)
    led-own after deed Second pair entered core (by_second leads) acting free advances other back enters =
        outcome-as _ _ (λ l deeds now. by_second now)
        (leads-own after deed (exchanged pair) entered core leads free advances other back enters)
    led-own after deed Second pair entered core (by_first leads) acting free advances other back enters =
        absurd (leads-idle leads acting)
    led-own after deed First pair entered core (by_second leads) acting free advances other back enters =
        absurd (leads-idle leads acting)

  -- What waits, and the sectors, play no part
  module _ (ledger : Ledger) (deeds : List Deed) where
    lead-waits : {copy : Copy} {stage : Stage} (waiting : List Request)
        → IsLead site ledger number spec deeds copy stage
        → IsLead site ledger number spec deeds (record copy { waiting = waiting }) stage
    lead-waits waiting (is_level is held pos done sent) = is_level is held pos done sent
    lead-waits waiting (is_applied before is split pos done) = is_applied before is split pos done
    lead-waits waiting (is_behind since next before is split one all pos done unsent) =
        is_behind since next before is split one all pos done unsent

    abbrev around-pair : Pair → List Request → List Request → List Stored → Pair
    around-pair pair first second sectors =
        record pair {
          first = record pair.first { waiting = first };
          second = record pair.second { waiting = second };
          sectors = sectors;
        }

    watches-waits : (pair : Pair) (first second : List Request) (sectors : List Stored)
        → Watches site number spec deeds pair
        → Watches site number spec deeds (around-pair pair first second sectors)
    watches-waits pair first second sectors w = record {
      since = w.since;
      before = w.before;
      split = w.split;
      repeatable = w.repeatable;
      base = w.base;
      done = w.done;
      role = w.role;
      unsent = w.unsent;
      era = w.era;
      checkpoints = w.checkpoints;
      takens = w.takens;
    }

    other-waits : (pair : Pair) (first second : List Request) (sectors : List Stored) {stage : Stage}
        → IsOther site number spec deeds pair stage
        → IsOther site number spec deeds (around-pair pair first second sectors) stage
    other-waits pair first second sectors (is_lost gone) = is_lost gone
    other-waits pair first second sectors (is_blank b) = is_blank (record {
      role = b.role;
      acting = b.acting;
      renewal = b.renewal;
      told = b.told;
      begun = b.begun;
      unsent = b.unsent;
      era = b.era;
      even = b.even;
      ahead = b.ahead;
      checkpoints = b.checkpoints;
      image = b.image;
      takens = b.takens;
    })
    other-waits pair first second sectors (is_due w sent told next at body) =
        is_due (watches-waits pair first second sectors w) sent told next at body
    other-waits pair first second sectors (is_even stage w next unsent told renewal) =
        is_even stage (watches-waits pair first second sectors w) next unsent told renewal
    other-waits pair first second sectors (has_applied w next sent told) =
        has_applied (watches-waits pair first second sectors w) next sent told
    other-waits pair first second sectors (has_renewed stage away w next sent told) =
        has_renewed stage away (watches-waits pair first second sectors w) next sent told

    leads-waits : (pair : Pair) (first second : List Request) (sectors : List Stored)
        → FirstLeads site ledger number spec deeds pair
        → FirstLeads site ledger number spec deeds (around-pair pair first second sectors)
    leads-waits pair first second sectors (with_other role lead other dated) =
        with_other role (lead-waits first lead) (other-waits pair first second sectors other)
        (record { other = dated.other; checkpoints = dated.checkpoints; takens = dated.takens })

    pub led-waits : (k : Which) (pair : Pair) (waiting : List Request) (sectors : List Stored)
        → IsLed site ledger number spec deeds pair
        → IsLed site ledger number spec deeds (with_copy k (record (copy_of k pair) { waiting = waiting })
        (record pair { sectors = sectors }))
    led-waits First pair waiting sectors (by_first leads) =
        by_first (leads-waits pair waiting pair.second.waiting sectors leads)
    led-waits First pair waiting sectors (by_second leads) =
        by_second (leads-waits (exchanged pair) pair.second.waiting waiting sectors leads)
    led-waits Second pair waiting sectors (by_first leads) =
        by_first (leads-waits pair pair.first.waiting waiting sectors leads)
    led-waits Second pair waiting sectors (by_second leads) =
        by_second (leads-waits (exchanged pair) waiting pair.first.waiting sectors leads)
