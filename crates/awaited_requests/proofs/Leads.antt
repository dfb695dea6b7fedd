-- Each copy that isn't gone has done all takes of its process, and no more answers than it.
use Rattle.std.proofs.Common.{◌≡◌, ◌≢◌, ◌≤◌, ℕ, ◌+◌, ℤ, List, [], ◌∷◌, ◌++◌, length, Option, refl, ap, sym, ◌∙◌, arith}
use Rattle.std.proofs.Common.{append_assoc, length-append, filter_map}
use Rattle.std.proofs.lemmas.List.Elements.{filter_map-append}
use Rattle.tal_tree.specs.declared.act.Act.{Act}
use Rattle.tal_tree.specs.declared.site.ProcessSpec.{ProcessSpec}
use Rattle.tal_tree.specs.declared.site.Site.{Site}
use Rattle.world_semantics.specs.Core.{Core, Deed, Went, Checkpointed, Took, Asked, Got, Answered, Acted}
use Rattle.world_semantics.specs.World.{Copy, Pair, copy_of}
use Rattle.world_semantics.specs.declared.role.Role.TheVariants.{Acting, Gone, Blank}
use Rattle.world_semantics.specs.declared.which.Which.{Which}
use Rattle.world_semantics.specs.declared.which.Which.TheVariants.{First, Second}
use Rattle.takeover_laws.specs.process_histories.specs.Histories.{HasDone}
use Rattle.takeover_laws.specs.process_histories.specs.Words.{take_from, answer_to, taken_from, answered_to}
use Rattle.takeover_laws.specs.plain_histories.specs.Booking.{AreHeld, none_held, take_held, step_held}
use Rattle.takeover_laws.specs.plain_histories.specs.Ledgers.{Ledger}
use Rattle.takeover_laws.specs.Invariant.{AreRepeatable, Stage, IsLead, is_level, is_applied, is_behind, Watches}
use Rattle.takeover_laws.specs.Invariant.{IsOther, is_lost, is_due, is_even, has_applied, FirstLeads, with_other, IsLed}
use Rattle.takeover_laws.specs.Invariant.{by_first, by_second, has_renewed, is_blank}
use Rattle.takeover_laws.proofs.Checkpoints.{other-rests}
use Rattle.takeover_laws.proofs.Repeating.{repeatable-join}

-- Leads

module _ {site : Site} {ledger : Ledger} {number : ℕ} {spec : ProcessSpec} {deeds : List Deed} where
  first-lead : {pair : Pair} → FirstLeads site ledger number spec deeds pair
      → (stage : Stage) × IsLead site ledger number spec deeds pair.first stage
  first-lead (with_other {stage = stage} role lead other dated) = (stage, lead)

  second-rests : {pair : Pair} → FirstLeads site ledger number spec deeds pair → pair.second.role ≡ Acting → ⊥
  second-rests (with_other role lead other dated) acting = other-rests other acting

  -- a copy that acts leads
  pub acting-leads : (pair : Pair) (k : Which) → IsLed site ledger number spec deeds pair
      → (copy_of k pair).role ≡ Acting
      → (stage : Stage) × IsLead site ledger number spec deeds (copy_of k pair) stage
  acting-leads pair First (by_first leads) acting = first-lead leads
  acting-leads pair Second (by_first leads) acting = absurd (second-rests leads acting)
  acting-leads pair First (by_second leads) acting = absurd (second-rests leads acting)
  acting-leads pair Second (by_second leads) acting = first-lead leads

-- All takes

-- a core of a process that has done all takes of these deeds, and no more answers
pub record HasAllTakes (site : Site) (number : ℕ) (spec : ProcessSpec) (deeds : List Deed) (core : Core) : Type 0 where
  pub whole : List Deed
  pub done : HasDone site number spec whole core
  pub takes : (place : ℕ) → length (taken_from place deeds) ≤ length (taken_from place whole)
  pub answers : (place : ℕ) → length (answered_to place whole) ≤ length (answered_to place deeds)

pub count-join : (f : Deed → Option (List ℤ)) (more deeds : List Deed)
    → length (filter_map f (more ++ deeds)) ≡ length (filter_map f more) + length (filter_map f deeds)
count-join f more deeds =
    ap length (filter_map-append f more deeds) ∙ length-append (filter_map f more) (filter_map f deeds)

held-answers : {site : Site} {ledger : Ledger} {number : ℕ} {held : List Act} {deeds : List Deed} (place : ℕ)
    → AreHeld site ledger number held deeds
    → answered_to place deeds ≡ []
held-answers place none_held = refl
held-answers place (take_held waits) = refl
held-answers place (step_held held) = held-answers place held

repeatable-takes : (place : ℕ) (deeds : List Deed) → AreRepeatable deeds → taken_from place deeds ≡ []
repeatable-takes place [] all = refl
repeatable-takes place (Went ∷ deeds) all = repeatable-takes place deeds all.1
repeatable-takes place (Checkpointed ∷ deeds) all = absurd all.0
repeatable-takes place (Took one words ∷ deeds) all = absurd all.0
repeatable-takes place (Asked file words ∷ deeds) all = repeatable-takes place deeds all.1
repeatable-takes place (Got file words ∷ deeds) all = repeatable-takes place deeds all.1
repeatable-takes place (Answered one words ∷ deeds) all = repeatable-takes place deeds all.1
repeatable-takes place (Acted call found ∷ deeds) all = repeatable-takes place deeds all.1

module _ {site : Site} {number : ℕ} {spec : ProcessSpec} {deeds : List Deed} where
  -- what a process did since can be done anew, so there is no take among it
  since-takes : {core : Core} (since before : List Deed) → deeds ≡ since ++ before → AreRepeatable since
      → HasDone site number spec before core
      → HasAllTakes site number spec deeds core
  since-takes since before split all done = record {
    whole = before;
    done = done;
    takes = λ place. rw split (omega (
      arith,
      count-join (take_from place) since before,
      ap length (repeatable-takes place since all),
    ));
    answers = λ place. rw split (omega (arith, count-join (answer_to place) since before));
  }

  pub lead-takes : {ledger : Ledger} {copy : Copy} {stage : Stage} → IsLead site ledger number spec deeds copy stage
      → HasAllTakes site number spec deeds copy.core
  lead-takes (is_level {more = more} is held position done sent) = record {
    whole = more ++ deeds;
    done = done;
    takes = λ place. omega (arith, count-join (take_from place) more deeds);
    answers = λ place. omega (arith, count-join (answer_to place) more deeds, ap length (held-answers place held));
  }
  lead-takes (is_applied before none split position done) = record {
    whole = before;
    done = done;
    takes = λ place. rw split (omega arith);
    answers = λ place. rw split (omega arith);
  }
  lead-takes (is_behind since next before none split again all position done unsent) =
      since-takes (since ++ next ∷ []) before (split ∙ sym (append_assoc since (next ∷ []) before))
      (repeatable-join since (next ∷ []) all (again, tt)) done

  watching-takes : {pair : Pair} → Watches site number spec deeds pair
      → HasAllTakes site number spec deeds pair.second.core
  watching-takes watches = since-takes watches.since watches.before watches.split watches.repeatable watches.done

  other-takes : {pair : Pair} {stage : Stage} → IsOther site number spec deeds pair stage → pair.second.role ≢ Gone
      → pair.second.role ≢ Blank → HasAllTakes site number spec deeds pair.second.core
  other-takes (is_lost gone) there full = absurd (there gone)
  other-takes (is_blank b) there full = absurd (full b.role)
  other-takes (is_due watches sent told next at image) there full = watching-takes watches
  other-takes (is_even stage watches next unsent told renewal) there full = watching-takes watches
  other-takes (has_applied watches next sent told) there full = watching-takes watches
  other-takes (has_renewed stage away watches next sent told) there full = watching-takes watches

  module _ {ledger : Ledger} where
    second-takes : {pair : Pair} → FirstLeads site ledger number spec deeds pair → pair.second.role ≢ Gone
        → pair.second.role ≢ Blank → HasAllTakes site number spec deeds pair.second.core
    second-takes (with_other role lead other dated) there full = other-takes other there full

    pub copy-takes : (pair : Pair) (k : Which) → IsLed site ledger number spec deeds pair
        → (copy_of k pair).role ≢ Gone → (copy_of k pair).role ≢ Blank
        → HasAllTakes site number spec deeds (copy_of k pair).core
    copy-takes pair First (by_first leads) there full = lead-takes (first-lead leads).1
    copy-takes pair Second (by_first leads) there full = second-takes leads there full
    copy-takes pair First (by_second leads) there full = second-takes leads there full
    copy-takes pair Second (by_second leads) there full = lead-takes (first-lead leads).1
