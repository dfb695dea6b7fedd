-- A process after a stop, and after a mark with its takeover.
use Rattle.std.proofs.Common.{◌≡◌, ◌≢◌, inl, inr, ℕ, ◌==◌, ◌&&◌, Bool, true, false, if◌then◌else◌, List, []}
use Rattle.std.proofs.Common.{◌++◌, length, Option, Some, None, slice_get, refl, ap, sym, ◌∙◌, subst, arith, ◌+◌}
use Rattle.std.proofs.lemmas.Bool.{eqb-true}
use Rattle.tal_tree.specs.declared.site.Site.{Site}
use Rattle.tal_tree.specs.declared.site.ProcessSpec.{ProcessSpec}
use Rattle.world_semantics.specs.declared.role.Role.{Role}
use Rattle.world_semantics.specs.declared.role.Role.TheVariants.{Watching, Gone, Acting, Blank}
use Rattle.world_semantics.specs.Core.{Deed, Core}
use Rattle.world_semantics.specs.declared.which.Which.{Which}
use Rattle.world_semantics.specs.declared.which.Which.TheVariants.{First, Second}
use Rattle.world_semantics.specs.World.{Copy, Pair, is_running, receives}
use Rattle.world_semantics.specs.Rules.{stopped_pair, taken_over, taker, pair_after_down, after_takeover, pair_at_down}
use Rattle.world_semantics.specs.Rules.{blank_copy, reloaded_by, reloaded_pair, renewals_ended, copy_with_renewal}
use Rattle.world_semantics.proofs.Roles.{RolesOf, Takes, taker-is, mark-roles}
use Rattle.plain_histories.specs.process_histories.specs.Histories.{HasDone}
use Rattle.plain_histories.specs.Booking.{none_held}
use Rattle.plain_histories.specs.Ledgers.{Ledger}
use Rattle.takeover_laws.specs.Invariant.{AreRepeatable, Stage, Level, Applied, Behind, IsLead, is_level, is_applied}
use Rattle.takeover_laws.specs.Invariant.{is_behind, Watches, IsOther, is_lost, is_due, is_even, has_applied}
use Rattle.takeover_laws.specs.Invariant.{FirstLeads, with_other, exchanged, IsLed, by_first, by_second, IsBlank}
use Rattle.takeover_laws.specs.Invariant.{has_renewed, is_blank}
use Rattle.takeover_laws.proofs.Repeating.{unsnoc, repeatable-last}
use Rattle.takeover_laws.proofs.Checkpoints.{other-rests, roles-exchanged}
use Rattle.process_semantics.specs.Process as process
use Rattle.process_semantics.specs.declared.point.Point.TheVariants as point

module _ (site : Site) (ledger : Ledger) (number : ℕ) (spec : ProcessSpec) (deeds : List Deed) where
  -- to a lead its own core, position and held acts matter, and where it has sent
  pub record IsSameLead (one other : Copy) : Type 0 where
    pub core : other.core ≡ one.core
    pub position : other.position ≡ one.position
    pub held : other.held ≡ one.held
    pub sent : other.sent ≡ true → one.sent ≡ true

  pub lead-same : {one other : Copy} {stage : Stage} → IsSameLead one other
      → IsLead site ledger number spec deeds one stage → IsLead site ledger number spec deeds other stage
  lead-same same (is_level {more = more} is held pos done sent) =
      is_level (same.held ∙ is) held (same.position ∙ pos)
      (subst (λ c. HasDone site number spec (more ++ deeds) c) (sym same.core) done)
      (λ s. subst (λ (c : Core). process.point c.state ≢ point.Await) (sym same.core) (sent (same.sent s)))
  lead-same same (is_applied before is split pos done) =
      is_applied before (same.held ∙ is) split (same.position ∙ pos)
      (subst (λ c. HasDone site number spec before c) (sym same.core) done)
  lead-same same (is_behind since next before is split one all pos done sent) =
      is_behind since next before (same.held ∙ is) split one all (same.position ∙ pos)
      (subst (λ c. HasDone site number spec before c) (sym same.core) done)
      (λ s. subst (λ (c : Core). process.point c.state ≢ point.Await) (sym same.core) (sent (same.sent s)))

  pub lead-role : {copy : Copy} {stage : Stage} (role : Role) → IsLead site ledger number spec deeds copy stage
      → IsLead site ledger number spec deeds (record copy { role = role }) stage
  lead-role role lead = lead-same (record { core = refl; position = refl; held = refl; sent = λ s. s }) lead

  watches-roles : (pair : Pair) (first : Role) (second : Role) → second ≡ pair.second.role
      → Watches site number spec deeds pair
      → Watches site number spec deeds (record pair
      { first = record pair.first { role = first }; second = record pair.second { role = second } })
  watches-roles pair first second same w = record {
    since = w.since;
    before = w.before;
    split = w.split;
    repeatable = w.repeatable;
    base = w.base;
    done = w.done;
    role = same ∙ w.role;
    unsent = w.unsent;
    era = w.era;
    checkpoints = w.checkpoints;
    takens = w.takens;
  }

  -- a stop, where nothing is blank
  other-roles : (pair : Pair) (first : Role) (test : Bool) {stage : Stage} → (pair.second.role ≡ Blank → ⊥)
      → IsOther site number spec deeds pair stage
      → IsOther site number spec deeds
      (record pair {
        first = record pair.first { role = first };
        second = record pair.second { role = if test then Gone else pair.second.role };
      }) stage
  other-roles pair first true not_blank other = is_lost refl
  other-roles pair first false not_blank (is_lost gone) = is_lost gone
  other-roles pair first false not_blank (is_blank b) = absurd (not_blank b.role)
  other-roles pair first false not_blank (is_due w sent told next at body) =
      is_due (watches-roles pair first pair.second.role refl w) sent told next at body
  other-roles pair first false not_blank (is_even stage w next unsent told renewal) =
      is_even stage (watches-roles pair first pair.second.role refl w) next unsent told renewal
  other-roles pair first false not_blank (has_applied w next sent told) =
      has_applied (watches-roles pair first pair.second.role refl w) next sent told
  other-roles pair first false not_blank (has_renewed stage away w next sent told) =
      has_renewed stage away (watches-roles pair first pair.second.role refl w) next sent told

  -- Marks
  not-receiving : (test : Bool) (role : Role) → receives role ≡ false → receives (if test then Gone else role) ≡ false
  not-receiving true role not = refl
  not-receiving false role not = not

  stop-leads : (processor : ℕ) (pair : Pair) → (pair.second.role ≡ Blank → ⊥)
      → FirstLeads site ledger number spec deeds pair
      → FirstLeads site ledger number spec deeds (stopped_pair processor pair)
  stop-leads processor pair not_blank (with_other role lead other dated) =
      with_other (not-receiving (pair.first.processor == processor) pair.first.role role) (lead-role _ lead)
      (other-roles pair _ (pair.second.processor == processor) not_blank other)
      (record { other = dated.other; checkpoints = dated.checkpoints; takens = dated.takens })

  pub stop-led : (processor : ℕ) (pair : Pair) → (pair.first.role ≡ Blank → ⊥) → (pair.second.role ≡ Blank → ⊥)
      → IsLed site ledger number spec deeds pair
      → IsLed site ledger number spec deeds (stopped_pair processor pair)
  stop-led processor pair first second (by_first leads) = by_first (stop-leads processor pair second leads)
  stop-led processor pair first second (by_second leads) = by_second (stop-leads processor (exchanged pair) first leads)

  -- a copy that holds nothing, between deeds that can be done anew and those that it did, is level or behind
  pub lead-from : (copy : Copy) (since before : List Deed) → copy.held ≡ [] → deeds ≡ since ++ before
      → AreRepeatable since → copy.position ≡ length before
      → HasDone site number spec before copy.core → (copy.sent ≡ true → process.point copy.core.state ≢ point.Await)
      → (stage : Stage) × (stage ≢ Applied) × IsLead site ledger number spec deeds copy stage
  lead-from copy since before held split all pos done unsent = elim (unsnoc since) [
    | inl none ↦
        (let same : deeds ≡ before = rw none at split in (
          Level,
          λ e. absurd (cc),
          is_level held none_held (pos ∙ ap length (sym same))
              (subst (λ g. HasDone site number spec g copy.core) (sym same) done) unsent,
        ))
    | inr some ↦
        (let parts = repeatable-last since before some.0 some.1 some.2 all in (
          Behind,
          λ e. absurd (cc),
          is_behind some.0 some.1 before held (split ∙ parts.0) parts.1 parts.2 pos done
              unsent,
        ))
  ]

  other-watches : {pair : Pair} {stage : Stage} → IsOther site number spec deeds pair stage
      → pair.second.role ≡ Watching → Watches site number spec deeds pair
  other-watches (is_lost gone) role = absurd (cc)
  other-watches (is_blank b) role = let blank = b.role in absurd (cc)
  other-watches (is_due w sent told next at body) role = w
  other-watches (is_even stage w next unsent told renewal) role = w
  other-watches (has_applied w next sent told) role = w
  other-watches (has_renewed stage away w next sent told) role = w

  -- the second copy takes over from the first one, which is gone
  taken-leads : (pair : Pair) → pair.first.role ≡ Gone → pair.second.role ≡ Watching
      → FirstLeads site ledger number spec deeds pair
      → FirstLeads site ledger number spec deeds (exchanged (after_takeover Second pair))
  taken-leads pair lost watching (with_other role lead other dated) =
      let w = other-watches other watching in
      let new = lead-from (taken_over pair.base pair.second) w.since w.before refl w.split w.repeatable w.base w.done
      (λ s. absurd (let u = w.unsent in cc)) in
      with_other refl new.2 (is_lost lost) (record {
        other = (let e = w.era in omega (arith, e));
        checkpoints = λ m among. (let e = w.era in let d = dated.checkpoints m among in omega (arith, e, d));
        takens = λ t among. (let e = w.era in let d = dated.takens t among in omega (arith, e, d));
      })

  pub leads-not : {pair : Pair} → FirstLeads site ledger number spec deeds pair → pair.first.role ≢ Watching
  leads-not (with_other role lead other dated) watching = cc

  -- Marks

  watches-renewals : (pair : Pair) (first second : Bool) → Watches site number spec deeds pair
      → Watches site number spec deeds (record pair
      { first = record pair.first { renewal = first }; second = record pair.second { renewal = second } })
  watches-renewals pair first second w = record {
    since = w.since;
    before = w.before;
    split = w.split;
    repeatable = w.repeatable;
    base = w.base;
    done = w.done;
    role = w.role;
    unsent = w.unsent;
    era = w.era;
    checkpoints = w.checkpoints;
    takens = w.takens;
  }

  no-more : (renewal test : Bool) → renewal ≡ false → (renewal && test) ≡ false
  no-more true test e = absurd (cc)
  no-more false test e = refl

  ended-leads : (stopped : List Bool) (node processor : ℕ) (pair : Pair) → slice_get stopped processor ≡ Some true
      → RolesOf stopped pair → FirstLeads site ledger number spec deeds pair
      → FirstLeads site ledger number spec deeds (renewals_ended node processor pair)
  ended-leads stopped node processor pair down roles (with_other role lead other dated) =
      with_other role (lead-same (record { core = refl; position = refl; held = refl; sent = λ s. s }) lead) (by other)
      (record { other = dated.other; checkpoints = dated.checkpoints; takens = dated.takens })
    where
      still : IsBlank site number spec pair → (pair.second.processor == processor) ≡ false
      still b = which (pair.second.processor == processor) refl
        where
          which : (t : Bool) → (pair.second.processor == processor) ≡ t → t ≡ false
          which false e = refl
          which true e = absurd (let gone = roles.second_gone (rw (eqb-true pair.second.processor processor e) down) in
              let blank = b.role in cc)

      and-false : (a : Bool) → (a && false) ≡ false
      and-false true = refl
      and-false false = refl

      by : {stage : Stage} → IsOther site number spec deeds pair stage
          → IsOther site number spec deeds (renewals_ended node processor pair) stage
      by (is_lost gone) = is_lost gone
      by (is_blank b) = is_blank (record {
        role = b.role;
        acting = b.acting;
        renewal = rw (b.renewal, still b, and-false (pair.first.processor == node)) refl;
        told = b.told;
        begun = b.begun;
        unsent = b.unsent;
        era = b.era;
        even = b.even;
        ahead = b.ahead;
        checkpoints = b.checkpoints;
        image = b.image;
        takens = b.takens;
      })
      by (is_due w sent told next at body) = is_due (watches-renewals pair _ _ w) sent told next at body
      by (is_even stage w next unsent told renewal) =
          is_even stage (watches-renewals pair _ _ w) next unsent told (no-more pair.first.renewal _ renewal)
      by (has_applied w next sent told) =
          has_applied (watches-renewals pair _ _ w) next sent (λ e. no-more pair.first.renewal _ (told e))
      by (has_renewed stage away w next sent told) =
          has_renewed stage away (watches-renewals pair _ _ w) next sent (λ e. no-more pair.first.renewal _ (told e))

  ended-led : (stopped : List Bool) (node processor : ℕ) (pair : Pair) → slice_get stopped processor ≡ Some true
      → RolesOf stopped pair → IsLed site ledger number spec deeds pair
      → IsLed site ledger number spec deeds (renewals_ended node processor pair)
  ended-led stopped node processor pair down roles (by_first leads) =
      by_first (ended-leads stopped node processor pair down roles leads)
  ended-led stopped node processor pair down roles (by_second leads) =
      by_second (ended-leads stopped node processor (exchanged pair) down (roles-exchanged pair roles) leads)

  pub mark-led : (stopped : List Bool) (node processor : ℕ) (pair : Pair) → slice_get stopped processor ≡ Some true
      → is_running stopped node ≡ true → RolesOf stopped pair
      → IsLed site ledger number spec deeds pair
      → IsLed site ledger number spec deeds (pair_at_down node processor pair)
  mark-led stopped node processor pair down running roles led =
      by (taker node processor pair) refl led
      (mark-roles stopped node processor down running pair (taker node processor pair) refl roles)
    where
      takes : (k : Which) → Takes node processor k pair → IsLed site ledger number spec deeds pair
          → IsLed site ledger number spec deeds (after_takeover k pair)
      takes First t (by_first leads) = absurd (leads-not leads t.watching)
      takes Second t (by_second leads) = absurd (leads-not leads t.watching)
      takes Second t (by_first leads) =
          by_second (taken-leads pair (roles.first_gone (rw t.lost down)) t.watching leads)
      takes First t (by_second leads) =
          by_first (taken-leads (exchanged pair) (roles.second_gone (rw t.lost down)) t.watching leads)

      by : (k : Option Which) → taker node processor pair ≡ k → IsLed site ledger number spec deeds pair
          → RolesOf stopped (pair_after_down k pair)
          → IsLed site ledger number spec deeds (renewals_ended node processor (pair_after_down k pair))
      by None e led now = ended-led stopped node processor pair down now led
      by (Some k) e led now = ended-led stopped node processor (pair_after_down (Some k) pair) down now
          (takes k (taker-is node processor pair k e) led)

  -- Reloads

  -- the first copy, which acts alone, renews, and the second one is blank
  renewed-leads : (core : Core) (led : Which) (pair : Pair) → HasDone site number spec [] core
      → pair.first.role ≡ Acting → pair.second.role ≡ Gone → FirstLeads site ledger number spec deeds pair
      → FirstLeads site ledger number spec deeds
      (record pair {
        first = copy_with_renewal pair.first;
        second = blank_copy pair.second.processor (pair.first.era + 1) core;
        led = led;
      })
  renewed-leads core led pair begins acts gone (with_other role lead other dated) =
      with_other role (lead-same (record { core = refl; position = refl; held = refl; sent = λ s. absurd (cc) }) lead)
      (is_blank (record {
        role = refl;
        acting = acts;
        renewal = refl;
        told = refl;
        begun = begins;
        unsent = refl;
        era = refl;
        even = λ s. refl;
        ahead = λ s. absurd (cc);
        checkpoints = λ m among era. (let d = dated.checkpoints m among in absurd (omega (arith, d, era)));
        image = λ s. absurd (cc);
        takens = λ t among era. (let d = dated.takens t among in absurd (omega (arith, d, era)));
      })) (record {
        other = omega arith;
        checkpoints = λ m among. (let d = dated.checkpoints m among in omega (arith, d));
        takens = λ t among. (let d = dated.takens t among in omega (arith, d));
      })

  gone-not : {pair : Pair} → FirstLeads site ledger number spec deeds pair → pair.second.role ≡ Acting → ⊥
  gone-not (with_other role lead other dated) acting = other-rests other acting

  -- a reload, where a copy in the processor is gone and the other copy acts
  pub reload-led : (processor : ℕ) (core : Core) (pair : Pair) → HasDone site number spec [] core
      → ((pair.first.processor == processor) ≡ true
      → (pair.first.role ≡ Gone) × (pair.second.role ≡ Acting) × ((pair.second.processor == processor) ≡ false))
      → ((pair.second.processor == processor) ≡ true
      → (pair.second.role ≡ Gone) × (pair.first.role ≡ Acting) × ((pair.first.processor == processor) ≡ false))
      → IsLed site ledger number spec deeds pair
      → IsLed site ledger number spec deeds (reloaded_pair processor core pair)
  reload-led processor core pair begins one two led =
      by (pair.first.processor == processor) (pair.second.processor == processor) one two led
    where
      by : (a b : Bool) → (a ≡ true → (pair.first.role ≡ Gone) × (pair.second.role ≡ Acting) × (b ≡ false))
          → (b ≡ true → (pair.second.role ≡ Gone) × (pair.first.role ≡ Acting) × (a ≡ false))
          → IsLed site ledger number spec deeds pair
          → IsLed site ledger number spec deeds (reloaded_by core pair a b)
      by false false one two led = led
      by true true one two led = absurd (let f = (one refl).2 in cc)
      by false true one two (by_first leads) =
          by_first (renewed-leads core First pair begins (two refl).1 (two refl).0 leads)
      by false true one two (by_second leads) = absurd (gone-not leads (two refl).1)
      by true false one two (by_second leads) =
          by_second (renewed-leads core Second (exchanged pair) begins (one refl).1 (one refl).0 leads)
      by true false one two (by_first leads) = absurd (gone-not leads (one refl).1)
