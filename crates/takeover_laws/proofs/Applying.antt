-- A process after a checkpoint was applied.
use Rattle.std.proofs.Common.{◌≡◌, ◌<◌, ◌≤◌, ℕ, ◌+◌, Bool, true, false, List, [], ◌∷◌, ◌++◌, length}
use Rattle.std.proofs.Common.{Some, slice_get, refl, ap, sym, ◌∙◌, subst, arith, append_assoc, length-append, ◌≢◌}
use Rattle.gd_words.specs.Members.{IsAmong}
use Rattle.tal_tree.specs.declared.act.Act.{Act}
use Rattle.tal_tree.specs.declared.act.Shown.{Shown}
use Rattle.tal_tree.specs.declared.site.Site.{Site}
use Rattle.tal_tree.specs.declared.site.ProcessSpec.{ProcessSpec}
use Rattle.tal_tree.specs.declared.act.Act.TheVariants.{Step}
use Rattle.process_semantics.specs.declared.point.Point.TheVariants as point
use Rattle.process_semantics.specs.Process as process
use Rattle.process_semantics.specs.declared.point.Point.{Point}
use Rattle.world_semantics.specs.checkpoint_image.specs.declared.message.ImageMessage.{ImageMessage}
use Rattle.world_semantics.specs.checkpoint_image.specs.declared.message.TakenMessage.{TakenMessage}
use Rattle.world_semantics.specs.declared.role.Role.TheVariants.{Watching}
use Rattle.world_semantics.specs.Core.{Core, Deed, Checkpointed, checkpoints, after_passing, carried_image, put_in}
use Rattle.world_semantics.specs.Core.{imaged_core}
use Rattle.world_semantics.specs.declared.which.Which.TheVariants.{Second}
use Rattle.world_semantics.specs.World.{Copy, Pair, receives}
use Rattle.world_semantics.specs.Kept.{own_acts}
use Rattle.world_semantics.specs.Passes.{after_applying}
use Rattle.world_semantics.specs.Passes.{kept_at_checkpoint, after_applying_behind}
use Rattle.world_semantics.specs.Passes.{kept_at, taken_of}
use Rattle.world_semantics.proofs.Lists.{some-same}
use Rattle.world_semantics.proofs.Counting.{own-one, own-step}
use Rattle.world_semantics.specs.Shares.{acts_at}
use Rattle.plain_histories.specs.process_histories.specs.Bounds.{AreBounded}
use Rattle.plain_histories.specs.process_histories.specs.Histories.{HasDone, one_more}
use Rattle.discipline_laws.specs.Disciplined.{IsDisciplined}
use Rattle.discipline_laws.proofs.Resuming.{bounded-since, renew-from}
use Rattle.plain_histories.specs.Agreeing.{AreRegular}
use Rattle.plain_histories.specs.Booking.{AreBooked, AreHeld, none_held}
use Rattle.plain_histories.specs.Ledgers.{Ledger}
use Rattle.plain_histories.proofs.Changed.{deeds-same}
use Rattle.plain_histories.proofs.Counted.{booked-count, IsShortLedger}
use Rattle.takeover_laws.specs.Invariant.{Level, is_level, is_applied, is_behind, Watches}
use Rattle.takeover_laws.specs.Invariant.{is_lost, is_due, is_even, has_applied, FirstLeads, with_other}
use Rattle.takeover_laws.specs.Invariant.{AreRepeatable, Behind, IsBlank}
use Rattle.takeover_laws.specs.Invariant.{IsDated, has_renewed, is_blank}
use Rattle.takeover_laws.proofs.Repeating.{uncheckpointed-join, short-join, repeatable-uncheckpointed}
use Rattle.takeover_laws.proofs.Repeating.{held-uncheckpointed, held-idle}
use Rattle.takeover_laws.proofs.Repeating.{held-length, held-short, repeatable-join}
use Rattle.takeover_laws.proofs.Settled.{IsSettled, settled-held}
use Rattle.takeover_laws.proofs.Checkpoints.{away-imaged, checkpoint-imaged}
use Rattle.takeover_laws.proofs.Checkpoints.{taken-most, taken-dated}
use Rattle.takeover_laws.proofs.Passed.{HasPassed, same-ledger, kept-at, kept-count, applied-at, behind-at}

module _ (site : Site) (regular : AreRegular site) (kept : List Act) (shown : List Shown) (ledger : Ledger) (number : ℕ)
    (spec : ProcessSpec) (disciplined : IsDisciplined site number spec)
    (there : slice_get site.processes number ≡ Some spec)
    (booked : AreBooked site kept shown ledger) (short : IsShortLedger ledger) where
  abbrev Passed : List Act → Pair → Type 0
  Passed after next = HasPassed site after shown ledger number spec next

  unchanged : (next : Pair) → FirstLeads site ledger number spec (ledger.deeds number) next → Passed kept next
  unchanged = same-ledger site regular kept shown ledger number spec there booked

  count : own_acts number kept ≡ length (ledger.deeds number)
  count = booked-count booked number

  away-step : (p : Point) → p ≢ point.AtCheckpoint → acts_at number p ≡ []
  away-step point.AtCheckpoint away = absurd (away refl)
  away-step point.Inner away = refl
  away-step point.Take away = refl
  away-step point.Ask away = refl
  away-step point.Await away = refl
  away-step point.Answer away = refl
  away-step point.Device away = refl
  away-step point.Ended away = refl

  held-count : (copy : Copy) (held : List Act) (more : List Deed) → copy.held ≡ held
      → AreHeld site ledger number held more
      → HasDone site number spec (more ++ ledger.deeds number) copy.core
      → own_acts number (copy.held ++ kept) ≡ length (more ++ ledger.deeds number)
  held-count copy held more is holds done =
      rw is (booked-count (settled-held site regular ledger number spec there booked holds done).booked number
      ∙ ap (length {A = Deed}) (deeds-same number more ledger))

  many-bounded : (pair : Pair) (held : List Act) (more : List Deed) → pair.first.held ≡ held
      → AreHeld site ledger number held more
      → length pair.first.held + length (ledger.deeds number) < 4294967296 → AreBounded (more ++ ledger.deeds number)
  many-bounded pair held more is holds few =
      record {
        count = (let held_as = held-length holds in let of_copy = ap (length {A = Act}) is in
            omega (arith, few, length-append more (ledger.deeds number), held_as, of_copy));
        short = short-join more (ledger.deeds number) (held-short short holds) (short.deeds number);
      }

  all-bounded : (pair : Pair) → length pair.first.held + length (ledger.deeds number) < 4294967296
      → AreBounded (ledger.deeds number)
  all-bounded pair few = record { count = omega (arith, few); short = short.deeds number }

  none-bounded : AreBounded []
  none-bounded = record { count = omega arith; short = tt }

  -- the second copy, which watched or was blank, after it applied
  now-watches : (pair : Pair) (message : ImageMessage) (applied : Core) (since before : List Deed) (base position : ℕ)
      (held : List Act) {deeds : List Deed}
      → deeds ≡ since ++ before → AreRepeatable since → base ≡ length before → HasDone site number spec before applied
      → pair.second.sent ≡ false → pair.second.era ≡ pair.first.era
      → message.number ≡ pair.second.number + 1 → message.number ≡ pair.first.number
      → ((m : ImageMessage) → IsAmong m pair.checkpoints → m.era ≡ pair.first.era → m.number ≤ pair.first.number)
      → ((t : TakenMessage) → IsAmong t pair.takens → t.era ≡ pair.first.era → t.number ≤ pair.second.number)
      → Watches site number spec deeds (record pair {
        first = record pair.first { position = position; held = held };
        second = record pair.second { role = Watching; core = applied; number = message.number };
        base = base;
        takens = taken_of message ∷ pair.takens;
      })
  now-watches pair message applied since before base position held split again is done unsent era next same all_sent
      takens = record {
        since = since;
        before = before;
        split = split;
        repeatable = again;
        base = is;
        done = done;
        role = refl;
        unsent = unsent;
        era = era;
        checkpoints = all_sent;
        takens = taken-most pair.takens refl (omega (arith, next)) takens;
      }

  now-dated : (pair : Pair) (message : ImageMessage) (applied : Core) (base position : ℕ) (held : List Act)
      → message.era ≡ pair.second.era → IsDated pair
      → IsDated (record pair {
        first = record pair.first { position = position; held = held };
        second = record pair.second { role = Watching; core = applied; number = message.number };
        base = base;
        takens = taken_of message ∷ pair.takens;
      })
  now-dated pair message applied base position held era dated = record {
    other = dated.other;
    checkpoints = dated.checkpoints;
    takens = taken-dated pair.takens (let o = dated.other in omega (arith, era, o)) dated.takens;
  }

  blank-sent : (pair : Pair) (message : ImageMessage) → IsBlank site number spec pair
      → IsAmong message pair.checkpoints → message.era ≡ pair.second.era
      → message.number ≡ pair.second.number + 1 → pair.first.sent ≡ true
  blank-sent pair message b among era next = by pair.first.sent refl
    where
      by : (s : Bool) → pair.first.sent ≡ s → s ≡ true
      by true e = refl
      by false e = let most = b.checkpoints message among (era ∙ b.era) in let even = b.even e in
          absurd (omega (arith, most, even, next))

  -- what a blank copy gets is all
  blank-gets : (pair : Pair) (message : ImageMessage) (applied : Core) (deeds : List Deed)
      → IsBlank site number spec pair → IsAmong message pair.checkpoints → message.era ≡ pair.second.era
      → message.number ≡ pair.second.number + 1 → put_in pair.second.core message.image ≡ Some applied
      → HasDone site number spec deeds pair.first.core → AreBounded deeds
      → process.point pair.first.core.state ≢ point.Await → applied ≡ imaged_core pair.first.core
  blank-gets pair message applied deeds b among era next put done bounded away =
      let was_sent = blank-sent pair message b among era next in
      let ahead = b.ahead was_sent in
      let image = b.image was_sent message among (era ∙ b.era) (omega (arith, ahead, next)) in
      some-same (sym put ∙ ap (put_in pair.second.core) image
      ∙ renew-from deeds [] (regular number spec there) done bounded none-bounded away b.begun)

  -- what is known where a checkpoint comes that is applied
  record IsGiven (pair : Pair) (message : ImageMessage) : Type 0 where
    pub role : receives pair.first.role ≡ false
    pub unsent : pair.second.sent ≡ false
    pub era : pair.second.era ≡ pair.first.era
    pub from : message.era ≡ pair.second.era
    pub next : message.number ≡ pair.second.number + 1
    pub same : message.number ≡ pair.first.number
    pub checkpoints : (m : ImageMessage) → IsAmong m pair.checkpoints → m.era ≡ pair.first.era
        → m.number ≤ pair.first.number
    pub takens : (t : TakenMessage) → IsAmong t pair.takens → t.era ≡ pair.first.era → t.number ≤ pair.second.number
    pub was_sent : pair.first.sent ≡ true
    pub told : pair.first.acknowledged ≡ true → pair.first.renewal ≡ false
    pub dated : IsDated pair

  given-blank : (pair : Pair) (message : ImageMessage) → receives pair.first.role ≡ false
      → IsBlank site number spec pair → IsAmong message pair.checkpoints → message.era ≡ pair.second.era
      → message.number ≡ pair.second.number + 1 → IsDated pair → IsGiven pair message
  given-blank pair message role b among from next dated =
      let was_sent = blank-sent pair message b among from next in
      record {
        role = role;
        unsent = b.unsent;
        era = b.era;
        from = from;
        next = next;
        same = (let ahead = b.ahead was_sent in omega (arith, ahead, next));
        checkpoints = b.checkpoints;
        takens = b.takens;
        was_sent = was_sent;
        told = λ e. absurd (let told = b.told in cc);
        dated = dated;
      }

  given-watches : (pair : Pair) (message : ImageMessage) (applied : Core) (since before : List Deed)
      (base position : ℕ) (held : List Act) {deeds : List Deed} → IsGiven pair message
      → deeds ≡ since ++ before → AreRepeatable since → base ≡ length before → HasDone site number spec before applied
      → Watches site number spec deeds (record pair {
        first = record pair.first { position = position; held = held };
        second = record pair.second { role = Watching; core = applied; number = message.number };
        base = base;
        takens = taken_of message ∷ pair.takens;
      })
  given-watches pair message applied since before base position held g split again is done =
      now-watches pair message applied since before base position held split again is done g.unsent g.era g.next g.same
      g.checkpoints g.takens

  -- at its checkpoint: the held acts and the act there are kept, and the copy stands before it
  level-applied : (pair : Pair) (message : ImageMessage) (applied : Core) (held : List Act) (more : List Deed)
      → IsGiven pair message → pair.first.held ≡ held
      → AreHeld site ledger number held more → HasDone site number spec (more ++ ledger.deeds number) pair.first.core
      → process.point pair.first.core.state ≡ point.AtCheckpoint
      → applied ≡ after_passing pair.first.core
      → Passed (kept_at number pair.first kept) (after_applying number Second message applied kept pair)
  level-applied pair message applied held more g is holds done at now =
      let settled =
      kept-at site regular kept shown ledger number spec there booked pair.first held more is holds done at in
      let before : own_acts number (pair.first.held ++ kept) ≡ length (more ++ ledger.deeds number) =
      held-count pair.first held more is holds done in
      rw at (record {
        deeds = Checkpointed ∷ more;
        settled = settled;
        idle = (λ call. call, held-idle holds);
        leads = with_other g.role (is_applied (more ++ ledger.deeds number) refl refl before done)
            (has_applied (given-watches pair message applied [] (Checkpointed ∷ more ++ ledger.deeds number)
            (own_acts number (kept_at_checkpoint number pair.first kept))
            (own_acts number (pair.first.held ++ kept)) [] g refl tt
            (kept-count site regular kept shown ledger number spec there booked pair.first more settled)
            (rw now (one_more done (checkpoints at)))) (sym g.same) g.was_sent g.told)
            (now-dated pair message applied _ _ _ g.from g.dated);
      })

  -- elsewhere: the held acts are kept, and the copy is level
  level-renewed : (pair : Pair) (message : ImageMessage) (applied : Core) (held : List Act) (more : List Deed)
      → IsGiven pair message → pair.first.held ≡ held
      → AreHeld site ledger number held more → HasDone site number spec (more ++ ledger.deeds number) pair.first.core
      → process.point pair.first.core.state ≢ point.AtCheckpoint
      → process.point pair.first.core.state ≢ point.Await
      → applied ≡ pair.first.core → Passed (kept_at number pair.first kept)
      (after_applying number Second message applied kept pair)
  level-renewed pair message applied held more g is holds done away off now =
      let settled : IsSettled site (pair.first.held ++ kept) shown ledger number more =
      rw is (settled-held site regular ledger number spec there booked holds done) in
      let count : own_acts number (pair.first.held ++ kept) ≡ length (more ++ ledger.deeds number) =
      held-count pair.first held more is holds done in
      rw (away-step (process.point pair.first.core.state) away) (record {
        deeds = more;
        settled = settled;
        idle = held-idle holds;
        leads = with_other g.role (is_level {more = []} refl none_held count done (λ _. off))
            (has_renewed {stage = Level} (λ e. absurd (cc)) away
            (given-watches pair message applied [] (more ++ ledger.deeds number)
            (own_acts number (pair.first.held ++ kept))
            (own_acts number (pair.first.held ++ kept)) [] g refl tt count (rw now done)) (sym g.same) g.was_sent
            g.told)
            (now-dated pair message applied _ _ _ g.from g.dated);
      })

  pub applies : (pair : Pair) (message : ImageMessage) (applied : Core)
      → length pair.first.held + length (ledger.deeds number) < 4294967296 → receives pair.second.role ≡ true
      → IsAmong message pair.checkpoints → message.era ≡ pair.second.era → message.number ≡ pair.second.number + 1
      → put_in pair.second.core message.image ≡ Some applied
      → own_acts number kept ≤ pair.first.position
      → FirstLeads site ledger number spec (ledger.deeds number) pair
      → Passed (kept_at number pair.first kept) (after_applying number Second message applied kept pair)
  applies pair message applied few receiving sent era next put most (with_other role lead (is_lost gone) dated) =
      absurd (cc)
  applies pair message applied few receiving sent era next put most
      (with_other role lead (is_even stage w even unsent told renewal) dated) =
      let last = w.checkpoints message sent (era ∙ w.era) in absurd (omega (arith, last, next, even))
  applies pair message applied few receiving sent era next put most
      (with_other role lead (has_applied w even was_sent told) dated) =
      let last = w.checkpoints message sent (era ∙ w.era) in absurd (omega (arith, last, next, even))
  applies pair message applied few receiving sent era next put most
      (with_other role lead (has_renewed stage away w even was_sent told) dated) =
      let last = w.checkpoints message sent (era ∙ w.era) in absurd (omega (arith, last, next, even))
  applies pair message applied few receiving sent era next put most
      (with_other role (is_level {held = held} {more = more} is holds pos done is_sent)
      (is_due w was_sent told ahead at body) dated) =
      let image : message.image ≡ carried_image pair.first.core =
      body message sent (era ∙ w.era) (omega (arith, ahead, next)) in
      let whole : (more ++ w.since) ++ w.before ≡ more ++ ledger.deeds number =
      append_assoc more w.since w.before ∙ ap (λ g. more ++ g) (sym w.split) in
      let bounded : AreBounded ((more ++ w.since) ++ w.before) =
      subst AreBounded (sym whole) (many-bounded pair held more is holds few) in
      let restored : put_in pair.second.core (carried_image pair.first.core) ≡ Some (after_passing pair.first.core) =
      disciplined.resume (more ++ w.since) w.before pair.first.core pair.second.core
      (subst (λ g. HasDone site number spec g pair.first.core) (sym whole) done)
      (uncheckpointed-join more w.since (held-uncheckpointed holds) (repeatable-uncheckpointed w.since w.repeatable))
      bounded at w.done in
      level-applied pair message applied held more (record {
        role = role;
        unsent = w.unsent;
        era = w.era;
        from = era;
        next = next;
        same = omega (arith, ahead, next);
        checkpoints = w.checkpoints;
        takens = w.takens;
        was_sent = was_sent;
        told = λ e. absurd (cc);
        dated = dated;
      }) is holds done at (some-same (sym put ∙ ap (put_in pair.second.core) image ∙ restored))
  applies pair message applied few receiving sent era next put most
      (with_other role (is_level {held = held} {more = more} is holds pos done is_sent) (is_blank b) dated) =
      let g = given-blank pair message role b sent era next dated in
      let off = is_sent g.was_sent in
      let got = blank-gets pair message applied (more ++ ledger.deeds number) b sent era next put done
      (many-bounded pair held more is holds few) off in
      which (process.point pair.first.core.state) refl g off got
    where
      which : (p : Point) → process.point pair.first.core.state ≡ p → IsGiven pair message
          → process.point pair.first.core.state ≢ point.Await → applied ≡ imaged_core pair.first.core
          → Passed (kept_at number pair.first kept) (after_applying number Second message applied kept pair)
      which point.AtCheckpoint at g off got =
          level-applied pair message applied held more g is holds done at (got ∙ checkpoint-imaged pair.first.core at)
      which point.Inner at g off got = level-renewed pair message applied held more g is holds done
          (λ e. (let b = sym at ∙ e in cc)) off (got ∙ away-imaged pair.first.core point.Inner at (λ e. cc))
      which point.Take at g off got = level-renewed pair message applied held more g is holds done
          (λ e. (let b = sym at ∙ e in cc)) off (got ∙ away-imaged pair.first.core point.Take at (λ e. cc))
      which point.Ask at g off got = level-renewed pair message applied held more g is holds done
          (λ e. (let b = sym at ∙ e in cc)) off (got ∙ away-imaged pair.first.core point.Ask at (λ e. cc))
      which point.Await at g off got = absurd (off at)
      which point.Answer at g off got = level-renewed pair message applied held more g is holds done
          (λ e. (let b = sym at ∙ e in cc)) off (got ∙ away-imaged pair.first.core point.Answer at (λ e. cc))
      which point.Device at g off got = level-renewed pair message applied held more g is holds done
          (λ e. (let b = sym at ∙ e in cc)) off (got ∙ away-imaged pair.first.core point.Device at (λ e. cc))
      which point.Ended at g off got = level-renewed pair message applied held more g is holds done
          (λ e. (let b = sym at ∙ e in cc)) off (got ∙ away-imaged pair.first.core point.Ended at (λ e. cc))
  applies pair message applied few receiving sent era next put most
      (with_other role (is_applied before is split pos done) (is_blank b) dated) =
      let more = ap (length {A = Deed}) split in absurd (omega (arith, count, pos, most, more))
  applies pair message applied few receiving sent era next put most
      (with_other role (is_behind since then before is split one all pos done is_sent) (is_blank b) dated) =
      let more = ap (length {A = Deed}) split in
      absurd (omega (arith, count, pos, most, more, length-append since (then ∷ before)))

  pub applies-behind : (pair : Pair) (message : ImageMessage) (applied : Core)
      → length pair.first.held + length (ledger.deeds number) < 4294967296 → receives pair.second.role ≡ true
      → IsAmong message pair.checkpoints → message.era ≡ pair.second.era → message.number ≡ pair.second.number + 1
      → put_in pair.second.core message.image ≡ Some applied
      → pair.first.position < own_acts number kept
      → FirstLeads site ledger number spec (ledger.deeds number) pair
      → Passed kept (after_applying_behind number Second message applied kept pair)
  applies-behind pair message applied few receiving sent era next put less
      (with_other role lead (is_lost gone) dated) = absurd (cc)
  applies-behind pair message applied few receiving sent era next put less
      (with_other role lead (is_even stage w even unsent told renewal) dated) =
      let last = w.checkpoints message sent (era ∙ w.era) in absurd (omega (arith, last, next, even))
  applies-behind pair message applied few receiving sent era next put less
      (with_other role lead (has_applied w even was_sent told) dated) =
      let last = w.checkpoints message sent (era ∙ w.era) in absurd (omega (arith, last, next, even))
  applies-behind pair message applied few receiving sent era next put less
      (with_other role lead (has_renewed stage away w even was_sent told) dated) =
      let last = w.checkpoints message sent (era ∙ w.era) in absurd (omega (arith, last, next, even))
  applies-behind pair message applied few receiving sent era next put less
      (with_other role (is_level is holds pos done is_sent) other dated) = absurd (omega (arith, count, pos, less))
  applies-behind pair message applied few receiving sent era next put less
      (with_other role (is_applied before is split pos done) (is_blank b) dated) =
      let g = given-blank pair message role b sent era next dated in
      let at = applied-at site regular kept shown ledger number spec there booked split done in
      let short_before : AreBounded before =
      bounded-since (Checkpointed ∷ []) before (subst AreBounded split (all-bounded pair few)) in
      let got = blank-gets pair message applied before b sent era next put done short_before
      (λ e. (let both = sym at ∙ e in cc)) in
      unchanged _ (rw at (with_other role (is_applied before is split pos done)
      (has_applied (given-watches pair message applied [] (Checkpointed ∷ before)
      (pair.first.position + own_acts number (Step number ∷ [])) pair.first.position pair.first.held g split tt
      (let one = own-one number (Step number) [] (own-step number) in omega (arith, pos, one))
      (rw (got ∙ checkpoint-imaged pair.first.core at) (one_more done (checkpoints at)))) (sym g.same) g.was_sent
      g.told)
      (now-dated pair message applied _ _ _ g.from g.dated)))
  applies-behind pair message applied few receiving sent era next put less
      (with_other role (is_behind since then before is split one all pos done is_sent) (is_blank b) dated) =
      let g = given-blank pair message role b sent era next dated in
      let off = is_sent g.was_sent in
      let away : process.point pair.first.core.state ≢ point.AtCheckpoint =
      behind-at site regular kept shown ledger number spec there booked since then before split one done in
      let short_before : AreBounded before = bounded-since (since ++ then ∷ []) before
      (subst AreBounded (split ∙ sym (append_assoc since (then ∷ []) before)) (all-bounded pair few)) in
      let got = blank-gets pair message applied before b sent era next put done short_before off in
      unchanged _ (rw (away-step (process.point pair.first.core.state) away)
      (with_other role (is_behind since then before is split one all pos done is_sent)
      (has_renewed {stage = Behind} (λ e. absurd (cc)) away
      (given-watches pair message applied (since ++ then ∷ []) before (pair.first.position + 0) pair.first.position
      pair.first.held g
      (split ∙ sym (append_assoc since (then ∷ []) before)) (repeatable-join since (then ∷ []) all (one, tt))
      (omega (arith, pos))
      (rw (got ∙ away-imaged pair.first.core (process.point pair.first.core.state) refl away) done)) (sym g.same)
      g.was_sent g.told)
      (now-dated pair message applied _ _ _ g.from g.dated)))
