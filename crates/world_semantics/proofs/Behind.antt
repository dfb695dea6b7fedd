-- A copy that watches or is blank is of the other one's era and at most one checkpoint behind it; and no message is of
-- a later era than a copy that acts.
use Rattle.std.proofs.Common.{◌≡◌, ◌≤◌, inl, inr, ℕ, ◌+◌, ◌==◌, ◌||◌, Bool, true, false, if◌then◌else◌, List}
use Rattle.std.proofs.Common.{◌∷◌, Option, Some, None, slice_get, refl, subst, ap, ◌∙◌, arith}
use Rattle.checkpoint_image.specs.gd_words.specs.Members.{IsAmong}
use Rattle.checkpoint_image.specs.gd_words.specs.declared.message.Request.{Request}
use Rattle.checkpoint_image.specs.tal_tree.specs.declared.act.Act.{Act}
use Rattle.checkpoint_image.specs.tal_tree.specs.declared.site.Site.{Site}
use Rattle.checkpoint_image.specs.tal_tree.specs.declared.site.ProcessSpec.{ProcessSpec}
use Rattle.disc_device.specs.Sectors.{Stored}
use Rattle.checkpoint_image.specs.declared.message.ImageMessage.{ImageMessage}
use Rattle.checkpoint_image.specs.declared.message.TakenMessage.{TakenMessage}
use Rattle.world_semantics.specs.declared.role.Role.{Role}
use Rattle.world_semantics.specs.declared.role.Role.TheVariants.{Watching, Gone, Acting}
use Rattle.world_semantics.specs.Core.{Core}
use Rattle.world_semantics.specs.World.{Copy, Pair, Down, World, has_marked, copy_of, with_copy, may_pass, pair_at_boot}
use Rattle.world_semantics.specs.World.{receives}
use Rattle.world_semantics.specs.Kept.{Enters, holds_on, repeats, begins, keeps}
use Rattle.world_semantics.specs.Messages.{Sending, Cause, Reloading}
use Rattle.world_semantics.specs.Passes.{Passes, by_send, by_pass_again, by_pass, by_apply, by_acknowledge}
use Rattle.world_semantics.specs.Passes.{by_apply_behind, by_end}
use Rattle.world_semantics.specs.Rules.{Change, by_own, by_checkpoint, by_request, by_early_request, by_enter, by_print}
use Rattle.world_semantics.specs.Rules.{by_stop, by_mark, stopped_pair, taker, pair_after_down, pair_at_down}
use Rattle.world_semantics.specs.Rules.{after_takeover, new_core, blank_copy, by_reload, reloaded_by, reloaded_pair}
use Rattle.world_semantics.specs.Rules.{copy_with_renewal}
use Rattle.world_semantics.proofs.Lists.{set-all, map-all}
use Rattle.world_semantics.proofs.Growing.{AreStopped}
use Rattle.world_semantics.proofs.Roles.{RolesOf, AllRoles, taker-is, reload-all}
use Rattle.world_semantics.proofs.Steady.{marked-down}
use Rattle.world_semantics.specs.declared.which.Which.{Which}
use Rattle.world_semantics.specs.declared.which.Which.TheVariants.{First, Second}

-- a copy of an era, a number and what it sent and was told, and one that receives: how far the second is behind, the
-- checkpoints that were sent, and those that were taken
pub record Behind (era number : ℕ) (sent told : Bool) (other_era taken : ℕ) (checkpoints : List ImageMessage)
    (takens : List TakenMessage) : Type 0 where
  pub same_era : other_era ≡ era
  pub not_past : taken ≤ number
  pub one_behind : number ≤ taken + 1
  pub free : sent ≡ false → taken ≡ number
  pub acknowledged : told ≡ true → taken ≡ number
  pub checkpoint : (message : ImageMessage) → IsAmong message checkpoints → message.era ≡ era → message.number ≤ number
  pub was_taken : (message : TakenMessage) → IsAmong message takens → message.era ≡ era → message.number ≤ taken

-- no message is of a later era
pub record Dated (era other : ℕ) (checkpoints : List ImageMessage) (takens : List TakenMessage) : Type 0 where
  pub other_era : other ≤ era
  pub checkpoint : (message : ImageMessage) → IsAmong message checkpoints → message.era ≤ era
  pub was_taken : (message : TakenMessage) → IsAmong message takens → message.era ≤ era

-- of a process, as seen from its first copy: the second one is behind where it receives, all is dated where the first
-- one acts or the second one receives, and not both receive
pub record Seen (lead : Role) (era number : ℕ) (sent told : Bool) (other : Role) (other_era taken : ℕ)
    (checkpoints : List ImageMessage) (takens : List TakenMessage) : Type 0 where
  pub behind : receives other ≡ true → Behind era number sent told other_era taken checkpoints takens
  pub acting : lead ≡ Acting → Dated era other_era checkpoints takens
  pub receiving : receives other ≡ true → Dated era other_era checkpoints takens
  pub one : receives lead ≡ true → receives other ≡ true → ⊥

abbrev pub SeenFromFirst : Pair → Type 0
SeenFromFirst pair =
    Seen pair.first.role pair.first.era pair.first.number pair.first.sent pair.first.acknowledged pair.second.role
    pair.second.era pair.second.number pair.checkpoints pair.takens

abbrev pub SeenFromSecond : Pair → Type 0
SeenFromSecond pair =
    Seen pair.second.role pair.second.era pair.second.number pair.second.sent pair.second.acknowledged pair.first.role
    pair.first.era pair.first.number pair.checkpoints pair.takens

told-to-pass : (downs : List Down) (stopped : List Bool) (pair : Pair)
    → ((mark : Down) → IsAmong mark downs → slice_get stopped mark.down ≡ Some true)
    → RolesOf stopped pair → receives pair.second.role ≡ true → may_pass downs First pair ≡ true
    → pair.first.acknowledged ≡ true
told-to-pass downs stopped pair are roles watches may = by-test pair.first.acknowledged refl may
  where
    by-test : (told : Bool) → pair.first.acknowledged ≡ told
        → (told || has_marked downs pair.first.processor pair.second.processor) ≡ true → told ≡ true
    by-test true t m = refl
    by-test false t m = let gone = roles.second_gone
        (marked-down stopped downs pair.first.processor pair.second.processor are m) in absurd (cc)

sent-one-more : {era number : ℕ} {told : Bool} {other taken : ℕ} {checkpoints : List ImageMessage}
    {takens : List TakenMessage} (new : ImageMessage)
    → new.number ≡ number + 1 → Behind era number false told other taken checkpoints takens
    → Behind era (number + 1) true false other taken (new ∷ checkpoints) takens
sent-one-more {era = era} {number = number} {taken = taken} {checkpoints = checkpoints} new is b =
    let same = b.free refl in
    record {
      same_era = b.same_era;
      not_past = omega (arith, same);
      one_behind = omega (arith, same);
      free = λ s. absurd (cc);
      acknowledged = λ t. absurd (cc);
      checkpoint = within;
      was_taken = b.was_taken;
    }
  where
    within : (message : ImageMessage) → IsAmong message (new ∷ checkpoints) → message.era ≡ era
        → message.number ≤ number + 1
    within message (inl same) e = let n = ap (λ (m : ImageMessage). m.number) same in omega (arith, n, is)
    within message (inr i) e = let l = b.checkpoint message i e in omega (arith, l)

passed : {era number : ℕ} {sent told : Bool} {other taken : ℕ} {checkpoints : List ImageMessage}
    {takens : List TakenMessage} → told ≡ true
    → Behind era number sent told other taken checkpoints takens
    → Behind era number false false other taken checkpoints takens
passed t b = record {
  same_era = b.same_era;
  not_past = b.not_past;
  one_behind = b.one_behind;
  free = λ _. b.acknowledged t;
  acknowledged = λ f. absurd (cc);
  checkpoint = b.checkpoint;
  was_taken = b.was_taken;
}

applied-one : {era number : ℕ} {sent told : Bool} {other taken : ℕ} {checkpoints : List ImageMessage}
    {takens : List TakenMessage} (message : ImageMessage)
    (new : TakenMessage) → new.number ≡ message.number → IsAmong message checkpoints → message.era ≡ other
    → message.number ≡ taken + 1
    → Behind era number sent told other taken checkpoints takens
    → Behind era number sent told other message.number checkpoints (new ∷ takens)
applied-one {era = era} {number = number} {sent = sent} {told = told} {taken = taken} {takens = takens} message new is
    i e n b =
    let most = b.checkpoint message i (e ∙ b.same_era) in
    record {
      same_era = b.same_era;
      not_past = most;
      one_behind = omega (arith, n, b.one_behind);
      free = λ s. let same = b.free s in absurd (omega (arith, same, n, most));
      acknowledged = λ t. let same = b.acknowledged t in absurd (omega (arith, same, n, most));
      checkpoint = b.checkpoint;
      was_taken = within;
    }
  where
    within : (one : TakenMessage) → IsAmong one (new ∷ takens) → one.era ≡ era → one.number ≤ message.number
    within one (inl same) f = let m = ap (λ (t : TakenMessage). t.number) same in omega (arith, m, is)
    within one (inr j) f = let l = b.was_taken one j f in omega (arith, l, n)

told-one : {era number : ℕ} {sent told : Bool} {other taken : ℕ} {checkpoints : List ImageMessage}
    {takens : List TakenMessage} (message : TakenMessage)
    → IsAmong message takens → message.era ≡ era → message.number ≡ number
    → Behind era number sent told other taken checkpoints takens
    → Behind era number sent true other taken checkpoints takens
told-one message i e n b =
    let most = b.was_taken message i e in
    record {
      same_era = b.same_era;
      not_past = b.not_past;
      one_behind = b.one_behind;
      free = b.free;
      acknowledged = λ _. omega (arith, most, n, b.not_past);
      checkpoint = b.checkpoint;
      was_taken = b.was_taken;
    }

dated-sent : {era other : ℕ} {checkpoints : List ImageMessage} {takens : List TakenMessage} (new : ImageMessage)
    → new.era ≤ era → Dated era other checkpoints takens
    → Dated era other (new ∷ checkpoints) takens
dated-sent {era = era} {checkpoints = checkpoints} new now d =
    record { other_era = d.other_era; checkpoint = within; was_taken = d.was_taken }
  where
    within : (m : ImageMessage) → IsAmong m (new ∷ checkpoints) → m.era ≤ era
    within m (inl same) = rw same now
    within m (inr i) = d.checkpoint m i

dated-taken : {era other : ℕ} {checkpoints : List ImageMessage} {takens : List TakenMessage} (new : TakenMessage)
    → new.era ≤ era → Dated era other checkpoints takens
    → Dated era other checkpoints (new ∷ takens)
dated-taken {era = era} {takens = takens} new now d =
    record { other_era = d.other_era; checkpoint = d.checkpoint; was_taken = within }
  where
    within : (t : TakenMessage) → IsAmong t (new ∷ takens) → t.era ≤ era
    within t (inl same) = rw same now
    within t (inr i) = d.was_taken t i

acting-not : {role : Role} → role ≡ Acting → receives role ≡ true → ⊥
acting-not a r = cc

pub passes-behind : {number : ℕ} {downs : List Down} {kept after : List Act} {pair next : Pair} {cause : Cause}
    {sendings : List Sending} (stopped : List Bool)
    → ((mark : Down) → IsAmong mark downs → slice_get stopped mark.down ≡ Some true) → RolesOf stopped pair
    → Passes number downs kept pair cause sendings next after → SeenFromFirst pair → SeenFromFirst next
passes-behind {pair = pair} stopped are roles (by_send First r p s m) ok = record {
  behind = λ w. sent-one-more _ refl
      (subst (λ sent. Behind pair.first.era pair.first.number sent pair.first.acknowledged pair.second.era
      pair.second.number pair.checkpoints pair.takens) s (ok.behind w));
  acting = λ a. dated-sent _ (omega arith) (ok.acting a);
  receiving = λ w. dated-sent _ (omega arith) (ok.receiving w);
  one = ok.one;
}
passes-behind {pair = pair} stopped are roles (by_send Second r p s m) ok = record {
  behind = λ w. absurd (acting-not r w);
  acting = λ a. absurd (roles.single a r);
  receiving = λ w. absurd (acting-not r w);
  one = ok.one;
}
passes-behind {downs = downs} {pair = pair} stopped are roles (by_pass_again First r p m l) ok = record {
  behind = λ w. passed (told-to-pass downs stopped pair are roles w m) (ok.behind w);
  acting = ok.acting;
  receiving = ok.receiving;
  one = ok.one;
}
passes-behind stopped are roles (by_pass_again Second r p m l) ok =
    record { behind = λ w. absurd (acting-not r w); acting = ok.acting; receiving = ok.receiving; one = ok.one }
passes-behind {downs = downs} {pair = pair} stopped are roles (by_pass First r p m l) ok = record {
  behind = λ w. passed (told-to-pass downs stopped pair are roles w m) (ok.behind w);
  acting = ok.acting;
  receiving = ok.receiving;
  one = ok.one;
}
passes-behind stopped are roles (by_pass Second r p m l) ok =
    record { behind = λ w. absurd (acting-not r w); acting = ok.acting; receiving = ok.receiving; one = ok.one }
passes-behind {downs = downs} {pair = pair} stopped are roles (by_end First r s p m) ok = record {
  behind = λ w. passed (told-to-pass downs stopped pair are roles w m) (ok.behind w);
  acting = ok.acting;
  receiving = ok.receiving;
  one = ok.one;
}
passes-behind stopped are roles (by_end Second r s p m) ok =
    record { behind = λ w. absurd (acting-not r w); acting = ok.acting; receiving = ok.receiving; one = ok.one }
passes-behind {pair = pair} stopped are roles (by_apply_behind First message applied r i e n a l) ok = record {
  behind = λ w. absurd (ok.one r w);
  acting = λ x. absurd (cc);
  receiving = λ w. absurd (ok.one r w);
  one = λ x w. ok.one r w;
}
passes-behind {pair = pair} stopped are roles (by_apply First message applied r i e n a l) ok = record {
  behind = λ w. absurd (ok.one r w);
  acting = λ x. absurd (cc);
  receiving = λ w. absurd (ok.one r w);
  one = λ x w. ok.one r w;
}
passes-behind {pair = pair} stopped are roles (by_apply_behind Second message applied r i e n a l) ok =
    let d = ok.receiving r in
    let era : message.era ≤ pair.first.era = (let o = d.other_era in omega (arith, e, o)) in
    record {
      behind = λ w. applied-one message _ refl i e n (ok.behind r);
      acting = λ x. dated-taken _ era d;
      receiving = λ w. dated-taken _ era d;
      one = λ x w. ok.one x r;
    }
passes-behind {pair = pair} stopped are roles (by_apply Second message applied r i e n a l) ok =
    let d = ok.receiving r in
    let era : message.era ≤ pair.first.era = (let o = d.other_era in omega (arith, e, o)) in
    record {
      behind = λ w. applied-one message _ refl i e n (ok.behind r);
      acting = λ x. dated-taken _ era d;
      receiving = λ w. dated-taken _ era d;
      one = λ x w. ok.one x r;
    }
passes-behind stopped are roles (by_acknowledge First taken r s i e n) ok =
    record {
      behind = λ w. told-one taken i e n (ok.behind w);
      acting = ok.acting;
      receiving = ok.receiving;
      one = ok.one;
    }
passes-behind stopped are roles (by_acknowledge Second taken r s i e n) ok =
    record { behind = λ w. absurd (acting-not r w); acting = ok.acting; receiving = ok.receiving; one = ok.one }

-- A process, seen from both copies

abbrev pub turned : Pair → Pair
turned pair = record pair { first = pair.second; second = pair.first }

passes-turned : {number : ℕ} {marked : List Down} {kept after : List Act} {pair next : Pair} {cause : Cause}
    {sendings : List Sending}
    → Passes number marked kept pair cause sendings next after
    → Passes number marked kept (turned pair) cause sendings (turned next) after
passes-turned (by_send First role at sent unmarked) = by_send Second role at sent unmarked
passes-turned (by_send Second role at sent unmarked) = by_send First role at sent unmarked
passes-turned (by_pass_again First role at may less) = by_pass_again Second role at may less
passes-turned (by_pass_again Second role at may less) = by_pass_again First role at may less
passes-turned (by_pass First role at may most) = by_pass Second role at may most
passes-turned (by_pass Second role at may most) = by_pass First role at may most
passes-turned (by_end First role sent away may) = by_end Second role sent away may
passes-turned (by_end Second role sent away may) = by_end First role sent away may
passes-turned (by_apply First message applied role sent era is put at) =
    by_apply Second message applied role sent era is put at
passes-turned (by_apply Second message applied role sent era is put at) =
    by_apply First message applied role sent era is put at
passes-turned (by_apply_behind First message applied role sent era is put at) =
    by_apply_behind Second message applied role sent era is put at
passes-turned (by_apply_behind Second message applied role sent era is put at) =
    by_apply_behind First message applied role sent era is put at
passes-turned (by_acknowledge First taken role sent among era is) = by_acknowledge Second taken role sent among era is
passes-turned (by_acknowledge Second taken role sent among era is) = by_acknowledge First taken role sent among era is

roles-turned : {stopped : List Bool} (pair : Pair) → RolesOf stopped pair → RolesOf stopped (turned pair)
roles-turned pair r = record {
  first_gone = r.second_gone;
  first_lost = r.second_lost;
  second_gone = r.first_gone;
  second_lost = r.first_lost;
  single = λ a b. r.single b a;
}

abbrev pub BothSeen : Pair → Type 0
BothSeen pair = SeenFromFirst pair × SeenFromSecond pair

own-seen : (k : Which) (pair : Pair) (core : Core) (waiting : List Request) (sectors : List Stored) {number : ℕ}
    {act : Act} {kept after : List Act}
    {entered : Copy} → Enters number act kept (copy_of k pair) entered after → BothSeen pair
    → BothSeen (with_copy k (record entered { core = core; waiting = waiting }) (record pair { sectors = sectors }))
own-seen First pair core waiting sectors (holds_on e) ok = ok
own-seen First pair core waiting sectors (repeats e l) ok = ok
own-seen First pair core waiting sectors (begins e l t) ok = ok
own-seen First pair core waiting sectors (keeps e l t) ok = ok
own-seen Second pair core waiting sectors (holds_on e) ok = ok
own-seen Second pair core waiting sectors (repeats e l) ok = ok
own-seen Second pair core waiting sectors (begins e l t) ok = ok
own-seen Second pair core waiting sectors (keeps e l t) ok = ok

waiting-seen : (k : Which) (pair : Pair) (waiting : List Request) → BothSeen pair
    → BothSeen (with_copy k (record (copy_of k pair) { waiting = waiting }) pair)
waiting-seen First pair waiting ok = ok
waiting-seen Second pair waiting ok = ok

still-receives : (gone : Bool) (role : Role) → receives (if gone then Gone else role) ≡ true → receives role ≡ true
still-receives true role r = absurd (cc)
still-receives false role r = r

still-acts : (gone : Bool) (role : Role) → (if gone then Gone else role) ≡ Acting → role ≡ Acting
still-acts true role r = absurd (cc)
still-acts false role r = r

stop-seen : (one two : Bool) {lead other : Role} {era number other_era taken : ℕ} {sent told : Bool}
    {checkpoints : List ImageMessage} {takens : List TakenMessage}
    → Seen lead era number sent told other other_era taken checkpoints takens
    → Seen (if one then Gone else lead) era number sent told (if two then Gone else other) other_era taken checkpoints
    takens
stop-seen one two {lead = lead} {other = other} ok = record {
  behind = λ w. ok.behind (still-receives two other w);
  acting = λ a. ok.acting (still-acts one lead a);
  receiving = λ w. ok.receiving (still-receives two other w);
  one = λ r w. ok.one (still-receives one lead r) (still-receives two other w);
}

-- a takeover by the first copy, the second one being gone
taken-seen : (pair : Pair) → pair.first.role ≡ Watching → pair.second.role ≡ Gone → BothSeen pair
    → BothSeen (after_takeover First pair)
taken-seen pair w g (ok, back) =
    let d = back.receiving (ap receives w) in
    let b = back.behind (ap receives w) in (
      record {
        behind = λ r. absurd (cc);
        acting = λ a. record {
          other_era = (let e = b.same_era in omega (arith, e));
          checkpoint = λ m i. (let e = b.same_era in let l = d.checkpoint m i in omega (arith, e, l));
          was_taken = λ t i. (let e = b.same_era in let l = d.was_taken t i in omega (arith, e, l));
        };
        receiving = λ r. absurd (cc);
        one = λ x r. absurd (cc);
      },
      record {
        behind = λ r. absurd (cc);
        acting = λ a. absurd (cc);
        receiving = λ r. absurd (cc);
        one = λ x r. absurd (cc);
      },
    )

mark-seen : (stopped : List Bool) (node processor : ℕ) → slice_get stopped processor ≡ Some true
    → (pair : Pair) (k : Option Which) → taker node processor pair ≡ k → RolesOf stopped pair
    → BothSeen pair → BothSeen (pair_after_down k pair)
mark-seen stopped node processor s pair None e roles ok = ok
mark-seen stopped node processor s pair (Some First) e roles ok =
    let t = taker-is node processor pair First e in
    taken-seen pair t.watching (roles.second_gone (ap (slice_get stopped) t.lost ∙ s)) ok
mark-seen stopped node processor s pair (Some Second) e roles ok =
    let t = taker-is node processor pair Second e in
    let both = taken-seen (turned pair) t.watching (roles.first_gone (ap (slice_get stopped) t.lost ∙ s))
    (ok.1, ok.0) in (both.1, both.0)

-- a reload of the second copy's processor, while the first one acts
renewed-seen : (core : Core) (pair : Pair) → pair.first.role ≡ Acting → BothSeen pair
    → BothSeen (record pair {
      first = copy_with_renewal pair.first;
      second = blank_copy pair.second.processor (pair.first.era + 1) core;
    })
renewed-seen core pair acts (ok, back) =
    let d = ok.acting acts in
    let dated : Dated (pair.first.era + 1) (pair.first.era + 1) pair.checkpoints pair.takens = record {
      other_era = omega arith;
      checkpoint = λ m i. (let l = d.checkpoint m i in omega (arith, l));
      was_taken = λ t i. (let l = d.was_taken t i in omega (arith, l));
    } in (
      record {
        behind = λ w. record {
          same_era = refl;
          not_past = omega arith;
          one_behind = omega arith;
          free = λ s. refl;
          acknowledged = λ t. refl;
          checkpoint = λ m i e. (let l = d.checkpoint m i in absurd (omega (arith, l, e)));
          was_taken = λ t i e. (let l = d.was_taken t i in absurd (omega (arith, l, e)));
        };
        acting = λ a. dated;
        receiving = λ w. dated;
        one = λ r w. absurd (acting-not acts r);
      },
      record {
        behind = λ w. absurd (acting-not acts w);
        acting = λ a. absurd (cc);
        receiving = λ w. absurd (acting-not acts w);
        one = λ r w. absurd (acting-not acts w);
      },
    )

pub reload-seen : (processor : ℕ) (core : Core) (pair : Pair)
    → ((pair.first.processor == processor) ≡ true
    → (pair.second.role ≡ Acting) × ((pair.second.processor == processor) ≡ false))
    → ((pair.second.processor == processor) ≡ true
    → (pair.first.role ≡ Acting) × ((pair.first.processor == processor) ≡ false))
    → BothSeen pair → BothSeen (reloaded_pair processor core pair)
reload-seen processor core pair one two ok =
    by (pair.first.processor == processor) (pair.second.processor == processor) one two
  where
    by : (a b : Bool) → (a ≡ true → (pair.second.role ≡ Acting) × (b ≡ false))
        → (b ≡ true → (pair.first.role ≡ Acting) × (a ≡ false)) → BothSeen (reloaded_by core pair a b)
    by false false one two = ok
    by true true one two = absurd (let f = (one refl).1 in cc)
    by false true one two = renewed-seen core pair (two refl).0 ok
    by true false one two = let both = renewed-seen core (turned pair) (one refl).0 (ok.1, ok.0) in (both.1, both.0)

pub begin-seen : (site : Site) (number from : ℕ) (spec : ProcessSpec) → BothSeen (pair_at_boot site from spec)
begin-seen site number from spec = (
  record {
    behind = λ w. record {
      same_era = refl;
      not_past = omega arith;
      one_behind = omega arith;
      free = λ _. refl;
      acknowledged = λ t. refl;
      checkpoint = λ message i. absurd i;
      was_taken = λ message i. absurd i;
    };
    acting = λ a. record {
      other_era = omega arith;
      checkpoint = λ message i. absurd i;
      was_taken = λ message i. absurd i;
    };
    receiving = λ a. record {
      other_era = omega arith;
      checkpoint = λ message i. absurd i;
      was_taken = λ message i. absurd i;
    };
    one = λ r w. cc;
  },
  record { behind = λ w. absurd (cc); acting = λ a. absurd (cc); receiving = λ w. absurd (cc); one = λ r w. cc },
)

-- Changes, for sites that are laid out

abbrev pub AllSeen : World → Type 0
AllSeen w = (number : ℕ) (pair : Pair) → slice_get w.processes number ≡ Some pair → BothSeen pair

pub change-seen : {site : Site} (w next : World) (cause : Cause) (sendings : List Sending)
    → Change site w cause sendings next → AllRoles w → AreStopped w
    → ((x : ℕ) → cause ≡ Reloading x → (number : ℕ) (pair : Pair) → slice_get w.processes number ≡ Some pair
    → ((pair.first.processor == x) ≡ true → (pair.second.role ≡ Acting) × ((pair.second.processor == x) ≡ false))
    × ((pair.second.processor == x) ≡ true → (pair.first.role ≡ Acting) × ((pair.first.processor == x) ≡ false)))
    → AllSeen w → AllSeen next
change-seen w next cause sendings (by_own number k pair there r c a e f) roles are survive ok =
    set-all (λ n. BothSeen) w.processes number _ ok (own-seen k pair _ _ _ e (ok number pair there))
change-seen w next cause sendings (by_checkpoint number pair there p) roles are survive ok =
    set-all (λ n. BothSeen) w.processes number _ ok (
      passes-behind w.stopped are (roles number pair there) p (ok number pair there).0,
      passes-behind w.stopped are (roles-turned pair (roles number pair there)) (passes-turned p)
          (ok number pair there).1,
    )
change-seen w next cause sendings (by_request request k pair i there r) roles are survive ok =
    set-all (λ n. BothSeen) w.processes request.process _ ok (waiting-seen k pair _ (ok request.process pair there))
change-seen w next cause sendings (by_early_request request k pair i there r) roles are survive ok =
    set-all (λ n. BothSeen) w.processes request.process _ ok (waiting-seen k pair _ (ok request.process pair there))
change-seen w next cause sendings (by_enter number terminal opener t f q o) roles are survive ok = ok
change-seen w next cause sendings (by_print number terminal reply t f i o n) roles are survive ok = ok
change-seen w next cause sendings (by_stop x s h) roles are survive ok =
    map-all (λ n. BothSeen) (stopped_pair x) w.processes (λ n p there. (let both = ok n p there in (
      stop-seen (p.first.processor == x) (p.second.processor == x) both.0,
      stop-seen (p.second.processor == x) (p.first.processor == x) both.1,
    )))
change-seen w next cause sendings (by_mark node x s q n) roles are survive ok =
    map-all (λ n. BothSeen) (pair_at_down node x) w.processes
    (λ n p there. mark-seen w.stopped node x s p (taker node x p) refl (roles n p there) (ok n p there))
change-seen {site = site} w next cause sendings (by_reload x s m t l) roles are survive ok =
    reload-all (λ n. BothSeen) site x w.processes
    (λ n p there. (let both = survive x refl n p there in
    reload-seen x (new_core site n (slice_get site.processes n) p.first.core) p both.0 both.1 (ok n p there)))
