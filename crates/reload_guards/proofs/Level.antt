-- Where nothing was loaded again, a checkpoint comes of no copy that is behind the kept acts.
use Rattle.std.proofs.Common.{◌≡◌, ◌≢◌, ◌≤◌, ◌<◌, ◌⊎◌, inl, inr, ℕ, ◌+◌, ◌==◌, Bool, true, false, if◌then◌else◌}
use Rattle.std.proofs.Common.{List, [], ◌∷◌, ◌++◌, Option, Some, None, slice_get, slice_set, refl, ap, sym, subst}
use Rattle.std.proofs.Common.{◌∙◌, arith, nat_le}
use Rattle.std.proofs.lemmas.Bool.{eqb-true, leb-false, leb-true}
use Rattle.gd_words.specs.Members.{IsAmong}
use Rattle.gd_words.specs.declared.message.Request.{Request}
use Rattle.tal_tree.specs.declared.act.Act.{Act}
use Rattle.tal_tree.specs.declared.act.Act.TheVariants.{Enter, Print, Step, Take}
use Rattle.tal_tree.specs.declared.site.Site.{Site}
use Rattle.schedule.specs.declared.event.Event.{Event}
use Rattle.process_semantics.specs.declared.point.Point.{Point}
use Rattle.process_semantics.specs.declared.point.Point.TheVariants as point
use Rattle.world_semantics.specs.disc_device.specs.Sectors.{Stored}
use Rattle.checkpoint_image.specs.declared.message.ImageMessage.{ImageMessage}
use Rattle.world_semantics.specs.declared.role.Role.{Role}
use Rattle.world_semantics.specs.declared.role.Role.TheVariants.{Acting, Watching, Gone}
use Rattle.world_semantics.specs.declared.which.Which.{Which}
use Rattle.world_semantics.specs.declared.which.Which.TheVariants.{First, Second}
use Rattle.world_semantics.specs.Core.{Core, Deed}
use Rattle.world_semantics.specs.Follows.{IsRun, stays}
use Rattle.world_semantics.specs.Kept.{Enters, begins, holds_on, is_own, keeps, own_acts, repeats}
use Rattle.world_semantics.specs.Laws.{IsPlaced}
use Rattle.world_semantics.specs.Messages.{Cause, Message, Sending}
use Rattle.world_semantics.specs.Own.{Around, Causes, by_answer, by_ask, by_device, by_inner, by_reply, by_take}
use Rattle.world_semantics.specs.Own.{by_write}
use Rattle.world_semantics.specs.Passes.{Passes, by_acknowledge, by_apply, by_apply_behind, by_end, by_pass}
use Rattle.world_semantics.specs.Passes.{by_pass_again, by_send, kept_at, point_at}
use Rattle.world_semantics.specs.Rules.{Change, by_checkpoint, by_early_request, by_enter, by_mark, by_own}
use Rattle.world_semantics.specs.Rules.{by_print, by_reload, by_request, by_stop, pair_after_down, pair_at_down}
use Rattle.world_semantics.specs.Rules.{renewals_ended, stopped_pair, taker}
use Rattle.world_semantics.specs.Shares.{acts_at}
use Rattle.world_semantics.specs.World.{Copy, Down, Pair, World, copy_of, other_of, receives, with_copy}
use Rattle.world_semantics.proofs.Beginning.{all-begin}
use Rattle.world_semantics.proofs.Behind.{BothSeen}
use Rattle.world_semantics.proofs.Counting.{own-append, own-one, own-step, own-take}
use Rattle.world_semantics.proofs.Lists.{Changed, changed, is_new, is_same, map-all}
use Rattle.world_semantics.proofs.Reached.{AllKept, change-kept, run-kept}
use Rattle.world_semantics.proofs.Roles.{RolesOf, taker-is}
use Rattle.world_semantics.proofs.Runs.{holds-on}
use Rattle.reload_guards.specs.Without.{HasNoReload}
use Rattle.reload_guards.proofs.Plain.{AllPlain, PlainPair, begins-plain, change-plain, entered-role, false-not}
use Rattle.reload_guards.proofs.Plain.{none-reloaded, plain-sent, unsent, watches}

-- Whose acts are

own-other : (number other : ℕ) (act : Act) → other ≢ number → is_own number act ≡ true → is_own other act ≡ false
own-other number other (Step one) apart own = by (other == one) refl
  where
    by : (b : Bool) → (other == one) ≡ b → b ≡ false
    by true e = absurd (apart (eqb-true other one e ∙ sym (eqb-true number one own)))
    by false e = refl
own-other number other (Take one place) apart own = by (other == one) refl
  where
    by : (b : Bool) → (other == one) ≡ b → b ≡ false
    by true e = absurd (apart (eqb-true other one e ∙ sym (eqb-true number one own)))
    by false e = refl
own-other number other (Enter terminal) apart own = absurd cc
own-other number other (Print terminal) apart own = absurd cc

apart-kept : (other : ℕ) (act : Act) (acts : List Act) → is_own other act ≡ false
    → own_acts other (act ∷ acts) ≡ own_acts other acts
apart-kept other act acts off = rw off (omega arith)

count-other : (number other : ℕ) (act : Act) (acts : List Act) → other ≢ number → is_own number act ≡ true
    → own_acts other (act ∷ acts) ≡ own_acts other acts
count-other number other act acts apart own = apart-kept other act acts (own-other number other act apart own)

step-other : (number other : ℕ) (p : Point) (acts : List Act) → other ≢ number
    → own_acts other (acts_at number p ++ acts) ≡ own_acts other acts
step-other number other point.AtCheckpoint acts apart =
    count-other number other (Step number) acts apart (own-step number)
step-other number other point.Inner acts apart = refl
step-other number other point.Take acts apart = refl
step-other number other point.Ask acts apart = refl
step-other number other point.Await acts apart = refl
step-other number other point.Answer acts apart = refl
step-other number other point.Device acts apart = refl
step-other number other point.Ended acts apart = refl

causes-own : {site : Site} {number node : ℕ} {core : Core} {before after : Around} {cause : Cause} {deed : Deed}
    {act : Act} {messages : List Message}
    → Causes site number node core before cause deed act messages after → is_own number act ≡ true
causes-own {number = n} by_inner = own-step n
causes-own {number = n} (by_take {found = found} e) = own-take n found.request.opener
causes-own {number = n} by_ask = own-step n
causes-own {number = n} (by_answer e) = own-step n
causes-own {number = n} (by_device e) = own-step n
causes-own {number = n} (by_write e) = own-step n
causes-own {number = n} (by_reply i o m e) = own-step n

-- What is level

-- where the other copy watches, a copy has done all kept acts of its process, or all but the checkpoint that the other
-- one has applied, at which it still stands
record IsLevel (count : ℕ) (role : Role) (sent : Bool) (number other position : ℕ) : Type 0 where
  pub level : role ≡ Watching
      → (count ≤ position) ⊎ ((sent ≡ true) × (number ≡ other) × (count ≡ position + 1))

-- both copies of a process are level, and hold acts of their own process alone
record AreLevel (kept : List Act) (number : ℕ) (pair : Pair) : Type 0 where
  pub first : IsLevel (own_acts number kept) pair.second.role pair.first.sent pair.first.number pair.second.number
      pair.first.position
  pub second : IsLevel (own_acts number kept) pair.first.role pair.second.sent pair.second.number pair.first.number
      pair.second.position
  pub held : (other : ℕ) → other ≢ number → own_acts other pair.first.held ≡ 0
  pub held_too : (other : ℕ) → other ≢ number → own_acts other pair.second.held ≡ 0

abbrev AllLevel : List Act → List Pair → Type 0
AllLevel kept pairs = (number : ℕ) (pair : Pair) → slice_get pairs number ≡ Some pair → AreLevel kept number pair

-- what others keep leaves a process level
level-kept : {kept after : List Act} {number : ℕ} {pair : Pair} → own_acts number after ≡ own_acts number kept
    → AreLevel kept number pair → AreLevel after number pair
level-kept {pair = pair} same ok = record {
  first = subst (λ count. IsLevel count pair.second.role pair.first.sent pair.first.number pair.second.number
      pair.first.position) (sym same) ok.first;
  second = subst (λ count. IsLevel count pair.first.role pair.second.sent pair.second.number pair.first.number
      pair.second.position) (sym same) ok.second;
  held = ok.held;
  held_too = ok.held_too;
}

-- one process changed
one-level : {kept after : List Act} (pairs : List Pair) (number : ℕ) (next : Pair)
    → ((other : ℕ) → other ≢ number → own_acts other after ≡ own_acts other kept) → AllLevel kept pairs
    → AreLevel after number next → AllLevel after (slice_set pairs number next)
one-level {after = after} pairs number next others all new n pair there = by (changed pairs number next n pair there)
  where
    by : Changed pairs number next n pair → AreLevel after n pair
    by (is_new same is) = subst (λ m. AreLevel after m pair) same (subst (AreLevel after number) (sym is) new)
    by (is_same apart was) = level-kept (others n (λ e. apart (sym e))) (all n pair was)

no-role : {count : ℕ} {role : Role} {sent : Bool} {number other position : ℕ} → (role ≡ Watching → ⊥)
    → IsLevel count role sent number other position
no-role none = record { level = λ w. absurd (none w) }

acts-not : {role : Role} → role ≡ Acting → role ≡ Watching → ⊥
acts-not acts w = let bad : Acting ≡ Watching = sym acts ∙ w in cc

-- Acts

-- a copy that has sent nothing is level, and so it is after an act
entered-level : {number : ℕ} {act : Act} {kept after : List Act} {copy entered : Copy} {role : Role}
    {sent now : Bool} {last other one two : ℕ}
    → Enters number act kept copy entered after → is_own number act ≡ true → (sent ≡ true → ⊥)
    → IsLevel (own_acts number kept) role sent last other copy.position
    → IsLevel (own_acts number after) role now one two entered.position
entered-level {number = n} {act = act} {kept = kept} {copy = copy} {role = role} {sent = sent} {last = last}
    {other = other} enters own none ok = record { level = λ w. inl (by enters (ok.level w)) }
  where
    by : {entered : Copy} {after : List Act} → Enters n act kept copy entered after
        → (own_acts n kept ≤ copy.position)
        ⊎ ((sent ≡ true) × (last ≡ other) × (own_acts n kept ≡ copy.position + 1))
        → own_acts n after ≤ entered.position
    by (holds_on e) (inl most) = most
    by (repeats e less) (inl most) = omega (arith, most)
    by (begins e l t) (inl most) = most
    by (keeps e l t) (inl most) = let one = own-one n act kept own in omega (arith, most, one)
    by enters (inr (s, same, next)) = absurd (none s)

entered-held : {number : ℕ} {act : Act} {kept after : List Act} {copy entered : Copy} (other : ℕ) → other ≢ number
    → Enters number act kept copy entered after → is_own number act ≡ true → own_acts other copy.held ≡ 0
    → own_acts other entered.held ≡ 0
entered-held {number = n} {act = act} {copy = copy} other apart (holds_on e) own none =
    count-other n other act copy.held apart own ∙ none
entered-held other apart (repeats e l) own none = none
entered-held {number = n} {act = act} other apart (begins e l t) own none = count-other n other act [] apart own
entered-held other apart (keeps e l t) own none = none

entered-others : {number : ℕ} {act : Act} {kept after : List Act} {copy entered : Copy} (other : ℕ)
    → other ≢ number → Enters number act kept copy entered after → is_own number act ≡ true
    → own_acts other after ≡ own_acts other kept
entered-others other apart (holds_on e) own = refl
entered-others other apart (repeats e l) own = refl
entered-others other apart (begins e l t) own = refl
entered-others {number = n} {act = act} {kept = kept} other apart (keeps e l t) own =
    count-other n other act kept apart own

own-level : (k : Which) (pair : Pair) (core : Core) (waiting : List Request) (sectors : List Stored) {number : ℕ}
    {act : Act} {kept after : List Act} {entered : Copy} → Enters number act kept (copy_of k pair) entered after
    → is_own number act ≡ true → (copy_of k pair).role ≡ Acting → ((copy_of k pair).sent ≡ true → ⊥)
    → AreLevel kept number pair
    → AreLevel after number (with_copy k (record entered { core = core; waiting = waiting })
    (record pair { sectors = sectors }))
own-level First pair core waiting sectors e own acts none ok = record {
  first = entered-level e own none ok.first;
  second = no-role (λ w. acts-not acts (sym (entered-role e) ∙ w));
  held = λ other apart. entered-held other apart e own (ok.held other apart);
  held_too = ok.held_too;
}
own-level Second pair core waiting sectors e own acts none ok = record {
  first = no-role (λ w. acts-not acts (sym (entered-role e) ∙ w));
  second = entered-level e own none ok.second;
  held = ok.held;
  held_too = λ other apart. entered-held other apart e own (ok.held_too other apart);
}

-- Checkpoints

-- what is applied next was sent where the other copy stands
was-sent : (sent : Bool) {last taken number : ℕ} → (sent ≡ false → taken ≡ last) → number ≤ last
    → number ≡ taken + 1 → sent ≡ true
was-sent true even most next = refl
was-sent false even most next = let same = even refl in absurd (omega (arith, same, most, next))

sends-level : {count : ℕ} {role : Role} {sent now : Bool} {last other one two position : ℕ} → sent ≡ false
    → IsLevel count role sent last other position → IsLevel count role now one two position
sends-level {count = count} {sent = sent} {last = last} {other = other} {position = position} none ok =
    record { level = λ w. inl (by (ok.level w)) }
  where
    by : (count ≤ position) ⊎ ((sent ≡ true) × (last ≡ other) × (count ≡ position + 1)) → count ≤ position
    by (inl most) = most
    by (inr (s, same, next)) = absurd (false-not none s)

again-level : {count : ℕ} {role : Role} {sent now : Bool} {last other one two position : ℕ}
    → IsLevel count role sent last other position → IsLevel count role now one two (position + 1)
again-level {count = count} {sent = sent} {last = last} {other = other} {position = position} ok =
    record { level = λ w. inl (by (ok.level w)) }
  where
    by : (count ≤ position) ⊎ ((sent ≡ true) × (last ≡ other) × (count ≡ position + 1)) → count ≤ position + 1
    by (inl most) = omega (arith, most)
    by (inr (s, same, next)) = omega (arith, next)

-- a copy that is behind the kept acts has sent no checkpoint that comes next
none-behind : {count : ℕ} {role : Role} {sent : Bool} {last taken position number : ℕ}
    → IsLevel count role sent last taken position → role ≡ Watching → number ≤ last → number ≡ taken + 1
    → position < count → ⊥
none-behind {count = count} {sent = sent} {last = last} {taken = taken} {position = position} ok w most next less =
    by (ok.level w)
  where
    by : (count ≤ position) ⊎ ((sent ≡ true) × (last ≡ taken) × (count ≡ position + 1)) → ⊥
    by (inl level) = omega (arith, level, less)
    by (inr (s, same, more)) = omega (arith, most, next, same)

-- where it stands at its checkpoint, that is kept last
cover-count : (number : ℕ) (copy : Copy) (kept : List Act) → point_at copy ≡ point.AtCheckpoint
    → own_acts number (kept_at number copy kept) ≡ own_acts number (copy.held ++ kept) + 1
cover-count number copy kept at =
    let one = own-one number (Step number) (copy.held ++ kept) (own-step number) in
    ap (λ (p : Point). own_acts number (acts_at number p ++ (copy.held ++ kept))) at ∙ omega (arith, one)

passes-level : {stopped : List Bool} {number : ℕ} {downs : List Down} {kept after : List Act} {pair next : Pair}
    {cause : Cause} {sendings : List Sending} → Passes number downs kept pair cause sendings next after
    → PlainPair stopped pair → BothSeen pair → AreLevel kept number pair → AreLevel after number next
passes-level (by_send First role may none unmarked) plain seen ok = record {
  first = sends-level none ok.first;
  second = no-role (acts-not role);
  held = ok.held;
  held_too = ok.held_too;
}
passes-level (by_send Second role may none unmarked) plain seen ok = record {
  first = no-role (acts-not role);
  second = sends-level none ok.second;
  held = ok.held;
  held_too = ok.held_too;
}
passes-level (by_pass_again First role at may less) plain seen ok = record {
  first = again-level ok.first;
  second = no-role (acts-not role);
  held = ok.held;
  held_too = ok.held_too;
}
passes-level (by_pass_again Second role at may less) plain seen ok = record {
  first = no-role (acts-not role);
  second = again-level ok.second;
  held = ok.held;
  held_too = ok.held_too;
}
passes-level (by_pass First role at may most) plain seen ok = record {
  first = record { level = λ w. inl (omega arith) };
  second = no-role (acts-not role);
  held = λ other apart. refl;
  held_too = ok.held_too;
}
passes-level (by_pass Second role at may most) plain seen ok = record {
  first = no-role (acts-not role);
  second = record { level = λ w. inl (omega arith) };
  held = ok.held;
  held_too = λ other apart. refl;
}
passes-level (by_end First role sent away may) plain seen ok = absurd (away (plain.first.sent sent))
passes-level (by_end Second role sent away may) plain seen ok = absurd (away (plain.second.sent sent))
passes-level {pair = pair} (by_apply_behind First message applied role among era is put less) plain seen ok =
    let b = seen.1.behind role in
    absurd (none-behind ok.second (watches pair.first.role plain.first.blank role)
    (b.checkpoint message among (era ∙ b.same_era)) is less)
passes-level {pair = pair} (by_apply_behind Second message applied role among era is put less) plain seen ok =
    let b = seen.0.behind role in
    absurd (none-behind ok.first (watches pair.second.role plain.second.blank role)
    (b.checkpoint message among (era ∙ b.same_era)) is less)
passes-level {number = n} {kept = kept} {pair = pair} (by_apply First message applied role among era is put most) plain
    seen ok =
    let b = seen.1.behind role in
    let few = b.checkpoint message among (era ∙ b.same_era) in
    let sent = was-sent pair.second.sent b.free few is in
    let one = b.one_behind in record {
      first = no-role (λ w. seen.0.one role (ap receives w));
      second = record {
        level = λ w. inr (sent, omega (arith, few, is, one), cover-count n pair.second kept (plain.second.sent sent));
      };
      held = ok.held;
      held_too = λ other apart. refl;
    }
passes-level {number = n} {kept = kept} {pair = pair} (by_apply Second message applied role among era is put most) plain
    seen ok =
    let b = seen.0.behind role in
    let few = b.checkpoint message among (era ∙ b.same_era) in
    let sent = was-sent pair.first.sent b.free few is in
    let one = b.one_behind in record {
      first = record {
        level = λ w. inr (sent, omega (arith, few, is, one), cover-count n pair.first kept (plain.first.sent sent));
      };
      second = no-role (λ w. seen.0.one (ap receives w) role);
      held = λ other apart. refl;
      held_too = ok.held_too;
    }
passes-level (by_acknowledge First taken role sent among era is) plain seen ok =
    record { first = ok.first; second = ok.second; held = ok.held; held_too = ok.held_too }
passes-level (by_acknowledge Second taken role sent among era is) plain seen ok =
    record { first = ok.first; second = ok.second; held = ok.held; held_too = ok.held_too }

held-none : (other : ℕ) (held kept : List Act) → own_acts other held ≡ 0
    → own_acts other (held ++ kept) ≡ own_acts other kept
held-none other held kept none = let all = own-append other held kept in omega (arith, all, none)

passes-others : {number : ℕ} {downs : List Down} {kept after : List Act} {pair next : Pair} {cause : Cause}
    {sendings : List Sending} (other : ℕ) → other ≢ number → Passes number downs kept pair cause sendings next after
    → AreLevel kept number pair → own_acts other after ≡ own_acts other kept
passes-others other apart (by_send k role may none unmarked) ok = refl
passes-others other apart (by_pass_again k role at may less) ok = refl
passes-others {number = n} {kept = kept} {pair = pair} other apart (by_pass First role at may most) ok =
    count-other n other (Step n) (pair.first.held ++ kept) apart (own-step n)
    ∙ held-none other pair.first.held kept (ok.held other apart)
passes-others {number = n} {kept = kept} {pair = pair} other apart (by_pass Second role at may most) ok =
    count-other n other (Step n) (pair.second.held ++ kept) apart (own-step n)
    ∙ held-none other pair.second.held kept (ok.held_too other apart)
passes-others other apart (by_end k role sent away may) ok = refl
passes-others other apart (by_apply_behind k message applied role among era is put less) ok = refl
passes-others {number = n} {kept = kept} {pair = pair} other apart
    (by_apply First message applied role among era is put most) ok =
    step-other n other (point_at pair.second) (pair.second.held ++ kept) apart
    ∙ held-none other pair.second.held kept (ok.held_too other apart)
passes-others {number = n} {kept = kept} {pair = pair} other apart
    (by_apply Second message applied role among era is put most) ok =
    step-other n other (point_at pair.first) (pair.first.held ++ kept) apart
    ∙ held-none other pair.first.held kept (ok.held other apart)
passes-others other apart (by_acknowledge k taken role sent among era is) ok = refl

waiting-level : (kept : List Act) (number : ℕ) (k : Which) (pair : Pair) (waiting : List Request)
    → AreLevel kept number pair
    → AreLevel kept number (with_copy k (record (copy_of k pair) { waiting = waiting }) pair)
waiting-level kept number First pair waiting ok =
    record { first = ok.first; second = ok.second; held = ok.held; held_too = ok.held_too }
waiting-level kept number Second pair waiting ok =
    record { first = ok.first; second = ok.second; held = ok.held; held_too = ok.held_too }

-- Stops and marks

stopped-level : {count : ℕ} {role : Role} {sent : Bool} {last other position : ℕ} (test : Bool)
    → IsLevel count role sent last other position
    → IsLevel count (if test then Gone else role) sent last other position
stopped-level true ok = no-role (λ w. absurd cc)
stopped-level false ok = ok

stop-level : (kept : List Act) (number x : ℕ) (pair : Pair) → AreLevel kept number pair
    → AreLevel kept number (stopped_pair x pair)
stop-level kept number x pair ok = record {
  first = stopped-level _ ok.first;
  second = stopped-level _ ok.second;
  held = ok.held;
  held_too = ok.held_too;
}

gone-not : {role : Role} → role ≡ Gone → role ≡ Watching → ⊥
gone-not gone w = let bad : Gone ≡ Watching = sym gone ∙ w in cc

mark-level : (stopped : List Bool) (kept : List Act) (number node x : ℕ) → slice_get stopped x ≡ Some true
    → (pair : Pair) (k : Option Which) → taker node x pair ≡ k → RolesOf stopped pair → AreLevel kept number pair
    → AreLevel kept number (renewals_ended node x (pair_after_down k pair))
mark-level stopped kept number node x gone pair None e roles ok =
    record { first = ok.first; second = ok.second; held = ok.held; held_too = ok.held_too }
mark-level stopped kept number node x gone pair (Some First) e roles ok =
    let t = taker-is node x pair First e in record {
      first = no-role (gone-not (roles.second_gone (ap (slice_get stopped) t.lost ∙ gone)));
      second = no-role (λ w. absurd cc);
      held = λ other apart. refl;
      held_too = λ other apart. refl;
    }
mark-level stopped kept number node x gone pair (Some Second) e roles ok =
    let t = taker-is node x pair Second e in record {
      first = no-role (λ w. absurd cc);
      second = no-role (gone-not (roles.first_gone (ap (slice_get stopped) t.lost ∙ gone)));
      held = λ other apart. refl;
      held_too = λ other apart. refl;
    }

-- All changes

record AllOf (site : Site) (w : World) : Type 0 where
  pub kept : AllKept site w
  pub plain : AllPlain w
  pub level : HasNoReload w → AllLevel w.kept w.processes

change-level : {site : Site} (w next : World) (cause : Cause) (sendings : List Sending)
    → Change site w cause sendings next → AllOf site w → HasNoReload next → AllLevel next.kept next.processes
change-level w next cause sendings (by_own number k pair there acts causes advances enters free) ok none =
    let own = causes-own causes in
    one-level w.processes number _ (λ other apart. entered-others other apart enters own) (ok.level none)
    (own-level k pair _ _ _ enters own acts
    (unsent (copy_of k pair) causes advances free (plain-sent k pair (ok.plain none number pair there)))
    (ok.level none number pair there))
change-level w next cause sendings (by_checkpoint number pair there passes) ok none =
    one-level w.processes number _
    (λ other apart. passes-others other apart passes (ok.level none number pair there)) (ok.level none)
    (passes-level passes (ok.plain none number pair there) (ok.kept.seen number pair there)
    (ok.level none number pair there))
change-level w next cause sendings (by_request request k pair among there role) ok none =
    one-level w.processes request.process _ (λ other apart. refl) (ok.level none)
    (waiting-level w.kept request.process k pair _ (ok.level none request.process pair there))
change-level w next cause sendings (by_early_request request k pair among there role) ok none =
    one-level w.processes request.process _ (λ other apart. refl) (ok.level none)
    (waiting-level w.kept request.process k pair _ (ok.level none request.process pair there))
change-level w next cause sendings (by_enter number terminal opener there even asked opens) ok none =
    λ n pair at. level-kept (apart-kept n (Enter number) w.kept refl) (ok.level none n pair at)
change-level w next cause sendings (by_print number terminal reply there odd among opens same) ok none =
    λ n pair at. level-kept (apart-kept n (Print number) w.kept refl) (ok.level none n pair at)
change-level w next cause sendings (by_stop x runs whole) ok none =
    map-all (AreLevel w.kept) (stopped_pair x) w.processes
    (λ n p there. stop-level w.kept n x p (ok.level none n p there))
change-level w next cause sendings (by_mark node x gone runs new) ok none =
    map-all (AreLevel w.kept) (pair_at_down node x) w.processes
    (λ n p there. mark-level w.stopped w.kept n node x gone p (taker node x p) refl (ok.kept.roles n p there)
    (ok.level none n p there))
change-level w next cause sendings (by_reload {times = times} x gone is_marked there few) ok none =
    absurd (none-reloaded w.reloads x times there none)

run-all : {site : Site} {events : List Event} {w : World} → IsPlaced site → IsRun site events w → AllOf site w
run-all {site = site} placed run =
    holds-on (AllOf site) (λ w next cause sendings change ok. record {
      kept = change-kept site placed w next cause sendings change ok.kept;
      plain = change-plain w next cause sendings change ok.plain;
      level = change-level w next cause sendings change ok;
    }) run (record {
      kept = run-kept placed stays;
      plain = begins-plain site;
      level = λ none. all-begin (AreLevel []) site (λ number from spec. record {
        first = record { level = λ w. inl (omega arith) };
        second = no-role (λ w. cc);
        held = λ other apart. refl;
        held_too = λ other apart. refl;
      });
    })

at-least : (one other : ℕ) → (one < other → ⊥) → other ≤ one
at-least one other none = by (nat_le other one) refl
  where
    by : (b : Bool) → nat_le other one ≡ b → other ≤ one
    by true e = leb-true other one e
    by false e = absurd (none (leb-false other one e))

-- so no checkpoint that comes next was sent by a copy that is behind
pub applied-level : {site : Site} {events : List Event} {w : World} → IsPlaced site → IsRun site events w
    → HasNoReload w → (number : ℕ) {pair : Pair} → slice_get w.processes number ≡ Some pair
    → (k : Which) (message : ImageMessage) → receives (copy_of k pair).role ≡ true
    → IsAmong message pair.checkpoints → message.era ≡ (copy_of k pair).era
    → message.number ≡ (copy_of k pair).number + 1
    → own_acts number w.kept ≤ (copy_of (other_of k) pair).position
applied-level {w = w} placed run none number {pair = pair} there First message gets_them among era is =
    let all = run-all placed run in
    let b = (all.kept.seen number pair there).1.behind gets_them in
    let w_is = watches pair.first.role (all.plain none number pair there).first.blank gets_them in
    at-least _ _ (none-behind (all.level none number pair there).second w_is
    (b.checkpoint message among (era ∙ b.same_era)) is)
applied-level {w = w} placed run none number {pair = pair} there Second message gets_them among era is =
    let all = run-all placed run in
    let b = (all.kept.seen number pair there).0.behind gets_them in
    let w_is = watches pair.second.role (all.plain none number pair there).second.blank gets_them in
    at-least _ _ (none-behind (all.level none number pair there).first w_is
    (b.checkpoint message among (era ∙ b.same_era)) is)
