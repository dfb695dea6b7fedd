-- Copies stay seated, at the beginning and by each change.
use Rattle.std.proofs.Common.{◌≡◌, ◌⊎◌, inl, inr, ◌==◌, ℕ, zero, suc, ◌+◌, Bool, true, false, List, [], ◌∷◌, map}
use Rattle.std.proofs.Common.{Option, Some, None, slice_get, refl, ap, sym, subst, if◌then◌else◌, ◌∙◌}
use Rattle.gd_words.specs.declared.message.Request.{Request}
use Rattle.tal_tree.specs.declared.act.Act.{Act}
use Rattle.tal_tree.specs.declared.site.ProcessSpec.{ProcessSpec}
use Rattle.tal_tree.specs.declared.site.Site.{Site}
use Rattle.tal_tree.specs.declared.site.TerminalSpec.{TerminalSpec}
use Rattle.world_semantics.specs.checkpoint_image.specs.declared.message.ImageMessage.{ImageMessage}
use Rattle.schedule.specs.declared.event.Event.{Event}
use Rattle.world_semantics.specs.Core.{Core}
use Rattle.world_semantics.specs.Follows.{IsRun, stays}
use Rattle.world_semantics.specs.Kept.{Enters, holds_on, repeats, begins, keeps}
use Rattle.world_semantics.specs.Laws.{IsPlaced}
use Rattle.world_semantics.specs.Messages.{Sending, Cause, Reloading}
use Rattle.world_semantics.specs.Passes.{Passes, by_send, by_pass_again, by_pass, by_end, by_apply_behind}
use Rattle.world_semantics.specs.Passes.{by_apply, by_acknowledge}
use Rattle.world_semantics.specs.Rules.{Change, by_own, by_checkpoint, by_request, by_early_request, by_enter, by_print}
use Rattle.world_semantics.specs.Rules.{by_stop, by_mark, by_reload, stopped_pair, taker}
use Rattle.world_semantics.specs.Rules.{pair_after_down, pair_at_down, renewals_ended, new_core, reloaded_by}
use Rattle.world_semantics.specs.World.{Copy, Pair, Terminal, World, pair_at_boot, pairs_at_boot, has_marked}
use Rattle.world_semantics.specs.World.{copy_of, other_of, with_copy, receives}
use Rattle.world_semantics.specs.declared.role.Role.{Role}
use Rattle.world_semantics.specs.declared.role.Role.TheVariants.{Acting, Watching, Blank, Gone}
use Rattle.world_semantics.specs.declared.which.Which.{Which}
use Rattle.world_semantics.specs.declared.which.Which.TheVariants.{First, Second}
use Rattle.world_semantics.proofs.Becoming as becoming
use Rattle.world_semantics.proofs.Becoming.{Becomes, acting-gets-none, change-copy, was-role}
use Rattle.world_semantics.proofs.Beginning.{all-begin}
use Rattle.world_semantics.proofs.Growing.{AreStopped}
use Rattle.world_semantics.proofs.Later.{change-later, change-terminals}
use Rattle.world_semantics.proofs.Lists.{set-all, map-all}
use Rattle.world_semantics.proofs.Reached.{AllKept, change-kept, one-acts, run-kept, survives}
use Rattle.world_semantics.proofs.Roles.{RolesOf, AllRoles, reload-all, roles-begin, change-roles}
use Rattle.world_semantics.proofs.Runs.{holds-on}
use Rattle.world_semantics.proofs.Steady.{Waits, marked-down}
use Rattle.takeover_laws.proofs.Changing.{acts_by, causes-one, passes-one}
use Rattle.awaited_requests.specs.Seats.{IsLaidOut, IsSeated, AreSeated}

-- the role that a copy has had that gets checkpoints after a stop
pub was-getting : (gone : Bool) (role : Role) → receives (if gone then Gone else role) ≡ true → receives role ≡ true
was-getting true role e = absurd (cc)
was-getting false role e = e

-- The acts that copies hold

-- a copy that watches or is blank holds no acts, and where a copy acts the other one holds none
record HoldsApart (pair : Pair) : Type 0 where
  free : (k : Which) → receives (copy_of k pair).role ≡ true → (copy_of k pair).held ≡ []
  one_holds : (k : Which) → (copy_of k pair).role ≡ Acting → (copy_of (other_of k) pair).held ≡ []

-- a copy that acts keeps its role, and the other one stays as it is
record Follows (k : Which) (pair next : Pair) : Type 0 where
  role : (copy_of k next).role ≡ (copy_of k pair).role
  other : copy_of (other_of k) next ≡ copy_of (other_of k) pair

-- a copy keeps its role and the acts that it holds
record IsSame (copy next : Copy) : Type 0 where
  role : next.role ≡ copy.role
  held : next.held ≡ copy.held

waiting-same : (k : Which) (pair : Pair) (waiting : List Request) (other : Which)
    → IsSame (copy_of other pair) (copy_of other (with_copy k (record (copy_of k pair) { waiting = waiting }) pair))
waiting-same First pair waiting First = record { role = refl; held = refl }
waiting-same First pair waiting Second = record { role = refl; held = refl }
waiting-same Second pair waiting First = record { role = refl; held = refl }
waiting-same Second pair waiting Second = record { role = refl; held = refl }

entered-role : {number : ℕ} {act : Act} {kept after : List Act} {copy entered : Copy}
    → Enters number act kept copy entered after → entered.role ≡ copy.role
entered-role (holds_on held) = refl
entered-role (repeats held less) = refl
entered-role (begins held most take) = refl
entered-role (keeps held most take) = refl

own-follows : (k : Which) (pair : Pair) (core : Core) (waiting : List Request) (sectors : _) {number : ℕ} {act : Act}
    {kept after : List Act} {entered : Copy}
    → Enters number act kept (copy_of k pair) entered after
    → Follows k pair (with_copy k (record entered { core = core; waiting = waiting })
    (record pair { sectors = sectors }))
own-follows First pair core waiting sectors enters = record { role = entered-role enters; other = refl }
own-follows Second pair core waiting sectors enters = record { role = entered-role enters; other = refl }

all-free : (pair : Pair) → pair.first.held ≡ [] → pair.second.held ≡ [] → HoldsApart pair
all-free pair one two = record { free = free; one_holds = holds }
  where
    free : (k : Which) → receives (copy_of k pair).role ≡ true → (copy_of k pair).held ≡ []
    free First r = one
    free Second r = two

    holds : (k : Which) → (copy_of k pair).role ≡ Acting → (copy_of (other_of k) pair).held ≡ []
    holds First a = two
    holds Second a = one

acting-free : (stopped : List Bool) (k : Which) (pair next : Pair) → (copy_of k pair).role ≡ Acting
    → Follows k pair next → RolesOf stopped pair → HoldsApart pair → HoldsApart next
acting-free stopped First pair next acting same roles ok = record { free = free; one_holds = holds }
  where
    free : (k : Which) → receives (copy_of k next).role ≡ true → (copy_of k next).held ≡ []
    free First r = absurd (acting-gets-none next.first.role (same.role ∙ acting) r)
    free Second r = rw same.other
        (ok.free Second (ap (λ (c : Copy). receives c.role) (sym same.other) ∙ r))

    holds : (k : Which) → (copy_of k next).role ≡ Acting → (copy_of (other_of k) next).held ≡ []
    holds First acts = rw same.other (ok.one_holds First acting)
    holds Second acts =
        absurd (one-acts stopped pair roles acting (ap (λ (c : Copy). c.role) (sym same.other) ∙ acts))
acting-free stopped Second pair next acting same roles ok = record { free = free; one_holds = holds }
  where
    free : (k : Which) → receives (copy_of k next).role ≡ true → (copy_of k next).held ≡ []
    free First r = rw same.other
        (ok.free First (ap (λ (c : Copy). receives c.role) (sym same.other) ∙ r))
    free Second r = absurd (acting-gets-none next.second.role (same.role ∙ acting) r)

    holds : (k : Which) → (copy_of k next).role ≡ Acting → (copy_of (other_of k) next).held ≡ []
    holds First acts = absurd (one-acts stopped pair roles (ap (λ (c : Copy). c.role) (sym same.other) ∙ acts) acting)
    holds Second acts = rw same.other (ok.one_holds Second acting)

same-free : (pair next : Pair) → ((k : Which) → IsSame (copy_of k pair) (copy_of k next))
    → HoldsApart pair → HoldsApart next
same-free pair next same ok = record {
  free = λ k r. (same k).held ∙ ok.free k (ap receives (sym (same k).role) ∙ r);
  one_holds = λ k acts. (same (other_of k)).held ∙ ok.one_holds k (sym (same k).role ∙ acts);
}

-- a copy applied a checkpoint and watches now, and the other one stays as it is
record Applied (k : Which) (pair next : Pair) : Type 0 where
  role : (copy_of k next).role ≡ Watching
  held : (copy_of k next).held ≡ (copy_of k pair).held
  other : copy_of (other_of k) next ≡ copy_of (other_of k) pair

watching-free : (k : Which) (pair next : Pair) → receives (copy_of k pair).role ≡ true → Applied k pair next
    → HoldsApart pair → HoldsApart next
watching-free First pair next r same ok = record { free = free; one_holds = holds }
  where
    free : (k : Which) → receives (copy_of k next).role ≡ true → (copy_of k next).held ≡ []
    free First _ = same.held ∙ ok.free First r
    free Second s = rw same.other (ok.free Second (ap (λ (c : Copy). receives c.role) (sym same.other) ∙ s))

    holds : (k : Which) → (copy_of k next).role ≡ Acting → (copy_of (other_of k) next).held ≡ []
    holds First acts = absurd (let e : Watching ≡ Acting = sym same.role ∙ acts in cc)
    holds Second acts = same.held ∙ ok.free First r
watching-free Second pair next r same ok = record { free = free; one_holds = holds }
  where
    free : (k : Which) → receives (copy_of k next).role ≡ true → (copy_of k next).held ≡ []
    free First s = rw same.other (ok.free First (ap (λ (c : Copy). receives c.role) (sym same.other) ∙ s))
    free Second _ = same.held ∙ ok.free Second r

    holds : (k : Which) → (copy_of k next).role ≡ Acting → (copy_of (other_of k) next).held ≡ []
    holds First acts = same.held ∙ ok.free Second r
    holds Second acts = absurd (let e : Watching ≡ Acting = sym same.role ∙ acts in cc)

passes-free : (stopped : List Bool) {number : ℕ} {downs : List _} {kept after : List Act} {pair next : Pair}
    {cause : Cause} {sendings : List Sending}
    → Passes number downs kept pair cause sendings next after
    → RolesOf stopped pair → HoldsApart pair → HoldsApart next
passes-free stopped {pair = pair} {next = next} (by_send First role at sent unmarked) =
    acting-free stopped First pair next role (record { role = refl; other = refl })
passes-free stopped {pair = pair} {next = next} (by_send Second role at sent unmarked) =
    acting-free stopped Second pair next role (record { role = refl; other = refl })
passes-free stopped {pair = pair} {next = next} (by_pass_again First role at may less) =
    acting-free stopped First pair next role (record { role = refl; other = refl })
passes-free stopped {pair = pair} {next = next} (by_pass_again Second role at may less) =
    acting-free stopped Second pair next role (record { role = refl; other = refl })
passes-free stopped {pair = pair} {next = next} (by_pass First role at may most) =
    acting-free stopped First pair next role (record { role = refl; other = refl })
passes-free stopped {pair = pair} {next = next} (by_pass Second role at may most) =
    acting-free stopped Second pair next role (record { role = refl; other = refl })
passes-free stopped {pair = pair} {next = next} (by_end First role sent at may) =
    acting-free stopped First pair next role (record { role = refl; other = refl })
passes-free stopped {pair = pair} {next = next} (by_end Second role sent at may) =
    acting-free stopped Second pair next role (record { role = refl; other = refl })
passes-free stopped (by_apply First message applied role sent era is put most) = λ roles ok.
    all-free _ (ok.free First role) refl
passes-free stopped (by_apply Second message applied role sent era is put most) = λ roles ok.
    all-free _ refl (ok.free Second role)
passes-free stopped {pair = pair} {next = next} (by_apply_behind First message applied role sent era is put less) =
    λ roles. watching-free First pair next role (record { role = refl; held = refl; other = refl })
passes-free stopped {pair = pair} {next = next} (by_apply_behind Second message applied role sent era is put less) =
    λ roles. watching-free Second pair next role (record { role = refl; held = refl; other = refl })
passes-free stopped {pair = pair} {next = next} (by_acknowledge First taken role sent among era is) =
    acting-free stopped First pair next role (record { role = refl; other = refl })
passes-free stopped {pair = pair} {next = next} (by_acknowledge Second taken role sent among era is) =
    acting-free stopped Second pair next role (record { role = refl; other = refl })

stop-free : (processor : ℕ) (pair : Pair) → HoldsApart pair → HoldsApart (stopped_pair processor pair)
stop-free processor pair ok = record { free = free; one_holds = holds }
  where
    free : (k : Which) → receives (copy_of k (stopped_pair processor pair)).role ≡ true
        → (copy_of k (stopped_pair processor pair)).held ≡ []
    free First r = ok.free First (was-getting (pair.first.processor == processor) pair.first.role r)
    free Second r = ok.free Second (was-getting (pair.second.processor == processor) pair.second.role r)

    holds : (k : Which) → (copy_of k (stopped_pair processor pair)).role ≡ Acting
        → (copy_of (other_of k) (stopped_pair processor pair)).held ≡ []
    holds First acts =
        ok.one_holds First (was-role (pair.first.processor == processor) pair.first.role Acting (λ e. cc) acts)
    holds Second acts =
        ok.one_holds Second (was-role (pair.second.processor == processor) pair.second.role Acting (λ e. cc) acts)

mark-free : (node processor : ℕ) (pair : Pair) (k : Option Which) → HoldsApart pair
    → HoldsApart (renewals_ended node processor (pair_after_down k pair))
mark-free node processor pair None ok = same-free pair _ same ok
  where
    same : (k : Which) → IsSame (copy_of k pair) (copy_of k (renewals_ended node processor pair))
    same First = record { role = refl; held = refl }
    same Second = record { role = refl; held = refl }
mark-free node processor pair (Some First) ok = all-free _ refl refl
mark-free node processor pair (Some Second) ok = all-free _ refl refl

reload-free : (core : Core) (pair : Pair) (one two : Bool) → HoldsApart pair
    → HoldsApart (reloaded_by core pair one two)
reload-free core pair false false ok = ok
reload-free core pair true false ok = record { free = free; one_holds = holds }
  where
    next : Pair
    next = reloaded_by core pair true false

    free : (k : Which) → receives (copy_of k next).role ≡ true → (copy_of k next).held ≡ []
    free First r = refl
    free Second r = ok.free Second r

    holds : (k : Which) → (copy_of k next).role ≡ Acting → (copy_of (other_of k) next).held ≡ []
    holds First acts = absurd (cc)
    holds Second acts = refl
reload-free core pair false true ok = record { free = free; one_holds = holds }
  where
    next : Pair
    next = reloaded_by core pair false true

    free : (k : Which) → receives (copy_of k next).role ≡ true → (copy_of k next).held ≡ []
    free First r = ok.free First r
    free Second r = refl

    holds : (k : Which) → (copy_of k next).role ≡ Acting → (copy_of (other_of k) next).held ≡ []
    holds First acts = refl
    holds Second acts = absurd (cc)
reload-free core pair true true ok = all-free _ refl refl

abbrev AllHoldApart : World → Type 0
AllHoldApart w = (number : ℕ) (pair : Pair) → slice_get w.processes number ≡ Some pair → HoldsApart pair

change-free : {site : Site} (w next : World) (cause : Cause) (sendings : List Sending)
    → Change site w cause sendings next → AllRoles w → AllHoldApart w → AllHoldApart next
change-free w next cause sendings (by_own number k pair there acts causes advances enters fr) roles ok =
    set-all (λ n p. HoldsApart p) w.processes number _ ok
    (acting-free w.stopped k pair _ acts (own-follows k pair _ _ _ enters) (roles number pair there)
    (ok number pair there))
change-free w next cause sendings (by_checkpoint number pair there passes) roles ok =
    set-all (λ n p. HoldsApart p) w.processes number _ ok
    (passes-free w.stopped passes (roles number pair there) (ok number pair there))
change-free w next cause sendings (by_request request k pair among there role) roles ok =
    set-all (λ n p. HoldsApart p) w.processes request.process _ ok
    (same-free pair _ (waiting-same k pair _) (ok request.process pair there))
change-free w next cause sendings (by_early_request request k pair among there role) roles ok =
    set-all (λ n p. HoldsApart p) w.processes request.process _ ok
    (same-free pair _ (waiting-same k pair _) (ok request.process pair there))
change-free w next cause sendings (by_enter number terminal opener there even words opens) roles ok = ok
change-free w next cause sendings (by_print number terminal reply there awaits among opens last) roles ok = ok
change-free w next cause sendings (by_stop processor runs whole) roles ok =
    map-all (λ n p. HoldsApart p) (stopped_pair processor) w.processes
    (λ n p there. stop-free processor p (ok n p there))
change-free w next cause sendings (by_mark node processor stopped runs unmarked) roles ok =
    map-all (λ n p. HoldsApart p) (pair_at_down node processor) w.processes
    (λ n p there. mark-free node processor p (taker node processor p) (ok n p there))
change-free {site = site} w next cause sendings (by_reload x stopped all counted less) roles ok =
    reload-all (λ n p. HoldsApart p) site x w.processes
    (λ n p there. reload-free (new_core site n (slice_get site.processes n) p.first.core) p (p.first.processor == x)
    (p.second.processor == x) (ok n p there))

run-free : (site : Site) (events : List Event) (w : World) → IsRun site events w → AllHoldApart w
run-free site events w run =
    let both = holds-on (λ (x : World). AllRoles x × AllHoldApart x)
    (λ x next cause sendings change old. (
      change-roles x next cause sendings change old.0,
      change-free x next cause sendings change old.0 old.1,
    )) run (
      roles-begin site,
      all-begin (λ n p. HoldsApart p) site (λ n from spec. all-free (pair_at_boot site from spec) refl
          refl),
    ) in both.1

-- The copy that leads

-- a copy that watches or is blank did or was so before, but for a reload
pub becomes-getting : {site : Site} {w : World} {number : ℕ} {pair : Pair} {sent : List ImageMessage} {k : Which}
    {cause : Cause} {after : Copy}
    → Becomes site w number pair sent k cause after → ((x : ℕ) → cause ≡ Reloading x → ⊥)
    → receives after.role ≡ true → receives (copy_of k pair).role ≡ true
becomes-getting becoming.stays on r = r
becomes-getting (becoming.acts acting causes advances enters fr) on r = ap receives (sym (entered-role enters)) ∙ r
becomes-getting (becoming.sends acting at among) on r = r
becomes-getting (becoming.passes acting) on r = r
becomes-getting (becoming.ends acting) on r = r
becomes-getting (becoming.applies message gets among era next put) on r = gets
becomes-getting (becoming.is_told taken acting sent among era is) on r = r
becomes-getting becoming.is_freed on r = r
becomes-getting becoming.needs_less on r = r
becomes-getting (becoming.hears request acting) on r = r
becomes-getting (becoming.hears_early request gets) on r = r
becomes-getting {pair = pair} {k = k} (becoming.stops x) on r =
    was-getting ((copy_of k pair).processor == x) (copy_of k pair).role r
becomes-getting (becoming.takes_over node x takes) on r = absurd (cc)
becomes-getting (becoming.is_blank x here era) on r = absurd (on x refl)
becomes-getting (becoming.renews x there) on r = absurd (on x refl)

-- what a process was before a change by which the same copy leads
record HasLed (w : World) (number : ℕ) (next : Pair) : Type 0 where
  before : Pair
  there : slice_get w.processes number ≡ Some before
  same : next.led ≡ before.led

copy-led : (k : Which) (copy : Copy) (pair : Pair) → (with_copy k copy pair).led ≡ pair.led
copy-led First copy pair = refl
copy-led Second copy pair = refl

passes-led : {number : ℕ} {downs : List _} {kept after : List Act} {pair next : Pair} {cause : Cause}
    {sendings : List Sending}
    → Passes number downs kept pair cause sendings next after → next.led ≡ pair.led
passes-led (by_send k role at sent unmarked) = copy-led k _ _
passes-led (by_pass_again k role at may less) = copy-led k _ _
passes-led (by_pass k role at may most) = copy-led k _ _
passes-led (by_end k role sent at may) = copy-led k _ _
passes-led (by_apply_behind k message applied role sent era is put less) =
    copy-led k _ _ ∙ copy-led (other_of k) _ _
passes-led (by_apply k message applied role sent era is put most) = copy-led k _ _ ∙ copy-led (other_of k) _ _
passes-led (by_acknowledge k taken role sent among era is) = copy-led k _ _

down-led : (node x : ℕ) (k : Option Which) (pair : Pair)
    → (renewals_ended node x (pair_after_down k pair)).led ≡ pair.led
down-led node x None pair = refl
down-led node x (Some First) pair = refl
down-led node x (Some Second) pair = refl

change-led : {site : Site} (w next : World) (cause : Cause) (sendings : List Sending)
    → Change site w cause sendings next → ((x : ℕ) → cause ≡ Reloading x → ⊥)
    → (number : ℕ) (pair : Pair) → slice_get next.processes number ≡ Some pair → HasLed w number pair
change-led w next cause sendings (by_own number k pair there acts causes advances enters fr) on =
    set-all (HasLed w) w.processes number _ (λ n p at. record { before = p; there = at; same = refl })
    (record { before = pair; there = there; same = copy-led k _ _ })
change-led w next cause sendings (by_checkpoint number pair there passes) on =
    set-all (HasLed w) w.processes number _ (λ n p at. record { before = p; there = at; same = refl })
    (record { before = pair; there = there; same = passes-led passes })
change-led w next cause sendings (by_request request k pair among there role) on =
    set-all (HasLed w) w.processes request.process _ (λ n p at. record { before = p; there = at; same = refl })
    (record { before = pair; there = there; same = copy-led k _ _ })
change-led w next cause sendings (by_early_request request k pair among there role) on =
    set-all (HasLed w) w.processes request.process _ (λ n p at. record { before = p; there = at; same = refl })
    (record { before = pair; there = there; same = copy-led k _ _ })
change-led w next cause sendings (by_enter number terminal opener there even words opens) on =
    λ n p at. record { before = p; there = at; same = refl }
change-led w next cause sendings (by_print number terminal reply there awaits among opens last) on =
    λ n p at. record { before = p; there = at; same = refl }
change-led w next cause sendings (by_stop x runs whole) on =
    map-all (HasLed w) (stopped_pair x) w.processes (λ n p at. record { before = p; there = at; same = refl })
change-led w next cause sendings (by_mark node x stopped runs unmarked) on =
    map-all (HasLed w) (pair_at_down node x) w.processes
    (λ n p at. record { before = p; there = at; same = down-led node x (taker node x p) p })
change-led w next cause sendings (by_reload x stopped all counted less) on = absurd (on x refl)

-- the copy that leads neither watches nor is blank
abbrev Leads : Pair → Type 0
Leads pair = receives (copy_of pair.led pair).role ≡ false

abbrev AllLead : World → Type 0
AllLead w = (number : ℕ) (pair : Pair) → slice_get w.processes number ≡ Some pair → Leads pair

led-stays : (pair next : Pair) → next.led ≡ pair.led
    → ((k : Which) → receives (copy_of k next).role ≡ true → receives (copy_of k pair).role ≡ true) → Leads pair
    → Leads next
led-stays pair next same gets ok = by (receives (copy_of next.led next).role) refl
  where
    by : (b : Bool) → receives (copy_of next.led next).role ≡ b → b ≡ false
    by false e = refl
    by true e =
        let was : receives (copy_of pair.led pair).role ≡ true =
        subst (λ k. receives (copy_of k pair).role ≡ true) same (gets next.led e) in
        absurd (let both = sym was ∙ ok in cc)

-- after a reload the copy that acts leads
reload-leads : (core : Core) (pair : Pair) (one two : Bool)
    → (one ≡ true → (pair.second.role ≡ Acting) × (two ≡ false)) → (two ≡ true → pair.first.role ≡ Acting)
    → Leads pair → Leads (reloaded_by core pair one two)
reload-leads core pair false false second first ok = ok
reload-leads core pair true false second first ok = ap receives (second refl).0
reload-leads core pair false true second first ok = ap receives (first refl)
reload-leads core pair true true second first ok = absurd (let both = (second refl).1 in cc)

not-reloaded : {site : Site} (w next : World) (cause : Cause) (sendings : List Sending)
    → Change site w cause sendings next → ((x : ℕ) → cause ≡ Reloading x → ⊥) → AllLead w → AllLead next
not-reloaded w next cause sendings change on ok number pair at =
    let led = change-led w next cause sendings change on number pair at in
    led-stays led.before pair led.same
    (λ k. becomes-getting
    (change-copy w next cause sendings number led.before pair k change led.there at) on)
    (ok number led.before led.there)

acts-apart : {cause : Cause} {x : ℕ} → acts_by cause ≡ 1 → cause ≡ Reloading x → ⊥
acts-apart one is = let none = ap acts_by (sym is) ∙ one in cc

-- a change is no reload, or the copies that act lead after it
reloads-or : (site : Site) → IsPlaced site → (w next : World) (cause : Cause) (sendings : List Sending)
    → Change site w cause sendings next → AllKept site w → AllLead w
    → ((x : ℕ) → cause ≡ Reloading x → ⊥) ⊎ AllLead next
reloads-or site placed w next cause sendings (by_own number k pair there acts causes advances enters fr) kept ok =
    inl (λ x is. acts-apart (causes-one causes) is)
reloads-or site placed w next cause sendings (by_checkpoint number pair there passes) kept ok =
    inl (λ x is. acts-apart (passes-one passes) is)
reloads-or site placed w next cause sendings (by_request request k pair among there role) kept ok = inl (λ x is. cc)
reloads-or site placed w next cause sendings (by_early_request request k pair among there role) kept ok =
    inl (λ x is. cc)
reloads-or site placed w next cause sendings (by_enter number terminal opener there even words opens) kept ok =
    inl (λ x is. cc)
reloads-or site placed w next cause sendings (by_print number terminal reply there awaits among opens last) kept ok =
    inl (λ x is. cc)
reloads-or site placed w next cause sendings (by_stop x runs whole) kept ok = inl (λ y is. cc)
reloads-or site placed w next cause sendings (by_mark node x stopped runs unmarked) kept ok = inl (λ y is. cc)
reloads-or site placed w next cause sendings (by_reload x stopped all counted less) kept ok =
    inr (reload-all (λ n p. Leads p) site x w.processes (λ n p there.
    (let acts = survives site placed w kept x (record { down = stopped; all = all }) n p there in
    reload-leads (new_core site n (slice_get site.processes n) p.first.core) p (p.first.processor == x)
    (p.second.processor == x) acts.0 (λ e. (acts.1 e).0) (ok n p there))))

change-leads : (site : Site) → IsPlaced site → (w next : World) (cause : Cause) (sendings : List Sending)
    → Change site w cause sendings next → AllKept site w → AllLead w → AllLead next
change-leads site placed w next cause sendings change kept ok =
    elim (reloads-or site placed w next cause sendings change kept ok) [
      | inl on ↦ not-reloaded w next cause sendings change on ok
      | inr leads ↦ leads
    ]

run-leads : (site : Site) (events : List Event) (w : World) → IsPlaced site → IsRun site events w → AllLead w
run-leads site events w placed run =
    (holds-on (λ (x : World). AllKept site x × AllLead x) (λ x next cause sendings change old. (
      change-kept site placed x next cause sendings change old.0,
      change-leads site placed x next cause sendings change old.0 old.1,
    )) run (run-kept placed stays, all-begin (λ n p. Leads p) site (λ n from spec. refl))).1

-- Marks

-- the node of a copy that watches or is blank hasn't marked the other one's processor
unmarked-yet : (w : World) (role : Role) (here there : ℕ) → AreStopped w → Waits w.stopped w.downs role here there
    → receives role ≡ true → has_marked w.downs here there ≡ false
unmarked-yet w role here there down waits r = by (has_marked w.downs here there) refl role refl r
  where
    by : (b : Bool) → has_marked w.downs here there ≡ b → (one : Role) → role ≡ one → receives one ≡ true → b ≡ false
    by false e one same r = refl
    by true e Watching same r = absurd (waits.unmarked same e)
    by true e Blank same r = absurd (waits.blank same there (marked-down w.stopped w.downs here there down e))
    by true e Acting same r = absurd (cc)
    by true e Gone same r = absurd (cc)

-- What the site has is there

pairs-there : (site : Site) (from : ℕ) (specs : List ProcessSpec) (number : ℕ) (spec : ProcessSpec)
    → slice_get specs number ≡ Some spec
    → (pair : Pair) × (slice_get (pairs_at_boot site from specs) number ≡ Some pair)
pairs-there site from [] number spec there = absurd (cc)
pairs-there site from (one ∷ specs) zero spec there = (pair_at_boot site from one, refl)
pairs-there site from (one ∷ specs) (suc number) spec there = pairs-there site (from + 1) specs number spec there

terminals-there : (terminals : List TerminalSpec) (number : ℕ) (spec : TerminalSpec)
    → slice_get terminals number ≡ Some spec
    → (terminal : Terminal) × (slice_get (map (λ (one : TerminalSpec). record { entered = 0; printed = 0 }) terminals)
    number ≡ Some terminal)
terminals-there [] number spec there = absurd (cc)
terminals-there (one ∷ terminals) zero spec there = (record { entered = 0; printed = 0 }, refl)
terminals-there (one ∷ terminals) (suc number) spec there = terminals-there terminals number spec there

-- the processes and terminals of a world are those of its site
record AreThere (site : Site) (w : World) : Type 0 where
  processes : (number : ℕ) (spec : ProcessSpec) → slice_get site.processes number ≡ Some spec
      → (pair : Pair) × (slice_get w.processes number ≡ Some pair)
  terminals : (number : ℕ) (spec : TerminalSpec) → slice_get site.terminals number ≡ Some spec
      → (terminal : Terminal) × (slice_get w.terminals number ≡ Some terminal)

change-there : {site : Site} (w next : World) (cause : Cause) (sendings : List Sending)
    → Change site w cause sendings next → AreThere site w → AreThere site next
change-there w next cause sendings change seats = record {
  processes = λ number spec there. (let was = seats.processes number spec there in
      let now = change-later w next cause sendings change number was.0 was.1 in (now.0, now.1));
  terminals = λ number spec there. (let was = seats.terminals number spec there in
      let now = change-terminals w next cause sendings change number was.0 was.1 in (now.0, now.1));
}

run-there : (site : Site) (events : List Event) (w : World) → IsRun site events w → AreThere site w
run-there site events w run = holds-on (AreThere site) change-there run (record {
  processes = pairs-there site 0 site.processes;
  terminals = terminals-there site.terminals;
})

-- All of it

seated : (site : Site) (w : World) (number : ℕ) (pair : Pair) → IsPlaced site → AllKept site w
    → slice_get w.processes number ≡ Some pair → HoldsApart pair → Leads pair → IsSeated w.stopped w.downs pair
seated site w number pair placed kept there ok leads =
    let seat = kept.seated.pairs number pair there in
    let places = placed number seat.0 seat.1 in
    let waits = kept.steady.pairs number pair there in
    record {
      first = rw (kept.seated.processors, seat.2) places.0;
      second = rw (kept.seated.processors, seat.3) places.1;
      apart = λ e. places.2 (sym seat.2 ∙ e ∙ seat.3);
      leads = leads;
      unmarked = unmarked waits.first waits.second;
      free = ok.free;
      one_holds = ok.one_holds;
    }
  where
    unmarked : Waits w.stopped w.downs pair.first.role pair.first.processor pair.second.processor
        → Waits w.stopped w.downs pair.second.role pair.second.processor pair.first.processor
        → (k : Which) → receives (copy_of k pair).role ≡ true
        → has_marked w.downs (copy_of k pair).processor (copy_of (other_of k) pair).processor ≡ false
    unmarked one two First r =
        unmarked-yet w pair.first.role pair.first.processor pair.second.processor kept.downs one r
    unmarked one two Second r =
        unmarked-yet w pair.second.role pair.second.processor pair.first.processor kept.downs two r

pub placed-seats : (site : Site) (events : List Event) (w : World) → IsPlaced site → IsRun site events w
    → AreSeated site w
placed-seats site events w placed run =
    let kept = run-kept placed run in
    let there = run-there site events w run in
    record {
      processors = kept.seated.processors;
      pairs = λ number pair at. seated site w number pair placed kept at (run-free site events w run number pair at)
          (run-leads site events w placed run number pair at);
      processes = there.processes;
      terminals = there.terminals;
    }

pub run-seats : (site : Site) (events : List Event) (w : World) → IsLaidOut site → IsRun site events w
    → AreSeated site w
run-seats site events w out run = placed-seats site events w out.places run
