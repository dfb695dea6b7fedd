-- What is so of each world of a run in which nothing was loaded again.
use Rattle.std.proofs.Common.{◌≡◌, ◌≢◌, ◌≤◌, inl, inr, ℕ, suc, ◌+◌, ◌&&◌, not, Bool, true, false}
use Rattle.std.proofs.Common.{if◌then◌else◌, List, [], ◌∷◌, Option, Some, None, slice_get, slice_set, refl, ap}
use Rattle.std.proofs.Common.{sym, subst, ◌∙◌, arith}
use Rattle.std.proofs.lemmas.Bool.{and_from}
use Rattle.std.specs.List.{list_any}
use Rattle.gd_words.specs.Members.{IsAmong}
use Rattle.gd_words.specs.declared.message.Request.{Request}
use Rattle.tal_tree.specs.declared.act.Act.{Act}
use Rattle.tal_tree.specs.declared.site.OpenerSpec.{OpenerSpec}
use Rattle.tal_tree.specs.declared.site.Site.{Site}
use Rattle.schedule.specs.declared.event.Event.{Event}
use Rattle.process_semantics.specs.Process as process
use Rattle.process_semantics.specs.Process.{ProcessState}
use Rattle.process_semantics.specs.declared.point.Point.TheVariants as point
use Rattle.world_semantics.specs.disc_device.specs.Sectors.{Stored}
use Rattle.checkpoint_image.specs.declared.message.ImageMessage.{ImageMessage}
use Rattle.world_semantics.specs.declared.role.Role.{Role}
use Rattle.world_semantics.specs.declared.role.Role.TheVariants.{Acting, Watching, Blank, Gone}
use Rattle.world_semantics.specs.declared.which.Which.{Which}
use Rattle.world_semantics.specs.declared.which.Which.TheVariants.{First, Second}
use Rattle.world_semantics.specs.Core.{Advances, Core, Deed, gets}
use Rattle.world_semantics.specs.Follows.{IsRun}
use Rattle.world_semantics.specs.Kept.{Enters, begins, holds_on, keeps, repeats}
use Rattle.world_semantics.specs.Laws.{IsPlaced}
use Rattle.world_semantics.specs.Messages.{Cause, Entering, Handing, Message, MarkingDown, Reloading, Running, Sending}
use Rattle.world_semantics.specs.Messages.{Stopping}
use Rattle.world_semantics.specs.Own.{Around, Causes, by_answer, by_ask, by_device, by_inner, by_reply, by_take}
use Rattle.world_semantics.specs.Own.{by_write}
use Rattle.world_semantics.specs.Passes.{MaySend, Passes, by_acknowledge, by_apply, by_apply_behind, by_end, by_pass}
use Rattle.world_semantics.specs.Passes.{by_pass_again, by_send, point_at}
use Rattle.world_semantics.specs.Rules.{Change, IsFreeFor, by_checkpoint, by_early_request, by_enter, by_mark, by_own}
use Rattle.world_semantics.specs.Rules.{by_print, by_reload, by_request, by_stop, pair_after_down, pair_at_down}
use Rattle.world_semantics.specs.Rules.{renewals_ended, stopped_pair, taker}
use Rattle.world_semantics.specs.World.{Copy, Down, Pair, World, boot, copy_of, is_pair_of, is_whole, other_of}
use Rattle.world_semantics.specs.World.{receives, with_copy}
use Rattle.world_semantics.proofs.Beginning.{all-begin}
use Rattle.world_semantics.proofs.Lists.{map-all, set-all, set-there}
use Rattle.world_semantics.proofs.Reached.{run-kept}
use Rattle.world_semantics.proofs.Runs.{holds-on}
use Rattle.reload_guards.specs.Without.{HasNoReload, HasNoStop}

-- a copy isn't blank and hasn't to send everything; where it watches it has sent nothing, and what it has sent it sent
-- at a checkpoint at which it still stands
pub record IsPlain (role : Role) (renews has_sent : Bool) (state : ProcessState) : Type 0 where
  pub blank : role ≡ Blank → ⊥
  pub renewal : renews ≡ false
  pub watching : role ≡ Watching → has_sent ≡ false
  pub sent : has_sent ≡ true → process.point state ≡ point.AtCheckpoint

abbrev pub IsPlainCopy : Copy → Type 0
IsPlainCopy copy = IsPlain copy.role copy.renewal copy.sent copy.core.state

-- both copies of a process are so, the first one leads, and until a stop one of them acts and the other one watches
pub record ArePlain (stopped : List Bool) (role back_role : Role) (renews back_renews : Bool)
    (has_sent back_sent : Bool) (state back : ProcessState) (leads : Which) : Type 0 where
  pub first : IsPlain role renews has_sent state
  pub second : IsPlain back_role back_renews back_sent back
  pub led : leads ≡ First
  pub roles : ((processor : ℕ) → slice_get stopped processor ≡ Some true → ⊥) → is_pair_of role back_role ≡ true

abbrev pub PlainPair : List Bool → Pair → Type 0
PlainPair stopped pair =
    ArePlain stopped pair.first.role pair.second.role pair.first.renewal pair.second.renewal pair.first.sent
    pair.second.sent pair.first.core.state pair.second.core.state pair.led

abbrev pub AllPlain : World → Type 0
AllPlain w = HasNoReload w → (number : ℕ) (pair : Pair) → slice_get w.processes number ≡ Some pair
    → PlainPair w.stopped pair

pub false-not : {b : Bool} → b ≡ false → b ≡ true → ⊥
false-not e t = let bad : false ≡ true = sym e ∙ t in cc

-- Acts

-- a copy that does an act has sent nothing
pub unsent : {site : Site} {number node : ℕ} {core next : Core} {before after : Around} {cause : Cause} {deed : Deed}
    {act : Act} {messages : List Message} {openers : List OpenerSpec} (copy : Copy)
    → Causes site number node core before cause deed act messages after → Advances openers core deed next
    → IsFreeFor cause copy → (copy.sent ≡ true → process.point core.state ≡ point.AtCheckpoint) → copy.sent ≡ true → ⊥
unsent copy by_inner advances free at sent = false-not free.0 sent
unsent copy (by_take is) advances free at sent = false-not free.0 sent
unsent copy by_ask advances free at sent = false-not free.0 sent
unsent copy (by_answer there) advances free at sent = false-not free.0 sent
unsent copy (by_device stood) advances free at sent = false-not free.0 sent
unsent copy (by_write new) advances free at sent = false-not free.0 sent
unsent copy (by_reply among is last said) (gets stands named) free at sent =
    let bad : point.AtCheckpoint ≡ point.Await = sym (at sent) ∙ stands in cc

moved : {role : Role} {renewal sent : Bool} {state : ProcessState} (next : ProcessState)
    → IsPlain role renewal sent state → (sent ≡ true → ⊥) → IsPlain role renewal sent next
moved next p none =
    record { blank = p.blank; renewal = p.renewal; watching = p.watching; sent = λ s. absurd (none s) }

entered-plain : {number : ℕ} {act : Act} {kept after : List Act} {copy entered : Copy} (core : Core)
    → Enters number act kept copy entered after → IsPlainCopy copy → (copy.sent ≡ true → ⊥)
    → IsPlain entered.role entered.renewal entered.sent core.state
entered-plain core (holds_on e) p none = moved core.state p none
entered-plain core (repeats e l) p none = moved core.state p none
entered-plain core (begins e l t) p none = moved core.state p none
entered-plain core (keeps e l t) p none = moved core.state p none

pub entered-role : {number : ℕ} {act : Act} {kept after : List Act} {copy entered : Copy}
    → Enters number act kept copy entered after → entered.role ≡ copy.role
entered-role (holds_on e) = refl
entered-role (repeats e l) = refl
entered-role (begins e l t) = refl
entered-role (keeps e l t) = refl

own-plain : (stopped : List Bool) (k : Which) (pair : Pair) (core : Core) (waiting : List Request)
    (sectors : List Stored) {number : ℕ} {act : Act} {kept after : List Act} {entered : Copy}
    → Enters number act kept (copy_of k pair) entered after → ((copy_of k pair).sent ≡ true → ⊥)
    → PlainPair stopped pair
    → PlainPair stopped (with_copy k (record entered { core = core; waiting = waiting })
    (record pair { sectors = sectors }))
own-plain stopped First pair core waiting sectors e none ok = record {
  first = entered-plain core e ok.first none;
  second = ok.second;
  led = ok.led;
  roles = λ runs. subst (λ (r : Role). is_pair_of r pair.second.role ≡ true) (sym (entered-role e)) (ok.roles runs);
}
own-plain stopped Second pair core waiting sectors e none ok = record {
  first = ok.first;
  second = entered-plain core e ok.second none;
  led = ok.led;
  roles = λ runs. subst (λ (r : Role). is_pair_of pair.first.role r ≡ true) (sym (entered-role e)) (ok.roles runs);
}

-- Checkpoints

-- a copy that sends one stands at a checkpoint
sends-at : (copy : Copy) → IsPlainCopy copy → MaySend copy → point_at copy ≡ point.AtCheckpoint
sends-at copy p (inl at) = at
sends-at copy p (inr both) = absurd (false-not p.renewal both.0)

sending : (copy : Copy) → copy.role ≡ Acting → IsPlainCopy copy → MaySend copy
    → IsPlain copy.role copy.renewal true copy.core.state
sending copy acts p may = record {
  blank = p.blank;
  renewal = p.renewal;
  watching = λ w. absurd (let bad : Acting ≡ Watching = sym acts ∙ w in cc);
  sent = λ s. sends-at copy p may;
}

done-sending : {role : Role} {renewal sent : Bool} {state : ProcessState} (next : ProcessState)
    → IsPlain role renewal sent state → IsPlain role renewal false next
done-sending next p = record { blank = p.blank; renewal = p.renewal; watching = λ w. refl; sent = λ s. absurd cc }

-- a copy that gets checkpoints watches
pub watches : (role : Role) → (role ≡ Blank → ⊥) → receives role ≡ true → role ≡ Watching
watches Watching none gets_them = refl
watches Blank none gets_them = absurd (none refl)
watches Acting none gets_them = absurd cc
watches Gone none gets_them = absurd cc

getting : {role : Role} {renewal sent : Bool} {state : ProcessState} (next : ProcessState)
    → IsPlain role renewal sent state → receives role ≡ true → IsPlain Watching renewal sent next
getting {role = role} next p gets_them =
    let none = p.watching (watches role p.blank gets_them) in
    record { blank = λ b. cc; renewal = p.renewal; watching = λ w. none; sent = λ s. absurd (false-not none s) }

pair-gets : {stopped : List Bool} {first second : Role} {one two sent other : Bool} {state back : ProcessState}
    {led : Which} (next : ProcessState) → ArePlain stopped first second one two sent other state back led
    → receives first ≡ true → ArePlain stopped Watching second one two sent other next back led
pair-gets {first = first} {second = second} next ok gets_them = record {
  first = getting next ok.first gets_them;
  second = ok.second;
  led = ok.led;
  roles = λ runs. subst (λ (r : Role). is_pair_of r second ≡ true) (watches first ok.first.blank gets_them)
      (ok.roles runs);
}

other-gets : {stopped : List Bool} {first second : Role} {one two sent other : Bool} {state back : ProcessState}
    {led : Which} (next : ProcessState) → ArePlain stopped first second one two sent other state back led
    → receives second ≡ true → ArePlain stopped first Watching one two sent other state next led
other-gets {first = first} {second = second} next ok gets_them = record {
  first = ok.first;
  second = getting next ok.second gets_them;
  led = ok.led;
  roles = λ runs. subst (λ (r : Role). is_pair_of first r ≡ true) (watches second ok.second.blank gets_them)
      (ok.roles runs);
}

told : {role : Role} {renewal sent : Bool} {state : ProcessState} → IsPlain role renewal sent state
    → IsPlain role false sent state
told p = record { blank = p.blank; renewal = refl; watching = p.watching; sent = p.sent }

passes-plain : (stopped : List Bool) {number : ℕ} {downs : List Down} {kept after : List Act} {pair next : Pair}
    {cause : Cause} {sendings : List Sending} → Passes number downs kept pair cause sendings next after
    → PlainPair stopped pair → PlainPair stopped next
passes-plain stopped {pair = pair} (by_send First role may none unmarked) ok = record {
  first = sending pair.first role ok.first may;
  second = ok.second;
  led = ok.led;
  roles = ok.roles;
}
passes-plain stopped {pair = pair} (by_send Second role may none unmarked) ok = record {
  first = ok.first;
  second = sending pair.second role ok.second may;
  led = ok.led;
  roles = ok.roles;
}
passes-plain stopped (by_pass_again First role at may less) ok =
    record { first = done-sending _ ok.first; second = ok.second; led = ok.led; roles = ok.roles }
passes-plain stopped (by_pass_again Second role at may less) ok =
    record { first = ok.first; second = done-sending _ ok.second; led = ok.led; roles = ok.roles }
passes-plain stopped (by_pass First role at may most) ok =
    record { first = done-sending _ ok.first; second = ok.second; led = ok.led; roles = ok.roles }
passes-plain stopped (by_pass Second role at may most) ok =
    record { first = ok.first; second = done-sending _ ok.second; led = ok.led; roles = ok.roles }
passes-plain stopped (by_end First role sent away may) ok =
    record { first = done-sending _ ok.first; second = ok.second; led = ok.led; roles = ok.roles }
passes-plain stopped (by_end Second role sent away may) ok =
    record { first = ok.first; second = done-sending _ ok.second; led = ok.led; roles = ok.roles }
passes-plain stopped (by_apply_behind First message applied role sent era is put less) ok =
    pair-gets applied.state ok role
passes-plain stopped (by_apply_behind Second message applied role sent era is put less) ok =
    other-gets applied.state ok role
passes-plain stopped (by_apply First message applied role sent era is put most) ok = pair-gets applied.state ok role
passes-plain stopped (by_apply Second message applied role sent era is put most) ok = other-gets applied.state ok role
passes-plain stopped (by_acknowledge First taken role sent among era is) ok =
    record { first = told ok.first; second = ok.second; led = ok.led; roles = ok.roles }
passes-plain stopped (by_acknowledge Second taken role sent among era is) ok =
    record { first = ok.first; second = told ok.second; led = ok.led; roles = ok.roles }

waiting-plain : (stopped : List Bool) (k : Which) (pair : Pair) (waiting : List Request) → PlainPair stopped pair
    → PlainPair stopped (with_copy k (record (copy_of k pair) { waiting = waiting }) pair)
waiting-plain stopped First pair waiting ok = ok
waiting-plain stopped Second pair waiting ok = ok

-- Stops and marks

stopped-plain : {role : Role} {renewal sent : Bool} {state : ProcessState} (test : Bool)
    → IsPlain role renewal sent state → IsPlain (if test then Gone else role) renewal sent state
stopped-plain false p = p
stopped-plain true p =
    record { blank = λ b. cc; renewal = p.renewal; watching = λ w. absurd cc; sent = p.sent }

stop-plain : (stopped : List Bool) (x : ℕ) → slice_get stopped x ≡ Some false → (pair : Pair)
    → PlainPair stopped pair → PlainPair (slice_set stopped x true) (stopped_pair x pair)
stop-plain stopped x runs pair ok = record {
  first = stopped-plain _ ok.first;
  second = stopped-plain _ ok.second;
  led = ok.led;
  roles = λ none. absurd (none x (set-there stopped x false true runs));
}

taking : {role : Role} {renewal sent : Bool} {state : ProcessState} → IsPlain role renewal sent state
    → IsPlain Acting renewal sent state
taking p = record { blank = λ b. cc; renewal = p.renewal; watching = λ w. absurd cc; sent = p.sent }

taken-plain : (stopped : List Bool) (x : ℕ) → slice_get stopped x ≡ Some true → (k : Option Which) (pair : Pair)
    → PlainPair stopped pair → PlainPair stopped (pair_after_down k pair)
taken-plain stopped x gone None pair ok = ok
taken-plain stopped x gone (Some First) pair ok =
    record { first = taking ok.first; second = ok.second; led = ok.led; roles = λ none. absurd (none x gone) }
taken-plain stopped x gone (Some Second) pair ok =
    record { first = ok.first; second = taking ok.second; led = ok.led; roles = λ none. absurd (none x gone) }

fewer : {role : Role} {renewal sent : Bool} {state : ProcessState} (test : Bool) → IsPlain role renewal sent state
    → IsPlain role (renewal && test) sent state
fewer {renewal = renewal} test p =
    record { blank = p.blank; renewal = by renewal p.renewal; watching = p.watching; sent = p.sent }
  where
    by : (b : Bool) → b ≡ false → (b && test) ≡ false
    by true e = absurd cc
    by false e = refl

ended-plain : (stopped : List Bool) (node x : ℕ) (pair : Pair) → PlainPair stopped pair
    → PlainPair stopped (renewals_ended node x pair)
ended-plain stopped node x pair ok =
    record { first = fewer _ ok.first; second = fewer _ ok.second; led = ok.led; roles = ok.roles }

-- All changes

pub plain-sent : {stopped : List Bool} (k : Which) (pair : Pair) → PlainPair stopped pair
    → (copy_of k pair).sent ≡ true → process.point (copy_of k pair).core.state ≡ point.AtCheckpoint
plain-sent First pair p = p.first.sent
plain-sent Second pair p = p.second.sent

-- what is loaded again is counted
pub none-reloaded : (reloads : List ℕ) (x times : ℕ) → slice_get reloads x ≡ Some times
    → ((processor k : ℕ) → slice_get (slice_set reloads x (times + 1)) processor ≡ Some k → k ≡ 0) → ⊥
none-reloaded reloads x times there none =
    let bad = none x (times + 1) (set-there reloads x times (times + 1) there) in omega (arith, bad)

pub change-plain : {site : Site} (w next : World) (cause : Cause) (sendings : List Sending)
    → Change site w cause sendings next → AllPlain w → AllPlain next
change-plain w next cause sendings (by_own number k pair there acts causes advances enters free) ok none =
    set-all (λ n p. PlainPair w.stopped p) w.processes number _ (ok none)
    (own-plain w.stopped k pair _ _ _ enters
    (unsent (copy_of k pair) causes advances free (plain-sent k pair (ok none number pair there)))
    (ok none number pair there))
change-plain w next cause sendings (by_checkpoint number pair there passes) ok none =
    set-all (λ n p. PlainPair w.stopped p) w.processes number _ (ok none)
    (passes-plain w.stopped passes (ok none number pair there))
change-plain w next cause sendings (by_request request k pair among there role) ok none =
    set-all (λ n p. PlainPair w.stopped p) w.processes request.process _ (ok none)
    (waiting-plain w.stopped k pair _ (ok none request.process pair there))
change-plain w next cause sendings (by_early_request request k pair among there role) ok none =
    set-all (λ n p. PlainPair w.stopped p) w.processes request.process _ (ok none)
    (waiting-plain w.stopped k pair _ (ok none request.process pair there))
change-plain w next cause sendings (by_enter number terminal opener there even asked opens) ok none = ok none
change-plain w next cause sendings (by_print number terminal reply there odd among opens same) ok none = ok none
change-plain w next cause sendings (by_stop x runs whole) ok none =
    map-all (λ n p. PlainPair (slice_set w.stopped x true) p) (stopped_pair x) w.processes
    (λ n p there. stop-plain w.stopped x runs p (ok none n p there))
change-plain w next cause sendings (by_mark node x gone runs new) ok none =
    map-all (λ n p. PlainPair w.stopped p) (pair_at_down node x) w.processes
    (λ n p there. ended-plain w.stopped node x (pair_after_down (taker node x p) p)
    (taken-plain w.stopped x gone (taker node x p) p (ok none n p there)))
change-plain w next cause sendings (by_reload {times = times} x gone is_marked there few) ok none =
    absurd (none-reloaded w.reloads x times there none)

pub begins-plain : (site : Site) → AllPlain (boot site)
begins-plain site none =
    all-begin (λ n p. PlainPair (boot site).stopped p) site (λ number from spec. record {
      first = record { blank = λ b. cc; renewal = refl; watching = λ w. refl; sent = λ s. absurd cc };
      second = record { blank = λ b. cc; renewal = refl; watching = λ w. refl; sent = λ s. absurd cc };
      led = refl;
      roles = λ runs. refl;
    })

pub run-plain : {site : Site} {events : List Event} {w : World} → IsRun site events w → AllPlain w
run-plain {site = site} run = holds-on AllPlain change-plain run (begins-plain site)

-- What follows

module _ {site : Site} {events : List Event} {w : World} (run : IsRun site events w) (none : HasNoReload w)
    (number : ℕ) {pair : Pair} (there : slice_get w.processes number ≡ Some pair) where
  pub plain-of : (k : Which) → IsPlainCopy (copy_of k pair)
  plain-of First = (run-plain run none number pair there).first
  plain-of Second = (run-plain run none number pair there).second

  pub first-leads : pair.led ≡ First
  first-leads = (run-plain run none number pair there).led

  pub sends-where : (k : Which) → MaySend (copy_of k pair) → point_at (copy_of k pair) ≡ point.AtCheckpoint
  sends-where k may = sends-at (copy_of k pair) (plain-of k) may

  pub free-away : (k : Which) (cause : Cause) → point_at (copy_of k pair) ≢ point.AtCheckpoint
      → IsFreeFor cause (copy_of k pair)
  free-away k (Running process) away = (by (copy_of k pair).sent refl, (plain-of k).renewal)
    where
      by : (b : Bool) → (copy_of k pair).sent ≡ b → b ≡ false
      by true s = absurd (away ((plain-of k).sent s))
      by false s = refl
  free-away k (Entering terminal) away = tt
  free-away k (Handing node message) away = tt
  free-away k (Stopping processor) away = tt
  free-away k (MarkingDown node processor) away = tt
  free-away k (Reloading processor) away = tt

  -- what is applied next was sent where the other copy stands
  pub applied-where : IsPlaced site → (k : Which) (message : ImageMessage) → receives (copy_of k pair).role ≡ true
      → IsAmong message pair.checkpoints → message.era ≡ (copy_of k pair).era
      → message.number ≡ (copy_of k pair).number + 1 → point_at (copy_of (other_of k) pair) ≡ point.AtCheckpoint
  applied-where placed First message gets_them among era is =
      let b = ((run-kept placed run).seen number pair there).1.behind gets_them in
      let most = b.checkpoint message among (era ∙ b.same_era) in
      (plain-of Second).sent (by pair.second.sent refl b.free most)
    where
      by : (s : Bool) → pair.second.sent ≡ s → (pair.second.sent ≡ false → pair.first.number ≡ pair.second.number)
          → message.number ≤ pair.second.number → pair.second.sent ≡ true
      by true s even most = s
      by false s even most = let same = even s in absurd (omega (arith, same, most, is))
  applied-where placed Second message gets_them among era is =
      let b = ((run-kept placed run).seen number pair there).0.behind gets_them in
      let most = b.checkpoint message among (era ∙ b.same_era) in
      (plain-of First).sent (by pair.first.sent refl b.free most)
    where
      by : (s : Bool) → pair.first.sent ≡ s → (pair.first.sent ≡ false → pair.second.number ≡ pair.first.number)
          → message.number ≤ pair.first.number → pair.first.sent ≡ true
      by true s even most = s
      by false s even most = let same = even s in absurd (omega (arith, same, most, is))

no-such : {A : Type 0} (test : A → Bool) (xs : List A)
    → ((i : ℕ) (x : A) → slice_get xs i ≡ Some x → test x ≡ false) → list_any test xs ≡ false
no-such test [] none = refl
no-such test (x ∷ xs) none = rw (none 0 x refl) (no-such test xs (λ i y at. none (suc i) y at))

pub whole-where : {site : Site} {events : List Event} {w : World} → IsRun site events w → HasNoReload w
    → HasNoStop w → is_whole w ≡ true
whole-where {w = w} run none runs =
    and_from (not (list_any (λ (b : Bool). b) w.stopped))
    (not (list_any (λ (p : Pair). not (is_pair_of p.first.role p.second.role)) w.processes))
    (ap not (no-such (λ (b : Bool). b) w.stopped (λ i b at. by_stopped i b at)))
    (ap not (no-such (λ (p : Pair). not (is_pair_of p.first.role p.second.role)) w.processes
    (λ i p at. ap not ((run-plain run none i p at).roles runs))))
  where
    by_stopped : (i : ℕ) (b : Bool) → slice_get w.stopped i ≡ Some b → b ≡ false
    by_stopped i true at = absurd (runs i at)
    by_stopped i false at = refl
