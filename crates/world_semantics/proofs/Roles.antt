-- Which copies act: those whose processor hasn't stopped, and of one process at most one.
use Rattle.std.proofs.Common.{◌≡◌, ◌⊎◌, inl, inr, ℕ, zero, suc, ◌==◌, ◌&&◌, Bool, true, false, if◌then◌else◌, List, []}
use Rattle.std.proofs.Common.{◌∷◌, replicate, Option, Some, None, slice_get, slice_set, refl, sym, ap, ◌∙◌, arith}
use Rattle.std.proofs.Common.{subst, ◌+◌}
use Rattle.std.proofs.lemmas.Bool.{eq-eqb, eqb-true}
use Rattle.checkpoint_image.specs.gd_words.specs.declared.message.Request.{Request}
use Rattle.checkpoint_image.specs.tal_tree.specs.declared.act.Act.{Act}
use Rattle.checkpoint_image.specs.tal_tree.specs.declared.site.Site.{Site}
use Rattle.checkpoint_image.specs.tal_tree.specs.declared.site.ProcessSpec.{ProcessSpec}
use Rattle.disc_device.specs.Sectors.{Stored}
use Rattle.world_semantics.specs.declared.role.Role.{Role}
use Rattle.world_semantics.specs.declared.role.Role.TheVariants.{Acting, Watching, Gone, Blank}
use Rattle.world_semantics.specs.Core.{Core}
use Rattle.world_semantics.specs.World.{Copy, Pair, Down, World, Which, First, Second, copy_of, other_of, with_copy}
use Rattle.world_semantics.specs.World.{boot, is_running, runs_by, is_watching, receives}
use Rattle.world_semantics.specs.Kept.{Enters, holds_on, repeats, begins, keeps}
use Rattle.world_semantics.specs.Messages.{Sending, Cause, Reloading}
use Rattle.world_semantics.specs.Passes.{Passes, by_send, by_pass_again, by_pass, by_apply, by_acknowledge}
use Rattle.world_semantics.specs.Passes.{by_apply_behind, by_end}
use Rattle.world_semantics.specs.Rules.{Change, by_own, by_checkpoint, by_request, by_early_request, by_enter, by_print}
use Rattle.world_semantics.specs.Rules.{by_stop, by_mark, stopped_pair, takes_over, taker, pair_after_down}
use Rattle.world_semantics.specs.Rules.{pair_at_down, new_core, by_reload, reloaded_at, reloaded_by, reloaded_from}
use Rattle.world_semantics.proofs.Beginning.{all-begin}
use Rattle.world_semantics.proofs.Lists.{some-same, set-all, map-all, repeated}
use Rattle.world_semantics.proofs.Growing.{stop-stays, runs-again}

-- the roles of two copies in two processors: a copy is gone exactly where its processor has stopped, and at most one
-- acts
pub record Roles (stopped : List Bool) (one : ℕ) (first : Role) (two : ℕ) (second : Role) : Type 0 where
  pub first_gone : slice_get stopped one ≡ Some true → first ≡ Gone
  pub first_lost : first ≡ Gone → slice_get stopped one ≡ Some true
  pub second_gone : slice_get stopped two ≡ Some true → second ≡ Gone
  pub second_lost : second ≡ Gone → slice_get stopped two ≡ Some true
  pub single : first ≡ Acting → second ≡ Acting → ⊥

abbrev pub RolesOf : List Bool → Pair → Type 0
RolesOf stopped pair = Roles stopped pair.first.processor pair.first.role pair.second.processor pair.second.role

abbrev pub AllRoles : World → Type 0
AllRoles w = (number : ℕ) (pair : Pair) → slice_get w.processes number ≡ Some pair → RolesOf w.stopped pair

-- Beginning

pub false-there : (n processor : ℕ) → slice_get (replicate n false) processor ≡ Some true → ⊥
false-there n processor e = let same = repeated n false processor true e in absurd (cc)

pub roles-begin : (site : Site) → AllRoles (boot site)
roles-begin site =
    all-begin (λ n p. RolesOf (replicate site.processors false) p) site (λ number from spec. record {
      first_gone = λ s. absurd (false-there site.processors _ s);
      first_lost = λ g. absurd (cc);
      second_gone = λ s. absurd (false-there site.processors _ s);
      second_lost = λ g. absurd (cc);
      single = λ a g. absurd (cc);
    })

-- Acts and checkpoints change no role

own-roles : (stopped : List Bool) (k : Which) (pair : Pair) (core : Core) (waiting : List Request)
    (sectors : List Stored) {number : ℕ} {act : Act}
    {kept after : List Act} {entered : Copy} → Enters number act kept (copy_of k pair) entered after
    → RolesOf stopped pair
    → RolesOf stopped (with_copy k (record entered { core = core; waiting = waiting })
    (record pair { sectors = sectors }))
own-roles stopped First pair core waiting sectors (holds_on e) ok = ok
own-roles stopped First pair core waiting sectors (repeats e l) ok = ok
own-roles stopped First pair core waiting sectors (begins e l t) ok = ok
own-roles stopped First pair core waiting sectors (keeps e l t) ok = ok
own-roles stopped Second pair core waiting sectors (holds_on e) ok = ok
own-roles stopped Second pair core waiting sectors (repeats e l) ok = ok
own-roles stopped Second pair core waiting sectors (begins e l t) ok = ok
own-roles stopped Second pair core waiting sectors (keeps e l t) ok = ok

receives-not-gone : (role : Role) → receives role ≡ true → role ≡ Gone → ⊥
receives-not-gone Gone r g = cc
receives-not-gone Acting r g = cc
receives-not-gone Watching r g = cc
receives-not-gone Blank r g = cc

-- a copy that receives watches then
first-watches : {stopped : List Bool} {one two : ℕ} {first second : Role} → receives first ≡ true
    → Roles stopped one first two second → Roles stopped one Watching two second
first-watches {first = role} r ok = record {
  first_gone = λ s. absurd (receives-not-gone role r (ok.first_gone s));
  first_lost = λ g. absurd (cc);
  second_gone = ok.second_gone;
  second_lost = ok.second_lost;
  single = λ a b. absurd (cc);
}

second-watches : {stopped : List Bool} {one two : ℕ} {first second : Role} → receives second ≡ true
    → Roles stopped one first two second → Roles stopped one first two Watching
second-watches {second = role} r ok = record {
  first_gone = ok.first_gone;
  first_lost = ok.first_lost;
  second_gone = λ s. absurd (receives-not-gone role r (ok.second_gone s));
  second_lost = λ g. absurd (cc);
  single = λ a b. absurd (cc);
}

passes-roles : {number : ℕ} {downs : List Down} {kept after : List Act} {pair next : Pair} {cause : Cause}
    {sendings : List Sending} (stopped : List Bool)
    → Passes number downs kept pair cause sendings next after → RolesOf stopped pair → RolesOf stopped next
passes-roles stopped (by_send First r p s m) ok = ok
passes-roles stopped (by_send Second r p s m) ok = ok
passes-roles stopped (by_pass_again First r p m l) ok = ok
passes-roles stopped (by_pass_again Second r p m l) ok = ok
passes-roles stopped (by_pass First r p m l) ok = ok
passes-roles stopped (by_pass Second r p m l) ok = ok
passes-roles stopped (by_end First r s p m) ok = ok
passes-roles stopped (by_end Second r s p m) ok = ok
passes-roles stopped (by_apply_behind First message applied r i e n a l) ok = first-watches r ok
passes-roles stopped (by_apply_behind Second message applied r i e n a l) ok = second-watches r ok
passes-roles stopped (by_apply First message applied r i e n a l) ok = first-watches r ok
passes-roles stopped (by_apply Second message applied r i e n a l) ok = second-watches r ok
passes-roles stopped (by_acknowledge First taken r s i e n) ok = ok
passes-roles stopped (by_acknowledge Second taken r s i e n) ok = ok

waiting-roles : (stopped : List Bool) (k : Which) (pair : Pair) (waiting : List Request) → RolesOf stopped pair
    → RolesOf stopped (with_copy k (record (copy_of k pair) { waiting = waiting }) pair)
waiting-roles stopped First pair waiting ok = ok
waiting-roles stopped Second pair waiting ok = ok

-- Stops

stop-there : (stopped : List Bool) (x : ℕ) → slice_get stopped x ≡ Some false
    → slice_get (slice_set stopped x true) x ≡ Some true
stop-there [] x e = absurd (cc)
stop-there (s ∷ stopped) zero e = refl
stop-there (s ∷ stopped) (suc x) e = stop-there stopped x e

stop-elsewhere : (stopped : List Bool) (x processor : ℕ) → (processor ≡ x → ⊥)
    → slice_get (slice_set stopped x true) processor ≡ Some true
    → slice_get stopped processor ≡ Some true
stop-elsewhere [] x processor n e = e
stop-elsewhere (s ∷ stopped) zero zero n e = absurd (n refl)
stop-elsewhere (s ∷ stopped) zero (suc processor) n e = e
stop-elsewhere (s ∷ stopped) (suc x) zero n e = e
stop-elsewhere (s ∷ stopped) (suc x) (suc processor) n e =
    stop-elsewhere stopped x processor (λ same. n (ap suc same)) e

-- a copy in a processor, and after one stops
record Stood (stopped : List Bool) (x processor : ℕ) (role next : Role) : Type 0 where
  pub gone : (slice_get stopped processor ≡ Some true → role ≡ Gone)
      → slice_get (slice_set stopped x true) processor ≡ Some true → next ≡ Gone
  pub lost : (role ≡ Gone → slice_get stopped processor ≡ Some true) → next ≡ Gone
      → slice_get (slice_set stopped x true) processor ≡ Some true
  pub same : (next ≡ Gone) ⊎ (next ≡ role)

stood : (stopped : List Bool) (x processor : ℕ) (role : Role) → slice_get stopped x ≡ Some false → (here : Bool)
    → (processor == x) ≡ here
    → Stood stopped x processor role (if here then Gone else role)
stood stopped x processor role runs true e = record {
  gone = λ h s. refl;
  lost = λ h g. rw (eqb-true processor x e) (stop-there stopped x runs);
  same = inl refl;
}
stood stopped x processor role runs false e = record {
  gone = λ h s. h (stop-elsewhere stopped x processor (λ same. let t = eq-eqb processor x same in cc) s);
  lost = λ h g. stop-stays stopped x processor (h g);
  same = inr refl;
}

was-acting : {role next : Role} → (next ≡ Gone) ⊎ (next ≡ role) → next ≡ Acting → role ≡ Acting
was-acting (inl g) a = absurd (cc)
was-acting (inr same) a = sym same ∙ a

stop-roles : (stopped : List Bool) (x : ℕ) → slice_get stopped x ≡ Some false → (pair : Pair) → RolesOf stopped pair
    → RolesOf (slice_set stopped x true) (stopped_pair x pair)
stop-roles stopped x runs pair ok =
    let one = stood stopped x pair.first.processor pair.first.role runs (pair.first.processor == x) refl in
    let two = stood stopped x pair.second.processor pair.second.role runs (pair.second.processor == x) refl in
    record {
      first_gone = one.gone ok.first_gone;
      first_lost = one.lost ok.first_lost;
      second_gone = two.gone ok.second_gone;
      second_lost = two.lost ok.second_lost;
      single = λ a b. ok.single (was-acting one.same a) (was-acting two.same b);
    }

-- Takeovers

-- which copy takes over: it watches on the node, and the other one's processor is the one that is marked
pub record Takes (node processor : ℕ) (k : Which) (pair : Pair) : Type 0 where
  pub watching : (copy_of k pair).role ≡ Watching
  pub there : (copy_of k pair).processor ≡ node
  pub lost : (copy_of (other_of k) pair).processor ≡ processor

watching-is : (role : Role) → is_watching role ≡ true → role ≡ Watching
watching-is Acting e = absurd (cc)
watching-is Watching e = refl
watching-is Gone e = absurd (cc)
watching-is Blank e = absurd (cc)

pub both-true : (a b : Bool) → (a && b) ≡ true → (a ≡ true) × (b ≡ true)
both-true true b e = (refl, e)
both-true false b e = absurd (cc)

pub takes-is : (node processor : ℕ) (k : Which) (pair : Pair) → takes_over node processor k pair ≡ true
    → Takes node processor k pair
takes-is node processor k pair e =
    let last = both-true (is_watching (copy_of k pair).role && (copy_of k pair).processor == node) _ e in
    let first = both-true (is_watching (copy_of k pair).role) _ last.0 in
    record { watching = watching-is _ first.0; there = eqb-true _ _ first.1; lost = eqb-true _ _ last.1 }

taker-by : (first second : Bool) (k : Which)
    → (if first then Some First else if second then Some Second else None) ≡ Some k
    → ((k ≡ First) × (first ≡ true)) ⊎ ((k ≡ Second) × (second ≡ true))
taker-by true second k e = inl (sym (some-same e), refl)
taker-by false true k e = inr (sym (some-same e), refl)
taker-by false false k e = absurd (cc)

pub taker-is : (node processor : ℕ) (pair : Pair) (k : Which) → taker node processor pair ≡ Some k
    → Takes node processor k pair
taker-is node processor pair k e =
    of-cases (taker-by (takes_over node processor First pair) (takes_over node processor Second pair) k e)
  where
    of-cases : ((k ≡ First) × (takes_over node processor First pair ≡ true))
        ⊎ ((k ≡ Second) × (takes_over node processor Second pair ≡ true))
        → Takes node processor k pair
    of-cases (inl (same, t)) = rw same (takes-is node processor First pair t)
    of-cases (inr (same, t)) = rw same (takes-is node processor Second pair t)

not-running : (node : ℕ) (there : Option Bool) → runs_by node there ≡ true → there ≡ Some true → ⊥
not-running node None r s = cc
not-running node (Some true) r s = cc
not-running node (Some false) r s = cc

pub mark-roles : (stopped : List Bool) (node processor : ℕ) → slice_get stopped processor ≡ Some true
    → is_running stopped node ≡ true
    → (pair : Pair) (k : Option Which) → taker node processor pair ≡ k → RolesOf stopped pair
    → RolesOf stopped (pair_after_down k pair)
mark-roles stopped node processor s r pair None e ok = ok
mark-roles stopped node processor s r pair (Some First) e ok =
    let t = taker-is node processor pair First e in
    record {
      first_gone = λ g. absurd (not-running node (slice_get stopped node) r (ap (slice_get stopped) (sym t.there) ∙ g));
      first_lost = λ g. absurd (cc);
      second_gone = ok.second_gone;
      second_lost = ok.second_lost;
      single = λ a b. (let gone = ok.second_gone (ap (slice_get stopped) t.lost ∙ s) in cc);
    }
mark-roles stopped node processor s r pair (Some Second) e ok =
    let t = taker-is node processor pair Second e in
    record {
      first_gone = ok.first_gone;
      first_lost = ok.first_lost;
      second_gone =
          λ g. absurd (not-running node (slice_get stopped node) r (ap (slice_get stopped) (sym t.there) ∙ g));
      second_lost = λ g. absurd (cc);
      single = λ a b. (let gone = ok.first_gone (ap (slice_get stopped) t.lost ∙ s) in cc);
    }

-- Reloads

-- what holds of each process after a reload holds of all
reload-from : (P : ℕ → Pair → Type 0) (site : Site) (x from : ℕ) (pairs : List Pair)
    → ((j : ℕ) (z : Pair) → slice_get pairs j ≡ Some z
    → P j (reloaded_at site x (from + j) (slice_get site.processes (from + j)) z))
    → (j : ℕ) (z : Pair) → slice_get (reloaded_from site x from pairs) j ≡ Some z → P j z
reload-from P site x from [] all j z e = absurd (cc)
reload-from P site x from (pair ∷ pairs) all zero z e =
    let zeros : from + 0 ≡ from = omega arith in
    subst (P zero) (some-same e) (subst (λ n. P zero (reloaded_at site x n (slice_get site.processes n) pair))
    zeros (all zero pair refl))
reload-from P site x from (pair ∷ pairs) all (suc j) z e =
    reload-from (λ k. P (suc k)) site x (from + 1) pairs
    (λ k y at. (let more : from + suc k ≡ (from + 1) + k = omega arith in
    subst (λ n. P (suc k) (reloaded_at site x n (slice_get site.processes n) y)) more (all (suc k) y at))) j z e

pub reload-all : (P : ℕ → Pair → Type 0) (site : Site) (x : ℕ) (pairs : List Pair)
    → ((j : ℕ) (z : Pair) → slice_get pairs j ≡ Some z → P j (reloaded_at site x j (slice_get site.processes j) z))
    → (j : ℕ) (z : Pair) → slice_get (reloaded_from site x 0 pairs) j ≡ Some z → P j z
reload-all P site x pairs all j z e =
    reload-from P site x 0 pairs (λ k y at.
    subst (λ n. P k (reloaded_at site x n (slice_get site.processes n) y)) (let z : k ≡ 0 + k = omega arith in z)
    (all k y at)) j z e

pub runs-now : (stopped : List Bool) (x : ℕ) → slice_get (slice_set stopped x false) x ≡ Some true → ⊥
runs-now [] x e = cc
runs-now (s ∷ stopped) zero e = cc
runs-now (s ∷ stopped) (suc x) e = runs-now stopped x e

pub apart-of : (a x : ℕ) → (a == x) ≡ false → a ≡ x → ⊥
apart-of a x f same = let t = eq-eqb a x same in cc

reload-roles : (stopped : List Bool) (x : ℕ) → slice_get stopped x ≡ Some true
    → (site : Site) (number : ℕ) (spec : Option ProcessSpec) (pair : Pair) → RolesOf stopped pair
    → RolesOf (slice_set stopped x false) (reloaded_at site x number spec pair)
reload-roles stopped x s site number spec pair ok =
    by (pair.first.processor == x) (pair.second.processor == x) refl refl
  where
    core : Core
    core = new_core site number spec pair.first.core

    stays : (p : ℕ) → (p == x) ≡ false → slice_get (slice_set stopped x false) p ≡ slice_get stopped p
    stays p f = runs-again stopped x p (apart-of p x f)

    never : (p : ℕ) → (p == x) ≡ true → slice_get (slice_set stopped x false) p ≡ Some true → ⊥
    never p t e =
        runs-now stopped x (subst (λ y. slice_get (slice_set stopped x false) y ≡ Some true) (eqb-true p x t) e)

    by : (a b : Bool) → (pair.first.processor == x) ≡ a → (pair.second.processor == x) ≡ b
        → RolesOf (slice_set stopped x false) (reloaded_by core pair a b)
    by false false one two = record {
      first_gone = λ g. ok.first_gone (sym (stays _ one) ∙ g);
      first_lost = λ g. stays _ one ∙ ok.first_lost g;
      second_gone = λ g. ok.second_gone (sym (stays _ two) ∙ g);
      second_lost = λ g. stays _ two ∙ ok.second_lost g;
      single = ok.single;
    }
    by true false one two = record {
      first_gone = λ g. absurd (never _ one g);
      first_lost = λ g. absurd (cc);
      second_gone = λ g. ok.second_gone (sym (stays _ two) ∙ g);
      second_lost = λ g. stays _ two ∙ ok.second_lost g;
      single = λ a b. absurd (cc);
    }
    by false true one two = record {
      first_gone = λ g. ok.first_gone (sym (stays _ one) ∙ g);
      first_lost = λ g. stays _ one ∙ ok.first_lost g;
      second_gone = λ g. absurd (never _ two g);
      second_lost = λ g. absurd (cc);
      single = λ a b. absurd (cc);
    }
    by true true one two = record {
      first_gone = λ g. absurd (never _ one g);
      first_lost = λ g. absurd (cc);
      second_gone = λ g. absurd (never _ two g);
      second_lost = λ g. absurd (cc);
      single = λ a b. absurd (cc);
    }

-- All changes

pub change-roles : {site : Site} (w next : World) (cause : Cause) (sendings : List Sending)
    → Change site w cause sendings next → AllRoles w → AllRoles next
change-roles w next cause sendings (by_own number k pair there acts c a e f) ok =
    set-all (λ n p. RolesOf w.stopped p) w.processes number _ ok
    (own-roles w.stopped k pair _ _ _ e (ok number pair there))
change-roles w next cause sendings (by_checkpoint number pair there p) ok =
    set-all (λ n p. RolesOf w.stopped p) w.processes number _ ok (passes-roles w.stopped p (ok number pair there))
change-roles w next cause sendings (by_request request k pair i there r) ok =
    set-all (λ n p. RolesOf w.stopped p) w.processes request.process _ ok
    (waiting-roles w.stopped k pair _ (ok request.process pair there))
change-roles w next cause sendings (by_early_request request k pair i there r) ok =
    set-all (λ n p. RolesOf w.stopped p) w.processes request.process _ ok
    (waiting-roles w.stopped k pair _ (ok request.process pair there))
change-roles w next cause sendings (by_enter number terminal opener t e r o) ok = ok
change-roles w next cause sendings (by_print number terminal reply t e i o n) ok = ok
change-roles w next cause sendings (by_stop x r h) ok =
    map-all (λ n p. RolesOf (slice_set w.stopped x true) p) (stopped_pair x) w.processes
    (λ n p there. stop-roles w.stopped x r p (ok n p there))
change-roles w next cause sendings (by_mark node x s r n) ok =
    map-all (λ n p. RolesOf w.stopped p) (pair_at_down node x) w.processes
    (λ n p there. mark-roles w.stopped node x s r p (taker node x p) refl (ok n p there))
change-roles {site = site} w next cause sendings (by_reload {times = t} x s m e l) ok =
    reload-all (λ n p. RolesOf (slice_set w.stopped x false) p) site x w.processes
    (λ n p there. reload-roles w.stopped x s site n (slice_get site.processes n) p (ok n p there))

-- Starts

-- a processor that has stopped stays so but for its reload
pub change-starts : {site : Site} (w next : World) (cause : Cause) (sendings : List Sending)
    → Change site w cause sendings next → (processor : ℕ)
    → slice_get w.stopped processor ≡ Some true
    → (slice_get next.stopped processor ≡ Some true) ⊎ (cause ≡ Reloading processor)
change-starts w next cause sendings (by_own number k pair there acts c a e f) processor s = inl s
change-starts w next cause sendings (by_checkpoint number pair there p) processor s = inl s
change-starts w next cause sendings (by_request request k pair i there r) processor s = inl s
change-starts w next cause sendings (by_early_request request k pair i there r) processor s = inl s
change-starts w next cause sendings (by_enter number terminal opener t e r o) processor s = inl s
change-starts w next cause sendings (by_print number terminal reply t e i o n) processor s = inl s
change-starts w next cause sendings (by_stop x r h) processor s = inl (stop-stays w.stopped x processor s)
change-starts w next cause sendings (by_mark node x r q n) processor s = inl s
change-starts w next cause sendings (by_reload x r m t l) processor s = by (processor == x) refl
  where
    by : (here : Bool) → (processor == x) ≡ here
        → (slice_get (slice_set w.stopped x false) processor ≡ Some true) ⊎ (Reloading x ≡ Reloading processor)
    by true e = inr (ap Reloading (sym (eqb-true processor x e)))
    by false e = inl (runs-again w.stopped x processor (apart-of processor x e) ∙ s)
