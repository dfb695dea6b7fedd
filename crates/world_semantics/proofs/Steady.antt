-- That at most one processor has stopped, and what follows for copies that watch or are blank.
use Rattle.disc_device.specs.Sectors.{Stored}
use Rattle.checkpoint_image.specs.gd_words.specs.Members.{IsAmong}
use Rattle.checkpoint_image.specs.gd_words.specs.declared.message.Request.{Request}
use Rattle.std.proofs.Common.{Bool, List, None, Option, Some, [], ap, arith, false, if◌then◌else◌, inl, inr, length}
use Rattle.std.proofs.Common.{not, refl, replicate, slice_get, slice_set, subst, suc, sym, true, zero, ℕ, ◌&&◌, ◌+◌}
use Rattle.std.proofs.Common.{◌<◌, ◌==◌, ◌||◌, ◌∙◌, ◌∷◌, ◌≡◌}
use Rattle.std.proofs.lemmas.Bool.{eq-eqb, eqb-true}
use Rattle.std.specs.List.{list_any}
use Rattle.checkpoint_image.specs.tal_tree.specs.declared.act.Act.{Act}
use Rattle.checkpoint_image.specs.tal_tree.specs.declared.site.ProcessSpec.{ProcessSpec}
use Rattle.checkpoint_image.specs.tal_tree.specs.declared.site.Site.{Site}
use Rattle.world_semantics.proofs.Beginning.{all-begin}
use Rattle.world_semantics.proofs.Growing.{AreStopped, runs-again}
use Rattle.world_semantics.proofs.Lists.{map-all, set-all, some-same}
use Rattle.world_semantics.proofs.Roles.{apart-of, both-true, false-there, reload-all, runs-now}
use Rattle.world_semantics.specs.Core.{Core}
use Rattle.world_semantics.specs.Kept.{Enters, begins, holds_on, keeps, repeats}
use Rattle.world_semantics.specs.Messages.{Cause, Sending}
use Rattle.world_semantics.specs.Passes.{Passes, by_acknowledge, by_apply, by_apply_behind, by_end, by_pass}
use Rattle.world_semantics.specs.Passes.{by_pass_again, by_send}
use Rattle.world_semantics.specs.Rules.{Change, new_core, by_checkpoint, by_early_request, by_enter, by_mark, by_own}
use Rattle.world_semantics.specs.Rules.{by_print, by_reload, by_request, by_stop, pair_after_down, pair_at_down}
use Rattle.world_semantics.specs.Rules.{reloaded_at, reloaded_by, stopped_pair, taker, takes_over}
use Rattle.world_semantics.specs.Rules.{without_downs}
use Rattle.world_semantics.specs.World.{Copy, Down, First, Pair, Second, Which, World, boot, copy_of, has_marked}
use Rattle.world_semantics.specs.World.{is_pair_of, is_running, is_watching, is_whole, other_of, pairs_at_boot}
use Rattle.world_semantics.specs.World.{receives, runs_by, with_copy}
use Rattle.world_semantics.specs.declared.role.Role.{Role}
use Rattle.world_semantics.specs.declared.role.Role.TheVariants.{Acting, Blank, Gone, Watching}

abbrev pub AreNoneStopped : List Bool → Type 0
AreNoneStopped stopped = (x : ℕ) → slice_get stopped x ≡ Some true → ⊥

-- at most one processor has stopped
abbrev pub OneStopped : List Bool → Type 0
OneStopped stopped = (x y : ℕ) → slice_get stopped x ≡ Some true → slice_get stopped y ≡ Some true → x ≡ y

-- a copy to another one: where it is blank nothing has stopped, and where it watches its node hasn't marked the other
-- one's processor
pub record Waits (stopped : List Bool) (downs : List Down) (role : Role) (here there : ℕ) : Type 0 where
  pub blank : role ≡ Blank → AreNoneStopped stopped
  pub unmarked : role ≡ Watching → has_marked downs here there ≡ true → ⊥

pub record PairWaits (stopped : List Bool) (downs : List Down) (one : ℕ) (lead : Role) (two : ℕ) (other : Role) :
    Type 0 where
  pub first : Waits stopped downs lead one two
  pub second : Waits stopped downs other two one

abbrev pub WaitsOf : List Bool → List Down → Pair → Type 0
WaitsOf stopped downs pair =
    PairWaits stopped downs pair.first.processor pair.first.role pair.second.processor pair.second.role

pub record IsSteady (w : World) : Type 0 where
  pub one : OneStopped w.stopped
  pub pairs : (number : ℕ) (pair : Pair) → slice_get w.processes number ≡ Some pair → WaitsOf w.stopped w.downs pair

pub steady-begins : (site : Site) → IsSteady (boot site)
steady-begins site = record {
  one = λ x y s t. absurd (false-there site.processors x s);
  pairs = all-begin (λ n p. WaitsOf (replicate site.processors false) [] p) site (λ number from spec. record {
    first = record { blank = λ b. absurd (cc); unmarked = λ r m. cc };
    second = record { blank = λ b. absurd (cc); unmarked = λ r m. cc };
  });
}

-- a mark that was made is of a processor that has stopped
pub marked-down : (stopped : List Bool) (downs : List Down) (node processor : ℕ)
    → ((mark : Down) → IsAmong mark downs → slice_get stopped mark.down ≡ Some true)
    → has_marked downs node processor ≡ true → slice_get stopped processor ≡ Some true
marked-down stopped [] node processor down e = absurd (cc)
marked-down stopped (mark ∷ rest) node processor down e =
    by ((mark.node == node) && (mark.down == processor)) refl e
    (marked-down stopped rest node processor (λ m among. down m (inr among)))
  where
    by : (here : Bool) → ((mark.node == node) && (mark.down == processor)) ≡ here
        → (here || has_marked rest node processor) ≡ true
        → (has_marked rest node processor ≡ true → slice_get stopped processor ≡ Some true)
        → slice_get stopped processor ≡ Some true
    by true is e later =
        let both = both-true (mark.node == node) (mark.down == processor) is in
        subst (λ x. slice_get stopped x ≡ Some true) (eqb-true mark.down processor both.1) (down mark (inl refl))
    by false is e later = later e

-- acts and checkpoints

own-waits : (stopped : List Bool) (downs : List Down) (k : Which) (pair : Pair) (core : Core) (waiting : List Request)
    (sectors : List Stored) {number : ℕ} {act : Act}
    {kept after : List Act} {entered : Copy} → Enters number act kept (copy_of k pair) entered after
    → WaitsOf stopped downs pair
    → WaitsOf stopped downs (with_copy k (record entered { core = core; waiting = waiting })
    (record pair { sectors = sectors }))
own-waits stopped downs First pair core waiting sectors (holds_on e) ok = ok
own-waits stopped downs First pair core waiting sectors (repeats e l) ok = ok
own-waits stopped downs First pair core waiting sectors (begins e l t) ok = ok
own-waits stopped downs First pair core waiting sectors (keeps e l t) ok = ok
own-waits stopped downs Second pair core waiting sectors (holds_on e) ok = ok
own-waits stopped downs Second pair core waiting sectors (repeats e l) ok = ok
own-waits stopped downs Second pair core waiting sectors (begins e l t) ok = ok
own-waits stopped downs Second pair core waiting sectors (keeps e l t) ok = ok

now-watches : {stopped : List Bool} {downs : List Down} {here there : ℕ} (role : Role)
    → ((mark : Down) → IsAmong mark downs → slice_get stopped mark.down ≡ Some true)
    → receives role ≡ true → Waits stopped downs role here there → Waits stopped downs Watching here there
now-watches {downs = downs} Watching down r ok = ok
now-watches Acting down r ok = absurd (cc)
now-watches Gone down r ok = absurd (cc)
now-watches {stopped = stopped} {downs = downs} {here = here} {there = there} Blank down r ok =
    record {
      blank = λ b. absurd (cc);
      unmarked = λ w m.
          ok.blank refl there (marked-down stopped downs here there down m);
    }

passes-wait : {number : ℕ} {downs : List Down} {kept after : List Act} {pair next : Pair} {cause : Cause}
    {sendings : List Sending} (stopped : List Bool)
    → ((mark : Down) → IsAmong mark downs → slice_get stopped mark.down ≡ Some true)
    → Passes number downs kept pair cause sendings next after → WaitsOf stopped downs pair → WaitsOf stopped downs next
passes-wait stopped down (by_send First r p s m) ok = ok
passes-wait stopped down (by_send Second r p s m) ok = ok
passes-wait stopped down (by_pass_again First r p m l) ok = ok
passes-wait stopped down (by_pass_again Second r p m l) ok = ok
passes-wait stopped down (by_pass First r p m l) ok = ok
passes-wait stopped down (by_pass Second r p m l) ok = ok
passes-wait stopped down (by_end First r s p m) ok = ok
passes-wait stopped down (by_end Second r s p m) ok = ok
passes-wait {pair = pair} stopped down (by_apply_behind First message applied r i e n a l) ok =
    record { first = now-watches pair.first.role down r ok.first; second = ok.second }
passes-wait {pair = pair} stopped down (by_apply_behind Second message applied r i e n a l) ok =
    record { first = ok.first; second = now-watches pair.second.role down r ok.second }
passes-wait {pair = pair} stopped down (by_apply First message applied r i e n a l) ok =
    record { first = now-watches pair.first.role down r ok.first; second = ok.second }
passes-wait {pair = pair} stopped down (by_apply Second message applied r i e n a l) ok =
    record { first = ok.first; second = now-watches pair.second.role down r ok.second }
passes-wait stopped down (by_acknowledge First taken r s i e n) ok = ok
passes-wait stopped down (by_acknowledge Second taken r s i e n) ok = ok

waiting-wait : (stopped : List Bool) (downs : List Down) (k : Which) (pair : Pair) (waiting : List Request)
    → WaitsOf stopped downs pair
    → WaitsOf stopped downs (with_copy k (record (copy_of k pair) { waiting = waiting }) pair)
waiting-wait stopped downs First pair waiting ok = ok
waiting-wait stopped downs Second pair waiting ok = ok

-- Stops

none-any : {A : Type 0} (test : A → Bool) (xs : List A) (i : ℕ) (x : A) → not (list_any test xs) ≡ true
    → slice_get xs i ≡ Some x → test x ≡ true → ⊥
none-any test [] i x n at t = cc
none-any test (y ∷ xs) zero x n at t = let is : test y ≡ true = ap test (some-same at) ∙ t in by (test y) is n
  where
    by : (b : Bool) → b ≡ true → not (b || list_any test xs) ≡ true → ⊥
    by true e n = cc
    by false e n = cc
none-any test (y ∷ xs) (suc i) x n at t = by (test y) n (λ m. none-any test xs i x m at t)
  where
    by : (b : Bool) → not (b || list_any test xs) ≡ true → (not (list_any test xs) ≡ true → ⊥) → ⊥
    by true n rest = cc
    by false n rest = rest n

pub whole-runs : (w : World) → is_whole w ≡ true → AreNoneStopped w.stopped
whole-runs w h x s = none-any (λ b. b) w.stopped x true (both-true _ _ h).0 s refl

pub whole-pair : (w : World) → is_whole w ≡ true → (number : ℕ) (pair : Pair)
    → slice_get w.processes number ≡ Some pair → is_pair_of pair.first.role pair.second.role ≡ true
whole-pair w h number pair at = by (is_pair_of pair.first.role pair.second.role) refl
  where
    by : (b : Bool) → is_pair_of pair.first.role pair.second.role ≡ b → b ≡ true
    by true e = refl
    by false e = absurd (none-any (λ (p : Pair). not (is_pair_of p.first.role p.second.role)) w.processes number pair
        (both-true _ _ h).1 at (ap not e))

stops-one : (stopped : List Bool) (x y : ℕ) → AreNoneStopped stopped
    → slice_get (slice_set stopped x true) y ≡ Some true → y ≡ x
stops-one [] x y none e = absurd (none y e)
stops-one (s ∷ stopped) zero zero none e = refl
stops-one (s ∷ stopped) zero (suc y) none e = absurd (none (suc y) e)
stops-one (s ∷ stopped) (suc x) zero none e = absurd (none zero e)
stops-one (s ∷ stopped) (suc x) (suc y) none e = ap suc (stops-one stopped x y (λ k. none (suc k)) e)

-- a copy after a stop in a whole world
stop-one : {stopped after : List Bool} {downs : List Down} {here there : ℕ} (role : Role) (gone : Bool)
    → (role ≡ Blank → ⊥) → Waits stopped downs role here there
    → Waits after downs (if gone then Gone else role) here there
stop-one role true not_blank ok = record { blank = λ b. absurd (cc); unmarked = λ w m. cc }
stop-one role false not_blank ok = record { blank = λ b. absurd (not_blank b); unmarked = ok.unmarked }

pub first-not-blank : (one two : Role) → is_pair_of one two ≡ true → one ≡ Blank → ⊥
first-not-blank Blank two e b = cc
first-not-blank Acting two e b = cc
first-not-blank Watching two e b = cc
first-not-blank Gone two e b = cc

pub second-not-blank : (one two : Role) → is_pair_of one two ≡ true → two ≡ Blank → ⊥
second-not-blank Acting Blank e b = cc
second-not-blank Watching Blank e b = cc
second-not-blank Blank Blank e b = cc
second-not-blank Gone Blank e b = cc
second-not-blank one Acting e b = cc
second-not-blank one Watching e b = cc
second-not-blank one Gone e b = cc

-- Marks

not-here : (node processor here there : ℕ) (rest : List Down) → ((here ≡ node) → (there ≡ processor) → ⊥)
    → has_marked (record { node = node; down = processor } ∷ rest) here there ≡ true
    → has_marked rest here there ≡ true
not-here node processor here there rest other e = by (node == here) (processor == there) refl refl e
  where
    by : (a b : Bool) → (node == here) ≡ a → (processor == there) ≡ b → ((a && b) || has_marked rest here there) ≡ true
        → has_marked rest here there ≡ true
    by true true is same e = absurd (other (sym (eqb-true node here is)) (sym (eqb-true processor there same)))
    by true false is same e = e
    by false b is same e = e

blank-stays : {stopped : List Bool} {downs more : List Down} {here there : ℕ} {role : Role}
    → (role ≡ Watching → has_marked more here there ≡ true → has_marked downs here there ≡ true)
    → Waits stopped downs role here there → Waits stopped more role here there
blank-stays up ok = record { blank = ok.blank; unmarked = λ w m. ok.unmarked w (up w m) }

acts-waits : {stopped : List Bool} {downs : List Down} {here there : ℕ} → Waits stopped downs Acting here there
acts-waits = record { blank = λ b. absurd (cc); unmarked = λ w m. cc }

watching-back : (role : Role) → role ≡ Watching → is_watching role ≡ true
watching-back Watching e = refl
watching-back Acting e = absurd (cc)
watching-back Blank e = absurd (cc)
watching-back Gone e = absurd (cc)

not-running : (node : ℕ) (there : Option Bool) → runs_by node there ≡ true → there ≡ Some true → ⊥
not-running node None r s = cc
not-running node (Some true) r s = cc
not-running node (Some false) r s = cc

takes-back : (node processor : ℕ) (k : Which) (pair : Pair) → (copy_of k pair).role ≡ Watching
    → (copy_of k pair).processor ≡ node → (copy_of (other_of k) pair).processor ≡ processor
    → takes_over node processor k pair ≡ true
takes-back node processor k pair w n p =
    rw (
      watching-back (copy_of k pair).role w,
      eq-eqb (copy_of k pair).processor node n,
      eq-eqb (copy_of (other_of k) pair).processor processor p,
    ) refl

mark-waits : (stopped : List Bool) (downs : List Down) (node x : ℕ) → slice_get stopped x ≡ Some true
    → is_running stopped node ≡ true → (pair : Pair) → WaitsOf stopped downs pair
    → WaitsOf stopped (record { node = node; down = x } ∷ downs) (pair_at_down node x pair)
mark-waits stopped downs node x s r pair ok =
    by (takes_over node x First pair) (takes_over node x Second pair) refl refl
  where
    apart : node ≡ x → ⊥
    apart same = not-running node (slice_get stopped node) r (ap (slice_get stopped) same ∙ s)

    by : (a b : Bool) → takes_over node x First pair ≡ a → takes_over node x Second pair ≡ b
        → WaitsOf stopped (record { node = node; down = x } ∷ downs)
        (pair_after_down (if a then Some First else if b then Some Second else None) pair)
    by true b one two = record {
      first = acts-waits;
      second = blank-stays (λ w m. not-here node x pair.second.processor pair.first.processor downs
          (λ n p. (let f = (both-true (is_watching pair.first.role && pair.first.processor == node)
          (pair.second.processor == x) one) in
          let at = both-true (is_watching pair.first.role) (pair.first.processor == node) f.0 in
          apart (sym n ∙ eqb-true pair.second.processor x f.1))) m) ok.second;
    }
    by false true one two = record {
      first = blank-stays (λ w m. not-here node x pair.first.processor pair.second.processor downs
          (λ n p. (let t = takes-back node x First pair w n p in cc)) m) ok.first;
      second = acts-waits;
    }
    by false false one two = record {
      first = blank-stays (λ w m. not-here node x pair.first.processor pair.second.processor downs
          (λ n p. (let t = takes-back node x First pair w n p in cc)) m) ok.first;
      second = blank-stays (λ w m. not-here node x pair.second.processor pair.first.processor downs
          (λ n p. (let t = takes-back node x Second pair w n p in cc)) m) ok.second;
    }

-- Reloads

left-marked : (x : ℕ) (downs : List Down) (here there : ℕ) → has_marked (without_downs x downs) here there ≡ true
    → has_marked downs here there ≡ true
left-marked x [] here there e = e
left-marked x (mark ∷ downs) here there e =
    by ((mark.node == here) && (mark.down == there)) (not (mark.down == x)) (left-marked x downs here there) refl e
  where
    by : (a b : Bool) → (has_marked (without_downs x downs) here there ≡ true → has_marked downs here there ≡ true)
        → ((mark.node == here) && (mark.down == there)) ≡ a
        → has_marked (if b then mark ∷ without_downs x downs else without_downs x downs) here there ≡ true
        → (a || has_marked downs here there) ≡ true
    by true b rest is e = refl
    by false true rest is e = rest (rw is at e)
    by false false rest is e = rest e

pub now-none : (stopped : List Bool) (x : ℕ) → OneStopped stopped → slice_get stopped x ≡ Some true
    → AreNoneStopped (slice_set stopped x false)
now-none stopped x one s y e = by (y == x) refl
  where
    by : (b : Bool) → (y == x) ≡ b → ⊥
    by true same =
        runs-now stopped x (subst (λ z. slice_get (slice_set stopped x false) z ≡ Some true) (eqb-true y x same) e)
    by false other = apart-of y x other (one y x (sym (runs-again stopped x y (apart-of y x other)) ∙ e) s)

blank-waits : {stopped : List Bool} {downs : List Down} {here there : ℕ} → AreNoneStopped stopped
    → Waits stopped downs Blank here there
blank-waits none = record { blank = λ b. none; unmarked = λ w m. cc }

reload-waits : (stopped : List Bool) (downs : List Down) (x : ℕ) → AreNoneStopped (slice_set stopped x false)
    → (site : Site) (number : ℕ) (spec : Option ProcessSpec) (pair : Pair)
    → WaitsOf stopped downs pair → WaitsOf (slice_set stopped x false) (without_downs x downs)
    (reloaded_at site x number spec pair)
reload-waits stopped downs x none site number spec pair ok = by (pair.first.processor == x) (pair.second.processor == x)
  where
    core : Core
    core = new_core site number spec pair.first.core

    stays : {here there : ℕ} {role : Role} → Waits stopped downs role here there
        → Waits (slice_set stopped x false) (without_downs x downs) role here there
    stays {here = here} {there = there} w =
        record { blank = λ b. none; unmarked = λ r m. w.unmarked r (left-marked x downs here there m) }

    by : (a b : Bool) → WaitsOf (slice_set stopped x false) (without_downs x downs) (reloaded_by core pair a b)
    by false false = record { first = stays ok.first; second = stays ok.second }
    by true false = record { first = blank-waits none; second = stays ok.second }
    by false true = record { first = stays ok.first; second = blank-waits none }
    by true true = record { first = blank-waits none; second = blank-waits none }

pub change-steady : {site : Site} (w next : World) (cause : Cause) (sendings : List Sending) → AreStopped w
    → Change site w cause sendings next → IsSteady w → IsSteady next
change-steady w next cause sendings down (by_own number k pair there acts c a e f) ok =
    record {
      one = ok.one;
      pairs = set-all (λ n p. WaitsOf w.stopped w.downs p) w.processes number _ ok.pairs
          (own-waits w.stopped w.downs k pair _ _ _ e (ok.pairs number pair there));
    }
change-steady w next cause sendings down (by_checkpoint number pair there p) ok =
    record {
      one = ok.one;
      pairs = set-all (λ n p. WaitsOf w.stopped w.downs p) w.processes number _ ok.pairs
          (passes-wait w.stopped down p (ok.pairs number pair there));
    }
change-steady w next cause sendings down (by_request request k pair i there r) ok =
    record {
      one = ok.one;
      pairs = set-all (λ n p. WaitsOf w.stopped w.downs p) w.processes request.process _ ok.pairs
          (waiting-wait w.stopped w.downs k pair _ (ok.pairs request.process pair there));
    }
change-steady w next cause sendings down (by_early_request request k pair i there r) ok =
    record {
      one = ok.one;
      pairs = set-all (λ n p. WaitsOf w.stopped w.downs p) w.processes request.process _ ok.pairs
          (waiting-wait w.stopped w.downs k pair _ (ok.pairs request.process pair there));
    }
change-steady w next cause sendings down (by_enter number terminal opener t e r o) ok =
    record { one = ok.one; pairs = ok.pairs }
change-steady w next cause sendings down (by_print number terminal reply t e i o n) ok =
    record { one = ok.one; pairs = ok.pairs }
change-steady w next cause sendings down (by_stop x r h) ok = record {
  one = λ a b s t. stops-one w.stopped x a (whole-runs w h) s ∙ sym (stops-one w.stopped x b (whole-runs w h) t);
  pairs = map-all (λ n p. WaitsOf (slice_set w.stopped x true) w.downs p) (stopped_pair x) w.processes (λ n p there.
      (let both = whole-pair w h n p there in
      record {
        first = stop-one p.first.role (p.first.processor == x) (first-not-blank p.first.role p.second.role both)
            (ok.pairs n p there).first;
        second = stop-one p.second.role (p.second.processor == x) (second-not-blank p.first.role p.second.role both)
            (ok.pairs n p there).second;
      }));
}
change-steady w next cause sendings down (by_mark node x s r n) ok = record {
  one = ok.one;
  pairs = map-all (λ n p. WaitsOf w.stopped (record { node = node; down = x } ∷ w.downs) p) (pair_at_down node x)
      w.processes
      (λ n p there. mark-waits w.stopped w.downs node x s r p (ok.pairs n p there));
}
change-steady {site = site} w next cause sendings down (by_reload x s m t l) ok = record {
  one = λ a b e f. absurd (now-none w.stopped x ok.one s a e);
  pairs = reload-all (λ n p. WaitsOf (slice_set w.stopped x false) (without_downs x w.downs) p) site x w.processes
      (λ n p there. reload-waits w.stopped w.downs x (now-none w.stopped x ok.one s) site n
      (slice_get site.processes n) p (ok.pairs n p there));
}

-- Seats

-- the processors of a process's copies are those that the site gives it
abbrev pub SeatOf : Site → ℕ → ℕ → ℕ → Type 0
SeatOf site number one two =
    (spec : ProcessSpec) × (slice_get site.processes number ≡ Some spec) × (one ≡ spec.primary) × (two ≡ spec.backup)

-- every process has its seats, and the stopped processors are told for each of the site's
pub record IsSeated (site : Site) (w : World) : Type 0 where
  pub processors : length w.stopped ≡ site.processors
  pub pairs : (number : ℕ) (pair : Pair) → slice_get w.processes number ≡ Some pair
      → SeatOf site number pair.first.processor pair.second.processor

replicate-length : (n : ℕ) → length (replicate n false) ≡ n
replicate-length zero = refl
replicate-length (suc n) = ap suc (replicate-length n)

set-length : {A : Type 0} (xs : List A) (k : ℕ) (x : A) → length (slice_set xs k x) ≡ length xs
set-length [] k x = refl
set-length (y ∷ xs) zero x = refl
set-length (y ∷ xs) (suc k) x = ap suc (set-length xs k x)

seats-from : (site : Site) (from : ℕ) (specs : List ProcessSpec) (k : ℕ) (pair : Pair)
    → slice_get (pairs_at_boot site from specs) k ≡ Some pair
    → (spec : ProcessSpec) × (slice_get specs k ≡ Some spec) × (pair.first.processor ≡ spec.primary)
    × (pair.second.processor ≡ spec.backup)
seats-from site from [] k pair at = absurd (cc)
seats-from site from (spec ∷ specs) zero pair at = (
  spec,
  refl,
  ap (λ (p : Pair). p.first.processor) (sym (some-same at)),
  ap (λ (p : Pair). p.second.processor) (sym (some-same at)),
)
seats-from site from (spec ∷ specs) (suc k) pair at = seats-from site (from + 1) specs k pair at

pub seats-begin : (site : Site) → IsSeated site (boot site)
seats-begin site = record {
  processors = replicate-length site.processors;
  pairs = λ number pair at. seats-from site 0 site.processes number pair at;
}

own-seats : (site : Site) (n : ℕ) (k : Which) (pair : Pair) (core : Core) (waiting : List Request)
    (sectors : List Stored) {number : ℕ} {act : Act}
    {kept after : List Act} {entered : Copy} → Enters number act kept (copy_of k pair) entered after
    → SeatOf site n pair.first.processor pair.second.processor
    → SeatOf site n (with_copy k (record entered { core = core; waiting = waiting })
    (record pair { sectors = sectors })).first.processor
    (with_copy k (record entered { core = core; waiting = waiting })
    (record pair { sectors = sectors })).second.processor
own-seats site n First pair core waiting sectors (holds_on e) ok = ok
own-seats site n First pair core waiting sectors (repeats e l) ok = ok
own-seats site n First pair core waiting sectors (begins e l t) ok = ok
own-seats site n First pair core waiting sectors (keeps e l t) ok = ok
own-seats site n Second pair core waiting sectors (holds_on e) ok = ok
own-seats site n Second pair core waiting sectors (repeats e l) ok = ok
own-seats site n Second pair core waiting sectors (begins e l t) ok = ok
own-seats site n Second pair core waiting sectors (keeps e l t) ok = ok

passes-seats : (site : Site) (n : ℕ) {number : ℕ} {downs : List Down} {kept after : List Act} {pair next : Pair}
    {cause : Cause} {sendings : List Sending}
    → Passes number downs kept pair cause sendings next after
    → SeatOf site n pair.first.processor pair.second.processor
    → SeatOf site n next.first.processor next.second.processor
passes-seats site n (by_send First r p s m) ok = ok
passes-seats site n (by_send Second r p s m) ok = ok
passes-seats site n (by_pass_again First r p m l) ok = ok
passes-seats site n (by_pass_again Second r p m l) ok = ok
passes-seats site n (by_pass First r p m l) ok = ok
passes-seats site n (by_pass Second r p m l) ok = ok
passes-seats site n (by_end First r s p m) ok = ok
passes-seats site n (by_end Second r s p m) ok = ok
passes-seats site n (by_apply_behind First message applied r i e m a l) ok = ok
passes-seats site n (by_apply_behind Second message applied r i e m a l) ok = ok
passes-seats site n (by_apply First message applied r i e m a l) ok = ok
passes-seats site n (by_apply Second message applied r i e m a l) ok = ok
passes-seats site n (by_acknowledge First taken r s i e m) ok = ok
passes-seats site n (by_acknowledge Second taken r s i e m) ok = ok

waiting-seats : (site : Site) (n : ℕ) (k : Which) (pair : Pair) (waiting : List Request)
    → SeatOf site n pair.first.processor pair.second.processor
    → SeatOf site n (with_copy k (record (copy_of k pair) { waiting = waiting }) pair).first.processor
    (with_copy k (record (copy_of k pair) { waiting = waiting }) pair).second.processor
waiting-seats site n First pair waiting ok = ok
waiting-seats site n Second pair waiting ok = ok

marked-seats : (site : Site) (n : ℕ) (k : Option Which) (pair : Pair)
    → SeatOf site n pair.first.processor pair.second.processor
    → SeatOf site n (pair_after_down k pair).first.processor (pair_after_down k pair).second.processor
marked-seats site n None pair ok = ok
marked-seats site n (Some First) pair ok = ok
marked-seats site n (Some Second) pair ok = ok

reloaded-seats : (site : Site) (n : ℕ) (core : Core) (pair : Pair) (a b : Bool)
    → SeatOf site n pair.first.processor pair.second.processor
    → SeatOf site n (reloaded_by core pair a b).first.processor (reloaded_by core pair a b).second.processor
reloaded-seats site n core pair false false ok = ok
reloaded-seats site n core pair true false ok = ok
reloaded-seats site n core pair false true ok = ok
reloaded-seats site n core pair true true ok = ok

abbrev Seats : Site → ℕ → Pair → Type 0
Seats site n p = SeatOf site n p.first.processor p.second.processor

pub change-seated : {site : Site} (w next : World) (cause : Cause) (sendings : List Sending)
    → Change site w cause sendings next → IsSeated site w → IsSeated site next
change-seated {site = site} w next cause sendings (by_own number k pair there acts c a e f) ok =
    record {
      processors = ok.processors;
      pairs =
          set-all (Seats site) w.processes number _ ok.pairs
          (own-seats site number k pair _ _ _ e (ok.pairs number pair there));
    }
change-seated {site = site} w next cause sendings (by_checkpoint number pair there p) ok =
    record {
      processors = ok.processors;
      pairs =
          set-all (Seats site) w.processes number _ ok.pairs (passes-seats site number p (ok.pairs number pair there));
    }
change-seated {site = site} w next cause sendings (by_request request k pair i there r) ok =
    record {
      processors = ok.processors;
      pairs =
          set-all (Seats site) w.processes request.process _ ok.pairs
          (waiting-seats site request.process k pair _ (ok.pairs request.process pair there));
    }
change-seated {site = site} w next cause sendings (by_early_request request k pair i there r) ok =
    record {
      processors = ok.processors;
      pairs =
          set-all (Seats site) w.processes request.process _ ok.pairs
          (waiting-seats site request.process k pair _ (ok.pairs request.process pair there));
    }
change-seated w next cause sendings (by_enter number terminal opener t e r o) ok =
    record { processors = ok.processors; pairs = ok.pairs }
change-seated w next cause sendings (by_print number terminal reply t e i o n) ok =
    record { processors = ok.processors; pairs = ok.pairs }
change-seated {site = site} w next cause sendings (by_stop x r h) ok = record {
  processors = set-length w.stopped x true ∙ ok.processors;
  pairs = map-all (Seats site) (stopped_pair x) w.processes (λ n p there. ok.pairs n p there);
}
change-seated {site = site} w next cause sendings (by_mark node x s r n) ok = record {
  processors = ok.processors;
  pairs = map-all (Seats site) (pair_at_down node x) w.processes
      (λ n p there. marked-seats site n (taker node x p) p (ok.pairs n p there));
}
change-seated {site = site} w next cause sendings (by_reload x s m t l) ok = record {
  processors = set-length w.stopped x false ∙ ok.processors;
  pairs = reload-all (Seats site) site x w.processes
      (λ n p there. reloaded-seats site n (new_core site n (slice_get site.processes n) p.first.core) p
      (p.first.processor == x) (p.second.processor == x) (ok.pairs n p there));
}

pub there-is : {A : Type 0} (xs : List A) (k : ℕ) → k < length xs → (x : A) × (slice_get xs k ≡ Some x)
there-is [] k less = absurd (omega (arith, less))
there-is (x ∷ xs) zero less = (x, refl)
there-is (x ∷ xs) (suc k) less = there-is xs k (omega (arith, less))

-- where all that run have marked a processor, the other copy of a process that was there acts
pub survivor : (stopped : List Bool) (downs : List Down) (x y : ℕ) (role : Role) → slice_get stopped x ≡ Some true
    → OneStopped stopped → (y ≡ x → ⊥) → y < length stopped
    → ((node : ℕ) → is_running stopped node ≡ true → has_marked downs node x ≡ true) → Waits stopped downs role y x
    → (role ≡ Gone → slice_get stopped y ≡ Some true) → role ≡ Acting
survivor stopped downs x y Acting s one apart less all waits lost = refl
survivor stopped downs x y Gone s one apart less all waits lost = absurd (apart (one y x (lost refl) s))
survivor stopped downs x y Blank s one apart less all waits lost = absurd (waits.blank refl x s)
survivor stopped downs x y Watching s one apart less all waits lost = by (there-is stopped y less)
  where
    by : ((b : Bool) × (slice_get stopped y ≡ Some b)) → Watching ≡ Acting
    by (true, at) = absurd (apart (one y x at s))
    by (false, at) = absurd (waits.unmarked refl (all y (rw at refl)))
