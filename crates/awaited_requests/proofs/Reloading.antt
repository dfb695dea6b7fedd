-- A reload leaves every awaited request served.
use Rattle.awaited_requests.specs.Awaited.{IsAwaited, by_copy, by_terminal}
use Rattle.awaited_requests.specs.Seats.{IsLaidOut}
use Rattle.awaited_requests.specs.Served.{AreServed, IsServed, WaitsFor, is_owed, is_seen, reply_of}
use Rattle.awaited_requests.specs.Served.{request_of, route_stopped}
use Rattle.world_semantics.specs.checkpoint_image.specs.Receive.{standing_at}
use Rattle.world_semantics.specs.checkpoint_image.specs.declared.receive.RequestStanding.TheVariants.{Kept, Next}
use Rattle.gd_words.specs.Members.{IsAmong}
use Rattle.letters.proofs.Owed.{filter-among}
use Rattle.letters.specs.Posts.{Post, after_reloading, is_from_or_to, without_those_of}
use Rattle.letters.specs.Routes.{Letter, home_of, route_of, route_to}
use Rattle.world_semantics.specs.plain_semantics.specs.declared.slot.Opener.{Opener}
use Rattle.takeover_laws.specs.process_semantics.specs.Process as process
use Rattle.takeover_laws.specs.process_semantics.specs.declared.point.Point.TheVariants as point
use Rattle.std.proofs.Common.{Bool, List, None, Option, Some, [], ap, arith, false, inl, inr, length}
use Rattle.std.proofs.Common.{not, option_map, refl, slice_get, slice_set, subst, suc, sym, true, zero, ℕ, ℤ, ◌+◌, ◌<◌}
use Rattle.std.proofs.Common.{◌==◌, ◌∙◌, ◌∷◌, ◌≡◌, ◌≢◌, ◌≤◌, ◌⊎◌}
use Rattle.std.proofs.lemmas.Bool.{eq-eqb, eqb-true}
use Rattle.takeover_laws.proofs.Checkpoints.{marked-down}
use Rattle.tal_tree.specs.declared.site.Site.{Site}
use Rattle.tal_tree.specs.declared.site.Who.{Who}
use Rattle.tal_tree.specs.declared.site.Who.TheVariants as who
use Rattle.world_semantics.proofs.Growing.{AreStopped, change-downs}
use Rattle.world_semantics.proofs.Roles.{AllRoles, reload-all}
use Rattle.world_semantics.proofs.Steady.{IsSeated, IsSteady, now-none, there-is}
use Rattle.world_semantics.specs.Core.{Core, next_on}
use Rattle.world_semantics.specs.Messages.{Asking, Reloading, Replying}
use Rattle.world_semantics.specs.Rules.{most_reloads, new_core, by_reload, reloaded_at, reloaded_by, reloaded_from}
use Rattle.world_semantics.specs.Rules.{without_downs}
use Rattle.world_semantics.specs.World.{Copy, Pair, Terminal, World, copy_of, has_marked, is_running}
use Rattle.world_semantics.specs.World.{receives, terminal_node}
use Rattle.world_semantics.specs.declared.role.Role.TheVariants.{Acting}
use Rattle.world_semantics.specs.declared.which.Which.{Which}
use Rattle.world_semantics.specs.declared.which.Which.TheVariants.{First, Second}

apart-test : (a b : ℕ) → a ≢ b → (a == b) ≡ false
apart-test a b apart = by (a == b) refl
  where
    by : (t : Bool) → (a == b) ≡ t → t ≡ false
    by true e = absurd (apart (eqb-true a b e))
    by false e = refl

is-false : (b : Bool) → (b ≡ true → ⊥) → b ≡ false
is-false true never = absurd (never refl)
is-false false never = refl

-- a copy that isn't in the processor keeps all but its era, its number and what it has sent
record IsAlike (copy now : Copy) : Type 0 where
  pub processor : now.processor ≡ copy.processor
  pub role : now.role ≡ copy.role
  pub core : now.core ≡ copy.core
  pub waiting : now.waiting ≡ copy.waiting

alike-same : (copy : Copy) → IsAlike copy copy
alike-same copy = record { processor = refl; role = refl; core = refl; waiting = refl }

none-past : {A : Type 0} (xs : List A) (k : ℕ) → length xs ≤ k → slice_get xs k ≡ None
none-past [] k most = refl
none-past (x ∷ xs) zero most = absurd (omega (arith, most))
none-past (x ∷ xs) (suc k) most = none-past xs k (omega (arith, most))

within : {A : Type 0} (xs : List A) (k : ℕ) (x : A) → slice_get xs k ≡ Some x → k < length xs
within [] k x at = absurd (cc)
within (y ∷ xs) zero x at = omega arith
within (y ∷ xs) (suc k) x at = let rest = within xs k x at in omega (arith, rest)

module _ (site : Site) (out : IsLaidOut site) (w : World) (x times : ℕ) (roles : AllRoles w) (down : AreStopped w)
    (steady : IsSteady w) (seated : IsSeated site w)
    (stopped : slice_get w.stopped x ≡ Some true)
    (all : (node : ℕ) → is_running w.stopped node ≡ true → has_marked w.downs node x ≡ true)
    (counted : slice_get w.reloads x ≡ Some times) (less : times < most_reloads) where
  abbrev reloaded : ℕ → Pair → Pair
  reloaded number pair = reloaded_at site x number (slice_get site.processes number) pair

  abbrev next : World
  next = record w {
    stopped = slice_set w.stopped x false;
    reloads = slice_set w.reloads x (times + 1);
    downs = without_downs x w.downs;
    processes = reloaded_from site x 0 w.processes;
  }

  -- what a process was
  record Was (number : ℕ) (now : Pair) : Type 0 where
    pair : Pair
    there : slice_get w.processes number ≡ Some pair
    is : now ≡ reloaded number pair

  was : (number : ℕ) (now : Pair) → slice_get next.processes number ≡ Some now → Was number now
  was number now at =
      reload-all Was site x w.processes (λ n pair there. record { pair = pair; there = there; is = refl }) number now at

  -- a process sits in two processors of the site
  record Sits (pair : Pair) : Type 0 where
    one : pair.first.processor < length w.stopped
    two : pair.second.processor < length w.stopped
    apart : pair.first.processor ≢ pair.second.processor

  sits : (number : ℕ) (pair : Pair) → slice_get w.processes number ≡ Some pair → Sits pair
  sits number pair at =
      let seat = seated.pairs number pair at in
      let places = out.places number seat.0 seat.1 in
      record {
        one = rw (seated.processors, seat.2) places.0;
        two = rw (seated.processors, seat.3) places.1;
        apart = λ e. places.2 (sym seat.2 ∙ e ∙ seat.3);
      }

  -- another processor of the site runs
  runs : (y : ℕ) → y ≢ x → y < length w.stopped → is_running w.stopped y ≡ true
  runs y apart inside = by (there-is w.stopped y inside)
    where
      by : ((b : Bool) × (slice_get w.stopped y ≡ Some b)) → is_running w.stopped y ≡ true
      by (true, at) = absurd (apart (steady.one y x at stopped))
      by (false, at) = rw at refl

  none-marked : (node p : ℕ) → has_marked next.downs node p ≡ false
  none-marked node p =
      is-false (has_marked next.downs node p) (λ e. now-none w.stopped x steady.one stopped p
      (marked-down next.stopped next.downs node p
      (change-downs {site = site} w next (Reloading x) [] (by_reload x stopped all counted less) down) e))

  unmarked : (node p : ℕ) → p ≢ x → has_marked w.downs node p ≡ false
  unmarked node p apart = is-false (has_marked w.downs node p)
      (λ e. apart (steady.one p x (marked-down w.stopped w.downs node p down e) stopped))

  -- the route of a node that runs stays, and leads elsewhere
  record Stays (number node : ℕ) (pair : Pair) : Type 0 where
    same : route_of next.downs node (reloaded number pair) ≡ route_of w.downs node pair
    off : route_of w.downs node pair ≢ x
    inside : route_of w.downs node pair < length w.stopped

  stays : (number node : ℕ) (pair : Pair) → is_running w.stopped node ≡ true → Sits pair → Stays number node pair
  stays number node pair running sit =
      by (pair.first.processor == x) refl (pair.second.processor == x) refl pair.led refl
    where
      core : Core
      core = new_core site number (slice_get site.processes number) pair.first.core

      elsewhere : (p : ℕ) → (p == x) ≡ false → p ≢ x
      elsewhere p f same = let t = eq-eqb p x same in cc

      by : (a : Bool) → (pair.first.processor == x) ≡ a → (b : Bool) → (pair.second.processor == x) ≡ b → (k : Which)
          → pair.led ≡ k → Stays number node pair
      by false one false two First led =
          let m = unmarked node pair.first.processor (elsewhere pair.first.processor one) in
          record {
            same = rw (one, two, led, none-marked node pair.first.processor, m) refl;
            off = rw (led, m) (elsewhere pair.first.processor one);
            inside = rw (led, m) sit.one;
          }
      by false one false two Second led =
          let m = unmarked node pair.second.processor (elsewhere pair.second.processor two) in
          record {
            same = rw (one, two, led, none-marked node pair.second.processor, m) refl;
            off = rw (led, m) (elsewhere pair.second.processor two);
            inside = rw (led, m) sit.two;
          }
      by true one false two First led =
          let m : has_marked w.downs node pair.first.processor ≡ true =
          rw (eqb-true pair.first.processor x one) (all node running) in
          record {
            same = rw (one, two, led, none-marked node pair.second.processor, m) refl;
            off = rw (led, m) (elsewhere pair.second.processor two);
            inside = rw (led, m) sit.two;
          }
      by true one false two Second led =
          let m = unmarked node pair.second.processor (elsewhere pair.second.processor two) in
          record {
            same = rw (one, two, led, none-marked node pair.second.processor, m) refl;
            off = rw (led, m) (elsewhere pair.second.processor two);
            inside = rw (led, m) sit.two;
          }
      by false one true two First led =
          let m = unmarked node pair.first.processor (elsewhere pair.first.processor one) in
          record {
            same = rw (one, two, led, none-marked node pair.first.processor, m) refl;
            off = rw (led, m) (elsewhere pair.first.processor one);
            inside = rw (led, m) sit.one;
          }
      by false one true two Second led =
          let m : has_marked w.downs node pair.second.processor ≡ true =
          rw (eqb-true pair.second.processor x two) (all node running) in
          record {
            same = rw (one, two, led, none-marked node pair.first.processor, m) refl;
            off = rw (led, m) (elsewhere pair.first.processor one);
            inside = rw (led, m) sit.one;
          }
      by true one true two k led =
          absurd (sit.apart (eqb-true pair.first.processor x one ∙ sym (eqb-true pair.second.processor x two)))

  seat-same : (core : Core) (pair : Pair) (a b : Bool) (k : Which)
      → (copy_of k (reloaded_by core pair a b)).processor ≡ (copy_of k pair).processor
  seat-same core pair false false k = refl
  seat-same core pair true false First = refl
  seat-same core pair true false Second = refl
  seat-same core pair false true First = refl
  seat-same core pair false true Second = refl
  seat-same core pair true true First = refl
  seat-same core pair true true Second = refl

  here-or : (p : ℕ) (b : Bool) → p ≢ x → (p == x) ≡ b → b ≡ true → ⊥
  here-or p b apart is t = apart (eqb-true p x (is ∙ t))

  -- a copy that isn't in x stays in all that is looked at
  alike : (number : ℕ) (pair : Pair) (k : Which) → (copy_of k pair).processor ≢ x
      → IsAlike (copy_of k pair) (copy_of k (reloaded number pair))
  alike number pair k off = by (pair.first.processor == x) refl (pair.second.processor == x) refl k off
    where
      core : Core
      core = new_core site number (slice_get site.processes number) pair.first.core

      by : (a : Bool) → (pair.first.processor == x) ≡ a → (b : Bool) → (pair.second.processor == x) ≡ b → (k : Which)
          → (copy_of k pair).processor ≢ x
          → IsAlike (copy_of k pair) (copy_of k (reloaded_by core pair a b))
      by false one false two k off = alike-same (copy_of k pair)
      by true one b two First off = absurd (here-or pair.first.processor true off one refl)
      by true one false two Second off = record { processor = refl; role = refl; core = refl; waiting = refl }
      by a one true two Second off = absurd (here-or pair.second.processor true off two refl)
      by false one true two First off = record { processor = refl; role = refl; core = refl; waiting = refl }

  -- a copy that acts afterwards acted before, elsewhere
  acted : (number : ℕ) (pair : Pair) (k : Which) → (copy_of k (reloaded number pair)).role ≡ Acting
      → (copy_of k pair).processor ≢ x
  acted number pair k acts here = by (pair.first.processor == x) refl (pair.second.processor == x) refl k acts here
    where
      core : Core
      core = new_core site number (slice_get site.processes number) pair.first.core

      by : (a : Bool) → (pair.first.processor == x) ≡ a → (b : Bool) → (pair.second.processor == x) ≡ b → (k : Which)
          → (copy_of k (reloaded_by core pair a b)).role ≡ Acting → (copy_of k pair).processor ≡ x → ⊥
      by false one b two First acts here = let t = eq-eqb pair.first.processor x here in cc
      by a one false two Second acts here = let t = eq-eqb pair.second.processor x here in cc
      by true one false two First acts here = cc
      by true one true two First acts here = cc
      by false one true two Second acts here = cc
      by true one true two Second acts here = cc

  inside-of : (pair : Pair) → Sits pair → (k : Which) → (copy_of k pair).processor < length w.stopped
  inside-of pair sit First = sit.one
  inside-of pair sit Second = sit.two

  -- who awaits a reply afterwards awaited it before, and runs
  record Awaited (asker : ℕ) (one : Who) (n : ℕ) : Type 0 where
    awaited : IsAwaited site w asker one n
    running : is_running w.stopped asker ≡ true
    off : asker ≢ x

  terminals-run : is_running w.stopped terminal_node ≡ true
  terminals-run = rw (none-past w.stopped 16 (rw seated.processors out.few)) refl

  before : (asker : ℕ) (one : Who) (n : ℕ) → IsAwaited site next asker one n → Awaited asker one n
  before asker one n (by_copy {number = number} {file = file} now k at role awaits named numbered) =
      by (was number now at) (copy_of k now).processor refl role awaits named numbered
    where
      by : Was number now → (asker : ℕ) → (copy_of k now).processor ≡ asker → (copy_of k now).role ≡ Acting
          → process.point (copy_of k now).core.state ≡ point.Await
          → process.asked_file (copy_of k now).core.state ≡ file → next_on (copy_of k now).core file ≡ n + 1
          → Awaited asker (who.File number file) n
      by old asker here role awaits named numbered =
          let off = acted number old.pair k (subst (λ p. (copy_of k p).role ≡ Acting) old.is role) in
          let same = alike number old.pair k off in
          let core : (copy_of k now).core ≡ (copy_of k old.pair).core =
          ap (λ p. (copy_of k p).core) old.is ∙ same.core in
          let acts : (copy_of k old.pair).role ≡ Acting =
          sym same.role ∙ sym (ap (λ p. (copy_of k p).role) old.is) ∙ role in
          let at : (copy_of k old.pair).processor ≡ asker =
          sym same.processor ∙ sym (ap (λ p. (copy_of k p).processor) old.is) ∙ here in
          subst (λ node. Awaited node (who.File number file) n) at (record {
            awaited = by_copy old.pair k old.there acts
                (subst (λ (c : Core). process.point c.state ≡ point.Await) core awaits)
                (subst (λ (c : Core). process.asked_file c.state ≡ file) core named)
                (subst (λ c. next_on c file ≡ n + 1) core numbered);
            running = runs (copy_of k old.pair).processor off (inside-of old.pair (sits number old.pair old.there) k);
            off = off;
          })
  before asker one n (by_terminal terminal at awaits) = record {
    awaited = by_terminal terminal at awaits;
    running = terminals-run;
    off = λ e. (let most = within w.stopped x true stopped in let few = out.few in let size = seated.processors in
        absurd (omega (arith, most, few, size, e)));
  }

  -- where a node that runs finds an opener it found it before
  home : (node asker : ℕ) (one : Who) → is_running w.stopped node ≡ true → home_of next node one ≡ Some asker
      → home_of w node one ≡ Some asker
  home node asker (who.Terminal terminal) running found = found
  home node asker (who.File number file) running found = by (slice_get next.processes number) refl found
    where
      by : (now : Option Pair) → slice_get next.processes number ≡ now
          → option_map (λ pair. route_of next.downs node pair) now ≡ Some asker → route_to w node number ≡ Some asker
      by None at found = absurd (cc)
      by (Some now) at found =
          let old = was number now at in
          let same = stays number node old.pair running (sits number old.pair old.there) in
          rw old.there (ap Some (sym same.same ∙ sym (ap (route_of next.downs node) old.is)) ∙ found)

  not-of : (letter : Letter) → letter.sender ≢ x → letter.receiver ≢ x → not (is_from_or_to x letter) ≡ true
  not-of letter from to = rw (apart-test letter.sender x from, apart-test letter.receiver x to) refl

  module _ (owed sent : List Letter) (served : AreServed site (record { world = w; owed = owed; sent = sent })) where
    abbrev post : Post
    post = record { world = w; owed = owed; sent = sent }

    -- a kept reply stays owed, or its node still looks for the opener elsewhere
    tells : (asker : ℕ) (one : Who) (n : ℕ) (opener : Opener) (node now : ℕ) (words : List ℤ) → now ≡ node
        → is_running w.stopped node ≡ true → node ≢ x → asker ≢ x
        → IsAmong (record { sender = node; receiver = asker; message = Replying (reply_of opener n words) }) owed
        ⊎ (home_of w node one ≢ Some asker)
        → IsAmong (record { sender = now; receiver = asker; message = Replying (reply_of opener n words) })
        (without_those_of x owed) ⊎ (home_of next now one ≢ Some asker)
    tells asker one n opener node now words same running off away (inl among) =
        let letter : Letter =
        record { sender = node; receiver = asker; message = Replying (reply_of opener n words) } in
        inl (subst (λ s. IsAmong (record {
          sender = s;
          receiver = asker;
          message = Replying (reply_of opener n words);
        }) (without_those_of x owed)) (sym same)
        (filter-among letter (λ l. not (is_from_or_to x l)) owed among (not-of letter off away)))
    tells asker one n opener node now words same running off away (inr elsewhere) =
        inr (λ found. elsewhere (home node asker one running (subst (λ s. home_of next s one ≡ Some asker) same found)))

    turned : (asker : ℕ) (one : Who) (n : ℕ) (opener : Opener) (now : Pair) (old : Was opener.server now)
        → Awaited asker one n → IsServed site post asker one n opener old.pair
        → IsServed site (after_reloading x next post) asker one n opener now
    turned asker one n opener now old b (route_stopped rests) =
        let stay = stays opener.server asker old.pair b.running (sits opener.server old.pair old.there) in
        absurd (let runs : is_running w.stopped (route_of w.downs asker old.pair)
        ≡ true = runs (route_of w.downs asker old.pair) stay.off stay.inside in cc)
    turned asker one n opener now old b (is_owed words among) =
        let stay = stays opener.server asker old.pair b.running (sits opener.server old.pair old.there) in
        let route : route_of next.downs asker now ≡ route_of w.downs asker old.pair =
        ap (route_of next.downs asker) old.is ∙ stay.same in
        let letter : Letter = record {
          sender = asker;
          receiver = route_of w.downs asker old.pair;
          message = Asking (request_of opener n words);
        } in
        is_owed words (subst (λ r. IsAmong (record
        { sender = asker; receiver = r; message = Asking (request_of opener n words) }) (without_those_of x owed))
        (sym route)
        (filter-among letter (λ l. not (is_from_or_to x l)) owed among (not-of letter b.off stay.off)))
    turned asker one n opener now old b (is_seen k seat seen) =
        let sit = sits opener.server old.pair old.there in
        let stay = stays opener.server asker old.pair b.running sit in
        let route : route_of next.downs asker now ≡ route_of w.downs asker old.pair =
        ap (route_of next.downs asker) old.is ∙ stay.same in
        let off : (copy_of k old.pair).processor ≢ x = λ e. stay.off (sym seat ∙ e) in
        let same = alike opener.server old.pair k off in
        let processor : (copy_of k now).processor ≡ (copy_of k old.pair).processor =
        ap (λ p. (copy_of k p).processor) old.is ∙ same.processor in
        let role : (copy_of k now).role ≡ (copy_of k old.pair).role = ap (λ p. (copy_of k p).role) old.is ∙ same.role in
        let core : (copy_of k now).core ≡ (copy_of k old.pair).core = ap (λ p. (copy_of k p).core) old.is ∙ same.core in
        let waiting : (copy_of k now).waiting ≡ (copy_of k old.pair).waiting =
        ap (λ p. (copy_of k p).waiting) old.is ∙ same.waiting in
        let running : is_running w.stopped (copy_of k old.pair).processor ≡ true =
        runs (copy_of k old.pair).processor off (inside-of old.pair sit k) in
        is_seen k (processor ∙ seat ∙ sym route) (record {
          watching = λ watches. subst (λ all. WaitsFor all opener n) (sym waiting)
              (seen.watching (ap receives (sym role) ∙ watches));
          next = λ acts stands. subst (λ all. WaitsFor all opener n) (sym waiting)
              (seen.next (sym role ∙ acts) (subst (λ (c : Core). standing_at c.receive opener.place n ≡ Next) core
              stands));
          kept = λ acts words stands. tells asker one n opener (copy_of k old.pair).processor (copy_of k now).processor
              words processor running off b.off
              (seen.kept (sym role ∙ acts) words (subst
              (λ (c : Core). standing_at c.receive opener.place n ≡ Kept words) core stands));
        })

    pub reload-serves : AreServed site (after_reloading x next post)
    reload-serves asker one n opener now opens at awaits =
        let old = was opener.server now at in
        let b = before asker one n awaits in
        turned asker one n opener now old b (served asker one n opener old.pair opens old.there b.awaited)
