-- Where routes lead, and openers are found, before and after a change.
use Rattle.std.proofs.Common.{◌≡◌, ◌<◌, ℕ, Bool, true, false, if◌then◌else◌, List, length, Option, Some, None}
use Rattle.std.proofs.Common.{option_map, slice_get, get_or, refl, ap, ◌∙◌}
use Rattle.std.proofs.lemmas.Option.{slice_get-get_or}
use Rattle.tal_tree.specs.declared.site.Site.{Site}
use Rattle.tal_tree.specs.declared.site.Who.{Who}
use Rattle.tal_tree.specs.declared.site.Who.TheVariants as who
use Rattle.world_semantics.specs.declared.which.Which.{Which}
use Rattle.world_semantics.specs.declared.which.Which.TheVariants.{First, Second}
use Rattle.world_semantics.specs.Messages.{Sending, Cause, Running, Entering, Handing, Stopping, MarkingDown, Reloading}
use Rattle.world_semantics.specs.Rules.{Change, by_own, by_checkpoint, by_request, by_early_request, by_enter, by_print}
use Rattle.world_semantics.specs.Rules.{by_stop, by_mark, by_reload}
use Rattle.world_semantics.specs.World.{Pair, Down, World, is_running, has_marked, copy_of, other_of}
use Rattle.world_semantics.proofs.Growing.{stop-stays}
use Rattle.letters.specs.Routes.{route_of, route_to, home_of}
use Rattle.letter_laws.specs.awaited_requests.specs.Seats.{IsSeated}

-- a change isn't a reload
abbrev pub IsNoReload : Cause → Type 0
IsNoReload (Reloading processor) = ⊥
IsNoReload (Running number) = Unit {0}
IsNoReload (Entering terminal) = Unit {0}
IsNoReload (Handing node message) = Unit {0}
IsNoReload (Stopping processor) = Unit {0}
IsNoReload (MarkingDown node processor) = Unit {0}

-- a change is neither a mark nor a reload: the routes of all nodes stay
abbrev pub KeepsRoutes : Cause → Type 0
KeepsRoutes (MarkingDown node processor) = ⊥
KeepsRoutes (Reloading processor) = ⊥
KeepsRoutes (Running number) = Unit {0}
KeepsRoutes (Entering terminal) = Unit {0}
KeepsRoutes (Handing node message) = Unit {0}
KeepsRoutes (Stopping processor) = Unit {0}

pub routes-no-reload : (cause : Cause) → KeepsRoutes cause → IsNoReload cause
routes-no-reload (MarkingDown node processor) keeps = tt
routes-no-reload (Reloading processor) keeps = keeps
routes-no-reload (Running number) keeps = tt
routes-no-reload (Entering terminal) keeps = tt
routes-no-reload (Handing node message) keeps = tt
routes-no-reload (Stopping processor) keeps = tt

-- two forms of a process, in the same two processors
abbrev pub SameSeats : Pair → Pair → Type 0
SameSeats before now = (k : Which) → (copy_of k now).processor ≡ (copy_of k before).processor

-- the processor of the copy that leads
abbrev pub led_at : Pair → ℕ
led_at pair = (copy_of pair.led pair).processor

-- the route to a process of which this copy leads
abbrev led_by : List Down → ℕ → Pair → Which → ℕ
led_by downs node pair k =
    if has_marked downs node (copy_of k pair).processor then (copy_of (other_of k) pair).processor
    else (copy_of k pair).processor

-- where the same copy leads in both, the routes are the same
pub route-same : (downs : List Down) (node : ℕ) (before now : Pair) → SameSeats before now → now.led ≡ before.led
    → route_of downs node now ≡ route_of downs node before
route-same downs node before now same led = ap (led_by downs node now) led ∙ seated before.led
  where
    seated : (k : Which) → led_by downs node now k ≡ led_by downs node before k
    seated k = rw (same k, same (other_of k)) refl

-- a route leads to one of the two copies
pub route-where : (downs : List Down) (node : ℕ) (pair : Pair)
    → (k : Which) × ((copy_of k pair).processor ≡ route_of downs node pair)
route-where downs node pair = by (has_marked downs node (copy_of pair.led pair).processor)
  where
    by : (marked : Bool) → (k : Which) × ((copy_of k pair).processor
        ≡ (if marked then (copy_of (other_of pair.led) pair).processor else (copy_of pair.led pair).processor))
    by true = (other_of pair.led, refl)
    by false = (pair.led, refl)

pub seat-within : {stopped : List Bool} {downs : List Down} {pair : Pair} (k : Which) → IsSeated stopped downs pair
    → (copy_of k pair).processor < length stopped
seat-within First seated = seated.first
seat-within Second seated = seated.second

-- a processor that doesn't run has stopped
pub stopped-is : (stopped : List Bool) (processor : ℕ) → processor < length stopped
    → is_running stopped processor ≡ false
    → slice_get stopped processor ≡ Some true
stopped-is stopped processor within rests =
    by (get_or stopped processor false) (slice_get-get_or stopped processor false within)
  where
    by : (has : Bool) → slice_get stopped processor ≡ Some has → slice_get stopped processor ≡ Some true
    by true is = is
    by false is = absurd (let runs : is_running stopped processor ≡ true = rw is refl in cc)

pub rests-stopped : (stopped : List Bool) (processor : ℕ) → slice_get stopped processor ≡ Some true
    → is_running stopped processor ≡ false
rests-stopped stopped processor is = rw is refl

-- a change that is neither a mark nor a reload leaves the marks as they were
pub downs-stay : {site : Site} {w next : World} {cause : Cause} {sendings : List Sending}
    → Change site w cause sendings next → KeepsRoutes cause → next.downs ≡ w.downs
downs-stay (by_own number k pair there role causes advances enters fr) keeps = refl
downs-stay (by_checkpoint number pair there passes) keeps = refl
downs-stay (by_request request k pair among there role) keeps = refl
downs-stay (by_early_request request k pair among there role) keeps = refl
downs-stay (by_enter number terminal opener there even next opens) keeps = refl
downs-stay (by_print number terminal reply there odd among opens last) keeps = refl
downs-stay (by_stop processor runs whole) keeps = refl
downs-stay (by_mark node processor stopped runs new) keeps = absurd keeps
downs-stay (by_reload processor stopped all counted less) keeps = absurd keeps

-- what has stopped stays so, but by a reload
pub stopped-stays : {site : Site} {w next : World} {cause : Cause} {sendings : List Sending}
    → Change site w cause sendings next → IsNoReload cause → (processor : ℕ)
    → slice_get w.stopped processor ≡ Some true → slice_get next.stopped processor ≡ Some true
stopped-stays (by_own number k pair there role causes advances enters fr) no_reload processor is = is
stopped-stays (by_checkpoint number pair there passes) no_reload processor is = is
stopped-stays (by_request request k pair among there role) no_reload processor is = is
stopped-stays (by_early_request request k pair among there role) no_reload processor is = is
stopped-stays (by_enter number terminal opener there even next opens) no_reload processor is = is
stopped-stays (by_print number terminal reply there odd among opens last) no_reload processor is = is
stopped-stays {w = w} (by_stop other runs whole) no_reload processor is = stop-stays w.stopped other processor is
stopped-stays (by_mark node other stopped runs new) no_reload processor is = is
stopped-stays (by_reload other stopped all counted less) no_reload processor is = absurd no_reload

-- where a node finds an opener it found it before, if its route to the opener's process was the same
pub home-before : (w next : World) (node asker : ℕ) (one : Who)
    → ((number file : ℕ) → one ≡ who.File number file → (now : Pair) → slice_get next.processes number ≡ Some now
    → (before : Pair) × (slice_get w.processes number ≡ Some before)
    × (route_of next.downs node now ≡ route_of w.downs node before))
    → home_of next node one ≡ Some asker → home_of w node one ≡ Some asker
home-before w next node asker (who.Terminal terminal) routes home = home
home-before w next node asker (who.File number file) routes home = by (slice_get next.processes number) refl home
  where
    by : (now : Option Pair) → slice_get next.processes number ≡ now
        → option_map (λ pair. route_of next.downs node pair) now ≡ Some asker
        → route_to w node number ≡ Some asker
    by None there home = absurd (cc)
    by (Some now) there home = let was = routes number file refl now there in rw (was.1, ← was.2) home
