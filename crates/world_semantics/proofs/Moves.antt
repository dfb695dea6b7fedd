-- Runs that are computed from moves: each move says which change an event makes. The examples are played by it.
use Rattle.std.proofs.Common.{◌≡◌, ℕ, ◌+◌, ◌==◌, ◌&&◌, Bool, true, false, List, [], ◌∷◌, map, Option, Some, None}
use Rattle.std.proofs.Common.{slice_get, refl, ap, ◌∙◌, ◌||◌, arith, nat_lt, not, subst, suc, sym, zero}
use Rattle.std.proofs.lemmas.Bool.{eqb-true, ltb-false, ltb-true}
use Rattle.std.specs.Cmp.Derive.{both_true}
use Rattle.checkpoint_image.specs.gd_words.specs.Members.{IsAmong}
use Rattle.checkpoint_image.specs.gd_words.proofs.Among.{among-at}
use Rattle.checkpoint_image.specs.gd_words.specs.declared.message.Request.{Request}
use Rattle.checkpoint_image.specs.gd_words.specs.declared.message.Reply.{Reply}
use Rattle.checkpoint_image.specs.tal_tree.specs.declared.act.Act.TheVariants as act
use Rattle.checkpoint_image.specs.tal_tree.specs.declared.site.Site.{Site}
use Rattle.checkpoint_image.specs.tal_tree.specs.declared.site.Who.TheVariants as who
use Rattle.schedule.specs.declared.bus_name.BusName.TheVariants as bus
use Rattle.schedule.specs.declared.event.Event.{Event}
use Rattle.schedule.specs.declared.event.Event.TheVariants as event
use Rattle.plain_semantics.specs.process_semantics.specs.declared.point.Point.{Point}
use Rattle.plain_semantics.specs.process_semantics.specs.declared.point.Point.TheVariants as point
use Rattle.plain_semantics.specs.process_semantics.specs.Process as process
use Rattle.plain_semantics.specs.declared.slot.Opener.{Opener}
use Rattle.plain_semantics.specs.Openers.{opener_of}
use Rattle.plain_semantics.specs.Machine.{next_request}
use Rattle.checkpoint_image.specs.declared.message.ImageMessage.{ImageMessage}
use Rattle.checkpoint_image.specs.declared.message.TakenMessage.{TakenMessage}
use Rattle.world_semantics.specs.declared.role.Role.{Role}
use Rattle.world_semantics.specs.declared.role.Role.TheVariants.{Acting, Watching, Gone, Blank}
use Rattle.world_semantics.specs.Core.{put_in, next_on, gets}
use Rattle.world_semantics.specs.World.{Pair, World, is_running, has_marked, Which, copy_of, Down, is_whole, other_of}
use Rattle.world_semantics.specs.World.{receives, runs_by, terminal_node, marked_from, is_marked_by_all}
use Rattle.world_semantics.specs.Messages.{Sending}
use Rattle.world_semantics.specs.Passes.{by_apply, by_acknowledge, by_apply_behind}
use Rattle.world_semantics.specs.Own.{by_reply}
use Rattle.world_semantics.specs.Rules.{by_own, by_checkpoint, by_request, by_early_request, by_enter, by_print}
use Rattle.world_semantics.specs.Rules.{by_stop, by_mark, by_reload, most_reloads}
use Rattle.world_semantics.specs.Follows.{marks_none, marks_one, Follows, runs, enters, delivers, ticks, fails, Leads}
use Rattle.world_semantics.specs.Follows.{stays, goes_on, reloads}
use Rattle.world_semantics.specs.Running.{run_done}
use Rattle.world_semantics.proofs.Running.{enters-as}
use Rattle.world_semantics.proofs.Roles.{both-true}
use Rattle.world_semantics.proofs.Ran.{run-may}
use Rattle.world_semantics.specs.Kept.{own_acts}

-- which change an event makes: of the messages that were ever sent, each is named by its place among those of its kind,
-- the newest at 0
pub data Move : Type 0 where
  -- a process runs
  Runs : (number : ℕ) → Move
  -- a terminal enters
  Enters : (terminal : ℕ) → Move
  -- a request comes to one copy of its process
  Brings : (request : ℕ) → (k : Which) → Move
  -- a reply comes to a terminal
  Prints : (reply : ℕ) → (terminal : ℕ) → Move
  -- a reply comes to one copy of a process
  Gets : (number : ℕ) → (reply : ℕ) → (k : Which) → Move
  -- a checkpoint of a process comes to one of its copies
  Applies : (number : ℕ) → (checkpoint : ℕ) → (k : Which) → Move
  -- a process's copy is told that a checkpoint was taken
  Tells : (number : ℕ) → (taken : ℕ) → (k : Which) → Move
  -- a processor stops
  Fails : (processor : ℕ) → Move
  -- a node ticks and marks a processor
  Ticks : (node : ℕ) → (processor : ℕ) → Move
  -- a processor is loaded again
  Reloads : (processor : ℕ) → Move

abbrev pub event_of : Move → Event
event_of (Runs number) = event.Run number
event_of (Enters terminal) = event.Enter terminal
event_of (Brings request k) = event.Deliver bus.X 0
event_of (Prints reply terminal) = event.Deliver bus.X 0
event_of (Gets number reply k) = event.Deliver bus.X 0
event_of (Applies number checkpoint k) = event.Deliver bus.X 0
event_of (Tells number taken k) = event.Deliver bus.X 0
event_of (Fails processor) = event.Fail processor
event_of (Ticks node processor) = event.Tick node
event_of (Reloads processor) = event.Reload processor

-- a computed change with the reason why its event permits it
pub record Permitted (site : Site) (w : World) (event : Event) : Type 0 where
  pub world : World
  pub sendings : List Sending
  pub follows : Follows site w event sendings world

abbrev pub Perhaps : Site → World → Event → Type 0
Perhaps site w event = Option (Permitted site w event)

-- a value with the reason for it
abbrev pub with_reason : {A B : Type 0} (o : Option A) → ((x : A) → o ≡ Some x → Option B) → Option B
with_reason None f = None
with_reason (Some x) f = f x refl

abbrev pub where_true : {B : Type 0} (b : Bool) → (b ≡ true → Option B) → Option B
where_true false f = None
where_true true f = f refl

abbrev pub where_false : {B : Type 0} (b : Bool) → (b ≡ false → Option B) → Option B
where_false true f = None
where_false false f = f refl

-- Each move

abbrev run_move : (site : Site) (w : World) (number : ℕ) → Perhaps site w (event.Run number)
run_move site w number = with_reason (run_done site number w) (λ done e.
    Some (record { world = done.world; sendings = done.sendings; follows = runs (run-may site number w done e) }))

abbrev enter_move : (site : Site) (w : World) (number : ℕ) → Perhaps site w (event.Enter number)
enter_move site w number =
    with_reason (slice_get w.terminals number) (λ terminal there.
    with_reason (opener_of site (who.Terminal number)) (λ opener opens.
    where_true (terminal.entered == terminal.printed) (λ free.
    with_reason (next_request site number terminal.entered) (λ words next.
    Some (record {
      world = _;
      sendings = _;
      follows = enters (by_enter number terminal opener there (eqb-true _ _ free) next opens);
    })))))

abbrev bring_as : (site : Site) (w : World) (request : Request) (k : Which) (pair : Pair) (role : Role)
    → IsAmong request w.requests
    → slice_get w.processes request.process ≡ Some pair → (copy_of k pair).role ≡ role
    → Perhaps site w (event.Deliver bus.X 0)
bring_as site w request k pair Acting i there e =
    Some (record { world = _; sendings = _; follows = delivers _ _ (by_request request k pair i there e) })
bring_as site w request k pair Watching i there e =
    Some (record {
      world = _;
      sendings = _;
      follows = delivers _ _ (by_early_request request k pair i there (ap receives e));
    })
bring_as site w request k pair Blank i there e =
    Some (record {
      world = _;
      sendings = _;
      follows = delivers _ _ (by_early_request request k pair i there (ap receives e));
    })
bring_as site w request k pair Gone i there e = None

abbrev bring_move : (site : Site) (w : World) (place : ℕ) (k : Which) → Perhaps site w (event.Deliver bus.X 0)
bring_move site w place k =
    with_reason (slice_get w.requests place) (λ request sent.
    with_reason (slice_get w.processes request.process) (λ pair there.
    bring_as site w request k pair (copy_of k pair).role (among-at w.requests place request sent) there refl))

abbrev is_opener : Opener → Reply → Bool
is_opener opener reply = opener.server == reply.process && opener.place == reply.opener

pub opener-is : (opener : Opener) (reply : Reply) → is_opener opener reply ≡ true
    → opener ≡ record { server = reply.process; place = reply.opener }
opener-is opener reply e =
    let b = both-true (opener.server == reply.process) _ e in
    let s = eqb-true _ _ b.0 in let p = eqb-true _ _ b.1 in λ i. record { server = s i; place = p i }

abbrev print_move : (site : Site) (w : World) (place number : ℕ) → Perhaps site w (event.Deliver bus.X 0)
print_move site w place number =
    with_reason (slice_get w.replies place) (λ reply sent.
    with_reason (slice_get w.terminals number) (λ terminal there.
    with_reason (opener_of site (who.Terminal number)) (λ opener opens.
    where_true (is_opener opener reply) (λ own.
    where_true (terminal.entered == terminal.printed + 1) (λ awaits.
    where_true (reply.number == terminal.entered) (λ same.
    Some (record {
      world = _;
      sendings = _;
      follows =
          delivers _ _ (by_print number terminal reply there (eqb-true _ _ awaits) (among-at w.replies place reply sent)
          (opens ∙ ap Some (opener-is opener reply own)) (eqb-true _ _ same));
    })))))))

abbrev get_at : (site : Site) (w : World) (number : ℕ) (reply : Reply) (k : Which) (pair : Pair) (p : Point)
    → slice_get w.processes number ≡ Some pair
    → IsAmong reply w.replies → (copy_of k pair).role ≡ Acting → process.point (copy_of k pair).core.state ≡ p
    → Perhaps site w (event.Deliver bus.X 0)
get_at site w number reply k pair point.Await there i role stands =
    with_reason (opener_of site (who.File number (process.asked_file (copy_of k pair).core.state))) (λ opener opens.
    where_true (is_opener opener reply) (λ same.
    where_true (reply.number + 1 == next_on (copy_of k pair).core (process.asked_file (copy_of k pair).core.state))
    (λ awaits.
    Some (record {
      world = _;
      sendings = _;
      follows =
          delivers _ _ (by_own number k pair there role
          (by_reply i (opens ∙ ap Some (opener-is opener reply same)) (eqb-true _ _ awaits) refl) (gets stands refl)
          (enters-as number (act.Step number) w.kept (copy_of k pair)) tt);
    }))))
get_at site w number reply k pair _ there i role stands = None

abbrev get_as : (site : Site) (w : World) (number : ℕ) (reply : Reply) (k : Which) (pair : Pair) (role : Role)
    → slice_get w.processes number ≡ Some pair
    → IsAmong reply w.replies → (copy_of k pair).role ≡ role → Perhaps site w (event.Deliver bus.X 0)
get_as site w number reply k pair Acting there i role =
    get_at site w number reply k pair (process.point (copy_of k pair).core.state) there i role refl
get_as site w number reply k pair _ there i role = None

abbrev get_move : (site : Site) (w : World) (number place : ℕ) (k : Which) → Perhaps site w (event.Deliver bus.X 0)
get_move site w number place k =
    with_reason (slice_get w.replies place) (λ reply sent.
    with_reason (slice_get w.processes number) (λ pair there.
    get_as site w number reply k pair (copy_of k pair).role there (among-at w.replies place reply sent) refl))

abbrev apply_by : (site : Site) (w : World) (number : ℕ) (message : ImageMessage) (k : Which) (pair : Pair)
    → slice_get w.processes number ≡ Some pair
    → IsAmong message pair.checkpoints → receives (copy_of k pair).role ≡ true → (behind : Bool)
    → nat_lt (copy_of (other_of k) pair).position (own_acts number w.kept) ≡ behind
    → Perhaps site w (event.Deliver bus.X 0)
apply_by site w number message k pair there i role true l =
    where_true (message.era == (copy_of k pair).era) (λ era.
    where_true (message.number == (copy_of k pair).number + 1) (λ next.
    with_reason (put_in (copy_of k pair).core message.image) (λ applied e.
    Some (record {
      world = _;
      sendings = _;
      follows = delivers _ _ (by_checkpoint number pair there
          (by_apply_behind k message applied role i (eqb-true _ _ era) (eqb-true _ _ next) e (ltb-true _ _ l)));
    }))))
apply_by site w number message k pair there i role false l =
    where_true (message.era == (copy_of k pair).era) (λ era.
    where_true (message.number == (copy_of k pair).number + 1) (λ next.
    with_reason (put_in (copy_of k pair).core message.image) (λ applied e.
    Some (record {
      world = _;
      sendings = _;
      follows = delivers _ _ (by_checkpoint number pair there
          (by_apply k message applied role i (eqb-true _ _ era) (eqb-true _ _ next) e (ltb-false _ _ l)));
    }))))

abbrev apply_as : (site : Site) (w : World) (number : ℕ) (message : ImageMessage) (k : Which) (pair : Pair)
    (role : Role) → slice_get w.processes number ≡ Some pair
    → IsAmong message pair.checkpoints → (copy_of k pair).role ≡ role → Perhaps site w (event.Deliver bus.X 0)
apply_as site w number message k pair Watching there i role =
    apply_by site w number message k pair there i (ap receives role) _ refl
apply_as site w number message k pair Blank there i role =
    apply_by site w number message k pair there i (ap receives role) _ refl
apply_as site w number message k pair _ there i role = None

abbrev apply_move : (site : Site) (w : World) (number place : ℕ) (k : Which) → Perhaps site w (event.Deliver bus.X 0)
apply_move site w number place k =
    with_reason (slice_get w.processes number) (λ pair there.
    with_reason (slice_get pair.checkpoints place) (λ message sent.
    apply_as site w number message k pair (copy_of k pair).role there (among-at pair.checkpoints place message sent)
    refl))

abbrev tell_as : (site : Site) (w : World) (number : ℕ) (taken : TakenMessage) (k : Which) (pair : Pair) (role : Role)
    → slice_get w.processes number ≡ Some pair
    → IsAmong taken pair.takens → (copy_of k pair).role ≡ role → Perhaps site w (event.Deliver bus.X 0)
tell_as site w number taken k pair Acting there i role =
    where_true (copy_of k pair).sent (λ sent.
    where_true (taken.era == (copy_of k pair).era) (λ era.
    where_true (taken.number == (copy_of k pair).number) (λ same.
    Some (record {
      world = _;
      sendings = _;
      follows = delivers _ _ (by_checkpoint number pair there
          (by_acknowledge k taken role sent i (eqb-true _ _ era) (eqb-true _ _ same)));
    }))))
tell_as site w number taken k pair _ there i role = None

abbrev tell_move : (site : Site) (w : World) (number place : ℕ) (k : Which) → Perhaps site w (event.Deliver bus.X 0)
tell_move site w number place k =
    with_reason (slice_get w.processes number) (λ pair there.
    with_reason (slice_get pair.takens place) (λ taken sent.
    tell_as site w number taken k pair (copy_of k pair).role there (among-at pair.takens place taken sent) refl))

abbrev fail_as : (site : Site) (w : World) (processor : ℕ) (stopped : Option Bool)
    → slice_get w.stopped processor ≡ stopped → Perhaps site w (event.Fail processor)
fail_as site w processor (Some false) e =
    where_true (is_whole w) (λ whole. Some (record
    { world = _; sendings = _; follows = fails (by_stop processor e whole) }))
fail_as site w processor _ e = None

abbrev tick_as : (site : Site) (w : World) (node processor : ℕ) (stopped : Option Bool)
    → slice_get w.stopped processor ≡ stopped → Perhaps site w (event.Tick node)
tick_as site w node processor (Some true) e =
    where_true (is_running w.stopped node) (λ runs.
    where_false (has_marked w.downs node processor) (λ new.
    Some (record {
      world = _;
      sendings = _;
      follows = ticks runs (marks_one processor (by_mark node processor e runs new) marks_none);
    })))
tick_as site w node processor _ e = None

pub all-marked : (downs : List Down) (x from : ℕ) (stopped : List Bool) → marked_from downs x from stopped ≡ true
    → (k : ℕ) → slice_get stopped k ≡ Some false
    → has_marked downs (from + k) x ≡ true
all-marked downs x from [] e k at = absurd (cc)
all-marked downs x from (true ∷ stopped) e zero at = absurd (cc)
all-marked downs x from (true ∷ stopped) e (suc k) at =
    let more : (from + 1) + k ≡ from + suc k =
    omega arith in subst (λ n. has_marked downs n x ≡ true) more (all-marked downs x (from + 1) stopped e k at)
all-marked downs x from (false ∷ stopped) e zero at =
    let more : from ≡ from + 0 = omega arith in subst (λ n. has_marked downs n x ≡ true) more (both-true _ _ e).0
all-marked downs x from (false ∷ stopped) e (suc k) at =
    let more : (from + 1) + k ≡ from + suc k = omega arith in
    subst (λ n. has_marked downs n x ≡ true) more (all-marked downs x (from + 1) stopped (both-true _ _ e).1 k at)

-- each node that runs has marked a processor which all are said to have marked
marked-all : (downs : List Down) (x : ℕ) (stopped : List Bool) → marked_from downs x 0 stopped ≡ true
    → (is_running stopped terminal_node ≡ true → has_marked downs terminal_node x ≡ true)
    → (node : ℕ) → is_running stopped node ≡ true → has_marked downs node x ≡ true
marked-all downs x stopped e there node on = by (slice_get stopped node) refl on
  where
    by : (o : Option Bool) → slice_get stopped node ≡ o → runs_by node o ≡ true → has_marked downs node x ≡ true
    by None at r = let same = eqb-true node terminal_node r in
        subst (λ n. has_marked downs n x ≡ true) (sym same)
        (there (subst (λ n. is_running stopped n ≡ true) same on))
    by (Some true) at r = absurd (cc)
    by (Some false) at r = let zeros : 0 + node ≡ node = omega arith in
        subst (λ n. has_marked downs n x ≡ true) zeros (all-marked downs x 0 stopped e node at)

if-runs : (runs is_marked : Bool) → (not runs || is_marked) ≡ true → runs ≡ true → is_marked ≡ true
if-runs true is_marked e r = e
if-runs false is_marked e r = absurd (cc)

pub marked-by-all : (w : World) (processor : ℕ) → is_marked_by_all w processor ≡ true
    → (node : ℕ) → is_running w.stopped node ≡ true → has_marked w.downs node processor ≡ true
marked-by-all w processor e =
    let both = both-true (marked_from w.downs processor 0 w.stopped) _ e in
    marked-all w.downs processor w.stopped both.0 (if-runs (is_running w.stopped terminal_node) _ both.1)

all-back : (downs : List Down) (x from : ℕ) (stopped : List Bool)
    → ((k : ℕ) → slice_get stopped k ≡ Some false → has_marked downs (from + k) x ≡ true)
    → marked_from downs x from stopped ≡ true
all-back downs x from [] each = refl
all-back downs x from (true ∷ stopped) each =
    all-back downs x (from + 1) stopped (λ k at.
    (let more : from + suc k ≡ (from + 1) + k = omega arith in
    subst (λ n. has_marked downs n x ≡ true) more (each (suc k) at)))
all-back downs x from (false ∷ stopped) each =
    let zeros : from + 0 ≡ from = omega arith in
    both_true (subst (λ n. has_marked downs n x ≡ true) zeros (each 0 refl))
    (all-back downs x (from + 1) stopped (λ k at.
    (let more : from + suc k ≡ (from + 1) + k = omega arith in
    subst (λ n. has_marked downs n x ≡ true) more (each (suc k) at))))

running-there : (stopped : List Bool) (node : ℕ) → slice_get stopped node ≡ Some false
    → is_running stopped node ≡ true
running-there stopped node e = rw e refl

runs-if : (runs is_marked : Bool) → (runs ≡ true → is_marked ≡ true) → (not runs || is_marked) ≡ true
runs-if true is_marked can = can refl
runs-if false is_marked can = refl

pub by-all-marked : (w : World) (processor : ℕ)
    → ((node : ℕ) → is_running w.stopped node ≡ true → has_marked w.downs node processor ≡ true)
    → is_marked_by_all w processor ≡ true
by-all-marked w processor each =
    both_true
    (all-back w.downs processor 0 w.stopped (λ k at.
    (let zeros : k ≡ 0 + k = omega arith in
    subst (λ n. has_marked w.downs n processor ≡ true) zeros (each k (running-there w.stopped k at)))))
    (runs-if (is_running w.stopped terminal_node) (has_marked w.downs terminal_node processor) (each terminal_node))

abbrev reload_as : (site : Site) (w : World) (processor : ℕ) (stopped : Option Bool)
    → slice_get w.stopped processor ≡ stopped → Perhaps site w (event.Reload processor)
reload_as site w processor (Some true) e =
    where_true (is_marked_by_all w processor) (λ all.
    with_reason (slice_get w.reloads processor) (λ times is.
    where_true (nat_lt times most_reloads) (λ less.
    Some (record {
      world = _;
      sendings = _;
      follows = reloads (by_reload processor e (marked-by-all w processor all) is
          (ltb-true _ _ less));
    }))))
reload_as site w processor _ e = None

-- the change of a move, where it is possible
abbrev pub moved : (site : Site) (w : World) (move : Move) → Perhaps site w (event_of move)
moved site w (Runs number) = run_move site w number
moved site w (Enters terminal) = enter_move site w terminal
moved site w (Brings request k) = bring_move site w request k
moved site w (Prints reply terminal) = print_move site w reply terminal
moved site w (Gets number reply k) = get_move site w number reply k
moved site w (Applies number checkpoint k) = apply_move site w number checkpoint k
moved site w (Tells number taken k) = tell_move site w number taken k
moved site w (Fails processor) = fail_as site w processor (slice_get w.stopped processor) refl
moved site w (Reloads processor) = reload_as site w processor (slice_get w.stopped processor) refl
moved site w (Ticks node processor) = tick_as site w node processor (slice_get w.stopped processor) refl

abbrev pub world_by : {site : Site} {w : World} {event : Event} → Perhaps site w event → Option World
world_by None = None
world_by (Some p) = Some p.world

-- Moves, one after the other

pub record Played (site : Site) (w : World) (events : List Event) : Type 0 where
  pub world : World
  pub leads : Leads site w events world

abbrev pub played_on : {site : Site} {w : World} {event : Event} {events : List Event} (first : Permitted site w event)
    → Option (Played site first.world events) → Option (Played site w (event ∷ events))
played_on first None = None
played_on first (Some rest) = Some (record { world = rest.world; leads = goes_on first.follows rest.leads })

abbrev pub played_then : {site : Site} {w : World} {event : Event} (events : List Event) → Perhaps site w event
    → ((next : World) → Option (Played site next events)) → Option (Played site w (event ∷ events))
played_then events None rest = None
played_then events (Some first) rest = played_on first (rest first.world)

-- the run of a list of moves, where each is possible
abbrev pub played : (site : Site) (moves : List Move) (w : World) → Option (Played site w (map event_of moves))
played site [] w = Some (record { world = w; leads = stays })
played site (move ∷ moves) w = played_then (map event_of moves) (moved site w move) (λ next. played site moves next)
