-- A change that isn't a mark sends one message at most, and leaves what there is as it was; and so it leaves the marks
-- and the counts of reloads if it isn't a reload.
use Rattle.std.proofs.Common.{◌≡◌, ◌≤◌, ℕ, Bool, true, false, List, length, Option, Some, None, option_map}
use Rattle.std.proofs.Common.{nat_lt, option_and_then, slice_get, slice_set, map, refl, arith}
use Rattle.std.proofs.lemmas.List.{length-map, length-set}
use Rattle.gd_words.specs.declared.message.Request.{Request}
use Rattle.gd_words.specs.declared.message.Reply.{Reply}
use Rattle.tal_tree.specs.declared.site.OpenerSpec.{OpenerSpec}
use Rattle.tal_tree.specs.declared.site.Site.{Site}
use Rattle.tal_tree.specs.declared.site.Who.{Who}
use Rattle.tal_tree.specs.declared.site.Who.TheVariants as who
use Rattle.process_semantics.specs.declared.point.Point.{Point}
use Rattle.process_semantics.specs.declared.point.Point.TheVariants as point
use Rattle.process_semantics.specs.Process as process
use Rattle.plain_semantics.specs.declared.slot.Opener.{Opener}
use Rattle.plain_semantics.specs.Openers.{openers_of, opener_of}
use Rattle.plain_semantics.specs.Machine.{next_request}
use Rattle.checkpoint_image.specs.declared.message.ImageMessage.{ImageMessage}
use Rattle.checkpoint_image.specs.declared.message.TakenMessage.{TakenMessage}
use Rattle.checkpoint_image.specs.declared.receive.OpenerBlock.{OpenerBlock}
use Rattle.checkpoint_image.specs.declared.receive.RequestStanding.{RequestStanding}
use Rattle.checkpoint_image.specs.declared.receive.RequestStanding.TheVariants.{Next, InHand, Kept, Old, Ahead}
use Rattle.checkpoint_image.specs.Receive.{Chosen, choice_among, reply_sent_again, repeated_by, request_standing}
use Rattle.world_semantics.specs.declared.role.Role.{Role}
use Rattle.world_semantics.specs.declared.role.Role.TheVariants.{Acting, Watching, Blank, Gone}
use Rattle.world_semantics.specs.declared.which.Which.{Which}
use Rattle.world_semantics.specs.declared.which.Which.TheVariants.{First, Second}
use Rattle.world_semantics.specs.Core.{Core, next_on}
use Rattle.world_semantics.specs.Kept.{own_acts}
use Rattle.world_semantics.specs.Messages.{Message, Asking, Replying, Checkpointing, Taking, sent_at}
use Rattle.world_semantics.specs.Own.{Around, around, request_to}
use Rattle.world_semantics.specs.Records.{records_of}
use Rattle.world_semantics.specs.Running.{Done, Own, Stepped, own_took, own_take, own_answer_at, own_answer, own_at}
use Rattle.world_semantics.specs.Running.{ending_step, first_step, in_world, run_pair, run_done, sending_step}
use Rattle.world_semantics.specs.Running.{step_of_copy}
use Rattle.world_semantics.specs.World.{Pair, Terminal, World, copy_of, is_whole, may_pass, other_of}
use Rattle.computed_changes.specs.Entered.{enter_at, enter_to, enter_where, enter_done, entered_done}
use Rattle.computed_changes.specs.Fitting.{depths_of, put_fitting}
use Rattle.computed_changes.specs.Checkpoints.{is_next_for, is_of_last}
use Rattle.computed_changes.specs.Handed.{brought_to, copy_in, handed_done, replied_done, step_by}
use Rattle.computed_changes.specs.Replies.{awaits, awaits_at, printed_at, printed_done, printed_where}
use Rattle.world_semantics.proofs.Lifted.{free_at, lifted, made_if, done_at_checkpoint, own_done, own_made, passed_done}
use Rattle.world_semantics.proofs.Lifted.{renewing_at, run_as, run_at, sent_done}
use Rattle.computed_changes.proofs.Lifted.{acknowledged_where, applied_as, applied_made, applied_where, asked_done}
use Rattle.computed_changes.proofs.Lifted.{checkpoint_done, got_done, got_where, taken_done}
use Rattle.computed_changes.specs.Requests.{early_step}
use Rattle.computed_changes.specs.Stopped.{stop_if, stop_where, stop_done}

-- two worlds have as many processors, processes and terminals
pub record IsOfSize (w next : World) : Type 0 where
  pub stopped : length next.stopped ≡ length w.stopped
  pub processes : length next.processes ≡ length w.processes
  pub terminals : length next.terminals ≡ length w.terminals

pub record IsQuiet (w : World) (done : Done) : Type 0 where
  pub size : IsOfSize w done.world
  pub downs : done.world.downs ≡ w.downs
  pub reloads : done.world.reloads ≡ w.reloads
  pub few : length done.sendings ≤ 1

abbrev pub IsQuietAny : World → Option Done → Type 0
IsQuietAny w None = Unit {0}
IsQuietAny w (Some done) = IsQuiet w done

sent-few : (node : ℕ) (messages : List Message) → length messages ≤ 1 → length (sent_at node messages) ≤ 1
sent-few node messages few =
    let same : length (sent_at node messages) ≡ length messages =
    length-map messages (λ message. record { node = node; message = message }) in
    omega (arith, same, few)

pub repeated-few : (request : Request) (stands : RequestStanding) → length (repeated_by request stands) ≤ 1
repeated-few request Next = omega arith
repeated-few request InHand = omega arith
repeated-few request (Kept words) = omega arith
repeated-few request Old = omega arith
repeated-few request Ahead = omega arith

at-copy-quiet : (site : Site) (w : World) (number node : ℕ) (message : Message)
    → ((k : Which) (pair : Pair) → IsQuietAny w (lifted number w (step_by site number pair (records_of w) message k)))
    → (one : Option Pair)
    → IsQuietAny w (brought_to site number node message w one)
at-copy-quiet site w number node message all None = tt
at-copy-quiet site w number node message all (Some pair) = by (copy_in node pair)
  where
    by : (k : Option Which) → IsQuietAny w (lifted number w
        (option_and_then (step_by site number pair (records_of w) message) k))
    by None = tt
    by (Some k) = all k pair

-- Acts

abbrev FewOwn : Option Own → Type 0
FewOwn None = Unit {0}
FewOwn (Some own) = length own.messages ≤ 1

module _ (number : ℕ) (core : Core) (before : Around) where
  take-few : (found : Option Chosen) → FewOwn (own_take number core before found)
  take-few None = tt
  take-few (Some found) = by (slice_get core.receive.openers found.request.opener)
    where
      by : (block : Option OpenerBlock) → FewOwn (option_map (own_took number core before found) block)
      by None = tt
      by (Some block) = omega arith

  asking-few : (next : ℕ) (words : List _) (opener : Option Opener)
      → length (map Asking (request_to next words opener)) ≤ 1
  asking-few next words None = omega arith
  asking-few next words (Some opener) = omega arith

  answer-few : (place : ℕ) (opener : Option OpenerSpec) (block : Option OpenerBlock)
      → FewOwn (own_answer_at number core before place opener block)
  answer-few place None block = tt
  answer-few place (Some opener) None = tt
  answer-few place (Some opener) (Some block) = omega arith

  answering-few : (site : Site) (place : Option ℕ) → FewOwn (own_answer site number core before place)
  answering-few site None = tt
  answering-few site (Some place) =
      answer-few place (slice_get (openers_of site number) place) (slice_get core.receive.openers place)

  own-few : (site : Site) (stands : Point) → FewOwn (own_at site number core before stands)
  own-few site point.Inner = omega arith
  own-few site point.Take = take-few (choice_among core.receive before.waiting)
  own-few site point.Ask =
      asking-few (next_on core (process.asked_file core.state)) (process.asked_words core.state)
      (opener_of site (who.File number (process.asked_file core.state)))
  own-few site point.Answer = answering-few site core.receive.in_hand
  own-few site point.Device = omega arith
  own-few site point.Await = tt
  own-few site point.AtCheckpoint = tt
  own-few site point.Ended = tt

module _ (site : Site) (w : World) where
  -- a change of one process
  one-set : (number : ℕ) (pair : Pair) → length (slice_set w.processes number pair) ≡ length w.processes
  one-set number pair = length-set w.processes number pair

  own-quiet : (number : ℕ) (k : Which) (pair : Pair) (own : Own) → length own.messages ≤ 1
      → IsQuiet w (own_done number k pair w own)
  own-quiet number k pair own few = record {
    size = record { stopped = refl; processes = one-set number _; terminals = refl };
    downs = refl;
    reloads = refl;
    few = sent-few (copy_of k pair).processor own.messages few;
  }

  any-own : (number : ℕ) (k : Which) (pair : Pair) (own : Option Own) → FewOwn own
      → IsQuietAny w (own_made number k pair w own)
  any-own number k pair None few = tt
  any-own number k pair (Some own) few = own-quiet number k pair own few

  acts-quiet : (number : ℕ) (k : Which) (pair : Pair) (stands : Point)
      → IsQuietAny w (own_made number k pair w
      (own_at site number (copy_of k pair).core (around (copy_of k pair) pair w) stands))
  acts-quiet number k pair stands =
      any-own number k pair (own_at site number (copy_of k pair).core (around (copy_of k pair) pair w) stands)
      (own-few number (copy_of k pair).core (around (copy_of k pair) pair w) site stands)

  -- it sends a checkpoint, or what it has sent comes to its end
  sent-quiet : (number : ℕ) (k : Which) (pair : Pair) → IsQuiet w (sent_done number k pair w)
  sent-quiet number k pair = record {
    size = record { stopped = refl; processes = one-set number _; terminals = refl };
    downs = refl;
    reloads = refl;
    few = omega arith;
  }

  sends-quiet : (number : ℕ) (k : Which) (pair : Pair) (may : Bool)
      → IsQuietAny w (made_if number w may (sending_step number k pair (records_of w)))
  sends-quiet number k pair true = sent-quiet number k pair
  sends-quiet number k pair false = tt

  ends-quiet : (number : ℕ) (k : Which) (pair : Pair) (may : Bool)
      → IsQuietAny w (made_if number w may (ending_step number k pair (records_of w)))
  ends-quiet number k pair true =
      record {
        size = record { stopped = refl; processes = one-set number _; terminals = refl };
        downs = refl;
        reloads = refl;
        few = omega arith;
      }
  ends-quiet number k pair false = tt

  renews-quiet : (number : ℕ) (k : Which) (pair : Pair) (stands : Point)
      → IsQuietAny w (renewing_at number k pair w stands)
  renews-quiet number k pair point.Inner = sends-quiet number k pair _
  renews-quiet number k pair point.Take = sends-quiet number k pair _
  renews-quiet number k pair point.Ask = sends-quiet number k pair _
  renews-quiet number k pair point.Answer = sends-quiet number k pair _
  renews-quiet number k pair point.Device = sends-quiet number k pair _
  renews-quiet number k pair point.AtCheckpoint = sends-quiet number k pair _
  renews-quiet number k pair point.Ended = sends-quiet number k pair _
  renews-quiet number k pair point.Await = tt

  free-quiet : (number : ℕ) (k : Which) (pair : Pair) (stands : Point) (sent renewal : Bool)
      → IsQuietAny w (free_at site number k pair w stands sent renewal)
  free-quiet number k pair stands true renewal = ends-quiet number k pair (may_pass w.downs k pair)
  free-quiet number k pair stands false true = renews-quiet number k pair stands
  free-quiet number k pair stands false false = acts-quiet number k pair stands

  run-point : (number : ℕ) (k : Which) (pair : Pair) (stands : Point)
      → IsQuietAny w (run_at site number k pair w stands)
  run-point number k pair point.AtCheckpoint = by (may_pass w.downs k pair) (copy_of k pair).sent
    where
      passed : (again : Bool) → IsQuiet w (passed_done number k pair w again)
      passed true = record {
        size = record { stopped = refl; processes = one-set number _; terminals = refl };
        downs = refl;
        reloads = refl;
        few = omega arith;
      }
      passed false = record {
        size = record { stopped = refl; processes = one-set number _; terminals = refl };
        downs = refl;
        reloads = refl;
        few = omega arith;
      }

      by : (passes sent : Bool) → IsQuietAny w (done_at_checkpoint number k pair w passes sent)
      by true sent = passed _
      by false true = tt
      by false false = sent-quiet number k pair
  run-point number k pair point.Inner =
      free-quiet number k pair point.Inner (copy_of k pair).sent (copy_of k pair).renewal
  run-point number k pair point.Take =
      free-quiet number k pair point.Take (copy_of k pair).sent (copy_of k pair).renewal
  run-point number k pair point.Ask =
      free-quiet number k pair point.Ask (copy_of k pair).sent (copy_of k pair).renewal
  run-point number k pair point.Answer =
      free-quiet number k pair point.Answer (copy_of k pair).sent (copy_of k pair).renewal
  run-point number k pair point.Device =
      free-quiet number k pair point.Device (copy_of k pair).sent (copy_of k pair).renewal
  run-point number k pair point.Await =
      free-quiet number k pair point.Await (copy_of k pair).sent (copy_of k pair).renewal
  run-point number k pair point.Ended =
      free-quiet number k pair point.Ended (copy_of k pair).sent (copy_of k pair).renewal

  run-role : (number : ℕ) (k : Which) (pair : Pair) (role : Role) → IsQuietAny w (run_as site number k pair w role)
  run-role number k pair Acting = run-point number k pair (process.point (copy_of k pair).core.state)
  run-role number k pair Watching = tt
  run-role number k pair Blank = tt
  run-role number k pair Gone = tt

  either-quiet : (number : ℕ) (one other : Option Stepped) → IsQuietAny w (lifted number w one)
      → IsQuietAny w (lifted number w other)
      → IsQuietAny w (lifted number w (first_step one other))
  either-quiet number None other first second = second
  either-quiet number (Some step) other first second = first

  pub run-quiet : (number : ℕ) → IsQuietAny w (run_done site number w)
  run-quiet number = by (slice_get w.processes number)
    where
      by : (pair : Option Pair) → IsQuietAny w (run_pair site number w pair)
      by None = tt
      by (Some pair) =
          either-quiet number (step_of_copy site number pair w.downs (records_of w) First)
          (step_of_copy site number pair w.downs (records_of w) Second)
          (run-role number First pair pair.first.role)
          (run-role number Second pair pair.second.role)

  pub enter-quiet : (number : ℕ) → IsQuietAny w (enter_done site number w)
  enter-quiet number = by (slice_get w.terminals number)
    where
      entered : (terminal : Terminal) (opener : Opener) (words : Option (List _))
          → IsQuietAny w (option_map (entered_done number terminal w opener) words)
      entered terminal opener None = tt
      entered terminal opener (Some words) =
          record {
            size = record { stopped = refl; processes = refl; terminals = length-set w.terminals number _ };
            downs = refl;
            reloads = refl;
            few = omega arith;
          }

      to : (terminal : Terminal) → (test : Bool) → IsQuietAny w (enter_where site number terminal w test)
      to terminal false = tt
      to terminal true = opened (opener_of site (who.Terminal number))
        where
          opened : (opener : Option Opener) → IsQuietAny w
              (enter_to number terminal w (next_request site number terminal.entered) opener)
          opened None = tt
          opened (Some opener) = entered terminal opener (next_request site number terminal.entered)

      by : (terminal : Option Terminal) → IsQuietAny w (enter_at site number w terminal)
      by None = tt
      by (Some terminal) = to terminal _

  early-quiet : (request : Request) (k : Which) (pair : Pair)
      → IsQuiet w (in_world request.process w (early_step k pair (records_of w) request))
  early-quiet request k pair =
      record {
        size = record { stopped = refl; processes = one-set request.process _; terminals = refl };
        downs = refl;
        reloads = refl;
        few = omega arith;
      }

  asked-quiet : (request : Request) (k : Which) (pair : Pair) (role : Role)
      → IsQuietAny w (asked_done request k pair w role)
  asked-quiet request k pair Acting = record {
    size = record { stopped = refl; processes = one-set request.process _; terminals = refl };
    downs = refl;
    reloads = refl;
    few = sent-few (copy_of k pair).processor (map Replying (reply_sent_again (copy_of k pair).core.receive request))
        (let same = length-map (reply_sent_again (copy_of k pair).core.receive request) Replying in
        let one = repeated-few request (request_standing (copy_of k pair).core.receive request) in
        omega (arith, same, one));
  }
  asked-quiet request k pair Watching = early-quiet request k pair
  asked-quiet request k pair Blank = early-quiet request k pair
  asked-quiet request k pair Gone = tt

  got-quiet : (number : ℕ) (reply : Reply) (k : Which) (pair : Pair) (role : Role)
      → IsQuietAny w (got_done site number reply k pair w role)
  got-quiet number reply k pair Acting =
      by (awaits site number (copy_of k pair).core reply (process.point (copy_of k pair).core.state))
    where
      by : (test : Bool) → IsQuietAny w (got_where number reply k pair w test)
      by true = record {
        size = record { stopped = refl; processes = one-set number _; terminals = refl };
        downs = refl;
        reloads = refl;
        few = omega arith;
      }
      by false = tt
  got-quiet number reply k pair Watching = tt
  got-quiet number reply k pair Blank = tt
  got-quiet number reply k pair Gone = tt

  printed-quiet : (number : ℕ) (reply : Reply) (test : Bool) → IsQuietAny w (printed_at site number reply w test)
  printed-quiet number reply false = tt
  printed-quiet number reply true = by (slice_get w.terminals number)
    where
      printed : (terminal : Terminal) (test : Bool) → IsQuietAny w (printed_where number reply terminal w test)
      printed terminal true = record {
        size =
            record { stopped = refl; processes = refl; terminals = length-set w.terminals number _ };
        downs =
            refl;
        reloads = refl;
        few = omega arith;
      }
      printed terminal false = tt

      by : (terminal : Option Terminal) → IsQuietAny w (printed_done site number reply w terminal)
      by None = tt
      by (Some terminal) = printed terminal (awaits_at site number terminal reply)

  replied-quiet : (node : ℕ) (reply : Reply) (opener : Option Who)
      → IsQuietAny w (replied_done site node reply w opener)
  replied-quiet node reply None = tt
  replied-quiet node reply (Some (who.File number file)) =
      at-copy-quiet site w number node (Replying reply) (λ k pair. got-quiet number reply k pair (copy_of k pair).role)
      (slice_get w.processes number)
  replied-quiet node reply (Some (who.Terminal number)) = printed-quiet number reply _

  next-quiet : (message : ImageMessage) (k : Which) (pair : Pair)
      → IsQuietAny w
      (applied_where site message k pair w (is_next_for (copy_of k pair).era (copy_of k pair).number message))
  next-quiet message k pair = by (is_next_for (copy_of k pair).era (copy_of k pair).number message)
    where
      applies : (core : Core) (behind : Bool) → IsQuiet w (applied_as message k pair w core behind)
      applies core true =
          record {
            size = record { stopped = refl; processes = one-set message.process _; terminals = refl };
            downs = refl;
            reloads = refl;
            few = omega arith;
          }
      applies core false =
          record {
            size = record { stopped = refl; processes = one-set message.process _; terminals = refl };
            downs = refl;
            reloads = refl;
            few = omega arith;
          }

      applied : (core : Option Core) → IsQuietAny w (applied_made message k pair w core)
      applied None = tt
      applied (Some core) =
          applies core (nat_lt (copy_of (other_of k) pair).position (own_acts message.process w.kept))

      by : (test : Bool) → IsQuietAny w (applied_where site message k pair w test)
      by true = applied (put_fitting (depths_of site message.process) (copy_of k pair).core message.image)
      by false = tt

  checkpoint-quiet : (message : ImageMessage) (k : Which) (pair : Pair) (role : Role)
      → IsQuietAny w (checkpoint_done site message k pair w role)
  checkpoint-quiet message k pair Watching = next-quiet message k pair
  checkpoint-quiet message k pair Blank = next-quiet message k pair
  checkpoint-quiet message k pair Acting = tt
  checkpoint-quiet message k pair Gone = tt

  taken-quiet : (taken : TakenMessage) (k : Which) (pair : Pair) (role : Role)
      → IsQuietAny w (taken_done taken k pair w role)
  taken-quiet taken k pair Acting =
      by (is_of_last (copy_of k pair).sent (copy_of k pair).era (copy_of k pair).number taken)
    where
      by : (test : Bool) → IsQuietAny w (acknowledged_where taken k pair w test)
      by true = record {
        size = record { stopped = refl; processes = one-set taken.process _; terminals = refl };
        downs = refl;
        reloads = refl;
        few = omega arith;
      }
      by false = tt
  taken-quiet taken k pair Watching = tt
  taken-quiet taken k pair Blank = tt
  taken-quiet taken k pair Gone = tt

  pub handed-quiet : (node : ℕ) (message : Message) → IsQuietAny w (handed_done site node message w)
  handed-quiet node (Asking request) =
      at-copy-quiet site w request.process node (Asking request)
      (λ k pair. asked-quiet request k pair (copy_of k pair).role) (slice_get w.processes request.process)
  handed-quiet node (Replying reply) = replied-quiet node reply _
  handed-quiet node (Checkpointing message) =
      at-copy-quiet site w message.process node (Checkpointing message)
      (λ k pair. checkpoint-quiet message k pair (copy_of k pair).role) (slice_get w.processes message.process)
  handed-quiet node (Taking taken) =
      at-copy-quiet site w taken.process node (Taking taken) (λ k pair. taken-quiet taken k pair (copy_of k pair).role)
      (slice_get w.processes taken.process)

  pub stop-quiet : (processor : ℕ) → IsQuietAny w (stop_done processor w)
  stop-quiet processor = by (slice_get w.stopped processor)
    where
      stops : (whole : Bool) → IsQuietAny w (stop_if processor w whole)
      stops false = tt
      stops true = record {
        size = record {
          stopped = length-set w.stopped processor true;
          processes = length-map w.processes _;
          terminals = refl;
        };
        downs = refl;
        reloads = refl;
        few = omega arith;
      }

      by : (stopped : Option Bool) → IsQuietAny w (stop_where processor w stopped)
      by None = tt
      by (Some true) = tt
      by (Some false) = stops (is_whole w)
