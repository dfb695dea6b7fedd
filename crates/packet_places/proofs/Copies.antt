-- What changes of the world are computed changes copies in one processor alone, and sends from there.
use Rattle.std.proofs.Common.{◌≡◌, ◌≢◌, ℕ, ◌+◌, ℤ, Bool, true, false, not, ◌&&◌, if◌then◌else◌, nat_lt, ◌==◌, List, []}
use Rattle.std.proofs.Common.{◌∷◌, map}
use Rattle.std.proofs.Common.{Option, Some, None, slice_get, slice_set, option_map, option_and_then, refl, sym, ap}
use Rattle.std.proofs.Common.{subst, ◌∙◌}
use Rattle.std.proofs.Math.Bool.{and-true}
use Rattle.std.proofs.lemmas.Bool.{eqb-true}
use Rattle.gd_words.specs.Members.{IsAmong}
use Rattle.gd_words.specs.declared.message.Request.{Request}
use Rattle.gd_words.specs.declared.message.Reply.{Reply}
use Rattle.tal_tree.specs.declared.act.Act.{Act}
use Rattle.tal_tree.specs.declared.site.Site.{Site}
use Rattle.tal_tree.specs.declared.site.OpenerSpec.{OpenerSpec}
use Rattle.tal_tree.specs.declared.site.Who.{Who}
use Rattle.tal_tree.specs.declared.site.Who.TheVariants as who
use Rattle.process_semantics.specs.declared.point.Point.{Point}
use Rattle.process_semantics.specs.declared.point.Point.TheVariants as point
use Rattle.process_semantics.specs.Process as process
use Rattle.plain_semantics.specs.Openers.{openers_of, opener_of}
use Rattle.plain_semantics.specs.declared.slot.Opener.{Opener}
use Rattle.plain_semantics.specs.Machine.{next_request}
use Rattle.checkpoint_image.specs.declared.message.ImageMessage.{ImageMessage}
use Rattle.checkpoint_image.specs.declared.message.TakenMessage.{TakenMessage}
use Rattle.world_semantics.specs.declared.role.Role.{Role}
use Rattle.world_semantics.specs.declared.role.Role.TheVariants.{Acting, Watching, Blank, Gone}
use Rattle.world_semantics.specs.declared.which.Which.{Which}
use Rattle.world_semantics.specs.declared.which.Which.TheVariants.{First, Second}
use Rattle.world_semantics.specs.Core.{Core}
use Rattle.world_semantics.specs.World.{Copy, Pair, Terminal, World, terminal_node, other_of, copy_of, with_copy}
use Rattle.world_semantics.specs.World.{may_pass}
use Rattle.world_semantics.specs.Kept.{own_acts}
use Rattle.world_semantics.specs.Messages.{Message, Asking, Replying, Checkpointing, Taking, Sending, sent_at}
use Rattle.world_semantics.specs.Own.{around}
use Rattle.checkpoint_image.specs.Receive.{waits, came, reply_sent_again, all_repeated}
use Rattle.world_semantics.specs.Passes.{after_covering_where, after_getting, after_sending, after_sent, after_told}
use Rattle.world_semantics.specs.Passes.{checkpoint_of, taken_of}
use Rattle.world_semantics.specs.Rules.{entered_request, taker, pair_after_down, pair_at_down, renewal_after_down}
use Rattle.world_semantics.specs.Rules.{renewals_ended, takeover_sendings, told_at_down}
use Rattle.world_semantics.specs.Records.{records_of}
use Rattle.world_semantics.specs.Running.{Done, Own, Stepped, ending_step, first_step, in_world, own_at, run_done}
use Rattle.world_semantics.specs.Running.{run_pair, sending_step, step_of_copy}
use Rattle.world_semantics.proofs.Lifted.{ended_done, free_at, lifted, made_if, done_at_checkpoint, own_done, own_made}
use Rattle.world_semantics.proofs.Lifted.{passed_done, renewing_at, run_as, run_at, sent_done}
use Rattle.world_semantics.proofs.Lists.{Changed, is_new, is_same, changed, mapped, some-same}
use Rattle.world_semantics.proofs.Members.{among-map, among-flat_map}
use Rattle.world_semantics.proofs.Roles.{taker-is}
use Rattle.computed_changes.specs.Entered.{enter_done, enter_at, enter_where, enter_to, entered_done}
use Rattle.computed_changes.specs.Fitting.{depths_of, put_fitting}
use Rattle.computed_changes.specs.Checkpoints.{is_next_for, is_of_last}
use Rattle.computed_changes.specs.Handed.{brought_to, handed_done, replied_done, step_by}
use Rattle.computed_changes.specs.Replies.{awaits, awaits_at, copy_got, printed_at, printed_done, printed_where}
use Rattle.computed_changes.specs.Requests.{early_step}
use Rattle.computed_changes.proofs.Lifted.{acknowledged_where, applied_as, applied_done, applied_made, applied_where}
use Rattle.computed_changes.proofs.Lifted.{asked_done, checkpoint_done, got_done, got_where, taken_done}
use Rattle.computed_changes.specs.Stopped.{world_at_down}
use Rattle.packet_places.specs.Places.{KeepsItsOwn}

-- a change at a node: it sends from there, and each copy elsewhere keeps its own
pub record IsDoneAt (node : ℕ) (w : World) (done : Done) : Type 0 where
  pub sendings : (sending : Sending) → IsAmong sending done.sendings → sending.node ≡ node
  pub copies : (number : ℕ) (k : Which) (before after : Pair) → slice_get w.processes number ≡ Some before
      → slice_get done.world.processes number ≡ Some after
      → (copy_of k before).processor ≢ node → KeepsItsOwn (copy_of k before) (copy_of k after)

-- a change that may be made
abbrev pub AnyAt : ℕ → World → Option Done → Type 0
AnyAt node w None = Unit {0}
AnyAt node w (Some done) = IsDoneAt node w done

pub keeps-same : (copy : Copy) → KeepsItsOwn copy copy
keeps-same copy = record {
  processor = refl;
  role = refl;
  era = refl;
  number = refl;
  sent = refl;
  acknowledged = refl;
  renewal = refl;
  core = refl;
  waiting = refl;
}

sent-from : (node : ℕ) (messages : List Message) (sending : Sending) → IsAmong sending (sent_at node messages)
    → sending.node ≡ node
sent-from node messages sending among =
    ap (λ (s : Sending). s.node) (among-map (λ (message : Message). record { node = node; message = message }) messages
    sending among).same

-- nothing is sent, and the processes stay
quiet-at : (node : ℕ) (w : World) (done : Done) → done.world.processes ≡ w.processes
    → ((sending : Sending) → IsAmong sending done.sendings → sending.node ≡ node) → IsDoneAt node w done
quiet-at node w done same from = record {
  sendings = from;
  copies = λ number k before after there now away.
      subst (λ (one : Pair). KeepsItsOwn (copy_of k before) (copy_of k one))
      (some-same (sym there ∙ ap (λ (ps : List Pair). slice_get ps number) (sym same) ∙ now))
      (keeps-same (copy_of k before));
}

-- one copy of one process becomes another, and the rest of the process holds what the other copy had
module _ (w : World) (number : ℕ) (k : Which) (pair : Pair) (there : slice_get w.processes number ≡ Some pair) where
  one-changed : (copy : Copy) (rest : Pair) → KeepsItsOwn (copy_of (other_of k) pair) (copy_of (other_of k) rest)
      → (done : Done)
      → done.world.processes ≡ slice_set w.processes number (with_copy k copy rest)
      → ((sending : Sending) → IsAmong sending done.sendings → sending.node ≡ (copy_of k pair).processor)
      → IsDoneAt (copy_of k pair).processor w done
  one-changed copy rest keeps done same from = record {
    sendings = from;
    copies = λ n j before after was now away.
        by n j before after was away (changed w.processes number (with_copy k copy rest) n after
        (ap (λ (ps : List Pair). slice_get ps n) (sym same) ∙ now));
  }
    where
      which : (k j : Which) (before : Pair) → KeepsItsOwn (copy_of (other_of k) before) (copy_of (other_of k) rest)
          → (copy_of j before).processor ≢ (copy_of k before).processor
          → KeepsItsOwn (copy_of j before) (copy_of j (with_copy k copy rest))
      which First First before keeps away = absurd (away refl)
      which First Second before keeps away = keeps
      which Second First before keeps away = keeps
      which Second Second before keeps away = absurd (away refl)

      by : (n : ℕ) (j : Which) (before after : Pair) → slice_get w.processes n ≡ Some before
          → (copy_of j before).processor ≢ (copy_of k pair).processor
          → Changed w.processes number (with_copy k copy rest) n after
          → KeepsItsOwn (copy_of j before) (copy_of j after)
      by n j before after was away (is_new here new) =
          let one : pair ≡ before = some-same (sym there ∙ ap (slice_get w.processes) here ∙ was) in
          subst (λ (p : Pair). KeepsItsOwn (copy_of j before) (copy_of j p)) (sym new)
          (subst (λ (p : Pair). KeepsItsOwn (copy_of j p) (copy_of j (with_copy k copy rest))) one
          (which k j pair keeps (subst (λ (p : Pair). (copy_of j p).processor ≢ (copy_of k pair).processor) (sym one)
          away)))
      by n j before after was away (is_same other now) =
          subst (λ (p : Pair). KeepsItsOwn (copy_of j before) (copy_of j p)) (some-same (sym was ∙ now))
          (keeps-same (copy_of j before))

  alone : (copy : Copy) (done : Done) → done.world.processes ≡ slice_set w.processes number (with_copy k copy pair)
      → ((sending : Sending) → IsAmong sending done.sendings → sending.node ≡ (copy_of k pair).processor)
      → IsDoneAt (copy_of k pair).processor w done
  alone copy done same from = one-changed copy pair (keeps-same (copy_of (other_of k) pair)) done same from

  -- an act of the copy
  own-at-it : (o : Own) → IsDoneAt (copy_of k pair).processor w (own_done number k pair w o)
  own-at-it o = one-changed _ (record pair { sectors = o.after.sectors }) (others k) (own_done number k pair w o) refl
      (sent-from (copy_of k pair).processor o.messages)
    where
      others : (k : Which) → KeepsItsOwn (copy_of (other_of k) pair)
          (copy_of (other_of k) (record pair { sectors = o.after.sectors }))
      others First = keeps-same pair.second
      others Second = keeps-same pair.first

  own-any : (own : Option Own) → AnyAt (copy_of k pair).processor w (own_made number k pair w own)
  own-any None = tt
  own-any (Some o) = own-at-it o

  passed-at : (again : Bool) → IsDoneAt (copy_of k pair).processor w (passed_done number k pair w again)
  passed-at true = alone _ _ refl (λ sending among. absurd among)
  passed-at false = alone _ _ refl (λ sending among. absurd among)

  -- it sends a checkpoint, or what it has sent comes to its end
  sent-at-it : IsDoneAt (copy_of k pair).processor w (sent_done number k pair w)
  sent-at-it =
      one-changed (after_sending (copy_of k pair))
      (record pair { checkpoints = checkpoint_of number (copy_of k pair) ∷ pair.checkpoints })
      (others k (checkpoint_of number (copy_of k pair) ∷ pair.checkpoints)) (sent_done number k pair w) refl
      (sent-from (copy_of k pair).processor (Checkpointing (checkpoint_of number (copy_of k pair)) ∷ []))
    where
      others : (k : Which) (all : List ImageMessage)
          → KeepsItsOwn (copy_of (other_of k) pair) (copy_of (other_of k) (record pair { checkpoints = all }))
      others First all = keeps-same pair.second
      others Second all = keeps-same pair.first

  mark-at : (pass sent : Bool) → AnyAt (copy_of k pair).processor w (done_at_checkpoint number k pair w pass sent)
  mark-at true sent = passed-at (nat_lt (copy_of k pair).position (own_acts number w.kept))
  mark-at false true = tt
  mark-at false false = sent-at-it

  sends-at : (may : Bool)
      → AnyAt (copy_of k pair).processor w (made_if number w may (sending_step number k pair (records_of w)))
  sends-at true = sent-at-it
  sends-at false = tt

  ends-at : (may : Bool)
      → AnyAt (copy_of k pair).processor w (made_if number w may (ending_step number k pair (records_of w)))
  ends-at true = alone (after_sent (copy_of k pair)) (ended_done number k pair w) refl (λ sending among. absurd among)
  ends-at false = tt

  renews-at : (stands : Point) → AnyAt (copy_of k pair).processor w (renewing_at number k pair w stands)
  renews-at point.Inner = sends-at _
  renews-at point.Take = sends-at _
  renews-at point.Ask = sends-at _
  renews-at point.Answer = sends-at _
  renews-at point.Device = sends-at _
  renews-at point.AtCheckpoint = sends-at _
  renews-at point.Ended = sends-at _
  renews-at point.Await = tt

  free-at : (site : Site) (stands : Point) (sent renewal : Bool)
      → AnyAt (copy_of k pair).processor w (free_at site number k pair w stands sent renewal)
  free-at site stands true renewal = ends-at (may_pass w.downs k pair)
  free-at site stands false true = renews-at stands
  free-at site stands false false =
      own-any (own_at site number (copy_of k pair).core (around (copy_of k pair) pair w) stands)

  run-at-point : (site : Site) (stands : Point)
      → AnyAt (copy_of k pair).processor w (run_at site number k pair w stands)
  run-at-point site point.AtCheckpoint = mark-at (may_pass w.downs k pair) (copy_of k pair).sent
  run-at-point site point.Inner = free-at site point.Inner (copy_of k pair).sent (copy_of k pair).renewal
  run-at-point site point.Take = free-at site point.Take (copy_of k pair).sent (copy_of k pair).renewal
  run-at-point site point.Ask = free-at site point.Ask (copy_of k pair).sent (copy_of k pair).renewal
  run-at-point site point.Await = free-at site point.Await (copy_of k pair).sent (copy_of k pair).renewal
  run-at-point site point.Answer = free-at site point.Answer (copy_of k pair).sent (copy_of k pair).renewal
  run-at-point site point.Device = free-at site point.Device (copy_of k pair).sent (copy_of k pair).renewal
  run-at-point site point.Ended = free-at site point.Ended (copy_of k pair).sent (copy_of k pair).renewal

  run-role : (site : Site) (role : Role) → AnyAt (copy_of k pair).processor w (run_as site number k pair w role)
  run-role site Acting = run-at-point site (process.point (copy_of k pair).core.state)
  run-role site Watching = tt
  run-role site Blank = tt
  run-role site Gone = tt

  -- a reply that comes to the copy
  got-at : (site : Site) (reply : Reply) (role : Role)
      → AnyAt (copy_of k pair).processor w (got_done site number reply k pair w role)
  got-at site reply Acting =
      by (awaits site number (copy_of k pair).core reply (process.point (copy_of k pair).core.state))
    where
      by : (test : Bool) → AnyAt (copy_of k pair).processor w (got_where number reply k pair w test)
      by true = alone (copy_got number reply.words w.kept (copy_of k pair)) _ refl (λ sending among. absurd among)
      by false = tt
  got-at site reply Watching = tt
  got-at site reply Blank = tt
  got-at site reply Gone = tt

-- A request, a checkpoint, or that one was taken, at a copy of the process that it names

early-at : (w : World) (request : Request) (k : Which) (pair : Pair)
    → slice_get w.processes request.process ≡ Some pair
    → IsDoneAt (copy_of k pair).processor w (in_world request.process w (early_step k pair (records_of w) request))
early-at w request k pair there =
    alone w request.process k pair there (record (copy_of k pair) { waiting = waits (copy_of k pair).waiting request })
    _ refl (λ sending among. absurd among)

asked-at : (w : World) (request : Request) (k : Which) (pair : Pair)
    → slice_get w.processes request.process ≡ Some pair → (role : Role)
    → AnyAt (copy_of k pair).processor w (asked_done request k pair w role)
asked-at w request k pair there Acting =
    alone w request.process k pair there (record (copy_of k pair)
    { waiting = came (copy_of k pair).core.receive (copy_of k pair).waiting request }) _ refl
    (sent-from (copy_of k pair).processor (map Replying (reply_sent_again (copy_of k pair).core.receive request)))
asked-at w request k pair there Watching = early-at w request k pair there
asked-at w request k pair there Blank = early-at w request k pair there
asked-at w request k pair there Gone = tt

-- the copy whose checkpoint was applied keeps all but its share
others-covered : (number : ℕ) (k : Which) (taken : TakenMessage) (kept : List Act) (pair : Pair) (behind : Bool)
    → KeepsItsOwn (copy_of (other_of k) pair)
    (copy_of (other_of k) (after_covering_where number (other_of k) taken kept pair behind))
others-covered number First taken kept pair behind =
    record {
      processor = refl;
      role = refl;
      era = refl;
      number = refl;
      sent = refl;
      acknowledged = refl;
      renewal = refl;
      core = refl;
      waiting = refl;
    }
others-covered number Second taken kept pair behind =
    record {
      processor = refl;
      role = refl;
      era = refl;
      number = refl;
      sent = refl;
      acknowledged = refl;
      renewal = refl;
      core = refl;
      waiting = refl;
    }

applied-as : (w : World) (message : ImageMessage) (k : Which) (pair : Pair)
    → slice_get w.processes message.process ≡ Some pair → (core : Core) (behind : Bool)
    → IsDoneAt (copy_of k pair).processor w (applied_as message k pair w core behind)
applied-as w message k pair there core behind =
    one-changed w message.process k pair there (after_getting message.number core (copy_of k pair))
    (after_covering_where message.process (other_of k) (taken_of message) w.kept pair behind)
    (others-covered message.process k (taken_of message) w.kept pair behind)
    (applied_as message k pair w core behind) refl
    (sent-from (copy_of k pair).processor (Taking (taken_of message) ∷ []))

applied-core : (w : World) (message : ImageMessage) (k : Which) (pair : Pair)
    → slice_get w.processes message.process ≡ Some pair → (core : Core)
    → IsDoneAt (copy_of k pair).processor w (applied_done message k pair w core)
applied-core w message k pair there core =
    applied-as w message k pair there core
    (nat_lt (copy_of (other_of k) pair).position (own_acts message.process w.kept))

next-at : (site : Site) (w : World) (message : ImageMessage) (k : Which) (pair : Pair)
    → slice_get w.processes message.process ≡ Some pair
    → AnyAt (copy_of k pair).processor w
    (applied_where site message k pair w (is_next_for (copy_of k pair).era (copy_of k pair).number message))
next-at site w message k pair there = by (is_next_for (copy_of k pair).era (copy_of k pair).number message)
  where
    put : (core : Option Core) → AnyAt (copy_of k pair).processor w (applied_made message k pair w core)
    put None = tt
    put (Some core) = applied-core w message k pair there core

    by : (test : Bool) → AnyAt (copy_of k pair).processor w (applied_where site message k pair w test)
    by false = tt
    by true = put (put_fitting (depths_of site message.process) (copy_of k pair).core message.image)

applied-at : (site : Site) (w : World) (message : ImageMessage) (k : Which) (pair : Pair)
    → slice_get w.processes message.process ≡ Some pair → (role : Role)
    → AnyAt (copy_of k pair).processor w (checkpoint_done site message k pair w role)
applied-at site w message k pair there Acting = tt
applied-at site w message k pair there Gone = tt
applied-at site w message k pair there Watching = next-at site w message k pair there
applied-at site w message k pair there Blank = next-at site w message k pair there

taken-at : (w : World) (taken : TakenMessage) (k : Which) (pair : Pair)
    → slice_get w.processes taken.process ≡ Some pair → (role : Role)
    → AnyAt (copy_of k pair).processor w (taken_done taken k pair w role)
taken-at w taken k pair there Acting =
    by (is_of_last (copy_of k pair).sent (copy_of k pair).era (copy_of k pair).number taken)
  where
    by : (test : Bool) → AnyAt (copy_of k pair).processor w (acknowledged_where taken k pair w test)
    by false = tt
    by true =
        alone w taken.process k pair there (after_told (copy_of k pair)) _ refl
        (λ sending among. absurd among)
taken-at w taken k pair there Watching = tt
taken-at w taken k pair there Blank = tt
taken-at w taken k pair there Gone = tt

-- Runs

abbrev pub SomeAt : World → Option Done → Type 0
SomeAt w None = Unit {0}
SomeAt w (Some done) = (node : ℕ) × IsDoneAt node w done

pub run-somewhere : (site : Site) (number : ℕ) (w : World) → SomeAt w (run_done site number w)
run-somewhere site number w = by (slice_get w.processes number) refl
  where
    some : (node : ℕ) (made : Option Done) → AnyAt node w made → SomeAt w made
    some node None at = tt
    some node (Some done) at = (node, at)

    first : (one other : Option Stepped) → SomeAt w (lifted number w one) → SomeAt w (lifted number w other)
        → SomeAt w (lifted number w (first_step one other))
    first None other at at_other = at_other
    first (Some step) other at at_other = at

    by : (found : Option Pair) → slice_get w.processes number ≡ found → SomeAt w (run_pair site number w found)
    by None there = tt
    by (Some pair) there =
        first (step_of_copy site number pair w.downs (records_of w) First)
        (step_of_copy site number pair w.downs (records_of w) Second)
        (some pair.first.processor _ (run-role w number First pair there site pair.first.role))
        (some pair.second.processor _ (run-role w number Second pair there site pair.second.role))

-- Entries

pub enter-there : (site : Site) (number : ℕ) (w : World) → AnyAt terminal_node w (enter_done site number w)
enter-there site number w = by (slice_get w.terminals number)
  where
    words : (terminal : Terminal) (opener : Opener) (found : Option (List ℤ))
        → AnyAt terminal_node w (option_map (entered_done number terminal w opener) found)
    words terminal opener None = tt
    words terminal opener (Some asked) = quiet-at terminal_node w (entered_done number terminal w opener asked) refl
        (sent-from terminal_node (Asking (entered_request opener terminal asked) ∷ []))

    to : (terminal : Terminal) (opener : Option Opener)
        → AnyAt terminal_node w (enter_to number terminal w (next_request site number terminal.entered) opener)
    to terminal None = tt
    to terminal (Some opener) = words terminal opener (next_request site number terminal.entered)

    where_it : (terminal : Terminal) (test : Bool) → AnyAt terminal_node w (enter_where site number terminal w test)
    where_it terminal false = tt
    where_it terminal true = to terminal (opener_of site (who.Terminal number))

    by : (found : Option Terminal) → AnyAt terminal_node w (enter_at site number w found)
    by None = tt
    by (Some terminal) = where_it terminal (terminal.entered == terminal.printed)

-- Messages that are handed over

module _ (node : ℕ) (w : World) where
  -- what the copy at the node does
  at-copy-at : (site : Site) (number : ℕ) (message : Message)
      → ((k : Which) (pair : Pair) → slice_get w.processes number ≡ Some pair
      → AnyAt (copy_of k pair).processor w (lifted number w (step_by site number pair (records_of w) message k)))
      → AnyAt node w (brought_to site number node message w (slice_get w.processes number))
  at-copy-at site number message each = by (slice_get w.processes number) refl
    where
      moved : (k : Which) (pair : Pair) → ((copy_of k pair).processor == node) ≡ true
          → AnyAt (copy_of k pair).processor w (lifted number w (step_by site number pair (records_of w) message k))
          → AnyAt node w (lifted number w (step_by site number pair (records_of w) message k))
      moved k pair here at =
          subst (λ n. AnyAt n w (lifted number w (step_by site number pair (records_of w) message k)))
          (eqb-true (copy_of k pair).processor node here) at

      two : (pair : Pair) → slice_get w.processes number ≡ Some pair → (first second : Bool)
          → (pair.first.processor == node) ≡ first → (pair.second.processor == node) ≡ second
          → AnyAt node w
          (lifted number w
          (option_and_then (step_by site number pair (records_of w) message)
          (if first then Some First else if second then Some Second else None)))
      two pair there true second here too = moved First pair here (each First pair there)
      two pair there false true here too = moved Second pair too (each Second pair there)
      two pair there false false here too = tt

      by : (found : Option Pair) → slice_get w.processes number ≡ found
          → AnyAt node w (brought_to site number node message w found)
      by None there = tt
      by (Some pair) there = two pair there (pair.first.processor == node) (pair.second.processor == node) refl refl

  printed-there : (site : Site) (number : ℕ) (reply : Reply) (test : Bool)
      → AnyAt node w (printed_at site number reply w test)
  printed-there site number reply false = tt
  printed-there site number reply true = by (slice_get w.terminals number)
    where
      where_it : (terminal : Terminal) (test : Bool) → AnyAt node w (printed_where number reply terminal w test)
      where_it terminal false = tt
      where_it terminal true = quiet-at node w _ refl (λ sending among. absurd among)

      by : (found : Option Terminal) → AnyAt node w (printed_done site number reply w found)
      by None = tt
      by (Some terminal) = where_it terminal (awaits_at site number terminal reply)

  pub handed-there : (site : Site) (message : Message) → AnyAt node w (handed_done site node message w)
  handed-there site (Asking request) =
      at-copy-at site request.process (Asking request)
      (λ k pair there. asked-at w request k pair there (copy_of k pair).role)
  handed-there site (Replying reply) =
      by (option_map (λ (opener : OpenerSpec). opener.who) (slice_get (openers_of site reply.process) reply.opener))
    where
      by : (found : Option Who) → AnyAt node w (replied_done site node reply w found)
      by None = tt
      by (Some (who.File number file)) =
          at-copy-at site number (Replying reply)
          (λ k pair there. got-at w number k pair there site reply (copy_of k pair).role)
      by (Some (who.Terminal number)) = printed-there site number reply (node == terminal_node)
  handed-there site (Checkpointing message) =
      at-copy-at site message.process (Checkpointing message)
      (λ k pair there. applied-at site w message k pair there (copy_of k pair).role)
  handed-there site (Taking taken) =
      at-copy-at site taken.process (Taking taken)
      (λ k pair there. taken-at w taken k pair there (copy_of k pair).role)

-- Marks

pub marked-there : (node processor : ℕ) (w : World) → IsDoneAt node w (world_at_down node processor w)
marked-there node processor w = record {
  sendings = λ sending among. let one = among-flat_map (told_at_down node processor) w.processes sending among in
      from sending one.item (taker node processor one.item) refl one.within;
  copies = λ number k before after there now away.
      copies number k before after there away (mapped (pair_at_down node processor) w.processes number after now);
}
  where
    from : (sending : Sending) (pair : Pair) (who : Option Which) → taker node processor pair ≡ who
        → IsAmong sending (takeover_sendings who pair) → sending.node ≡ node
    from sending pair None is among = absurd among
    from sending pair (Some k) is among =
        sent-from (copy_of k pair).processor (map Replying
        (all_repeated (copy_of k pair).core.receive (copy_of k pair).waiting)) sending among
        ∙ (taker-is node processor pair k is).there

    -- elsewhere no renewal ends
    elsewhere : (copy other : Copy) → copy.processor ≢ node
        → (renewal_after_down node processor other copy).renewal ≡ copy.renewal
    elsewhere copy other away = by (copy.processor == node) refl
      where
        by : (here : Bool) → (copy.processor == node) ≡ here
            → (copy.renewal && not (here && other.processor == processor)) ≡ copy.renewal
        by true here = absurd (away (eqb-true copy.processor node here))
        by false here = and-true copy.renewal

    ended : (k : Which) (before pair : Pair) → KeepsItsOwn (copy_of k before) (copy_of k pair)
        → (copy_of k before).processor ≢ node
        → KeepsItsOwn (copy_of k before) (copy_of k (renewals_ended node processor pair))
    ended First before pair keeps away = record {
      processor = keeps.processor;
      role = keeps.role;
      era = keeps.era;
      number = keeps.number;
      sent = keeps.sent;
      acknowledged = keeps.acknowledged;
      renewal = elsewhere pair.first pair.second (λ here. away (sym keeps.processor ∙ here)) ∙ keeps.renewal;
      core = keeps.core;
      waiting = keeps.waiting;
    }
    ended Second before pair keeps away = record {
      processor = keeps.processor;
      role = keeps.role;
      era = keeps.era;
      number = keeps.number;
      sent = keeps.sent;
      acknowledged = keeps.acknowledged;
      renewal = elsewhere pair.second pair.first (λ here. away (sym keeps.processor ∙ here)) ∙ keeps.renewal;
      core = keeps.core;
      waiting = keeps.waiting;
    }

    pick : (k j : Which) (pair : Pair) → (copy_of k pair).processor ≡ node → (copy_of j pair).processor ≢ node
        → KeepsItsOwn (copy_of j pair) (copy_of j (pair_after_down (Some k) pair))
    pick First First pair here away = absurd (away here)
    pick First Second pair here away = record {
      processor = refl;
      role = refl;
      era = refl;
      number = refl;
      sent = refl;
      acknowledged = refl;
      renewal = refl;
      core = refl;
      waiting = refl;
    }
    pick Second First pair here away = record {
      processor = refl;
      role = refl;
      era = refl;
      number = refl;
      sent = refl;
      acknowledged = refl;
      renewal = refl;
      core = refl;
      waiting = refl;
    }
    pick Second Second pair here away = absurd (away here)

    kept : (k : Which) (pair : Pair) → (copy_of k pair).processor ≢ node → (who : Option Which)
        → taker node processor pair ≡ who
        → KeepsItsOwn (copy_of k pair) (copy_of k (pair_after_down who pair))
    kept k pair away None is = keeps-same (copy_of k pair)
    kept k pair away (Some j) is = pick j k pair (taker-is node processor pair j is).there away

    copies : (number : ℕ) (k : Which) (before after : Pair) → slice_get w.processes number ≡ Some before
        → (copy_of k before).processor ≢ node
        → (pair : Pair) × (slice_get w.processes number ≡ Some pair) × (after ≡ pair_at_down node processor pair)
        → KeepsItsOwn (copy_of k before) (copy_of k after)
    copies number k before after there away (pair, at, is) =
        let same : pair ≡ before = some-same (sym at ∙ there) in
        subst (λ (p : Pair). KeepsItsOwn (copy_of k before) (copy_of k p)) (sym is)
        (subst (λ (p : Pair). KeepsItsOwn (copy_of k before) (copy_of k (pair_at_down node processor p))) (sym same)
        (ended k before (pair_after_down (taker node processor before) before)
        (kept k before away (taker node processor before) refl) away))
