-- Each request that is sent names an opener that is there.
use Rattle.std.proofs.Common.{◌<◌, ℕ, ◌+◌, ◌-◌, ◌==◌, ℤ, Bool, true, false, if◌then◌else◌, List, [], ◌∷◌, ◌++◌, length}
use Rattle.std.proofs.Common.{Option, Some, None, nat_lt, option_map, option_and_then, slice_get, map, arith}
use Rattle.std.specs.List.{flat_map}
use Rattle.std.specs.Option.{IfSome}
use Rattle.gd_words.specs.declared.message.Request.{Request}
use Rattle.gd_words.specs.declared.message.Reply.{Reply}
use Rattle.tal_tree.specs.declared.site.OpenerSpec.{OpenerSpec}
use Rattle.tal_tree.specs.declared.site.Site.{Site}
use Rattle.tal_tree.specs.declared.site.Who.{Who}
use Rattle.tal_tree.specs.declared.site.Who.TheVariants as who
use Rattle.process_semantics.specs.declared.point.Point.{Point}
use Rattle.process_semantics.specs.declared.point.Point.TheVariants as point
use Rattle.process_semantics.specs.Process as process
use Rattle.plain_semantics.specs.declared.slot.Opener.{Opener}
use Rattle.plain_semantics.specs.Openers.{openers_of, opener_at, opener_of, opener_on, place_from, same_who, server_by}
use Rattle.plain_semantics.specs.Machine.{next_request}
use Rattle.checkpoint_image.specs.declared.message.ImageMessage.{ImageMessage}
use Rattle.checkpoint_image.specs.declared.message.TakenMessage.{TakenMessage}
use Rattle.checkpoint_image.specs.declared.receive.OpenerBlock.{OpenerBlock}
use Rattle.checkpoint_image.specs.Receive.{Chosen, choice_among}
use Rattle.world_semantics.specs.declared.role.Role.{Role}
use Rattle.world_semantics.specs.declared.role.Role.TheVariants.{Acting, Watching, Blank, Gone}
use Rattle.world_semantics.specs.declared.which.Which.{Which}
use Rattle.world_semantics.specs.declared.which.Which.TheVariants.{First, Second}
use Rattle.world_semantics.specs.Core.{Core}
use Rattle.world_semantics.specs.Kept.{own_acts}
use Rattle.world_semantics.specs.Messages.{Message, Asking, Replying, Checkpointing, Taking, Sending, sent_at}
use Rattle.world_semantics.specs.Own.{Around, around, request_to}
use Rattle.world_semantics.specs.Rules.{taker, takeover_sendings, told_at_down}
use Rattle.world_semantics.specs.Records.{records_of}
use Rattle.world_semantics.specs.Running.{Done, Own, Stepped, own_took, own_take, own_answer_at, own_answer, own_at}
use Rattle.world_semantics.specs.Running.{ending_step, first_step, run_pair, run_done, sending_step, step_of_copy}
use Rattle.world_semantics.specs.World.{Copy, Pair, Terminal, World, copy_of, is_whole, may_pass, other_of}
use Rattle.world_semantics.specs.World.{terminal_node}
use Rattle.computed_changes.specs.Entered.{enter_at, enter_to, enter_where, enter_done, entered_done}
use Rattle.computed_changes.specs.Fitting.{depths_of, put_fitting}
use Rattle.computed_changes.specs.Checkpoints.{is_next_for, is_of_last}
use Rattle.computed_changes.specs.Handed.{brought_to, copy_in, handed_done, replied_done, step_by}
use Rattle.computed_changes.specs.Replies.{awaits, awaits_at, printed_at, printed_done, printed_where}
use Rattle.world_semantics.proofs.Lifted.{free_at, lifted, made_if, done_at_checkpoint, own_made, renewing_at}
use Rattle.world_semantics.proofs.Lifted.{run_as, run_at}
use Rattle.computed_changes.proofs.Lifted.{acknowledged_where, applied_as, applied_made, applied_where, asked_done}
use Rattle.computed_changes.proofs.Lifted.{checkpoint_done, got_done, got_where, taken_done}
use Rattle.computed_changes.specs.Stopped.{stop_if, stop_where, stop_done, marked_where, mark_where, down_done}
use Rattle.message_wires.specs.letters.specs.Again.{rerouted, awaited_at, awaited_from, entered_last, if_acts_on}
use Rattle.message_wires.specs.letters.specs.Again.{asks_again, tells_again}
use Rattle.message_wires.specs.letters.specs.Again.{of_copies, of_terminals, terminals_ask, sent_again}
use Rattle.number_laws.proofs.Each.{Each, each-append, each-map, each-always, each-filter}

-- Openers

abbrev IsThere : Site → Opener → Type 0
IsThere site opener = opener.place < length (openers_of site opener.server)

-- a place among openers is one of theirs
first-place : (one : Who) (number : ℕ) (openers : List OpenerSpec)
    → IfSome (place_from one number openers) (λ place. place < number + length openers)
first-place one number [] = tt
first-place one number (opener ∷ openers) =
    by (same_who one opener.who) (place_from one (number + 1) openers) (first-place one (number + 1) openers)
  where
    by : (same : Bool) (found : Option ℕ) → IfSome found (λ place. place < number + 1 + length openers)
        → IfSome (if same then Some number else found) (λ place. place < number + length (opener ∷ openers))
    by true found later = omega arith
    by false None later = tt
    by false (Some place) later = omega (arith, later)

opener-there : (site : Site) (one : Who) → IfSome (opener_of site one) (IsThere site)
opener-there site one = on (server_by site one)
  where
    placed : (server : ℕ) (found : Option ℕ) → IfSome found (λ place. place < 0 + length (openers_of site server))
        → IfSome (opener_at server found) (IsThere site)
    placed server None there = tt
    placed server (Some place) there = omega (arith, there)

    on : (server : Option ℕ) → IfSome (opener_on site one server) (IsThere site)
    on None = tt
    on (Some server) =
        placed server (place_from one 0 (openers_of site server)) (first-place one 0 (openers_of site server))

-- Messages

abbrev pub NamesOpener : Site → Request → Type 0
NamesOpener site request = request.opener < length (openers_of site request.process)

-- a request names one of the openers of the process that it is for
abbrev pub Names : Site → Message → Type 0
Names site (Asking request) = NamesOpener site request
Names site (Replying reply) = Unit {0}
Names site (Checkpointing message) = Unit {0}
Names site (Taking taken) = Unit {0}

abbrev pub AreNaming : Site → List Sending → Type 0
AreNaming site sendings = Each (λ (sending : Sending). Names site sending.message) sendings

abbrev pub AnyNames : Site → Option Done → Type 0
AnyNames site None = Unit {0}
AnyNames site (Some done) = AreNaming site done.sendings

abbrev OwnNames : Site → Option Own → Type 0
OwnNames site None = Unit {0}
OwnNames site (Some own) = Each (Names site) own.messages

module _ (site : Site) where
  sent-named : (node : ℕ) (messages : List Message) → Each (Names site) messages
      → AreNaming site (sent_at node messages)
  sent-named node messages are = each-map _ _ messages are

  askings : (requests : List Request) → Each (NamesOpener site) requests → Each (Names site) (map Asking requests)
  askings requests are = each-map _ Asking requests are

  replyings : (replies : List Reply) → Each (Names site) (map Replying replies)
  replyings replies = each-map _ Replying replies (each-always _ (λ reply. tt) replies)

  requested : (number : ℕ) (words : List ℤ) (opener : Option Opener) → IfSome opener (IsThere site)
      → Each (NamesOpener site) (request_to number words opener)
  requested number words None there = tt
  requested number words (Some opener) there = (there, tt)

  on-file : (number : ℕ) (words : List ℤ) (one : Who)
      → Each (NamesOpener site) (request_to number words (opener_of site one))
  on-file number words one = requested number words (opener_of site one) (opener-there site one)

  at-copy-named : (w : World) (number node : ℕ) (message : Message)
      → ((k : Which) (pair : Pair) → AnyNames site
      (lifted number w (step_by site number pair (records_of w) message k))) → (one : Option Pair)
      → AnyNames site (brought_to site number node message w one)
  at-copy-named w number node message all None = tt
  at-copy-named w number node message all (Some pair) = by (copy_in node pair)
    where
      by : (k : Option Which) → AnyNames site
          (lifted number w (option_and_then (step_by site number pair (records_of w) message) k))
      by None = tt
      by (Some k) = all k pair

-- Acts

module _ (site : Site) (number : ℕ) (core : Core) (before : Around) where
  take-named : (found : Option Chosen) → OwnNames site (own_take number core before found)
  take-named None = tt
  take-named (Some found) = by (slice_get core.receive.openers found.request.opener)
    where
      by : (block : Option OpenerBlock) → OwnNames site (option_map (own_took number core before found) block)
      by None = tt
      by (Some block) = tt

  answer-named : (place : ℕ) (opener : Option OpenerSpec) (block : Option OpenerBlock)
      → OwnNames site (own_answer_at number core before place opener block)
  answer-named place None block = tt
  answer-named place (Some opener) None = tt
  answer-named place (Some opener) (Some block) = (tt, tt)

  answering-named : (place : Option ℕ) → OwnNames site (own_answer site number core before place)
  answering-named None = tt
  answering-named (Some place) =
      answer-named place (slice_get (openers_of site number) place) (slice_get core.receive.openers place)

  own-named : (stands : Point) → OwnNames site (own_at site number core before stands)
  own-named point.Inner = tt
  own-named point.Take = take-named (choice_among core.receive before.waiting)
  own-named point.Ask = askings site _ (on-file site _ _ (who.File number (process.asked_file core.state)))
  own-named point.Answer = answering-named core.receive.in_hand
  own-named point.Device = tt
  own-named point.Await = tt
  own-named point.AtCheckpoint = tt
  own-named point.Ended = tt

-- Changes

module _ (site : Site) (w : World) where
  any-own : (number : ℕ) (k : Which) (pair : Pair) (own : Option Own) → OwnNames site own
      → AnyNames site (own_made number k pair w own)
  any-own number k pair None are = tt
  any-own number k pair (Some own) are = sent-named site (copy_of k pair).processor own.messages are

  acts-named : (number : ℕ) (k : Which) (pair : Pair) (stands : Point)
      → AnyNames site (own_made number k pair w
      (own_at site number (copy_of k pair).core (around (copy_of k pair) pair w) stands))
  acts-named number k pair stands =
      any-own number k pair (own_at site number (copy_of k pair).core (around (copy_of k pair) pair w) stands)
      (own-named site number (copy_of k pair).core (around (copy_of k pair) pair w) stands)

  sends-named : (number : ℕ) (k : Which) (pair : Pair) (may : Bool)
      → AnyNames site (made_if number w may (sending_step number k pair (records_of w)))
  sends-named number k pair true = (tt, tt)
  sends-named number k pair false = tt

  ends-named : (number : ℕ) (k : Which) (pair : Pair) (may : Bool)
      → AnyNames site (made_if number w may (ending_step number k pair (records_of w)))
  ends-named number k pair true = tt
  ends-named number k pair false = tt

  renews-named : (number : ℕ) (k : Which) (pair : Pair) (stands : Point)
      → AnyNames site (renewing_at number k pair w stands)
  renews-named number k pair point.Inner = sends-named number k pair _
  renews-named number k pair point.Take = sends-named number k pair _
  renews-named number k pair point.Ask = sends-named number k pair _
  renews-named number k pair point.Answer = sends-named number k pair _
  renews-named number k pair point.Device = sends-named number k pair _
  renews-named number k pair point.AtCheckpoint = sends-named number k pair _
  renews-named number k pair point.Ended = sends-named number k pair _
  renews-named number k pair point.Await = tt

  free-named : (number : ℕ) (k : Which) (pair : Pair) (stands : Point) (sent renewal : Bool)
      → AnyNames site (free_at site number k pair w stands sent renewal)
  free-named number k pair stands true renewal = ends-named number k pair (may_pass w.downs k pair)
  free-named number k pair stands false true = renews-named number k pair stands
  free-named number k pair stands false false = acts-named number k pair stands

  run-point : (number : ℕ) (k : Which) (pair : Pair) (stands : Point)
      → AnyNames site (run_at site number k pair w stands)
  run-point number k pair point.AtCheckpoint = by (may_pass w.downs k pair) (copy_of k pair).sent
    where
      by : (passes sent : Bool) → AnyNames site (done_at_checkpoint number k pair w passes sent)
      by true sent = tt
      by false true = tt
      by false false = (tt, tt)
  run-point number k pair point.Inner =
      free-named number k pair point.Inner (copy_of k pair).sent (copy_of k pair).renewal
  run-point number k pair point.Take =
      free-named number k pair point.Take (copy_of k pair).sent (copy_of k pair).renewal
  run-point number k pair point.Ask =
      free-named number k pair point.Ask (copy_of k pair).sent (copy_of k pair).renewal
  run-point number k pair point.Answer =
      free-named number k pair point.Answer (copy_of k pair).sent (copy_of k pair).renewal
  run-point number k pair point.Device =
      free-named number k pair point.Device (copy_of k pair).sent (copy_of k pair).renewal
  run-point number k pair point.Await =
      free-named number k pair point.Await (copy_of k pair).sent (copy_of k pair).renewal
  run-point number k pair point.Ended =
      free-named number k pair point.Ended (copy_of k pair).sent (copy_of k pair).renewal

  run-role : (number : ℕ) (k : Which) (pair : Pair) (role : Role) → AnyNames site (run_as site number k pair w role)
  run-role number k pair Acting = run-point number k pair (process.point (copy_of k pair).core.state)
  run-role number k pair Watching = tt
  run-role number k pair Blank = tt
  run-role number k pair Gone = tt

  either-named : (number : ℕ) (one other : Option Stepped) → AnyNames site (lifted number w one)
      → AnyNames site (lifted number w other)
      → AnyNames site (lifted number w (first_step one other))
  either-named number None other first second = second
  either-named number (Some step) other first second = first

  pub run-named : (number : ℕ) → AnyNames site (run_done site number w)
  run-named number = by (slice_get w.processes number)
    where
      by : (pair : Option Pair) → AnyNames site (run_pair site number w pair)
      by None = tt
      by (Some pair) =
          either-named number (step_of_copy site number pair w.downs (records_of w) First)
          (step_of_copy site number pair w.downs (records_of w) Second)
          (run-role number First pair pair.first.role)
          (run-role number Second pair pair.second.role)

  pub enter-named : (number : ℕ) → AnyNames site (enter_done site number w)
  enter-named number = by (slice_get w.terminals number)
    where
      entered : (terminal : Terminal) (opener : Opener) (words : Option (List ℤ)) → IsThere site opener
          → AnyNames site (option_map (entered_done number terminal w opener) words)
      entered terminal opener None there = tt
      entered terminal opener (Some words) there = (there, tt)

      opened : (terminal : Terminal) (opener : Option Opener) → IfSome opener (IsThere site)
          → AnyNames site (enter_to number terminal w (next_request site number terminal.entered) opener)
      opened terminal None there = tt
      opened terminal (Some opener) there = entered terminal opener (next_request site number terminal.entered) there

      to : (terminal : Terminal) → (test : Bool) → AnyNames site (enter_where site number terminal w test)
      to terminal false = tt
      to terminal true =
          opened terminal (opener_of site (who.Terminal number)) (opener-there site (who.Terminal number))

      by : (terminal : Option Terminal) → AnyNames site (enter_at site number w terminal)
      by None = tt
      by (Some terminal) = to terminal _

  asked-named : (request : Request) (k : Which) (pair : Pair) (role : Role)
      → AnyNames site (asked_done request k pair w role)
  asked-named request k pair Acting = sent-named site (copy_of k pair).processor _ (replyings site _)
  asked-named request k pair Watching = tt
  asked-named request k pair Blank = tt
  asked-named request k pair Gone = tt

  got-named : (number : ℕ) (reply : Reply) (k : Which) (pair : Pair) (role : Role)
      → AnyNames site (got_done site number reply k pair w role)
  got-named number reply k pair Acting =
      by (awaits site number (copy_of k pair).core reply (process.point (copy_of k pair).core.state))
    where
      by : (test : Bool) → AnyNames site (got_where number reply k pair w test)
      by true = tt
      by false = tt
  got-named number reply k pair Watching = tt
  got-named number reply k pair Blank = tt
  got-named number reply k pair Gone = tt

  printed-named : (number : ℕ) (reply : Reply) (test : Bool) → AnyNames site (printed_at site number reply w test)
  printed-named number reply false = tt
  printed-named number reply true = by (slice_get w.terminals number)
    where
      printed : (terminal : Terminal) (test : Bool) → AnyNames site (printed_where number reply terminal w test)
      printed terminal true = tt
      printed terminal false = tt

      by : (terminal : Option Terminal) → AnyNames site (printed_done site number reply w terminal)
      by None = tt
      by (Some terminal) = printed terminal (awaits_at site number terminal reply)

  replied-named : (node : ℕ) (reply : Reply) (opener : Option Who)
      → AnyNames site (replied_done site node reply w opener)
  replied-named node reply None = tt
  replied-named node reply (Some (who.File number file)) =
      at-copy-named site w number node (Replying reply) (λ k pair. got-named number reply k pair (copy_of k pair).role)
      (slice_get w.processes number)
  replied-named node reply (Some (who.Terminal number)) = printed-named number reply _

  next-named : (message : ImageMessage) (k : Which) (pair : Pair)
      → AnyNames site
      (applied_where site message k pair w (is_next_for (copy_of k pair).era (copy_of k pair).number message))
  next-named message k pair = by (is_next_for (copy_of k pair).era (copy_of k pair).number message)
    where
      applies : (core : Core) (behind : Bool) → AreNaming site (applied_as message k pair w core behind).sendings
      applies core true = (tt, tt)
      applies core false = (tt, tt)

      applied : (core : Option Core) → AnyNames site (applied_made message k pair w core)
      applied None = tt
      applied (Some core) =
          applies core (nat_lt (copy_of (other_of k) pair).position (own_acts message.process w.kept))

      by : (test : Bool) → AnyNames site (applied_where site message k pair w test)
      by true = applied (put_fitting (depths_of site message.process) (copy_of k pair).core message.image)
      by false = tt

  checkpoint-named : (message : ImageMessage) (k : Which) (pair : Pair) (role : Role)
      → AnyNames site (checkpoint_done site message k pair w role)
  checkpoint-named message k pair Watching = next-named message k pair
  checkpoint-named message k pair Blank = next-named message k pair
  checkpoint-named message k pair Acting = tt
  checkpoint-named message k pair Gone = tt

  taken-named : (taken : TakenMessage) (k : Which) (pair : Pair) (role : Role)
      → AnyNames site (taken_done taken k pair w role)
  taken-named taken k pair Acting =
      by (is_of_last (copy_of k pair).sent (copy_of k pair).era (copy_of k pair).number taken)
    where
      by : (test : Bool) → AnyNames site (acknowledged_where taken k pair w test)
      by true = tt
      by false = tt
  taken-named taken k pair Watching = tt
  taken-named taken k pair Blank = tt
  taken-named taken k pair Gone = tt

  pub handed-named : (node : ℕ) (message : Message) → AnyNames site (handed_done site node message w)
  handed-named node (Asking request) =
      at-copy-named site w request.process node (Asking request)
      (λ k pair. asked-named request k pair (copy_of k pair).role) (slice_get w.processes request.process)
  handed-named node (Replying reply) = replied-named node reply _
  handed-named node (Checkpointing message) =
      at-copy-named site w message.process node (Checkpointing message)
      (λ k pair. checkpoint-named message k pair (copy_of k pair).role) (slice_get w.processes message.process)
  handed-named node (Taking taken) =
      at-copy-named site w taken.process node (Taking taken) (λ k pair. taken-named taken k pair (copy_of k pair).role)
      (slice_get w.processes taken.process)

  pub stop-named : (processor : ℕ) → AnyNames site (stop_done processor w)
  stop-named processor = by (slice_get w.stopped processor)
    where
      stops : (whole : Bool) → AnyNames site (stop_if processor w whole)
      stops true = tt
      stops false = tt

      by : (stopped : Option Bool) → AnyNames site (stop_where processor w stopped)
      by None = tt
      by (Some true) = tt
      by (Some false) = stops (is_whole w)

  told : (node processor : ℕ) (pairs : List Pair) → AreNaming site (flat_map (told_at_down node processor) pairs)
  told node processor [] = tt
  told node processor (pair ∷ pairs) =
      each-append _ (told_at_down node processor pair) _ (by (taker node processor pair)) (told node processor pairs)
    where
      by : (k : Option Which) → AreNaming site (takeover_sendings k pair)
      by None = tt
      by (Some k) = sent-named site (copy_of k pair).processor _ (replyings site _)

  pub mark-named : (node processor : ℕ) → AnyNames site (down_done node processor w)
  mark-named node processor = by (slice_get w.stopped processor)
    where
      where_may : (test : Bool) → AnyNames site (marked_where node processor w test)
      where_may false = tt
      where_may true = told node processor w.processes

      by : (stopped : Option Bool) → AnyNames site (mark_where node processor w stopped)
      by None = tt
      by (Some false) = tt
      by (Some true) = where_may _

-- What is sent again

module _ (site : Site) (before : World) (node processor : ℕ) where
  abbrev AreMessages : List Message → Type 0
  AreMessages messages = Each (Names site) messages

  rerouted-named : (requests : List Request) → Each (NamesOpener site) requests
      → AreMessages (rerouted before node processor requests)
  rerouted-named requests are = askings site _ (each-filter _ _ requests are)

  awaited-named : (number : ℕ) (core : Core) (stands : Point)
      → Each (NamesOpener site) (awaited_at site number core stands)
  awaited-named number core point.Await = on-file site _ _ (who.File number (process.asked_file core.state))
  awaited-named number core point.Inner = tt
  awaited-named number core point.Take = tt
  awaited-named number core point.Ask = tt
  awaited-named number core point.Answer = tt
  awaited-named number core point.AtCheckpoint = tt
  awaited-named number core point.Device = tt
  awaited-named number core point.Ended = tt

  if-acts : (role : Role) (at : ℕ) (messages : List Message) → AreMessages messages
      → AreMessages (if_acts_on node role at messages)
  if-acts Acting at messages are = by (at == node)
    where
      by : (test : Bool) → AreMessages (if test then messages else [])
      by true = are
      by false = tt
  if-acts Watching at messages are = tt
  if-acts Blank at messages are = tt
  if-acts Gone at messages are = tt

  asks : (number : ℕ) (copy : Copy) → AreMessages (asks_again site before node processor number copy)
  asks number copy = if-acts copy.role copy.processor _
      (rerouted-named _ (awaited-named number copy.core (process.point copy.core.state)))

  tells : (number : ℕ) (copy : Copy) → AreMessages (tells_again site before node processor number copy)
  tells number copy = if-acts copy.role copy.processor _ (replyings site _)

  copies : (f : ℕ → Copy → List Message) → ((number : ℕ) (copy : Copy) → AreMessages (f number copy))
      → (number : ℕ) (pairs : List Pair)
      → AreMessages (of_copies f number pairs)
  copies f all number [] = tt
  copies f all number (pair ∷ pairs) =
      each-append _ (f number pair.first ++ f number pair.second) _
      (each-append _ (f number pair.first) (f number pair.second) (all number pair.first) (all number pair.second))
      (copies f all (number + 1) pairs)

  entered-named : (number : ℕ) (opener : Option Opener) (words : Option (List ℤ)) → IfSome opener (IsThere site)
      → Each (NamesOpener site) (entered_last number opener words)
  entered-named number None None there = tt
  entered-named number None (Some words) there = tt
  entered-named number (Some opener) None there = tt
  entered-named number (Some opener) (Some words) there = (there, tt)

  from-named : (number : ℕ) (terminal : Terminal) → Each (NamesOpener site) (awaited_from site number terminal)
  from-named number terminal = by (terminal.entered == terminal.printed + 1)
    where
      by : (test : Bool)
          → Each (NamesOpener site)
          (if test
          then entered_last terminal.entered (opener_of site (who.Terminal number))
          (next_request site number (terminal.entered - 1)) else [])
      by true = entered-named _ (opener_of site (who.Terminal number))
          (next_request site number (terminal.entered - 1)) (opener-there site (who.Terminal number))
      by false = tt

  terminals : (number : ℕ) (all : List Terminal)
      → AreMessages (of_terminals (λ number terminal.
      rerouted before node processor (awaited_from site number terminal)) number all)
  terminals number [] = tt
  terminals number (terminal ∷ rest) =
      each-append _ (rerouted before node processor (awaited_from site number terminal)) _
      (rerouted-named _ (from-named number terminal))
      (terminals (number + 1) rest)

  asking-terminals : (all : List Terminal) → AreMessages (terminals_ask site before node processor all)
  asking-terminals all = by (node == terminal_node)
    where
      by : (test : Bool)
          → AreMessages (if test then of_terminals
          (λ number terminal. rerouted before node processor (awaited_from site number terminal)) 0 all else [])
      by true = terminals 0 all
      by false = tt

  pub again-named : (after : World) → AreNaming site (sent_again site before after node processor)
  again-named after =
      sent-named site node _
      (each-append _ (of_copies (asks_again site before node processor) 0 after.processes
      ++ terminals_ask site before node processor after.terminals) _
      (each-append _ (of_copies (asks_again site before node processor) 0 after.processes) _
      (copies _ asks 0 after.processes) (asking-terminals after.terminals))
      (copies _ tells 0 after.processes))
