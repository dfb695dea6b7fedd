-- A stop raises no number, and a mark the eras alone of copies that take over; what a mark sends are requests and
-- replies.
use Rattle.std.proofs.Common.{◌≡◌, ◌≤◌, ◌<◌, refl, ℕ, ◌+◌, ◌==◌, Bool, true, false, if◌then◌else◌, List, [], ◌∷◌, ◌++◌}
use Rattle.std.proofs.Common.{Option}
use Rattle.std.proofs.Common.{Some, None, slice_get, map, arith, length}
use Rattle.std.specs.List.{flat_map}
use Rattle.gd_words.specs.declared.message.Request.{Request}
use Rattle.gd_words.specs.declared.message.Reply.{Reply}
use Rattle.tal_tree.specs.declared.site.Site.{Site}
use Rattle.checkpoint_image.specs.Receive.{is_waiting, request_standing, still_waiting}
use Rattle.world_semantics.specs.declared.role.Role.{Role}
use Rattle.world_semantics.specs.declared.role.Role.TheVariants.{Acting, Watching, Blank, Gone}
use Rattle.world_semantics.specs.declared.which.Which.{Which}
use Rattle.world_semantics.specs.declared.which.Which.TheVariants.{First, Second}
use Rattle.world_semantics.specs.Messages.{Message, Asking, Replying}
use Rattle.world_semantics.specs.Rules.{pair_after_down, pair_at_down, renewals_ended, stopped_pair, taker}
use Rattle.world_semantics.specs.Rules.{takeover_sendings, told_at_down}
use Rattle.world_semantics.specs.Running.{Done}
use Rattle.world_semantics.specs.World.{Copy, Pair, Terminal, World, copy_of, is_whole, terminal_node}
use Rattle.world_semantics.proofs.Lists.{map-all}
use Rattle.world_semantics.proofs.Roles.{taker-is}
use Rattle.computed_changes.specs.Stopped.{stop_if, stop_where, stop_done, marked_where, mark_where, down_done}
use Rattle.message_wires.specs.letters.specs.Again.{rerouted, awaited_from, if_acts_on, asks_again, tells_again}
use Rattle.message_wires.specs.letters.specs.Again.{of_copies, of_terminals}
use Rattle.message_wires.specs.letters.specs.Again.{terminals_ask, sent_again}
use Rattle.number_laws.proofs.Each.{Each, each-append, each-map, each-always}
use Rattle.number_laws.proofs.Within.{PairWithin, MessageWithin, AreSendings, WorldWithin, AnyWithin}
use Rattle.number_laws.proofs.Within.{WatchersWithin, held_of, held_in, held-mapped, filter-few}
use Rattle.number_laws.proofs.Hands.{replies-within}

-- Stops

module _ (n : ℕ) (kinds : ℕ → Bool) (w : World) (within : WorldWithin n kinds w) where
  stopped-held : (processor : ℕ) → held_in (map (stopped_pair processor) w.processes) ≤ held_in w.processes
  stopped-held processor = held-mapped (stopped_pair processor) (λ pair. omega arith) w.processes

  pub stop-within : (processor : ℕ) → AnyWithin n kinds (stop_done processor w)
  stop-within processor = by (slice_get w.stopped processor)
    where
      stops : (whole : Bool) → AnyWithin n kinds (stop_if processor w whole)
      stops false = tt
      stops true = record {
        world = record {
          pairs =
              map-all (λ number. PairWithin n (kinds number)) (stopped_pair processor) w.processes
              (λ number pair there. within.pairs number pair there);
          acts = let acts = within.acts in let falls = stopped-held processor in omega (arith, acts, falls);
          shown = within.shown;
          terminals = within.terminals;
        };
        sendings = tt;
      }

      by : (stopped : Option Bool) → AnyWithin n kinds (stop_where processor w stopped)
      by None = tt
      by (Some true) = tt
      by (Some false) = stops (is_whole w)

  -- Marks

  still : (copy : Copy) → length copy.waiting ≤ n → length (still_waiting copy.core.receive copy.waiting) ≤ n
  still copy few =
      let less = filter-few (λ request. is_waiting (request_standing copy.core.receive request)) copy.waiting in
      omega (arith, less, few)

  -- a copy that takes over watched before
  marked-one : (number node processor : ℕ) (k : Option Which) (pair : Pair) → PairWithin n (kinds number) pair
      → ((j : Which) → k ≡ Some j → (copy_of j pair).era < n)
      → PairWithin n (kinds number) (renewals_ended node processor (pair_after_down k pair))
  marked-one number node processor None pair is rises = is
  marked-one number node processor (Some First) pair is rises =
      let low = rises First refl in
      ((is.0.0, omega arith, omega (arith, low), is.2, still pair.first is.0.4), is.1, is.2)
  marked-one number node processor (Some Second) pair is rises =
      let low = rises Second refl in
      (is.0, (is.1.0, omega arith, omega (arith, low), is.2, still pair.second is.1.4), is.2)

  marked-falls : (node processor : ℕ) (k : Option Which) (pair : Pair)
      → held_of (renewals_ended node processor (pair_after_down k pair)) ≤ held_of pair
  marked-falls node processor None pair = omega arith
  marked-falls node processor (Some First) pair = omega arith
  marked-falls node processor (Some Second) pair = omega arith

  told : (node processor : ℕ) (pairs : List Pair) → AreSendings n kinds (flat_map (told_at_down node processor) pairs)
  told node processor [] = tt
  told node processor (pair ∷ pairs) =
      each-append _ (told_at_down node processor pair) _ (by (taker node processor pair)) (told node processor pairs)
    where
      by : (k : Option Which) → AreSendings n kinds (takeover_sendings k pair)
      by None = tt
      by (Some k) = replies-within n kinds _ _

  -- where the eras of copies that watch have room
  pub mark-within : (before node processor : ℕ) → before < n → WatchersWithin before w.processes
      → AnyWithin n kinds (down_done node processor w)
  mark-within before node processor less watchers = by (slice_get w.stopped processor)
    where
      where_may : (test : Bool) → AnyWithin n kinds (marked_where node processor w test)
      where_may false = tt
      where_may true = record {
        world = record {
          pairs =
              map-all (λ number. PairWithin n (kinds number)) (pair_at_down node processor) w.processes
              (λ number pair there. marked-one number node processor (taker node processor pair) pair
              (within.pairs number pair there)
              (λ j takes.
              (let low = watchers number pair there j (taker-is node processor pair j takes).watching in
              omega (arith, low, less))));
          acts =
              let acts = within.acts in
              let falls = held-mapped (pair_at_down node processor)
              (λ pair. marked-falls node processor (taker node processor pair) pair) w.processes in
              omega (arith, acts, falls);
          shown = within.shown;
          terminals = within.terminals;
        };
        sendings = told node processor w.processes;
      }

      by : (stopped : Option Bool) → AnyWithin n kinds (mark_where node processor w stopped)
      by None = tt
      by (Some false) = tt
      by (Some true) = where_may _

-- a copy that watches after a mark watched before, and is of the era of which it was
watched-before : (before node processor : ℕ) (pair : Pair)
    → ((k : Which) → (copy_of k pair).role ≡ Watching → (copy_of k pair).era ≤ before)
    → (taken : Option Which) (k : Which)
    → (copy_of k (renewals_ended node processor (pair_after_down taken pair))).role ≡ Watching
    → (copy_of k (renewals_ended node processor (pair_after_down taken pair))).era ≤ before
watched-before before node processor pair were None First watches = were First watches
watched-before before node processor pair were None Second watches = were Second watches
watched-before before node processor pair were (Some First) First watches = absurd (cc)
watched-before before node processor pair were (Some First) Second watches = were Second watches
watched-before before node processor pair were (Some Second) First watches = were First watches
watched-before before node processor pair were (Some Second) Second watches = absurd (cc)

abbrev pub AnyWatchersWithin : ℕ → Option Done → Type 0
AnyWatchersWithin before None = Unit {0}
AnyWatchersWithin before (Some done) = WatchersWithin before done.world.processes

pub stop-watchers : (before : ℕ) (w : World) (processor : ℕ) → WatchersWithin before w.processes
    → AnyWatchersWithin before (stop_done processor w)
stop-watchers before w processor watchers = by (slice_get w.stopped processor)
  where
    was : (gone : Bool) (role : Role) → (if gone then Gone else role) ≡ Watching → role ≡ Watching
    was true role watches = absurd (cc)
    was false role watches = watches

    copies : (pair : Pair) → ((k : Which) → (copy_of k pair).role ≡ Watching → (copy_of k pair).era ≤ before)
        → (k : Which) → (copy_of k (stopped_pair processor pair)).role ≡ Watching
        → (copy_of k (stopped_pair processor pair)).era ≤ before
    copies pair were First watches =
        were First (was (pair.first.processor == processor) pair.first.role watches)
    copies pair were Second watches =
        were Second (was (pair.second.processor == processor) pair.second.role watches)

    stops : (whole : Bool) → AnyWatchersWithin before (stop_if processor w whole)
    stops false = tt
    stops true =
        map-all (λ (number : ℕ) (pair : Pair). (k : Which) → (copy_of k pair).role ≡ Watching
        → (copy_of k pair).era ≤ before)
        (stopped_pair processor) w.processes (λ number pair there. copies pair (watchers number pair there))

    by : (stopped : Option Bool) → AnyWatchersWithin before (stop_where processor w stopped)
    by None = tt
    by (Some true) = tt
    by (Some false) = stops (is_whole w)

pub mark-watchers : (before : ℕ) (w : World) (node processor : ℕ) → WatchersWithin before w.processes
    → AnyWatchersWithin before (down_done node processor w)
mark-watchers before w node processor watchers = by (slice_get w.stopped processor)
  where
    where_may : (test : Bool) → AnyWatchersWithin before (marked_where node processor w test)
    where_may false = tt
    where_may true =
        map-all (λ (number : ℕ) (pair : Pair). (k : Which) → (copy_of k pair).role ≡ Watching
        → (copy_of k pair).era ≤ before)
        (pair_at_down node processor) w.processes
        (λ number pair there. watched-before before node processor pair (watchers number pair there)
        (taker node processor pair))

    by : (stopped : Option Bool) → AnyWatchersWithin before (mark_where node processor w stopped)
    by None = tt
    by (Some false) = tt
    by (Some true) = where_may _

-- What is sent again

module _ (n : ℕ) (kinds : ℕ → Bool) (site : Site) (before : World) (node processor : ℕ) where
  abbrev AreMessages : List Message → Type 0
  AreMessages messages = Each (MessageWithin n kinds) messages

  askings : (requests : List Request) → AreMessages (map Asking requests)
  askings requests = each-map _ Asking requests (each-always _ (λ request. tt) requests)

  replyings : (replies : List Reply) → AreMessages (map Replying replies)
  replyings replies = each-map _ Replying replies (each-always _ (λ reply. tt) replies)

  if-acts : (role : Role) (at : ℕ) (messages : List Message) → AreMessages messages
      → AreMessages (if_acts_on node role at messages)
  if-acts Acting at messages are = by (at == node)
    where
      by : (test : Bool) → AreMessages (if test then messages else [])
      by true = are
      by false = tt
  if-acts Watching at messages are = tt
  if-acts Blank at messages are = tt
  if-acts Gone at messages are = tt

  asks : (number : ℕ) (copy : Copy) → AreMessages (asks_again site before node processor number copy)
  asks number copy = if-acts copy.role copy.processor _ (askings _)

  tells : (number : ℕ) (copy : Copy) → AreMessages (tells_again site before node processor number copy)
  tells number copy = if-acts copy.role copy.processor _ (replyings _)

  copies : (f : ℕ → Copy → List Message) → ((number : ℕ) (copy : Copy) → AreMessages (f number copy))
      → (number : ℕ) (pairs : List Pair)
      → AreMessages (of_copies f number pairs)
  copies f all number [] = tt
  copies f all number (pair ∷ pairs) =
      each-append _ (f number pair.first ++ f number pair.second) _
      (each-append _ (f number pair.first) (f number pair.second) (all number pair.first) (all number pair.second))
      (copies f all (number + 1) pairs)

  terminals : (number : ℕ) (all : List Terminal)
      → AreMessages (of_terminals (λ number terminal.
      rerouted before node processor (awaited_from site number terminal)) number all)
  terminals number [] = tt
  terminals number (terminal ∷ rest) = each-append _
      (rerouted before node processor (awaited_from site number terminal)) _ (askings _) (terminals (number + 1) rest)

  asking-terminals : (all : List Terminal) → AreMessages (terminals_ask site before node processor all)
  asking-terminals all = by (node == terminal_node)
    where
      by : (test : Bool)
          → AreMessages (if test then of_terminals
          (λ number terminal. rerouted before node processor (awaited_from site number terminal)) 0 all else [])
      by true = terminals 0 all
      by false = tt

  pub again-within : (after : World) → AreSendings n kinds (sent_again site before after node processor)
  again-within after =
      each-map _ _ _
      (each-append _ (of_copies (asks_again site before node processor) 0 after.processes
      ++ terminals_ask site before node processor after.terminals) _
      (each-append _ (of_copies (asks_again site before node processor) 0 after.processes) _
      (copies _ asks 0 after.processes) (asking-terminals after.terminals))
      (copies _ tells 0 after.processes))
