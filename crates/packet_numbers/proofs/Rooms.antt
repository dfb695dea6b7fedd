-- After so many events no number of a post is greater.
use Rattle.std.proofs.Common.{◌≡◌, ◌≤◌, ◌<◌, inl, inr, ℕ, ◌+◌, List, [], ◌∷◌, ◌++◌, length, Option, Some, None}
use Rattle.std.proofs.Common.{sym, subst, arith, length-append}
use Rattle.gd_words.specs.Members.{IsAmong}
use Rattle.gd_words.specs.Ranges.{HasNext}
use Rattle.gd_words.proofs.Among.{among-either}
use Rattle.tal_tree.specs.declared.site.Site.{Site}
use Rattle.schedule.specs.declared.event.Event.{Event}
use Rattle.checkpoint_image.specs.declared.receive.OpenerBlock.{OpenerBlock}
use Rattle.world_semantics.specs.declared.which.Which.{Which}
use Rattle.world_semantics.specs.declared.which.Which.TheVariants.{First, Second}
use Rattle.world_semantics.specs.Follows.{runs}
use Rattle.world_semantics.specs.Messages.{Sending, Running, Entering, Handing, Stopping, MarkingDown, Reloading}
use Rattle.world_semantics.specs.Rules.{Change}
use Rattle.world_semantics.specs.Running.{Done, run_done, sendings_of, world_after}
use Rattle.world_semantics.specs.World.{Copy, Pair, World, copy_of}
use Rattle.world_semantics.proofs.Members.{among-filter}
use Rattle.world_semantics.proofs.Outcomes.{run-outcome}
use Rattle.computed_changes.specs.Laws.{FitsWhereItComes, HasCopiesApart}
use Rattle.computed_changes.proofs.Entered.{enter-only}
use Rattle.computed_changes.proofs.Outcomes.{run-only}
use Rattle.computed_changes.proofs.Stopped.{stop-only, mark-only, reload-only}
use Rattle.packets_played.specs.takeover_laws.specs.Fit.{IsFit}
use Rattle.letters.specs.Again.{sent_again}
use Rattle.letters.specs.Posts.{Post, HasPlayed, MarksLetters, PlaysEvent, after_change, no_mark, one_mark, played_more}
use Rattle.letters.specs.Posts.{played_none, plays_again, plays_drop, plays_enter, plays_fail, plays_hand, plays_loss}
use Rattle.letters.specs.Posts.{plays_mark, plays_no_enter, plays_no_fail, plays_no_run, plays_no_tick, plays_nothing}
use Rattle.letters.specs.Posts.{plays_repeat, plays_run, plays_tick, plays_tick_stop, post_after_down, post_at_boot}
use Rattle.letters.specs.Posts.{after_reloading, plays_drive, plays_no_reload, plays_reload, with_letters}
use Rattle.letters.specs.Routes.{Letter, letters_of}
use Rattle.letters.proofs.Owed.{taken-there}
use Rattle.letters.proofs.Worlds.{played-run}
use Rattle.packets_played.specs.letter_laws.proofs.Fitting.{letter-fits}
use Rattle.packets_played.specs.letter_laws.proofs.Given.{letter-from}
use Rattle.packets_played.specs.letter_laws.proofs.Honest.{played-honest}
use Rattle.number_laws.specs.message_wires.specs.Play.{machine_at_boot}
use Rattle.number_laws.specs.message_wires.specs.Runs as whole
use Rattle.number_laws.specs.message_wires.specs.HasRoom.{CopyHasRoom, TerminalHasRoom, WorldHasRoom}
use Rattle.number_laws.proofs.Each.{Each, each-all, each-append, each-more}
use Rattle.number_laws.proofs.Hands.{enter-within, handed-within}
use Rattle.number_laws.proofs.Marks.{AnyWatchersWithin, again-within, mark-watchers, mark-within, stop-watchers}
use Rattle.number_laws.proofs.Marks.{stop-within}
use Rattle.number_laws.proofs.Played.{kinds_of, kinds-site, played-within}
use Rattle.number_laws.proofs.Reloads.{reload-within}
use Rattle.number_laws.proofs.Runs.{run-within}
use Rattle.number_laws.proofs.Within.{AnyWithin, AreSendings, CopyWithin, DoneWithin, MessageWithin, PairWithin}
use Rattle.number_laws.proofs.Within.{TerminalWithin, WatchersWithin, WorldWithin, message-more, watchers-within}
use Rattle.number_laws.proofs.Within.{world-more}

each-among : {A : Type 0} (P : A → Type 0) (xs : List A) (x : A) → Each P xs → IsAmong x xs → P x
each-among P [] x each among = absurd among
each-among P (y ∷ xs) x each (inl same) = subst P (sym same) each.0
each-among P (y ∷ xs) x each (inr among) = each-among P xs x each.1 among

any-world : (n : ℕ) (kinds : _) (w : World) (done : Option Done) → WorldWithin n kinds w → AnyWithin n kinds done
    → WorldWithin n kinds (world_after w done)
any-world n kinds w None world any = world
any-world n kinds w (Some done) world any = any.world

any-sendings : (n : ℕ) (kinds : _) (done : Option Done) → AnyWithin n kinds done
    → AreSendings n kinds (sendings_of done)
any-sendings n kinds None any = tt
any-sendings n kinds (Some done) any = any.sendings

module _ (site : Site) where
  abbrev SentWithin : ℕ → List Letter → Type 0
  SentWithin n letters =
      (letter : Letter) → IsAmong letter letters → MessageWithin n (kinds_of site) letter.message

  -- the world of a post, and all that was ever sent
  record IsLow (n : ℕ) (post : Post) : Type 0 where
    pub world : WorldWithin n (kinds_of site) post.world
    pub sent : SentWithin n post.sent

  sent-more : (n m : ℕ) (letters : List Letter) → n ≤ m → SentWithin n letters → SentWithin m letters
  sent-more n m letters less within letter among =
      message-more m n (kinds_of site) less letter.message (within letter among)

  low-more : (n m : ℕ) (post : Post) → n ≤ m → IsLow n post → IsLow m post
  low-more n m post less low = record {
    world = world-more m n (kinds_of site) post.world less low.world;
    sent = sent-more n m post.sent less low.sent;
  }

  -- a change of the world with its letters
  letters-low : (n : ℕ) (post : Post) (next : World) (owed : List Letter) (sendings : List Sending)
      → SentWithin n post.sent → WorldWithin n (kinds_of site) next → AreSendings n (kinds_of site) sendings
      → IsLow n (with_letters (letters_of site next sendings) (record post { world = next; owed = owed }))
  letters-low n post next owed sendings sent world are = record {
    world = world;
    sent = λ letter among. elim (among-either letter (letters_of site next sendings) post.sent among) [
      | inl new ↦ (let from = letter-from site next sendings letter new in
          subst (MessageWithin n (kinds_of site)) (sym from.message)
          (each-among (λ (sending : Sending). MessageWithin n (kinds_of site) sending.message) sendings from.sending are
          from.among))
      | inr old ↦ sent letter old
    ];
  }

  done-low : (n : ℕ) (post : Post) (next : World) (owed : List Letter) (sendings : List Sending)
      → SentWithin n post.sent → DoneWithin n (kinds_of site) (record { world = next; sendings = sendings })
      → IsLow n (with_letters (letters_of site next sendings) (record post { world = next; owed = owed }))
  done-low n post next owed sendings sent done = letters-low n post next owed sendings sent done.world done.sendings

  -- Stops raise no number, and marks the eras alone of copies that watched

  mark-low : (n before node processor : ℕ) (post : Post) (next : World) (sendings : List Sending) → before < n
      → WatchersWithin before post.world.processes → IsLow n post
      → Change site post.world (MarkingDown node processor) sendings next
      → IsLow n (post_after_down site node processor sendings next post)
  mark-low n before node processor post next sendings less watchers low change =
      letters-low n post next _ (sendings ++ sent_again site post.world next node processor) low.sent done.world
      (each-append _ sendings _ done.sendings (again-within n (kinds_of site) site post.world node processor next))
    where
      done : DoneWithin n (kinds_of site) (record { world = next; sendings = sendings })
      done = subst (AnyWithin n (kinds_of site)) (mark-only node processor post.world next sendings change)
          (mark-within n (kinds_of site) post.world low.world before node processor less watchers)

  marks-low : (n before : ℕ) {node : ℕ} {post end : Post} → before < n → WatchersWithin before post.world.processes
      → IsLow n post → MarksLetters site node post end → IsLow n end
  marks-low n before less watchers low no_mark = low
  marks-low n before {node = node} {post = post} less watchers low
      (one_mark {sendings = sendings} {next = next} processor change more) =
      marks-low n before less
      (subst (AnyWatchersWithin before) (mark-only node processor post.world next sendings change)
      (mark-watchers before post.world node processor watchers))
      (mark-low n before node processor post next sendings less watchers low change) more

  stop-low : (n processor : ℕ) (post : Post) (next : World) → IsLow n post
      → Change site post.world (Stopping processor) [] next → IsLow n (record post { world = next })
  stop-low n processor post next low change = record { world = done.world; sent = low.sent }
    where
      done : DoneWithin n (kinds_of site) (record { world = next; sendings = [] })
      done = subst (AnyWithin n (kinds_of site)) (stop-only processor post.world next [] change)
          (stop-within n (kinds_of site) post.world low.world processor)

  reload-low : (n processor : ℕ) (post : Post) (next : World) → IsLow n post
      → Change site post.world (Reloading processor) [] next → IsLow (n + 1) (after_reloading processor next post)
  reload-low n processor post next low change = record {
    world = done.world;
    sent = λ letter among.
        sent-more n (n + 1) post.sent (omega arith) low.sent letter (among-filter letter _ post.sent among).0;
  }
    where
      done : DoneWithin (n + 1) (kinds_of site) (record { world = next; sendings = [] })
      done = subst (AnyWithin (n + 1) (kinds_of site)) (reload-only processor post.world next [] change)
          (reload-within n (kinds_of site) post.world low.world site (kinds-site site) processor)

  -- Events

  module _ (fit : IsFit site) (apart : HasCopiesApart site) (events : List Event) (post : Post)
      (few : length events < 4294967295) (played : HasPlayed site events post)
      (low : IsLow (length events) post) where
    later : IsLow (length events + 1) post
    later = low-more (length events) (length events + 1) post (omega arith) low

    watchers : WatchersWithin (length events) post.world.processes
    watchers = watchers-within (length events) (kinds_of site) post.world low.world

    run-low : (number : ℕ) (next : World) (sendings : List Sending)
        → Change site post.world (Running number) sendings next
        → IsLow (length events + 1) (after_change site sendings next post)
    run-low number next sendings change =
        letters-low (length events + 1) post next post.owed sendings later.sent
        (subst (WorldWithin (length events + 1) (kinds_of site)) (sym outcome.0)
        (any-world (length events + 1) (kinds_of site) post.world (run_done site number post.world) later.world any))
        (subst (AreSendings (length events + 1) (kinds_of site)) (sym outcome.1)
        (any-sendings (length events + 1) (kinds_of site) (run_done site number post.world) any))
      where
        any : AnyWithin (length events + 1) (kinds_of site) (run_done site number post.world)
        any = run-within (length events) (kinds_of site) post.world low.world few site number

        outcome : (next ≡ world_after post.world (run_done site number post.world))
            × (sendings ≡ sendings_of (run_done site number post.world))
        outcome = run-outcome (played-run played) (runs change)

    enter-low : (number : ℕ) (next : World) (sendings : List Sending)
        → Change site post.world (Entering number) sendings next
        → IsLow (length events + 1) (after_change site sendings next post)
    enter-low number next sendings change =
        done-low (length events + 1) post next post.owed sendings later.sent
        (subst (AnyWithin (length events + 1) (kinds_of site)) (enter-only number post.world next sendings change)
        (enter-within (length events) (kinds_of site) post.world low.world few site number))

    hand-low : (letter : Letter) (next : World) (sendings : List Sending) (owed : List Letter)
        → IsAmong letter post.sent → Change site post.world (Handing letter.receiver letter.message) sendings next
        → IsLow (length events + 1) (after_change site sendings next (record post { owed = owed }))
    hand-low letter next sendings owed among change =
        done-low (length events + 1) post next owed sendings later.sent
        (subst (AnyWithin (length events + 1) (kinds_of site))
        (run-only post.world next letter.receiver letter.message sendings (played-run played) apart fits change)
        (handed-within (length events) (kinds_of site) post.world low.world few site letter.receiver letter.message
        (later.sent letter among)))
      where
        fits : FitsWhereItComes site post.world letter.receiver letter.message
        fits = letter-fits site fit events post (omega (arith, few)) played letter among letter.receiver

    -- what is owed was sent
    owed-sent : (letter : Letter) → IsAmong letter post.owed → IsAmong letter post.sent
    owed-sent = (played-honest site fit events post (omega (arith, few)) played).owed

    plays-low : {event : Event} (next : Post) → PlaysEvent site post event next → IsLow (length events + 1) next
    plays-low next (plays_run {number = number} {sendings = sendings} {next = w} change) =
        run-low number w sendings change
    plays-low next (plays_no_run idle) = later
    plays-low next (plays_enter {number = number} {sendings = sendings} {next = w} change) =
        enter-low number w sendings change
    plays-low next (plays_no_enter idle) = later
    plays-low next plays_nothing = later
    plays-low next (plays_hand {sendings = sendings} {next = w} {rest = rest} letter taken change) =
        hand-low letter w sendings rest (owed-sent letter (taken-there taken)) change
    plays-low next (plays_drop {rest = rest} letter taken running idle) =
        record { world = later.world; sent = later.sent }
    plays-low next (plays_again {sendings = sendings} {next = w} letter among change) =
        hand-low letter w sendings post.owed among change
    plays-low next (plays_mark {sendings = sendings} {next = w} node processor change) =
        mark-low (length events + 1) (length events) node processor post w sendings (omega arith) watchers later
        change
    plays-low next plays_loss = later
    plays-low next plays_repeat = later
    plays-low next plays_drive = later
    plays-low next plays_no_tick = later
    plays-low next (plays_tick running marks) =
        marks-low (length events + 1) (length events) (omega arith) watchers later marks
    plays-low next (plays_tick_stop {between = between} processor running other change marks) =
        marks-low (length events + 1) (length events) (omega arith)
        (subst (AnyWatchersWithin (length events)) (stop-only processor post.world between [] change)
        (stop-watchers (length events) post.world processor watchers))
        (stop-low (length events + 1) processor post between later change) marks
    plays-low next (plays_fail {processor = processor} {next = w} change) =
        stop-low (length events + 1) processor post w later change
    plays-low next (plays_no_fail idle) = later
    plays-low next (plays_reload {processor = processor} {next = w} change) =
        reload-low (length events) processor post w low change
    plays-low next (plays_no_reload idle) = later

  begins-low : IsLow 0 (post_at_boot site)
  begins-low = record {
    world = (played-within site [] (machine_at_boot site) whole.played_none (omega arith)).0;
    sent = λ letter none. absurd none;
  }

  module _ (fit : IsFit site) (apart : HasCopiesApart site) where
    played-low : {events : List Event} {post : Post} → length events < 4294967296 → HasPlayed site events post
        → IsLow (length events) post
    played-low few played_none = begins-low
    played-low few (played_more {event = event} {events = events} {post = post} {next = next} before plays) =
        let one : length (events ++ event ∷ []) ≡ length events + 1 = length-append events (event ∷ []) in
        subst (λ n. IsLow n next) (sym one)
        (plays-low fit apart events post (omega (arith, few, one)) before
        (played-low (omega (arith, few, one)) before) next plays)

-- Numbers with successors

copy-room : (n : ℕ) (disc : _) (copy : Copy) → n < 4294967294 → CopyWithin n disc copy → CopyHasRoom copy
copy-room n disc copy low is = record {
  next = each-all HasNext copy.core.next (each-more (λ number. number ≤ n + 1) HasNext
      (λ number few. omega (arith, few, low)) copy.core.next is.0.next);
  taken =
      each-all (λ (block : OpenerBlock). HasNext block.taken) copy.core.receive.openers
      (each-more (λ (block : OpenerBlock). block.taken ≤ n) (λ (block : OpenerBlock). HasNext block.taken)
      (λ block few. omega (arith, few, low)) copy.core.receive.openers is.0.taken);
  write = let few = is.0.state.1 in omega (arith, few, low);
  number = let few = is.1 in omega (arith, few, low);
  era = let few = is.2 in omega (arith, few, low);
  position = let few = is.3 in omega (arith, few, low);
}

copy-of : (n : ℕ) (disc : _) (pair : Pair) (k : Which) → PairWithin n disc pair → CopyWithin n disc (copy_of k pair)
copy-of n disc pair First is = is.0
copy-of n disc pair Second is = is.1

world-room : (n : ℕ) (kinds : _) (w : World) → n < 4294967294 → WorldWithin n kinds w → WorldHasRoom w
world-room n kinds w few is = record {
  processes = λ number pair there k.
      copy-room n (kinds number) (copy_of k pair) few (copy-of n (kinds number) pair k (is.pairs number pair there));
  terminals =
      each-all TerminalHasRoom w.terminals (each-more (TerminalWithin n) TerminalHasRoom (λ terminal one. record {
        entered = let low = one.0 in omega (arith, low, few);
        printed = let low = one.1 in omega (arith, low, few);
      }) w.terminals is.terminals);
  shown = let low = is.shown in omega (arith, low, few);
}

pub room-of : (site : Site) (events : List Event) (post : Post) → IsFit site → HasCopiesApart site
    → length events < 4294967294 → HasPlayed site events post → WorldHasRoom post.world
room-of site events post fit apart few played =
    let low = played-low site fit apart (omega (arith, few)) played in
    world-room (length events) (kinds_of site) post.world few low.world
