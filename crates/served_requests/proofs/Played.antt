-- Whatever is played, awaited requests are served.
use Rattle.std.proofs.Common.{◌≡◌, inl, inr, ℕ, ◌+◌, ◌<◌, true, false, List, [], append-nil, Some, slice_get}
use Rattle.std.proofs.Common.{slice_set, refl, ap, sym, subst, arith}
use Rattle.tal_tree.specs.declared.site.Site.{Site}
use Rattle.tal_tree.specs.declared.site.Who.{Who}
use Rattle.schedule.specs.declared.event.Event.{Event}
use Rattle.world_semantics.specs.Messages.{Message, Sending, Cause, Handing, Stopping, MarkingDown, Reloading}
use Rattle.world_semantics.specs.Rules.{Change, by_own, by_checkpoint, by_request, by_early_request, by_enter, by_print}
use Rattle.world_semantics.specs.Rules.{by_stop, by_mark, by_reload, most_reloads, reloaded_from, without_downs}
use Rattle.world_semantics.specs.World.{World, boot, has_marked, is_running}
use Rattle.letter_laws.specs.takeover_laws.specs.Fit.{IsFit}
use Rattle.letter_laws.specs.takeover_laws.proofs.Changing.{acts_by, causes-one, passes-one}
use Rattle.letter_laws.specs.takeover_laws.proofs.Kept.{IsGood, change-good}
use Rattle.letters.specs.Posts.{Post, post_at_boot, after_change, post_after_down, MarksLetters, no_mark, one_mark}
use Rattle.letters.specs.Posts.{PlaysEvent, plays_run, plays_no_run, plays_enter, plays_no_enter, plays_nothing}
use Rattle.letters.specs.Posts.{plays_hand, plays_drop, plays_again, plays_mark, plays_loss, plays_repeat, plays_drive}
use Rattle.letters.specs.Posts.{plays_no_tick, plays_tick, plays_tick_stop, plays_fail, plays_no_fail, plays_reload}
use Rattle.letters.specs.Posts.{plays_no_reload, after_reloading}
use Rattle.letters.proofs.Owed.{taken-there}
use Rattle.letter_laws.specs.awaited_requests.specs.Awaited.{IsAwaited, by_copy, by_terminal}
use Rattle.letter_laws.specs.awaited_requests.specs.Seats.{IsLaidOut, AreSeated}
use Rattle.letter_laws.specs.awaited_requests.specs.Served.{AreServed}
use Rattle.letter_laws.specs.awaited_requests.proofs.Reloading.{reload-serves}
use Rattle.letter_laws.specs.awaited_requests.proofs.Seats.{run-seats}
use Rattle.letter_laws.specs.Known.{IsKnown}
use Rattle.letter_laws.proofs.Calm.{begins-resting}
use Rattle.letter_laws.proofs.Entered.{begins-even}
use Rattle.letter_laws.proofs.Known.{WasSentTo, known-stop, known-mark}
use Rattle.served_requests.proofs.Changing.{change-served}
use Rattle.served_requests.proofs.Dropping.{taken-or, drop-served}
use Rattle.served_requests.proofs.Marking.{mark-served}
use Rattle.served_requests.proofs.Routes.{KeepsRoutes}

same-letter : {node at : ℕ} {one other : Message} → Handing node one ≡ Handing at other → (node ≡ at) × (one ≡ other)
same-letter same = (cc, cc)

-- what a reload needs, and what it leaves
record IsReload (site : Site) (w next : World) (processor : ℕ) : Type 0 where
  times : ℕ
  down : slice_get w.stopped processor ≡ Some true
  all : (node : ℕ) → is_running w.stopped node ≡ true → has_marked w.downs node processor ≡ true
  counted : slice_get w.reloads processor ≡ Some times
  less : times < most_reloads
  left : next ≡ record w {
    stopped = slice_set w.stopped processor false;
    reloads = slice_set w.reloads processor (times + 1);
    downs = without_downs processor w.downs;
    processes = reloaded_from site processor 0 w.processes;
  }

same-reload : {one other : ℕ} → Reloading one ≡ Reloading other → one ≡ other
same-reload same = cc

reload-is : {site : Site} {w next : World} {cause : Cause} {sendings : List Sending}
    → Change site w cause sendings next → (processor : ℕ) → cause ≡ Reloading processor
    → IsReload site w next processor
reload-is {site = site} {w = w} {next = next} (by_reload {times = times} other stopped all counted less) processor
    same =
    subst (IsReload site w next) (same-reload same)
    (record { times = times; down = stopped; all = all; counted = counted; less = less; left = refl })
reload-is (by_own number k pair there role causes advances enters fr) processor same =
    absurd (let one = causes-one causes in let none = ap acts_by same in cc)
reload-is (by_checkpoint number pair there passes) processor same =
    absurd (let one = passes-one passes in let none = ap acts_by same in cc)
reload-is (by_request request k pair among there role) processor same = absurd (cc)
reload-is (by_early_request request k pair among there role) processor same = absurd (cc)
reload-is (by_enter number terminal opener there even next opens) processor same = absurd (cc)
reload-is (by_print number terminal reply there odd among opens last) processor same = absurd (cc)
reload-is (by_stop other runs whole) processor same = absurd (cc)
reload-is (by_mark node other stopped runs new) processor same = absurd (cc)

module _ (site : Site) (fit : IsFit site) (out : IsLaidOut site) where
  seats : (post : Post) → IsKnown site post → AreSeated site post.world
  seats post known = run-seats site known.honest.reached.0 post.world out known.honest.reached.1

  -- Changes and marks

  -- a change by which all that was owed stays so
  added-served : (events : ℕ) (post : Post) (next : World) (cause : Cause) (sendings : List Sending)
      → IsGood site events post.world → IsKnown site post
      → AreServed site post → Change site post.world cause sendings next → KeepsRoutes cause → WasSentTo post cause
      → AreServed site (after_change site sendings next post)
  added-served events post next cause sendings good known served change keeps sent =
      change-served site fit events post good (seats post known) known served next cause sendings post.owed change
      keeps sent (λ letter among. inl among)

  stop-served : (events : ℕ) (post : Post) (next : World) (processor : ℕ) → IsGood site events post.world
      → IsKnown site post → AreServed site post
      → Change site post.world (Stopping processor) [] next → AreServed site (record post { world = next })
  stop-served events post next processor good known served change =
      subst (λ owed. AreServed site (record { world = next; owed = owed; sent = post.sent })) (append-nil post.owed)
      (added-served events post next (Stopping processor) [] good known served change tt
      (λ node request same. absurd (cc)))

  reload-served : (events : ℕ) (post : Post) (next : World) (processor : ℕ) → IsGood site events post.world
      → IsKnown site post → AreServed site post
      → Change site post.world (Reloading processor) [] next → AreServed site (after_reloading processor next post)
  reload-served events post next processor good known served change =
      let is = reload-is change processor refl in
      subst (λ w. AreServed site (after_reloading processor w post)) (sym is.left)
      (reload-serves site out post.world processor is.times good.roles good.stopped good.steady good.seated is.down
      is.all is.counted is.less post.owed post.sent served)

  downs-served : (node events : ℕ) (post next : Post) → events < 4294967295 → IsGood site events post.world
      → IsKnown site post
      → AreServed site post → MarksLetters site node post next → AreServed site next
  downs-served node events post next few good known served no_mark = served
  downs-served node events post next few good known served
      (one_mark {sendings = sendings} {next = w} processor change more) =
      let after = change-good site fit events post.world w (MarkingDown node processor) sendings few good change in
      downs-served node (events + 0) (post_after_down site node processor sendings w post) next (omega (arith, few))
      after
      (known-mark site fit events (events + 0) post w node processor sendings good after known change)
      (mark-served site fit out events (events + 0) post good (seats post known) known served node processor sendings w
      change after) more

  -- what is played leaves what is awaited served
  pub plays-served : (events : ℕ) (post next : Post) (event : Event) → events < 4294967295
      → IsGood site events post.world
      → IsKnown site post → AreServed site post → PlaysEvent site post event next → AreServed site next
  plays-served events post next event few good known served plays = of plays
    where
      of : {event : Event} {next : Post} → PlaysEvent site post event next → AreServed site next
      of (plays_run {sendings = sendings} {next = w} change) =
          added-served events post w _ sendings good known served change tt (λ node request same. absurd (cc))
      of (plays_no_run idle) = served
      of (plays_enter {sendings = sendings} {next = w} change) =
          added-served events post w _ sendings good known served change tt (λ node request same. absurd (cc))
      of (plays_no_enter idle) = served
      of plays_nothing = served
      of (plays_hand {sendings = sendings} {next = w} {rest = rest} letter taken change) =
          change-served site fit events post good (seats post known) known served w _ sendings rest change tt
          (λ node request same. (
            letter,
            known.honest.owed letter (taken-there taken),
            (same-letter same).0,
            (same-letter same).1,
          ))
          (λ other among. elim (taken-or other taken among)
          [ inl same ↦ inr (ap (λ l. Handing l.receiver l.message) (sym same)) | inr left ↦ inl left ])
      of (plays_drop {rest = rest} letter taken runs idle) =
          drop-served site events post.world good post.owed post.sent rest letter known.honest served taken runs idle
      of (plays_again {sendings = sendings} {next = w} letter among change) =
          added-served events post w _ sendings good known served change tt
          (λ node request same. (letter, among, (same-letter same).0, (same-letter same).1))
      of (plays_mark {sendings = sendings} {next = w} node processor change) =
          mark-served site fit out events (events + 0) post good (seats post known) known served node processor
          sendings w change
          (change-good site fit events post.world w (MarkingDown node processor) sendings few good change)
      of plays_loss = served
      of plays_repeat = served
      of plays_drive = served
      of plays_no_tick = served
      of (plays_tick {node = node} {next = last} runs downs) =
          downs-served node events post last few good known served downs
      of (plays_tick_stop {node = node} {between = between} {next = last} processor runs other change downs) =
          let after = change-good site fit events post.world between (Stopping processor) [] few good change in
          downs-served node (events + 0) (record post { world = between }) last (omega (arith, few)) after
          (known-stop site fit events (events + 0) post between processor good after known change)
          (stop-served events post between processor good known served change) downs
      of (plays_fail {processor = processor} {next = w} change) =
          stop-served events post w processor good known served change
      of (plays_no_fail idle) = served
      of (plays_reload {processor = processor} {next = w} change) =
          reload-served events post w processor good known served change
      of (plays_no_reload idle) = served

-- Beginning

none-begin : (site : Site) {asker : ℕ} {one : Who} {n : ℕ} → IsAwaited site (boot site) asker one n → ⊥
none-begin site (by_copy {number = number} pair k there role at on last) = begins-resting site number pair k there at
none-begin site (by_terminal {number = number} terminal there odd) =
    let even = begins-even site number terminal there in omega (arith, odd, even.0)

-- nothing is awaited at the beginning
pub served-begins : (site : Site) → AreServed site (post_at_boot site)
served-begins site asker one n opener pair opens there awaited = absurd (none-begin site awaited)
