-- A mark leaves awaited requests served: what was owed between two nodes and is so no more is sent again.
use Rattle.std.proofs.Common.{◌≡◌, ◌≢◌, ◌==◌, ◌&&◌, ◌||◌, ◌⊎◌, inl, inr, ℕ, ℤ, Bool, true, false, not, List, ◌∷◌, ◌++◌}
use Rattle.std.proofs.Common.{Some, slice_get, refl, ap, sym, ◌∙◌, subst, arith}
use Rattle.std.proofs.lemmas.Bool.{eq-eqb, eqb-true}
use Rattle.std.proofs.lemmas.Bool.Decides.{eqb_tells}
use Rattle.gd_words.specs.Members.{IsAmong}
use Rattle.gd_words.proofs.Among.{among-left, among-right}
use Rattle.tal_tree.specs.declared.site.Site.{Site}
use Rattle.tal_tree.specs.declared.site.Who.{Who}
use Rattle.tal_tree.specs.declared.site.Who.TheVariants as who
use Rattle.plain_semantics.specs.declared.slot.Opener.{Opener}
use Rattle.plain_semantics.specs.Openers.{opener_of}
use Rattle.checkpoint_image.specs.declared.receive.RequestStanding.TheVariants.{Kept}
use Rattle.checkpoint_image.specs.Receive.{standing_at}
use Rattle.world_semantics.specs.declared.role.Role.TheVariants.{Acting}
use Rattle.world_semantics.specs.declared.which.Which.{Which}
use Rattle.world_semantics.specs.Messages.{Message, Asking, Replying, Sending, Cause, MarkingDown}
use Rattle.world_semantics.specs.Rules.{Change, by_own, by_checkpoint, by_request, by_early_request, by_enter, by_print}
use Rattle.world_semantics.specs.Rules.{by_stop, by_mark, by_reload}
use Rattle.world_semantics.specs.World.{Pair, World, has_marked, copy_of}
use Rattle.world_semantics.proofs.Roles.{both-true}
use Rattle.letter_laws.specs.plain_histories.proofs.Openers.{opener-is}
use Rattle.letter_laws.specs.takeover_laws.specs.Fit.{IsFit}
use Rattle.letter_laws.specs.takeover_laws.proofs.Changing.{acts_by, causes-one, passes-one}
use Rattle.letter_laws.specs.takeover_laws.proofs.Kept.{IsGood}
use Rattle.letters.specs.Again.{is_rerouted, is_moved, sent_again}
use Rattle.letters.specs.Posts.{Post, without_those_between, post_after_down}
use Rattle.letters.specs.Routes.{Letter, home_of, is_between, letters_of, receiver_of, route_of}
use Rattle.letter_laws.specs.awaited_requests.specs.Awaited.{IsAwaited, by_copy, by_terminal}
use Rattle.letter_laws.specs.awaited_requests.specs.Seats.{IsLaidOut, AreSeated}
use Rattle.letter_laws.specs.awaited_requests.specs.Served.{reply_of, request_of, IsServed, route_stopped, is_owed}
use Rattle.letter_laws.specs.awaited_requests.specs.Served.{is_seen, AreServed}
use Rattle.letter_laws.specs.Known.{IsKnown}
use Rattle.served_requests.proofs.Again.{reply-again, copy-again, terminal-again}
use Rattle.served_requests.proofs.Awaiting.{WasAwaited, was_awaited, is_asked, awaited-before}
use Rattle.served_requests.proofs.Numbers.{awaited-low, few-kept}
use Rattle.served_requests.proofs.Queues.{filter-in}
use Rattle.served_requests.proofs.Routes.{SameSeats, led_at, route-same, rests-stopped, home-before}
use Rattle.served_requests.proofs.Running.{asker-runs, acting-runs}
use Rattle.served_requests.proofs.Seeing.{LeavesTold, turn-seen}
use Rattle.served_requests.proofs.Sending.{letter-in, IsTold, told-now}
use Rattle.served_requests.proofs.Standings.{kept-is}
use Rattle.served_requests.proofs.Turned.{Turned, change-turned}

-- what a mark is of, and what it leaves
record IsMark (w next : World) (node processor : ℕ) : Type 0 where
  down : slice_get w.stopped processor ≡ Some true
  unmarked : has_marked w.downs node processor ≡ false
  downs : next.downs ≡ record { node = node; down = processor } ∷ w.downs
  stopped : next.stopped ≡ w.stopped
  terminals : next.terminals ≡ w.terminals

same-mark : {node at processor other : ℕ} → MarkingDown node processor ≡ MarkingDown at other
    → (node ≡ at) × (processor ≡ other)
same-mark same = (cc, cc)

mark-is : {site : Site} {w next : World} {cause : Cause} {sendings : List Sending} → Change site w cause sendings next
    → (node processor : ℕ)
    → cause ≡ MarkingDown node processor
    → IsMark w next node processor
mark-is {w = w} (by_mark at other stopped runs new) node processor same =
    let is = same-mark same in
    record {
      down = subst (λ p. slice_get w.stopped p ≡ Some true) is.1 stopped;
      unmarked = rw (← is.0, ← is.1) new;
      downs = rw (is.0, is.1) refl;
      stopped = refl;
      terminals = refl;
    }
mark-is (by_own number k pair there role causes advances enters fr) node processor same =
    absurd (let one = causes-one causes in let none = ap acts_by same in cc)
mark-is (by_checkpoint number pair there passes) node processor same =
    absurd (let one = passes-one passes in let none = ap acts_by same in cc)
mark-is (by_request request k pair among there role) node processor same = absurd (cc)
mark-is (by_early_request request k pair among there role) node processor same = absurd (cc)
mark-is (by_enter number terminal opener there even next opens) node processor same = absurd (cc)
mark-is (by_print number terminal reply there odd among opens last) node processor same = absurd (cc)
mark-is (by_stop other runs whole) node processor same = absurd (cc)
mark-is (by_reload other stopped all counted less) node processor same = absurd (cc)

module _ (site : Site) (fit : IsFit site) (out : IsLaidOut site) (events later : ℕ) (post : Post)
    (good : IsGood site events post.world) (seated : AreSeated site post.world)
    (known : IsKnown site post) (served : AreServed site post) (node processor : ℕ) (sendings : List Sending)
    (next : World)
    (change : Change site post.world (MarkingDown node processor) sendings next) (after : IsGood site later next) where
  abbrev Sent : List Sending
  Sent = sendings ++ sent_again site post.world next node processor

  abbrev After : Post
  After = post_after_down site node processor sendings next post

  is : IsMark post.world next node processor
  is = mark-is change node processor refl

  turned : (number : ℕ) (now : Pair) → slice_get next.processes number ≡ Some now
      → Turned site post.world (MarkingDown node processor) sendings number now
  turned = change-turned site fit events post.world good known.honest.calm change tt

  -- Letters

  -- a letter neither from nor to the processor that is marked stays owed
  stays : (letter : Letter) → letter.sender ≢ processor → letter.receiver ≢ processor → IsAmong letter post.owed
      → IsAmong letter After.owed
  stays letter from to among =
      among-left letter (without_those_between node processor post.owed)
      (letters_of site next (sendings ++ sent_again site post.world next node processor))
      (filter-in (λ l. not (is_between node processor l)) letter post.owed
      (passes (letter.sender == processor) (apart letter.sender from) (letter.receiver == processor)
      (apart letter.receiver to)) among)
    where
      apart : (place : ℕ) → place ≢ processor → (place == processor) ≡ false
      apart place other = elim (eqb_tells place processor) [ inl same ↦ absurd (other same.1) | inr tells ↦ tells.0 ]

      passes : (from : Bool) → (letter.sender == processor) ≡ false → (to : Bool)
          → (letter.receiver == processor) ≡ false
          → not (is_between node processor letter) ≡ true
      passes from one to other = rw (one, other) (by (letter.sender == node))
        where
          by : (here : Bool) → not (here && false || false) ≡ true
          by true = refl
          by false = refl

  sent-owed : (from receiver : ℕ) (message : Message) → IsAmong (record { node = from; message = message }) Sent
      → receiver_of site next from message ≡ Some receiver
      → IsAmong (record { sender = from; receiver = receiver; message = message }) After.owed
  sent-owed from receiver message among to =
      among-right _ (without_those_between node processor post.owed) (letters_of site next Sent)
      (letter-in site next from receiver message Sent among to)

  -- Routes

  route-stays : (asker : ℕ) (before now : Pair) → SameSeats before now → now.led ≡ before.led
      → (node == asker && processor == led_at before) ≡ false
      → route_of next.downs asker now ≡ route_of post.world.downs asker before
  route-stays asker before now seats led other =
      ap (λ downs. route_of downs asker now) is.downs ∙ route-same
      (record { node = node; down = processor } ∷ post.world.downs) asker before now seats led ∙ rw other refl

  rerouted : (number : ℕ) (before : Pair) → slice_get post.world.processes number ≡ Some before
      → processor ≡ led_at before
      → is_rerouted post.world node processor number ≡ true
  rerouted number before there same =
      let new : has_marked post.world.downs node (led_at before) ≡ false =
      subst (λ p. has_marked post.world.downs node p ≡ false) same is.unmarked in
      rw (there, new, eq-eqb (led_at before) processor (sym same)) refl

  -- another node finds an opener where it did, and so does this one, unless the opener is found elsewhere
  home-was : (from asker : ℕ) (one : Who) → (from ≢ node) ⊎ (is_moved post.world node processor one ≡ false)
      → home_of next from one ≡ Some asker
      → home_of post.world from one ≡ Some asker
  home-was from asker one still = home-before post.world next from asker one (λ number file one_is now there.
      let was = turned number now there in (
        was.before,
        was.there,
        route-stays from was.before now (λ k. (was.goes k).0) was.led
            (other number file one_is was.before was.there),
      ))
    where
      and-false : (here : Bool) → (here && false) ≡ false
      and-false true = refl
      and-false false = refl

      other : (number file : ℕ) → one ≡ who.File number file → (before : Pair)
          → slice_get post.world.processes number ≡ Some before
          → (node == from && processor == led_at before) ≡ false
      other number file one_is before there = elim (eqb_tells node from) [
        | inr apart ↦ rw apart.0 refl
        | inl same ↦ elim (eqb_tells processor (led_at before)) [
          | inr apart ↦ rw apart.0 (and-false (node == from))
          | inl first ↦ elim still [
            | inl apart ↦ absurd (apart (sym same.1))
            | inr calm ↦ absurd (
                let moved : is_moved post.world node processor one ≡ true =
                rw one_is (rerouted number before there first.1) in
                let both : true ≡ false = sym moved ∙ calm in cc)
          ]
        ]
      ]

  module _ (asker : ℕ) (one : Who) (n : ℕ) (opener : Opener) (opens : opener_of site one ≡ Some opener)
      (old : IsAwaited site post.world asker one n) where
    told : (from : ℕ) (words : List ℤ) → IsAmong (record { node = from; message = Replying (reply_of opener n words) })
        Sent
        → IsTold After asker one opener n from words
    told from words among = elim (told-now site next from asker one opener n words Sent opens among) [
      | inl letter ↦ inl (among-right _ (without_those_between node processor post.owed) (letters_of site next Sent)
          letter)
      | inr away ↦ inr away
    ]

    -- a kept reply that was told stays so: the letter stays, or it is told again where the opener is found now
    carried : (pair now : Pair) (k : Which) (words : List ℤ) → slice_get post.world.processes opener.server ≡ Some pair
        → slice_get next.processes opener.server ≡ Some now
        → (copy_of k now).processor ≡ (copy_of k pair).processor → (copy_of k pair).role ≡ Acting
        → (copy_of k now).role ≡ Acting
        → standing_at (copy_of k now).core.receive opener.place n ≡ Kept words
        → IsTold post asker one opener n (copy_of k pair).processor words
        → IsTold After asker one opener n (copy_of k pair).processor words
    carried pair now k words there there_now seat acted acts kept (inl letter) =
        inl (stays _ (λ same. acting-runs site events post.world good opener.server pair k there acted
        (rw same is.down))
        (λ same. asker-runs site events post.world good out seated old (rw same is.down)) letter)
    carried pair now k words there there_now seat acted acts kept (inr away) =
        elim (eqb_tells (copy_of k pair).processor node) [
          | inr apart ↦ inr (λ home. away (home-was (copy_of k pair).processor asker one (inl apart.1) home))
          | inl here ↦ by here.1 (is_moved post.world node processor one) refl
        ]
      where
        by : (copy_of k pair).processor ≡ node → (moved : Bool) → is_moved post.world node processor one ≡ moved
            → IsTold After asker one opener n (copy_of k pair).processor words
        by here false calm = inr (λ home. away (home-was (copy_of k pair).processor asker one (inr calm) home))
        by here true moved =
            let opened = opener-is site one opener opens in
            let stands = kept-is (copy_of k now).core.receive opener.place n words kept in
            told (copy_of k pair).processor words (subst
            (λ p. IsAmong (record { node = p; message = Replying (reply_of opener n words) }) Sent) (sym here)
            (among-right _ sendings (sent_again site post.world next node processor)
            (reply-again site post.world next node processor opener n words now k opened.spec there_now acts
            (seat ∙ here) opened.placed
            (rw opened.same moved) stands
            (few-kept site fit later next after opener.server now k there_now acts opener.place opened.spec
            stands.block opened.placed stands.there))))

    leaves : (pair now : Pair) (k : Which) → slice_get post.world.processes opener.server ≡ Some pair
        → slice_get next.processes opener.server ≡ Some now
        → (copy_of k now).processor ≡ (copy_of k pair).processor
        → LeavesTold post After asker one opener n (MarkingDown node processor) sendings (copy_of k pair)
        (copy_of k now)
    leaves pair now k there there_now seat = record {
      carried = λ words acted acts kept was. carried pair now k words there there_now seat acted acts kept was;
      told = λ words among. told (copy_of k pair).processor words
          (among-left _ sendings (sent_again site post.world next node processor) among);
      low = λ block role at. awaited-low site fit events post.world good asker one n opener pair k opens there old role
          block at;
      heard = λ request block role same. absurd (cc);
      early = λ request role same. absurd (cc);
    }

    -- at the node that marks the request is sent again, where its route changes
    asked-again : IsAwaited site next asker one n → (before now : Pair)
        → slice_get post.world.processes opener.server ≡ Some before
        → slice_get next.processes opener.server ≡ Some now
        → node ≡ asker → processor ≡ led_at before → IsServed site After asker one n opener now
    asked-again awaited before now there there_now mine first = again awaited opens mine
      where
        owed : {asker : ℕ} {one : Who} {n : ℕ} (words : List ℤ) → node ≡ asker
            → IsAmong (record { node = node; message = Asking (request_of opener n words) })
            (sent_again site post.world next node processor)
            → IsServed site After asker one n opener now
        owed {asker = asker} {n = n} words mine among =
            is_owed words (sent-owed asker (route_of next.downs asker now) (Asking (request_of opener n words))
            (subst (λ p. IsAmong (record { node = p; message = Asking (request_of opener n words) }) Sent) mine
            (among-right _ sendings (sent_again site post.world next node processor) among))
            (rw there_now refl))

        again : {asker : ℕ} {one : Who} {n : ℕ} → IsAwaited site next asker one n → opener_of site one ≡ Some opener
            → node ≡ asker
            → IsServed site After asker one n opener now
        again (by_copy {number = number} {file = file} {n = n} pair k stood role at on last) opens mine =
            owed _ mine (copy-again site post.world next node processor number file n opener pair k stood role
            (sym mine) at on last opens
            (rerouted opener.server before there first))
        again (by_terminal {number = number} terminal stood odd) opens mine =
            let words = known.honest.entered number terminal
            (subst (λ ts. slice_get ts number ≡ Some terminal) is.terminals stood) (omega (arith, odd)) in
            owed words.0 mine (terminal-again site post.world next node processor number opener terminal words.0 stood
            mine odd words.1 opens
            (rerouted opener.server before there first))

  -- a mark leaves what is awaited served
  pub mark-served : AreServed site After
  mark-served asker one n opener now opens there awaited =
      by (awaited-before site fit events post.world good known.honest.calm change tt awaited)
    where
      was : Turned site post.world (MarkingDown node processor) sendings opener.server now
      was = turned opener.server now there

      route : (node == asker && processor == led_at was.before) ≡ false
          → route_of next.downs asker now ≡ route_of post.world.downs asker was.before
      route other = route-stays asker was.before now (λ k. (was.goes k).0) was.led other

      still : IsAwaited site post.world asker one n → (node == asker && processor == led_at was.before) ≡ false
          → IsServed site post asker one n opener was.before
          → IsServed site After asker one n opener now
      still old other (route_stopped rests) =
          route_stopped (rw (is.stopped, route other) rests)
      still old other (is_owed words letter) = elim (eqb_tells (route_of post.world.downs asker was.before) processor) [
        | inl to ↦ route_stopped (rw (is.stopped, route other, to.1)
            (rests-stopped post.world.stopped processor is.down))
        | inr apart ↦ is_owed words (rw (route other)
            (stays _ (λ same. asker-runs site events post.world good out seated old (rw same is.down)) apart.1 letter))
      ]
      still old other (is_seen k at has) =
          is_seen k ((was.goes k).0 ∙ at ∙ sym (route other))
          (turn-seen site post After asker one opener n (MarkingDown node processor) sendings (copy_of k was.before)
          (copy_of k now) (was.goes k).0
          (leaves asker one n opener opens old was.before now k was.there there (was.goes k).0) (was.goes k).1 has)

      either : IsAwaited site post.world asker one n → (test : Bool)
          → (node == asker && processor == led_at was.before) ≡ test
          → IsServed site After asker one n opener now
      either old true is =
          let both = both-true (node == asker) (processor == led_at was.before) is in
          asked-again asker one n opener opens old awaited was.before now was.there there (eqb-true node asker both.0)
          (eqb-true processor (led_at was.before) both.1)
      either old false is = still old is (served asker one n opener was.before opens was.there old)

      by : WasAwaited site post.world sendings asker one n → IsServed site After asker one n opener now
      by (was_awaited old) = either old (node == asker && processor == led_at was.before) refl
      by (is_asked words asks) =
          is_owed words (sent-owed asker (route_of next.downs asker now) (Asking (request_of opener n words))
          (among-left _ sendings (sent_again site post.world next node processor) (asks opener opens)) (rw there refl))
