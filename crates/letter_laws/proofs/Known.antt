-- All that is known of posts is kept from event to event.
use Rattle.std.proofs.Common.{◌≡◌, ◌≢◌, ◌==◌, ◌||◌, ◌<◌, inl, inr, ℕ, ◌+◌, Bool, true, false, not, if◌then◌else◌, List}
use Rattle.std.proofs.Common.{[], ◌++◌, Some, slice_get, refl, ap, sym, subst, ◌∙◌, arith, option_map}
use Rattle.std.proofs.lemmas.Bool.{eq-eqb}
use Rattle.gd_words.specs.Members.{IsAmong}
use Rattle.gd_words.specs.declared.message.Request.{Request}
use Rattle.gd_words.proofs.Among.{among-either}
use Rattle.tal_tree.specs.declared.site.ProcessSpec.{ProcessSpec}
use Rattle.tal_tree.specs.declared.site.Site.{Site}
use Rattle.schedule.specs.declared.event.Event.{Event}
use Rattle.world_semantics.specs.declared.role.Role.TheVariants.{Acting}
use Rattle.world_semantics.specs.declared.which.Which.{Which}
use Rattle.world_semantics.specs.declared.which.Which.TheVariants.{First, Second}
use Rattle.world_semantics.specs.Messages.{Message, Asking, Sending, Cause, Handing, Stopping, MarkingDown, Reloading}
use Rattle.world_semantics.specs.Rules.{Change}
use Rattle.world_semantics.specs.World.{Pair, World, boot, copy_of, other_of, has_marked, pair_at_boot, receives}
use Rattle.world_semantics.proofs.Becoming.{acting-gets-none, change-was}
use Rattle.world_semantics.proofs.Beginning.{all-begin}
use Rattle.world_semantics.proofs.Fair.{fair-of, run-fair}
use Rattle.world_semantics.proofs.Growing.{AreStopped}
use Rattle.world_semantics.proofs.Lists.{some-same}
use Rattle.world_semantics.proofs.Members.{among-filter}
use Rattle.world_semantics.proofs.Reached.{AllKept, Reloads, reload-needs, run-kept, survives}
use Rattle.world_semantics.proofs.Roles.{change-starts}
use Rattle.world_semantics.proofs.Steady.{OneStopped, marked-down}
use Rattle.awaited_requests.specs.takeover_laws.specs.Fit.{IsFit}
use Rattle.awaited_requests.specs.takeover_laws.proofs.Changing.{acts_by}
use Rattle.awaited_requests.specs.takeover_laws.proofs.Kept.{IsGood, change-good}
use Rattle.awaited_requests.specs.Seats.{IsSeated, AreSeated}
use Rattle.awaited_requests.proofs.Seats.{becomes-getting, placed-seats}
use Rattle.awaited_requests.specs.letters.proofs.Owed.{taken-there, rest-there}
use Rattle.awaited_requests.specs.letters.specs.Again.{sent_again}
use Rattle.awaited_requests.specs.letters.specs.Posts.{Post, post_at_boot, with_letters, after_change}
use Rattle.awaited_requests.specs.letters.specs.Posts.{without_those_between, post_after_down}
use Rattle.awaited_requests.specs.letters.specs.Posts.{MarksLetters, no_mark, one_mark, PlaysEvent, plays_run}
use Rattle.awaited_requests.specs.letters.specs.Posts.{plays_no_run, plays_enter}
use Rattle.awaited_requests.specs.letters.specs.Posts.{plays_no_enter, plays_nothing, plays_hand, plays_drop}
use Rattle.awaited_requests.specs.letters.specs.Posts.{plays_again, plays_mark}
use Rattle.awaited_requests.specs.letters.specs.Posts.{plays_loss, plays_repeat, plays_no_tick, plays_tick}
use Rattle.awaited_requests.specs.letters.specs.Posts.{plays_tick_stop, plays_fail}
use Rattle.awaited_requests.specs.letters.specs.Posts.{plays_no_fail, plays_reload, plays_no_reload, plays_drive}
use Rattle.awaited_requests.specs.letters.specs.Posts.{after_reloading}
use Rattle.awaited_requests.specs.letters.specs.Posts.{is_from_or_to}
use Rattle.awaited_requests.specs.letters.specs.Routes.{Letter, route_of, receiver_of, letters_of}
use Rattle.letter_laws.specs.Known.{HasAsker, IsEarly, AreEarly, IsKnown}
use Rattle.letter_laws.proofs.Again.{again-is}
use Rattle.letter_laws.proofs.Askers.{change-asker, again-asker}
use Rattle.letter_laws.proofs.Early.{becomes-there, becomes-waiting, becomes-reloaded, asker-stays}
use Rattle.letter_laws.proofs.Given.{letter-from}
use Rattle.letter_laws.proofs.Honest.{WereSent, honest-change, honest-mark, honest-stop, honest-reload, honest-owed}
use Rattle.letter_laws.proofs.Honest.{honest-begins}
use Rattle.letter_laws.proofs.Reached.{IsReached, stop-is}

-- a request that a change hands over was sent to this node
abbrev pub WasSentTo : Post → Cause → Type 0
WasSentTo post cause =
    (node : ℕ) (request : Request) → cause ≡ Handing node (Asking request)
    → (letter : Letter) × IsAmong letter post.sent × (letter.receiver ≡ node) × (letter.message ≡ Asking request)

-- no processor is loaded again
abbrev LoadsNone : Cause → Type 0
LoadsNone cause = (x : ℕ) → cause ≡ Reloading x → ⊥

-- a processor that has stopped stays so
stays-down : {site : Site} (w next : World) (cause : Cause) (sendings : List Sending)
    → Change site w cause sendings next → LoadsNone cause → (processor : ℕ)
    → slice_get w.stopped processor ≡ Some true → slice_get next.stopped processor ≡ Some true
stays-down w next cause sendings change loads processor down =
    elim (change-starts w next cause sendings change processor down) [
      | inl still ↦ still
      | inr again ↦ absurd (loads processor again)
    ]

-- a request came early still
early-stays : {site : Site} (w next : World) (cause : Cause) (sendings : List Sending)
    → Change site w cause sendings next → LoadsNone cause → OneStopped next.stopped
    → (k : Which) (request : Request) (server : Pair) → slice_get w.processes request.process ≡ Some server
    → IsEarly site w k request → IsEarly site next k request
early-stays {site = site} w next cause sendings change loads one k request server there early = record {
  stopped = λ now at.
      (let was = change-was w next cause sendings change request.process now at in
      rw (becomes-there (was.copies (other_of k))) (stays-down w next cause sendings change loads
      (copy_of (other_of k) was.before).processor (early.stopped was.before was.there)));
  asker = asker-stays w next cause sendings change no_stop loads request early.asker;
}
  where
    no_stop : (processor : ℕ) → cause ≡ Stopping processor → ⊥
    no_stop processor stops =
        let new = stop-is w next processor sendings (subst (λ c. Change site w c sendings next) stops change) in
        let other : ℕ = (copy_of (other_of k) server).processor in
        let old = early.stopped server there in
        let same = one processor other new.stopped (stays-down w next cause sendings change loads other old) in
        let both : Some false ≡ Some true = sym new.ran ∙ ap (slice_get w.stopped) same ∙ old in cc

-- where the route of a node leads to a copy that watches or is blank, the other one's processor has stopped
route-down : (w : World) (node : ℕ) (pair : Pair) (k : Which) → AreStopped w → IsSeated w.stopped w.downs pair
    → receives (copy_of k pair).role ≡ true → route_of w.downs node pair ≡ (copy_of k pair).processor
    → slice_get w.stopped (copy_of (other_of k) pair).processor ≡ Some true
route-down w node pair k stopped seat gets route = by pair.led refl k gets route
  where
    leads : (l : Which) → pair.led ≡ l → receives (copy_of l pair).role ≡ true → ⊥
    leads l led got =
        let none : receives (copy_of l pair).role ≡ false =
        subst (λ m. receives (copy_of m pair).role ≡ false) led seat.leads in
        let both = sym got ∙ none in cc

    -- the node goes from the copy that leads to the other one
    turned : (l : Which) (other : ℕ) → (other ≡ (copy_of l pair).processor → ⊥)
        → (if has_marked w.downs node (copy_of l pair).processor then other else (copy_of l pair).processor) ≡ other
        → slice_get w.stopped (copy_of l pair).processor ≡ Some true
    turned l other apart = told (has_marked w.downs node (copy_of l pair).processor) refl
      where
        told : (b : Bool) → has_marked w.downs node (copy_of l pair).processor ≡ b
            → (if b then other else (copy_of l pair).processor) ≡ other
            → slice_get w.stopped (copy_of l pair).processor ≡ Some true
        told true is_marked is = marked-down w.stopped w.downs node (copy_of l pair).processor stopped is_marked
        told false is_marked is = absurd (apart (sym is))

    by : (l : Which) → pair.led ≡ l → (m : Which) → receives (copy_of m pair).role ≡ true
        → route_of w.downs node pair ≡ (copy_of m pair).processor
        → slice_get w.stopped (copy_of (other_of m) pair).processor ≡ Some true
    by First led First got is = absurd (leads First led got)
    by Second led Second got is = absurd (leads Second led got)
    by First led Second got is =
        turned First pair.second.processor (λ same. seat.apart (sym same))
        (subst (λ l. (if has_marked w.downs node (copy_of l pair).processor then (copy_of (other_of l) pair).processor
        else (copy_of l pair).processor) ≡ pair.second.processor) led is)
    by Second led First got is =
        turned Second pair.first.processor seat.apart
        (subst (λ l. (if has_marked w.downs node (copy_of l pair).processor then (copy_of (other_of l) pair).processor
        else (copy_of l pair).processor) ≡ pair.first.processor) led is)

module _ (site : Site) (fit : IsFit site) where
  world-seats : (w : World) → IsReached site w → AreSeated site w
  world-seats w (events, run) = placed-seats site events w fit.seats run

  -- a letter with a request that goes to a copy that watches or is blank
  letter-early : (w : World) (sendings : List Sending) → AreStopped w → AreSeated site w
      → ((sending : Sending) (request : Request) → IsAmong sending sendings → sending.message ≡ Asking request
      → HasAsker site w request)
      → (letter : Letter) (request : Request) (pair : Pair) (k : Which) → IsAmong letter (letters_of site w sendings)
      → letter.message ≡ Asking request
      → slice_get w.processes request.process ≡ Some pair → letter.receiver ≡ (copy_of k pair).processor
      → receives (copy_of k pair).role ≡ true → IsEarly site w k request
  letter-early w sendings stopped seated askers letter request pair k among message there at gets =
      let from = letter-from site w sendings letter among in
      let asking : from.sending.message ≡ Asking request = sym from.message ∙ message in
      let found : receiver_of site w from.sending.node (Asking request) ≡ Some letter.receiver =
      subst (λ m. receiver_of site w from.sending.node m ≡ Some letter.receiver) asking from.receiver in
      let route : route_of w.downs from.sending.node pair ≡ letter.receiver =
      some-same (subst (λ o. option_map (λ (p : Pair). route_of w.downs from.sending.node p) o ≡ Some letter.receiver)
      there found) in
      let down = route-down w from.sending.node pair k stopped (seated.pairs request.process pair there) gets
      (route ∙ at) in
      record {
        stopped = λ other known. subst (λ (p : Pair). slice_get w.stopped (copy_of (other_of k) p).processor
            ≡ Some true) (some-same (sym there ∙ known)) down;
        asker = askers from.sending request from.among asking;
      }

  early-step : (later : ℕ) (post : Post) (next : World) (owed : List Letter) (cause : Cause)
      (sendings all : List Sending) → IsGood site later next → AreSeated site next → AreEarly site post
      → Change site post.world cause sendings next → LoadsNone cause
      → ((sending : Sending) (request : Request) → IsAmong sending all → sending.message ≡ Asking request
      → HasAsker site next request) → WasSentTo post cause
      → AreEarly site (with_letters (letters_of site next all) (record post { world = next; owed = owed }))
  early-step later post next owed cause sendings all after seated early change loads askers handed = record {
    sent = λ letter request pair k among message there at gets.
        elim (among-either letter (letters_of site next all) post.sent among) [
          | inl new ↦ letter-early next all after.stopped seated askers letter request pair k new message there at gets
          | inr old ↦ old-early letter request pair k old message there at gets
        ];
    waiting = waits-early;
  }
    where
      old-early : (letter : Letter) (request : Request) (pair : Pair) (k : Which) → IsAmong letter post.sent
          → letter.message ≡ Asking request
          → slice_get next.processes request.process ≡ Some pair → letter.receiver ≡ (copy_of k pair).processor
          → receives (copy_of k pair).role ≡ true → IsEarly site next k request
      old-early letter request pair k among message there at gets =
          let was = change-was post.world next cause sendings change request.process pair there in
          early-stays post.world next cause sendings change loads after.steady.one k request was.before was.there
          (early.sent letter request was.before k among message was.there (at ∙ becomes-there (was.copies k))
          (becomes-getting (was.copies k) loads gets))

      waits-early : (number : ℕ) (pair : Pair) (k : Which) (request : Request)
          → slice_get next.processes number ≡ Some pair → receives (copy_of k pair).role ≡ true
          → IsAmong request (copy_of k pair).waiting → IsEarly site next k request
      waits-early number pair k request there gets among =
          let was = change-was post.world next cause sendings change number pair there in
          let got = becomes-getting (was.copies k) loads gets in
          let server : request.process ≡ number =
          ((after.invariant.processes number pair there).2.waiting k request among).0 in
          let known : slice_get post.world.processes request.process ≡ Some was.before =
          ap (slice_get post.world.processes) server ∙ was.there in
          early-stays post.world next cause sendings change loads after.steady.one k request was.before known
          (elim (becomes-waiting (was.copies k) gets request among) [
            | inl waited ↦ early.waiting number was.before k request was.there got waited
            | inr comes ↦ (let sent = handed (copy_of k was.before).processor request comes in
                early.sent sent.0 request was.before k sent.1 sent.3 known sent.2 got)
          ])

  early-owed : (post : Post) (owed : List Letter) → AreEarly site post → AreEarly site (record post { owed = owed })
  early-owed post owed early = record { sent = early.sent; waiting = early.waiting }

  -- with other letters owed that were sent
  pub known-owed : (post : Post) (owed : List Letter) → IsKnown site post → WereSent post owed
      → IsKnown site (record post { owed = owed })
  known-owed post owed known within =
      record { honest = honest-owed site fit post owed known.honest within; early = early-owed post owed known.early }

  -- one change that is neither a mark nor a reload
  pub known-change : (events later : ℕ) (post : Post) (next : World) (owed : List Letter) (cause : Cause)
      (sendings : List Sending) → IsGood site events post.world → IsGood site later next → IsKnown site post
      → WereSent post owed → Change site post.world cause sendings next → LoadsNone cause → WasSentTo post cause
      → IsKnown site (after_change site sendings next (record post { owed = owed }))
  known-change events later post next owed cause sendings good after known within change loads handed =
      let honest = honest-change site fit events post next owed cause sendings good known.honest within change in
      record {
        honest = honest;
        early = early-step later post next owed cause sendings sendings after (world-seats next honest.reached)
            known.early change loads (change-asker site fit.regular events post.world good next cause sendings change)
            handed;
      }

  pub known-stop : (events later : ℕ) (post : Post) (next : World) (processor : ℕ) → IsGood site events post.world
      → IsGood site later next → IsKnown site post → Change site post.world (Stopping processor) [] next
      → IsKnown site (record post { world = next })
  known-stop events later post next processor good after known change =
      let honest = honest-stop site fit events post next (Stopping processor) good known.honest change in
      record {
        honest = honest;
        early = early-owed (with_letters [] (record post { world = next })) post.owed
            (early-step later post next post.owed (Stopping processor) [] [] after (world-seats next honest.reached)
            known.early change (λ x is. cc) (λ sending request none. absurd none) (λ node request same. absurd (cc)));
      }

  pub known-mark : (events later : ℕ) (post : Post) (next : World) (node processor : ℕ) (sendings : List Sending)
      → IsGood site events post.world → IsGood site later next → IsKnown site post
      → Change site post.world (MarkingDown node processor) sendings next
      → IsKnown site (post_after_down site node processor sendings next post)
  known-mark events later post next node processor sendings good after known change =
      let honest = honest-mark site fit events later post next node processor sendings good after known.honest change in
      record {
        honest = honest;
        early = early-step later post next (without_those_between node processor post.owed)
            (MarkingDown node processor) sendings
            (sendings ++ sent_again site post.world next node processor) after (world-seats next honest.reached)
            known.early change (λ x is. cc)
            (λ sending request among asks. elim (among-either sending sendings
            (sent_again site post.world next node processor) among) [
              | inl new ↦ change-asker site fit.regular events post.world good next (MarkingDown node processor)
                  sendings change sending request new asks
              | inr again ↦ again-asker site fit.regular later next after sending.message request
                  (again-is site post.world next node processor sending again) asks
            ])
            (λ at request same. absurd (cc));
      }

  -- Reloads

  -- where all have marked a processor and the other copy's has stopped, a copy acts
  acts-alone : (w : World) (x : ℕ) → AllKept site w → Reloads w x → (number : ℕ) (pair : Pair) (k : Which)
      → slice_get w.processes number ≡ Some pair
      → slice_get w.stopped (copy_of (other_of k) pair).processor ≡ Some true → (copy_of k pair).role ≡ Acting
  acts-alone w x kept loads number pair First there down =
      ((survives site fit.seats w kept x loads number pair there).1
      (eq-eqb pair.second.processor x (kept.steady.one pair.second.processor x down loads.down))).0
  acts-alone w x kept loads number pair Second there down =
      ((survives site fit.seats w kept x loads number pair there).0
      (eq-eqb pair.first.processor x (kept.steady.one pair.first.processor x down loads.down))).0

  -- a letter that stays isn't to the processor
  not-to : (x : ℕ) (letter : Letter) → not (is_from_or_to x letter) ≡ true → letter.receiver ≢ x
  not-to x letter stays here = by (letter.sender == x) (eq-eqb letter.receiver x here) stays
    where
      by : (from : Bool) → (letter.receiver == x) ≡ true → not (from || letter.receiver == x) ≡ true → ⊥
      by true to stays = cc
      by false to stays = let same = ap not to in let both = sym same ∙ stays in cc

  -- no early request is left at a reload: each copy that watched one in the processor has taken over
  early-reload : (post : Post) (next : World) (x : ℕ) → IsReached site post.world → AreEarly site post
      → Change site post.world (Reloading x) [] next → AreEarly site (after_reloading x next post)
  early-reload post next x (events, run) early change = record {
    sent = λ letter request pair k among message there at gets.
        (let both = among-filter letter (λ l. not (is_from_or_to x l)) post.sent among in
        let was = change-was post.world next (Reloading x) [] change request.process pair there in
        elim (becomes-reloaded x (was.copies k) refl gets) [
          | inl blank ↦ absurd (not-to x letter both.1 (at ∙ blank.0))
          | inr got ↦ absurd (none-early request.process was.before k request was.there got.0
              ((early.sent letter request was.before k both.0 message was.there (at ∙ becomes-there (was.copies k))
              got.0).stopped was.before was.there))
        ]);
    waiting = λ number pair k request there gets among.
        (let was = change-was post.world next (Reloading x) [] change number pair there in
        elim (becomes-reloaded x (was.copies k) refl gets) [
          | inl blank ↦ absurd (subst (IsAmong request) blank.1 among)
          | inr got ↦ (let waited = subst (IsAmong request) got.1 among in
              absurd (none-early number was.before k request was.there got.0
              ((early.waiting number was.before k request was.there got.0 waited).stopped was.before
              (server number was.before k request was.there waited))))
        ]);
  }
    where
      kept : AllKept site post.world
      kept = run-kept fit.seats run

      loads : Reloads post.world x
      loads = reload-needs post.world next (Reloading x) [] change x refl

      none-early : (number : ℕ) (pair : Pair) (k : Which) (request : Request)
          → slice_get post.world.processes number ≡ Some pair → receives (copy_of k pair).role ≡ true
          → slice_get post.world.stopped (copy_of (other_of k) pair).processor ≡ Some true → ⊥
      none-early number pair k request there gets down =
          acting-gets-none _ (acts-alone post.world x kept loads number pair k there down) gets

      -- what waits at a process is for it
      server : (number : ℕ) (pair : Pair) (k : Which) (request : Request)
          → slice_get post.world.processes number ≡ Some pair → IsAmong request (copy_of k pair).waiting
          → slice_get post.world.processes request.process ≡ Some pair
      server number pair k request there among =
          ap (slice_get post.world.processes)
          ((fair-of number post.world.replies k pair (run-fair run number pair there)).waiting request among) ∙ there

  pub known-reload : (events later : ℕ) (post : Post) (next : World) (processor : ℕ) → IsGood site events post.world
      → IsGood site later next → IsKnown site post → Change site post.world (Reloading processor) [] next
      → IsKnown site (after_reloading processor next post)
  known-reload events later post next processor good after known change = record {
    honest = honest-reload site fit events post next processor good known.honest change;
    early = early-reload post next processor known.honest.reached known.early change;
  }

  pub known-begins : IsKnown site (post_at_boot site)
  known-begins = record {
    honest = honest-begins site fit;
    early = record {
      sent = λ letter request pair k none. absurd none;
      waiting = λ number pair k request there gets among. absurd (none-waits number pair k request there among);
    };
  }
    where
      none-first : (from : ℕ) (spec : ProcessSpec) (k : Which) (request : Request)
          → IsAmong request (copy_of k (pair_at_boot site from spec)).waiting → ⊥
      none-first from spec First request none = none
      none-first from spec Second request none = none

      none-waits : (number : ℕ) (pair : Pair) (k : Which) (request : Request)
          → slice_get (boot site).processes number ≡ Some pair → IsAmong request (copy_of k pair).waiting → ⊥
      none-waits number pair k request there =
          all-begin (λ n p. (k : Which) (request : Request) → IsAmong request (copy_of k p).waiting → ⊥) site
          (λ n from spec. none-first from spec) number pair there k request

  -- Events

  handing-same : {node at : ℕ} {one other : Message} → Handing node one ≡ Handing at other → (node ≡ at) × (one ≡ other)
  handing-same same = (cc, cc)

  -- the letter that is handed over was sent
  letter-sent : (post : Post) (letter : Letter) → IsAmong letter post.sent
      → WasSentTo post (Handing letter.receiver letter.message)
  letter-sent post letter among node request same = let both = handing-same same in (letter, among, both.0, both.1)

  downs-known : {node : ℕ} (events : ℕ) {post end : Post} → events < 4294967295 → IsGood site events post.world
      → IsKnown site post → MarksLetters site node post end → IsKnown site end
  downs-known events low good known no_mark = known
  downs-known {node = node} events {post = post} low good known
      (one_mark {sendings = sendings} {next = next} processor change more) =
      let after = change-good site fit events post.world next (MarkingDown node processor) sendings low good change in
      let same : events + 0 ≡ events = omega arith in
      downs-known (events + 0) (subst (λ n. n < 4294967295) (sym same) low) after
      (known-mark events (events + 0) post next node processor sendings good after known change) more

  -- one change of an event, whatever becomes of what is owed
  event-known : (events : ℕ) (post : Post) (next : World) (owed : List Letter) (cause : Cause)
      (sendings : List Sending) → events < 4294967295
      → IsGood site events post.world → IsKnown site post
      → WereSent post owed → Change site post.world cause sendings next → LoadsNone cause
      → WasSentTo post cause → IsKnown site (after_change site sendings next (record post { owed = owed }))
  event-known events post next owed cause sendings low good known within change loads handed =
      known-change events (events + acts_by cause) post next owed cause sendings good
      (change-good site fit events post.world next cause sendings low good change) known within change loads handed

  stop-known : (events : ℕ) (post : Post) (next : World) (processor : ℕ) → events < 4294967295
      → IsGood site events post.world → IsKnown site post → Change site post.world (Stopping processor) [] next
      → IsKnown site (record post { world = next })
  stop-known events post next processor low good known change =
      known-stop events (events + 0) post next processor good
      (change-good site fit events post.world next (Stopping processor) [] low good change) known change

  -- each event keeps what is known
  pub known-plays : (events : ℕ) (post next : Post) (event : Event) → events < 4294967295
      → IsGood site events post.world → IsKnown site post → PlaysEvent site post event next → IsKnown site next
  known-plays events post next event low good known (plays_run {sendings = sendings} {next = w} change) =
      event-known events post w post.owed _ sendings low good known known.honest.owed change (λ x is. cc)
      (λ node request same. absurd (cc))
  known-plays events post next event low good known (plays_no_run idle) = known
  known-plays events post next event low good known (plays_enter {sendings = sendings} {next = w} change) =
      event-known events post w post.owed _ sendings low good known known.honest.owed change (λ x is. cc)
      (λ node request same. absurd (cc))
  known-plays events post next event low good known (plays_no_enter idle) = known
  known-plays events post next event low good known plays_nothing = known
  known-plays events post next event low good known
      (plays_hand {sendings = sendings} {next = w} {rest = rest} letter taken change) =
      event-known events post w rest _ sendings low good known
      (λ other among. known.honest.owed other (rest-there other taken among)) change (λ x is. cc)
      (letter-sent post letter (known.honest.owed letter (taken-there taken)))
  known-plays events post next event low good known (plays_drop {rest = rest} letter taken running idle) =
      known-owed post rest known (λ other among. known.honest.owed other (rest-there other taken among))
  known-plays events post next event low good known
      (plays_again {sendings = sendings} {next = w} letter among change) =
      event-known events post w post.owed _ sendings low good known known.honest.owed change (λ x is. cc)
      (letter-sent post letter among)
  known-plays events post next event low good known
      (plays_mark {sendings = sendings} {next = w} node processor change) =
      known-mark events (events + 0) post w node processor sendings good
      (change-good site fit events post.world w (MarkingDown node processor) sendings low good change) known change
  known-plays events post next event low good known plays_loss = known
  known-plays events post next event low good known plays_repeat = known
  known-plays events post next event low good known plays_drive = known
  known-plays events post next event low good known plays_no_tick = known
  known-plays events post next event low good known (plays_tick running downs) = downs-known events low good known downs
  known-plays events post next event low good known
      (plays_tick_stop {between = between} processor running other change downs) =
      let after = change-good site fit events post.world between (Stopping processor) [] low good change in
      let same : events + 0 ≡ events = omega arith in
      downs-known (events + 0) (subst (λ n. n < 4294967295) (sym same) low) after
      (stop-known events post between processor low good known change) downs
  known-plays events post next event low good known (plays_fail {processor = processor} {next = w} change) =
      stop-known events post w processor low good known change
  known-plays events post next event low good known (plays_no_fail idle) = known
  known-plays events post next event low good known (plays_reload {processor = processor} {next = w} change) =
      known-reload events (events + 0) post w processor good
      (change-good site fit events post.world w (Reloading processor) [] low good change) known change
  known-plays events post next event low good known (plays_no_reload idle) = known
