-- Posts are honest, however many processors stop.
use Rattle.std.proofs.Common.{◌<◌, ◌≤◌, inl, inr, ℕ, ◌+◌, Bool, not, List, [], ◌∷◌, ◌++◌, length, sym, subst, arith}
use Rattle.std.proofs.Common.{length-append}
use Rattle.gd_words.specs.Members.{IsAmong}
use Rattle.gd_words.proofs.Among.{among-left, among-right, among-either}
use Rattle.tal_tree.specs.declared.site.Site.{Site}
use Rattle.schedule.specs.declared.event.Event.{Event}
use Rattle.world_semantics.specs.Follows.{stays}
use Rattle.world_semantics.specs.Messages.{Message, Sending, Cause, Running, Entering, Handing, Stopping, MarkingDown}
use Rattle.world_semantics.specs.Messages.{Reloading}
use Rattle.world_semantics.specs.Rules.{Change}
use Rattle.world_semantics.specs.World.{World}
use Rattle.world_semantics.proofs.Fair.{fair-of, run-fair}
use Rattle.world_semantics.proofs.Members.{among-filter}
use Rattle.world_semantics.proofs.Roles.{roles-begin}
use Rattle.world_semantics.proofs.Sendings.{run-sends}
use Rattle.world_semantics.proofs.Steady.{seats-begin, steady-begins}
use Rattle.awaited_requests.specs.takeover_laws.specs.Fit.{IsFit}
use Rattle.awaited_requests.specs.takeover_laws.proofs.Beginning.{beginning-keeps}
use Rattle.awaited_requests.specs.takeover_laws.proofs.Changing.{acts_by}
use Rattle.awaited_requests.specs.takeover_laws.proofs.Kept.{IsGood, change-good}
use Rattle.computed_changes.specs.Laws.{IsSent}
use Rattle.computed_changes.proofs.Reached.{run-sent}
use Rattle.awaited_requests.specs.letters.proofs.Owed.{filter-among, rest-there}
use Rattle.awaited_requests.specs.letters.specs.Again.{sent_again}
use Rattle.awaited_requests.specs.letters.specs.Posts.{Post, post_at_boot, with_letters, after_change}
use Rattle.awaited_requests.specs.letters.specs.Posts.{without_those_between, post_after_down}
use Rattle.awaited_requests.specs.letters.specs.Posts.{MarksLetters, no_mark, one_mark, PlaysEvent, plays_run}
use Rattle.awaited_requests.specs.letters.specs.Posts.{plays_no_run, plays_enter}
use Rattle.awaited_requests.specs.letters.specs.Posts.{plays_no_enter, plays_nothing, plays_hand, plays_drop}
use Rattle.awaited_requests.specs.letters.specs.Posts.{plays_again, plays_mark}
use Rattle.awaited_requests.specs.letters.specs.Posts.{plays_loss, plays_repeat, plays_no_tick, plays_tick}
use Rattle.awaited_requests.specs.letters.specs.Posts.{plays_tick_stop, plays_fail}
use Rattle.awaited_requests.specs.letters.specs.Posts.{plays_drive}
use Rattle.awaited_requests.specs.letters.specs.Posts.{plays_no_fail, plays_reload, plays_no_reload, after_reloading}
use Rattle.awaited_requests.specs.letters.specs.Posts.{is_from_or_to}
use Rattle.awaited_requests.specs.letters.specs.Posts.{HasPlayed, played_none, played_more}
use Rattle.awaited_requests.specs.letters.specs.Routes.{Letter, letters_of}
use Rattle.letter_laws.specs.Known.{IsHonest, AwaitedWereSent}
use Rattle.letter_laws.proofs.Again.{IsAgain, by_copy, by_terminal, by_keeping, again-is}
use Rattle.letter_laws.proofs.Asked.{change-awaited, awaited-begins}
use Rattle.letter_laws.proofs.Awaited.{acting-done}
use Rattle.letter_laws.proofs.Calm.{change-calm, calm-begins}
use Rattle.letter_laws.proofs.Entered.{change-entered, entered-begins}
use Rattle.letter_laws.proofs.Files.{change-files, files-begin}
use Rattle.letter_laws.proofs.Given.{letter-from}
use Rattle.letter_laws.proofs.Reached.{IsReached, change-reached}
use Rattle.letter_laws.proofs.Replies.{kept-sent}
use Rattle.letter_laws.proofs.Sent.{sent-stays}

-- these letters were sent
abbrev pub WereSent : Post → List Letter → Type 0
WereSent post letters = (letter : Letter) → IsAmong letter letters → IsAmong letter post.sent

-- what is sent again was sent
again-sent : (site : Site) (events : ℕ) (w : World) → IsGood site events w → IsReached site w → AwaitedWereSent site w
    → (message : Message) → IsAgain site w message
    → IsSent w message
again-sent site events w good reached awaited message (by_copy number pair k request there role among is) =
    subst (IsSent w) (sym is) (awaited.copies number pair k request there role among)
again-sent site events w good reached awaited message (by_terminal number terminal request there among is) =
    subst (IsSent w) (sym is) (awaited.terminals number terminal request there among)
again-sent site events w good reached awaited message
    (by_keeping number pair k place opener reply there role known among is) =
    let has = acting-done site events w good number pair k there role in
    let fair = fair-of number w.replies k pair (run-fair reached.1 number pair there) in
    subst (IsSent w) (sym is) (kept-sent has.done w.replies fair.core.kept place opener known reply among)

module _ (site : Site) (fit : IsFit site) where
  -- what a change sends was sent
  sends-sent : (w next : World) (cause : Cause) (sendings : List Sending) → Change site w cause sendings next
      → IsReached site w → (sending : Sending)
      → IsAmong sending sendings → IsSent next sending.message
  sends-sent w next cause sendings change reached sending among =
      run-sent next sending.message (change-reached w next cause sendings change reached).1
      (run-sends reached.1 next cause sendings change sending among)

  -- a change of the world with the letters of what was sent
  letters-honest : (events : ℕ) (post : Post) (next : World) (owed : List Letter) (cause : Cause)
      (sendings all : List Sending) → IsGood site events post.world
      → IsHonest site post → WereSent post owed → Change site post.world cause sendings next
      → ((sending : Sending) → IsAmong sending all → IsSent next sending.message)
      → IsHonest site (with_letters (letters_of site next all) (record post { world = next; owed = owed }))
  letters-honest events post next owed cause sendings all good honest within change were = record {
    reached = change-reached post.world next cause sendings change honest.reached;
    owed = λ letter among. elim (among-either letter owed (letters_of site next all) among) [
      | inl old ↦ among-right letter (letters_of site next all) post.sent (within letter old)
      | inr new ↦ among-left letter (letters_of site next all) post.sent new
    ];
    letters = λ letter among. elim (among-either letter (letters_of site next all) post.sent among) [
      | inl new ↦ (let from = letter-from site next all letter new in
          subst (IsSent next) (sym from.message) (were from.sending from.among))
      | inr old ↦ sent-stays post.world next cause sendings change letter.message (honest.letters letter old)
    ];
    calm = change-calm post.world next cause sendings change good.seated honest.calm;
    entered = change-entered post.world next cause sendings change honest.entered;
    awaited = change-awaited site fit.regular events post.world good honest.calm honest.awaited next cause sendings
        change;
    files = change-files site fit.regular events post.world good honest.files next cause sendings change;
  }

  pub honest-change : (events : ℕ) (post : Post) (next : World) (owed : List Letter) (cause : Cause)
      (sendings : List Sending) → IsGood site events post.world
      → IsHonest site post → WereSent post owed → Change site post.world cause sendings next
      → IsHonest site (after_change site sendings next (record post { owed = owed }))
  honest-change events post next owed cause sendings good honest within change =
      letters-honest events post next owed cause sendings sendings good honest within change
      (sends-sent post.world next cause sendings change honest.reached)

  pub honest-mark : (events later : ℕ) (post : Post) (next : World) (node processor : ℕ) (sendings : List Sending)
      → IsGood site events post.world → IsGood site later next
      → IsHonest site post → Change site post.world (MarkingDown node processor) sendings next
      → IsHonest site (post_after_down site node processor sendings next post)
  honest-mark events later post next node processor sendings good after honest change =
      letters-honest events post next (without_those_between node processor post.owed) (MarkingDown node processor)
      sendings
      (sendings ++ sent_again site post.world next node processor) good honest
      (λ letter among. honest.owed letter (among-filter letter _ post.owed among).0) change
      (λ sending among. elim (among-either sending sendings (sent_again site post.world next node processor) among) [
        | inl new ↦ sends-sent post.world next (MarkingDown node processor) sendings change honest.reached sending new
        | inr again ↦ again-sent site later next after reached awaited sending.message
            (again-is site post.world next node processor sending again)
      ])
    where
      reached : IsReached site next
      reached = change-reached post.world next (MarkingDown node processor) sendings change honest.reached

      awaited : AwaitedWereSent site next
      awaited = change-awaited site fit.regular events post.world good honest.calm honest.awaited next
          (MarkingDown node processor) sendings change

  -- with other letters owed that were sent
  pub honest-owed : (post : Post) (owed : List Letter) → IsHonest site post → WereSent post owed
      → IsHonest site (record post { owed = owed })
  honest-owed post owed honest within =
      record {
        reached = honest.reached;
        owed = within;
        letters = honest.letters;
        calm = honest.calm;
        entered = honest.entered;
        awaited = honest.awaited;
        files = honest.files;
      }

  -- a change by which nothing is sent
  pub honest-stop : (events : ℕ) (post : Post) (next : World) (cause : Cause) → IsGood site events post.world
      → IsHonest site post → Change site post.world cause [] next
      → IsHonest site (record post { world = next })
  honest-stop events post next cause good honest change =
      honest-owed (with_letters [] (record post { world = next })) post.owed
      (letters-honest events post next post.owed cause [] [] good honest honest.owed change
      (λ sending none. absurd none)) honest.owed

  -- a processor is loaded again
  pub honest-reload : (events : ℕ) (post : Post) (next : World) (processor : ℕ) → IsGood site events post.world
      → IsHonest site post → Change site post.world (Reloading processor) [] next
      → IsHonest site (after_reloading processor next post)
  honest-reload events post next processor good honest change =
      let all = honest-stop events post next (Reloading processor) good honest change in
      record {
        reached = all.reached;
        owed = λ letter among. (let both = among-filter letter stays_there post.owed among in
            filter-among letter stays_there post.sent (honest.owed letter both.0) both.1);
        letters = λ letter among. all.letters letter (among-filter letter stays_there post.sent among).0;
        calm = all.calm;
        entered = all.entered;
        awaited = all.awaited;
        files = all.files;
      }
    where
      stays_there : Letter → Bool
      stays_there letter = not (is_from_or_to processor letter)

  pub honest-begins : IsHonest site (post_at_boot site)
  honest-begins = record {
    reached = ([], stays);
    owed = λ letter none. absurd none;
    letters = λ letter none. absurd none;
    calm = calm-begins site;
    entered = entered-begins site;
    awaited = awaited-begins site;
    files = files-begin site;
  }

  -- Events

  -- a post is honest, and its world is good after so many events at most
  record IsSound (most : ℕ) (post : Post) : Type 0 where
    pub events : ℕ
    pub few : events ≤ most
    pub good : IsGood site events post.world
    pub honest : IsHonest site post

  sound-more : (most more : ℕ) (post : Post) → most ≤ more → IsSound most post → IsSound more post
  sound-more most more post less sound = record {
    events = sound.events;
    few = (let few = sound.few in omega (arith, few, less));
    good = sound.good;
    honest = sound.honest;
  }

  acts-most : (cause : Cause) → acts_by cause ≤ 1
  acts-most (Running number) = omega arith
  acts-most (Entering number) = omega arith
  acts-most (Handing node message) = omega arith
  acts-most (Stopping processor) = omega arith
  acts-most (MarkingDown node processor) = omega arith
  acts-most (Reloading processor) = omega arith

  change-sound : (most : ℕ) (post : Post) (next : World) (owed : List Letter) (cause : Cause) (sendings : List Sending)
      → most < 4294967295 → IsSound most post
      → WereSent post owed → Change site post.world cause sendings next
      → IsSound (most + 1) (after_change site sendings next (record post { owed = owed }))
  change-sound most post next owed cause sendings low sound within change =
      let few = sound.few in
      let one = acts-most cause in
      record {
        events = sound.events + acts_by cause;
        few = omega (arith, few, one);
        good = change-good site fit sound.events post.world next cause sendings (omega (arith, few, low)) sound.good
            change;
        honest = honest-change sound.events post next owed cause sendings sound.good sound.honest within change;
      }

  stop-sound : (most : ℕ) (post : Post) (next : World) (processor : ℕ) → most < 4294967295 → IsSound most post
      → Change site post.world (Stopping processor) [] next
      → IsSound most (record post { world = next })
  stop-sound most post next processor low sound change =
      let few = sound.few in
      record {
        events = sound.events + 0;
        few = omega (arith, few);
        good = change-good site fit sound.events post.world next (Stopping processor) [] (omega (arith, few, low))
            sound.good change;
        honest = honest-stop sound.events post next (Stopping processor) sound.good sound.honest change;
      }

  reload-sound : (most : ℕ) (post : Post) (next : World) (processor : ℕ) → most < 4294967295 → IsSound most post
      → Change site post.world (Reloading processor) [] next
      → IsSound most (after_reloading processor next post)
  reload-sound most post next processor low sound change =
      let few = sound.few in
      record {
        events = sound.events + 0;
        few = omega (arith, few);
        good = change-good site fit sound.events post.world next (Reloading processor) [] (omega (arith, few, low))
            sound.good change;
        honest = honest-reload sound.events post next processor sound.good sound.honest change;
      }

  mark-sound : (most : ℕ) (post : Post) (next : World) (node processor : ℕ) (sendings : List Sending)
      → most < 4294967295 → IsSound most post
      → Change site post.world (MarkingDown node processor) sendings next
      → IsSound most (post_after_down site node processor sendings next post)
  mark-sound most post next node processor sendings low sound change =
      let few = sound.few in
      let after = change-good site fit sound.events post.world next (MarkingDown node processor) sendings
      (omega (arith, few, low)) sound.good change in
      record {
        events = sound.events + 0;
        few = omega (arith, few);
        good = after;
        honest = honest-mark sound.events (sound.events + 0) post next node processor sendings sound.good after
            sound.honest change;
      }

  downs-sound : (most : ℕ) {node : ℕ} {post end : Post} → most < 4294967295 → IsSound most post
      → MarksLetters site node post end → IsSound most end
  downs-sound most low sound no_mark = sound
  downs-sound most {node = node} {post = post} low sound
      (one_mark {sendings = sendings} {next = next} processor change more) =
      downs-sound most low (mark-sound most post next node processor sendings low sound change) more

  owed-sound : (most : ℕ) (post : Post) (owed : List Letter) → IsSound most post → WereSent post owed
      → IsSound most (record post { owed = owed })
  owed-sound most post owed sound within =
      record {
        events = sound.events;
        few = sound.few;
        good = sound.good;
        honest = honest-owed post owed sound.honest within;
      }

  plays-sound : (most : ℕ) {event : Event} (post next : Post) → most < 4294967295 → IsSound most post
      → PlaysEvent site post event next → IsSound (most + 1) next
  plays-sound most post next low sound (plays_run {sendings = sendings} {next = w} change) =
      change-sound most post w post.owed _ sendings low sound sound.honest.owed change
  plays-sound most post next low sound (plays_no_run idle) = sound-more most (most + 1) post (omega arith) sound
  plays-sound most post next low sound (plays_enter {sendings = sendings} {next = w} change) =
      change-sound most post w post.owed _ sendings low sound sound.honest.owed change
  plays-sound most post next low sound (plays_no_enter idle) = sound-more most (most + 1) post (omega arith) sound
  plays-sound most post next low sound plays_nothing = sound-more most (most + 1) post (omega arith) sound
  plays-sound most post next low sound (plays_hand {sendings = sendings} {next = w} {rest = rest} letter taken change) =
      change-sound most post w rest _ sendings low sound
      (λ other among. sound.honest.owed other (rest-there other taken among)) change
  plays-sound most post next low sound (plays_drop {rest = rest} letter taken running idle) =
      sound-more most (most + 1) _ (omega arith)
      (owed-sound most post rest sound (λ other among. sound.honest.owed other (rest-there other taken among)))
  plays-sound most post next low sound (plays_again {sendings = sendings} {next = w} letter among change) =
      change-sound most post w post.owed _ sendings low sound sound.honest.owed change
  plays-sound most post next low sound (plays_mark {sendings = sendings} {next = w} node processor change) =
      sound-more most (most + 1) _ (omega arith) (mark-sound most post w node processor sendings low sound change)
  plays-sound most post next low sound plays_loss = sound-more most (most + 1) post (omega arith) sound
  plays-sound most post next low sound plays_repeat = sound-more most (most + 1) post (omega arith) sound
  plays-sound most post next low sound plays_drive = sound-more most (most + 1) post (omega arith) sound
  plays-sound most post next low sound plays_no_tick = sound-more most (most + 1) post (omega arith) sound
  plays-sound most post next low sound (plays_tick running downs) =
      sound-more most (most + 1) next (omega arith) (downs-sound most low sound downs)
  plays-sound most post next low sound (plays_tick_stop {between = between} processor running other change downs) =
      sound-more most (most + 1) next (omega arith)
      (downs-sound most low (stop-sound most post between processor low sound change) downs)
  plays-sound most post next low sound (plays_fail {processor = processor} {next = w} change) =
      sound-more most (most + 1) _ (omega arith) (stop-sound most post w processor low sound change)
  plays-sound most post next low sound (plays_no_fail idle) = sound-more most (most + 1) post (omega arith) sound
  plays-sound most post next low sound (plays_reload {processor = processor} {next = w} change) =
      sound-more most (most + 1) _ (omega arith) (reload-sound most post w processor low sound change)
  plays-sound most post next low sound (plays_no_reload idle) = sound-more most (most + 1) post (omega arith) sound

  begins-sound : IsSound 0 (post_at_boot site)
  begins-sound = record {
    events = 0;
    few = omega arith;
    good = record {
      roles = roles-begin site;
      stopped = λ mark none. absurd none;
      steady = steady-begins site;
      seated = seats-begin site;
      invariant = beginning-keeps site;
    };
    honest = honest-begins;
  }

  played-sound : {events : List Event} {post : Post} → length events < 4294967296 → HasPlayed site events post
      → IsSound (length events) post
  played-sound low played_none = begins-sound
  played-sound low (played_more {event = event} {events = events} {post = post} {next = next} before plays) =
      let one = length-append events (event ∷ []) in
      sound-more (length events + 1) (length (events ++ event ∷ [])) next (omega (arith, one))
      (plays-sound (length events) post next (omega (arith, low, one)) (played-sound (omega (arith, low, one)) before)
      plays)

  -- each post that is played is honest
  pub played-honest : (events : List Event) (post : Post) → length events < 4294967296 → HasPlayed site events post
      → IsHonest site post
  played-honest events post low played = (played-sound low played).honest
