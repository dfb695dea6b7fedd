-- What is so of each post to which events lead.
use Rattle.std.proofs.Common.{◌≡◌, ◌<◌, ℕ, ◌+◌, List, [], ◌∷◌, ◌++◌, length, arith, length-append}
use Rattle.tal_tree.specs.declared.site.Site.{Site}
use Rattle.schedule.specs.declared.event.Event.{Event}
use Rattle.world_semantics.proofs.Reached.{run-kept}
use Rattle.letters.specs.Posts.{Post, HasPlayed, played_none, played_more}
use Rattle.letters.proofs.Worlds.{played-run}
use Rattle.accepted_sites.specs.takeover_laws.specs.Fit.{IsFit}
use Rattle.accepted_sites.specs.takeover_laws.proofs.Kept.{IsGood, run-keeps}
use Rattle.served_requests.specs.awaited_requests.specs.Seats.{IsLaidOut}
use Rattle.served_requests.specs.awaited_requests.specs.Served.{AreServed}
use Rattle.served_requests.specs.letter_laws.specs.Known.{IsKnown}
use Rattle.served_requests.specs.letter_laws.proofs.Known.{known-begins, known-plays}
use Rattle.served_requests.proofs.Played.{served-begins, plays-served}

-- a post is sound: its world keeps the invariant, and all is known of its letters by which every awaited request is
-- served
pub record IsSoundPost (site : Site) (events : ℕ) (post : Post) : Type 0 where
  pub good : IsGood site events post.world
  pub known : IsKnown site post
  pub served : AreServed site post

module _ (site : Site) (fit : IsFit site) (out : IsLaidOut site) where
  played-good : {events : List Event} {post : Post} → length events < 4294967296 → HasPlayed site events post
      → IsGood site (length events) post.world
  played-good {events = events} {post = post} few played =
      let run = played-run played in
      let kept = run-kept fit.seats run in
      record {
        roles = kept.roles;
        stopped = kept.downs;
        steady = kept.steady;
        seated = kept.seated;
        invariant = run-keeps site fit events post.world few run;
      }

  pub played-sound : {events : List Event} {post : Post} → length events < 4294967295 → HasPlayed site events post
      → IsSoundPost site (length events) post
  played-sound few played_none = record {
    good = played-good (omega (arith, few)) played_none;
    known = known-begins site fit;
    served = served-begins site;
  }
  played-sound few (played_more {event = event} {events = events} {post = post} {next = next} played plays) =
      let count : length (events ++ event ∷ []) ≡ length events + 1 = length-append events (event ∷ []) in
      let was = played-sound (omega (arith, few, count)) played in
      record {
        good = played-good (omega (arith, few)) (played_more played plays);
        known = known-plays site fit (length events) post next event (omega (arith, few, count)) was.good was.known
            plays;
        served = plays-served site fit out (length events) post next event (omega (arith, few, count)) was.good
            was.known was.served plays;
      }
