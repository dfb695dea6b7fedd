-- What is done to posts is done to their worlds as well.
use Rattle.std.proofs.Common.{List, [], ◌∷◌, ◌++◌}
use Rattle.world_semantics.specs.tal_tree.specs.declared.site.Site.{Site}
use Rattle.schedule.specs.declared.event.Event.{Event}
use Rattle.world_semantics.specs.Follows.{Follows, MarksDowns, marks_none, marks_one, Leads, stays, goes_on, IsRun}
use Rattle.world_semantics.specs.Follows as follows
use Rattle.world_semantics.specs.Messages.{Sending}
use Rattle.world_semantics.specs.World.{World}
use Rattle.letters.specs.Posts.{Post, MarksLetters, no_mark, one_mark, PlaysEvent, plays_run, plays_no_run, plays_enter}
use Rattle.letters.specs.Posts.{plays_no_enter, plays_nothing, plays_hand, plays_drop, plays_again, plays_mark}
use Rattle.letters.specs.Posts.{plays_loss, plays_repeat, plays_no_tick, plays_tick, plays_tick_stop, plays_fail}
use Rattle.letters.specs.Posts.{plays_drive, plays_no_fail, HasPlayed, played_none, played_more, plays_no_reload}
use Rattle.letters.specs.Posts.{plays_reload}

-- what an event permits in a world leads to another one
abbrev pub Permits : Site → World → Event → World → Type 0
Permits site w event next = (sendings : List Sending) × Follows site w event sendings next

downs-made : {site : Site} {node : _} {post next : Post} → MarksLetters site node post next
    → (sendings : List Sending) × MarksDowns site node post.world sendings next.world
downs-made no_mark = ([], marks_none)
downs-made (one_mark {sendings = sendings} processor change more) =
    let rest = downs-made more in (sendings ++ rest.0, marks_one processor change rest.1)

pub plays-permits : {site : Site} {post next : Post} {event : Event} → PlaysEvent site post event next
    → Permits site post.world event next.world
plays-permits (plays_run change) = (_, follows.runs change)
plays-permits (plays_no_run idle) = ([], follows.cannot_run idle)
plays-permits (plays_enter change) = (_, follows.enters change)
plays-permits (plays_no_enter idle) = ([], follows.cannot_enter idle)
plays-permits plays_nothing = ([], follows.delivers_none)
plays-permits (plays_hand letter taken change) = (_, follows.delivers letter.receiver letter.message change)
plays-permits (plays_drop letter taken running idle) = ([], follows.delivers_none)
plays-permits (plays_again letter among change) = (_, follows.delivers letter.receiver letter.message change)
plays-permits (plays_mark node processor change) = (_, follows.delivers_mark node processor change)
plays-permits plays_loss = ([], follows.loses)
plays-permits plays_repeat = ([], follows.doubles)
plays-permits plays_drive = ([], follows.turns_drive)
plays-permits plays_no_tick = ([], follows.ticks_none)
plays-permits (plays_tick running downs) = let made = downs-made downs in (made.0, follows.ticks running made.1)
plays-permits (plays_tick_stop processor running other change downs) =
    let made = downs-made downs in (made.0, follows.ticks_stop processor running other change made.1)
plays-permits (plays_fail change) = ([], follows.fails change)
plays-permits (plays_no_fail idle) = ([], follows.cannot_fail idle)
plays-permits (plays_reload change) = ([], follows.reloads change)
plays-permits (plays_no_reload idle) = ([], follows.cannot_reload idle)

pub leads-on : {site : Site} {w between end : World} {events : List Event} {event : Event} {sendings : List Sending}
    → Leads site w events between
    → Follows site between event sendings end → Leads site w (events ++ event ∷ []) end
leads-on stays follows = goes_on follows stays
leads-on (goes_on first more) follows = goes_on first (leads-on more follows)

pub played-run : {site : Site} {events : List Event} {post : Post} → HasPlayed site events post
    → IsRun site events post.world
played-run played_none = stays
played-run (played_more before plays) = leads-on (played-run before) (plays-permits plays).1
