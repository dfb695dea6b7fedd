-- Posts: a world with its letters. What each event of a schedule does to both together, said once for machines of whole
-- messages and of packets.
use Rattle.std.specs.Prelude.{◌≡◌, ◌≢◌, ℕ, Bool, true, not, List, [], ◌∷◌, ◌++◌, Some, false, slice_get, ◌==◌, ◌||◌}
use Rattle.std.specs.List.{filter}
use Rattle.world_semantics.specs.gd_words.specs.Members.{IsAmong}
use Rattle.world_semantics.specs.tal_tree.specs.declared.site.Site.{Site}
use Rattle.schedule.specs.declared.bus_name.BusName.{BusName}
use Rattle.schedule.specs.declared.event.DriveEvent.{DriveEvent}
use Rattle.schedule.specs.declared.event.Event.{Event}
use Rattle.schedule.specs.declared.event.Event.TheVariants.{Run, Enter, Deliver, Lose, Repeat, Tick, Fail, Drive}
use Rattle.schedule.specs.declared.event.Event.TheVariants.{Reload}
use Rattle.world_semantics.specs.World.{World, boot, is_running}
use Rattle.world_semantics.specs.Messages.{Sending, Running, Entering, Handing, Stopping, MarkingDown, Reloading}
use Rattle.world_semantics.specs.Rules.{Change}
use Rattle.world_semantics.specs.Follows.{IsIdleFor}
use Rattle.letters.specs.Routes.{Letter, is_between, letters_of}
use Rattle.letters.specs.Again.{sent_again}

-- a world, the letters that are owed: sent and not yet handed over, the oldest first, and all letters that were sent
-- and may come, in whatever order: those from a processor and to it go when it is loaded again
pub record Post : Type 0 where
  pub world : World
  pub owed : List Letter
  pub sent : List Letter

-- at the beginning nothing is owed
abbrev pub post_at_boot : Site → Post
post_at_boot site = record { world = boot site; owed = []; sent = [] }

-- the post after letters were sent
abbrev pub with_letters : List Letter → Post → Post
with_letters letters post = record post { owed = post.owed ++ letters; sent = letters ++ post.sent }

-- the post after its world changed: what was sent is owed, by the routes of the world after the change
abbrev pub after_change : Site → List Sending → World → Post → Post
after_change site sendings next post = with_letters (letters_of site next sendings) (record post { world = next })

abbrev pub without_those_between : ℕ → ℕ → List Letter → List Letter
without_those_between one other letters = filter (λ letter. not (is_between one other letter)) letters

-- the post after a node marked a processor: what was owed between both is so no more, and what the mark sends and sends
-- again is owed
abbrev pub post_after_down : Site → ℕ → ℕ → List Sending → World → Post → Post
post_after_down site node processor sendings next post =
    with_letters (letters_of site next (sendings ++ sent_again site post.world next node processor))
    (record post { world = next; owed = without_those_between node processor post.owed })

-- whether a letter is from a node or to it
abbrev pub is_from_or_to : ℕ → Letter → Bool
is_from_or_to node letter = letter.sender == node || letter.receiver == node

abbrev pub without_those_of : ℕ → List Letter → List Letter
without_those_of node letters = filter (λ letter. not (is_from_or_to node letter)) letters

-- the post after a processor was loaded again: what was sent from it or to it before is never handed over any more
abbrev pub after_reloading : ℕ → World → Post → Post
after_reloading processor next post = record {
  world = next;
  owed = without_those_of processor post.owed;
  sent = without_those_of processor post.sent;
}

-- a letter and the others of a list, in their order
pub data IsTaken (letter : Letter) : List Letter → List Letter → Type 0 where
  takes_first : {rest : List Letter} → IsTaken letter (letter ∷ rest) rest
  takes_later : {other : Letter} {letters rest : List Letter} → IsTaken letter letters rest
      → IsTaken letter (other ∷ letters) (other ∷ rest)

-- any number of marks that a node makes, one after the other
pub data MarksLetters (site : Site) (node : ℕ) : Post → Post → Type 0 where
  no_mark : {post : Post} → MarksLetters site node post post
  one_mark : {post end : Post} {sendings : List Sending} {next : World} → (processor : ℕ)
      → Change site post.world (MarkingDown node processor) sendings next
      → MarksLetters site node (post_after_down site node processor sendings next post) end
      → MarksLetters site node post end

-- what an event does to a post. A process runs or a terminal enters where it can. A delivery does nothing; or hands
-- over a letter that is owed at its receiver, or drops it there where it changes nothing; or hands over once more one
-- that was ever sent; or makes one mark. A loss or a repeat does nothing: what is lost stays owed. The tick of a node
-- that runs stops at most one other processor and then makes marks. A processor stops if it hasn't stopped. And a
-- processor is loaded again, where it can
pub data PlaysEvent (site : Site) (post : Post) : Event → Post → Type 0 where
  plays_run : {number : ℕ} {sendings : List Sending} {next : World}
      → Change site post.world (Running number) sendings next
      → PlaysEvent site post (Run number) (after_change site sendings next post)
  plays_no_run : {number : ℕ} → IsIdleFor site post.world (Running number) → PlaysEvent site post (Run number) post
  plays_enter : {number : ℕ} {sendings : List Sending} {next : World}
      → Change site post.world (Entering number) sendings next
      → PlaysEvent site post (Enter number) (after_change site sendings next post)
  plays_no_enter : {number : ℕ} → IsIdleFor site post.world (Entering number) → PlaysEvent site post (Enter number) post
  plays_nothing : {bus : BusName} {k : ℕ} → PlaysEvent site post (Deliver bus k) post
  plays_hand : {bus : BusName} {k : ℕ} {sendings : List Sending} {next : World} {rest : List Letter} → (letter : Letter)
      → IsTaken letter post.owed rest
      → Change site post.world (Handing letter.receiver letter.message) sendings next
      → PlaysEvent site post (Deliver bus k) (after_change site sendings next (record post { owed = rest }))
  plays_drop : {bus : BusName} {k : ℕ} {rest : List Letter} → (letter : Letter) → IsTaken letter post.owed rest
      → is_running post.world.stopped letter.receiver ≡ true
      → IsIdleFor site post.world (Handing letter.receiver letter.message)
      → PlaysEvent site post (Deliver bus k) (record post { owed = rest })
  plays_again : {bus : BusName} {k : ℕ} {sendings : List Sending} {next : World} → (letter : Letter)
      → IsAmong letter post.sent
      → Change site post.world (Handing letter.receiver letter.message) sendings next
      → PlaysEvent site post (Deliver bus k) (after_change site sendings next post)
  plays_mark : {bus : BusName} {k : ℕ} {sendings : List Sending} {next : World} → (node processor : ℕ)
      → Change site post.world (MarkingDown node processor) sendings next
      → PlaysEvent site post (Deliver bus k) (post_after_down site node processor sendings next post)
  plays_loss : {bus : BusName} {k : ℕ} → PlaysEvent site post (Lose bus k) post
  plays_repeat : {bus : BusName} {k : ℕ} → PlaysEvent site post (Repeat bus k) post
  plays_no_tick : {node : ℕ} → PlaysEvent site post (Tick node) post
  plays_tick : {node : ℕ} {next : Post} → is_running post.world.stopped node ≡ true → MarksLetters site node post next
      → PlaysEvent site post (Tick node) next
  plays_tick_stop : {node : ℕ} {between : World} {next : Post} → (processor : ℕ)
      → is_running post.world.stopped node ≡ true → processor ≢ node
      → Change site post.world (Stopping processor) [] between
      → MarksLetters site node (record post { world = between }) next
      → PlaysEvent site post (Tick node) next
  plays_fail : {processor : ℕ} {next : World} → Change site post.world (Stopping processor) [] next
      → PlaysEvent site post (Fail processor) (record post { world = next })
  plays_no_fail : {processor : ℕ} → slice_get post.world.stopped processor ≢ Some false
      → PlaysEvent site post (Fail processor) post
  plays_reload : {processor : ℕ} {next : World} → Change site post.world (Reloading processor) [] next
      → PlaysEvent site post (Reload processor) (after_reloading processor next post)
  plays_no_reload : {processor : ℕ} → IsIdleFor site post.world (Reloading processor)
      → PlaysEvent site post (Reload processor) post
  plays_drive : {event : DriveEvent} → PlaysEvent site post (Drive event) post

-- events, one after the other, lead from the beginning to a post
pub data HasPlayed (site : Site) : List Event → Post → Type 0 where
  played_none : HasPlayed site [] (post_at_boot site)
  played_more : {event : Event} {events : List Event} {post next : Post} → HasPlayed site events post
      → PlaysEvent site post event next
      → HasPlayed site (events ++ event ∷ []) next
