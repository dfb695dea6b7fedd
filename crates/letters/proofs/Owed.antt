-- What is owed was sent.
use Rattle.std.proofs.Common.{◌≡◌, inl, inr, ℕ, List, ◌∷◌, refl, Bool, [], ap, cond, false, not, sym, true, ◌∙◌}
use Rattle.std.specs.List.{filter}
use Rattle.world_semantics.specs.gd_words.specs.Members.{IsAmong}
use Rattle.world_semantics.specs.gd_words.proofs.Among.{among-left, among-right, among-either}
use Rattle.world_semantics.specs.tal_tree.specs.declared.site.Site.{Site}
use Rattle.schedule.specs.declared.event.Event.{Event}
use Rattle.world_semantics.proofs.Members.{among-filter}
use Rattle.letters.specs.Posts.{Post, with_letters, without_those_between, IsTaken, takes_first, takes_later}
use Rattle.letters.specs.Posts.{MarksLetters, no_mark, one_mark, PlaysEvent, plays_run, plays_no_run, plays_enter}
use Rattle.letters.specs.Posts.{plays_no_enter, plays_nothing, plays_hand, plays_drop, plays_again, plays_mark}
use Rattle.letters.specs.Posts.{plays_loss, plays_repeat, plays_no_tick, plays_tick, plays_tick_stop, plays_fail}
use Rattle.letters.specs.Posts.{plays_drive, plays_no_fail, HasPlayed, played_none, played_more, is_from_or_to}
use Rattle.letters.specs.Posts.{plays_no_reload}
use Rattle.letters.specs.Posts.{plays_reload}
use Rattle.letters.specs.Routes.{Letter}

-- all that is owed was sent
abbrev pub OwedWasSent : Post → Type 0
OwedWasSent post = (letter : Letter) → IsAmong letter post.owed → IsAmong letter post.sent

letters-sent : (letters : List Letter) (post : Post) → OwedWasSent post → OwedWasSent (with_letters letters post)
letters-sent letters post all letter among = elim (among-either letter post.owed letters among) [
  | inl before ↦ among-right letter letters post.sent (all letter before)
  | inr now ↦ among-left letter letters post.sent now
]

-- a letter that is taken was there, and so was what remains
pub taken-there : {letter : Letter} {letters rest : List Letter} → IsTaken letter letters rest → IsAmong letter letters
taken-there takes_first = inl refl
taken-there (takes_later later) = inr (taken-there later)

pub rest-there : {letter : Letter} {letters rest : List Letter} (other : Letter) → IsTaken letter letters rest
    → IsAmong other rest → IsAmong other letters
rest-there other takes_first among = inr among
rest-there other (takes_later later) (inl same) = inl same
rest-there other (takes_later later) (inr among) = inr (rest-there other later among)

-- what passes a test stays
pub filter-among : {A : Type 0} (x : A) (test : A → Bool) (xs : List A) → IsAmong x xs → test x ≡ true
    → IsAmong x (filter test xs)
filter-among x test [] i t = absurd i
filter-among x test (y ∷ xs) (inl same) t = let is : test y ≡ true = ap test (sym same) ∙ t in rw is (inl same)
filter-among x test (y ∷ xs) (inr i) t = by (test y) (filter-among x test xs i t)
  where
    by : (b : Bool) → IsAmong x (filter test xs) → IsAmong x (cond b (y ∷ filter test xs) (filter test xs))
    by true j = inr j
    by false j = j

downs-sent : {site : Site} {node : ℕ} {post next : Post} → OwedWasSent post → MarksLetters site node post next
    → OwedWasSent next
downs-sent all no_mark = all
downs-sent {node = node} {post = post} all (one_mark {next = next} processor change more) =
    downs-sent (letters-sent _ (record post { world = next; owed = without_those_between node processor post.owed })
    (λ letter among. all letter (among-filter letter _ post.owed among).0)) more

plays-sent : {site : Site} {post next : Post} {event : Event} → OwedWasSent post → PlaysEvent site post event next
    → OwedWasSent next
plays-sent {post = post} all (plays_run {next = next} change) = letters-sent _ (record post { world = next }) all
plays-sent all (plays_no_run idle) = all
plays-sent {post = post} all (plays_enter {next = next} change) = letters-sent _ (record post { world = next }) all
plays-sent all (plays_no_enter idle) = all
plays-sent all plays_nothing = all
plays-sent {post = post} all (plays_hand {next = next} {rest = rest} letter taken change) =
    letters-sent _ (record post { world = next; owed = rest }) (λ other among. all other (rest-there other taken among))
plays-sent all (plays_drop letter taken running idle) = λ other among. all other (rest-there other taken among)
plays-sent {post = post} all (plays_again {next = next} letter among change) =
    letters-sent _ (record post { world = next }) all
plays-sent {post = post} all (plays_mark {next = next} node processor change) =
    letters-sent _ (record post { world = next; owed = without_those_between node processor post.owed })
    (λ letter among. all letter (among-filter letter _ post.owed among).0)
plays-sent all plays_loss = all
plays-sent all plays_repeat = all
plays-sent all plays_drive = all
plays-sent all plays_no_tick = all
plays-sent all (plays_tick running downs) = downs-sent all downs
plays-sent all (plays_tick_stop processor running other change downs) =
    downs-sent (λ letter among. all letter among) downs
plays-sent all (plays_fail change) = all
plays-sent all (plays_no_fail idle) = all
plays-sent {post = post} all (plays_reload {processor = x} change) = λ letter among.
    (let both = among-filter letter (λ l. not (is_from_or_to x l)) post.owed among in
    filter-among letter (λ l. not (is_from_or_to x l)) post.sent (all letter both.0) both.1)
plays-sent all (plays_no_reload idle) = all

pub played-sent : {site : Site} {events : List Event} {post : Post} → HasPlayed site events post → OwedWasSent post
played-sent played_none = λ letter among. absurd among
played-sent (played_more before plays) = plays-sent (played-sent before) plays
