use Rattle.std.proofs.Common.{◌≡◌, inl, ℕ, zero, suc, true, List, [], Some, slice_get, refl, subst}
use Rattle.tal_tree.specs.declared.site.Site.{Site}
use Rattle.schedule.specs.declared.bus_name.BusName.{BusName}
use Rattle.schedule.specs.declared.event.Event.TheVariants.{Deliver}
use Rattle.world_semantics.specs.declared.which.Which.TheVariants.{First}
use Rattle.world_semantics.specs.Follows.{IsIdleFor}
use Rattle.world_semantics.specs.Messages.{Asking, Sending, Cause, Handing, MarkingDown}
use Rattle.world_semantics.specs.Rules.{Change, by_own, by_checkpoint, by_request, by_early_request, by_enter, by_print}
use Rattle.world_semantics.specs.Rules.{by_stop, by_mark, by_reload}
use Rattle.world_semantics.specs.World.{World}
use Rattle.computed_changes.proofs.Causes.{IsOfCopies, own-causes, passes-causes}
use Rattle.letters.specs.Posts.{Post, IsTaken, takes_first, takes_later, PlaysEvent, plays_nothing, plays_hand}
use Rattle.letters.specs.Posts.{plays_drop, plays_again, plays_mark}
use Rattle.letters.specs.Routes.{Letter}
use Rattle.letter_guards.specs.Worlds.{site, bank_at, next_request, letter, owing}
use Rattle.letter_guards.proofs.posts.a_letter_that_is_taken_is_not_dropped.Goals as goal

-- a processor that is marked has stopped
marked-stopped : {site : Site} {w next : World} {cause : Cause} {sendings : List Sending}
    → Change site w cause sendings next → (node processor : ℕ)
    → cause ≡ MarkingDown node processor → slice_get w.stopped processor ≡ Some true
marked-stopped (by_own number k pair there role causes advances enters free) node processor same =
    absurd (subst IsOfCopies same (own-causes causes))
marked-stopped (by_checkpoint number pair there passes) node processor same =
    absurd (subst IsOfCopies same (passes-causes passes))
marked-stopped (by_request request k pair among there role) node processor same = absurd (cc)
marked-stopped (by_early_request request k pair among there role) node processor same = absurd (cc)
marked-stopped (by_enter number terminal opener there even next opens) node processor same = absurd (cc)
marked-stopped (by_print number terminal reply there odd among opens last) node processor same = absurd (cc)
marked-stopped (by_stop other runs whole) node processor same = absurd (cc)
marked-stopped {w = w} (by_mark at other stopped runs new) node processor same =
    subst (λ p. slice_get w.stopped p ≡ Some true) (other-is same) stopped
  where
    other-is : {at other node processor : ℕ} → MarkingDown at other ≡ MarkingDown node processor → other ≡ processor
    other-is same = cc
marked-stopped (by_reload other stopped marked counted less) node processor same = absurd (cc)

none-stopped : (processor : ℕ) → slice_get owing.world.stopped processor ≡ Some true → ⊥
none-stopped zero is = cc
none-stopped (suc zero) is = cc
none-stopped (suc (suc zero)) is = cc
none-stopped (suc (suc (suc zero))) is = cc
none-stopped (suc (suc (suc (suc processor)))) is = cc

-- the one letter that is owed is the one that is taken
only-letter : {one : Letter} {letters rest : List Letter} → IsTaken one letters rest → letters ≡ owing.owed
    → one ≡ letter 3 0 (Asking next_request)
only-letter takes_first same = cc
only-letter (takes_later takes_first) same = absurd (cc)
only-letter (takes_later (takes_later taken)) same = absurd (cc)

pub returns : goal.returns
returns c = λ bus k next plays gone. of plays gone
  where
    Handed : World → Type 0
    Handed next = (sendings : List Sending) × Change site owing.world (Handing 0 (Asking next_request)) sendings next

    of : {bus : BusName} {k : ℕ} {next : Post} → PlaysEvent site owing (Deliver bus k) next → next.owed ≡ []
        → Handed next.world
    of plays_nothing gone = absurd (cc)
    of (plays_hand {sendings = sendings} {next = w} one taken change) gone = (
      sendings,
      subst (λ (l : Letter). Change site owing.world (Handing l.receiver l.message) sendings w)
          (only-letter taken refl) change,
    )
    of (plays_drop one taken runs idle) gone =
        let none = subst (λ (l : Letter). IsIdleFor site owing.world (Handing l.receiver l.message))
        (only-letter taken refl) idle in
        absurd (none _ _ (by_request next_request First (bank_at 0) (inl refl) refl refl))
    of (plays_again one among change) gone = absurd (cc)
    of (plays_mark node processor change) gone =
        absurd (none-stopped processor (marked-stopped change node processor refl))
