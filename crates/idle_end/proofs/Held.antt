-- Copies that hold acts at an idle end have ended: a copy that holds acts has a request in hand and awaits no reply,
-- and nothing else is left to do.
use Rattle.std.proofs.Common.{◌≡◌, ◌≢◌, ℕ, true, List, [], ◌++◌, Some, is_some, slice_get, refl, ap, ◌∙◌, subst}
use Rattle.tal_tree.specs.declared.act.Act.{Act}
use Rattle.tal_tree.specs.declared.site.Site.{Site}
use Rattle.tal_tree.specs.declared.site.ProcessSpec.{ProcessSpec}
use Rattle.process_semantics.specs.declared.point.Point.{Point}
use Rattle.process_semantics.specs.declared.point.Point.TheVariants as point
use Rattle.process_semantics.specs.Process as process
use Rattle.plain_semantics.specs.Machine.{Made, PlainProcess, step_at, step_made}
use Rattle.whole_states.proofs.Hands.{inner-hand, took-hand}
use Rattle.world_semantics.specs.declared.which.Which.{Which}
use Rattle.world_semantics.specs.declared.which.Which.TheVariants.{First, Second}
use Rattle.world_semantics.specs.Core.{Core, Deed, Got, goes, gets, takes}
use Rattle.world_semantics.specs.World.{Pair, copy_of, other_of}
use Rattle.process_histories.specs.Histories.{HasDone, one_more}
use Rattle.process_histories.proofs.Counts.{done-stands, take-free}
use Rattle.process_histories.proofs.Deeds.{done-one}
use Rattle.plain_histories.specs.Booking.{AreHeld, none_held, take_held, step_held}
use Rattle.plain_histories.specs.Ledgers.{Ledger}
use Rattle.awaited_requests.specs.takeover_laws.proofs.Own.{quiet-held}
use Rattle.letters.specs.Posts.{Post}
use Rattle.idle_end.proofs.Closed.{IsClosed, is-closed}
use Rattle.idle_end.proofs.Closing.{CanClose}
use Rattle.idle_end.proofs.Ends.{IsEnd, who_acts}
use Rattle.idle_end.proofs.Lacking.{copy-done}
use Rattle.idle_end.proofs.Resting.{can-close}
use Rattle.idle_end.proofs.Still.{none-stepped}

-- nothing is done there but by what others bring
abbrev IsAtRest : Point → Type 0
IsAtRest point.Take = Unit {0}
IsAtRest point.Await = Unit {0}
IsAtRest point.Ended = Unit {0}
IsAtRest _ = ⊥

-- a process that holds acts has a request in hand
held-hand : {site : Site} {ledger : Ledger} {number : ℕ} {spec : ProcessSpec} {acts : List Act} {more : List Deed}
    (before : List Deed) {core : Core}
    → AreHeld site ledger number acts more → acts ≢ [] → HasDone site number spec (more ++ before) core
    → process.in_hand core.state ≡ true
held-hand before none_held some done = absurd (some refl)
held-hand before (take_held waits) some (one_more {before = last} done (takes {words = words} block at known)) =
    took-hand last.state words at
held-hand before (step_held held) some (one_more {before = last} done (goes at)) =
    inner-hand last.state ∙ held-hand before held (λ e. absurd (cc)) done

module _ {site : Site} {events : ℕ} {post : Post} (end : IsEnd site events post) where
  module _ (all : IsClosed site post end.good.invariant.ledger) where
    -- a copy that acts could make each other step
    rests : (number : ℕ) (pair : Pair) → slice_get post.world.processes number ≡ Some pair
        → IsAtRest (process.point (copy_of (who_acts pair) pair).core.state)
    rests number pair there = by (process.point (copy_of (who_acts pair) pair).core.state) refl
      where
        none : (p : Point) → process.point (copy_of (who_acts pair) pair).core.state ≡ p → (one : PlainProcess)
            → slice_get all.plain.processes number ≡ Some one
            → one.state ≡ (copy_of (who_acts pair) pair).core.state → (m : Made)
            → step_at site number one all.plain p ≡ Some m → ⊥
        none p at one found same m makes =
            none-stepped end all number m
            (ap (step_made site number all.plain) found
            ∙ ap (step_at site number one all.plain) (ap process.point same ∙ at) ∙ makes)

        one : PlainProcess
        one = (all.agrees.processes number (end.good.invariant.processes number pair there).0
            (end.good.invariant.processes number pair there).1).0

        found : slice_get all.plain.processes number ≡ Some one
        found = (all.agrees.processes number (end.good.invariant.processes number pair there).0
            (end.good.invariant.processes number pair there).1).1

        same : one.state ≡ (copy_of (who_acts pair) pair).core.state
        same =
            let was = end.good.invariant.processes number pair there in
            let its = all.agrees.processes number was.0 was.1 in
            its.2.state ∙ ap (λ (c : Core). c.state)
            (done-one its.2.done (copy-done end all number was.0 pair was.1 there))

        by : (p : Point) → process.point (copy_of (who_acts pair) pair).core.state ≡ p → IsAtRest p
        by point.Take at = tt
        by point.Await at = tt
        by point.Ended at = tt
        by point.Inner at = none point.Inner at one found same _ refl
        by point.Ask at = none point.Ask at one found same _ refl
        by point.Answer at = none point.Answer at one found same _ refl
        by point.AtCheckpoint at = none point.AtCheckpoint at one found same _ refl
        by point.Device at = none point.Device at one found same _ refl

  -- where it holds acts it is at READUPDATE no more than it awaits a reply
  acting-ended : (number : ℕ) (pair : Pair) → slice_get post.world.processes number ≡ Some pair
      → (copy_of (who_acts pair) pair).held ≢ []
      → process.point (copy_of (who_acts pair) pair).core.state ≡ point.Ended
  acting-ended number pair there some =
      by (process.point (copy_of (who_acts pair) pair).core.state) refl (rests (is-closed end) number pair there)
    where
      can : CanClose site end.good.invariant.ledger number pair (who_acts pair)
      can = can-close end number pair there

      by : (p : Point) → process.point (copy_of (who_acts pair) pair).core.state ≡ p → IsAtRest p
          → process.point (copy_of (who_acts pair) pair).core.state ≡ point.Ended
      by point.Ended at rest = at
      by point.Take at rest =
          let hand = held-hand (end.good.invariant.ledger.deeds number) can.held some can.done in
          let free = ap is_some (take-free can.done at) in
          let stands = (done-stands can.done).hand in absurd (cc)
      by point.Await at rest =
          let quiet = quiet-held site end.fit.regular number can.spec (end.fit.disciplined number can.spec can.there)
          can.there end.good.invariant.ledger
          end.good.invariant.booked (Got (process.asked_file (copy_of (who_acts pair) pair).core.state) []) can.held
          some
          (one_more can.done (gets at refl)) (λ e. absurd (cc)) in absurd (cc)
      by point.Inner at rest = absurd rest
      by point.Ask at rest = absurd rest
      by point.Answer at rest = absurd rest
      by point.AtCheckpoint at rest = absurd rest
      by point.Device at rest = absurd rest

  -- a copy that holds acts has ended: one that doesn't act holds none
  pub held-ended : (number : ℕ) (pair : Pair) (k : Which) → slice_get post.world.processes number ≡ Some pair
      → (copy_of k pair).held ≢ []
      → process.point (copy_of k pair).core.state ≡ point.Ended
  held-ended number pair k there some = by k (who_acts pair) refl some
    where
      here : (acts : Which) → who_acts pair ≡ acts → (copy_of acts pair).held ≢ []
          → process.point (copy_of acts pair).core.state ≡ point.Ended
      here acts is =
          subst (λ (which : Which). (copy_of which pair).held ≢ []
          → process.point (copy_of which pair).core.state ≡ point.Ended) is (acting-ended number pair there)

      free : (acts : Which) → who_acts pair ≡ acts → (copy_of (other_of acts) pair).held ≡ []
      free acts is =
          subst (λ (which : Which). (copy_of (other_of which) pair).held ≡ []) is (can-close end number pair there).free

      by : (k acts : Which) → who_acts pair ≡ acts → (copy_of k pair).held ≢ []
          → process.point (copy_of k pair).core.state ≡ point.Ended
      by First First is some = here First is some
      by Second Second is some = here Second is some
      by First Second is some = absurd (some (free Second is))
      by Second First is some = absurd (some (free First is))
