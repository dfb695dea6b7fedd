-- The held acts after the kept ones, process after process: they are possible, show nothing, and leave each process as
-- its copy that acts is.
use Rattle.std.proofs.Common.{◌≡◌, ℕ, zero, suc, ◌+◌, ◌<◌, List, [], ◌∷◌, ◌++◌, length, Some, slice_get, refl, ap}
use Rattle.std.proofs.Common.{◌∙◌, subst, arith, length-append}
use Rattle.tal_tree.specs.declared.act.Act.{Act}
use Rattle.tal_tree.specs.declared.act.Shown.{Shown}
use Rattle.tal_tree.specs.declared.site.Site.{Site}
use Rattle.tal_tree.specs.declared.site.ProcessSpec.{ProcessSpec}
use Rattle.world_semantics.specs.declared.which.Which.{Which}
use Rattle.world_semantics.specs.declared.which.Which.TheVariants.{First, Second}
use Rattle.world_semantics.specs.Core.{Deed}
use Rattle.world_semantics.specs.Shares.{closed_by, closed_by_all}
use Rattle.world_semantics.specs.World.{Copy, Pair, copy_of, other_of}
use Rattle.world_semantics.proofs.Lists.{some-same}
use Rattle.process_histories.specs.Devices.{sectors_after}
use Rattle.process_histories.specs.Histories.{HasDone}
use Rattle.plain_histories.specs.Agreeing.{AreRegular}
use Rattle.plain_histories.specs.Booking.{AreBooked, AreHeld}
use Rattle.plain_histories.specs.Ledgers.{Ledger, with_deeds}
use Rattle.plain_histories.proofs.Changed.{deeds-same}
use Rattle.plain_histories.proofs.Held.{held-stays}
use Rattle.awaited_requests.specs.takeover_laws.proofs.Backed.{idle-sectors}
use Rattle.awaited_requests.specs.takeover_laws.proofs.Repeating.{held-idle, held-length}
use Rattle.awaited_requests.specs.takeover_laws.proofs.Settled.{IsLeft, IsSettled, settled-held}

-- a copy of a process has what the process's deeds and then its held acts give, and the other copy holds nothing
pub record CanClose (site : Site) (ledger : Ledger) (number : ℕ) (pair : Pair) (k : Which) : Type 0 where
  pub spec : ProcessSpec
  pub there : slice_get site.processes number ≡ Some spec
  pub more : List Deed
  pub held : AreHeld site ledger number (copy_of k pair).held more
  pub done : HasDone site number spec (more ++ ledger.deeds number) (copy_of k pair).core
  pub free : (copy_of (other_of k) pair).held ≡ []

-- it has done what a later ledger has of its process: its held acts more, which left its device as it was
pub record HasClosed (site : Site) (ledger closed : Ledger) (number : ℕ) (copy : Copy) : Type 0 where
  pub spec : ProcessSpec
  pub there : slice_get site.processes number ≡ Some spec
  pub done : HasDone site number spec (closed.deeds number) copy.core
  pub sectors : sectors_after spec.what (closed.deeds number) ≡ sectors_after spec.what (ledger.deeds number)
  pub count : length (closed.deeds number) ≡ length copy.held + length (ledger.deeds number)

-- what the kept acts and the held ones of processes, from a number on, make
pub record AreClosed (site : Site) (kept : List Act) (shown : List Shown) (ledger : Ledger) (from : ℕ)
    (pairs : List Pair) (who : Pair → Which) : Type 0 where
  pub acts : List Act
  pub closed : Ledger
  pub booked : AreBooked site acts shown closed
  pub order : acts ≡ closed_by_all kept pairs
  pub entered : closed.entered ≡ ledger.entered
  pub printed : closed.printed ≡ ledger.printed
  pub before : (number : ℕ) → number < from → closed.deeds number ≡ ledger.deeds number
  pub each : (place : ℕ) (pair : Pair) → slice_get pairs place ≡ Some pair
      → HasClosed site ledger closed (from + place) (copy_of (who pair) pair)

held-order : (kept : List Act) (pair : Pair) (k : Which) → (copy_of (other_of k) pair).held ≡ []
    → (copy_of k pair).held ++ kept ≡ closed_by kept pair
held-order kept pair First free = rw free refl
held-order kept pair Second free = rw free refl

still-closes : {site : Site} {ledger more : Ledger} {number : ℕ} {pair : Pair} {k : Which}
    → IsLeft site ledger more number → CanClose site ledger number pair k
    → CanClose site more number pair k
still-closes left can = record {
  spec = can.spec;
  there = can.there;
  more = can.more;
  held = held-stays left.waits can.held;
  done = rw left.deeds can.done;
  free = can.free;
}

-- where the later ledger has just the held acts more
closes-now : {site : Site} {ledger closed : Ledger} {number : ℕ} {pair : Pair} {k : Which}
    (can : CanClose site ledger number pair k)
    → closed.deeds number ≡ can.more ++ ledger.deeds number → HasClosed site ledger closed number (copy_of k pair)
closes-now {ledger = ledger} {number = number} can same = record {
  spec = can.spec;
  there = can.there;
  done = rw same can.done;
  sectors = ap (sectors_after can.spec.what) same
      ∙ idle-sectors can.spec.what can.more (ledger.deeds number) (held-idle can.held);
  count = (let long = held-length can.held in let both = length-append can.more (ledger.deeds number) in
      omega (arith, ap length same, long, both));
}

closes-after : {site : Site} {ledger next closed : Ledger} {number : ℕ} {copy : Copy}
    → next.deeds number ≡ ledger.deeds number → HasClosed site next closed number copy
    → HasClosed site ledger closed number copy
closes-after {copy = copy} same has = record {
  spec = has.spec;
  there = has.there;
  done = has.done;
  sectors = has.sectors ∙ ap (sectors_after has.spec.what) same;
  count = has.count ∙ ap (λ deeds. length copy.held + length deeds) same;
}

module _ (site : Site) (regular : AreRegular site) (shown : List Shown) (who : Pair → Which) where
  pub close : (from : ℕ) (pairs : List Pair) (kept : List Act) (ledger : Ledger) → AreBooked site kept shown ledger
      → ((place : ℕ) (pair : Pair) → slice_get pairs place ≡ Some pair
      → CanClose site ledger (from + place) pair (who pair))
      → AreClosed site kept shown ledger from pairs who
  close from [] kept ledger booked can = record {
    acts = kept;
    closed = ledger;
    booked = booked;
    order = refl;
    entered = refl;
    printed = refl;
    before = λ number less. refl;
    each = λ place pair there. absurd (cc);
  }
  close from (pair ∷ pairs) kept ledger booked can =
      by (close (from + 1) pairs ((copy_of (who pair) pair).held ++ kept) next settled.booked later)
    where
      first : CanClose site ledger from pair (who pair)
      first = let same : from + 0 ≡ from =
          omega arith in subst (λ n. CanClose site ledger n pair (who pair)) same (can 0 pair refl)

      next : Ledger
      next = with_deeds from first.more ledger

      settled : IsSettled site ((copy_of (who pair) pair).held ++ kept) shown ledger from first.more
      settled = settled-held site regular ledger from first.spec first.there booked first.held first.done

      later : (place : ℕ) (other : Pair) → slice_get pairs place ≡ Some other
          → CanClose site next (from + 1 + place) other (who other)
      later place other there =
          let same : from + suc place ≡ from + 1 + place = omega arith in
          still-closes (settled.left (from + 1 + place) (λ e. absurd (omega (arith, e))))
          (subst (λ n. CanClose site ledger n other (who other)) same (can (suc place) other there))

      by : AreClosed site ((copy_of (who pair) pair).held ++ kept) shown next (from + 1) pairs who
          → AreClosed site kept shown ledger from (pair ∷ pairs) who
      by rest = record {
        acts = rest.acts;
        closed = rest.closed;
        booked = rest.booked;
        order = rest.order ∙ ap (λ acts. closed_by_all acts pairs) (held-order kept pair (who pair) first.free);
        entered = rest.entered ∙ settled.entered;
        printed = rest.printed ∙ settled.printed;
        before = λ number less. rest.before number (omega (arith, less))
            ∙ (settled.left number (λ e. absurd (omega (arith, e, less)))).deeds;
        each = each;
      }
        where
          each : (place : ℕ) (other : Pair) → slice_get (pair ∷ pairs) place ≡ Some other
              → HasClosed site ledger rest.closed (from + place) (copy_of (who other) other)
          each zero other there =
              let same : pair ≡ other = some-same there in
              let here : from ≡ from + 0 = omega arith in
              let deeds : rest.closed.deeds from ≡ first.more ++ ledger.deeds from =
              rest.before from (omega arith) ∙ deeds-same from first.more ledger in
              subst (λ p. HasClosed site ledger rest.closed (from + 0) (copy_of (who p) p)) same
              (subst (λ n. HasClosed site ledger rest.closed n (copy_of (who pair) pair)) here (closes-now first deeds))
          each (suc place) other there =
              let same : from + 1 + place ≡ from + suc place = omega arith in
              subst (λ n. HasClosed site ledger rest.closed n (copy_of (who other) other)) same
              (closes-after (settled.left (from + 1 + place) (λ e. absurd (omega (arith, e)))).deeds
              (rest.each place other there))
