-- An idle end closed: the machine of single processes after the kept acts and the held ones, told by the ledger that
-- they make.
use Rattle.std.proofs.Common.{◌≡◌, ℕ, ◌+◌, ◌<◌, ◌≤◌, List, length, reverse, Some, slice_get, subst, arith}
use Rattle.tal_tree.specs.declared.act.Act.{Act}
use Rattle.tal_tree.specs.declared.site.Site.{Site}
use Rattle.plain_semantics.specs.Machine.{Plain, made_all, plain_start}
use Rattle.world_semantics.specs.declared.which.Which.{Which}
use Rattle.world_semantics.specs.declared.which.Which.TheVariants.{First, Second}
use Rattle.world_semantics.specs.Shares.{closed}
use Rattle.world_semantics.specs.World.{Pair, copy_of}
use Rattle.process_histories.specs.Bounds.{AreBounded}
use Rattle.plain_histories.specs.Agreeing.{Agrees}
use Rattle.plain_histories.specs.Ledgers.{Ledger}
use Rattle.plain_histories.proofs.Counted.{booked-short}
use Rattle.plain_histories.proofs.Possible.{HasRun, booked-ran}
use Rattle.letters.specs.Posts.{Post}
use Rattle.idle_end.proofs.Closing.{CanClose, HasClosed, AreClosed, close}
use Rattle.idle_end.proofs.Ends.{IsEnd, who_acts}
use Rattle.idle_end.proofs.Owned.{AreOwned, acts-owned}
use Rattle.idle_end.proofs.Resting.{can-close}

-- the machine that the acts leave, and a ledger that says so: it has the held acts of each process, and for terminals
-- what it had
pub record IsClosed (site : Site) (post : Post) (ledger : Ledger) : Type 0 where
  pub plain : Plain
  pub last : Ledger
  pub ran : made_all site (plain_start site) (closed post.world)
      ≡ Some (record { plain = plain; shown = reverse post.world.shown })
  pub agrees : Agrees site plain last
  pub owned : AreOwned site plain
  pub entered : last.entered ≡ ledger.entered
  pub printed : last.printed ≡ ledger.printed
  pub each : (number : ℕ) (pair : Pair) → slice_get post.world.processes number ≡ Some pair
      → HasClosed site ledger last number (copy_of (who_acts pair) pair)
  pub bounded : (number : ℕ) (pair : Pair) → slice_get post.world.processes number ≡ Some pair
      → AreBounded (last.deeds number)

held-part : (pair : Pair) (k : Which) → length (copy_of k pair).held ≤ length pair.first.held + length pair.second.held
held-part pair First = omega arith
held-part pair Second = omega arith

module _ {site : Site} {events : ℕ} {post : Post} (end : IsEnd site events post) where
  closing : AreClosed site post.world.kept post.world.shown end.good.invariant.ledger 0 post.world.processes who_acts
  closing =
      close site end.fit.regular post.world.shown who_acts 0 post.world.processes post.world.kept
      end.good.invariant.ledger end.good.invariant.booked (λ place pair there.
      let same : place ≡ 0 + place = omega arith in
      subst (λ n. CanClose site end.good.invariant.ledger n pair (who_acts pair)) same (can-close end place pair there))

  pub is-closed : IsClosed site post end.good.invariant.ledger
  is-closed = by closing
    where
      by : AreClosed site post.world.kept post.world.shown end.good.invariant.ledger 0 post.world.processes who_acts
          → IsClosed site post end.good.invariant.ledger
      by all = record {
        plain = run.plain;
        last = all.closed;
        ran = ran;
        agrees = run.agrees;
        owned = acts-owned site (closed post.world) _ ran;
        entered = all.entered;
        printed = all.printed;
        each = each;
        bounded = λ number pair there. record {
          count = few number pair there;
          short = (booked-short end.fit.requests all.booked).deeds number;
        };
      }
        where
          run : HasRun site all.acts post.world.shown all.closed
          run = booked-ran end.fit.regular all.booked

          ran : made_all site (plain_start site) (closed post.world)
              ≡ Some (record { plain = run.plain; shown = reverse post.world.shown })
          ran = subst (λ (acts : List Act). made_all site (plain_start site) (reverse acts)
              ≡ Some (record { plain = run.plain; shown = reverse post.world.shown })) all.order run.ran

          each : (number : ℕ) (pair : Pair) → slice_get post.world.processes number ≡ Some pair
              → HasClosed site end.good.invariant.ledger all.closed number (copy_of (who_acts pair) pair)
          each number pair there =
              let same : 0 + number ≡ number = omega arith in
              subst (λ n. HasClosed site end.good.invariant.ledger all.closed n (copy_of (who_acts pair) pair)) same
              (all.each number pair there)

          few : (number : ℕ) (pair : Pair) → slice_get post.world.processes number ≡ Some pair
              → length (all.closed.deeds number) < 4294967296
          few number pair there =
              let count = (each number pair there).count in
              let most = (end.good.invariant.processes number pair there).2.count in
              let part = held-part pair (who_acts pair) in
              let less = end.few in
              omega (arith, count, most, part, less)
