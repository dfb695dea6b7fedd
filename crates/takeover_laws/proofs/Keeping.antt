-- Each change keeps the invariant.
use Rattle.std.proofs.Common.{◌<◌, ℕ, ◌+◌, List, refl, ◌∙◌, arith, Bool, Option, [], false, length}
use Rattle.std.proofs.Common.{slice_get, subst, sym, true, ◌==◌, ◌≡◌, ◌≢◌}
use Rattle.std.proofs.lemmas.Bool.{eqb-true}
use Rattle.tal_tree.specs.declared.site.Site.{Site}
use Rattle.tal_tree.specs.declared.site.ProcessSpec.{ProcessSpec}
use Rattle.world_semantics.specs.Messages.{Sending, Cause}
use Rattle.world_semantics.specs.Rules.{Change, by_own, by_checkpoint, by_request, by_early_request, by_enter, by_print}
use Rattle.world_semantics.specs.Rules.{by_stop, by_mark, stopped_pair, pair_at_down, taker, new_core, by_reload}
use Rattle.world_semantics.specs.Rules.{pair_after_down}
use Rattle.world_semantics.specs.World.{World, copy_of}
use Rattle.world_semantics.proofs.Growing.{AreStopped}
use Rattle.world_semantics.proofs.Lists.{map-all}
use Rattle.world_semantics.proofs.Roles.{AllRoles, reload-all}
use Rattle.world_semantics.proofs.Waiting.{waits-all}
use Rattle.world_semantics.proofs.Steady.{IsSeated, IsSteady, Waits, first-not-blank, second-not-blank, survivor}
use Rattle.world_semantics.proofs.Steady.{whole-pair}
use Rattle.takeover_laws.specs.Fit.{IsFit}
use Rattle.takeover_laws.specs.Invariant.{Invariant}
use Rattle.takeover_laws.proofs.Stops.{stop-led, mark-led, reload-led}
use Rattle.takeover_laws.proofs.Waiting.{came-all}
use Rattle.takeover_laws.proofs.Changing.{acts_by, causes-one, passes-one, marked-sectors, marked-held, marked-waiting}
use Rattle.takeover_laws.proofs.Changing.{stopped-waiting, ended-waiting, reloaded-held, reloaded-sectors}
use Rattle.takeover_laws.proofs.Changing.{reloaded-waiting}
use Rattle.takeover_laws.proofs.Processes.{IsFor, SoundAs, own-keeps, waiting-keeps, checkpoint-keeps}
use Rattle.takeover_laws.proofs.Terminals.{enter-keeps, print-keeps}
use Rattle.plain_histories.specs.process_histories.specs.Histories.{HasDone, nothing_done}

not-equal : (a b : ℕ) → a ≢ b → (a == b) ≡ false
not-equal a b apart = by (a == b) refl
  where
    by : (t : Bool) → (a == b) ≡ t → t ≡ false
    by true e = absurd (apart (eqb-true a b e))
    by false e = refl

module _ (site : Site) (fit : IsFit site) where
  pub change-keeps : (events : ℕ) (w next : World) (cause : Cause) (sendings : List Sending) → events < 4294967295
      → AllRoles w → AreStopped w → IsSteady w → IsSeated site w → Invariant site events w
      → Change site w cause sendings next → Invariant site (events + acts_by cause) next
  change-keeps events w next cause sendings few roles stopped steady seated inv
      (by_own number k pair at role causes advances enters free) =
      rw (causes-one causes) (own-keeps site fit events w inv number k pair at role causes advances enters free)
  change-keeps events w next cause sendings few roles stopped steady seated inv (by_checkpoint number pair at passes) =
      rw (passes-one passes) (checkpoint-keeps site fit events w inv number pair _ few roles stopped at passes)
  change-keeps events w next cause sendings few roles stopped steady seated inv
      (by_request request k pair among at role) =
      let was = inv.processes request.process pair at in
      waiting-keeps site fit events w inv request.process k pair _ at
      (came-all (IsFor site inv.ledger request.process) (copy_of k pair).core.receive (copy_of k pair).waiting request
      (refl, inv.requests request among) (was.2.waiting k))
  change-keeps events w next cause sendings few roles stopped steady seated inv
      (by_early_request request k pair among at role) =
      let was = inv.processes request.process pair at in
      waiting-keeps site fit events w inv request.process k pair _ at
      (waits-all (IsFor site inv.ledger request.process) (copy_of k pair).waiting request
      (refl, inv.requests request among) (was.2.waiting k))
  change-keeps events w next cause sendings few roles stopped steady seated inv
      (by_enter {words = words} number terminal opener at free left is) =
      enter-keeps site fit events w inv number terminal opener words at free left is
  change-keeps events w next cause sendings few roles stopped steady seated inv
      (by_print number terminal reply at free among is last) =
      print-keeps site fit events w inv number terminal reply at free among is last
  change-keeps events w next cause sendings few roles stopped steady seated inv (by_stop processor runs whole) =
      record {
        ledger = inv.ledger;
        booked = inv.booked;
        processes = map-all (SoundAs site inv.ledger (events + 0)) (stopped_pair processor) w.processes
            (λ number pair at. (let was = inv.processes number pair at in
            let all = was.2.count in (
              was.0,
              was.1,
              record {
                led = (let both = whole-pair w whole number pair at in
                    stop-led site inv.ledger number was.0 (inv.ledger.deeds number) processor pair
                    (first-not-blank pair.first.role pair.second.role both)
                    (second-not-blank pair.first.role pair.second.role both) was.2.led);
                sectors = was.2.sectors;
                waiting = stopped-waiting (IsFor site inv.ledger number) processor pair was.2.waiting;
                count = omega (arith, all);
              },
            )));
        requests = inv.requests;
        replies = inv.replies;
        terminals = inv.terminals;
      }
  change-keeps events w next cause sendings few roles stopped steady seated inv
      (by_mark node processor down runs unmarked) = record {
        ledger = inv.ledger;
        booked = inv.booked;
        processes = map-all (SoundAs site inv.ledger (events + 0)) (pair_at_down node processor) w.processes
            (λ number pair at. (let was = inv.processes number pair at in
            let all = was.2.count in
            let held = marked-held (taker node processor pair) pair in (
              was.0,
              was.1,
              record {
                led = mark-led site inv.ledger number was.0 (inv.ledger.deeds number) w.stopped node processor pair down
                    runs (roles number pair at) was.2.led;
                sectors = marked-sectors (taker node processor pair) pair ∙ was.2.sectors;
                waiting = ended-waiting (IsFor site inv.ledger number) node processor
                    (pair_after_down (taker node processor pair) pair)
                    (marked-waiting (IsFor site inv.ledger number) (taker node processor pair) pair was.2.waiting);
                count = omega (arith, all, held);
              },
            )));
        requests = inv.requests;
        replies = inv.replies;
        terminals = inv.terminals;
      }
  change-keeps events w next cause sendings few roles stopped steady seated inv
      (by_reload processor down all times less) = record {
        ledger = inv.ledger;
        booked = inv.booked;
        processes = reload-all (SoundAs site inv.ledger (events + 0)) site processor w.processes
            (λ number pair at. (let was = inv.processes number pair at in
            let count = was.2.count in
            let core = new_core site number (slice_get site.processes number) pair.first.core in
            let held = reloaded-held core pair (pair.first.processor == processor)
            (pair.second.processor == processor) in
            let begins : HasDone site number was.0 [] core =
            subst (λ (o : Option ProcessSpec). HasDone site number was.0 [] (new_core site number o pair.first.core))
            (sym was.1) nothing_done in
            let seat = seated.pairs number pair at in
            let fits = fit.seats number seat.0 seat.1 in
            let one : pair.first.processor < length w.stopped = rw (seated.processors, seat.2) fits.0 in
            let two : pair.second.processor < length w.stopped = rw (seated.processors, seat.3) fits.1 in
            let apart : pair.first.processor ≢ pair.second.processor = λ e. fits.2 (sym seat.2 ∙ e ∙ seat.3) in
            let r = roles number pair at in
            let waits = steady.pairs number pair at in (
              was.0,
              was.1,
              record {
                led = reload-led site inv.ledger number was.0 (inv.ledger.deeds number) processor core pair begins
                    (λ t. (let is = eqb-true pair.first.processor processor t in
                    let off : pair.second.processor ≢ processor = λ e. apart (is ∙ sym e) in (
                      r.first_gone (rw is down),
                      survivor w.stopped w.downs processor pair.second.processor pair.second.role down steady.one off
                          two all
                          (subst (λ p. Waits w.stopped w.downs pair.second.role pair.second.processor p) is
                          waits.second)
                          r.second_lost,
                      not-equal pair.second.processor processor off,
                    )))
                    (λ t. (let is = eqb-true pair.second.processor processor t in
                    let off : pair.first.processor ≢ processor = λ e. apart (e ∙ sym is) in (
                      r.second_gone (rw is down),
                      survivor w.stopped w.downs processor pair.first.processor pair.first.role down steady.one off one
                          all
                          (subst (λ p. Waits w.stopped w.downs pair.first.role pair.first.processor p) is waits.first)
                          r.first_lost,
                      not-equal pair.first.processor processor off,
                    )))
                    was.2.led;
                sectors = reloaded-sectors core pair (pair.first.processor == processor)
                    (pair.second.processor == processor) ∙ was.2.sectors;
                waiting = reloaded-waiting (IsFor site inv.ledger number) core pair (pair.first.processor == processor)
                    (pair.second.processor == processor) was.2.waiting;
                count = omega (arith, count, held);
              },
            )));
        requests = inv.requests;
        replies = inv.replies;
        terminals = inv.terminals;
      }
