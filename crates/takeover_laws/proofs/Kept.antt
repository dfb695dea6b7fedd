-- Every run keeps the invariant, so the acts that it keeps are possible and show what it showed.
use Rattle.std.proofs.Common.{◌≡◌, ◌<◌, ◌≤◌, ℕ, ◌+◌, List, [], ◌∷◌, length, reverse, refl, ap, subst, arith, is_some}
use Rattle.tal_tree.specs.declared.site.Site.{Site}
use Rattle.schedule.specs.declared.event.Event.{Event}
use Rattle.world_semantics.specs.plain_semantics.specs.Machine.{IsPossible, shown_by}
use Rattle.world_semantics.specs.Follows.{Follows, runs, cannot_run, enters, cannot_enter, delivers_none, delivers}
use Rattle.world_semantics.specs.Follows.{delivers_mark, loses, doubles, ticks_none, ticks, ticks_stop, fails}
use Rattle.world_semantics.specs.Follows.{turns_drive, cannot_fail, MarksDowns, marks_none, marks_one, Leads, stays}
use Rattle.world_semantics.specs.Follows.{goes_on, IsRun, cannot_reload, reloads}
use Rattle.world_semantics.specs.Kept.{acts_of}
use Rattle.world_semantics.specs.Messages.{Sending, Cause}
use Rattle.world_semantics.specs.Rules.{Change}
use Rattle.world_semantics.specs.World.{World, boot}
use Rattle.world_semantics.proofs.Growing.{AreStopped, change-downs}
use Rattle.world_semantics.proofs.Roles.{AllRoles, change-roles, roles-begin}
use Rattle.world_semantics.proofs.Steady.{IsSeated, IsSteady, change-seated, change-steady, seats-begin, steady-begins}
use Rattle.plain_histories.proofs.Possible.{booked-ran}
use Rattle.takeover_laws.specs.Fit.{IsFit}
use Rattle.takeover_laws.specs.Invariant.{Invariant}
use Rattle.takeover_laws.proofs.Beginning.{beginning-keeps}
use Rattle.takeover_laws.proofs.Changing.{acts_by}
use Rattle.takeover_laws.proofs.Keeping.{change-keeps}

-- what is kept from change to change
pub record IsGood (site : Site) (events : ℕ) (w : World) : Type 0 where
  pub roles : AllRoles w
  pub stopped : AreStopped w
  pub steady : IsSteady w
  pub seated : IsSeated site w
  pub invariant : Invariant site events w

more-events : {site : Site} {events : ℕ} (more : ℕ) {w : World} → events ≤ more → Invariant site events w
    → Invariant site more w
more-events more few inv = record {
  ledger = inv.ledger;
  booked = inv.booked;
  processes = λ number pair at. (let was = inv.processes number pair at in
      let count = was.2.count in (
        was.0,
        was.1,
        record {
          led = was.2.led;
          sectors = was.2.sectors;
          waiting = was.2.waiting;
          count = omega (arith, few, count);
        },
      ));
  requests = inv.requests;
  replies = inv.replies;
  terminals = inv.terminals;
}

module _ (site : Site) (fit : IsFit site) where
  more-good : {events : ℕ} (more : ℕ) {w : World} → events ≤ more → IsGood site events w → IsGood site more w
  more-good more few good = record {
    roles = good.roles;
    stopped = good.stopped;
    steady = good.steady;
    seated = good.seated;
    invariant = more-events more few good.invariant;
  }

  pub change-good : (events : ℕ) (w next : World) (cause : Cause) (sendings : List Sending) → events < 4294967295
      → IsGood site events w → Change site w cause sendings next
      → IsGood site (events + acts_by cause) next
  change-good events w next cause sendings few good change = record {
    roles = change-roles w next cause sendings change good.roles;
    stopped = change-downs w next cause sendings change good.stopped;
    steady = change-steady w next cause sendings good.stopped change good.steady;
    seated = change-seated w next cause sendings change good.seated;
    invariant = change-keeps site fit events w next cause sendings few good.roles good.stopped good.steady good.seated
        good.invariant change;
  }

  downs-good : (events : ℕ) {node : ℕ} {w end : World} {sendings : List Sending} → events < 4294967295
      → IsGood site events w → MarksDowns site node w sendings end → IsGood site events end
  downs-good events few good marks_none = good
  downs-good events few good (marks_one {w = w} {next = next} processor change more) =
      downs-good events few (more-good events (omega arith) (change-good events w next _ _ few good change)) more

  follows-good : (events : ℕ) {event : Event} (w next : World) (sendings : List Sending) → events < 4294967295
      → IsGood site events w → Follows site w event sendings next
      → IsGood site (events + 1) next
  follows-good events w next sendings few good (runs change) = change-good events w next _ _ few good change
  follows-good events w next sendings few good (cannot_run idle) = more-good (events + 1) (omega arith) good
  follows-good events w next sendings few good (enters change) = change-good events w next _ _ few good change
  follows-good events w next sendings few good (cannot_enter idle) = more-good (events + 1) (omega arith) good
  follows-good events w next sendings few good delivers_none = more-good (events + 1) (omega arith) good
  follows-good events w next sendings few good (delivers node message change) =
      change-good events w next _ _ few good change
  follows-good events w next sendings few good (delivers_mark node processor change) =
      more-good (events + 1) (omega arith) (change-good events w next _ _ few good change)
  follows-good events w next sendings few good loses = more-good (events + 1) (omega arith) good
  follows-good events w next sendings few good doubles = more-good (events + 1) (omega arith) good
  follows-good events w next sendings few good turns_drive = more-good (events + 1) (omega arith) good
  follows-good events w next sendings few good ticks_none = more-good (events + 1) (omega arith) good
  follows-good events w next sendings few good (ticks running marked) =
      more-good (events + 1) (omega arith) (downs-good events few good marked)
  follows-good events w next sendings few good (ticks_stop {between = between} processor running other change marked) =
      more-good (events + 1) (omega arith) (downs-good events few
      (more-good events (omega arith) (change-good events w between _ _ few good change)) marked)
  follows-good events w next sendings few good (fails change) =
      more-good (events + 1) (omega arith) (change-good events w next _ _ few good change)
  follows-good events w next sendings few good (cannot_fail idle) = more-good (events + 1) (omega arith) good
  follows-good events w next sendings few good (reloads change) =
      more-good (events + 1) (omega arith) (change-good events w next _ _ few good change)
  follows-good events w next sendings few good (cannot_reload idle) = more-good (events + 1) (omega arith) good

  leads-good : (before : ℕ) {w end : World} (events : List Event) → before + length events < 4294967296
      → IsGood site before w → Leads site w events end
      → IsGood site (before + length events) end
  leads-good before [] few good stays = more-good (before + 0) (omega arith) good
  leads-good before (event ∷ events) few good
      (goes_on {w = w} {next = next} {end = end} {sendings = sendings} follows leads) =
      let after = follows-good before w next sendings (omega (arith, few)) good follows in
      subst (λ n. IsGood site n end) (omega arith) (leads-good (before + 1) events (omega (arith, few)) after leads)

  pub run-keeps : (events : List Event) (w : World) → length events < 4294967296 → IsRun site events w
      → Invariant site (length events) w
  run-keeps events w few run =
      let first : IsGood site 0 (boot site) =
      record {
        roles = roles-begin site;
        stopped = λ mark among. absurd among;
        steady = steady-begins site;
        seated = seats-begin site;
        invariant = beginning-keeps site;
      } in
      (subst (λ n. IsGood site n w) (omega arith) (leads-good 0 events (omega (arith, few)) first run)).invariant

  pub kept-possible : (events : List Event) (w : World) → length events < 4294967296 → IsRun site events w
      → IsPossible site (acts_of w)
  kept-possible events w few run = ap is_some (booked-ran fit.regular (run-keeps events w few run).booked).ran

  pub kept-shown : (events : List Event) (w : World) → length events < 4294967296 → IsRun site events w
      → shown_by site (acts_of w) ≡ reverse w.shown
  kept-shown events w few run = rw (booked-ran fit.regular (run-keeps events w few run).booked).ran refl
