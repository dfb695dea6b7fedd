use Rattle.std.proofs.Common.{◌≡◌, ◌≢◌, ◌<◌, ℕ, false, zero, suc, Some, None, slice_get, refl, sym, subst, arith}
use Rattle.tal_tree.specs.declared.site.ProcessSpec.{ProcessSpec}
use Rattle.tal_tree.specs.declared.site.Who.{Who}
use Rattle.process_semantics.specs.declared.point.Point.TheVariants as point
use Rattle.process_semantics.specs.Process as process
use Rattle.whole_states.specs.Processes.{IsRegularKind}
use Rattle.awaited_requests.specs.discipline_laws.specs.Disciplined.{IsDisciplined}
use Rattle.awaited_requests.specs.discipline_laws.proofs.Discs.{disc-disciplined}
use Rattle.process_histories.specs.Served.{disc}
use Rattle.world_semantics.specs.declared.which.Which.{Which}
use Rattle.world_semantics.specs.declared.which.Which.TheVariants.{First, Second}
use Rattle.world_semantics.specs.Follows.{stays}
use Rattle.world_semantics.specs.Laws.{IsPlaced}
use Rattle.world_semantics.specs.Rules.{by_enter}
use Rattle.world_semantics.specs.Running.{run_done}
use Rattle.world_semantics.specs.World.{Pair, boot, pair_at_boot, copy_of}
use Rattle.world_semantics.proofs.Lists.{some-same}
use Rattle.letters.specs.Posts.{post_at_boot}
use Rattle.awaited_requests.specs.Awaited.{IsAwaited, by_copy, by_terminal}
use Rattle.idle_end.specs.Examples.{quiet_site}
use Rattle.idle_end.proofs.Quiet.{disc-idle}
use Rattle.idle_end.proofs.guards.a_quiet_site_is_at_an_idle_end.Goals as goal

-- what is so of the disc is so of each process
each : (P : ProcessSpec → Type 0) → P disc → (number : ℕ) (spec : ProcessSpec)
    → slice_get quiet_site.processes number ≡ Some spec → P spec
each P has zero spec there = subst P (some-same there) has
each P has (suc number) spec there = absurd (cc)

none : (number : ℕ) → run_done quiet_site number (boot quiet_site) ≡ None
none zero = refl
none (suc number) = refl

none-awaits : {asker n : ℕ} {one : Who} → IsAwaited quiet_site (boot quiet_site) asker one n → ⊥
none-awaits (by_copy {number = zero} pair k there role at file next) =
    by k (subst (λ (p : Pair). process.point (copy_of k p).core.state ≡ point.Await) (sym (some-same there)) at)
  where
    by : (k : Which) → process.point (copy_of k (pair_at_boot quiet_site 0 disc)).core.state ≡ point.Await → ⊥
    by First at = cc
    by Second at = cc
none-awaits (by_copy {number = suc number} pair k there role at file next) = cc
none-awaits (by_terminal terminal there waits) = cc

seats : IsPlaced quiet_site
seats = each (λ spec. (spec.primary < 2) × (spec.backup < 2) × (spec.primary ≢ spec.backup))
    (omega arith, omega arith, λ same. cc)

pub returns-clause-quiet : goal.returns-clause-quiet
returns-clause-quiet c = record {
  fit = record {
    regular = each (λ spec. IsRegularKind spec.what) tt;
    disciplined =
        λ number. each (IsDisciplined quiet_site number) (disc-disciplined quiet_site number 2 false disc refl) number;
    requests = λ terminal entered words next. absurd (cc);
    seats = seats;
  };
  laid_out = record { few = omega arith; places = seats };
  few = omega arith;
  run = stays;
  served = λ asker one n opener pair opens there awaited. absurd (none-awaits awaited);
  idle = disc-idle quiet_site (post_at_boot quiet_site) refl refl refl (λ number terminal there. absurd (cc)) none;
}

pub returns-clause-asked : goal.returns-clause-asked
returns-clause-asked c = λ events end. end.idle.enters 0 _ _
    (by_enter 0 (record { entered = 0; printed = 0 }) (record { server = 0; place = 0 }) refl refl refl refl)
