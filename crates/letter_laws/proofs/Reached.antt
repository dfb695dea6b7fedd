-- What a change makes of a world that a run reaches, another run reaches.
use Rattle.std.proofs.Common.{◌≡◌, ℕ, Bool, true, false, List, [], ◌∷◌, ◌++◌, Option, Some, None, slice_get, refl, ap}
use Rattle.std.proofs.Common.{sym, subst}
use Rattle.tal_tree.specs.declared.site.Site.{Site}
use Rattle.schedule.specs.declared.bus_name.BusName.TheVariants as bus
use Rattle.schedule.specs.declared.event.Event.{Event}
use Rattle.schedule.specs.declared.event.Event.TheVariants.{Fail, Reload}
use Rattle.world_semantics.specs.Follows.{Follows, runs, enters, delivers, delivers_mark, fails, reloads, IsRun}
use Rattle.world_semantics.specs.Messages.{Sending, Cause, Running, Entering, Handing, Stopping, MarkingDown}
use Rattle.world_semantics.specs.Messages.{Reloading}
use Rattle.world_semantics.specs.Rules.{Change, by_own, by_checkpoint, by_request, by_early_request, by_enter, by_print}
use Rattle.world_semantics.specs.Rules.{by_stop, by_mark, by_reload}
use Rattle.world_semantics.specs.Running.{Done}
use Rattle.world_semantics.specs.World.{World, is_whole}
use Rattle.world_semantics.proofs.Lists.{some-same, set-there}
use Rattle.computed_changes.specs.Stopped.{stop_if, stop_where}
use Rattle.computed_changes.proofs.Causes.{IsOfCopies, own-causes, passes-causes}
use Rattle.computed_changes.proofs.Stopped.{stop-only}
use Rattle.awaited_requests.specs.letters.proofs.Worlds.{leads-on}

-- a processor that stops ran before, and nothing is sent
pub record HasStopped (w next : World) (processor : ℕ) (sendings : List Sending) : Type 0 where
  pub ran : slice_get w.stopped processor ≡ Some false
  pub stopped : slice_get next.stopped processor ≡ Some true
  pub none : sendings ≡ []

pub stop-is : {site : Site} (w next : World) (processor : ℕ) (sendings : List Sending)
    → Change site w (Stopping processor) sendings next
    → HasStopped w next processor sendings
stop-is w next processor sendings change =
    by (slice_get w.stopped processor) refl (stop-only processor w next sendings change)
  where
    by : (o : Option Bool) → slice_get w.stopped processor ≡ o
        → stop_where processor w o ≡ Some (record { world = next; sendings = sendings })
        → HasStopped w next processor sendings
    by None ran is = absurd (cc)
    by (Some true) ran is = absurd (cc)
    by (Some false) ran is = whole (is_whole w) is
      where
        whole : (b : Bool) → stop_if processor w b ≡ Some (record { world = next; sendings = sendings })
            → HasStopped w next processor sendings
        whole false is = absurd (cc)
        whole true is =
            let same = some-same is in
            record {
              ran = ran;
              stopped = subst (λ (d : Done). slice_get d.world.stopped processor ≡ Some true) same
                  (set-there w.stopped processor false true ran);
              none = ap (λ (d : Done). d.sendings) (sym same);
            }

-- nothing is sent by a reload
pub reload-sends-none : {site : Site} (w next : World) (cause : Cause) (sendings : List Sending)
    → Change site w cause sendings next → (x : ℕ) → cause ≡ Reloading x → sendings ≡ []
reload-sends-none w next cause sendings (by_own number k pair there role causes advances entering free) x is =
    absurd (subst IsOfCopies is (own-causes causes))
reload-sends-none w next cause sendings (by_checkpoint number pair there passes) x is =
    absurd (subst IsOfCopies is (passes-causes passes))
reload-sends-none w next cause sendings (by_request request k pair among there role) x is = absurd (cc)
reload-sends-none w next cause sendings (by_early_request request k pair among there role) x is = refl
reload-sends-none w next cause sendings (by_enter number terminal opener there even words opens) x is = absurd (cc)
reload-sends-none w next cause sendings (by_print number terminal reply there odd among opens last) x is = refl
reload-sends-none w next cause sendings (by_stop processor running whole) x is = refl
reload-sends-none w next cause sendings (by_mark node processor down running unmarked) x is = absurd (cc)
reload-sends-none w next cause sendings (by_reload processor down marked counted less) x is = refl

-- a run reaches a world
abbrev pub IsReached : Site → World → Type 0
IsReached site w = (events : List Event) × IsRun site events w

-- a change is what some event permits
change-permits : {site : Site} (w next : World) (cause : Cause) (sendings : List Sending)
    → Change site w cause sendings next
    → (event : Event) × Follows site w event sendings next
change-permits w next (Running number) sendings change = (_, runs change)
change-permits w next (Entering terminal) sendings change = (_, enters change)
change-permits w next (Handing node message) sendings change = (_, delivers {bus = bus.X} {k = 0} node message change)
change-permits w next (MarkingDown node processor) sendings change =
    (_, delivers_mark {bus = bus.X} {k = 0} node processor change)
change-permits {site = site} w next (Stopping processor) sendings change =
    let none = (stop-is w next processor sendings change).none in (
      _,
      subst (λ s. Follows site w (Fail processor) s next) (sym none)
          (fails (subst (λ s. Change site w (Stopping processor) s next) none change)),
    )
change-permits {site = site} w next (Reloading processor) sendings change =
    let none = reload-sends-none w next (Reloading processor) sendings change processor refl in (
      _,
      subst (λ s. Follows site w (Reload processor) s next) (sym none)
          (reloads (subst (λ s. Change site w (Reloading processor) s next) none change)),
    )

pub change-reached : {site : Site} (w next : World) (cause : Cause) (sendings : List Sending)
    → Change site w cause sendings next → IsReached site w → IsReached site next
change-reached w next cause sendings change (events, run) =
    let permitted =
    change-permits w next cause sendings change in (events ++ permitted.0 ∷ [], leads-on run permitted.1)
