-- What follows from computed changes: nothing where none is computed, and what each event makes.
use Rattle.std.proofs.Common.{◌≡◌, ◌&&◌, ℕ, Bool, true, false, nat_lt, List, [], Option, Some, None, slice_get, refl}
use Rattle.std.proofs.Common.{sym, ap, subst, ◌∙◌}
use Rattle.tal_tree.specs.declared.site.Site.{Site}
use Rattle.schedule.specs.declared.bus_name.BusName.{BusName}
use Rattle.schedule.specs.declared.event.Event.{Event}
use Rattle.schedule.specs.declared.event.Event.TheVariants.{Enter, Deliver, Fail, Reload}
use Rattle.world_semantics.specs.World.{World, is_marked_by_all, is_whole}
use Rattle.world_semantics.specs.Messages.{Message, Sending, Cause, Entering, Handing, Stopping, Reloading}
use Rattle.world_semantics.specs.Rules.{Change, by_stop, most_reloads}
use Rattle.world_semantics.specs.Follows.{Follows, enters, cannot_enter, delivers_none, delivers, delivers_mark, fails}
use Rattle.world_semantics.specs.Follows.{cannot_fail, reloads, cannot_reload, IsIdleFor, IsRun}
use Rattle.world_semantics.specs.Running.{Done, world_after, sendings_of}
use Rattle.computed_changes.specs.Entered.{enter_done}
use Rattle.computed_changes.specs.Handed.{handed_done}
use Rattle.computed_changes.specs.Stopped.{stop_if, stop_where, stop_done, down_done, reload_if, reload_counted}
use Rattle.computed_changes.specs.Stopped.{reload_where, reload_done}
use Rattle.computed_changes.specs.Laws.{HasCopiesApart, IsSent, FitsWhereItComes}
use Rattle.computed_changes.proofs.Made.{handed-may}
use Rattle.computed_changes.proofs.Only.{handed-only}
use Rattle.computed_changes.proofs.Entered.{enter-may, enter-only}
use Rattle.computed_changes.proofs.Stopped.{stop-only, mark-may, reload-may, reload-only}
use Rattle.computed_changes.proofs.Reached.{run-apart, run-named}

-- where each change is a computed one, and none is computed, none is possible
pub idle-where : (site : Site) (w : World) (cause : Cause) (computed : Option Done)
    → ((next : World) (sendings : List Sending) → Change site w cause sendings next
    → computed ≡ Some (record { world = next; sendings = sendings }))
    → computed ≡ None → IsIdleFor site w cause
idle-where site w cause computed only none sendings next c = let one = only next sendings c in cc

-- Messages

handed-as : (site : Site) (w : World) (bus : BusName) (k node : ℕ) (message : Message) → IsSent w message
    → (done : Option Done)
    → handed_done site node message w ≡ done → Follows site w (Deliver bus k) (sendings_of done) (world_after w done)
handed-as site w bus k node message sent None e = delivers_none
handed-as site w bus k node message sent (Some done) e =
    delivers node message (handed-may site node message w done sent e)

pub handed-follows : (site : Site) (w : World) (bus : BusName) (k node : ℕ) (message : Message) → IsSent w message
    → Follows site w (Deliver bus k) (sendings_of (handed_done site node message w))
    (world_after w (handed_done site node message w))
handed-follows site w bus k node message sent =
    handed-as site w bus k node message sent (handed_done site node message w) refl

pub run-only : {site : Site} {events : List Event} (w next : World) (node : ℕ) (message : Message)
    (sendings : List Sending) → IsRun site events w
    → HasCopiesApart site → FitsWhereItComes site w node message → Change site w (Handing node message) sendings next
    → handed_done site node message w ≡ Some (record { world = next; sendings = sendings })
run-only w next node message sendings run apart fitting c =
    handed-only w next node message sendings (run-apart apart run) (run-named run) fitting c

-- Marks

marked-as : (site : Site) (w : World) (bus : BusName) (k node processor : ℕ) (done : Option Done)
    → down_done node processor w ≡ done
    → Follows site w (Deliver bus k) (sendings_of done) (world_after w done)
marked-as site w bus k node processor None e = delivers_none
marked-as site w bus k node processor (Some done) e = delivers_mark node processor
    (mark-may site node processor w done e)

pub mark-follows : (site : Site) (w : World) (bus : BusName) (k node processor : ℕ)
    → Follows site w (Deliver bus k) (sendings_of (down_done node processor w))
    (world_after w (down_done node processor w))
mark-follows site w bus k node processor = marked-as site w bus k node processor (down_done node processor w) refl

-- Entries

entered-as : (site : Site) (w : World) (number : ℕ) (done : Option Done) → enter_done site number w ≡ done
    → Follows site w (Enter number) (sendings_of done) (world_after w done)
entered-as site w number None e =
    cannot_enter (idle-where site w (Entering number) (enter_done site number w)
    (λ next sendings c. enter-only number w next sendings c) e)
entered-as site w number (Some done) e = enters (enter-may site number w done e)

pub enter-follows : (site : Site) (w : World) (number : ℕ)
    → Follows site w (Enter number) (sendings_of (enter_done site number w)) (world_after w (enter_done site number w))
enter-follows site w number = entered-as site w number (enter_done site number w) refl

-- Stops and reloads

-- a processor that hasn't stopped stops only in a world that is whole
abbrev pub MayStop : World → ℕ → Type 0
MayStop w processor = slice_get w.stopped processor ≡ Some false → is_whole w ≡ true

stopped-as : (site : Site) (w : World) (processor : ℕ) (stopped : Option Bool) → slice_get w.stopped processor ≡ stopped
    → MayStop w processor
    → Follows site w (Fail processor) (sendings_of (stop_where processor w stopped))
    (world_after w (stop_where processor w stopped))
stopped-as site w processor (Some false) e may =
    let h = may e in
    subst (λ b. Follows site w (Fail processor) (sendings_of (stop_if processor w b))
    (world_after w (stop_if processor w b))) (sym h)
    (fails (by_stop processor e h))
stopped-as site w processor (Some true) e may = cannot_fail (λ f. let same = sym e ∙ f in cc)
stopped-as site w processor None e may = cannot_fail (λ f. let same = sym e ∙ f in cc)

pub stop-follows : (site : Site) (w : World) (processor : ℕ) → MayStop w processor
    → Follows site w (Fail processor) (sendings_of (stop_done processor w)) (world_after w (stop_done processor w))
stop-follows site w processor may = stopped-as site w processor (slice_get w.stopped processor) refl may

no-stop : {site : Site} (processor : ℕ) (w next : World) (sendings : List Sending)
    → slice_get w.stopped processor ≡ Some false → is_whole w ≡ false
    → Change site w (Stopping processor) sendings next → ⊥
no-stop processor w next sendings runs parts change =
    let is = stop-only processor w next sendings change in
    let none = ap (stop_where processor w) runs ∙ ap (stop_if processor w) parts in let same = sym none ∙ is in cc

pub nothing-follows : {site : Site} (processor : ℕ) (w next : World) (sendings : List Sending)
    → slice_get w.stopped processor ≡ Some false → is_whole w ≡ false
    → Follows site w (Fail processor) sendings next → ⊥
nothing-follows processor w next sendings runs parts (fails change) = no-stop processor w next [] runs parts change
nothing-follows processor w next sendings runs parts (cannot_fail stopped) = stopped runs

-- a reload sends nothing
reload-silent : (site : Site) (w : World) (processor : ℕ) → sendings_of (reload_done site processor w) ≡ []
reload-silent site w processor = by-stopped (slice_get w.stopped processor)
  where
    by-may : (times : ℕ) (may : Bool) → sendings_of (reload_if site processor times w may) ≡ []
    by-may times true = refl
    by-may times false = refl

    by-times : (times : Option ℕ) → sendings_of (reload_counted site processor w times) ≡ []
    by-times None = refl
    by-times (Some times) = by-may times (is_marked_by_all w processor && nat_lt times most_reloads)

    by-stopped : (stopped : Option Bool) → sendings_of (reload_where site processor w stopped) ≡ []
    by-stopped (Some true) = by-times (slice_get w.reloads processor)
    by-stopped (Some false) = refl
    by-stopped None = refl

-- what is computed for a reload is permitted, and sends nothing
pub reload-makes : (site : Site) (w : World) (processor : ℕ) (done : Done) → reload_done site processor w ≡ Some done
    → Change site w (Reloading processor) [] done.world
reload-makes site w processor done e =
    subst (λ s. Change site w (Reloading processor) s done.world)
    (ap sendings_of (sym e) ∙ reload-silent site w processor) (reload-may site processor w done e)

reloaded-as : (site : Site) (w : World) (processor : ℕ) (done : Option Done) → reload_done site processor w ≡ done
    → Follows site w (Reload processor) [] (world_after w done)
reloaded-as site w processor None e =
    cannot_reload (idle-where site w (Reloading processor) (reload_done site processor w)
    (λ next sendings c. reload-only processor w next sendings c) e)
reloaded-as site w processor (Some done) e = reloads (reload-makes site w processor done e)

pub reload-follows : (site : Site) (w : World) (processor : ℕ)
    → Follows site w (Reload processor) [] (world_after w (reload_done site processor w))
reload-follows site w processor = reloaded-as site w processor (reload_done site processor w) refl
