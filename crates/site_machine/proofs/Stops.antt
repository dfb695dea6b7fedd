-- A processor that stops, and one that is loaded again: what becomes of the world and of the wires is what becomes of
-- the machine.
use Rattle.std.specs.Option.{unwrap_or}
use Rattle.std.proofs.Common.{◌≡◌, ℕ, ◌<◌, ◌&&◌, Bool, true, false, nat_lt, Option, Some, None, is_some, slice_get}
use Rattle.std.proofs.Common.{refl}
use Rattle.std.proofs.Common.{ap, sym, subst, ◌∙◌}
use Rattle.std.proofs.lemmas.Bool.{ltb-true}
use Rattle.tal_tree.specs.declared.site.Site.{Site}
use Rattle.node.specs.world_semantics.specs.Rules.{most_reloads}
use Rattle.node.specs.world_semantics.specs.Running.{Done}
use Rattle.node.specs.world_semantics.specs.World.{World, is_marked_by_all, is_whole}
use Rattle.node.specs.computed_changes.specs.Stopped.{reload_counted, reload_done, reload_if, reload_where, stop_done}
use Rattle.node.specs.computed_changes.specs.Stopped.{stop_if}
use Rattle.node.specs.computed_changes.specs.Stopped.{stop_where, stopped_world}
use Rattle.node.specs.machine_states.specs.States.{Settles}
use Rattle.node.specs.machine_states.specs.declared.effect.Effect.TheVariants as effect
use Rattle.node.specs.packet_wires.specs.Play.{Packeted, underway, ended, reload_acted, stop_acted}
use Rattle.node.specs.packet_wires.specs.Wires.{loaded_again}
use Rattle.node.specs.event_parts.specs.Numbers.{CanReload}
use Rattle.node.specs.event_parts.specs.Parts.{carried_out}
use Rattle.site_machine.specs.Needs.{AllBearReloads, times_loaded}
use Rattle.site_machine.specs.Told.{unsent}

-- the stop of a processor that runs, told of whether the world is whole
pub stop-by : (processor : ℕ) (w : World) (whole : Bool) → slice_get w.stopped processor ≡ Some false
    → is_whole w ≡ whole → stop_done processor w ≡ stop_if processor w whole
stop-by processor w whole runs is = ap (stop_where processor w) runs ∙ ap (stop_if processor w) is

pub stops-whole : (processor : ℕ) (s after : Packeted) → slice_get s.world.stopped processor ≡ Some false
    → is_whole s.world ≡ true → after ≡ record s { world = stopped_world processor s.world }
    → Settles (ended s.wires (stop_acted processor (underway s) (stop_done processor s.world))) s effect.Done after
stops-whole processor s after runs whole stopped =
    subst (λ (made : Option Done). Settles (ended s.wires (stop_acted processor (underway s) made)) s effect.Done after)
    (sym (stop-by processor s.world true runs whole)) (refl, stopped)

pub stops-none : (processor : ℕ) (s after : Packeted) → slice_get s.world.stopped processor ≡ Some false
    → is_whole s.world ≡ false → after ≡ s
    → Settles (ended s.wires (stop_acted processor (underway s) (stop_done processor s.world))) s
    (effect.WouldStopSecond processor) after
stops-none processor s after runs whole same =
    subst (λ (made : Option Done). Settles (ended s.wires (stop_acted processor (underway s) made)) s
    (effect.WouldStopSecond processor) after)
    (sym (stop-by processor s.world false runs whole)) (refl, same)

-- Reloads

pub reloads-none : (processor : ℕ) (s after : Packeted) (done : Option Done) → is_some done ≡ false
    → after ≡ unsent s done → Settles (ended s.wires (reload_acted processor (underway s) done)) s effect.Skipped after
reloads-none processor s after None none same = (refl, same)
reloads-none processor s after (Some done) none same = absurd (cc)

pub reloads-done : (processor : ℕ) (s mid after : Packeted) (done : Option Done) → is_some done ≡ true
    → mid ≡ unsent s done
    → after ≡ record mid { wires = carried_out (loaded_again mid.site.processors processor) mid.wires }
    → Settles (ended s.wires (reload_acted processor (underway s) done)) s effect.Done after
reloads-done processor s mid after None some world wires = absurd (cc)
reloads-done processor s mid after (Some done) some world wires = (
  refl,
  wires ∙ ap (λ (one : Packeted). record one
      { wires = carried_out (loaded_again one.site.processors processor) one.wires }) world,
)

-- a processor that is loaded again was loaded again fewer than 127 times
free-loads : (times : ℕ) (site : Site) (processor : ℕ) (w : World) (is_marked less : Bool)
    → nat_lt times most_reloads ≡ less
    → is_some (reload_if site processor times w (is_marked && less)) ≡ true → times < most_reloads
free-loads times site processor w true true is some = ltb-true times most_reloads is
free-loads times site processor w true false is some = absurd (cc)
free-loads times site processor w false less is some = absurd (cc)

counted-loads : (site : Site) (processor : ℕ) (w : World) (times : Option ℕ)
    → is_some (reload_counted site processor w times) ≡ true → unwrap_or times 0 < most_reloads
counted-loads site processor w None some = absurd (cc)
counted-loads site processor w (Some times) some =
    free-loads times site processor w (is_marked_by_all w processor) (nat_lt times most_reloads) refl some

loads-few : (site : Site) (processor : ℕ) (w : World) (stopped : Option Bool)
    → is_some (reload_where site processor w stopped) ≡ true → times_loaded w.reloads processor < most_reloads
loads-few site processor w None some = absurd (cc)
loads-few site processor w (Some false) some = absurd (cc)
loads-few site processor w (Some true) some = counted-loads site processor w (slice_get w.reloads processor) some

-- so each end has an incarnation left for it
pub can-reload : (processor : ℕ) (s mid : Packeted) (done : Bool) → AllBearReloads s.world.reloads s.wires.nodes
    → done ≡ is_some (reload_done s.site processor s.world) → done ≡ true
    → mid ≡ unsent s (reload_done s.site processor s.world) → CanReload processor mid.wires.nodes
can-reload processor s mid done bears told does same =
    subst (λ (one : Packeted). CanReload processor one.wires.nodes) (sym same)
    (λ x node there y e has. (
      λ here. subst (λ (n : ℕ). n < most_reloads)
          (sym ((bears x y node e there has).sender ∙ ap (times_loaded s.world.reloads) here)) few,
      λ other. subst (λ (n : ℕ). n < most_reloads)
          (sym ((bears x y node e there has).receiver ∙ ap (times_loaded s.world.reloads) other)) few,
    ))
  where
    few : times_loaded s.world.reloads processor < most_reloads
    few = loads-few s.site processor s.world (slice_get s.world.stopped processor) (sym told ∙ does)
