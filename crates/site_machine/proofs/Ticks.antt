-- A tick, and what becomes of the line that it pulls.
use Rattle.std.specs.Option.{option_and_then}
use Rattle.std.proofs.Common.{◌≡◌, ℕ, ◌==◌, Bool, true, false, if◌then◌else◌, List, Option, Some, slice_get, map, refl}
use Rattle.std.proofs.Common.{ap, sym, subst, ◌∙◌}
use Rattle.node.specs.world_semantics.specs.declared.which.Which.TheVariants.{First, Second}
use Rattle.node.specs.world_semantics.specs.declared.role.Role.TheVariants.{Gone, Watching}
use Rattle.node.specs.world_semantics.specs.Rules.{stopped_copy, stopped_pair}
use Rattle.node.specs.world_semantics.specs.Running.{Done}
use Rattle.node.specs.world_semantics.specs.World.{Copy, Pair, is_running, is_whole}
use Rattle.node.specs.world_semantics.proofs.Lists.{map-all}
use Rattle.node.specs.computed_changes.specs.Stopped.{stopped_world}
use Rattle.node.specs.machine_states.specs.States.{Settles, Skips}
use Rattle.node.specs.machine_states.specs.declared.effect.Effect.{Effect}
use Rattle.node.specs.machine_states.specs.declared.effect.Effect.TheVariants as effect
use Rattle.open_links.specs.world_copies.specs.message_wires.specs.HasRoom.{CopyHasRoom}
use Rattle.node.specs.packet_wires.specs.Lines.{line_pulled}
use Rattle.node.specs.packet_wires.specs.Play.{Packeted, ended, line_of, marks_and_declares, over, pulled, pulls}
use Rattle.node.specs.packet_wires.specs.Play.{pulled_running, pulls_its}
use Rattle.node.specs.packet_wires.specs.Wires.{nothing_sent, midst_after_tick}
use Rattle.node.specs.event_parts.specs.Numbers.{CanPush}
use Rattle.node.specs.event_parts.specs.Parts.{carried_out}
use Rattle.node.specs.event_parts.proofs.Numbers.{can-ticked}
use Rattle.open_links.specs.world_copies.specs.Room.{AllWatchersHaveRoom, WatchersHaveRoom}
use Rattle.site_machine.specs.Needs.{IsReady}
use Rattle.site_machine.specs.Told.{after_part, in_tick}
use Rattle.site_machine.proofs.Stops.{stop-by}
use Rattle.site_machine.proofs.Turns.{declared-in-turn}

-- what the next event needs gives what a tick's parts need

pub ready-can : (s : Packeted) → IsReady s → CanPush s.wires.nodes
ready-can s ready x node there y e has up idle = (ready.numbers x y node e there has).0

pub ticked-can : (s after : Packeted) (node : ℕ) → IsReady s
    → after ≡ record s { wires = carried_out (midst_after_tick s.site.processors node) s.wires }
    → CanPush after.wires.nodes
ticked-can s after node ready same =
    subst (λ (one : Packeted). CanPush one.wires.nodes) (sym same)
    (can-ticked s.site.processors node (nothing_sent s.wires.nodes) (ready-can s ready))

pub ready-watching : (s : Packeted) → IsReady s → AllWatchersHaveRoom s.world.processes
ready-watching s ready number pair there k watches = ready.room.processes number pair there k

-- a stop leaves room to the copies that still watch
still : (processor : ℕ) (copy : Copy) → (copy.role ≡ Watching → CopyHasRoom copy)
    → (stopped_copy processor copy).role ≡ Watching → CopyHasRoom (stopped_copy processor copy)
still processor copy room watches = by (copy.processor == processor) room watches
  where
    by : (here : Bool) → (copy.role ≡ Watching → CopyHasRoom copy)
        → (if here then Gone else copy.role) ≡ Watching
        → CopyHasRoom (record copy { role = if here then Gone else copy.role })
    by true room is = absurd cc
    by false room is = room is

stopped-one : (processor : ℕ) (pair : Pair) → WatchersHaveRoom pair → WatchersHaveRoom (stopped_pair processor pair)
stopped-one processor pair room First watches = still processor pair.first (room First) watches
stopped-one processor pair room Second watches = still processor pair.second (room Second) watches

pub stopped-watching : (processor : ℕ) (pairs : List Pair) → AllWatchersHaveRoom pairs
    → AllWatchersHaveRoom (map (stopped_pair processor) pairs)
stopped-watching processor pairs room =
    map-all (λ number. WatchersHaveRoom) (stopped_pair processor) pairs
    (λ number pair there. stopped-one processor pair (room number pair there))

-- what a tick makes of a state, by the line that it pulls

abbrev pub line_in : ℕ → ℕ → Packeted → Option ℕ
line_in processors node s =
    option_and_then (line_pulled node) (slice_get
    (midst_after_tick processors node (nothing_sent s.wires.nodes)).nodes node)

pub tick-settles : (s after : Packeted) (answer : Effect) (node : ℕ) (line : Option ℕ)
    → is_running s.world.stopped node ≡ true → line ≡ line_of node (in_tick node s)
    → Settles (ended s.wires (pulls node (in_tick node s) line)) s answer after
    → Settles (ended s.wires (if is_running s.world.stopped node then pulls_its node (in_tick node s) else Skips)) s
    answer after
tick-settles s after answer node line runs is settles =
    subst (λ (b : Bool). Settles (ended s.wires (if b then pulls_its node (in_tick node s) else Skips)) s answer after)
    (sym runs)
    (subst (λ (found : Option ℕ). Settles (ended s.wires (pulls node (in_tick node s) found)) s answer after) is
    settles)

-- the line of a processor that has stopped is pulled
pub stopped-pulled : (s mid after : Packeted) (node processor : ℕ)
    → mid ≡ record s { wires = carried_out (midst_after_tick s.site.processors node) s.wires }
    → after ≡ after_part (marks_and_declares node processor) mid
    → after ≡ over s.wires (marks_and_declares node processor (in_tick node s))
stopped-pulled s mid after node processor ticks marks =
    marks ∙ ap (after_part (marks_and_declares node processor)) ticks
    ∙ sym (declared-in-turn (midst_after_tick s.site.processors node) node processor s)

-- the line of one that runs is pulled, and it stops
pub running-pulled : (s mid halted after : Packeted) (node processor : ℕ)
    → mid ≡ record s { wires = carried_out (midst_after_tick s.site.processors node) s.wires }
    → halted ≡ record mid { world = stopped_world processor mid.world }
    → after ≡ after_part (marks_and_declares node processor) halted
    → after ≡ over s.wires (marks_and_declares node processor
    (record (in_tick node s) { world = stopped_world processor s.world }))
running-pulled s mid halted after node processor ticks halts marks =
    marks
    ∙ ap (after_part (marks_and_declares node processor))
    (halts ∙ ap (λ (one : Packeted). record one { world = stopped_world processor one.world }) ticks)
    ∙ sym (declared-in-turn (midst_after_tick s.site.processors node) node processor
    (record s { world = stopped_world processor s.world }))

pub first-settles : (s after : Packeted) (node processor : ℕ) → slice_get s.world.stopped processor ≡ Some false
    → is_whole s.world ≡ true
    → after ≡ over s.wires (marks_and_declares node processor
    (record (in_tick node s) { world = stopped_world processor s.world }))
    → Settles (ended s.wires (pulled node processor (in_tick node s) (Some false))) s effect.Done after
first-settles s after node processor runs whole same =
    subst (λ (made : Option Done). Settles (ended s.wires (pulled_running node processor (in_tick node s) made)) s
    effect.Done after) (sym (stop-by processor s.world true runs whole)) (refl, same)

-- it would stop in a world that isn't whole
pub none-settles : (s after : Packeted) (node processor : ℕ) → slice_get s.world.stopped processor ≡ Some false
    → is_whole s.world ≡ false → after ≡ s
    → Settles (ended s.wires (pulled node processor (in_tick node s) (Some false))) s
    (effect.WouldStopSecond processor) after
none-settles s after node processor runs whole same =
    subst (λ (made : Option Done). Settles (ended s.wires (pulled_running node processor (in_tick node s) made)) s
    (effect.WouldStopSecond processor) after) (sym (stop-by processor s.world false runs whole)) (refl, same)
