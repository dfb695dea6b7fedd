-- A stop and a reload: what each makes of the world and the wires is what it makes of the machine.
use Rattle.std.proofs.Common.{◌≡◌, ℕ, Bool, true, false, Option, Some, None, is_some, slice_get, ap, sym, subst, ◌∙◌}
use Rattle.world_semantics.specs.Running.{Done}
use Rattle.world_semantics.specs.World.{is_whole}
use Rattle.message_wires.specs.computed_changes.specs.Stopped.{stop_done, stop_if, stop_where, stopped_world}
use Rattle.machine_states.specs.States.{Settles}
use Rattle.machine_states.specs.declared.effect.Effect.{Effect}
use Rattle.machine_states.specs.declared.effect.Effect.TheVariants as effect
use Rattle.message_wires.specs.Play.{MachineState, reload_played, stop_played}
use Rattle.message_wires.specs.Wires.{wires_after_reload}
use Rattle.pair_machine.specs.Told.{unsent}

-- the stop of a processor that runs, told of whether the world is whole
stop-by : (processor : ℕ) (s : MachineState) → slice_get s.world.stopped processor ≡ Some false
    → (whole : Bool) → is_whole s.world ≡ whole → stop_done processor s.world ≡ stop_if processor s.world whole
stop-by processor s there whole is =
    ap (stop_where processor s.world) there ∙ ap (stop_if processor s.world) is

pub stops-whole : (processor : ℕ) (s after : MachineState) (answer : Effect)
    → slice_get s.world.stopped processor ≡ Some false → is_whole s.world ≡ true → answer ≡ effect.Done
    → after ≡ record s { world = stopped_world processor s.world }
    → Settles (stop_played processor s (stop_done processor s.world)) s answer after
stops-whole processor s after answer there whole done stopped =
    subst (λ (made : Option Done). Settles (stop_played processor s made) s answer after)
    (sym (stop-by processor s there true whole)) (done, stopped)

pub stops-none : (processor : ℕ) (s after : MachineState) (answer : Effect)
    → slice_get s.world.stopped processor ≡ Some false → is_whole s.world ≡ false
    → answer ≡ effect.WouldStopSecond processor → after ≡ s
    → Settles (stop_played processor s (stop_done processor s.world)) s answer after
stops-none processor s after answer there whole would same =
    subst (λ (made : Option Done). Settles (stop_played processor s made) s answer after)
    (sym (stop-by processor s there false whole)) (would, same)

pub reloads-none : (processor : ℕ) (s after : MachineState) (answer : Effect) (done : Option Done)
    → is_some done ≡ false → answer ≡ effect.Skipped → after ≡ unsent s done
    → Settles (reload_played processor s done) s answer after
reloads-none processor s after answer None none skipped same = (skipped, same)
reloads-none processor s after answer (Some done) none skipped same = absurd (cc)

pub reloads-done : (processor : ℕ) (s mid after : MachineState) (answer : Effect) (done : Option Done)
    → is_some done ≡ true → answer ≡ effect.Done → mid ≡ unsent s done
    → after ≡ record mid { wires = wires_after_reload processor mid.wires }
    → Settles (reload_played processor s done) s answer after
reloads-done processor s mid after answer None some does world wires = absurd (cc)
reloads-done processor s mid after answer (Some done) some does world wires = (
  does,
  wires
      ∙ ap (λ (mid : MachineState). record mid { wires = wires_after_reload processor mid.wires }) world,
)
