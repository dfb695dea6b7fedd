-- Whatever is played but a stop leaves a whole world whole, and is no stop in a world that isn't.
use Rattle.std.proofs.Common.{◌≡◌, ◌&&◌, ℕ, Bool, true, false, if◌then◌else◌, length, Option, Some, None, refl, sym, ap}
use Rattle.std.proofs.Common.{subst, ◌∙◌}
use Rattle.schedule.specs.declared.event.Event.{Event}
use Rattle.schedule.specs.declared.event.Event.TheVariants.{Run, Enter, Deliver, Lose, Repeat, Tick, Fail, Reload}
use Rattle.schedule.specs.declared.event.Event.TheVariants.{Drive}
use Rattle.world_semantics.specs.Running.{Done, run_done}
use Rattle.world_semantics.specs.World.{is_running, is_whole}
use Rattle.computed_changes.specs.Entered.{enter_done}
use Rattle.computed_changes.specs.Stopped.{reload_done}
use Rattle.message_wires.specs.machine_states.specs.States.{Played, Makes, Skips, Would, SecondStop, DiscLoss}
use Rattle.message_wires.specs.machine_states.proofs.Turning.{drive-cases}
use Rattle.message_wires.specs.Wires.{Sent, Wires, is_current, paid, without_packet}
use Rattle.message_wires.specs.Play.{MachineState, made_by, after_any, state_after_handing, is_admitted, deliver_played}
use Rattle.message_wires.specs.Play.{lose_played, repeat_played, marks_from, state_after_tick, tick_played, packet_at}
use Rattle.message_wires.specs.Play.{play, reload_played}
use Rattle.message_wires_laws.proofs.Whole.{StaysWhole, enter-whole, handed-whole, none-marked-in, none-reloaded}
use Rattle.message_wires_laws.proofs.Whole.{run-whole}

-- a whole world stays whole, and no processor would stop in another one
abbrev pub KeepsWhole : MachineState → Played Wires → Type 0
KeepsWhole s (Makes next) = is_whole s.world ≡ true → is_whole next.world ≡ true
KeepsWhole s Skips = Unit {0}
KeepsWhole s (Would (SecondStop processor)) = ⊥
KeepsWhole s (Would (DiscLoss process)) = Unit {0}

module _ (s : MachineState) where
  made-whole : (done : Option Done) → StaysWhole s.world done → KeepsWhole s (made_by s done)
  made-whole None stays = tt
  made-whole (Some done) stays = stays

  deliver-whole : (k : ℕ) (packet : Option Sent) → KeepsWhole s (deliver_played k s packet)
  deliver-whole k None = tt
  deliver-whole k (Some packet) =
      by (is_current s.wires.before packet && is_admitted (record s { wires = without_packet k s.wires }) packet.letter)
    where
      any : (done : Option Done) → StaysWhole s.world done
          → KeepsWhole s (Makes (after_any (record s { wires = paid packet.number (without_packet k s.wires) }) done))
      any None stays = λ whole. whole
      any (Some done) stays = stays

      by : (test : Bool) → KeepsWhole s (Makes (if test then state_after_handing packet
          (record s { wires = without_packet k s.wires }) else record s { wires = without_packet k s.wires }))
      by true = any _ (handed-whole s.site s.world packet.letter.receiver packet.letter.message)
      by false = λ whole. whole

  lose-whole : (k : ℕ) (packet : Option Sent) → KeepsWhole s (lose_played k s packet)
  lose-whole k None = tt
  lose-whole k (Some packet) = λ whole. whole

  repeat-whole : (packet : Option Sent) → KeepsWhole s (repeat_played s packet)
  repeat-whole None = tt
  repeat-whole (Some packet) = λ whole. whole

  tick-whole : (node : ℕ) → KeepsWhole s (tick_played node s)
  tick-whole node = by (is_running s.world.stopped node)
    where
      by : (test : Bool) → KeepsWhole s (if test then Makes
          (state_after_tick node (marks_from node 0 (length s.world.stopped) s)) else Skips)
      by true = λ whole.
          ap (λ (end : MachineState). is_whole end.world) (none-marked-in node 0 (length s.world.stopped) s whole)
          ∙ whole
      by false = tt

  reload-whole : (processor : ℕ) → KeepsWhole s (reload_played processor s (reload_done s.site processor s.world))
  reload-whole processor = by (reload_done s.site processor s.world) refl
    where
      by : (done : Option Done) → reload_done s.site processor s.world ≡ done
          → KeepsWhole s (reload_played processor s done)
      by None e = tt
      by (Some done) e = λ whole.
          (let none = sym (none-reloaded s.site s.world processor whole) ∙ e in absurd (cc))

  pub whole-played : (event : Event) → ((processor : ℕ) → event ≡ Fail processor → ⊥) → KeepsWhole s (play s event)
  whole-played (Run number) calm = made-whole (run_done s.site number s.world) (run-whole s.site s.world number)
  whole-played (Enter number) calm = made-whole (enter_done s.site number s.world) (enter-whole s.site s.world number)
  whole-played (Deliver bus k) calm = deliver-whole k (packet_at s bus k)
  whole-played (Lose bus k) calm = lose-whole k (packet_at s bus k)
  whole-played (Repeat bus k) calm = repeat-whole (packet_at s bus k)
  whole-played (Tick node) calm = tick-whole node
  whole-played (Fail processor) calm = absurd (calm processor refl)
  whole-played (Reload processor) calm = reload-whole processor
  whole-played (Drive event) calm =
      drive-cases event s (KeepsWhole s) (λ drives whole. whole) tt (λ process. tt)

  pub whole-kept : (event : Event) (next : MachineState) → is_whole s.world ≡ true
      → ((processor : ℕ) → event ≡ Fail processor → ⊥) → play s event ≡ Makes next → is_whole next.world ≡ true
  whole-kept event next whole calm made = subst (KeepsWhole s) made (whole-played event calm) whole
