-- What is played leaves a whole world whole, unless it is a stop; and what would stop a processor in another one is a
-- stop.
use Rattle.std.proofs.Common.{◌≡◌, inl, inr, ℕ, Bool, true, false, Option, Some, None, slice_get, refl, ap, subst, ◌∙◌}
use Rattle.schedule.specs.declared.event.Event.{Event}
use Rattle.schedule.specs.declared.event.Event.TheVariants.{Run, Enter, Deliver, Lose, Repeat, Tick, Fail, Reload}
use Rattle.schedule.specs.declared.event.Event.TheVariants.{Drive}
use Rattle.world_semantics.specs.World.{is_whole}
use Rattle.computed_changes.specs.Stopped.{stop_if, stop_where}
use Rattle.machine_states.specs.States.{Would, SecondStop}
use Rattle.message_wires_laws.specs.message_wires.specs.Play.{MachineState, fail_played, play, stop_played}
use Rattle.schedule_runs.specs.Rules.{pair_rules}
use Rattle.schedule_runs.specs.schedule_loop.specs.Rules.{IsPlayBy}
use Rattle.message_wires_laws.proofs.Calm.{KeepsWhole, whole-kept, whole-played}
use Rattle.single_stops.specs.StopsAsked.{stops_in}

-- what asks for no stop isn't one
no-stop : (event : Event) → stops_in event 1 ≡ 0 → (processor : ℕ) → event ≡ Fail processor → ⊥
no-stop event calm processor same = let one = ap (λ (e : Event). stops_in e 1) same in cc

pub calm-kept : (s : MachineState) (event : Event) (next : MachineState) → stops_in event 1 ≡ 0
    → IsPlayBy pair_rules s event next → is_whole s.world ≡ true → is_whole next.world ≡ true
calm-kept s event next calm (inl made) whole = whole-kept s event next whole (no-stop event calm) made
calm-kept s event next calm (inr skipped) whole = ap (λ (w : MachineState). is_whole w.world) skipped.1 ∙ whole

second-parts : (processor one : ℕ) (s : MachineState)
    → fail_played processor s (slice_get s.world.stopped processor) ≡ Would (SecondStop one)
    → is_whole s.world ≡ false
second-parts processor one s would = by (slice_get s.world.stopped processor) refl would
  where
    first : (whole : Bool) → is_whole s.world ≡ whole
        → stop_played processor s (stop_if processor s.world whole) ≡ Would (SecondStop one) → is_whole s.world ≡ false
    first true e would = absurd (cc)
    first false e would = e

    by : (stopped : Option Bool) → slice_get s.world.stopped processor ≡ stopped
        → fail_played processor s stopped ≡ Would (SecondStop one) → is_whole s.world ≡ false
    by None e would = absurd (cc)
    by (Some true) e would = absurd (cc)
    by (Some false) e would =
        first (is_whole s.world) refl
        (subst (λ stopped. stop_played processor s (stop_where processor s.world stopped) ≡ Would (SecondStop one)) e
        would)

none : (s : MachineState) (event : Event) (one : ℕ) → stops_in event 1 ≡ 0 → play s event ≡ Would (SecondStop one) → ⊥
none s event one calm would = subst (KeepsWhole s) would (whole-played s event (no-stop event calm))

-- what would stop a second processor is a stop in a world that isn't whole
pub would-stop : (s : MachineState) (event : Event) (one : ℕ) → play s event ≡ Would (SecondStop one)
    → (stops_in event 1 ≡ 1) × (is_whole s.world ≡ false)
would-stop s (Fail processor) one would = (refl, second-parts processor one s would)
would-stop s (Run number) one would = absurd (none s (Run number) one refl would)
would-stop s (Enter number) one would = absurd (none s (Enter number) one refl would)
would-stop s (Deliver bus k) one would = absurd (none s (Deliver bus k) one refl would)
would-stop s (Lose bus k) one would = absurd (none s (Lose bus k) one refl would)
would-stop s (Repeat bus k) one would = absurd (none s (Repeat bus k) one refl would)
would-stop s (Tick node) one would = absurd (none s (Tick node) one refl would)
would-stop s (Reload processor) one would = absurd (none s (Reload processor) one refl would)
would-stop s (Drive event) one would = absurd (none s (Drive event) one refl would)
