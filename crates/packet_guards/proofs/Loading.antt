-- What a reload changes over packets, computed.
use Rattle.std.proofs.Common.{◌≡◌, ℕ, true, false, [], ◌∷◌, Option, Some, None, refl}
use Rattle.std.specs.Int.{int_wrap}
use denote.Hole.Carrier.{shown, out}
use Rattle.tal_tree.specs.declared.statement.What.{out-What}
use Rattle.tal_tree.specs.declared.statement.What.TheBlock.{shown-the_row-Statement-0}
use Rattle.schedule.specs.declared.event.Event.TheVariants as event
use Rattle.packet_words.specs.declared.packet.PacketKind.TheVariants.{Alive}
use Rattle.machine_states.specs.States.{Skips, Would, SecondStop}
use Rattle.world_semantics.specs.Running.{Done}
use Rattle.computed_changes.specs.Stopped.{reload_done}
use Rattle.packet_wires.specs.Play.{Packeted, underway, comes_in, ended, out_of, play, reload_acted, sent_by}
use Rattle.packet_wires.specs.Sights.{end_of, state_after}
use Rattle.packet_wires.specs.Examples.{adder_at_boot, loaded_0, taken_over}
use Rattle.packet_guards.specs.States.{bears, has_moved, one_gone, packet, packet_of, ticks, told}

pub a-reload-is-made-once-all-have-marked-runs : play adder_at_boot (event.Reload 0) ≡ Skips
unfolding out-What shown-the_row-Statement-0 shown out int_wrap
a-reload-is-made-once-all-have-marked-runs = refl

pub a-reload-is-made-once-all-have-marked-unmarked : play one_gone (event.Reload 0) ≡ Skips
unfolding out-What shown-the_row-Statement-0 shown out int_wrap
a-reload-is-made-once-all-have-marked-unmarked = refl

pub a-reload-is-made-once-all-have-marked-terminals : play taken_over (event.Reload 0) ≡ Skips
unfolding out-What shown-the_row-Statement-0 shown out int_wrap
a-reload-is-made-once-all-have-marked-terminals = refl

pub a-reload-is-made-once-all-have-marked-marked : (end_of told (event.Reload 0 ∷ [])).world.reloads ≡ 1 ∷ 0 ∷ []
unfolding out-What shown-the_row-Statement-0 shown out int_wrap
a-reload-is-made-once-all-have-marked-marked = refl

pub a-reload-is-made-once-all-have-marked-again : play loaded_0 (event.Reload 0) ≡ Skips
unfolding out-What shown-the_row-Statement-0 shown out int_wrap
a-reload-is-made-once-all-have-marked-again = refl

pub a-reload-is-made-once-all-have-marked-nowhere : play told (event.Reload 2) ≡ Skips
unfolding out-What shown-the_row-Statement-0 shown out int_wrap
a-reload-is-made-once-all-have-marked-nowhere = refl

-- what a reload makes has the buses of before, and sends nothing
pub a-reload-touches-no-bus-x : (s : Packeted) (processor : ℕ)
    → (end_of s (event.Reload processor ∷ [])).wires.x ≡ s.wires.x
a-reload-touches-no-bus-x s processor = by (reload_done s.site processor s.world)
  where
    by : (done : Option Done)
        → (state_after (ended s.wires (reload_acted processor (underway s) done)) s).wires.x ≡ s.wires.x
    by None = refl
    by (Some done) = refl

pub a-reload-touches-no-bus-y : (s : Packeted) (processor : ℕ)
    → (end_of s (event.Reload processor ∷ [])).wires.y ≡ s.wires.y
a-reload-touches-no-bus-y s processor = by (reload_done s.site processor s.world)
  where
    by : (done : Option Done)
        → (state_after (ended s.wires (reload_acted processor (underway s) done)) s).wires.y ≡ s.wires.y
    by None = refl
    by (Some done) = refl

pub a-reload-touches-no-bus-out : (s : Packeted) (processor : ℕ) → sent_by s (event.Reload processor) ≡ []
a-reload-touches-no-bus-out s processor = by (reload_done s.site processor s.world)
  where
    by : (done : Option Done) → out_of (reload_acted processor (underway s) done) ≡ []
    by None = refl
    by (Some done) = refl

pub channels-of-a-loaded-node-begin-anew-own : bears loaded_0 0 1 ≡ Some (record { sender = 1; receiver = 0 })
unfolding out-What shown-the_row-Statement-0 shown out int_wrap
channels-of-a-loaded-node-begin-anew-own = refl

pub channels-of-a-loaded-node-begin-anew-with-it : bears loaded_0 1 0 ≡ Some (record { sender = 0; receiver = 1 })
unfolding out-What shown-the_row-Statement-0 shown out int_wrap
channels-of-a-loaded-node-begin-anew-with-it = refl

pub channels-of-a-loaded-node-begin-anew-itself : bears loaded_0 0 0 ≡ Some (record { sender = 1; receiver = 1 })
unfolding out-What shown-the_row-Statement-0 shown out int_wrap
channels-of-a-loaded-node-begin-anew-itself = refl

pub channels-of-a-loaded-node-begin-anew-terminals : bears loaded_0 16 0 ≡ Some (record { sender = 0; receiver = 1 })
unfolding out-What shown-the_row-Statement-0 shown out int_wrap
channels-of-a-loaded-node-begin-anew-terminals = refl

pub channels-of-a-loaded-node-begin-anew-thrown : has_moved told 1 0 ≡ Some (1, 2, true)
unfolding out-What shown-the_row-Statement-0 shown out int_wrap
channels-of-a-loaded-node-begin-anew-thrown = refl

pub channels-of-a-loaded-node-begin-anew-anew : has_moved loaded_0 1 0 ≡ Some (0, 0, false)
unfolding out-What shown-the_row-Statement-0 shown out int_wrap
channels-of-a-loaded-node-begin-anew-anew = refl

pub channels-of-a-loaded-node-begin-anew-other : bears loaded_0 1 16 ≡ Some (record { sender = 0; receiver = 0 })
unfolding out-What shown-the_row-Statement-0 shown out int_wrap
channels-of-a-loaded-node-begin-anew-other = refl

pub channels-of-a-loaded-node-begin-anew-stays : has_moved loaded_0 1 16 ≡ Some (1, 0, false)
unfolding out-What shown-the_row-Statement-0 shown out int_wrap
channels-of-a-loaded-node-begin-anew-stays = refl

pub only-packets-of-now-come-in-to-it : comes_in (packet_of 0 1 1 0 Alive) (underway loaded_0) ≡ true
unfolding out-What shown-the_row-Statement-0 shown out int_wrap
only-packets-of-now-come-in-to-it = refl

pub only-packets-of-now-come-in-from-it : comes_in (packet_of 1 0 0 1 Alive) (underway loaded_0) ≡ true
unfolding out-What shown-the_row-Statement-0 shown out int_wrap
only-packets-of-now-come-in-from-it = refl

pub only-packets-of-now-come-in-old-to-it : comes_in (packet 1 0 Alive) (underway loaded_0) ≡ false
unfolding out-What shown-the_row-Statement-0 shown out int_wrap
only-packets-of-now-come-in-old-to-it = refl

pub only-packets-of-now-come-in-old-from-it : comes_in (packet 0 1 Alive) (underway loaded_0) ≡ false
unfolding out-What shown-the_row-Statement-0 shown out int_wrap
only-packets-of-now-come-in-old-from-it = refl

pub only-packets-of-now-come-in-early : comes_in (packet_of 0 2 1 0 Alive) (underway loaded_0) ≡ false
unfolding out-What shown-the_row-Statement-0 shown out int_wrap
only-packets-of-now-come-in-early = refl

pub only-packets-of-now-come-in-elsewhere : comes_in (packet 1 16 Alive) (underway loaded_0) ≡ true
unfolding out-What shown-the_row-Statement-0 shown out int_wrap
only-packets-of-now-come-in-elsewhere = refl

pub a-loaded-processor-is-given-two-checks-three : (end_of loaded_0 (ticks 1 3)).world.downs ≡ []
unfolding out-What shown-the_row-Statement-0 shown out int_wrap
a-loaded-processor-is-given-two-checks-three = refl

pub a-loaded-processor-is-given-two-checks-four : play (end_of loaded_0 (ticks 1 3)) (event.Tick 1)
    ≡ Would (SecondStop 0)
unfolding out-What shown-the_row-Statement-0 shown out int_wrap
a-loaded-processor-is-given-two-checks-four = refl
