-- The worked run of a reload, played.
use Rattle.std.proofs.Common.{◌≡◌, pos, true, false, [], ◌∷◌, map, refl}
use Rattle.std.specs.Int.{int_wrap}
use denote.Hole.Carrier.{shown, out}
use Rattle.tal_tree.specs.declared.statement.What.{out-What}
use Rattle.tal_tree.specs.declared.statement.What.TheBlock.{shown-the_row-Statement-0}
use Rattle.schedule.specs.declared.event.Event.TheVariants as event
use Rattle.computed_changes.specs.world_semantics.specs.Examples.{delivery, reply, run}
use Rattle.computed_changes.specs.world_semantics.specs.declared.role.Role.TheVariants.{Watching}
use Rattle.machine_states.specs.States.{Would, SecondStop}
use Rattle.message_wires.specs.Examples.{adder_at_boot, adder_reloaded, adder_renewed, asks, buses_from}
use Rattle.message_wires.specs.Examples.{buses_of_renewal, buses_to_reload, end_of, renewal, second_takeover, sight}
use Rattle.message_wires.specs.Examples.{until_reload}
use Rattle.message_wires.specs.Play.{play}

pub before : buses_from adder_at_boot until_reload ≡ buses_to_reload
unfolding out-What shown-the_row-Statement-0 shown out int_wrap
before = refl

pub after : buses_from adder_reloaded renewal ≡ buses_of_renewal
unfolding out-What shown-the_row-Statement-0 shown out int_wrap
after = refl

pub waits : map (λ pair. pair.first.waiting) adder_renewed.world.processes ≡ [] ∷ []
unfolding out-What shown-the_row-Statement-0 shown out int_wrap
waits = refl

pub roles : map (λ pair. pair.first.role) adder_renewed.world.processes ≡ Watching ∷ []
unfolding out-What shown-the_row-Statement-0 shown out int_wrap
roles = refl

pub unpaid : map sight adder_renewed.wires.owed ≡ asks 1 ∷ []
unfolding out-What shown-the_row-Statement-0 shown out int_wrap
unpaid = refl

pub in_parts : play adder_reloaded (event.Fail 1) ≡ Would (SecondStop 1)
unfolding out-What shown-the_row-Statement-0 shown out int_wrap
in_parts = refl

pub on_its_way : play (end_of adder_reloaded (delivery ∷ run ∷ [])) (event.Fail 1) ≡ Would (SecondStop 1)
unfolding out-What shown-the_row-Statement-0 shown out int_wrap
on_its_way = refl

pub stopped : (end_of adder_renewed (event.Fail 1 ∷ [])).world.stopped ≡ false ∷ true ∷ []
unfolding out-What shown-the_row-Statement-0 shown out int_wrap
stopped = refl

pub said : (end_of adder_renewed second_takeover).world.shown ≡ reply 0 (pos 5) ∷ []
unfolding out-What shown-the_row-Statement-0 shown out int_wrap
said = refl

pub paid : (end_of adder_renewed second_takeover).wires.owed ≡ []
unfolding out-What shown-the_row-Statement-0 shown out int_wrap
paid = refl
