-- The worked runs, played.
use Rattle.std.proofs.Common.{◌≡◌, pos, [], ◌∷◌, refl}
use Rattle.std.specs.Int.{int_wrap}
use denote.Hole.Carrier.{shown, out}
use Rattle.tal_tree.specs.declared.statement.What.{out-What}
use Rattle.tal_tree.specs.declared.statement.What.TheBlock.{shown-the_row-Statement-0}
use Rattle.schedule.specs.declared.event.Event.TheVariants as event
use Rattle.tal_tree.specs.declared.act.Act.TheVariants as act
use Rattle.computed_changes.specs.world_semantics.specs.Examples.{delivery, reply, run}
use Rattle.message_wires.specs.Examples.{adder_at_boot, after_checkpoint, answers, asks, buses_from, buses_of_takeover}
use Rattle.message_wires.specs.Examples.{buses_to_checkpoint, checkpoint, end_of, told, until_dropped, up_to_checkpoint}

pub before : buses_from adder_at_boot up_to_checkpoint ≡ buses_to_checkpoint
unfolding out-What shown-the_row-Statement-0 shown out int_wrap
before = refl

pub after : buses_from (end_of adder_at_boot up_to_checkpoint) after_checkpoint ≡ buses_of_takeover
unfolding out-What shown-the_row-Statement-0 shown out int_wrap
after = refl

pub dropped : (end_of (end_of adder_at_boot up_to_checkpoint) until_dropped).world.shown ≡ []
unfolding out-What shown-the_row-Statement-0 shown out int_wrap
dropped = refl

pub said : (end_of (end_of adder_at_boot up_to_checkpoint) after_checkpoint).world.shown ≡ reply 0 (pos 5) ∷ []
unfolding out-What shown-the_row-Statement-0 shown out int_wrap
said = refl

pub paid : (end_of (end_of adder_at_boot up_to_checkpoint) after_checkpoint).wires.owed ≡ []
unfolding out-What shown-the_row-Statement-0 shown out int_wrap
paid = refl

pub in_time : buses_from (end_of adder_at_boot up_to_checkpoint) (event.Fail 0 ∷ delivery ∷ event.Tick 1 ∷ run ∷ [])
    ≡ (checkpoint ∷ []) ∷ (told ∷ []) ∷ (told ∷ []) ∷ (told ∷ answers 1 ∷ []) ∷ []
unfolding out-What shown-the_row-Statement-0 shown out int_wrap
in_time = refl

pub late : buses_from (end_of adder_at_boot up_to_checkpoint)
    (event.Fail 0 ∷ event.Tick 1 ∷ delivery ∷ event.Tick 16 ∷ [])
    ≡ (checkpoint ∷ []) ∷ (checkpoint ∷ []) ∷ [] ∷ (asks 1 ∷ []) ∷ []
unfolding out-What shown-the_row-Statement-0 shown out int_wrap
late = refl

pub left : (end_of (end_of adder_at_boot up_to_checkpoint) (event.Fail 0 ∷ event.Tick 1 ∷ delivery ∷ [])).world.kept
    ≡ act.Step 0 ∷ act.Step 0 ∷ act.Step 0 ∷ act.Enter 0 ∷ []
unfolding out-What shown-the_row-Statement-0 shown out int_wrap
left = refl
