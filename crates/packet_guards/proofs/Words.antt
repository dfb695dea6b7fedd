-- What words tell, and what is left, computed.
use Rattle.std.proofs.Common.{◌≡◌, pos, true, false, [], ◌∷◌, Some, None, refl}
use Rattle.std.specs.Int.{int_wrap}
use denote.Hole.Carrier.{shown, out}
use Rattle.tal_tree.specs.declared.statement.What.{out-What}
use Rattle.tal_tree.specs.declared.statement.What.TheBlock.{shown-the_row-Statement-0}
use Rattle.schedule.specs.declared.event.Event.TheVariants as event
use Rattle.message_layout.specs.Messages.{Declaring}
use Rattle.message_layout.specs.Reading.{understood}
use Rattle.packet_wires.specs.Idle.{is_idle}
use Rattle.packet_wires.specs.Sights.{end_of}
use Rattle.packet_wires.specs.Examples.{adder_at_boot, served, up_to_checkpoint}

pub what-is-not-there-is-dropped-none : understood adder_at_boot.site (pos 8 ∷ pos 0 ∷ []) ≡ None
unfolding out-What shown-the_row-Statement-0 shown out int_wrap
what-is-not-there-is-dropped-none = refl

pub what-is-not-there-is-dropped-more : understood adder_at_boot.site (pos 6 ∷ pos 0 ∷ pos 0 ∷ []) ≡ None
unfolding out-What shown-the_row-Statement-0 shown out int_wrap
what-is-not-there-is-dropped-more = refl

pub what-is-not-there-is-dropped-down : understood adder_at_boot.site (pos 6 ∷ pos 1 ∷ []) ≡ Some (Declaring 1)
unfolding out-What shown-the_row-Statement-0 shown out int_wrap
what-is-not-there-is-dropped-down = refl

pub what-is-not-there-is-dropped-processor : understood adder_at_boot.site (pos 6 ∷ pos 2 ∷ []) ≡ None
unfolding out-What shown-the_row-Statement-0 shown out int_wrap
what-is-not-there-is-dropped-processor = refl

pub what-is-not-there-is-dropped-terminals : understood adder_at_boot.site (pos 6 ∷ pos 16 ∷ []) ≡ None
unfolding out-What shown-the_row-Statement-0 shown out int_wrap
what-is-not-there-is-dropped-terminals = refl

pub what-is-not-there-is-dropped-member : understood adder_at_boot.site (pos 5 ∷ pos 0 ∷ pos 4 ∷ []) ≡ None
unfolding out-What shown-the_row-Statement-0 shown out int_wrap
what-is-not-there-is-dropped-member = refl

pub what-is-not-there-is-dropped-process :
    understood adder_at_boot.site (pos 1 ∷ pos 1 ∷ pos 0 ∷ pos 0 ∷ pos 1 ∷ pos 0 ∷ []) ≡ None
unfolding out-What shown-the_row-Statement-0 shown out int_wrap
what-is-not-there-is-dropped-process = refl

pub what-is-not-there-is-dropped-opener :
    understood adder_at_boot.site (pos 1 ∷ pos 0 ∷ pos 1 ∷ pos 0 ∷ pos 1 ∷ pos 0 ∷ []) ≡ None
unfolding out-What shown-the_row-Statement-0 shown out int_wrap
what-is-not-there-is-dropped-opener = refl

pub what-is-left-is-not-idle-outstanding : is_idle (end_of adder_at_boot up_to_checkpoint) ≡ false
unfolding out-What shown-the_row-Statement-0 shown out int_wrap
what-is-left-is-not-idle-outstanding = refl

pub what-is-left-is-not-idle-unmarked : is_idle (end_of served (event.Fail 1 ∷ [])) ≡ false
unfolding out-What shown-the_row-Statement-0 shown out int_wrap
what-is-left-is-not-idle-unmarked = refl

pub what-is-left-is-not-idle-idle : is_idle served ≡ true
unfolding out-What shown-the_row-Statement-0 shown out int_wrap
what-is-left-is-not-idle-idle = refl
