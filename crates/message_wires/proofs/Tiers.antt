-- The worked run of two tiers, played.
use Rattle.std.proofs.Common.{◌≡◌, pos, true, [], ◌∷◌, refl}
use Rattle.std.specs.Int.{int_wrap}
use denote.Hole.Carrier.{shown, out}
use Rattle.tal_tree.specs.declared.statement.What.{out-What}
use Rattle.tal_tree.specs.declared.statement.What.TheBlock.{shown-the_row-Statement-0}
use Rattle.tal_tree.specs.declared.act.Shown.TheVariants.{Reply}
use Rattle.message_wires.specs.Idle.{is_idle}
use Rattle.message_wires.specs.Tiers.{in_hand, before_stop, stopped_after, after_rounds}

pub both_serve : in_hand (before_stop 12) ≡ true ∷ true ∷ []
unfolding out-What shown-the_row-Statement-0 shown out int_wrap
both_serve = refl

pub idle : is_idle (after_rounds 24 (stopped_after 12)) ≡ true
unfolding out-What shown-the_row-Statement-0 shown out int_wrap
idle = refl

pub said : (after_rounds 24 (stopped_after 12)).world.shown ≡ Reply 0 2 (pos 12 ∷ []) ∷ Reply 0 1 (pos 5 ∷ []) ∷ []
unfolding out-What shown-the_row-Statement-0 shown out int_wrap
said = refl

pub paid : (after_rounds 24 (stopped_after 12)).wires.owed ≡ []
unfolding out-What shown-the_row-Statement-0 shown out int_wrap
paid = refl
