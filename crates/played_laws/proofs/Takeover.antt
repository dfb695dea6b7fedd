-- The takeover of the adder is played to its idle end, and so is the run with a reload.
use Rattle.std.proofs.Common.{◌≡◌, ◌<◌, ◌≢◌, ℕ, zero, suc, pos, true, [], ◌∷◌, Some, slice_get}
use Rattle.std.proofs.Common.{reverse, refl, arith, subst}
use Rattle.std.specs.Int.{int_wrap}
use denote.Hole.Carrier.{shown, out}
use Rattle.tal_tree.specs.declared.statement.What.{out-What}
use Rattle.tal_tree.specs.declared.statement.What.TheBlock.{shown-the_row-Statement-0}
use Rattle.tal_tree.specs.declared.site.ProcessSpec.{ProcessSpec}
use Rattle.world_semantics.specs.Examples.{adder_for, reply}
use Rattle.world_semantics.proofs.Lists.{some-same}
use Rattle.awaited_requests.specs.Seats.{IsLaidOut}
use Rattle.message_wires.specs.Examples.{adder_at_boot}
use Rattle.message_wires.specs.Idle.{is_idle}
use Rattle.message_wires.specs.Runs.{IsPlayed, played_none}
use Rattle.played_laws.specs.Takeover.{adder_end, reload_end, reload_to_the_end, takeover_to_the_end}
use Rattle.played_laws.proofs.Played.{are_played, played-on}

pub adder-out : IsLaidOut (adder_for (pos 5 ∷ []))
adder-out = record { few = omega arith; places = places }
  where
    places : (number : ℕ) (spec : ProcessSpec) → slice_get (adder_for (pos 5 ∷ [])).processes number ≡ Some spec
        → (spec.primary < 2) × (spec.backup < 2) × (spec.primary ≢ spec.backup)
    places zero spec there =
        subst (λ (one : ProcessSpec). (one.primary < 2) × (one.backup < 2) × (one.primary ≢ one.backup))
        (some-same there)
        (omega arith, omega arith, λ same. absurd (cc))
    places (suc number) spec there = absurd (cc)

all-played : are_played adder_at_boot takeover_to_the_end ≡ true
unfolding out-What shown-the_row-Statement-0 shown out int_wrap
all-played = refl

pub adder-played : IsPlayed (adder_for (pos 5 ∷ [])) takeover_to_the_end adder_end
adder-played = played-on adder_at_boot takeover_to_the_end played_none all-played

pub adder-idle : is_idle adder_end ≡ true
unfolding out-What shown-the_row-Statement-0 shown out int_wrap
adder-idle = refl

pub adder-shown : reverse adder_end.world.shown ≡ reply 0 (pos 5) ∷ []
unfolding out-What shown-the_row-Statement-0 shown out int_wrap
adder-shown = refl

all-reloaded : are_played adder_at_boot reload_to_the_end ≡ true
unfolding out-What shown-the_row-Statement-0 shown out int_wrap
all-reloaded = refl

pub reload-played : IsPlayed (adder_for (pos 5 ∷ [])) reload_to_the_end reload_end
reload-played = played-on adder_at_boot reload_to_the_end played_none all-reloaded

pub reload-idle : is_idle reload_end ≡ true
unfolding out-What shown-the_row-Statement-0 shown out int_wrap
reload-idle = refl

pub reload-shown : reverse reload_end.world.shown ≡ reply 0 (pos 5) ∷ []
unfolding out-What shown-the_row-Statement-0 shown out int_wrap
reload-shown = refl
