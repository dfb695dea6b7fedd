-- A server that takes a request and stops is played to its idle end.
use Rattle.std.proofs.Common.{◌≡◌, true, [], ◌∷◌, Some, slice_get, refl}
use Rattle.std.specs.Int.{int_wrap}
use Rattle.std.specs.Option.{option_map}
use denote.Hole.Carrier.{shown, out}
use Rattle.tal_tree.specs.declared.act.Act.TheVariants.{Step, Take}
use Rattle.tal_tree.specs.declared.statement.What.{out-What}
use Rattle.tal_tree.specs.declared.statement.What.TheBlock.{shown-the_row-Statement-0}
use Rattle.process_semantics.specs.declared.point.Point.TheVariants.{Ended}
use Rattle.process_semantics.specs.Process.{point}
use Rattle.message_wires.specs.Idle.{is_idle}
use Rattle.message_wires.specs.Play.{machine_at_boot}
use Rattle.message_wires.specs.Runs.{IsPlayed, played_none}
use Rattle.played_laws.specs.Leaving.{leaving_end, leaving_events, leaving_site}
use Rattle.played_laws.proofs.Played.{are_played, played-on}

all-played : are_played (machine_at_boot leaving_site) leaving_events ≡ true
unfolding out-What shown-the_row-Statement-0 shown out int_wrap
all-played = refl

pub leaving-played : IsPlayed leaving_site leaving_events leaving_end
leaving-played = played-on (machine_at_boot leaving_site) leaving_events played_none all-played

pub leaving-idle : is_idle leaving_end ≡ true
unfolding out-What shown-the_row-Statement-0 shown out int_wrap
leaving-idle = refl

pub leaving-holds : option_map (λ pair. pair.first.held) (slice_get leaving_end.world.processes 0)
    ≡ Some (Step 0 ∷ Take 0 0 ∷ [])
unfolding out-What shown-the_row-Statement-0 shown out int_wrap
leaving-holds = refl

pub leaving-ends : option_map (λ pair. point pair.first.core.state) (slice_get leaving_end.world.processes 0)
    ≡ Some Ended
unfolding out-What shown-the_row-Statement-0 shown out int_wrap
leaving-ends = refl
