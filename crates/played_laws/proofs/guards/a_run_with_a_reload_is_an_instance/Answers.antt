use Rattle.std.proofs.Common.{◌∙◌, pos, [], ◌∷◌, arith}
use Rattle.world_semantics.specs.Examples.{adder_for}
use Rattle.accepted_sites.proofs.Pairs.{adders-accepted}
use Rattle.idle_end.proofs.Reached.{end-of}
use Rattle.idle_end.proofs.Still.{none-left, closed-shows-nothing}
use Rattle.played_laws.specs.Takeover.{reload_end, reload_to_the_end}
use Rattle.played_laws.proofs.Joined.{ends}
use Rattle.played_laws.proofs.Takeover.{adder-out, reload-played, reload-idle, reload-shown}
use Rattle.played_laws.proofs.guards.a_run_with_a_reload_is_an_instance.Goals as goal

pub returns : goal.returns
returns c =
    let end = ends (adder_for (pos 5 ∷ [])) (adders-accepted (pos 5 ∷ [])) adder-out reload_to_the_end reload_end
    (omega arith) reload-played reload-idle in
    record {
      played = reload-played;
      idle = reload-idle;
      none = none-left (end-of end.1);
      shown = closed-shows-nothing (end-of end.1) ∙ reload-shown;
    }
