use Rattle.std.proofs.Common.{◌∙◌, pos, [], ◌∷◌, arith}
use Rattle.world_semantics.specs.Examples.{adder_for}
use Rattle.accepted_sites.proofs.Pairs.{adders-accepted}
use Rattle.idle_end.proofs.Reached.{end-of}
use Rattle.idle_end.proofs.Still.{none-left, closed-shows-nothing}
use Rattle.played_laws.specs.Takeover.{adder_end, takeover_to_the_end}
use Rattle.played_laws.proofs.Joined.{ends}
use Rattle.played_laws.proofs.Takeover.{adder-out, adder-played, adder-idle, adder-shown}
use Rattle.played_laws.proofs.guards.a_takeover_to_its_idle_end_is_an_instance.Goals as goal

pub returns : goal.returns
returns c =
    let end = ends (adder_for (pos 5 ∷ [])) (adders-accepted (pos 5 ∷ [])) adder-out takeover_to_the_end adder_end
    (omega arith) adder-played adder-idle in
    record {
      accepted = adders-accepted (pos 5 ∷ []);
      laid_out = adder-out;
      played = adder-played;
      idle = adder-idle;
      none = none-left (end-of end.1);
      shown = closed-shows-nothing (end-of end.1) ∙ adder-shown;
    }
