use Rattle.std.proofs.Common.{pos, [], ◌∷◌, arith}
use Rattle.world_semantics.specs.Examples.{adder_for, takeover_events}
use Rattle.world_semantics.proofs.Played.{takeover}
use Rattle.takeover_laws.proofs.Kept.{kept-possible, kept-shown}
use Rattle.accepted_sites.proofs.Accepted.{accepted-fit}
use Rattle.accepted_sites.proofs.Pairs.{adders-accepted}
use Rattle.accepted_sites.proofs.Placed.{adders-placed}
use Rattle.accepted_sites.proofs.guards.a_takeover_of_the_adder_is_an_instance.Goals as goal

pub returns : goal.returns
returns c = record {
  run = (takeover.0, takeover.1);
  possible = λ w run. kept-possible (adder_for (pos 5 ∷ []))
      (accepted-fit (adder_for (pos 5 ∷ [])) (adders-accepted (pos 5 ∷ []))
      (adders-placed (pos 5 ∷ []))) takeover_events w (omega arith) run;
  shown = λ w run. kept-shown (adder_for (pos 5 ∷ []))
      (accepted-fit (adder_for (pos 5 ∷ [])) (adders-accepted (pos 5 ∷ []))
      (adders-placed (pos 5 ∷ []))) takeover_events w (omega arith) run;
}
