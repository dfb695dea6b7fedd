use Rattle.std.proofs.Common.{pos, [], ◌∷◌, arith}
use Rattle.world_semantics.specs.Examples.{adder_for, lost_take_events}
use Rattle.world_semantics.proofs.Played.{lost_take}
use Rattle.takeover_laws.proofs.Kept.{kept-possible, kept-shown}
use Rattle.accepted_sites.proofs.Accepted.{accepted-fit}
use Rattle.accepted_sites.proofs.Pairs.{adders-accepted}
use Rattle.accepted_sites.proofs.Placed.{adders-placed}
use Rattle.accepted_sites.proofs.guards.a_lost_take_of_the_adder_is_an_instance.Goals as goal

pub returns : goal.returns
returns c = record {
  run = (lost_take.0, lost_take.1);
  possible = λ w run. kept-possible (adder_for (pos 5 ∷ pos 7 ∷ []))
      (accepted-fit (adder_for (pos 5 ∷ pos 7 ∷ [])) (adders-accepted (pos 5 ∷ pos 7 ∷ []))
      (adders-placed (pos 5 ∷ pos 7 ∷ []))) lost_take_events w
      (omega arith) run;
  shown = λ w run. kept-shown (adder_for (pos 5 ∷ pos 7 ∷ []))
      (accepted-fit (adder_for (pos 5 ∷ pos 7 ∷ [])) (adders-accepted (pos 5 ∷ pos 7 ∷ []))
      (adders-placed (pos 5 ∷ pos 7 ∷ []))) lost_take_events w
      (omega arith) run;
}
