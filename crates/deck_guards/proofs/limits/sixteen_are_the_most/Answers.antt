use Rattle.std.proofs.Common.{refl}
use Rattle.deck_guards.proofs.Spelt.{none_spelt}
use Rattle.deck_guards.proofs.limits.sixteen_are_the_most.Goals as goal

pub returns : goal.returns
returns c = record {
  processes = none_spelt _ (λ processes. refl);
  terminals = none_spelt _ (λ processes. refl);
  words = none_spelt _ (λ processes. refl);
}
