use Rattle.std.proofs.Common.{refl}
use Rattle.deck_guards.proofs.Spelt.{none_spelt}
use Rattle.deck_guards.proofs.limits.a_mirror_keeps_the_limits_of_a_disc.Goals as goal

pub returns : goal.returns
returns c = record {
  same = none_spelt _ (λ processes. refl);
  backup = none_spelt _ (λ processes. refl);
  none = none_spelt _ (λ processes. refl);
  more = none_spelt _ (λ processes. refl);
  twice = none_spelt _ (λ processes. refl);
}
