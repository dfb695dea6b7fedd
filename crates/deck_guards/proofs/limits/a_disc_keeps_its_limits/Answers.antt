use Rattle.std.proofs.Common.{refl}
use Rattle.deck_guards.proofs.Spelt.{none_spelt}
use Rattle.deck_guards.proofs.limits.a_disc_keeps_its_limits.Goals as goal

pub returns : goal.returns
returns c = record {
  same = none_spelt _ (λ processes. refl);
  primary = none_spelt _ (λ processes. refl);
  backup = none_spelt _ (λ processes. refl);
  none = none_spelt _ (λ processes. refl);
  more = none_spelt _ (λ processes. refl);
}
