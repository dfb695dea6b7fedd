use Rattle.std.proofs.Common.{refl}
use Rattle.deck_guards.proofs.Spelt.{none_spelt}
use Rattle.deck_guards.proofs.names.a_name_is_declared_once.Goals as goal

pub returns : goal.returns
returns c = record {
  processes = none_spelt _ (λ processes. refl);
  terminals = none_spelt _ (λ processes. refl);
  both = none_spelt _ (λ processes. refl);
}
