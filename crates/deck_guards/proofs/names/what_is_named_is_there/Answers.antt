use Rattle.std.proofs.Common.{refl}
use Rattle.deck_guards.proofs.Spelt.{none_spelt}
use Rattle.deck_guards.proofs.names.what_is_named_is_there.Goals as goal

pub returns : goal.returns
returns c = record {
  target = none_spelt _ (λ processes. refl);
  own_terminal = none_spelt _ (λ processes. refl);
  run = none_spelt _ (λ processes. refl);
  run_often = none_spelt _ (λ processes. refl);
  enter = none_spelt _ (λ processes. refl);
  drive = none_spelt _ (λ processes. refl);
}
