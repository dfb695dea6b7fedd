use Rattle.std.proofs.Common.{refl}
use Rattle.deck_guards.proofs.Spelt.{none_spelt}
use Rattle.deck_guards.proofs.order.a_program_has_a_point.Goals as goal

pub returns : goal.returns
returns c = record {
  none = none_spelt _ (λ processes. refl);
  with_a_space = none_spelt _ (λ processes. refl);
}
