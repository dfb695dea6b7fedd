use Rattle.std.proofs.Common.{refl}
use Rattle.deck_guards.proofs.Spelt.{none_spelt_by}
use Rattle.deck_guards.proofs.names.drives_are_of_a_mirror.Goals as goal

pub returns : goal.returns
returns c = record {
  breaks = none_spelt_by _ refl (λ process processes. refl);
  revives = none_spelt_by _ refl (λ process processes. refl);
  copies = none_spelt_by _ refl (λ process processes. refl);
  copies_often = none_spelt_by _ refl (λ process processes. refl);
}
