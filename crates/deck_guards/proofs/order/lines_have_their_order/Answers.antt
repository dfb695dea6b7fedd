use Rattle.std.proofs.Common.{refl}
use Rattle.deck_guards.proofs.Spelt.{none_spelt}
use Rattle.deck_guards.proofs.order.lines_have_their_order.Goals as goal

pub returns : goal.returns
returns c = record {
  no_line = none_spelt _ (λ processes. refl);
  no_processors = none_spelt _ (λ processes. refl);
  no_schedule = none_spelt _ (λ processes. refl);
  early_event = none_spelt _ (λ processes. refl);
  late_block = none_spelt _ (λ processes. refl);
  no_end = none_spelt _ (λ processes. refl);
  after_end = none_spelt _ (λ processes. refl);
}
