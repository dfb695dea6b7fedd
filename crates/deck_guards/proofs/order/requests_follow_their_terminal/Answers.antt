use Rattle.std.proofs.Common.{refl}
use Rattle.deck_guards.proofs.Spelt.{none_spelt}
use Rattle.deck_guards.proofs.order.requests_follow_their_terminal.Goals as goal

pub returns : goal.returns
returns c = record {
  alone = none_spelt _ (λ processes. refl);
  after_a_disc = none_spelt _ (λ processes. refl);
}
