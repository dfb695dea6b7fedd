use Rattle.std.proofs.Common.{refl, [], inl, arith}
use Rattle.deck_guards.proofs.Spelt.{bare_spelt, empty_within, none_spelt}
use Rattle.deck_guards.proofs.limits.processors_are_two_to_sixteen.Goals as goal

pub returns : goal.returns
returns c = record {
  one = none_spelt _ (λ processes. refl);
  most = bare_spelt _ 16 [] [] refl (inl (refl, inl (refl, inl (refl, tt)))) tt
      (empty_within 16 (omega arith) (omega arith));
  more = none_spelt _ (λ processes. refl);
}
