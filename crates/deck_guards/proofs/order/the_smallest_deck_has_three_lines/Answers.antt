use Rattle.std.proofs.Common.{refl, [], inl, arith}
use Rattle.deck_guards.proofs.Spelt.{bare_spelt, empty_within}
use Rattle.deck_guards.proofs.order.the_smallest_deck_has_three_lines.Goals as goal

pub returns : goal.returns
returns c = record {
  lines = bare_spelt _ 2 [] [] refl (inl (refl, inl (refl, inl (refl, tt)))) tt
      (empty_within 2 (omega arith) (omega arith));
  cut = bare_spelt _ 2 [] [] refl (inl (refl, inl (refl, inl (refl, tt)))) tt
      (empty_within 2 (omega arith) (omega arith));
}
