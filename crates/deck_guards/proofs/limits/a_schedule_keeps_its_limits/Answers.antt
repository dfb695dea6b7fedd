use Rattle.std.proofs.Common.{refl, [], ◌∷◌, inl, arith}
use Rattle.schedule.specs.declared.line.Line.TheVariants as line
use Rattle.deck_lines.specs.declared.event_saying.EventSaying.TheVariants as asked
use Rattle.deck_guards.proofs.Spelt.{bare_spelt, bare_within, none_spelt, two_lines}
use Rattle.deck_guards.proofs.limits.a_schedule_keeps_its_limits.Goals as goal

pub returns : goal.returns
returns c = record {
  events = none_spelt _ (λ processes. refl);
  rounds =
      bare_spelt _ 3 (asked.Drain 99999 ∷ asked.Mix 1 1 ∷ []) (line.Drain 99999 ∷ line.Mix 1 1 ∷ []) refl
      (inl (refl, inl (refl, inl (refl, inl (refl, inl (refl, tt)))))) (refl, (refl, tt))
      (bare_within 3 (line.Drain 99999 ∷ line.Mix 1 1 ∷ []) (omega arith) (omega arith)
      (two_lines 3 0 0 (line.Drain 99999) (line.Mix 1 1) tt tt) (omega arith) (omega arith));
  more_rounds = none_spelt _ (λ processes. refl);
}
