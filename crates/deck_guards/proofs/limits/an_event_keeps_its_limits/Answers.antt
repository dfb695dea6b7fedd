use Rattle.std.proofs.Common.{refl, [], ◌∷◌, inl, inr, arith}
use Rattle.schedule.specs.declared.event.Event.TheVariants as event
use Rattle.schedule.specs.declared.line.Line.TheVariants as line
use Rattle.deck_lines.specs.declared.event_saying.EventSaying.TheVariants as asked
use Rattle.deck_guards.proofs.Spelt.{bare_spelt, bare_within, none_spelt, two_lines}
use Rattle.deck_guards.proofs.limits.an_event_keeps_its_limits.Goals as goal

pub returns : goal.returns
returns c = record {
  tick =
      bare_spelt _ 3 (asked.Tick 2 ∷ asked.Tick 16 ∷ []) (line.One (event.Tick 2) ∷ line.One (event.Tick 16) ∷ []) refl
      (inl (refl, inl (refl, inl (refl, inl (refl, inl (refl, tt)))))) (refl, (refl, tt))
      (bare_within 3 (line.One (event.Tick 2) ∷ line.One (event.Tick 16) ∷ []) (omega arith) (omega arith)
      (two_lines 3 0 0 (line.One (event.Tick 2)) (line.One (event.Tick 16)) (inl (omega arith)) (inr refl))
      (omega arith) (omega arith));
  other_tick = none_spelt _ (λ processes. refl);
  fail = none_spelt _ (λ processes. refl);
  fail_of_the_terminals = none_spelt _ (λ processes. refl);
  reload =
      bare_spelt _ 3 (asked.Reload 2 ∷ asked.Fail 2 ∷ []) (line.One (event.Reload 2) ∷ line.One (event.Fail 2) ∷ [])
      refl
      (inl (refl, inl (refl, inl (refl, inl (refl, inl (refl, tt)))))) (refl, (refl, tt))
      (bare_within 3 (line.One (event.Reload 2) ∷ line.One (event.Fail 2) ∷ []) (omega arith) (omega arith)
      (two_lines 3 0 0 (line.One (event.Reload 2)) (line.One (event.Fail 2)) (omega arith) (omega arith))
      (omega arith) (omega arith));
  other_reload = none_spelt _ (λ processes. refl);
  reload_of_the_terminals = none_spelt _ (λ processes. refl);
  reload_often = none_spelt _ (λ processes. refl);
  mute = none_spelt _ (λ processes. refl);
  never = none_spelt _ (λ processes. refl);
}
