use Rattle.std.proofs.Common.{refl}
use Rattle.deck_guards.proofs.Mirrors.{mirrored_spelt}
use Rattle.deck_guards.proofs.Spelt.{none_spelt}
use Rattle.deck_guards.proofs.limits.a_mirror_has_two_drives.Goals as goal

pub returns : goal.returns
returns c = record {
  both = mirrored_spelt;
  third = none_spelt _ (λ processes. refl);
  never = none_spelt _ (λ processes. refl);
  no_drive = none_spelt _ (λ processes. refl);
  broken_often = none_spelt _ (λ processes. refl);
}
