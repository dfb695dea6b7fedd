use Rattle.std.proofs.Common.{refl}
use Rattle.std.specs.Int.{int_wrap}
use Rattle.process_guards.proofs.images.a_disc_is_restored.Goals as goal

pub returns : goal.returns
unfolding int_wrap
returns c = record {
  take = refl;
  device = refl;
  answer = refl;
  empty = refl;
  not_in_hand = refl;
  reply_to_none = refl;
  too_long = refl;
  too_many = refl;
  too_few = refl;
}
