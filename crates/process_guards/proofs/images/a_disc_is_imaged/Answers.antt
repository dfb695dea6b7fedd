use Rattle.std.proofs.Common.{refl}
use Rattle.std.specs.Int.{int_wrap}
use Rattle.process_guards.proofs.images.a_disc_is_imaged.Goals as goal

pub returns : goal.returns
unfolding int_wrap
returns c = record {
  take = refl;
  checkpoint = refl;
  device = refl;
  answer = refl;
  empty = refl;
}
