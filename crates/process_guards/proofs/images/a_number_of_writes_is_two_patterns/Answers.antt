use Rattle.std.proofs.Common.{refl}
use Rattle.std.specs.Int.{int_wrap}
use Rattle.process_guards.proofs.images.a_number_of_writes_is_two_patterns.Goals as goal

pub returns : goal.returns
unfolding int_wrap
returns c = record {
  most = refl;
  half = refl;
  most_restored = refl;
  half_restored = refl;
}
