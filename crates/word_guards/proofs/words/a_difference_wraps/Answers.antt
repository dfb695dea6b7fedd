use Rattle.std.proofs.Common.{refl}
use Rattle.std.specs.Int.{int_wrap}
use Rattle.word_guards.proofs.words.a_difference_wraps.Goals as goal

pub returns : goal.returns
unfolding int_wrap
returns c = refl
