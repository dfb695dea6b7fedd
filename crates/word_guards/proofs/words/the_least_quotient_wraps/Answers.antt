use Rattle.std.proofs.Common.{refl}
use Rattle.std.specs.Int.{int_wrap}
use Rattle.word_guards.proofs.words.the_least_quotient_wraps.Goals as goal

pub returns : goal.returns
unfolding int_wrap
returns c = refl
