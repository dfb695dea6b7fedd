use Rattle.std.proofs.Common.{refl}
use Rattle.std.specs.Int.{int_wrap}
use Rattle.word_guards.proofs.words.a_product_wraps.Goals as goal

pub returns-clause-zero : goal.returns-clause-zero
unfolding int_wrap
returns-clause-zero c = refl

pub returns-clause-negative : goal.returns-clause-negative
unfolding int_wrap
returns-clause-negative c = refl
